-- The map in a table.
use Rattle.model.specs.Map.{Map, view}
use Rattle.table.specs.declared.words.Table.{Table}

abbrev pub map_of : Table → Map
map_of t = view t.slots t.words.now
