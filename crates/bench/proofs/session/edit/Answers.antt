-- `bench::session::edit` meets its contract: the part of the input that is lent is the scheme.
use Rattle.bench.proofs.SessionLaws.{scheme-part, edit-part}
use Rattle.bench.proofs.session.edit.Goals as goal

pub returns : goal.returns
returns c =
    let edited = edit-part _ _ _ _ _ _ _ _ _ _ (scheme-part _ _ c.requires) c.edit.ensures in
    record { value = edited.0; table_after = edited.1.0; store_after = edited.1.1 }
