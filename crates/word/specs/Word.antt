-- The answer as one word, for callers in C, and the way back.
use Rattle.std.specs.Prelude.{ℕ, ◌+◌, ◌*◌, ◌/◌, ◌%◌, ◌<◌, ◌≡◌, cond, get_or, ltb}
use Rattle.std.specs.Prelude.{Ok, Err}
use Rattle.model.specs.Answer.{Answer, refusal_number, refusal_values, refusal_of}
use Rattle.model.specs.Sequence.{Request, table_check, scheme_check, edit, count, load, write}
use Rattle.model.specs.declared.Refusal.{Refusal}
use Rattle.model.specs.declared.Reply.{Reply}
use Rattle.model.specs.declared.Reply.TheVariants.{Done, Edited, Written}
use Rattle.word.specs.declared.Named.{Named}

-- value k of a refusal, 0 where it has not so many
abbrev pub value_of : Refusal → ℕ → ℕ
value_of f k = get_or (refusal_values f) k 0

-- r has the number and the values of the refusal f
pub record NamedBy (f : Refusal) (r : Named) : Type 0 where
  pub number : r.number ≡ refusal_number f
  pub node : r.node ≡ value_of f 0
  pub i : r.i ≡ value_of f 1
  pub j : r.j ≡ value_of f 2

-- bit 63 is set; the number, the node, i and j take a byte each
abbrev pub refused : ℕ → ℕ → ℕ → ℕ → ℕ
refused k node i j = 9223372036854775808 + k + node * 256 + i * 65536 + j * 16777216

-- where the call is done bit 63 is clear: the three counts of an edit take 21 bits each, and the length of a file takes them all
abbrev pub packed : Answer → ℕ
packed (Ok Done) = 0
packed (Ok (Edited orbit added deleted)) = orbit + added * 2097152 + deleted * 4398046511104
packed (Ok (Written size)) = size
packed (Err f) = refused (refusal_number f) (value_of f 0) (value_of f 1) (value_of f 2)

-- what a refusal names fits a byte
abbrev pub SmallRefusal : Refusal → Type 0
SmallRefusal f = (value_of f 0 < 256) × (value_of f 1 < 256) × (value_of f 2 < 256)

-- what an answer returns fits its place in the word
abbrev pub Small : Answer → Type 0
Small (Ok Done) = Unit
Small (Ok (Edited orbit added deleted)) = (orbit < 2097152) × (added < 2097152) × (deleted < 2097152)
Small (Ok (Written size)) = size < 9223372036854775808
Small (Err f) = SmallRefusal f

-- ---- back

-- what a request that is done has returned, by its word
abbrev pub done_back : Request → ℕ → Reply
done_back table_check w = Done
done_back (scheme_check b) w = Done
done_back (edit b D) w = Edited (w % 2097152) (w / 2097152 % 2097152) (w / 4398046511104 % 2097152)
done_back count w = Done
done_back (load b) w = Done
done_back write w = Written w

unfoldable pub unpacked : Request → ℕ → Answer
unpacked q w = cond (ltb w 9223372036854775808) (Ok (done_back q w))
    (Err (refusal_of (w % 256) (w / 256 % 256) (w / 65536 % 256) (w / 16777216 % 256)))
