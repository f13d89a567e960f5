-- A session step by step: the parts of the input, the map that is open, and one edit after the other.
use Prim.Native.Nat.{ℕ, ◌+◌, ◌*◌, ◌-◌, ◌≤◌, ◌<◌}
use mathlib.Core.Path.{◌≡◌, refl, sym, ap, ap₂, ◌∙◌}
use mathlib.Core.Bool.{Bool, true, false, cond}
use mathlib.Core.List.{List}
use native.Mathlib.Numerals.{add-one}
use native.Mathlib.Omega.{arith}
use lib.Dec.{eqb}
use lib.ListN.{length, take, drop, replicate, length-replicate, replicate-append-replicate}
use lib.Seq.{take_at}
use Rattle.base.specs.Test.{◌and◌}
use Rattle.base.specs.Below.{count_below}
use Rattle.base.specs.Lists.{joined}
use Rattle.base.specs.Digits.{number_at}
use Rattle.base.proofs.BelowLaws.{count-step}
use Rattle.base.proofs.ListLaws.{joined_step}
use Rattle.model.specs.Map.{table_size}
use Rattle.model.specs.Calls.{zeros, sizes_ok, edit_answer, edit_table, edit_store}
use Rattle.bench.specs.Bench.{map_length, scheme_length, dart_line, dart_at, answer_at, map_bytes, scheme_bytes, map_dimension, map_slots}
use Rattle.bench.specs.Bench.{table_after}
use Rattle.model.specs.declared.Darts.{Darts}
use Rattle.model.specs.declared.Darts.TheVariants.{One}
use Rattle.model.specs.Answer.{Answer}
use Rattle.demands.proofs.OneOutcome.{answer_of, table_of_lem, store_of}
use Rattle.numbers.specs.Places.{Put}
use Rattle.numbers.proofs.PlaceLaws.{put_then}
use Rattle.demands.specs.Promises.{MapEdited}
use Rattle.program.specs.Opening.{most_slots, open_table, MapOpen}
use Rattle.program.proofs.OpeningLaws.{open_long, open_words}
use Rattle.bench.specs.Input.{Laid}
use Rattle.bench.specs.Session.{Stands, dart_lines}
use Rattle.bench.specs.declared.framing.Layout.{Layout}
use Rattle.bench.proofs.FramingLaws.{map-length, scheme-length}
use Rattle.bench.proofs.ShortLaws.{line-short}

-- ---- the parts of the input

module _ (b : List ℕ) (l : Layout) (k : Laid b l) where
  pub is-map : map_length b ≡ l.map
  is-map = map-length b l.map l.scheme l.darts k.map k.scheme k.darts

  pub is-scheme : scheme_length b ≡ l.scheme
  is-scheme = scheme-length b l.map l.scheme l.darts k.map k.scheme k.darts

  pub map-part : take (2 + l.map - 2) (drop 2 b) ≡ map_bytes b
  unfolding map_bytes
  map-part = ap (λ (j : ℕ). take j (drop 2 b)) (same ∙ sym is-map)
    where
      same : 2 + l.map - 2 ≡ l.map
      same = omega arith

  pub scheme-part : take (4 + l.map + l.scheme - (4 + l.map)) (drop (4 + l.map) b) ≡ scheme_bytes b
  unfolding scheme_bytes
  scheme-part = ap₂ (λ (i j : ℕ). take i (drop (4 + j) b)) (same ∙ sym is-scheme) (sym is-map)
    where
      same : 4 + l.map + l.scheme - (4 + l.map) ≡ l.scheme
      same = omega arith

  -- the reader comes to the k-th dart at its place
  pub dart-here : (j v : ℕ) → v ≡ number_at 2 b (6 + l.map + l.scheme + 2 * j) → v ≡ dart_at b j
  unfolding dart_at
  dart-here j v f =
      f ∙ ap₂ (λ (i m : ℕ). number_at 2 b (6 + i + m + 2 * j)) (sym is-map) (sym is-scheme)

-- ---- the map is open

module _ (b : List ℕ) (n N : ℕ) (m : MapOpen (map_bytes b) n N) where
  pub stands-long : (t s : List ℕ) → Stands b N 0 t s → length t ≡ table_size N
  unfolding table_after
  stands-long t s x = ap length x.table ∙ open_long (map_bytes b) n N m

  -- the session begins with the start of the table in which the file was opened, and with an empty store
  pub stands_open : (f t u s : List ℕ) (w : ℕ) → f ≡ map_bytes b → length t ≡ table_size most_slots → u ≡ open_table f t → w ≡ table_size N
      → s ≡ replicate (16 * N) 0 → Stands b N 0 (take w u) s
  unfolding table_after
  stands_open f t u s w e long g h store = record {
    table = ap₂ (λ (k : ℕ) (l : List ℕ). take k l) h (g ∙ ap (λ (l : List ℕ). open_table l t) e) ∙ open_words (map_bytes b) n N m t long;
    store = store;
  }

-- ---- an edit

pub edit-part : (n N : ℕ) (t s part scheme : List ℕ) (d : Darts) (r : Answer) (t' s' : List ℕ) → part ≡ scheme → MapEdited n N t s part d r t' s'
    → (r ≡ edit_answer n N t s scheme d) × ((t' ≡ edit_table n N t s scheme d) × (s' ≡ edit_store n N t s scheme d))
edit-part n N t s part scheme d r t' s' p x = (
  answer_of x ∙ ap (λ (y : List ℕ). edit_answer n N t s y d) p,
  (table_of_lem x ∙ ap (λ (y : List ℕ). edit_table n N t s y d) p, store_of x ∙ ap (λ (y : List ℕ). edit_store n N t s y d) p),
)

-- an empty store stays empty
blank-stays : (c : Bool) (i : ℕ) (s : List ℕ) → s ≡ replicate i 0 → cond c (zeros s) s ≡ replicate i 0
blank-stays true i s e = ap (λ (j : ℕ). replicate j 0) (ap length e ∙ length-replicate i 0)
blank-stays false i s e = e

-- the first k darts are edited, and their lines printed
pub record Going (b : List ℕ) (l : Layout) (N k : ℕ) (t s out₀ out : List ℕ) (at : ℕ) : Type 0 where
  pub stands : Stands b N k t s
  pub lines : Put out₀ 0 (dart_lines b k) out at
  pub short : at ≤ 23 * k

pub going_none : (b : List ℕ) (l : Layout) (N : ℕ) (t s out : List ℕ) → Stands b N 0 t s → Going b l N 0 t s out out 0
unfolding dart_lines joined
going_none b l N t s out x = record {
  stands = x;
  lines = record { bytes = refl; after = refl };
  short = omega arith;
}

module _ (b : List ℕ) (l : Layout) (laid : Laid b l) (n N : ℕ) (m : MapOpen (map_bytes b) n N) (k : ℕ) (t s out₀ out : List ℕ) (at : ℕ)
    (g : Going b l N k t s out₀ out at) (v : ℕ) (read : v ≡ number_at 2 b (6 + l.map + l.scheme + 2 * k)) where
  moved : {A : Type 0} (f : ℕ → ℕ → List ℕ → List ℕ → List ℕ → Darts → A)
      → f n N t s (scheme_bytes b) (One v)
      ≡ f (map_dimension b) (map_slots b) (table_after b k) (replicate (16 * map_slots b) 0) (scheme_bytes b) (One (dart_at b k))
  moved f =
      ap₂ (λ (x y : List ℕ). f n N x y (scheme_bytes b) (One v)) g.stands.table g.stands.store
      ∙ ap₂ (λ (i j : ℕ). f i j (table_after b k) (replicate (16 * j) 0) (scheme_bytes b) (One v)) m.named.dimension m.named.slots
      ∙ ap (λ (d : ℕ). f (map_dimension b) (map_slots b) (table_after b k) (replicate (16 * map_slots b) 0) (scheme_bytes b) (One d))
      (dart-here b l laid k v read)

  module _ (a : Answer) (edit : a ≡ edit_answer n N t s (scheme_bytes b) (One v)) (small : v < 65536) where
    line-few : length (dart_line v a) ≤ 23
    line-few = rw edit (line-short n N m.few t s (scheme_bytes b) v (omega arith))

    -- there is room for the line
    pub line-room : k < l.darts → 23 * l.darts ≤ length out → at + length (dart_line v a) ≤ length out
    line-room h r = omega (arith, line-few, g.short)

    pub going_more : (t' s' out' : List ℕ) (at' : ℕ)
        → t' ≡ edit_table n N t s (scheme_bytes b) (One v) → s' ≡ edit_store n N t s (scheme_bytes b) (One v)
        → Put out at (dart_line v a) out' at' → Going b l N (k + 1) t' s' out₀ out' at'
    unfolding dart_lines answer_at table_after edit_store
    going_more t' s' out' at' x y p = record {
      stands = record {
        table = rw (add-one k) (x ∙ moved edit_table);
        store = y ∙ blank-stays (sizes_ok n N t and eqb (length s) (16 * N)) (16 * N) s g.stands.store;
      };
      lines = rw (joined_step k (λ j. dart_line (dart_at b j) (answer_at b j)), ← line-is) (put_then _ _ _ _ _ _ _ _ g.lines p);
      short = omega (arith, p.after, g.short, line-few);
    }
      where
        line-is : dart_line v a ≡ dart_line (dart_at b k) (answer_at b k)
        line-is = ap₂ dart_line (dart-here b l laid k v read) (edit ∙ moved edit_answer)

-- ---- the slots of a state

pub tally_hit : (p : ℕ → Bool) (x found : ℕ) → p x ≡ true → found ≡ count_below x p → found + 1 ≡ count_below (x + 1) p
tally_hit p x found h e = rw (count-step x p, h, ← e) refl

pub tally_miss : (p : ℕ → Bool) (x found : ℕ) → p x ≡ false → found ≡ count_below x p → found ≡ count_below (x + 1) p
tally_miss p x found h e = rw (count-step x p, h, ← e) (omega arith)

-- ---- empty words

pub blank_part : (w m : ℕ) → w ≤ m → take {A = ℕ} w (replicate m 0) ≡ replicate w 0
blank_part w m h =
    let more : m ≡ w + (m - w) = omega arith in
    ap (λ (k : ℕ). take {A = ℕ} w (replicate k 0)) more ∙ ap (take {A = ℕ} w) (sym (replicate-append-replicate w (m - w) 0))
    ∙ take_at (replicate w 0) (replicate (m - w) 0) w (length-replicate w 0)

pub blank-length : (w m : ℕ) → w ≤ m → w ≡ length (take {A = ℕ} w (replicate m 0))
blank-length w m h = sym (ap (length {A = ℕ}) (blank_part w m h) ∙ length-replicate w 0)
