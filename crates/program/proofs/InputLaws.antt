-- What a read puts behind the bytes that were read before.
use Prim.Native.Nat.{ℕ, ◌+◌, ◌-◌, ◌≤◌}
use mathlib.Core.Path.{◌≡◌, ap, ◌∙◌}
use mathlib.Core.List.{List, ◌++◌}
use lib.ListN.{length, take, drop}
use lib.Seq.{take-add, take-append-le, length-take-le}
use borrow.Rule.Slice.PartMut.{put_mid, post_of, take_put}
use Rattle.std.proofs.Common.{drop_at}

-- the first n bytes of b stand behind the first k bytes of l
pub take_behind : (k n : ℕ) (l b : List ℕ) → k ≤ length l → n ≤ length b → take (k + n) (put_mid k (length l - k) l b) ≡ take k l ++ take n b
take_behind k n l b within fits =
    let after = post_of k (length l - k) l in
    let put = put_mid k (length l - k) l b in
    take-add k n put ∙ ap (λ (f : List ℕ). f ++ take n (drop k put)) (take_put k (length l - k) l b within)
    ∙ ap (λ (r : List ℕ). take k l ++ take n r) (drop_at (take k l) (b ++ after) k (length-take-le k l within))
    ∙ ap (λ (r : List ℕ). take k l ++ r) (take-append-le n b after fits)
