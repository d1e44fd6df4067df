-- A law about pairs, of a record or of a list of lines.
use Prim.Native.Nat.{ℕ, suc, ◌+◌, ◌*◌, ◌<◌}
use mathlib.Core.Path.{◌≡◌}
use mathlib.Core.List.{List, [], ◌∷◌, ◌++◌, append_assoc}
use native.Mathlib.Omega.{arith}
use lib.ListN.{length, take, set, length-set}
use lib.Seq.{take-suc-set}

-- two bytes are stored after the pairs of bytes before them
pub two_stored :
    (l : List ℕ) (k a b : ℕ) → 2 * k + 1 < length l
    → take (2 * (k + 1)) (set (set l (2 * k) a) (2 * k + 1) b) ≡ take (2 * k) l ++ (a ∷ b ∷ [])
two_stored l k a b h =
    let two : 2 * (k + 1) ≡ suc (suc (2 * k)) = omega arith in
    let second : 2 * k + 1 ≡ suc (2 * k) = omega arith in
    let odd : suc (2 * k) < length (set l (2 * k) a) = simp length-set (omega arith) in
    rw (
      two,
      second,
      take-suc-set (set l (2 * k) a) (suc (2 * k)) b odd,
      take-suc-set l (2 * k) a (omega arith),
    )
    (append_assoc (take (2 * k) l) (a ∷ []) (b ∷ []))
