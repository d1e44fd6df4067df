-- The list is filled in parts.
use Prim.Native.Nat.{ℕ, ◌+◌, ◌-◌, ◌*◌, ◌/◌, ◌≤◌}
use mathlib.Core.Path.{◌≡◌, sym, ap, subst, ◌∙◌}
use mathlib.Core.List.{List, ◌++◌, append_assoc}
use native.Mathlib.Omega.{arith}
use lib.ListN.{length, take}
use lib.Seq.{take_all}
use borrow.Rule.Slice.PartMut.{mid_of, put_mid, mid_len, same_len_mid}
use Rattle.lent.specs.Lengths.{list_bytes}
use Rattle.lent.proofs.Parts.{part_put}
use Rattle.whole_screen.specs.Screen.{lines}
use Rattle.whole_screen.specs.Inner.{lines_from}
use Rattle.whole_screen.proofs.Numbers.{from_length}

-- a part of the list is lent, and comes back filled: from line `at` on and ahead of line `end`
module _ (list new : List ℕ) (at end number : ℕ) (some : at ≤ end) (room : 2 * end ≤ length list)
    (filled : new ≡ lines_from number (length (mid_of (2 * at) (2 * end - 2 * at) list) / 2)) where
  lent : length (mid_of (2 * at) (2 * end - 2 * at) list) ≡ 2 * end - 2 * at
  lent = mid_len (2 * at) (2 * end) list room

  part : new ≡ lines_from number (end - at)
  part =
      let half : length (mid_of (2 * at) (2 * end - 2 * at) list) / 2 ≡ end - at = omega (arith, lent) in
      filled ∙ ap (lines_from number) half

  long : length new ≡ 2 * end - 2 * at
  long = ap (λ (l : List ℕ). length l) part ∙ from_length number (end - at) ∙ omega arith

  pub part_back : length (put_mid (2 * at) (2 * end - 2 * at) list new) ≡ length list
  part_back = same_len_mid (2 * at) (2 * end - 2 * at) list new (long ∙ sym lent)

  pub part_filled :
      take (2 * end) (put_mid (2 * at) (2 * end - 2 * at) list new) ≡ take (2 * at) list ++ lines_from number (end - at)
  part_filled =
      let all : 2 * at + (2 * end - 2 * at) ≡ 2 * end = omega arith in
      subst (λ (n : ℕ). take n (put_mid (2 * at) (n - 2 * at) list new) ≡ take (2 * at) list ++ lines_from number (end - at)) all
      (part_put list (2 * at) (2 * end - 2 * at) (omega (arith, all)) new long ∙ ap (λ (l : List ℕ). take (2 * at) list ++ l) part)

-- three parts, one after the other, are the whole list
pub whole_filled :
    (list one two three : List ℕ) (a c n m k : ℕ) → length list ≡ list_bytes → a ≤ c → c ≤ lines
    → one ≡ lines_from n (length (mid_of 0 (2 * a - 0) list) / 2) → let first = put_mid 0 (2 * a - 0) list one in
    two ≡ lines_from m (length (mid_of (2 * a) (2 * c - 2 * a) first) / 2)
    → let second = put_mid (2 * a) (2 * c - 2 * a) first two in
    three ≡ lines_from k (length (mid_of (2 * c) (list_bytes - 2 * c) second) / 2)
    → put_mid (2 * c) (list_bytes - 2 * c) second three ≡ lines_from n a ++ (lines_from m (c - a) ++ lines_from k (lines - c))
whole_filled list one two three a c n m k same some few e f g =
    let first = put_mid 0 (2 * a - 0) list one in
    let second = put_mid (2 * a) (2 * c - 2 * a) first two in
    let third = put_mid (2 * c) (list_bytes - 2 * c) second three in
    let long : length first ≡ list_bytes = part_back list one 0 a n (omega arith) (omega (arith, same)) e ∙ same in
    let longer : length second ≡ list_bytes = part_back first two a c m some (omega (arith, long)) f ∙ long in
    let longest : length third ≡ list_bytes = part_back second three c lines k few (omega (arith, longer)) g ∙ longer in
    let whole = part_filled second three c lines k few (omega (arith, longer)) g in
    let none : a - 0 ≡ a = omega arith in
    sym (take_all list_bytes third (omega (arith, longest)))
    ∙ whole
    ∙ ap (λ (l : List ℕ). l ++ lines_from k (lines - c)) (part_filled first two a c m some (omega (arith, long)) f)
    ∙ ap (λ (l : List ℕ). (l ++ lines_from m (c - a)) ++ lines_from k (lines - c)) (part_filled list one 0 a n (omega arith) (omega (arith, same)) e ∙ ap (lines_from n) none)
    ∙ append_assoc (lines_from n a) (lines_from m (c - a)) (lines_from k (lines - c))
