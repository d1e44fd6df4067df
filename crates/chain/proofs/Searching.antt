-- The search for a terminator: bytes that have none are passed, and then what is left of the search gives the answer.
use Rattle.std.proofs.Common.{◌≡◌, ◌≤◌, ◌+◌, ◌-◌, ℕ, zero, suc, List, [], ◌∷◌, ◌++◌, Bool, false, ◌||◌, Option, Some, None, add-zero, zero-add, length, take, drop, option_map, position, ◌%◌, ◌<◌, min, get_or, add-zero, suc-add, length-drop, length-append, refl, sym, ap, ◌∙◌, arith}
use Rattle.std.proofs.Math.Seq.{take-add, drop-append_seam, take-append_seam, drop-drop, take_all, get_or-take, get_or-drop, length-take-le}
use Rattle.std.proofs.lemmas.Bool.{or_parts}
use Rattle.std.proofs.lemmas.List.Folds.{list_any-append}
use Rattle.std.specs.List.{list_any, position_from}
use Rattle.std.proofs.lemmas.Iterator.Adapters.{position_from-zero}
use Rattle.std.specs.Option.{option_or}
use Rattle.std.proofs.lemmas.Bool.Decides.{nat_tests}
use borrow.Rule.Slice.PartMut.{mid_of, mid_len}
use Rattle.chain.specs.Chain.{places, byte_at, first_ff}
use Rattle.chain.specs.Inner.{is_ff}
use Rattle.chain.proofs.Laws.{straight}

-- of a test of two that fails both fail
pub neither : (a b : Bool) → (a || b) ≡ false → (a ≡ false) × (b ≡ false)
neither = or_parts

-- so many bytes are passed, none of which is FF, and the rest are still to come
pub record Passed (bytes rest : List ℕ) (passed : ℕ) : Type 0 where
  pub within : passed ≤ length bytes
  pub none : list_any is_ff (take passed bytes) ≡ false
  pub to_come : rest ≡ drop passed bytes

pub passed_more :
    {bytes rest more : List ℕ} {n : ℕ} (together : List ℕ) → Passed bytes rest n → rest ≡ together ++ more
    → list_any is_ff together ≡ false → Passed bytes more (n + length together)
passed_more {bytes} {rest} {more} {n} together p cut none =
    let left : drop n bytes ≡ together ++ more = sym p.to_come ∙ cut in
    record {
      within = omega (arith, p.within, length-drop n bytes, ap length left, length-append together more);
      none =
          rw (take-add n (length together) bytes, left, take-append_seam together more, list_any-append is_ff (take n bytes) together, p.none, none);
      to_come = sym (drop-append_seam together more) ∙ sym (ap (drop (length together)) left) ∙ drop-drop (length together) n bytes;
    }

-- a search that begins at a later place finds what it would find, and later
later_from :
    (l : List ℕ) (at k sum : ℕ) → sum ≡ at + k
    → position_from is_ff sum l ≡ option_map (λ n. at + n) (position_from is_ff k l)
later_from [] at k sum e = refl
later_from (x ∷ l) at k sum e = grind (arith, nat_tests, later_from l at (k + 1) (sum + 1) (omega arith))

position_later : (l : List ℕ) (at : ℕ) → position_from is_ff at l ≡ option_map (λ k. at + k) (position is_ff l)
position_later l at = rw (position_from-zero is_ff l) (later_from l at 0 at (omega arith))

-- bytes that have no FF are passed
position_passed :
    (l : List ℕ) (n at : ℕ) → n ≤ length l → list_any is_ff (take n l) ≡ false
    → position_from is_ff at l ≡ position_from is_ff (at + n) (drop n l)
position_passed l zero at within none = grind arith
position_passed [] (suc n) at within none = absurd (omega arith)
position_passed (x ∷ l) (suc n) at within none = grind (arith, nat_tests, position_passed l n (at + 1))

-- the bytes from one on
abbrev rest_of : (l : List ℕ) → (at : ℕ) → List ℕ
rest_of l at = take (length l - at) (drop at l)

-- two stretches are passed, one after the other
pub both_passed :
    (l : List ℕ) (m n : ℕ) {found : Option ℕ} → m ≤ length l → list_any is_ff (take m l) ≡ false
    → n ≤ length (rest_of l m) → list_any is_ff (take n (rest_of l m)) ≡ false → found ≡ position is_ff (rest_of l (m + n))
    → option_map (λ k. m + n + k) found ≡ position is_ff l
both_passed l m n within none more none_more is =
    let rest : (at : ℕ) → rest_of l at ≡ drop at l = λ at. take_all (length l - at) (drop at l) (omega (arith, length-drop at l)) in
    let first = position_passed l m 0 within none in
    let second = position_passed (drop m l) n m (rw rest at more) (rw rest at none_more) in
    let third = position_later (drop (m + n) l) (m + n) in
    rw (is, rest, ← third, ← drop-drop n m l, position_from-zero is_ff l, first, zero-add m, second)

or_none : (found : Option ℕ) → option_or found None ≡ found
or_none (Some cells) = refl
or_none None = refl

-- a part of memory, from so many cells after a start on
abbrev pub Part : (screen : List ℕ) → (start cells : ℕ) → List ℕ → Type 0
Part screen start cells l = (k : ℕ) → k < length l → get_or l k 0 ≡ byte_at screen (start + (cells + k))

-- a search through it either ends there, or goes on after it
through_a_part :
    (screen : List ℕ) (start cells more : ℕ) (l : List ℕ) → Part screen start cells l
    → first_ff screen start cells (length l + more)
    ≡ option_or (position_from is_ff cells l) (first_ff screen start (cells + length l) more)
unfolding first_ff
through_a_part screen start cells more [] is = rw (zero-add more, add-zero cells) refl
through_a_part screen start cells more (x ∷ l) is =
    let later : Part screen start (cells + 1) l = λ k h. grind (arith, is (suc k)) in
    let here : x ≡ byte_at screen (start + cells) = grind (arith, is 0) in
    rw (suc-add (length l) more)
    (grind (arith, nat_tests, through_a_part screen start (cells + 1) more l later))

-- the two parts of so many bytes of a row: `n` up to the end of memory, and the others from place 0 on
module _
    (screen : List ℕ)
    (start bytes n : ℕ)
    (long : length screen ≡ places)
    (under : start < places)
    (few : bytes ≤ places)
    (straight_on : n ≡ min bytes (places - start)) where
  abbrev pub one : List ℕ
  one = mid_of start (start + n - start) screen

  abbrev pub two : List ℕ
  two = take (bytes - n) screen

  pub one_long : length one ≡ n
  one_long = mid_len start (start + n) screen (omega (arith, long, straight_on)) ∙ omega arith

  pub two_long : length two ≡ bytes - n
  two_long = length-take-le (bytes - n) screen (omega (arith, long))

  pub one_is : Part screen start 0 one
  one_is k h =
      let less : k < n = omega (arith, one_long) in
      let same : start + k ≡ start + (0 + k) = omega arith in
      get_or-take (start + n - start) (drop start screen) k 0 (omega arith) ∙ get_or-drop start screen k 0
      ∙ straight screen (start + k) (omega (arith, straight_on)) ∙ ap (byte_at screen) same

  pub two_is : Part screen start n two
  unfolding byte_at
  two_is k h =
      let less : k < bytes - n = omega (arith, two_long) in
      let round : k ≡ (start + (n + k)) % places = omega (arith, straight_on) in
      get_or-take (bytes - n) screen k 0 (omega arith) ∙ ap (λ (p : ℕ). get_or screen p 0) round

  -- a search through the one, and then through the other
  pub found_in_two : {first second : Option ℕ} → first ≡ position is_ff one → second ≡ position is_ff two
      → option_or first (option_map (λ k. n + k) second) ≡ first_ff screen start 0 bytes
  unfolding first_ff
  found_in_two in_one in_two =
      let all : bytes ≡ length one + (length two + 0) = omega (arith, one_long, two_long, straight_on) in
      let through = through_a_part screen start 0 (length two + 0) one one_is in
      let to_two : 0 + length one ≡ n = omega (arith, one_long) in
      let on = through_a_part screen start n 0 two two_is in
      rw (all, through, to_two, on, in_one, in_two, position_from-zero is_ff one, position_later two n)
      (ap (option_or (position_from is_ff 0 one)) (sym (or_none (option_map (λ k. n + k) (position is_ff two)))))
