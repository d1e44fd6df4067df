-- The pairs of a row's cells, in one part of memory or in two.
use Rattle.std.proofs.Common.{◌≡◌, ◌<◌, ◌≤◌, ◌+◌, ◌-◌, ◌*◌, ◌%◌, min, ℕ, zero, suc, List, ◌++◌, length, get_or, take, drop, set, refl, sym, ap, ◌∙◌, add-one, add-suc, arith}
use Rattle.std.proofs.lemmas.Grind.{common_steps}
use borrow.Rule.Slice.PartMut.{put_mid, mid_of}
use Rattle.chain.specs.Chain.{places}
use Rattle.chain.proofs.Searching.{Part, one_is, two_is, one_long, two_long}
use Rattle.records.specs.Record.{record_pairs, cell_pairs}
use Rattle.records.specs.Inner.{pairs_in}

-- the pair of a cell more is put
pub one_put :
    (characters attributes pairs : List ℕ) (cell : ℕ) → take (2 * cell) pairs ≡ pairs_in characters attributes cell
    → 2 * cell + 1 < length pairs
    → take (2 * (cell + 1)) (set (set pairs (2 * cell) (get_or characters cell 0)) (2 * cell + 1) (get_or attributes cell 0 % 16))
    ≡ pairs_in characters attributes (cell + 1)
unfolding pairs_in
one_put characters attributes pairs cell so_far room = rw (add-one cell) (grind (arith, common_steps))

-- the pairs of a part of the two memories are those of the cells there
module _
    (screen attribute : List ℕ)
    (start cells : ℕ)
    (characters attributes : List ℕ)
    (s : Part screen start cells characters)
    (a : Part attribute start cells attributes)
    (same : length attributes ≡ length characters) where
  part_pairs :
      (n : ℕ) → n ≤ length characters
      → cell_pairs screen attribute start (cells + n)
      ≡ cell_pairs screen attribute start cells ++ pairs_in characters attributes n
  unfolding cell_pairs pairs_in
  part_pairs zero few = grind (arith, common_steps)
  part_pairs (suc n) few = rw (add-suc cells n) (grind (arith, common_steps, part_pairs n, s n, a n))

pairs_long : (characters attributes : List ℕ) (n : ℕ) → length (pairs_in characters attributes n) ≡ 2 * n
unfolding pairs_in
pairs_long characters attributes zero = refl
pairs_long characters attributes (suc n) = grind (arith, common_steps, pairs_long characters attributes n)

-- some bytes are put, and then more after them
put_after :
    (first more pairs : List ℕ) (a b : ℕ) → length first ≡ a → a ≤ b
    → put_mid a (b - a) (first ++ drop a pairs) more ≡ (first ++ more) ++ drop b pairs
put_after first more pairs a b long later = grind (arith, common_steps)

-- the pairs of a row's cells in their two parts: of `n` cells up to the end of memory, and of the others from place 0 on
module _
    (screen attribute pairs : List ℕ)
    (start cells n : ℕ)
    (s : length screen ≡ places)
    (a : length attribute ≡ places)
    (under : start < places)
    (few : cells ≤ record_pairs)
    (straight_on : n ≡ min cells (places - start)) where
  fits : cells ≤ places
  fits = omega (arith, few)

  abbrev ones : List ℕ → List ℕ
  ones memory = mid_of start (start + n - start) memory

  abbrev twos : List ℕ → List ℕ
  twos memory = take (cells - n) memory

  ones_long : (memory : List ℕ) → length memory ≡ places → length (ones memory) ≡ n
  ones_long memory long = one_long memory start cells n long under fits straight_on

  twos_long : (memory : List ℕ) → length memory ≡ places → length (twos memory) ≡ cells - n
  twos_long memory long = two_long memory start cells n long under fits straight_on

  module _ {first : List ℕ} (is : first ≡ pairs_in (ones screen) (ones attribute) (length (ones screen))) where
    first_is : first ≡ cell_pairs screen attribute start n
    unfolding cell_pairs
    first_is =
        let pairs = part_pairs screen attribute start 0 (ones screen) (ones attribute) (one_is screen start cells n s under fits straight_on)
        (one_is attribute start cells n a under fits straight_on) (ones_long attribute a ∙ sym (ones_long screen s))
        (length (ones screen)) (omega arith) in
        let all : 0 + length (ones screen) ≡ n = omega (arith, ones_long screen s) in
        is ∙ sym pairs ∙ ap (cell_pairs screen attribute start) all

    first_long : length first ≡ 2 * n
    first_long =
        ap length is ∙ pairs_long (ones screen) (ones attribute) (length (ones screen)) ∙ ap (λ (k : ℕ). 2 * k) (ones_long screen s)

    -- a row that ends before memory does is one part
    pub straight_put : first ++ drop (2 * n) pairs ≡ cell_pairs screen attribute start n ++ drop (2 * n) pairs
    straight_put = ap (λ (l : List ℕ). l ++ drop (2 * n) pairs) first_is

    pub round_put :
        {more : List ℕ} → more ≡ pairs_in (twos screen) (twos attribute) (length (twos screen))
        → put_mid (2 * n) (2 * cells - 2 * n) (first ++ drop (2 * n) pairs) more
        ≡ cell_pairs screen attribute start cells ++ drop (2 * cells) pairs
    round_put {more} more_is =
        let both =
        part_pairs screen attribute start n (twos screen) (twos attribute) (two_is screen start cells n s under fits straight_on)
        (two_is attribute start cells n a under fits straight_on) (twos_long attribute a ∙ sym (twos_long screen s))
        (length (twos screen)) (omega arith) in
        let all : n + length (twos screen) ≡ cells = omega (arith, twos_long screen s, straight_on) in
        put_after first more pairs (2 * n) (2 * cells) first_long (omega (arith, straight_on))
        ∙ rw (more_is, first_is, ← both, all)
