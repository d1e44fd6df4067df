-- The pair that a record has for a column: of a cell, the bytes at its place; after the last cell, 20 and 0E.
use Prim.Native.Nat.{ℕ, zero, suc, ◌+◌, ◌-◌, ◌*◌, ◌%◌, ◌≤◌, ◌<◌}
use mathlib.Core.Path.{◌≡◌, refl, ap, ◌∙◌}
use mathlib.Core.List.{List, [], ◌∷◌, ◌++◌, append_assoc, append-nil}
use mathlib.Core.Bool.{Bool, true, false, cond}
use native.Mathlib.Omega.{arith}
use lib.ListN.{length, take, drop}
use lib.Seq.{drop-append-add, drop_at}
use lib.Dec.{eqb, ltb}
use borrow.Author.Tests.{eqb-true, eqb-false, ltb-true, ltb-false}
use Rattle.chain.specs.Chain.{Chain, Row as ARow, byte_at, row_at}
use Rattle.chain.proofs.Reading.{reads_at}
use Rattle.records.specs.Record.{record_pairs, cell_pairs, cells_shown, fill_pairs, head_of, header, count, record_of}
use Rattle.picture.specs.Picture.{in_order, record_at}
use Rattle.picture.proofs.Records.{pieces_length}
use Rattle.picture.proofs.Sizes.{cells_length, shown_fit}
use Rattle.explaining.specs.Shown.{pair_in}

-- pairs one after the other, and what follows them
module _ (f g : ℕ → ℕ) where
  abbrev pair : ℕ → List ℕ
  pair n = f n ∷ g n ∷ []

  pair_at : (n at : ℕ) (rest : List ℕ) → at < n → take 2 (drop (2 * at) (in_order pair n ++ rest)) ≡ pair at
  unfolding in_order
  pair_at zero at rest h = absurd (omega arith)
  pair_at (suc n) at rest h = go (eqb at n) refl (pair_at n at (pair n ++ rest))
    where
      go :
          (b : Bool) → eqb at n ≡ b → (at < n → take 2 (drop (2 * at) (in_order pair n ++ (pair n ++ rest))) ≡ pair at)
          → take 2 (drop (2 * at) (in_order pair n ++ pair n ++ rest)) ≡ pair at
      go true e earlier =
          let last = eqb-true at n e in
          let long : length (in_order pair n) ≡ 2 * at = pieces_length pair 2 n (λ k h. refl) ∙ omega arith in
          rw (append_assoc (in_order pair n) (pair n) rest, drop_at (in_order pair n) (pair n ++ rest) (2 * at) long, last)
      go false e earlier =
          rw (append_assoc (in_order pair n) (pair n) rest) (earlier (omega (arith, eqb-false at n e)))

cells_in_order :
    (screen attribute : List ℕ) (start n : ℕ)
    → cell_pairs screen attribute start n
    ≡ in_order (pair (λ k. byte_at screen (start + k)) (λ k. byte_at attribute (start + k) % 16)) n
unfolding cell_pairs in_order
cells_in_order screen attribute start zero = refl
cells_in_order screen attribute start (suc n) = rw (cells_in_order screen attribute start n)

fill_in_order : (n : ℕ) → fill_pairs n ≡ in_order (pair (λ k. 0x20) (λ k. 0x0E)) n
unfolding fill_pairs in_order
fill_in_order zero = refl
fill_in_order (suc n) = rw (fill_in_order n)

-- what a pair of a row's record shows
abbrev pub shown_at : Chain → ARow → (column : ℕ) → List ℕ
shown_at c row column =
    let place = (head_of row).start + column in
    cond (ltb column (cells_shown c row))
    (byte_at c.screen place ∷ byte_at c.attribute place % 16 ∷ [])
    (0x20 ∷ 0x0E ∷ [])

module _ (c : Chain) (row : ARow) (fits : cells_shown c row ≤ record_pairs) (column : ℕ) (under : column < record_pairs) where
  abbrev cells : ℕ
  cells = cells_shown c row

  abbrev shown : List ℕ
  shown = cell_pairs c.screen c.attribute (head_of row).start cells

  abbrev filled : List ℕ
  filled = fill_pairs (record_pairs - cells)

  in_pairs : (b : Bool) → ltb column cells ≡ b → take 2 (drop (2 * column) (shown ++ filled)) ≡ shown_at c row column
  in_pairs true h =
      rw (h, cells_in_order c.screen c.attribute (head_of row).start cells)
      (pair_at _ _ cells column filled (ltb-true column cells h))
  in_pairs false h =
      let most = ltb-false column cells h in
      let at : 2 * column ≡ length shown + 2 * (column - cells) =
      omega (arith, cells_length c.screen c.attribute (head_of row).start cells) in
      rw (
        h,
        at,
        drop-append-add shown filled (2 * (column - cells)),
        fill_in_order (record_pairs - cells),
        ← append-nil (in_order (pair (λ k. 0x20) (λ k. 0x0E)) (record_pairs - cells)),
      )
      (pair_at _ _ (record_pairs - cells) (column - cells) [] (omega arith))

  pub pair_shown : pair_in (record_of c row) column ≡ shown_at c row column
  unfolding record_of
  pair_shown =
      ap (take 2) (drop-append-add (header (head_of row) (count row)) (shown ++ filled) (2 * column))
      ∙ in_pairs (ltb column cells) refl

-- of a row of the chain
pub row_shows :
    (c : Chain) (row column : ℕ) → c.columns ≤ record_pairs → column < record_pairs
    → pair_in (record_at c row) column ≡ shown_at c (row_at c row) column
row_shows c row column wide under =
    let fits = shown_fit c (row_at c row) (reads_at c row) in pair_shown c (row_at c row) (omega arith) column under
