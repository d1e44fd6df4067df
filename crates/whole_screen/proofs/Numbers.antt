-- Laws about lines one after the other, and about the numbers of the lines of all rows.
use Prim.Native.Nat.{ℕ, zero, suc, ◌+◌, ◌-◌, ◌*◌, ◌/◌, ◌%◌, ◌≤◌, ◌<◌}
use mathlib.Core.Path.{◌≡◌, refl, sym, ap, ◌∙◌}
use mathlib.Core.List.{List, [], ◌∷◌, ◌++◌, append_assoc, append-nil}
use mathlib.Core.Bool.{Bool, true, false}
use native.Mathlib.Nat.{add-zero, add-suc, add_assoc}
use native.Mathlib.Omega.{arith}
use lib.ListN.{length, get_or, take, drop, get_or-append}
use lib.Seq.{get_or-append-add, take_at, drop_at}
use lib.Dec.{eqb}
use borrow.Author.Tests.{eqb-true, eqb-false}
use Rattle.picture.specs.Picture.{in_order}
use Rattle.picture.proofs.Records.{same_records, pieces_length}
use Rattle.whole_screen.specs.Screen.{lines_of, in_full}
use Rattle.whole_screen.specs.Inner.{lines_of_rows, numbered, Listed, lines_from}

pub pieces_split :
    (f : ℕ → List ℕ) (m n : ℕ) → in_order f (m + n) ≡ in_order f m ++ in_order (λ k. f (m + k)) n
unfolding in_order
pieces_split f m zero = rw (add-zero m) (sym (append-nil (in_order f m)))
pieces_split f m (suc n) =
    rw (add-suc m n, pieces_split f m n) (append_assoc (in_order f m) (in_order (λ k. f (m + k)) n) (f (m + n)))

-- the line that stands at a place of a list of lines
module _ (f g : ℕ → ℕ) where
  abbrev pub entry : ℕ → List ℕ
  entry line = f line ∷ g line ∷ []

  pub entries_length : (n : ℕ) → length (in_order entry n) ≡ n * 2
  entries_length n = pieces_length entry 2 n (λ k h. refl)

  abbrev pub Entry : (n line : ℕ) → Type 0
  Entry n line = (get_or (in_order entry n) (2 * line) 0 ≡ f line) × (get_or (in_order entry n) (2 * line + 1) 0 ≡ g line)

  pub entry_at : (n line : ℕ) → line < n → Entry n line
  unfolding in_order
  entry_at zero line h = absurd (omega arith)
  entry_at (suc n) line h = go (eqb line n) refl (entry_at n line)
    where
      long : length (in_order entry n) ≡ n * 2
      long = entries_length n

      go : (b : Bool) → eqb line n ≡ b → (line < n → Entry n line) → Entry (suc n) line
      go true e earlier =
          let last : line ≡ n = eqb-true line n e in
          let first : 2 * line ≡ length (in_order entry n) + 0 = omega (arith, long) in
          let second : 2 * line + 1 ≡ length (in_order entry n) + 1 = omega (arith, long) in (
            rw first (get_or-append-add (in_order entry n) (entry n) 0 0 ∙ ap f (sym last)),
            rw second (get_or-append-add (in_order entry n) (entry n) 1 0 ∙ ap g (sym last)),
          )
      go false e earlier =
          let other : (line ≡ n → ⊥) = eqb-false line n e in
          let there = earlier (omega (arith, other)) in (
            get_or-append (in_order entry n) (entry n) 0 (2 * line) (omega (arith, long, other)) ∙ there.0,
            get_or-append (in_order entry n) (entry n) 0 (2 * line + 1) (omega (arith, long, other)) ∙ there.1,
          )

pub from_length : (number count : ℕ) → length (lines_from number count) ≡ 2 * count
from_length number count = entries_length (λ k. (number + k) / 10) (λ k. (number + k) % 10 + 1) count ∙ omega arith

-- lines from a number on, and then more
pub from_split :
    (number m n : ℕ) → lines_from number (m + n) ≡ lines_from number m ++ lines_from (number + m) n
from_split number m n =
    pieces_split (λ more. numbered (number + more)) m n
    ∙ ap (λ (l : List ℕ). lines_from number m ++ l)
    (same_records (λ k. numbered (number + (m + k))) (λ k. numbered (number + m + k)) n
    (λ k h. ap numbered (sym (add_assoc number m k))))

-- the lines of a row are those of its numbers
pub of_a_row :
    (row top count number : ℕ) → top + count ≤ 10 → number ≡ row * 10 + top
    → lines_of row (1 + top) count ≡ lines_from number count
of_a_row row top count number h e =
    same_records (λ more. row ∷ (1 + top + more) ∷ []) (λ more. numbered (number + more)) count
    (λ more under.
    let a : (number + more) / 10 ≡ row = omega (arith, e) in
    let b : (number + more) % 10 + 1 ≡ 1 + top + more = omega (arith, e) in rw (a, b) refl)

-- rows in full
pub in_full_lem : (n : ℕ) → in_order in_full n ≡ lines_from 0 (n * 10)
unfolding in_order
in_full_lem zero = refl
in_full_lem (suc n) =
    let all : suc n * 10 ≡ n * 10 + 10 = omega arith in
    rw (all, in_full_lem n, from_split 0 (n * 10) 10)
    (ap (λ (l : List ℕ). lines_from 0 (n * 10) ++ l) (of_a_row n 0 10 (0 + n * 10) (omega arith) (omega arith)))

-- so many lines from a number on, cut out of all
pub lines_cut :
    (all : List ℕ) (from count : ℕ) → Listed all → from + count ≤ lines_of_rows
    → take (2 * count) (drop (2 * from) all) ≡ lines_from from count
unfolding Listed
lines_cut all from count is few =
    let rest = lines_of_rows - (from + count) in
    let whole : lines_of_rows ≡ from + (count + rest) = omega arith in
    let first : 0 + from ≡ from = omega arith in
    let on = is ∙ ap (lines_from 0) whole ∙ from_split 0 from (count + rest) in
    ap (λ (l : List ℕ). take (2 * count) (drop (2 * from) l)) on
    ∙ ap (take (2 * count)) (drop_at (lines_from 0 from) (lines_from (0 + from) (count + rest)) (2 * from) (from_length 0 from))
    ∙ ap (take (2 * count)) (ap (λ (k : ℕ). lines_from k (count + rest)) first ∙ from_split from count rest)
    ∙ take_at (lines_from from count) (lines_from (from + count) rest) (2 * count) (from_length from count)
