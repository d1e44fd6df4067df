-- Laws about records one after the other: how long they are, which is which, and that a picture is its records.
use Prim.Native.Nat.{ℕ, zero, suc, ◌+◌, ◌-◌, ◌*◌, ◌≤◌, ◌<◌}
use mathlib.Core.Path.{◌≡◌, refl}
use mathlib.Core.List.{List, ◌++◌}
use mathlib.Core.Bool.{Bool, true, false}
use native.Mathlib.Nat.{zero-mul, suc-mul}
use native.Mathlib.Omega.{arith}
use Rattle.std.proofs.lemmas.Grind.{common_steps}
use lib.ListN.{length, take, drop, length-drop}
use lib.Seq.{take_all, take-add, take-append-le, drop-append-le, drop_at}
use lib.Dec.{eqb}
use borrow.Author.Tests.{eqb-true, eqb-false}
use borrow.Rule.Slice.PartMut.{mid_of, put_mid}
use Rattle.lent.specs.Lengths.{picture_bytes}
use Rattle.chain.specs.Chain.{rows}
use Rattle.records.specs.Record.{record_bytes}
use Rattle.picture.specs.Picture.{in_order, record_in}
use Rattle.lent.proofs.Parts.{part_lent, part_left}

-- the same records one after the other
pub same_records :
    (f g : ℕ → List ℕ) (n : ℕ) → ((row : ℕ) → row < n → f row ≡ g row) → in_order f n ≡ in_order g n
unfolding in_order
same_records f g zero same = refl
same_records f g (suc n) same = grind (arith, same_records f g n (λ row h. same row (omega arith)), same n)

-- the first records of a picture are its first bytes
pub own_records : (picture : List ℕ) (n : ℕ) → in_order (record_in picture) n ≡ take (n * record_bytes) picture
unfolding in_order record_in
own_records picture zero = refl
own_records picture (suc n) =
    grind (arith, common_steps, own_records picture n, suc-mul n record_bytes, take-add (n * record_bytes) record_bytes picture)

-- so many of one size
pub pieces_length :
    (f : ℕ → List ℕ) (size n : ℕ) → ((k : ℕ) → k < n → length (f k) ≡ size) → length (in_order f n) ≡ n * size
unfolding in_order
pieces_length f size zero sized = rw (zero-mul size) refl
pieces_length f size (suc n) sized =
    grind (arith, common_steps, pieces_length f size n (λ k h. sized k (omega arith)), sized n, suc-mul n size)

module _ (f : ℕ → List ℕ) where
  abbrev pub Sized : ℕ → Type 0
  Sized n = (row : ℕ) → row < n → length (f row) ≡ record_bytes

  pub records_length : (n : ℕ) → Sized n → length (in_order f n) ≡ n * record_bytes
  records_length n sized = pieces_length f record_bytes n sized

  -- a row's record among them is its own
  pub record_in_order : (n row : ℕ) → row < n → Sized n → record_in (in_order f n) row ≡ f row
  unfolding in_order record_in
  record_in_order zero row h sized = absurd (omega arith)
  record_in_order (suc n) row h sized =
      go (eqb row n) refl (records_length n (λ r g. sized r (omega arith))) (record_in_order n row)
    where
      before : Sized n
      before r g = sized r (omega arith)

      go :
          (b : Bool) → eqb row n ≡ b → length (in_order f n) ≡ n * record_bytes
          → (row < n → Sized n → take record_bytes (drop (row * record_bytes) (in_order f n)) ≡ f row)
          → take record_bytes (drop (row * record_bytes) (in_order f n ++ f n)) ≡ f row
      go true e long earlier =
          rw (eqb-true row n e, drop_at (in_order f n) (f n) (n * record_bytes) long)
          (take_all record_bytes (f n) (omega (arith, sized n (omega arith))))
      go false e long earlier =
          let other : (row ≡ n → ⊥) = eqb-false row n e in
          let under : row < n = omega (arith, other) in
          let left = drop (row * record_bytes) (in_order f n) in
          let room : record_bytes ≤ length left = simp length-drop (omega (arith, long)) in
          rw (
            drop-append-le (row * record_bytes) (in_order f n) (f n) (omega (arith, long)),
            take-append-le record_bytes left (f n) room,
          )
          (earlier under before)

-- the record of a row is lent, and something of its length comes back
module _ (picture : List ℕ) (row : ℕ) (long : length picture ≡ picture_bytes) (more : row < rows) where
  room : row * record_bytes + record_bytes ≤ length picture
  room = omega arith

  pub record_lent :
      length (mid_of (row * record_bytes) (row * record_bytes + record_bytes - row * record_bytes) picture) ≡ record_bytes
  record_lent = part_lent picture (row * record_bytes) record_bytes room

module _
    (picture new : List ℕ)
    (row : ℕ)
    (long : length picture ≡ picture_bytes)
    (more : row < rows)
    (same : length new ≡ record_bytes) where
  pub record_back :
      length (put_mid (row * record_bytes) (row * record_bytes + record_bytes - row * record_bytes) picture new) ≡ picture_bytes
  record_back = grind (arith, common_steps)

  -- it comes after the records before it, and ahead of those after it
  pub record_put :
      take ((row + 1) * record_bytes) (put_mid (row * record_bytes) (row * record_bytes + record_bytes - row * record_bytes) picture new)
      ≡ take (row * record_bytes) picture ++ new
  record_put = grind (arith, common_steps)

  pub record_left :
      drop ((row + 1) * record_bytes) (put_mid (row * record_bytes) (row * record_bytes + record_bytes - row * record_bytes) picture new)
      ≡ drop ((row + 1) * record_bytes) picture
  record_left =
      let after : (row + 1) * record_bytes ≡ row * record_bytes + record_bytes = omega arith in
      rw after (part_left picture (row * record_bytes) record_bytes (room picture row long more) new same)
