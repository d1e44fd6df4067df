-- Laws about the mended picture: its records, and that those ahead of f stay and are not marked.
use Prim.Native.Nat.{ℕ, zero, suc, ◌*◌, ◌≤◌, ◌<◌}
use mathlib.Core.Path.{◌≡◌, refl, ◌∙◌}
use mathlib.Core.List.{List, [], ◌∷◌}
use mathlib.Core.Bool.{Bool, true, false, cond, not, ◌&&◌, ◌||◌}
use native.Mathlib.Omega.{arith}
use lib.ListN.{length, get_or, take, drop, length-drop}
use lib.Seq.{take_all, length-take-le, drop-drop}
use lib.Dec.{eqb, ltb}
use Rattle.std.specs.Str.{bytes_eq}
use Rattle.std.proofs.lemmas.Slice.Eq.{bytes_eq-Decides}
use borrow.Author.Tests.{lt-ltb}
use borrow.Rule.Slice.PartMut.{mid_of}
use Rattle.lent.specs.Lengths.{picture_bytes}
use Rattle.chain.specs.Chain.{Chain, rows}
use Rattle.records.specs.Record.{record_bytes, record_pairs}
use Rattle.picture.specs.Picture.{record_at, record_in}
use Rattle.picture.proofs.Records.{records_length, record_in_order}
use Rattle.picture.proofs.Sizes.{records_sized}
use Rattle.mending.specs.Mending.{mended_record, mended, changed}

-- bytes are the same as themselves
pub same_self : (xs : List ℕ) → bytes_eq xs xs ≡ true
same_self xs = (bytes_eq-Decides xs xs).1 refl

-- bytes up to one more differ where those before it do, or it does
pub one_more :
    (xs ys : List ℕ) (n : ℕ) → n < length xs → n < length ys
    → not (bytes_eq (take (suc n) xs) (take (suc n) ys))
    ≡ (not (bytes_eq (take n xs) (take n ys)) || not (eqb (get_or xs n 0) (get_or ys n 0)))
one_more [] ys n h k = absurd (omega arith)
one_more (x ∷ xs) [] n h k = absurd (omega arith)
one_more (x ∷ xs) (y ∷ ys) zero h k = alone (eqb x y)
  where
    alone : (b : Bool) → not (b && true) ≡ (false || not b)
    alone true = refl
    alone false = refl
one_more (x ∷ xs) (y ∷ ys) (suc n) h k =
    go (eqb x y) (bytes_eq (take (suc n) xs) (take (suc n) ys)) (bytes_eq (take n xs) (take n ys))
    (not (eqb (get_or xs n 0) (get_or ys n 0))) (one_more xs ys n (omega arith) (omega arith))
  where
    go : (b more all one : Bool) → not more ≡ (not all || one) → not (b && more) ≡ (not (b && all) || one)
    go true more all one e = e
    go false more all one e = refl

-- bytes differ ahead of a place or from there on
cut :
    (n : ℕ) (xs ys : List ℕ) → n ≤ length xs → n ≤ length ys
    → not (bytes_eq xs ys) ≡ (not (bytes_eq (drop n xs) (drop n ys)) || not (bytes_eq (take n xs) (take n ys)))
cut zero xs ys h k = alone (bytes_eq xs ys)
  where
    alone : (b : Bool) → not b ≡ (not b || false)
    alone true = refl
    alone false = refl
cut (suc n) [] ys h k = absurd (omega arith)
cut (suc n) (x ∷ xs) [] h k = absurd (omega arith)
cut (suc n) (x ∷ xs) (y ∷ ys) h k =
    go (eqb x y) (bytes_eq xs ys) (not (bytes_eq (drop n xs) (drop n ys))) (bytes_eq (take n xs) (take n ys))
    (cut n xs ys (omega arith) (omega arith))
  where
    go : (b all rest first : Bool) → not all ≡ (rest || not first) → not (b && all) ≡ (rest || not (b && first))
    go true all rest first e = e
    go false all true first e = refl
    go false all false first e = refl

-- two records differ in one of three parts
pub in_parts :
    (kept drawn : List ℕ) → length kept ≡ record_bytes → length drawn ≡ record_bytes
    → {last first head : Bool} → last ≡ not (bytes_eq (mid_of 164 104 kept) (mid_of 164 104 drawn))
    → first ≡ not (bytes_eq (mid_of 4 160 kept) (mid_of 4 160 drawn))
    → head ≡ not (bytes_eq (take 4 kept) (take 4 drawn)) → ((last || first) || head) ≡ not (bytes_eq kept drawn)
in_parts kept drawn long as_long l f h =
    rw (
      l,
      f,
      h,
      take_all 104 (drop 164 kept) (simp length-drop (omega arith)),
      take_all 104 (drop 164 drawn) (simp length-drop (omega arith)),
      cut 4 kept drawn (omega arith) (omega arith),
      cut 160 (drop 4 kept) (drop 4 drawn) (simp length-drop (omega arith)) (simp length-drop (omega arith)),
      drop-drop 160 4 kept,
      drop-drop 160 4 drawn,
    )

module _ (c : Chain) (f : ℕ) (old : List ℕ) (wide : c.columns ≤ record_pairs) (long : length old ≡ picture_bytes) where
  record_sized : (row : ℕ) → row < rows → length (mended_record c f old row) ≡ record_bytes
  unfolding record_in
  record_sized row more = go (ltb row f)
    where
      go : (b : Bool) → length (cond b (take record_bytes (drop (row * record_bytes) old)) (record_at c row)) ≡ record_bytes
      go true = length-take-le record_bytes (drop (row * record_bytes) old) (simp length-drop (omega arith))
      go false = records_sized c row wide

  pub mended_sized : length (mended c f old) ≡ picture_bytes
  mended_sized = records_length (mended_record c f old) rows record_sized

  pub record_of_lem : (row : ℕ) → row < rows → record_in (mended c f old) row ≡ mended_record c f old row
  record_of_lem row more = record_in_order (mended_record c f old) rows row more record_sized

  pub record_stays : (row : ℕ) → row < rows → row < f → record_in (mended c f old) row ≡ record_in old row
  record_stays row more ahead = record_of_lem row more ∙ rw (lt-ltb row f ahead)

  pub unmarked : (row : ℕ) → row < rows → row < f → changed old (mended c f old) row ≡ false
  unmarked row more ahead = rw (record_stays row more ahead, same_self)
