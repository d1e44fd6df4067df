-- What a desk sees that stores where it was told to: the statement of specs/Desk.antt.
use Prim.Native.Nat.{ℕ, ◌+◌, ◌≤◌, ◌<◌}
use mathlib.Core.Path.{◌≡◌, refl, sym, ap, subst, ◌∙◌}
use Rattle.std.specs.Prelude.{Some, Ok, Err}
use mathlib.Core.List.{List}
use mathlib.Core.Bool.{Bool, true, false, not, cond, ◌&&◌}
use native.Mathlib.Nat.{mod-lt}
use native.Mathlib.Omega.{arith}
use lib.ListN.{length}
use lib.Dec.{eqb}
use borrow.Author.Tests.{not-false}
use Rattle.lent.specs.Lengths.{screen_bytes, attribute_bytes}
use Rattle.lent.specs.Refusals.{refuses, place_refused}
use Rattle.lent.proofs.Order.{passed}
use Rattle.memories.specs.View8088.{seen_8088}
use Rattle.memories.specs.declared.view8088.Seen.TheVariants.{Screen as InScreen}
use Rattle.memories.proofs.Laws.{inside, over, lent_8088, accepted_right, is_accepted}
use Rattle.chain.specs.Chain.{Chain, places, rows, row_at}
use Rattle.chain.proofs.Laws.{straight}
use Rattle.chain.proofs.Reading.{reads_at}
use Rattle.records.specs.Record.{record_pairs}
use Rattle.picture.specs.Picture.{record_at, picture_of, record_in}
use Rattle.picture.specs.Draw.{chain_of}
use Rattle.picture.proofs.Laws.{columns_fit}
use Rattle.picture.proofs.Records.{record_in_order}
use Rattle.picture.proofs.Sizes.{shown_fit, records_sized}
use Rattle.mending.specs.Store.{lengths_with_picture, StoredWithPicture, store_with_picture}
use Rattle.mending.specs.True.{TruePicture}
use Rattle.mending.proofs.Outcome.{lent_with_picture, refused_outcome, mended_outcome}
use Rattle.mending.proofs.True.{keeps_true}
use Rattle.readers.specs.Stored.{chain_stored}
use Rattle.explaining.specs.Explain.{why}
use Rattle.explaining.specs.Call.{on_screen, refusal_explain}
use Rattle.explaining.specs.Shown.{Shows}
use Rattle.explaining.specs.Desk.{Told}
use Rattle.explaining.specs.declared.Why.TheVariants.{Cell}
use Rattle.explaining.proofs.Laws.{on_screen_lem}
use Rattle.explaining.proofs.Shown.{holds_as, shows_what_it_says}
use Rattle.explaining.proofs.Desk.{desk_promise}
use Rattle.runs.specs.World.{Shared, Screen, Attribute, Picture, World}
use Rattle.runs.specs.Desk.{Asked, DeskSeesIt}
use Rattle.runs.proofs.Worlds.{picture_refusal}
use Rattle.runs.proofs.Kept.{drawable_too}

-- the 8088 sees a place of screen memory at its address
at_screen : (place : ℕ) → place < places → seen_8088 (0xEE000 + place) ≡ Some (InScreen place)
unfolding seen_8088
at_screen place h =
    rw (
      over 0x00000 0x0FFFF (0xEE000 + place) (omega arith),
      inside 0xEE000 0xEEFFF (0xEE000 + place) (omega arith) (omega arith),
    )
    (ap (λ (at : ℕ). Some (InScreen at)) (omega arith))

module _ (w : World) (row column place byte : ℕ) (a : Asked w row column place byte) where
  abbrev before : Chain
  before = chain_of w.machine (w.bytes Screen) (w.bytes Attribute)

  abbrev refusal : ℕ
  refusal = refusal_explain (w.bytes Screen) (w.bytes Attribute) row column

  asked : (row < rows) × (why before row column ≡ Cell place a.kind a.led)
  asked = go (refuses refusal) refl a.named
    where
      go :
          (b : Bool) → refuses refusal ≡ b → cond b (Err refusal) (Ok (why before row column)) ≡ Ok (Cell place a.kind a.led)
          → (row < rows) × (why before row column ≡ Cell place a.kind a.led)
      go true h e = let z : ◌≡◌ {A = ℕ} 0 1 = cc in absurd (omega arith)
      go false h e =
          let both =
          passed (eqb (length (w.bytes Screen)) screen_bytes && eqb (length (w.bytes Attribute)) attribute_bytes) (not (on_screen row column)) place_refused
          (λ e. omega (arith, e)) (is_accepted refusal h) in
          ((on_screen_lem row column (not-false _ both.1)).0, cc)

  within : place < places
  within =
      let cell = holds_as before row column asked.0 asked.1 in
      rw cell.at (mod-lt (cell.head.start + column) (omega arith))

  abbrev address : ℕ
  address = 0xEE000 + place

  abbrev left : StoredWithPicture
  left = store_with_picture w.machine (w.bytes Shared) (w.bytes Screen) (w.bytes Attribute) (w.bytes Picture) address byte

  -- the store is accepted, so the lengths are right and the picture is true
  not_refused : refuses (picture_refusal address w) ≡ false
  not_refused = go (refuses (picture_refusal address w)) refl
    where
      go : (b : Bool) → refuses (picture_refusal address w) ≡ b → b ≡ false
      go true h =
          let outcome = refused_outcome w.machine (w.bytes Shared) (w.bytes Screen) (w.bytes Attribute) (w.bytes Picture) address byte h in
          sym h ∙ ap refuses (sym (ap (λ (l : StoredWithPicture). l.answer.refusal) outcome) ∙ a.accepts)
      go false h = refl

  lengths : lengths_with_picture (length (w.bytes Shared)) (length (w.bytes Screen)) (length (w.bytes Attribute)) (length (w.bytes Picture)) ≡ true
  lengths = (accepted_right w.machine _ address not_refused).0

  is_true : TruePicture w.machine (w.bytes Shared) (w.bytes Screen) (w.bytes Attribute) (w.bytes Picture)
  is_true =
      let drawn = drawable_too (length (w.bytes Shared)) (length (w.bytes Screen)) (length (w.bytes Attribute)) (length (w.bytes Picture)) lengths in
      record { lengths = lengths; fresh = sym (rw drawn at a.kept) }

  told : Told before row column place byte
  told =
      record {
        fits = columns_fit w.machine;
        long = (lent_8088 (lent_with_picture (length (w.bytes Shared)) (length (w.bytes Screen)) (length (w.bytes Attribute)) (length (w.bytes Picture)) lengths).0).1.0;
        one_of_them = asked.0;
        kind = a.kind;
        led = a.led;
        is_cell = asked.1;
        not_ff = a.not_ff;
        differs = λ e. a.differs (e ∙ sym (straight (w.bytes Screen) place within));
      }

  -- the chain after the store
  abbrev later : Chain
  later = chain_stored before (Some (InScreen place)) byte (w.bytes Shared)

  is_later : chain_of w.machine left.screen left.attribute ≡ later
  is_later =
      rw (mended_outcome w.machine (w.bytes Shared) (w.bytes Screen) (w.bytes Attribute) (w.bytes Picture) address byte not_refused, at_screen place within)

  -- the record of a row in a picture of the chain
  record_of_lem : {picture : List ℕ} (d : Chain) → picture ≡ picture_of d → d.columns ≤ record_pairs → (n : ℕ) → n < rows → record_in picture n ≡ record_at d n
  record_of_lem d e wide n under = ap (λ (p : List ℕ). record_in p n) e ∙ record_in_order (record_at d) rows n under (λ r h. records_sized d r wide)

  was : (n : ℕ) → n < rows → record_in (w.bytes Picture) n ≡ record_at before n
  was = record_of_lem before is_true.fresh (columns_fit w.machine)

  now : (n : ℕ) → n < rows → record_in left.picture n ≡ record_at later n
  now =
      let t = keeps_true w.machine (w.bytes Shared) (w.bytes Screen) (w.bytes Attribute) (w.bytes Picture) address byte is_true in
      record_of_lem later (t.fresh ∙ ap picture_of is_later) (columns_fit w.machine)

pub desk_sees_it : DeskSeesIt
desk_sees_it w row column place byte a =
    let t = told w row column place byte a in
    let d = later w row column place byte a in
    let one = asked w row column place byte a in
    let keeps = desk_promise (before w row column place byte a) row column place byte (w.bytes Shared) t a.unread in
    let c = before w row column place byte a in
    let cell = holds_as c row column one.0 one.1 in
    let fits = shown_fit c (row_at c row) (reads_at c row) in
    let under : column < record_pairs = omega (arith, cell.among, t.fits) in
    let showed = subst (Shows c row column) one.1 (shows_what_it_says c row column t.fits under) in
    record {
      showed =
          rw (was w row column place byte a row one.0, showed.0)
          (sym (straight (w.bytes Screen) place (within w row column place byte a)));
      shows = rw (now w row column place byte a row one.0, keeps.becomes);
      earlier_stay =
          λ earlier h. now w row column place byte a earlier (omega (arith, one.0)) ∙ keeps.earlier_stay earlier h
          ∙ sym (was w row column place byte a earlier (omega (arith, one.0)));
    }
