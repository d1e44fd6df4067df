-- Picture and index are kept over whole runs: the statements of specs/Kept.antt.
use Prim.Native.Nat.{ℕ}
use mathlib.Core.Path.{◌≡◌, refl, subst, sym, ap, ◌∙◌, fun_ext}
use mathlib.Core.List.{List, [], ◌∷◌}
use mathlib.Core.Bool.{Bool, true, false, not, cond, ◌&&◌, ◌||◌, true≢false, false≢true, or-true, and-false, and-eq-true_iff}
use lib.ListN.{length, get_or}
use borrow.Author.Tests.{not-true, not-false}
use Rattle.lent.specs.Lengths.{index_bytes}
use Rattle.lent.specs.Refusals.{accepted, refuses}
use Rattle.lent.proofs.Tests.{either}
use Rattle.machine.specs.Settings.{scroll_latch}
use Rattle.memories.specs.View8088.{seen_8088}
use Rattle.memories.proofs.Laws.{lent_8088, accepted_right}
use Rattle.chain.specs.Chain.{Chain}
use Rattle.chain.proofs.Searching.{neither}
use Rattle.picture.specs.Picture.{picture_of}
use Rattle.picture.specs.Draw.{lengths_picture, DrawnPicture, chain_of, refusal_drawing, refuse_drawing, draw}
use Rattle.picture.proofs.Laws.{columns_fit}
use Rattle.mending.specs.Store.{lengths_with_picture, StoredWithPicture}
use Rattle.mending.specs.True.{TruePicture}
use Rattle.mending.proofs.Outcome.{lent_with_picture}
use Rattle.mending.proofs.True.{keeps_true}
use Rattle.index.specs.Index.{index_of, lengths_index, IndexedReaders, indexed, refusal_indexing}
use Rattle.index.specs.True.{IsTrue}
use Rattle.index.proofs.Outcome.{accepts, refused_as_without}
use Rattle.index.proofs.True.{names_the_first, same_as_without, stays_true}
use Rattle.viewers.specs.Viewers.{added}
use Rattle.whole_screen.specs.Screen.{screen_lines}
use Rattle.whole_screen.specs.Call.{kinds_in, refusal_list, Listed}
use Rattle.whole_screen.proofs.Fresh.{of_the_chain}
use Rattle.runs.specs.World.{Memory, Shared, Screen, Attribute, Picture, ScreenList, Index, World, Call, Read8088, Store8088, ReadZ80, StoreZ80, ReadShadow, WriteShadow, WritePort, VerticalTick, WatchdogTick, Draw, StoreWithPicture, IndexReaders, StoreWithIndex, DrawForViewers, StoreForViewers, StoreWithIndexForViewers, Ask, GlyphPart, DrawLine, ListLines, Explain, Answer, after, answer}
use Rattle.runs.specs.Reach.{AllOf, has, may_change}
use Rattle.runs.specs.Z80.{SameLengths}
use Rattle.runs.specs.Kept.{Lent, Own, Another, lent_bytes, kept_bytes, lending, keeping, Step, Made, Lending, stepped, Drawing, Alone, Serving, call_to, Keeps, redrawn, leaves_behind, goes_astray, in_runs, TheseAreIn, same_columns, played, played_all, all_in_runs, PictureKept, IndexKept, Kept, KeptByRuns, KeptFromDrawing, IndexFromFresh, SameButIndex, SameAsWithNone, ListFromKept}
use Rattle.runs.proofs.Worlds.{mended_in, reader_in, named_in, picture_refusal, picture_mends, index_refusal, index_mends}
use Rattle.runs.proofs.Refused.{changes_nothing}
use Rattle.runs.proofs.Reach.{same_refl, apart, with_leaves, by_lengths, stored_apart, changes_only, lengths_stay}
use Rattle.runs.proofs.Sees.{with_alike, stores_alike, mends_answer, viewers_alike, told, index_told}

-- whether a drawing is accepted, and whether a working out of the index is; both go by lengths, which no call changes
abbrev drawable : World → Bool
drawable w = lengths_picture (length (w.bytes Screen)) (length (w.bytes Attribute)) (length (w.bytes Picture))

abbrev indexable : World → Bool
indexable w = lengths_index (length (w.bytes Screen)) (length (w.bytes Attribute)) (length (w.bytes Index))

drawable-after : (call : Call) (w : World) → drawable (after call w) ≡ drawable w
drawable-after call w = rw (lengths_stay call w Screen, lengths_stay call w Attribute, lengths_stay call w Picture)

indexable-after : (call : Call) (w : World) → indexable (after call w) ≡ indexable w
indexable-after call w = rw (lengths_stay call w Screen, lengths_stay call w Attribute, lengths_stay call w Index)

-- the lengths of the stores are those of drawing and index besides
pub drawable_too :
    (shared screen attribute picture : ℕ) → lengths_with_picture shared screen attribute picture ≡ true
    → lengths_picture screen attribute picture ≡ true
unfolding lengths_picture
drawable_too shared screen attribute picture h =
    let lent = lent_with_picture shared screen attribute picture h in
    let memories = lent_8088 lent.0 in
    rw (memories.1.0, memories.1.1, lent.1)

indexable_too :
    (shared screen attribute picture index : ℕ) → lengths_with_picture shared screen attribute picture ≡ true → index ≡ index_bytes
    → lengths_index screen attribute index ≡ true
unfolding lengths_index
indexable_too shared screen attribute picture index h long =
    let memories = lent_8088 (lent_with_picture shared screen attribute picture h).0 in
    rw (memories.1.0, memories.1.1, long)

-- what a call leaves that is refused with what it was lent, and else draws it afresh, it leaves again
drawn_again :
    {O : Type 0} (bytes : O → List ℕ) (refusal : List ℕ → ℕ) (refuse : List ℕ → O) (done : O) (old : List ℕ)
    → ((l : List ℕ) → bytes (refuse l) ≡ l)
    → let call : List ℕ → List ℕ = λ l. bytes (cond (refuses (refusal l)) (refuse l) done) in call (call old) ≡ call old
drawn_again {O} bytes refusal refuse done old same = go (refuses (refusal old)) refl
  where
    Again : O → Type 0
    Again o = bytes (cond (refuses (refusal (bytes o))) (refuse (bytes o)) done) ≡ bytes o

    go : (b : Bool) → refuses (refusal old) ≡ b → Again (cond b (refuse old) done)
    go true e = rw (same old, e) (same old)
    go false e = either (λ (o : O). bytes o ≡ bytes done) (refuses (refusal (bytes done))) _ _ (λ _. same (bytes done)) (λ _. refl)

module _ (w : World) where
  abbrev of_screen : Chain
  of_screen = chain_of w.machine (w.bytes Screen) (w.bytes Attribute)

  drawing_kept : PictureKept (after Draw w)
  drawing_kept =
      drawn_again (λ (d : DrawnPicture). d.picture) (refusal_drawing (w.bytes Screen) (w.bytes Attribute))
      (λ l. refuse_drawing (refusal_drawing (w.bytes Screen) (w.bytes Attribute) l) l) _ (w.bytes Picture) (λ _. refl)

  indexing_kept : IndexKept (after IndexReaders w)
  indexing_kept =
      drawn_again (λ (d : IndexedReaders). d.index) (refusal_indexing (w.bytes Screen) (w.bytes Attribute))
      (λ l. indexed (refusal_indexing (w.bytes Screen) (w.bytes Attribute) l) l) _ (w.bytes Index) (λ _. refl)

  -- what is kept is what memory gives, where it would be drawn
  picture_true : drawable w ≡ true → PictureKept w → w.bytes Picture ≡ picture_of of_screen
  picture_true e k = sym (rw e at k)

  index_true : indexable w ≡ true → IndexKept w → w.bytes Index ≡ index_of of_screen
  index_true e k = sym (rw e at k)

  picture_store_kept : (a b : ℕ) → PictureKept w → PictureKept (after (StoreWithPicture a b) w)
  picture_store_kept a b k = go (refuses (picture_refusal a w)) refl
    where
      go : (r : Bool) → refuses (picture_refusal a w) ≡ r → PictureKept (after (StoreWithPicture a b) w)
      go true r = subst PictureKept (sym ((picture_mends a b w).stores.stays r)) k
      go false r =
          let h = (accepted_right w.machine _ a r).0 in
          let drawn = drawable_too (length (w.bytes Shared)) (length (w.bytes Screen)) (length (w.bytes Attribute)) (length (w.bytes Picture)) h in
          let is_true : TruePicture w.machine (w.bytes Shared) (w.bytes Screen) (w.bytes Attribute) (w.bytes Picture) =
          record { lengths = h; fresh = picture_true drawn k } in
          let t = keeps_true w.machine (w.bytes Shared) (w.bytes Screen) (w.bytes Attribute) (w.bytes Picture) a b is_true in
          let draws = drawable-after (StoreWithPicture a b) w ∙ drawn in
          rw draws (sym t.fresh)

  -- an index of the right length that is kept is true where the store is accepted
  true_where_stored : (a : ℕ) → IndexKept w → length (w.bytes Index) ≡ index_bytes → refuses (picture_refusal a w) ≡ false → IsTrue w.machine (w.bytes Screen) (w.bytes Attribute) (w.bytes Index)
  true_where_stored a k long r =
      let h = (accepted_right w.machine _ a r).0 in
      index_true
      (indexable_too (length (w.bytes Shared)) (length (w.bytes Screen)) (length (w.bytes Attribute)) (length (w.bytes Picture)) (length (w.bytes Index)) h long)
      k

  -- with a true index the store leaves the picture that it leaves without one, and a true index
  index_store_kept :
      (a b : ℕ) → PictureKept w → IndexKept w
      → PictureKept (after (StoreWithIndex a b) w) × IndexKept (after (StoreWithIndex a b) w)
  index_store_kept a b k i = go (refuses (index_refusal a w)) refl
    where
      Drawn : StoredWithPicture → Type 0
      Drawn left = (draw w.machine left.screen left.attribute left.picture).picture ≡ left.picture

      go :
          (r : Bool) → refuses (index_refusal a w) ≡ r
          → PictureKept (after (StoreWithIndex a b) w) × IndexKept (after (StoreWithIndex a b) w)
      go true r =
          subst (λ (u : World). PictureKept u × IndexKept u) (sym ((index_mends a b w).stores.stays r)) (k, i)
      go false r =
          let both = accepts w.machine (w.bytes Shared) (w.bytes Screen) (w.bytes Attribute) (w.bytes Picture) (w.bytes Index) a b r in
          let is_true = true_where_stored a i both.0 both.1 in
          let same = same_as_without w.machine (w.bytes Shared) (w.bytes Screen) (w.bytes Attribute) (w.bytes Picture) (w.bytes Index) a b is_true in
          let still = stays_true w.machine (w.bytes Shared) (w.bytes Screen) (w.bytes Attribute) (w.bytes Picture) (w.bytes Index) a b is_true in
          let h = (accepted_right w.machine _ a both.1).0 in
          let works =
          indexable-after (StoreWithIndex a b) w
          ∙ indexable_too (length (w.bytes Shared)) (length (w.bytes Screen)) (length (w.bytes Attribute)) (length (w.bytes Picture)) (length (w.bytes Index)) h both.0 in
          (subst Drawn (sym same) (picture_store_kept a b k), rw works (sym still))

pub same_as_with_none : SameAsWithNone
same_as_with_none a b w k long = (plain, serving)
  where
    number : index_refusal a w ≡ picture_refusal a w
    number =
        refused_as_without w.machine (w.bytes Shared) (w.bytes Screen) (w.bytes Attribute) (w.bytes Picture) (w.bytes Index) a b long

    new : refuses (index_refusal a w) ≡ false → mended_in (named_in a w) a b w ≡ mended_in (reader_in a w) a b w
    new r =
        ap (λ (f : ℕ). mended_in f a b w)
        (names_the_first w.machine (w.bytes Screen) (w.bytes Attribute) (w.bytes Index) a
        (true_where_stored w a k long (sym (ap refuses number) ∙ r)))

    plain : SameButIndex (StoreWithIndex a b) (StoreWithPicture a b) w
    plain =
        record {
          answers = mends_answer (index_mends a b w) (picture_mends a b w) number refl new;
          leaves =
              λ part h. stores_alike (index_mends a b w).stores (picture_mends a b w).stores (ap refuses number) part (same_refl part w)
              (λ r. with_alike Picture _ _ _ w (λ _. new r) refl part (with_leaves Index _ w refl part (apart (AllOf Index) [] part h).0));
        }

    serving : SameButIndex (StoreWithIndexForViewers a b) (StoreForViewers a b) w
    serving =
        record {
          answers = plain.answers;
          leaves =
              λ part h. viewers_alike _ _ (after (StoreWithIndex a b) w) (after (StoreWithPicture a b) w)
              (λ _. ap (λ (one : Answer). added w.viewers (get_or one.numbers 0 0)) plain.answers) part (plain.leaves part h);
        }

-- a call that leaves screen, attribute, column setting, and picture or index
same_setting : (w v : World) → same_columns w v ≡ true → v.machine.columns132 ≡ w.machine.columns132
same_setting w v = go w.machine.columns132 v.machine.columns132
  where
    go : (before new : Bool) → cond before new (not new) ≡ true → new ≡ before
    go true new h = h
    go false new h = not-true new h

module _ (keeps : Keeps) (call : Call) (w : World) (behind : leaves_behind keeps call ≡ false) (same : same_columns w (after call w) ≡ true) where
  abbrev keeps_all : Bool
  keeps_all = may_change call (AllOf Picture) && (may_change call (AllOf Index) || not keeps.indexed)

  screen_stays :
      keeps_all ≡ false → ((after call w).bytes Screen ≡ w.bytes Screen) × ((after call w).bytes Attribute ≡ w.bytes Attribute)
  screen_stays none =
      let apart = neither (may_change call (AllOf Screen)) (may_change call (AllOf Attribute)) (reads keeps_all none _ behind) in
      (changes_only call w (AllOf Screen) apart.0, changes_only call w (AllOf Attribute) apart.1)
    where
      reads : (all : Bool) → all ≡ false → (b : Bool) → (b && not all) ≡ false → b ≡ false
      reads true e b h = absurd (true≢false e)
      reads false e true h = absurd (true≢false h)
      reads false e false h = refl

  picture_quiet : may_change call (AllOf Picture) ≡ false → PictureKept w → PictureKept (after call w)
  picture_quiet leaves k =
      let stays = screen_stays (rw leaves refl) in
      rw (stays.0, stays.1, changes_only call w (AllOf Picture) leaves, same_setting w (after call w) same) k

  index_quiet : may_change call (AllOf Index) ≡ false → keeps.indexed ≡ true → IndexKept w → IndexKept (after call w)
  index_quiet leaves is k =
      let stays = screen_stays (rw (leaves, is) (and-false (may_change call (AllOf Picture)))) in
      rw (stays.0, stays.1, changes_only call w (AllOf Index) leaves, same_setting w (after call w) same) k

  -- a call that leaves the index keeps both if it keeps the picture, and so does one that leaves the picture too
  leaves_index : may_change call (AllOf Index) ≡ false → PictureKept (after call w) → Kept keeps w → Kept keeps (after call w)
  leaves_index i new k = record { picture = new; index = λ is. index_quiet i is (k.index is) }

  leaves_both :
      may_change call (AllOf Picture) ≡ false → may_change call (AllOf Index) ≡ false → Kept keeps w → Kept keeps (after call w)
  leaves_both p i k = leaves_index i (picture_quiet p k.picture) k

pub these_are_in : TheseAreIn
unfolding has
these_are_in drawing address byte port code w = (
  (rw or-true (none_behind (StoreWithPicture address byte)), rw or-true (none_behind (StoreForViewers address byte))),
  (
    (none_behind (StoreWithIndex address byte), none_behind (StoreWithIndexForViewers address byte)),
    λ indexed. (refl, (refl, (refl, refl))),
  ),
)
  where
    none_behind : (call : Call) → not (((may_change call (AllOf Screen) || may_change call (AllOf Attribute)) && false) || false) ≡ true
    none_behind call = rw (and-false (may_change call (AllOf Screen) || may_change call (AllOf Attribute)))

-- a store that goes by an index is in the runs of a caller who keeps one
index_is_kept : (keeps : Keeps) (by : Bool) → by ≡ true → by && not keeps.indexed ≡ false → keeps.indexed ≡ true
index_is_kept keeps true e h = not-false keeps.indexed h
index_is_kept keeps false e h = absurd (false≢true e)

both_kept : (keeps : Keeps) {w : World} → PictureKept w × IndexKept w → Kept keeps w
both_kept keeps both = record { picture = both.0; index = λ _. both.1 }

call_kept :
    (keeps : Keeps) (call : Call) (w : World) → leaves_behind keeps call ≡ false → goes_astray keeps call ≡ false
    → same_columns w (after call w) ≡ true → Kept keeps w → Kept keeps (after call w)
unfolding has
call_kept keeps (Store8088 a b) w h g c k =
    leaves_both keeps (Store8088 a b) w h c (stored_apart (seen_8088 a) (AllOf Picture) refl) (stored_apart (seen_8088 a) (AllOf Index) refl) k
call_kept keeps (StoreWithPicture a b) w h g c k =
    leaves_index keeps (StoreWithPicture a b) w h c (stored_apart (seen_8088 a) (AllOf Index) refl) (picture_store_kept w a b k.picture) k
call_kept keeps (StoreForViewers a b) w h g c k =
    leaves_index keeps (StoreForViewers a b) w h c (stored_apart (seen_8088 a) (AllOf Index) refl) (picture_store_kept w a b k.picture) k
call_kept keeps (StoreWithIndex a b) w h g c k =
    both_kept keeps (index_store_kept w a b k.picture (k.index (index_is_kept keeps _ refl g)))
call_kept keeps (StoreWithIndexForViewers a b) w h g c k =
    both_kept keeps (index_store_kept w a b k.picture (k.index (index_is_kept keeps _ refl g)))
call_kept keeps Draw w h g c k = leaves_index keeps Draw w h c refl (drawing_kept w) k
call_kept keeps DrawForViewers w h g c k = leaves_index keeps DrawForViewers w h c refl (drawing_kept w) k
call_kept keeps IndexReaders w h g c k =
    both_kept keeps (picture_quiet keeps IndexReaders w h c refl k.picture, indexing_kept w)
call_kept keeps (Ask n) w h g c k = leaves_both keeps (Ask n) w h c refl refl k
call_kept keeps (StoreZ80 a b) w h g c k = leaves_both keeps (StoreZ80 a b) w h c refl refl k
call_kept keeps (WriteShadow p b) w h g c k = leaves_both keeps (WriteShadow p b) w h c refl refl k
call_kept keeps (WritePort p n) w h g c k = leaves_both keeps (WritePort p n) w h c refl refl k
call_kept keeps VerticalTick w h g c k = leaves_both keeps VerticalTick w h c refl refl k
call_kept keeps WatchdogTick w h g c k = leaves_both keeps WatchdogTick w h c refl refl k
call_kept keeps (DrawLine r s) w h g c k = leaves_both keeps (DrawLine r s) w h c refl refl k
call_kept keeps ListLines w h g c k = leaves_both keeps ListLines w h c refl refl k
call_kept keeps (Read8088 a) w h g c k = k
call_kept keeps (ReadZ80 a) w h g c k = k
call_kept keeps (ReadShadow p) w h g c k = k
call_kept keeps (GlyphPart n) w h g c k = k
call_kept keeps (Explain r n) w h g c k = k

-- memories that come back as they were lent leave the world that is kept
pub kept_as_lent : (lent : Memory → Lent) (w : World) → keeping lent w (lending lent w) ≡ w
kept_as_lent lent w =
    ap (λ (bytes : Memory → List ℕ). record { machine = w.machine; viewers = w.viewers; bytes = bytes })
    (fun_ext (λ memory. own (lent memory) (w.bytes memory)))
  where
    own : (one : Lent) (bytes : List ℕ) → kept_bytes one bytes (lent_bytes one bytes) ≡ bytes
    own Own bytes = refl
    own (Another other) bytes = refl

-- so does a call that was lent other memories and refused
pub lending_stays : (lent : Memory → Lent) (call : Call) (w : World) → refuses (answer call (lending lent w)).refusal ≡ true → stepped (Lending lent call) w ≡ w
lending_stays lent call w h =
    ap (keeping lent w) (changes_nothing call (lending lent w) (λ e. false≢true (sym (ap refuses e) ∙ h))).0 ∙ kept_as_lent lent w

one_setting : (w : World) → same_columns w w ≡ true
one_setting w = go w.machine.columns132
  where
    go : (b : Bool) → cond b b (not b) ≡ true
    go true = refl
    go false = refl

-- a redraw keeps what is kept, whatever it was before, and the lengths. The drawing that serves viewers leaves the
-- picture that the other leaves
drawn_kept : (drawing : Drawing) (w : World) → PictureKept (after (call_to drawing) w)
drawn_kept Alone w = drawing_kept w
drawn_kept Serving w = drawing_kept w

module _ (keeps : Keeps) (w : World) where
  abbrev drawn : World
  drawn = after (call_to keeps.drawing) w

  redrawn_kept : Kept keeps (redrawn keeps w)
  redrawn_kept = go keeps.indexed refl
    where
      go : (b : Bool) → keeps.indexed ≡ b → Kept keeps (cond b (after IndexReaders drawn) drawn)
      go true e = record { picture = drawn_kept keeps.drawing w; index = λ _. indexing_kept drawn }
      go false e = record { picture = drawn_kept keeps.drawing w; index = λ is. absurd (false≢true (sym e ∙ is)) }

  pub redrawn_lengths : SameLengths (redrawn keeps w) w
  redrawn_lengths memory = go keeps.indexed
    where
      go : (b : Bool) → length ((cond b (after IndexReaders drawn) drawn).bytes memory) ≡ length (w.bytes memory)
      go true = lengths_stay IndexReaders drawn memory ∙ lengths_stay (call_to keeps.drawing) w memory
      go false = lengths_stay (call_to keeps.drawing) w memory

-- a step, with the redraw after it if the column setting changed
step_kept :
    (keeps : Keeps) (step : Step) (w : World) → in_runs keeps step w ≡ true → Kept keeps w
    → Kept keeps (played keeps step w) × SameLengths (played keeps step w) w
step_kept keeps (Made call) w h k = go (same_columns w (after call w)) refl
  where
    go :
        (b : Bool) → same_columns w (after call w) ≡ b
        → let last = cond b (after call w) (redrawn keeps (after call w)) in Kept keeps last × SameLengths last w
    go true same =
        let none = neither (leaves_behind keeps call) (goes_astray keeps call) (not-true _ h) in
        (call_kept keeps call w none.0 none.1 same k, lengths_stay call w)
    go false other =
        (redrawn_kept keeps (after call w), λ memory. redrawn_lengths keeps (after call w) memory ∙ lengths_stay call w memory)
step_kept keeps (Lending lent call) w h k =
    subst Plays (sym (lending_stays lent call w h)) (rw (one_setting w) (k, λ memory. refl))
  where
    Plays : World → Type 0
    Plays new = let last = cond (same_columns w new) new (redrawn keeps new) in Kept keeps last × SameLengths last w

-- what a drawing and a working out of the index answer goes by lengths
pub draw_told : (w : World) → (answer Draw w).refusal ≡ refusal_drawing (w.bytes Screen) (w.bytes Attribute) (w.bytes Picture)
draw_told w =
    told (λ (left : DrawnPicture). left.answer.refusal) (refusal_drawing (w.bytes Screen) (w.bytes Attribute) (w.bytes Picture)) _ _
    refl refl

indexing_told : (w : World) → (answer IndexReaders w).refusal ≡ refusal_indexing (w.bytes Screen) (w.bytes Attribute) (w.bytes Index)
indexing_told w = index_told w.machine (w.bytes Screen) (w.bytes Attribute) (w.bytes Index)

same_answers :
    (w v : World) → SameLengths v w
    → ((answer Draw v).refusal ≡ (answer Draw w).refusal) × ((answer IndexReaders v).refusal ≡ (answer IndexReaders w).refusal)
same_answers w v long = (
  draw_told v ∙ rw (long Screen, long Attribute, long Picture) (sym (draw_told w)),
  indexing_told v ∙ rw (long Screen, long Attribute, long Index) (sym (indexing_told w)),
)

pub kept_by_runs : KeptByRuns
kept_by_runs keeps [] w all k = (k, (refl, refl))
kept_by_runs keeps (step ∷ steps) w all k =
    let next = played keeps step w in
    let both = (and-eq-true_iff (in_runs keeps step w) (all_in_runs keeps steps next)).0 all in
    let one = step_kept keeps step w both.0 k in
    let rest = kept_by_runs keeps steps next both.1 one.0 in
    let same = same_answers w next one.1 in
    (rest.0, (rest.1.0 ∙ same.0, rest.1.1 ∙ same.1))

-- a run from what was drawn afresh
module _ (keeps : Keeps) (steps : List Step) (w : World) (all : all_in_runs keeps steps (redrawn keeps w) ≡ true) where
  abbrev last : World
  last = played_all keeps steps (redrawn keeps w)

  ran :
      Kept keeps last
      × (((answer Draw last).refusal ≡ (answer Draw w).refusal) × ((answer IndexReaders last).refusal ≡ (answer IndexReaders w).refusal))
  ran =
      let run = kept_by_runs keeps steps (redrawn keeps w) all (redrawn_kept keeps w) in
      let same = same_answers w (redrawn keeps w) (redrawn_lengths keeps w) in
      (run.0, (run.1.0 ∙ same.0, run.1.1 ∙ same.1))

pub kept_from_drawing : KeptFromDrawing
kept_from_drawing keeps steps w all accepts =
    let run = ran keeps steps w all in
    let v = last keeps steps w all in
    picture_true v (by_lengths (drawable v) (ap refuses (sym (draw_told v) ∙ run.1.0 ∙ sym (refused_alike keeps.drawing) ∙ accepts)))
    run.0.picture
  where
    -- the drawing that serves viewers is refused when the other is
    refused_alike : (drawing : Drawing) → (answer (call_to drawing) w).refusal ≡ (answer Draw w).refusal
    refused_alike Alone = refl
    refused_alike Serving = refl

pub index_from_fresh : IndexFromFresh
index_from_fresh keeps steps w is all accepts =
    let run = ran keeps steps w all in
    let v = last keeps steps w all in
    index_true v (by_lengths (indexable v) (ap refuses (sym (indexing_told v) ∙ run.1.1 ∙ accepts))) (run.0.index is)

-- a list that is accepted is that of the picture's kinds
accepted_lines :
    (w : World) → (answer ListLines w).refusal ≡ accepted
    → (after ListLines w).bytes ScreenList ≡ screen_lines (kinds_in (w.bytes Picture)) (scroll_latch w.machine)
accepted_lines w =
    let refusal = refusal_list w.machine (w.bytes Picture) (w.bytes ScreenList) in
    either
    (λ (left : Listed). left.refusal ≡ accepted → left.list ≡ screen_lines (kinds_in (w.bytes Picture)) (scroll_latch w.machine))
    (refuses refusal) _ _ (λ e h. absurd (true≢false (sym e ∙ ap (λ (n : ℕ). refuses n) h))) (λ e h. refl)

pub list_from_kept : ListFromKept
list_from_kept keeps steps w all accepts listed =
    let last = played_all keeps steps (redrawn keeps w) in
    let c = chain_of last.machine (last.bytes Screen) (last.bytes Attribute) in
    accepted_lines last listed
    ∙ rw (kept_from_drawing keeps steps w all accepts) (of_the_chain c (scroll_latch last.machine) (columns_fit last.machine))
