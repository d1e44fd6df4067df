-- What each call may change, that lengths stay, and what each call sees: the statements of specs/Reach.antt.
use Prim.Native.Nat.{ℕ, ◌+◌, ◌≤◌}
use mathlib.Core.Path.{◌≡◌, refl, subst, sym, ap, ◌∙◌}
use Rattle.std.specs.Prelude.{Option, Some, None}
use mathlib.Core.List.{List, [], ◌∷◌}
use mathlib.Core.Bool.{Bool, true, false, not, cond, ◌&&◌, ◌||◌, true≢false}
use native.Mathlib.Omega.{arith}
use lib.ListN.{length, set, take, drop, length-set}
use lib.Seq.{take-set-le, drop-set-lt}
use lib.Dec.{eqb, ltb}
use borrow.Author.Tests.{ltb-true, ltb-false, eqb-false, ne_eqb}
use Rattle.lent.specs.Lengths.{screen_bytes, attribute_bytes, shadow_bytes, nvm_bytes, picture_bytes, line_bytes, list_bytes, index_bytes}
use Rattle.lent.specs.Refusals.{accepted, refuses, length_refused, place_refused, latch_refused}
use Rattle.lent.proofs.Tests.{either, both_equal, three_equal}
use Rattle.lent.proofs.Order.{passed}
use Rattle.machine.specs.Settings.{scroll_latch, z80_runs}
use Rattle.machine.specs.Watchdog.{watch_ticks, counts, watchdog_tick}
use Rattle.machine.specs.declared.Machine.{Machine}
use Rattle.memories.specs.View8088.{seen_8088}
use Rattle.memories.specs.ViewZ80.{shared_from, is_private}
use Rattle.memories.proofs.Laws.{is_accepted}
use Rattle.memories.specs.declared.view8088.Seen.{Seen}
use Rattle.memories.specs.declared.view8088.Seen.TheVariants.{Shared as InShared, Screen as InScreen, Attribute as InAttribute}
use Rattle.shadow.specs.Shadow.{refusal_shadow, WrittenShadow}
use Rattle.diagnostic.specs.Diagnostic.{WrittenPort, rises, write_diagnostic}
use Rattle.ports.specs.Ports.{refusal_port, write_port}
use Rattle.ports.proofs.Laws.{lent_nvm}
use Rattle.chain.proofs.Searching.{neither}
use Rattle.picture.specs.Picture.{record_in}
use Rattle.picture.specs.Draw.{chain_of, refusal_drawing, DrawnPicture}
use Rattle.picture.proofs.Laws.{lent_picture, columns_fit}
use Rattle.picture.proofs.Sizes.{picture_sized}
use Rattle.mending.proofs.Laws.{mended_sized}
use Rattle.mending.proofs.Outcome.{accepts}
use Rattle.index.specs.Index.{lengths_index, IndexedReaders, refusal_indexing}
use Rattle.index.proofs.Index.{entries_length}
use Rattle.index.proofs.Outcome.{renewed_sized, accepts as accepts_index}
use Rattle.viewers.specs.declared.Viewers.{Viewers}
use Rattle.scan_line.specs.Call.{on_tube, refusal_line, DrawnLine}
use Rattle.scan_line.proofs.Laws.{lent_line}
use Rattle.scan_line.proofs.Line.{line_sized}
use Rattle.whole_screen.specs.Call.{lengths_list, latch_most, kinds_in, refusal_list, Listed}
use Rattle.whole_screen.proofs.Shown.{always_240}
use Rattle.runs.specs.World.{Memory, Shared, Private, Screen, Attribute, Glyphs, Nvm, Shadow, Picture, Line, ScreenList, Index, number_of, is_memory, World, with_machine, with_viewers, with_bytes, Call, Read8088, Store8088, ReadZ80, StoreZ80, ReadShadow, WriteShadow, WritePort, VerticalTick, WatchdogTick, Draw, StoreWithPicture, IndexReaders, StoreWithIndex, DrawForViewers, StoreForViewers, StoreWithIndexForViewers, Ask, GlyphPart, DrawLine, ListLines, Explain, after}
use Rattle.runs.specs.Reach.{Part, TheMachine, Z80Bit, InReset, Below0800, From0800, TheViewers, AllOf, number_of_part, has, Same, stored_at, ChangesOnly, LengthsStay}
use Rattle.runs.proofs.Ports.{port_reset}
use Rattle.runs.proofs.Worlds.{with_length, stored_in, stored_length, Stores, plain_stores, refused_z80, z80_refused, z80_private, z80_shared, not_below, chain_after, mended_in, renewed_in, reader_in, named_in, picture_refusal, picture_mends, drawn_with_index, index_mends}

pub same_refl : (part : Part) (w : World) → Same part w w
same_refl TheMachine w = refl
same_refl Z80Bit w = refl
same_refl InReset w = refl
same_refl Below0800 w = refl
same_refl From0800 w = refl
same_refl TheViewers w = refl
same_refl (AllOf memory) w = refl

-- worlds that are the same are the same in every part
pub same_by : (part : Part) (u u' v v' : World) → u ≡ u' → v ≡ v' → Same part u' v' → Same part u v
same_by part u u' v v' e f h =
    subst (λ (x : World). Same part x v) (sym e) (subst (λ (x : World). Same part u' x) (sym f) h)

pub same_trans : (part : Part) (u w v : World) → Same part u w → Same part w v → Same part u v
same_trans TheMachine u w v p q = p ∙ q
same_trans Z80Bit u w v p q = p ∙ q
same_trans InReset u w v p q = p ∙ q
same_trans Below0800 u w v p q = p ∙ q
same_trans From0800 u w v p q = p ∙ q
same_trans TheViewers u w v p q = p ∙ q
same_trans (AllOf memory) u w v p q = p ∙ q

-- a part that is not in a list is not its first, and not in the rest
pub apart :
    (one : Part) (parts : List Part) (part : Part) → has (one ∷ parts) part ≡ false
    → (eqb (number_of_part part) (number_of_part one) ≡ false) × (has parts part ≡ false)
unfolding has
apart one parts part h = neither (eqb (number_of_part part) (number_of_part one)) (has parts part) h

other_memory :
    (memory one : Memory) → eqb (number_of_part (AllOf one)) (number_of_part (AllOf memory)) ≡ false → is_memory one memory ≡ false
other_memory memory one h =
    ne_eqb (number_of one) (number_of memory)
    (λ e. eqb-false (6 + number_of one) (6 + number_of memory) h (ap (λ (n : ℕ). 6 + n) e))

-- other bytes in a memory that is not shared memory leave every part but that memory
pub with_leaves :
    (memory : Memory) (new : List ℕ) (w : World) → is_memory Shared memory ≡ false
    → (part : Part) → eqb (number_of_part part) (number_of_part (AllOf memory)) ≡ false → Same part (with_bytes memory new w) w
with_leaves memory new w other TheMachine h = refl
with_leaves memory new w other Z80Bit h = refl
with_leaves memory new w other InReset h = refl
with_leaves memory new w other Below0800 h = rw other
with_leaves memory new w other From0800 h = rw other
with_leaves memory new w other TheViewers h = refl
with_leaves memory new w other (AllOf one) h = rw (other_memory memory one h)

-- a byte stored in shared memory leaves the other half of it
module _ (w : World) (place byte : ℕ) where
  abbrev half : Part
  half = cond (ltb place shared_from) Below0800 From0800

  shared_leaves :
      (part : Part) → has (AllOf Shared ∷ half ∷ []) part ≡ false → Same part (with_bytes Shared (set (w.bytes Shared) place byte) w) w
  shared_leaves TheMachine h = refl
  shared_leaves Z80Bit h = refl
  shared_leaves InReset h = refl
  shared_leaves Below0800 h = go (ltb place shared_from) refl (apart half [] _ (apart (AllOf Shared) (half ∷ []) _ h).1).0
    where
      go :
          (b : Bool) → ltb place shared_from ≡ b → eqb (number_of_part Below0800) (number_of_part (cond b Below0800 From0800)) ≡ false
          → take shared_from (set (w.bytes Shared) place byte) ≡ take shared_from (w.bytes Shared)
      go true e g = absurd (true≢false g)
      go false e g = take-set-le shared_from (w.bytes Shared) place byte (ltb-false place shared_from e)
  shared_leaves From0800 h = go (ltb place shared_from) refl (apart half [] _ (apart (AllOf Shared) (half ∷ []) _ h).1).0
    where
      go :
          (b : Bool) → ltb place shared_from ≡ b → eqb (number_of_part From0800) (number_of_part (cond b Below0800 From0800)) ≡ false
          → drop shared_from (set (w.bytes Shared) place byte) ≡ drop shared_from (w.bytes Shared)
      go true e g = drop-set-lt shared_from (w.bytes Shared) place byte (ltb-true place shared_from e)
      go false e g = absurd (true≢false g)
  shared_leaves TheViewers h = refl
  shared_leaves (AllOf one) h = rw (other_memory Shared one (apart (AllOf Shared) (half ∷ []) (AllOf one) h).0)

-- a write to a port leaves shadow and NVM as long as they were
port_sized :
    (w : World) (port code : ℕ)
    → let left = write_port w.machine (w.bytes Shadow) (w.bytes Nvm) port code in
    (length left.shadow ≡ length (w.bytes Shadow)) × (length left.nvm ≡ length (w.bytes Nvm))
port_sized w port code =
    either Sized (refuses (refusal_port w.machine (length (w.bytes Shadow)) (length (w.bytes Nvm)) port)) _ _ (λ _. (refl, refl))
    (λ goes_on. either Sized (eqb port 0x04) _ _ (λ _. (refl, refl))
    (λ _. either Sized (eqb port 0x0A) _ _ (λ _. copies (lent_nvm w.machine _ _ port refl (λ e. true≢false (sym (ap refuses e) ∙ goes_on))))
    (λ _. either Sized (eqb port 0x0C) _ _ (λ _. (refl, refl)) (λ _. (refl, refl)))))
  where
    Sized : WrittenPort → Type 0
    Sized left = (length left.shadow ≡ length (w.bytes Shadow)) × (length left.nvm ≡ length (w.bytes Nvm))

    one_of : (b : Bool) (l k : List ℕ) → length l ≡ length k → length (cond b l k) ≡ length k
    one_of true l k e = e
    one_of false l k e = refl

    copies :
        (length (w.bytes Shadow) ≡ shadow_bytes) × (length (w.bytes Nvm) ≡ nvm_bytes)
        → Sized (write_diagnostic w.machine (w.bytes Shadow) (w.bytes Nvm) code)
    copies lent =
        either Sized (rises 6 w.machine.held code && rises 7 w.machine.held code) _ _ (λ _. (refl, refl))
        (λ _. (
          one_of (rises 7 w.machine.held code) (w.bytes Nvm) (w.bytes Shadow) (omega (arith, lent)),
          one_of (rises 6 w.machine.held code) (w.bytes Shadow) (w.bytes Nvm) (omega (arith, lent)),
        ))

-- a call whose lengths are all that it can be refused by has them right where it is accepted
pub by_lengths : (right : Bool) → refuses (cond (not right) length_refused accepted) ≡ false → right ≡ true
by_lengths true h = refl
by_lengths false h = absurd (true≢false h)

-- a drawing, an index, a line and a list that is accepted has room of the right length, and a list a latch of 0 to 9
pub accepted_picture :
    (w : World) → refuses (refusal_drawing (w.bytes Screen) (w.bytes Attribute) (w.bytes Picture)) ≡ false
    → length (w.bytes Picture) ≡ picture_bytes
accepted_picture w h = (lent_picture (by_lengths _ h)).1.1

accepted_index :
    (w : World) → refuses (refusal_indexing (w.bytes Screen) (w.bytes Attribute) (w.bytes Index)) ≡ false
    → length (w.bytes Index) ≡ index_bytes
unfolding lengths_index
accepted_index w h =
    (three_equal (length (w.bytes Screen)) screen_bytes (length (w.bytes Attribute)) attribute_bytes (length (w.bytes Index)) index_bytes
    (by_lengths _ h)).1.1

accepted_line :
    (w : World) (row scan : ℕ) → refuses (refusal_line (w.bytes Picture) (w.bytes Glyphs) row scan (w.bytes Line)) ≡ false
    → length (w.bytes Line) ≡ line_bytes
accepted_line w row scan e =
    (lent_line (passed _ (not (on_tube row scan)) place_refused (λ is. omega (arith, is)) (is_accepted _ e)).0).1.1

accepted_list :
    (w : World) → refuses (refusal_list w.machine (w.bytes Picture) (w.bytes ScreenList)) ≡ false
    → (length (w.bytes ScreenList) ≡ list_bytes) × (scroll_latch w.machine ≤ latch_most)
unfolding lengths_list
accepted_list w e =
    let over = ltb latch_most (scroll_latch w.machine) in
    let picture = length (w.bytes Picture) in
    let list = length (w.bytes ScreenList) in
    let both = passed (lengths_list picture list) over latch_refused (λ is. omega (arith, is)) (is_accepted _ e) in
    ((both_equal picture picture_bytes list list_bytes both.0).1, ltb-false latch_most (scroll_latch w.machine) both.1)

stored_leaves :
    (seen : Option Seen) (byte : ℕ) (w : World) (part : Part) → has (stored_at seen) part ≡ false → Same part (stored_in seen byte w) w
stored_leaves (Some (InShared place)) byte w part h = shared_leaves w place byte part h
stored_leaves (Some (InScreen place)) byte w part h = with_leaves Screen _ w refl part (apart (AllOf Screen) [] part h).0
stored_leaves (Some (InAttribute place)) byte w part h = with_leaves Attribute _ w refl part (apart (AllOf Attribute) [] part h).0
stored_leaves None byte w part h = same_refl part w

-- a store of the 8088 may change its three memories and no other part
pub stored_apart :
    (seen : Option Seen) (part : Part) → has (AllOf Shared ∷ Below0800 ∷ From0800 ∷ AllOf Screen ∷ AllOf Attribute ∷ []) part ≡ false
    → has (stored_at seen) part ≡ false
unfolding has
stored_apart seen part h = go seen
  where
    n : ℕ
    n = number_of_part part

    shared : (eqb n 6 ≡ false) × (eqb n 3 || (eqb n 4 || (eqb n 8 || (eqb n 9 || false))) ≡ false)
    shared = neither (eqb n 6) _ h

    below : (eqb n 3 ≡ false) × (eqb n 4 || (eqb n 8 || (eqb n 9 || false)) ≡ false)
    below = neither (eqb n 3) _ shared.1

    from : (eqb n 4 ≡ false) × (eqb n 8 || (eqb n 9 || false) ≡ false)
    from = neither (eqb n 4) _ below.1

    screens : (eqb n 8 ≡ false) × (eqb n 9 || false ≡ false)
    screens = neither (eqb n 8) _ from.1

    halves : (b : Bool) → eqb n 6 || (eqb n (number_of_part (cond b Below0800 From0800)) || false) ≡ false
    halves true = rw (shared.0, below.0)
    halves false = rw (shared.0, from.0)

    go : (one : Option Seen) → has (stored_at one) part ≡ false
    go (Some (InShared place)) = halves (ltb place shared_from)
    go (Some (InScreen place)) = rw screens.0
    go (Some (InAttribute place)) = screens.1
    go None = refl

-- another machine leaves every part but the machine, and the bit and reset too if they are the same
machine_leaves :
    (m : Machine) (w : World) (part : Part) → eqb (number_of_part part) (number_of_part TheMachine) ≡ false
    → (part ≡ Z80Bit → z80_runs m ≡ z80_runs w.machine) → (part ≡ InReset → m.reset ≡ w.machine.reset)
    → Same part (with_machine m w) w
machine_leaves m w TheMachine h b r = absurd (true≢false h)
machine_leaves m w Z80Bit h b r = b refl
machine_leaves m w InReset h b r = r refl
machine_leaves m w Below0800 h b r = refl
machine_leaves m w From0800 h b r = refl
machine_leaves m w TheViewers h b r = refl
machine_leaves m w (AllOf memory) h b r = refl

-- other viewers leave every part but the viewers
viewers_leave :
    (v : Viewers) (w : World) (part : Part) → eqb (number_of_part part) (number_of_part TheViewers) ≡ false → Same part (with_viewers v w) w
viewers_leave v w TheMachine h = refl
viewers_leave v w Z80Bit h = refl
viewers_leave v w InReset h = refl
viewers_leave v w Below0800 h = refl
viewers_leave v w From0800 h = refl
viewers_leave v w TheViewers h = absurd (true≢false h)
viewers_leave v w (AllOf memory) h = refl

-- a tick of the watchdog leaves whether the Z80 runs
pub tick_runs : (m : Machine) → z80_runs (watchdog_tick m) ≡ z80_runs m
tick_runs m =
    either Runs (not (counts m)) _ _ (λ _. refl) (λ _. either Runs (ltb (m.count + 1) watch_ticks) _ _ (λ _. refl) (λ _. refl))
  where
    Runs : Machine → Type 0
    Runs n = z80_runs n ≡ z80_runs m

-- a drawing leaves every part but the picture, and a store with a picture but that and what it stores in; one that
-- serves viewers leaves the rest as well
drawing_leaves : (w : World) (part : Part) → has (AllOf Picture ∷ []) part ≡ false → Same part (after Draw w) w
drawing_leaves w part h = with_leaves Picture _ w refl part (apart (AllOf Picture) [] part h).0

-- a store of the 8088 leaves what it does not store in, where what it draws leaves it
stores_leave :
    {call : Call} {a b : ℕ} {refused : Bool} {drawn w : World} → Stores call a b refused drawn w
    → (part : Part) → has (stored_at (seen_8088 a)) part ≡ false → Same part drawn w → Same part (after call w) w
stores_leave {refused = true} {w = w} s part h same = same_by part _ w w w (s.stays refl) refl (same_refl part w)
stores_leave {a = a} {b = b} {refused = false} {drawn = drawn} {w = w} s part h same =
    let new = stored_in (seen_8088 a) b drawn in
    same_by part _ new w w (s.stored refl) refl (same_trans part new drawn w (stored_leaves (seen_8088 a) b drawn part h) same)

picture_leaves :
    (a b : ℕ) (w : World) (part : Part) → has (AllOf Picture ∷ stored_at (seen_8088 a)) part ≡ false
    → Same part (after (StoreWithPicture a b) w) w
picture_leaves a b w part h =
    let aside = apart (AllOf Picture) (stored_at (seen_8088 a)) part h in
    stores_leave (picture_mends a b w).stores part aside.1 (with_leaves Picture _ w refl part aside.0)

index_leaves :
    (a b : ℕ) (w : World) (part : Part) → has (AllOf Picture ∷ AllOf Index ∷ stored_at (seen_8088 a)) part ≡ false
    → Same part (after (StoreWithIndex a b) w) w
index_leaves a b w part h =
    let aside = apart (AllOf Picture) (AllOf Index ∷ stored_at (seen_8088 a)) part h in
    let beside = apart (AllOf Index) (stored_at (seen_8088 a)) part aside.1 in
    let renewed = with_bytes Index (renewed_in (named_in a w) a b w) w in
    stores_leave (index_mends a b w).stores part beside.1
    (same_trans part (drawn_with_index a b w) renewed w (with_leaves Picture _ renewed refl part aside.0)
    (with_leaves Index _ w refl part beside.0))

serving_leaves :
    (v : Viewers) (u w : World) (parts : List Part) (part : Part) → (has parts part ≡ false → Same part u w)
    → has (TheViewers ∷ parts) part ≡ false → Same part (with_viewers v u) w
serving_leaves v u w parts part leaves h =
    let aside = apart TheViewers parts part h in
    same_trans part (with_viewers v u) u w (viewers_leave v u part aside.0) (leaves aside.1)

pub changes_only : ChangesOnly
changes_only (Read8088 a) w part h = same_refl part w
changes_only (Store8088 a b) w part h = stores_leave (plain_stores a b w) part h (same_refl part w)
changes_only (ReadZ80 a) w part h = same_refl part w
changes_only (StoreZ80 a b) w part h = go (refused_z80 w) (is_private a) refl refl
  where
    go : (r p : Bool) → refused_z80 w ≡ r → is_private a ≡ p → Same part (after (StoreZ80 a b) w) w
    go true p e k = same_by part _ w w w (z80_refused a b w e) refl (same_refl part w)
    go false true e k =
        same_by part _ _ w w (z80_private a b w e k) refl (with_leaves Private _ w refl part (apart (AllOf Private) _ part h).0)
    go false false e k =
        let from = (apart (AllOf Private) _ part h).1 in
        same_by part _ _ w w (z80_shared a b w e k) refl (shared_leaves w a b part (rw (not_below a k) from))
changes_only (ReadShadow p) w part h = same_refl part w
changes_only (WriteShadow p b) w part h = with_leaves Shadow _ w refl part (apart (AllOf Shadow) [] part h).0
changes_only (WritePort p k) w part h =
    let left = write_port w.machine (w.bytes Shadow) (w.bytes Nvm) p k in
    let aside = apart TheMachine (Z80Bit ∷ AllOf Shadow ∷ AllOf Nvm ∷ []) part h in
    let bit = apart Z80Bit (AllOf Shadow ∷ AllOf Nvm ∷ []) part aside.1 in
    let later = apart (AllOf Shadow) (AllOf Nvm ∷ []) part bit.1 in
    let saved = with_bytes Nvm left.nvm w in
    let recalled = with_bytes Shadow left.shadow saved in
    same_trans part (after (WritePort p k) w) recalled w
    (machine_leaves left.answer.machine recalled part aside.0 (λ is. absurd (true≢false (rw is at bit).0))
    (λ _. port_reset w.machine (w.bytes Shadow) (w.bytes Nvm) p k))
    (same_trans part recalled saved w (with_leaves Shadow left.shadow saved refl part later.0)
    (with_leaves Nvm left.nvm w refl part (apart (AllOf Nvm) [] part later.1).0))
changes_only VerticalTick w part h = machine_leaves _ w part (apart TheMachine [] part h).0 (λ _. refl) (λ _. refl)
changes_only WatchdogTick w part h =
    let aside = apart TheMachine (InReset ∷ []) part h in
    let ticking = apart InReset [] part aside.1 in
    machine_leaves _ w part aside.0 (λ _. tick_runs w.machine) (λ is. absurd (true≢false (rw is at ticking).0))
changes_only Draw w part h = drawing_leaves w part h
changes_only (StoreWithPicture a b) w part h = picture_leaves a b w part h
changes_only IndexReaders w part h = with_leaves Index _ w refl part (apart (AllOf Index) [] part h).0
changes_only (StoreWithIndex a b) w part h = index_leaves a b w part h
changes_only DrawForViewers w part h = serving_leaves _ (after Draw w) w (AllOf Picture ∷ []) part (drawing_leaves w part) h
changes_only (StoreForViewers a b) w part h =
    serving_leaves _ (after (StoreWithPicture a b) w) w (AllOf Picture ∷ stored_at (seen_8088 a)) part (picture_leaves a b w part) h
changes_only (StoreWithIndexForViewers a b) w part h =
    serving_leaves _ (after (StoreWithIndex a b) w) w (AllOf Picture ∷ AllOf Index ∷ stored_at (seen_8088 a)) part (index_leaves a b w part) h
changes_only (Ask n) w part h = viewers_leave _ w part (apart TheViewers [] part h).0
changes_only (GlyphPart k) w part h = same_refl part w
changes_only (DrawLine r s) w part h = with_leaves Line _ w refl part (apart (AllOf Line) [] part h).0
changes_only ListLines w part h = with_leaves ScreenList _ w refl part (apart (AllOf ScreenList) [] part h).0
changes_only (Explain r k) w part h = same_refl part w

drawing_lengths : (w : World) (one : Memory) → length ((after Draw w).bytes one) ≡ length (w.bytes one)
drawing_lengths w one =
    with_length Picture _ w
    (either (λ (left : DrawnPicture). length left.picture ≡ length (w.bytes Picture))
    (refuses (refusal_drawing (w.bytes Screen) (w.bytes Attribute) (w.bytes Picture))) _ _ (λ _. refl)
    (λ e. picture_sized (chain_of w.machine (w.bytes Screen) (w.bytes Attribute)) (columns_fit w.machine)
    ∙ sym (accepted_picture w e)))
    one

-- a store of the 8088 leaves the lengths, where what it draws leaves them
stores_lengths :
    {call : Call} {a b : ℕ} {refused : Bool} {drawn w : World} → Stores call a b refused drawn w → (one : Memory)
    → (refused ≡ false → length (drawn.bytes one) ≡ length (w.bytes one)) → length ((after call w).bytes one) ≡ length (w.bytes one)
stores_lengths {refused = true} s one same = ap (λ (u : World). length (u.bytes one)) (s.stays refl)
stores_lengths {a = a} {b = b} {refused = false} {drawn = drawn} s one same =
    ap (λ (u : World). length (u.bytes one)) (s.stored refl) ∙ stored_length (seen_8088 a) b drawn one ∙ same refl

-- a mended picture is as long as it was
mended_length :
    (f a b : ℕ) (w : World) → refuses (picture_refusal a w) ≡ false → length (mended_in f a b w) ≡ length (w.bytes Picture)
mended_length f a b w e =
    let long = (accepts w.machine (w.bytes Shared) (w.bytes Screen) (w.bytes Attribute) (w.bytes Picture) a b e).0 in
    mended_sized (chain_after a b w) f (w.bytes Picture) (columns_fit w.machine) long ∙ sym long

picture_lengths : (a b : ℕ) (w : World) (one : Memory) → length ((after (StoreWithPicture a b) w).bytes one) ≡ length (w.bytes one)
picture_lengths a b w one =
    stores_lengths (picture_mends a b w).stores one (λ e. with_length Picture _ w (mended_length (reader_in a w) a b w e) one)

index_lengths : (a b : ℕ) (w : World) (one : Memory) → length ((after (StoreWithIndex a b) w).bytes one) ≡ length (w.bytes one)
index_lengths a b w one =
    stores_lengths (index_mends a b w).stores one (λ e.
    let f = named_in a w in
    let both =
    accepts_index w.machine (w.bytes Shared) (w.bytes Screen) (w.bytes Attribute) (w.bytes Picture) (w.bytes Index) a b e in
    with_length Picture _ (with_bytes Index (renewed_in f a b w) w) (mended_length f a b w both.1) one
    ∙ with_length Index _ w (renewed_sized (chain_after a b w) f (w.bytes Index) both.0 ∙ sym both.0) one)

pub lengths_stay : LengthsStay
lengths_stay (Read8088 a) w one = refl
lengths_stay (Store8088 a b) w one = stores_lengths (plain_stores a b w) one (λ _. refl)
lengths_stay (ReadZ80 a) w one = refl
lengths_stay (StoreZ80 a b) w one = go (refused_z80 w) (is_private a) refl refl
  where
    go : (r p : Bool) → refused_z80 w ≡ r → is_private a ≡ p → length ((after (StoreZ80 a b) w).bytes one) ≡ length (w.bytes one)
    go true p e k = ap (λ (u : World). length (u.bytes one)) (z80_refused a b w e)
    go false true e k =
        ap (λ (u : World). length (u.bytes one)) (z80_private a b w e k)
        ∙ with_length Private _ w (length-set (w.bytes Private) a b) one
    go false false e k =
        ap (λ (u : World). length (u.bytes one)) (z80_shared a b w e k)
        ∙ with_length Shared _ w (length-set (w.bytes Shared) a b) one
lengths_stay (ReadShadow p) w one = refl
lengths_stay (WriteShadow p b) w one =
    with_length Shadow _ w
    (either (λ (left : WrittenShadow). length left.shadow ≡ length (w.bytes Shadow)) (refuses (refusal_shadow w.machine (w.bytes Shadow) p)) _ _
    (λ _. refl) (λ _. length-set (w.bytes Shadow) p _))
    one
lengths_stay (WritePort p k) w one =
    let left = write_port w.machine (w.bytes Shadow) (w.bytes Nvm) p k in
    let sized = port_sized w p k in
    with_length Shadow left.shadow (with_bytes Nvm left.nvm w) sized.0 one ∙ with_length Nvm left.nvm w sized.1 one
lengths_stay VerticalTick w one = refl
lengths_stay WatchdogTick w one = refl
lengths_stay Draw w one = drawing_lengths w one
lengths_stay (StoreWithPicture a b) w one = picture_lengths a b w one
lengths_stay IndexReaders w one =
    with_length Index _ w
    (either (λ (left : IndexedReaders). length left.index ≡ length (w.bytes Index))
    (refuses (refusal_indexing (w.bytes Screen) (w.bytes Attribute) (w.bytes Index))) _ _ (λ _. refl)
    (λ e. entries_length _ index_bytes ∙ sym (accepted_index w e)))
    one
lengths_stay (StoreWithIndex a b) w one = index_lengths a b w one
lengths_stay DrawForViewers w one = drawing_lengths w one
lengths_stay (StoreForViewers a b) w one = picture_lengths a b w one
lengths_stay (StoreWithIndexForViewers a b) w one = index_lengths a b w one
lengths_stay (Ask n) w one = refl
lengths_stay (GlyphPart k) w one = refl
lengths_stay (DrawLine r s) w one =
    with_length Line _ w
    (either (λ (left : DrawnLine). length left.line ≡ length (w.bytes Line))
    (refuses (refusal_line (w.bytes Picture) (w.bytes Glyphs) r s (w.bytes Line))) _ _ (λ _. refl)
    (λ e. (line_sized w.machine (w.bytes Glyphs) (record_in (w.bytes Picture) r) s).1 ∙ sym (accepted_line w r s e)))
    one
lengths_stay ListLines w one =
    with_length ScreenList _ w
    (either (λ (left : Listed). length left.list ≡ length (w.bytes ScreenList))
    (refuses (refusal_list w.machine (w.bytes Picture) (w.bytes ScreenList))) _ _ (λ _. refl)
    (λ e.
    let both = accepted_list w e in
    (always_240 (kinds_in (w.bytes Picture)) (scroll_latch w.machine) both.1).0 ∙ sym both.0))
    one
lengths_stay (Explain r k) w one = refl
