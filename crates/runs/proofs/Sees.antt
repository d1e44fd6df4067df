-- What each call sees: the statement of specs/Reach.antt that a call goes by nothing else.
use Prim.Native.Nat.{ℕ, zero, suc, ◌+◌, ◌-◌}
use mathlib.Core.Path.{◌≡◌, refl, subst, sym, ap, ap₂, ◌∙◌}
use Rattle.std.specs.Prelude.{Option, Some, None}
use mathlib.Core.List.{List, [], ◌∷◌}
use mathlib.Core.Bool.{Bool, true, false, cond}
use native.Mathlib.Omega.{arith}
use lib.ListN.{length, set, take, drop, get_or}
use lib.Seq.{get_or-drop, drop-set-add, drop-set-lt}
use lib.Dec.{ltb}
use borrow.Author.Tests.{ltb-true, ltb-false}
use Rattle.lent.specs.Refusals.{accepted, refuses}
use Rattle.lent.proofs.Tests.{either}
use Rattle.machine.specs.Power.{vertical_tick}
use Rattle.machine.specs.Settings.{z80_runs}
use Rattle.machine.specs.Watchdog.{watchdog_tick}
use Rattle.machine.specs.declared.Machine.{Machine}
use Rattle.memories.specs.View8088.{seen_8088, refusal_8088, store_seen}
use Rattle.memories.specs.ViewZ80.{shared_from, is_private, seen_z80, refusal_z80, StoredZ80, store_z80}
use Rattle.memories.specs.declared.view8088.Seen.{Seen}
use Rattle.memories.specs.declared.view8088.Seen.TheVariants.{Shared as InShared, Screen as InScreen, Attribute as InAttribute}
use Rattle.memories.proofs.Laws.{access_by_reset, refusal_by_bit, is_accepted, store_refusal}
use Rattle.shadow.specs.Shadow.{refusal_shadow, WrittenShadow, write_shadow}
use Rattle.shadow.proofs.Laws.{place_by_reset}
use Rattle.diagnostic.specs.Diagnostic.{WrittenPort}
use Rattle.ports.specs.Ports.{write_port}
use Rattle.picture.specs.Draw.{refusal_drawing, refuse_drawing, DrawnPicture, draw}
use Rattle.index.specs.Index.{IndexedReaders, refusal_indexing, index_readers}
use Rattle.viewers.specs.Viewers.{added}
use Rattle.viewers.specs.declared.Viewers.{Viewers}
use Rattle.scan_line.specs.Call.{refusal_line, DrawnLine, draw_line}
use Rattle.whole_screen.specs.Call.{refusal_list, Listed, list_lines}
use Rattle.runs.specs.World.{Memory, Shared, Private, Screen, Attribute, Glyphs, Nvm, Shadow, Picture, Line, ScreenList, Index, is_memory, World, with_machine, with_viewers, with_bytes, Call, Answer, answered, drawn_answer, Read8088, Store8088, ReadZ80, StoreZ80, ReadShadow, WriteShadow, WritePort, VerticalTick, WatchdogTick, Draw, StoreWithPicture, IndexReaders, StoreWithIndex, DrawForViewers, StoreForViewers, StoreWithIndexForViewers, Ask, GlyphPart, DrawLine, ListLines, Explain, after, answer}
use Rattle.runs.specs.Reach.{Part, TheMachine, Z80Bit, InReset, Below0800, From0800, TheViewers, AllOf, has, has_memory, Same, Alike, SeesOnly}
use Rattle.runs.proofs.Worlds.{is_memory_lem, stored_in, Stores, plain_stores, refused_z80, z80_refused, z80_private, z80_shared, not_below, chain_after, mended_in, renewed_in, reader_in, named_in, mend_answer, Mends, picture_mends, index_mends}
use Rattle.runs.proofs.Reach.{same_by}

-- the first bytes after a store are those with the byte stored in them
take-set : (n : ℕ) (l : List ℕ) (i b : ℕ) → take n (set l i b) ≡ set (take n l) i b
take-set zero l i b = refl
take-set (suc n) [] i b = refl
take-set (suc n) (x ∷ l) zero b = refl
take-set (suc n) (x ∷ l) (suc i) b = ap (λ (k : List ℕ). x ∷ k) (take-set n l i b)

-- what lies from 0800 up stays the same where both hold another byte at a place
set_from :
    (l k : List ℕ) (place byte : ℕ) → drop shared_from l ≡ drop shared_from k
    → drop shared_from (set l place byte) ≡ drop shared_from (set k place byte)
set_from l k place byte e = go (ltb place shared_from) refl
  where
    go : (b : Bool) → ltb place shared_from ≡ b → drop shared_from (set l place byte) ≡ drop shared_from (set k place byte)
    go true h =
        let under = ltb-true place shared_from h in
        drop-set-lt shared_from l place byte under ∙ e ∙ sym (drop-set-lt shared_from k place byte under)
    go false h =
        let over = ltb-false place shared_from h in
        let at : place ≡ shared_from + (place - shared_from) = omega arith in
        rw at
        (drop-set-add shared_from l (place - shared_from) byte ∙ ap (λ (m : List ℕ). set m (place - shared_from) byte) e
        ∙ sym (drop-set-add shared_from k (place - shared_from) byte))

-- and is the same byte at each such address, so both show the Z80 the same byte
seen_same :
    (private l k : List ℕ) (a : ℕ) → drop shared_from l ≡ drop shared_from k → seen_z80 private l a ≡ seen_z80 private k a
unfolding seen_z80
seen_same private l k a e = go (is_private a) refl
  where
    go : (b : Bool) → is_private a ≡ b → cond b (get_or private a 0) (get_or l a 0) ≡ cond b (get_or private a 0) (get_or k a 0)
    go true h = refl
    go false h =
        let over = ltb-false a shared_from (not_below a h) in
        let at : a ≡ shared_from + (a - shared_from) = omega arith in
        rw at
        (sym (get_or-drop shared_from l (a - shared_from) 0) ∙ ap (λ (m : List ℕ). get_or m (a - shared_from) 0) e
        ∙ get_or-drop shared_from k (a - shared_from) 0)

-- two worlds in which one memory gets other bytes, the same if it was the same
module _ (memory : Memory) (x y : List ℕ) (w v : World) (new : Same (AllOf memory) w v → x ≡ y) where
  whole_alike : (one : Memory) → Same (AllOf one) w v → Same (AllOf one) (with_bytes memory x w) (with_bytes memory y v)
  whole_alike one s = go (is_memory one memory) refl
    where
      go : (b : Bool) → is_memory one memory ≡ b → cond b x (w.bytes one) ≡ cond b y (v.bytes one)
      go true h = new (subst (λ (m : Memory). w.bytes m ≡ v.bytes m) (is_memory_lem one memory h) s)
      go false h = s

  pub with_alike :
      is_memory Shared memory ≡ false → (part : Part) → Same part w v → Same part (with_bytes memory x w) (with_bytes memory y v)
  with_alike other TheMachine s = s
  with_alike other Z80Bit s = s
  with_alike other InReset s = s
  with_alike other Below0800 s = rw other s
  with_alike other From0800 s = rw other s
  with_alike other TheViewers s = s
  with_alike other (AllOf one) s = whole_alike one s

shared_alike :
    (place byte : ℕ) (w v : World) (part : Part) → Same part w v
    → Same part (with_bytes Shared (set (w.bytes Shared) place byte) w) (with_bytes Shared (set (v.bytes Shared) place byte) v)
shared_alike place byte w v TheMachine s = s
shared_alike place byte w v Z80Bit s = s
shared_alike place byte w v InReset s = s
shared_alike place byte w v Below0800 s =
    take-set shared_from (w.bytes Shared) place byte ∙ ap (λ (l : List ℕ). set l place byte) s
    ∙ sym (take-set shared_from (v.bytes Shared) place byte)
shared_alike place byte w v From0800 s = set_from (w.bytes Shared) (v.bytes Shared) place byte s
shared_alike place byte w v TheViewers s = s
shared_alike place byte w v (AllOf one) s =
    whole_alike Shared _ _ w v (λ e. ap (λ (l : List ℕ). set l place byte) e) one s

pub stored_alike :
    (seen : Option Seen) (byte : ℕ) (w v : World) (part : Part) → Same part w v → Same part (stored_in seen byte w) (stored_in seen byte v)
stored_alike (Some (InShared place)) byte w v part s = shared_alike place byte w v part s
stored_alike (Some (InScreen place)) byte w v part s =
    with_alike Screen _ _ w v (λ e. ap (λ (l : List ℕ). set l place byte) e) refl part s
stored_alike (Some (InAttribute place)) byte w v part s =
    with_alike Attribute _ _ w v (λ e. ap (λ (l : List ℕ). set l place byte) e) refl part s
stored_alike None byte w v part s = s

-- by what a store is refused goes by reset and the lengths that it is lent
pub refused_alike :
    (a : ℕ) (w v : World) → Same InReset w v → length (w.bytes Shared) ≡ length (v.bytes Shared)
    → length (w.bytes Screen) ≡ length (v.bytes Screen) → length (w.bytes Attribute) ≡ length (v.bytes Attribute)
    → refusal_8088 w.machine (w.bytes Shared) (w.bytes Screen) (w.bytes Attribute) a
    ≡ refusal_8088 v.machine (v.bytes Shared) (v.bytes Screen) (v.bytes Attribute) a
refused_alike a w v reset s c t = rw (s, c, t) (access_by_reset w.machine v.machine _ a reset)

-- what stores of the 8088 do to a part goes by that, by the part, and by what they draw
pub stores_alike :
    {call other : Call} {a b : ℕ} {refused test : Bool} {drawn drawn' w v : World} → Stores call a b refused drawn w
    → Stores other a b test drawn' v → refused ≡ test → (part : Part) → Same part w v
    → (refused ≡ false → Same part drawn drawn') → Same part (after call w) (after other v)
stores_alike {refused = true} {w = w} {v = v} s t e part same new = same_by part _ w _ v (s.stays refl) (t.stays (sym e)) same
stores_alike {a = a} {b = b} {refused = false} {drawn = drawn} {drawn' = drawn'} s t e part same new =
    same_by part _ (stored_in (seen_8088 a) b drawn) _ (stored_in (seen_8088 a) b drawn') (s.stored refl) (t.stored (sym e))
    (stored_alike (seen_8088 a) b drawn drawn' part (new refl))

-- and what they answer that mend the picture, by what they leave of it
pub mends_answer :
    {call other : Call} {a b refusal number : ℕ} {new new' : List ℕ} {drawn drawn' w v : World} → Mends call a b refusal new drawn w
    → Mends other a b number new' drawn' v → refusal ≡ number → Same (AllOf Picture) w v → (refuses refusal ≡ false → new ≡ new')
    → answer call w ≡ answer other v
mends_answer {refusal = refusal} {new = new} {new' = new'} {w = w} m n e p f =
    m.answers ∙ go (refuses refusal) refl ∙ rw (e, p) (sym n.answers)
  where
    go : (b : Bool) → refuses refusal ≡ b → mend_answer refusal (w.bytes Picture) new ≡ mend_answer refusal (w.bytes Picture) new'
    go true h = rw h
    go false h = rw (f h)

z80_alike :
    (a b : ℕ) (w v : World)
    → refusal_z80 w.machine (length (w.bytes Private)) (length (w.bytes Shared)) ≡ refusal_z80 v.machine (length (v.bytes Private)) (length (v.bytes Shared))
    → (part : Part) → Same part w v → Same part (after (StoreZ80 a b) w) (after (StoreZ80 a b) v)
z80_alike a b w v e part s = go (refused_z80 w) (is_private a) refl refl
  where
    go : (r p : Bool) → refused_z80 w ≡ r → is_private a ≡ p → Same part (after (StoreZ80 a b) w) (after (StoreZ80 a b) v)
    go true p h k = same_by part _ w _ v (z80_refused a b w h) (z80_refused a b v (sym (ap refuses e) ∙ h)) s
    go false true h k =
        same_by part _ _ _ _ (z80_private a b w h k) (z80_private a b v (sym (ap refuses e) ∙ h) k)
        (with_alike Private _ _ w v (λ f. ap (λ (l : List ℕ). set l a b) f) refl part s)
    go false false h k =
        same_by part _ _ _ _ (z80_shared a b w h k) (z80_shared a b v (sym (ap refuses e) ∙ h) k) (shared_alike a b w v part s)

machine_alike :
    (m n : Machine) (w v : World) → (Same TheMachine w v → m ≡ n) → (Same Z80Bit w v → z80_runs m ≡ z80_runs n)
    → (Same InReset w v → m.reset ≡ n.reset) → (part : Part) → Same part w v → Same part (with_machine m w) (with_machine n v)
machine_alike m n w v new bit reset TheMachine s = new s
machine_alike m n w v new bit reset Z80Bit s = bit s
machine_alike m n w v new bit reset InReset s = reset s
machine_alike m n w v new bit reset Below0800 s = s
machine_alike m n w v new bit reset From0800 s = s
machine_alike m n w v new bit reset TheViewers s = s
machine_alike m n w v new bit reset (AllOf memory) s = s

pub viewers_alike :
    (x y : Viewers) (w v : World) → (Same TheViewers w v → x ≡ y) → (part : Part) → Same part w v
    → Same part (with_viewers x w) (with_viewers y v)
viewers_alike x y w v new TheMachine s = s
viewers_alike x y w v new Z80Bit s = s
viewers_alike x y w v new InReset s = s
viewers_alike x y w v new Below0800 s = s
viewers_alike x y w v new From0800 s = s
viewers_alike x y w v new TheViewers s = new s
viewers_alike x y w v new (AllOf memory) s = s

-- the number that a call answers is that of its refusal
pub told :
    {O : Type 0} (number : O → ℕ) (refusal : ℕ) (x y : O) → number x ≡ refusal → number y ≡ accepted
    → number (cond (refuses refusal) x y) ≡ refusal
told number refusal x y p q =
    either (λ o. number o ≡ refusal) (refuses refusal) x y (λ _. p) (λ h. q ∙ sym (is_accepted refusal h))

pub z80_told :
    (m : Machine) (a b : ℕ) (private shared : List ℕ)
    → (store_z80 m private shared a b).refusal ≡ refusal_z80 m (length private) (length shared)
z80_told m a b private shared =
    told (λ (left : StoredZ80). left.refusal) (refusal_z80 m (length private) (length shared)) _ _ refl
    (either (λ (left : StoredZ80). left.refusal ≡ accepted) (is_private a) _ _ (λ _. refl) (λ _. refl))

pub shadow_told : (m : Machine) (p b : ℕ) (shadow : List ℕ) → (write_shadow m shadow p b).refusal ≡ refusal_shadow m shadow p
shadow_told m p b shadow = told (λ (left : WrittenShadow). left.refusal) (refusal_shadow m shadow p) _ _ refl refl

line_told :
    (m : Machine) (picture table : List ℕ) (r s : ℕ) (line : List ℕ)
    → (draw_line m picture table r s line).refusal ≡ refusal_line picture table r s line
line_told m picture table r s line =
    told (λ (left : DrawnLine). left.refusal) (refusal_line picture table r s line) _ _ refl refl

list_told : (m : Machine) (picture list : List ℕ) → (list_lines m picture list).refusal ≡ refusal_list m picture list
list_told m picture list = told (λ (left : Listed). left.refusal) (refusal_list m picture list) _ _ refl refl

pub index_told :
    (m : Machine) (screen attribute index : List ℕ)
    → (index_readers m screen attribute index).refusal ≡ refusal_indexing screen attribute index
index_told m screen attribute index =
    told (λ (left : IndexedReaders). left.refusal) (refusal_indexing screen attribute index) _ _ refl refl

-- a drawing answers the same, whatever the picture holds
drawing_alike :
    (m : Machine) (screen attribute p q : List ℕ) → length p ≡ length q
    → (draw m screen attribute p).answer ≡ (draw m screen attribute q).answer
drawing_alike m screen attribute p q e =
    rw e (go (refuses (refusal_drawing screen attribute q)) (refusal_drawing screen attribute q) _)
  where
    go :
        (b : Bool) (refusal : ℕ) (other : DrawnPicture)
        → (cond b (refuse_drawing refusal p) other).answer ≡ (cond b (refuse_drawing refusal q) other).answer
    go true refusal other = refl
    go false refusal other = refl

-- what a store leaves of screen and attribute memory goes by nothing in shared memory
aside_alike :
    (seen : Option Seen) (shared other screen attribute : List ℕ) (byte : ℕ)
    → let left = store_seen seen shared screen attribute byte in
    let right = store_seen seen other screen attribute byte in
    (left.screen ≡ right.screen) × (left.attribute ≡ right.attribute)
aside_alike (Some (InShared place)) shared other screen attribute byte = (refl, refl)
aside_alike (Some (InScreen place)) shared other screen attribute byte = (refl, refl)
aside_alike (Some (InAttribute place)) shared other screen attribute byte = (refl, refl)
aside_alike None shared other screen attribute byte = (refl, refl)

abbrev AsSeen : Call → (w v : World) → Type 0
AsSeen call w v = (answer call w ≡ answer call v) × ((part : Part) → Same part w v → Same part (after call w) (after call v))

-- a store that mends the picture answers the same, and leaves a part the same, if what it draws is
mends_alike :
    {call : Call} {a b refusal number : ℕ} {new new' : List ℕ} {drawn drawn' w v : World} → Mends call a b refusal new drawn w
    → Mends call a b number new' drawn' v → refusal ≡ number → Same (AllOf Picture) w v → new ≡ new'
    → ((part : Part) → Same part w v → Same part drawn drawn') → AsSeen call w v
mends_alike m n e p f drawn =
    (mends_answer m n e p (λ _. f), λ part s. stores_alike m.stores n.stores (ap refuses e) part s (λ _. drawn part s))

-- so does one that leaves the viewers, if its marks are added to theirs
serving_alike :
    (call : Call) (w v : World) → (after call w).viewers ≡ w.viewers → (after call v).viewers ≡ v.viewers → AsSeen call w v
    → let marks : World → ℕ = λ u. get_or (answer call u).numbers 0 0 in
    (part : Part) → Same part w v
    → Same part (with_viewers (added w.viewers (marks w)) (after call w)) (with_viewers (added v.viewers (marks v)) (after call v))
serving_alike call w v p q alike part s =
    viewers_alike _ _ (after call w) (after call v)
    (λ e. ap₂ added (sym p ∙ e ∙ q) (ap (λ (a : Answer). get_or a.numbers 0 0) alike.0)) part (alike.1 part s)

-- what a store with a picture, or with an index too, goes by
module _
    (a b : ℕ)
    (w v : World)
    (long : length (w.bytes Shared) ≡ length (v.bytes Shared))
    (m : Same TheMachine w v)
    (s : Same (AllOf Screen) w v)
    (t : Same (AllOf Attribute) w v)
    (p : Same (AllOf Picture) w v) where
  after_alike : chain_after a b w ≡ chain_after a b v
  after_alike =
      let aside = aside_alike (seen_8088 a) (w.bytes Shared) (v.bytes Shared) (v.bytes Screen) (v.bytes Attribute) b in
      rw (m, s, t, aside.0, aside.1)

  mended_alike : {f g : ℕ} → f ≡ g → mended_in f a b w ≡ mended_in g a b v
  mended_alike e = rw (e, after_alike, p)

  pictures_seen : AsSeen (StoreWithPicture a b) w v
  pictures_seen =
      let new = mended_alike {f = reader_in a w} {g = reader_in a v} (rw (m, s, t)) in
      mends_alike (picture_mends a b w) (picture_mends a b v) (rw (m, long, s, t, p)) p new (with_alike Picture _ _ w v (λ _. new) refl)

  indexes_seen : Same (AllOf Index) w v → AsSeen (StoreWithIndex a b) w v
  indexes_seen i =
      let new = mended_alike {f = named_in a w} {g = named_in a v} (rw i) in
      let named : renewed_in (named_in a w) a b w ≡ renewed_in (named_in a v) a b v = rw (after_alike, i) in
      mends_alike (index_mends a b w) (index_mends a b v) (rw (m, long, s, t, p, i)) p new
      (λ part same. with_alike Picture _ _ _ _ (λ _. new) refl part (with_alike Index _ _ w v (λ _. named) refl part same))

picture_seen : (a b : ℕ) (w v : World) → Alike (StoreWithPicture a b) w v → AsSeen (StoreWithPicture a b) w v
unfolding has has_memory
picture_seen a b w v c =
    pictures_seen a b w v (c.lengths Shared refl) (c.seen TheMachine refl) (c.seen (AllOf Screen) refl) (c.seen (AllOf Attribute) refl)
    (c.seen (AllOf Picture) refl)

index_seen : (a b : ℕ) (w v : World) → Alike (StoreWithIndex a b) w v → AsSeen (StoreWithIndex a b) w v
unfolding has has_memory
index_seen a b w v c =
    indexes_seen a b w v (c.lengths Shared refl) (c.seen TheMachine refl) (c.seen (AllOf Screen) refl) (c.seen (AllOf Attribute) refl)
    (c.seen (AllOf Picture) refl) (c.seen (AllOf Index) refl)

module _ (w v : World) (c : Alike Draw w v) where
  drawings_answer : answer Draw w ≡ answer Draw v
  unfolding has has_memory
  drawings_answer =
      rw (c.seen TheMachine refl, c.seen (AllOf Screen) refl, c.seen (AllOf Attribute) refl)
      (ap drawn_answer
      (drawing_alike v.machine (v.bytes Screen) (v.bytes Attribute) (w.bytes Picture) (v.bytes Picture) (c.lengths Picture refl)))

  drawings_alike : (part : Part) → Same part w v → Same part (after Draw w) (after Draw v)
  unfolding has has_memory
  drawings_alike =
      with_alike Picture _ _ w v (λ e. rw (c.seen TheMachine refl, c.seen (AllOf Screen) refl, c.seen (AllOf Attribute) refl, e)) refl

pub sees_only : SeesOnly
unfolding has has_memory
sees_only (Read8088 a) w v c = (
  rw (
    c.seen (AllOf Shared) refl,
    c.seen (AllOf Screen) refl,
    c.seen (AllOf Attribute) refl,
    access_by_reset w.machine v.machine _ a (c.seen InReset refl),
  ),
  λ part s. s,
)
sees_only (Store8088 a b) w v c =
    let same =
    refused_alike a w v (c.seen InReset refl) (c.lengths Shared refl) (c.lengths Screen refl) (c.lengths Attribute refl) in (
      ap (λ (n : ℕ). answered n [])
          (store_refusal w.machine (w.bytes Shared) (w.bytes Screen) (w.bytes Attribute) a b ∙ same
          ∙ sym (store_refusal v.machine (v.bytes Shared) (v.bytes Screen) (v.bytes Attribute) a b)),
      λ part s. stores_alike (plain_stores a b w) (plain_stores a b v) (ap refuses same) part s (λ _. s),
    )
sees_only (ReadZ80 a) w v c = (
  rw (
    c.seen (AllOf Private) refl,
    c.lengths Shared refl,
    refusal_by_bit w.machine v.machine (length (v.bytes Private)) (length (v.bytes Shared)) (c.seen Z80Bit refl),
    seen_same (v.bytes Private) (w.bytes Shared) (v.bytes Shared) a (c.seen From0800 refl),
  ),
  λ part s. s,
)
sees_only (StoreZ80 a b) w v c =
    let same : refusal_z80 w.machine (length (w.bytes Private)) (length (w.bytes Shared))
    ≡ refusal_z80 v.machine (length (v.bytes Private)) (length (v.bytes Shared)) =
    rw (c.lengths Private refl, c.lengths Shared refl)
    (refusal_by_bit w.machine v.machine (length (v.bytes Private)) (length (v.bytes Shared)) (c.seen Z80Bit refl)) in (
      ap (λ (n : ℕ). answered n [])
          (z80_told w.machine a b (w.bytes Private) (w.bytes Shared) ∙ same
          ∙ sym (z80_told v.machine a b (v.bytes Private) (v.bytes Shared))),
      z80_alike a b w v same,
    )
sees_only (ReadShadow p) w v c =
    (rw (c.seen (AllOf Shadow) refl, place_by_reset w.machine v.machine _ p (c.seen InReset refl)), λ part s. s)
sees_only (WriteShadow p b) w v c =
    let by_reset = place_by_reset w.machine v.machine (length (v.bytes Shadow)) p (c.seen InReset refl) in
    let same : refusal_shadow w.machine (w.bytes Shadow) p ≡ refusal_shadow v.machine (v.bytes Shadow) p =
    rw (c.lengths Shadow refl) by_reset in (
      ap (λ (n : ℕ). answered n [])
          (shadow_told w.machine p b (w.bytes Shadow) ∙ same ∙ sym (shadow_told v.machine p b (v.bytes Shadow))),
      with_alike Shadow _ _ w v (λ e. rw (e, by_reset)) refl,
    )
sees_only (WritePort p k) w v c =
    let left = write_port w.machine (w.bytes Shadow) (w.bytes Nvm) p k in
    let right = write_port v.machine (v.bytes Shadow) (v.bytes Nvm) p k in
    let same : left ≡ right = rw (c.seen TheMachine refl, c.seen (AllOf Shadow) refl, c.seen (AllOf Nvm) refl) in
    let saved = with_bytes Nvm left.nvm w in
    let saved' = with_bytes Nvm right.nvm v in (
      ap (λ (l : WrittenPort). answered l.answer.refusal []) same,
      λ part s. machine_alike _ _ _ _ (λ _. ap (λ (l : WrittenPort). l.answer.machine) same)
          (λ _. ap (λ (l : WrittenPort). z80_runs l.answer.machine) same)
          (λ _. ap (λ (l : WrittenPort). l.answer.machine.reset) same) part
          (with_alike Shadow _ _ saved saved' (λ _. ap (λ (l : WrittenPort). l.shadow) same) refl part
          (with_alike Nvm _ _ w v (λ _. ap (λ (l : WrittenPort). l.nvm) same) refl part s)),
    )
sees_only VerticalTick w v c = (refl, machine_alike _ _ w v (λ e. ap vertical_tick e) (λ e. e) (λ e. e))
sees_only WatchdogTick w v c =
    let same = ap watchdog_tick (c.seen TheMachine refl) in
    (refl, machine_alike _ _ w v (λ _. same) (λ _. ap z80_runs same) (λ _. ap (λ (m : Machine). m.reset) same))
sees_only Draw w v c = (drawings_answer w v c, drawings_alike w v c)
sees_only (StoreWithPicture a b) w v c = picture_seen a b w v c
sees_only IndexReaders w v c =
    let m = c.seen TheMachine refl in
    let screen = c.seen (AllOf Screen) refl in
    let attribute = c.seen (AllOf Attribute) refl in
    let same : refusal_indexing (w.bytes Screen) (w.bytes Attribute) (w.bytes Index) ≡ refusal_indexing (v.bytes Screen) (v.bytes Attribute) (v.bytes Index) =
    rw (screen, attribute, c.lengths Index refl) in (
      ap (λ (n : ℕ). answered n [])
          (index_told w.machine (w.bytes Screen) (w.bytes Attribute) (w.bytes Index) ∙ same
          ∙ sym (index_told v.machine (v.bytes Screen) (v.bytes Attribute) (v.bytes Index))),
      with_alike Index _ _ w v (λ e. rw (m, screen, attribute, e)) refl,
    )
sees_only (StoreWithIndex a b) w v c = index_seen a b w v c
sees_only DrawForViewers w v c =
    let alike : Alike Draw w v = record { lengths = c.lengths; seen = c.seen } in
    let same = drawings_answer w v alike in (
      same,
      λ part s. viewers_alike _ _ (after Draw w) (after Draw v)
          (λ e. rw (e, ap (λ (a : Answer). a.refusal) same)) part (drawings_alike w v alike part s),
    )
sees_only (StoreForViewers a b) w v c =
    let same = picture_seen a b w v (record { lengths = c.lengths; seen = c.seen }) in
    (same.0, serving_alike (StoreWithPicture a b) w v refl refl same)
sees_only (StoreWithIndexForViewers a b) w v c =
    let same = index_seen a b w v (record { lengths = c.lengths; seen = c.seen }) in
    (same.0, serving_alike (StoreWithIndex a b) w v refl refl same)
sees_only (Ask n) w v c =
    let same = c.seen TheViewers refl in
    (rw same, viewers_alike _ _ w v (λ _. rw same))
sees_only (GlyphPart k) w v c = (rw (c.seen (AllOf Glyphs) refl), λ part s. s)
sees_only (DrawLine r s) w v c =
    let m = c.seen TheMachine refl in
    let picture = c.seen (AllOf Picture) refl in
    let table = c.seen (AllOf Glyphs) refl in
    let same : refusal_line (w.bytes Picture) (w.bytes Glyphs) r s (w.bytes Line) ≡ refusal_line (v.bytes Picture) (v.bytes Glyphs) r s (v.bytes Line) =
    rw (picture, table, c.lengths Line refl) in (
      ap (λ (n : ℕ). answered n [])
          (line_told w.machine (w.bytes Picture) (w.bytes Glyphs) r s (w.bytes Line) ∙ same
          ∙ sym (line_told v.machine (v.bytes Picture) (v.bytes Glyphs) r s (v.bytes Line))),
      with_alike Line _ _ w v (λ e. rw (m, picture, table, e)) refl,
    )
sees_only ListLines w v c =
    let m = c.seen TheMachine refl in
    let picture = c.seen (AllOf Picture) refl in
    let same : refusal_list w.machine (w.bytes Picture) (w.bytes ScreenList) ≡ refusal_list v.machine (v.bytes Picture) (v.bytes ScreenList) =
    rw (m, picture, c.lengths ScreenList refl) in (
      ap (λ (n : ℕ). answered n [])
          (list_told w.machine (w.bytes Picture) (w.bytes ScreenList) ∙ same
          ∙ sym (list_told v.machine (v.bytes Picture) (v.bytes ScreenList))),
      with_alike ScreenList _ _ w v (λ e. rw (m, picture, e)) refl,
    )
sees_only (Explain r k) w v c =
    (rw (c.seen TheMachine refl, c.seen (AllOf Screen) refl, c.seen (AllOf Attribute) refl), λ part s. s)
