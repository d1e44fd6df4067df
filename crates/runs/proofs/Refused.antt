-- A refused call changes nothing: the statement of specs/Refused.antt. Each outcome of a call's definition is either
-- accepted, or has what was lent as it was.
use Prim.Native.Nat.{ℕ}
use mathlib.Core.Path.{◌≡◌, refl, ap, ◌∙◌}
use mathlib.Core.List.{List, [], ◌∷◌}
use mathlib.Core.Bool.{Bool, true, false, not, cond, ◌&&◌}
use native.Mathlib.Omega.{arith}
use lib.ListN.{length}
use lib.Dec.{eqb, leb}
use borrow.Author.Tests.{ne_eqb}
use Rattle.lent.specs.Refusals.{accepted, refuses}
use Rattle.lent.specs.declared.ByteRead.{ByteRead}
use Rattle.lent.proofs.Tests.{either}
use Rattle.machine.specs.Written.{done}
use Rattle.machine.specs.declared.Machine.{Machine}
use Rattle.machine.specs.declared.Written.{Written}
use Rattle.memories.specs.View8088.{seen_8088, refusal_8088}
use Rattle.memories.specs.ViewZ80.{is_private, refusal_z80, StoredZ80}
use Rattle.memories.proofs.Laws.{seen_accepted}
use Rattle.shadow.specs.Shadow.{refusal_shadow, WrittenShadow}
use Rattle.dc011.specs.Dc011.{dc011_code, write_dc011}
use Rattle.dc012.specs.Dc012.{write_dc012}
use Rattle.diagnostic.specs.Diagnostic.{WrittenPort, written_port, write_diagnostic, rises}
use Rattle.ports.specs.Ports.{refusal_port, watched, write_port}
use Rattle.picture.specs.Draw.{refusal_drawing, DrawnPicture, chain_of}
use Rattle.index.specs.Index.{refusal_indexing, IndexedReaders}
use Rattle.viewers.specs.Viewers.{added, refusal_ask}
use Rattle.viewers.specs.declared.Asked.{Asked}
use Rattle.viewers.proofs.Laws.{none_added}
use Rattle.glyphs.specs.Glyphs.{glyph_part, part_refusal}
use Rattle.scan_line.specs.Call.{refusal_line, DrawnLine}
use Rattle.whole_screen.specs.Call.{refusal_list, Listed}
use Rattle.std.specs.Prelude.{Result}
use Rattle.explaining.specs.Explain.{why}
use Rattle.explaining.specs.Call.{refusal_explain}
use Rattle.explaining.specs.Numbers.{told}
use Rattle.explaining.specs.declared.Why.{Why}
use Rattle.explaining.proofs.Laws.{why_accepted}
use Rattle.runs.specs.World.{Memory, Shared, Private, Screen, Attribute, Glyphs, Nvm, Shadow, Picture, Line, ScreenList, Index, World, with_machine, with_viewers, with_bytes, Call, read_answer, drawn_answer, explained_answer, Read8088, Store8088, ReadZ80, StoreZ80, ReadShadow, WriteShadow, WritePort, VerticalTick, WatchdogTick, Draw, StoreWithPicture, IndexReaders, StoreWithIndex, DrawForViewers, StoreForViewers, StoreWithIndexForViewers, Ask, GlyphPart, DrawLine, ListLines, Explain, after, answer}
use Rattle.runs.specs.Refused.{AllZero, ChangesNothing}
use Rattle.runs.proofs.Worlds.{with_own, Stores, plain_stores, Mends, picture_mends, index_mends}

-- an answer that is refused reads no byte
abbrev Silent : ByteRead → Type 0
Silent r = (r.refusal ≡ accepted → ⊥) → AllZero (read_answer r).numbers

-- of a read: refused it has no byte, and accepted it is not refused
silent :
    (refusal byte : ℕ)
    → Silent (cond (refuses refusal) (record { refusal = refusal; byte = 0 }) (record { refusal = accepted; byte = byte }))
silent refusal byte = either Silent (refuses refusal) _ _ (λ _ h. (refl, tt)) (λ _ h. absurd (h refl))

-- a part that tells a refusal has no bytes
no_bytes : (part : List ℕ) → (part_refusal part ≡ accepted → ⊥) → AllZero part
unfolding part_refusal
no_bytes [] h = tt
no_bytes (byte ∷ part) h = absurd (h (rw (ne_eqb (length (byte ∷ part)) 0 (λ e. omega arith))))

module _ (w : World) where
  abbrev KeptPort : WrittenPort → Type 0
  KeptPort left =
      (left.answer.refusal ≡ accepted → ⊥)
      → with_machine left.answer.machine (with_bytes Shadow left.shadow (with_bytes Nvm left.nvm w)) ≡ w

  -- a chip's answer, with shadow and NVM as they were
  abbrev KeptChip : Written → Type 0
  KeptChip answer = KeptPort (written_port answer (w.bytes Shadow) (w.bytes Nvm))

  refused_kept : (refusal : ℕ) → KeptChip (record { refusal = refusal; machine = w.machine })
  refused_kept refusal h =
      ap (λ (u : World). with_bytes Shadow (w.bytes Shadow) u) (with_own Nvm (w.bytes Nvm) w refl)
      ∙ with_own Shadow (w.bytes Shadow) w refl

  -- one code of a list, accepted, and the codes after it
  listed : (test : Bool) (m : Machine) (other : Written) → KeptChip other → KeptChip (cond test (done m) other)
  listed test m other kept = either KeptChip test (done m) other (λ _ h. absurd (h refl)) (λ _. kept)

  dc011_kept : (code : ℕ) → KeptChip (write_dc011 w.machine code)
  dc011_kept code =
      either KeptChip (not (dc011_code code)) _ _ (λ _. refused_kept _)
      (λ _. listed (eqb code 0x00) _ _ (listed (eqb code 0x10) _ _ (listed (eqb code 0x20) _ _ (λ h. absurd (h refl)))))

  dc012_kept : (code : ℕ) → KeptChip (write_dc012 w.machine code)
  dc012_kept code =
      either KeptChip (leb 0x0C code) _ _ (λ _. refused_kept _)
      (λ _. listed (leb code 0x03) _ _
      (listed (leb code 0x07) _ _
      (listed (eqb code 0x08) _ _ (listed (eqb code 0x09) _ _ (listed (eqb code 0x0A) _ _ (λ h. absurd (h refl)))))))

  watched_kept : (code : ℕ) (enabled : Bool) → KeptChip (watched (write_dc012 w.machine code) enabled)
  watched_kept code enabled =
      either KeptChip (refuses (write_dc012 w.machine code).refusal) _ _ (λ _. dc012_kept code)
      (λ _. listed (enabled && (write_dc012 w.machine code).machine.watchdog) _ _ (λ h. absurd (h refl)))

  diagnostic_kept : (code : ℕ) → KeptPort (write_diagnostic w.machine (w.bytes Shadow) (w.bytes Nvm) code)
  diagnostic_kept code =
      either KeptPort (rises 6 w.machine.held code && rises 7 w.machine.held code) _ _ (λ _. refused_kept _)
      (λ _ h. absurd (h refl))

  port_kept : (port code : ℕ) → KeptPort (write_port w.machine (w.bytes Shadow) (w.bytes Nvm) port code)
  port_kept port code =
      either KeptPort (refuses (refusal_port w.machine (length (w.bytes Shadow)) (length (w.bytes Nvm)) port)) _ _
      (λ _. refused_kept _)
      (λ _. either KeptPort (eqb port 0x04) _ _ (λ _. dc011_kept code)
      (λ _. either KeptPort (eqb port 0x0A) _ _ (λ _. diagnostic_kept code)
      (λ _. either KeptPort (eqb port 0x0C) _ _ (λ _. watched_kept code true) (λ _. watched_kept code false))))

-- what is to be shown of a call
abbrev Nothing : Call → World → Type 0
Nothing call w = ((answer call w).refusal ≡ accepted → ⊥) → (after call w ≡ w) × AllZero (answer call w).numbers

drawing_nothing : (w : World) → Nothing Draw w
drawing_nothing w h =
    either Kept (refuses (refusal_drawing (w.bytes Screen) (w.bytes Attribute) (w.bytes Picture))) _ _
    (λ _ g. (with_own Picture (w.bytes Picture) w refl, (refl, (refl, (refl, tt))))) (λ _ g. absurd (g refl)) h
  where
    Kept : DrawnPicture → Type 0
    Kept left =
        (left.answer.refusal ≡ accepted → ⊥)
        → (with_bytes Picture left.picture w ≡ w) × AllZero (drawn_answer left.answer).numbers

-- a call that may change one memory
one_nothing :
    {O : Type 0} (number : O → ℕ) (bytes : O → List ℕ) (memory : Memory) (w : World) (refusal : ℕ) (x y : O)
    → bytes x ≡ w.bytes memory → number y ≡ accepted → (number (cond (refuses refusal) x y) ≡ accepted → ⊥)
    → (with_bytes memory (bytes (cond (refuses refusal) x y)) w ≡ w) × AllZero []
one_nothing number bytes memory w refusal x y same accepts h = (
  either (λ o. (number o ≡ accepted → ⊥) → with_bytes memory (bytes o) w ≡ w) (refuses refusal) x y
      (λ _ g. with_own memory (bytes x) w same) (λ _ g. absurd (g accepts)) h,
  tt,
)

-- a store of the 8088
store_nothing :
    {call : Call} {a b : ℕ} {refused : Bool} {drawn w : World} → Stores call a b refused drawn w
    → (refused ≡ true → AllZero (answer call w).numbers) → (refused ≡ false → (answer call w).refusal ≡ accepted) → Nothing call w
store_nothing {refused = true} s zeros accepts h = (s.stays refl, zeros refl)
store_nothing {refused = false} s zeros accepts h = absurd (h (accepts refl))

mends_nothing :
    {call : Call} {a b refusal : ℕ} {new : List ℕ} {drawn w : World} → Mends call a b refusal new drawn w → Nothing call w
mends_nothing m = store_nothing m.stores (λ e. rw (m.answers, e) (refl, tt)) (λ e. rw (m.answers, e))

-- one that adds its marks to those of the viewers
serving_nothing :
    (marks : ℕ) (u w : World) → (u ≡ w) × AllZero (marks ∷ [])
    → (with_viewers (added w.viewers marks) u ≡ w) × AllZero (marks ∷ [])
serving_nothing marks u w none = (rw (none.1.0, none_added w.viewers) (ap (with_viewers w.viewers) none.0), none.1)

pub changes_nothing : ChangesNothing
changes_nothing (Read8088 a) w h =
    (refl, silent (refusal_8088 w.machine (w.bytes Shared) (w.bytes Screen) (w.bytes Attribute) a) _ h)
changes_nothing (Store8088 a b) w h =
    store_nothing (plain_stores a b w) (λ _. tt)
    (λ e. rw e (seen_accepted (seen_8088 a) (w.bytes Shared) (w.bytes Screen) (w.bytes Attribute) b)) h
changes_nothing (ReadZ80 a) w h =
    (refl, silent (refusal_z80 w.machine (length (w.bytes Private)) (length (w.bytes Shared))) _ h)
changes_nothing (StoreZ80 a b) w h =
    either Kept (refuses (refusal_z80 w.machine (length (w.bytes Private)) (length (w.bytes Shared)))) _ _
    (λ _ g. (
      ap (with_bytes Private (w.bytes Private)) (with_own Shared (w.bytes Shared) w refl) ∙ with_own Private (w.bytes Private) w refl,
      tt,
    ))
    (λ _. either Kept (is_private a) _ _ (λ _ g. absurd (g refl)) (λ _ g. absurd (g refl))) h
  where
    Kept : StoredZ80 → Type 0
    Kept left =
        (left.refusal ≡ accepted → ⊥)
        → (with_bytes Private left.private (with_bytes Shared left.shared w) ≡ w) × AllZero []
changes_nothing (ReadShadow p) w h = (refl, silent (refusal_shadow w.machine (w.bytes Shadow) p) _ h)
changes_nothing (WriteShadow p b) w h =
    one_nothing (λ (left : WrittenShadow). left.refusal) (λ (left : WrittenShadow). left.shadow) Shadow w
    (refusal_shadow w.machine (w.bytes Shadow) p) _ _ refl refl h
changes_nothing (WritePort p k) w h = (port_kept w p k h, tt)
changes_nothing VerticalTick w h = absurd (h refl)
changes_nothing WatchdogTick w h = absurd (h refl)
changes_nothing Draw w h = drawing_nothing w h
changes_nothing (StoreWithPicture a b) w h = mends_nothing (picture_mends a b w) h
changes_nothing IndexReaders w h =
    one_nothing (λ (left : IndexedReaders). left.refusal) (λ (left : IndexedReaders). left.index) Index w
    (refusal_indexing (w.bytes Screen) (w.bytes Attribute) (w.bytes Index)) _ _ refl refl h
changes_nothing (StoreWithIndex a b) w h = mends_nothing (index_mends a b w) h
changes_nothing DrawForViewers w h =
    let none = drawing_nothing w h in
    (rw (ne_eqb (answer Draw w).refusal accepted h) (ap (with_viewers w.viewers) none.0), none.1)
changes_nothing (StoreForViewers a b) w h = serving_nothing _ _ w (mends_nothing (picture_mends a b w) h)
changes_nothing (StoreWithIndexForViewers a b) w h = serving_nothing _ _ w (mends_nothing (index_mends a b w) h)
changes_nothing (Ask n) w h =
    either Kept (refuses (refusal_ask n)) _ _ (λ _ g. (refl, (refl, tt))) (λ _ g. absurd (g refl)) h
  where
    Kept : Asked → Type 0
    Kept asked = (asked.refusal ≡ accepted → ⊥) → (with_viewers asked.viewers w ≡ w) × AllZero (asked.marks ∷ [])
changes_nothing (GlyphPart k) w h = (refl, no_bytes (glyph_part (w.bytes Glyphs) k) h)
changes_nothing (DrawLine r s) w h =
    one_nothing (λ (left : DrawnLine). left.refusal) (λ (left : DrawnLine). left.line) Line w
    (refusal_line (w.bytes Picture) (w.bytes Glyphs) r s (w.bytes Line)) _ _ refl refl h
changes_nothing ListLines w h =
    one_nothing (λ (left : Listed). left.refusal) (λ (left : Listed). left.list) ScreenList w
    (refusal_list w.machine (w.bytes Picture) (w.bytes ScreenList)) _ _ refl refl h
changes_nothing (Explain r k) w h = (
  refl,
  either Kept (refuses (refusal_explain (w.bytes Screen) (w.bytes Attribute) r k)) _ _
      (λ _ g. (refl, (refl, (refl, (refl, (refl, (refl, tt)))))))
      (λ _ g. absurd (g (why_accepted (why (chain_of w.machine (w.bytes Screen) (w.bytes Attribute)) r k)))) h,
)
  where
    Kept : Result Why ℕ → Type 0
    Kept outcome = ((told outcome).refusal ≡ accepted → ⊥) → AllZero (explained_answer (told outcome)).numbers
