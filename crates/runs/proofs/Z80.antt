-- What a Z80 call leaves alone, and what a Z80 answer depends on: the statements of specs/Z80.antt.
use Prim.Native.Nat.{ℕ}
use mathlib.Core.Path.{◌≡◌, refl, sym, ap, ◌∙◌}
use mathlib.Core.List.{List, [], ◌∷◌}
use mathlib.Core.Bool.{Bool, true, false, not, cond, ◌&&◌, ◌||◌, and-false, true≢false, false≢true}
use native.Mathlib.Omega.{arith}
use lib.ListN.{length}
use lib.Dec.{eqb}
use borrow.Author.Tests.{eqb-true, ne_eqb, not-true}
use Rattle.lent.specs.Refusals.{refuses}
use Rattle.lent.proofs.Tests.{either}
use Rattle.machine.specs.Settings.{bit, z80_runs}
use Rattle.machine.specs.declared.Machine.{Machine}
use Rattle.machine.specs.declared.Written.{Written}
use Rattle.dc011.specs.Dc011.{write_dc011}
use Rattle.dc012.specs.Dc012.{write_dc012}
use Rattle.diagnostic.specs.Diagnostic.{WrittenPort, written_port, rises}
use Rattle.ports.specs.Ports.{refusal_port, watched}
use Rattle.memories.specs.View8088.{refused_access}
use Rattle.memories.proofs.Laws.{access_by_reset}
use Rattle.chain.proofs.Searching.{neither}
use Rattle.runs.specs.World.{Memory, Shared, Private, Screen, Attribute, Glyphs, Nvm, Shadow, Picture, Line, ScreenList, Index, is_memory, World, Call, Read8088, Store8088, ReadZ80, StoreZ80, ReadShadow, WriteShadow, WritePort, VerticalTick, WatchdogTick, Draw, StoreWithPicture, IndexReaders, StoreWithIndex, DrawForViewers, StoreForViewers, StoreWithIndexForViewers, Ask, GlyphPart, DrawLine, ListLines, Explain, after, answer}
use Rattle.runs.specs.Reach.{Part, TheMachine, Z80Bit, InReset, Below0800, From0800, TheViewers, AllOf, number_of_part, has, has_memory, Same, may_change}
use Rattle.runs.specs.Z80.{only_parts, only_memories, z80_lent, z80_sees, is_z80, ItsTwoCalls, OnlyItsOwn, runs_after, BitFromCode, CodeHas, Agree, unseen_by_z80, Turn, Both, LeftAlone, RightAlone, left, right, answers, SameBit, stores_in_both, SameLengths, SameAnswers, CodesHave, SameBitByCodes}
use Rattle.runs.proofs.Worlds.{is_memory_lem, plain_stores, drawn_with_picture, picture_mends, drawn_with_index, index_mends}
use Rattle.runs.proofs.Ports.{dc011_left, watched_held}
use Rattle.runs.proofs.Reach.{same_refl, tick_runs, changes_only, lengths_stay}
use Rattle.runs.proofs.Sees.{stores_alike, sees_only}

pub its_two_calls : ItsTwoCalls
unfolding only_parts only_memories has has_memory
its_two_calls address byte = (refl, refl)

-- what holds of these two holds of every call that is the Z80's
pub of_z80 :
    (P : Call → Type 0) → ((a : ℕ) → P (ReadZ80 a)) → ((a b : ℕ) → P (StoreZ80 a b)) → (call : Call) → is_z80 call ≡ true → P call
unfolding only_parts only_memories has has_memory
of_z80 P reads stores (ReadZ80 a) is = reads a
of_z80 P reads stores (StoreZ80 a b) is = stores a b
of_z80 P reads stores (Read8088 a) is = absurd (false≢true is)
of_z80 P reads stores (Store8088 a b) is = absurd (false≢true is)
of_z80 P reads stores (ReadShadow p) is = absurd (false≢true is)
of_z80 P reads stores (WriteShadow p b) is = absurd (false≢true is)
of_z80 P reads stores (WritePort p k) is = absurd (false≢true is)
of_z80 P reads stores VerticalTick is = absurd (false≢true is)
of_z80 P reads stores WatchdogTick is = absurd (false≢true is)
of_z80 P reads stores Draw is = absurd (false≢true is)
of_z80 P reads stores DrawForViewers is = absurd (false≢true is)
of_z80 P reads stores (StoreForViewers a b) is = absurd (false≢true is)
of_z80 P reads stores (Ask n) is = absurd (false≢true is)
of_z80 P reads stores (StoreWithPicture a b) is = absurd (false≢true is)
of_z80 P reads stores IndexReaders is = absurd (false≢true is)
of_z80 P reads stores (StoreWithIndex a b) is = absurd (false≢true is)
of_z80 P reads stores (StoreWithIndexForViewers a b) is = absurd (false≢true is)
of_z80 P reads stores (GlyphPart k) is = absurd (false≢true is)
of_z80 P reads stores (DrawLine r s) is = absurd (false≢true is)
of_z80 P reads stores ListLines is = absurd (false≢true is)
of_z80 P reads stores (Explain r k) is = absurd (false≢true is)

pub only_its_own : OnlyItsOwn
only_its_own call w part is h =
    of_z80 (λ (one : Call). Same part (after one w) w) (λ a. same_refl part w) (λ a b. changes_only (StoreZ80 a b) w part h) call is

pub bit_from_code : BitFromCode
bit_from_code w port code =
    either From (refuses (refusal_port m (length (w.bytes Shadow)) (length (w.bytes Nvm)) port)) _ _ (λ h. rw (h, and-false))
    (λ _. either From (eqb port 0x04) _ _
    (λ is. chip (write_dc011 m code) (ne_eqb port 0x0A (λ e. omega (arith, eqb-true port 0x04 is))) (dc011_left m code).held)
    (λ _. either From (eqb port 0x0A) _ _
    (λ is. rw is (either At0A (rises 6 m.held code && rises 7 m.held code) _ _ (λ _. refl) (λ _. refl)))
    (λ other. either From (eqb port 0x0C) _ _
    (λ _. chip (watched (write_dc012 m code) true) other (watched_held m code true))
    (λ _. chip (watched (write_dc012 m code) false) other (watched_held m code false)))))
  where
    m : Machine
    m = w.machine

    From : WrittenPort → Type 0
    From done = z80_runs done.answer.machine ≡ runs_after port code done.answer.refusal (z80_runs m)

    At0A : WrittenPort → Type 0
    At0A done = z80_runs done.answer.machine ≡ runs_after 0x0A code done.answer.refusal (z80_runs m)

    chip :
        (written : Written) → eqb port 0x0A ≡ false → written.machine.held ≡ m.held
        → From (written_port written (w.bytes Shadow) (w.bytes Nvm))
    chip written other held = rw (other, held)

-- a call keeps the bit if each code that it writes to port 0A has it
pub keeps_the_bit :
    (call : Call) (w : World) (runs : Bool) → z80_runs w.machine ≡ runs → CodeHas runs call → z80_runs (after call w).machine ≡ runs
keeps_the_bit (WritePort p k) w runs h codes =
    bit_from_code w p k ∙ go (eqb p 0x0A) (not (refuses (answer (WritePort p k) w).refusal)) refl
  where
    go : (at accepts : Bool) → eqb p 0x0A ≡ at → cond (at && accepts) (eqb (bit 0 k) 1) (z80_runs w.machine) ≡ runs
    go true true e = codes k (ap (λ (port : ℕ). WritePort port k) (eqb-true p 0x0A e))
    go true false e = h
    go false accepts e = h
keeps_the_bit (Store8088 a b) w runs h codes = h
keeps_the_bit (StoreWithPicture a b) w runs h codes = h
keeps_the_bit (Read8088 a) w runs h codes = h
keeps_the_bit (ReadZ80 a) w runs h codes = h
keeps_the_bit (StoreZ80 a b) w runs h codes = h
keeps_the_bit (ReadShadow p) w runs h codes = h
keeps_the_bit (WriteShadow p b) w runs h codes = h
keeps_the_bit VerticalTick w runs h codes = h
keeps_the_bit WatchdogTick w runs h codes = tick_runs w.machine ∙ h
keeps_the_bit Draw w runs h codes = h
keeps_the_bit DrawForViewers w runs h codes = h
keeps_the_bit (StoreForViewers a b) w runs h codes = h
keeps_the_bit IndexReaders w runs h codes = h
keeps_the_bit (StoreWithIndex a b) w runs h codes = h
keeps_the_bit (StoreWithIndexForViewers a b) w runs h codes = h
keeps_the_bit (Ask n) w runs h codes = h
keeps_the_bit (GlyphPart k) w runs h codes = h
keeps_the_bit (DrawLine r s) w runs h codes = h
keeps_the_bit ListLines w runs h codes = h
keeps_the_bit (Explain r k) w runs h codes = h

pub agree_sym : {w v : World} → Agree w v → Agree v w
agree_sym h =
    record { private = sym h.private; shared_length = sym h.shared_length; from0800 = sym h.from0800 }

pub agree_trans : {u w v : World} → Agree u w → Agree w v → Agree u v
agree_trans g h =
    record {
      private = g.private ∙ h.private;
      shared_length = g.shared_length ∙ h.shared_length;
      from0800 = g.from0800 ∙ h.from0800;
    }

-- a call that the Z80 cannot see leaves what a Z80 answer depends on
unseen : (call : Call) (w : World) → unseen_by_z80 call ≡ true → Agree (after call w) w
unseen call w h =
    let none = neither (may_change call (AllOf Private)) (may_change call From0800) (not-true _ h) in
    record {
      private = changes_only call w (AllOf Private) none.0;
      shared_length = lengths_stay call w Shared;
      from0800 = changes_only call w From0800 none.1;
    }

-- what a store of the 8088 does to a part goes by reset, the lengths and the address, if what it draws does not
module _ (a b : ℕ) (w v : World) (reset : Same InReset w v) (lengths : SameLengths w v) (part : Part) (same : Same part w v) where
  by_reset : (lent : Bool) → refuses (refused_access w.machine lent a) ≡ refuses (refused_access v.machine lent a)
  by_reset lent = ap refuses (access_by_reset w.machine v.machine lent a reset)

  pub stores_by_length : Same part (after (Store8088 a b) w) (after (Store8088 a b) v)
  stores_by_length =
      stores_alike (plain_stores a b w) (plain_stores a b v) (rw (lengths Shared, lengths Screen, lengths Attribute) (by_reset _)) part
      same (λ _. same)

  pub pictures_by_length :
      Same part (drawn_with_picture a b w) (drawn_with_picture a b v)
      → Same part (after (StoreWithPicture a b) w) (after (StoreWithPicture a b) v)
  pictures_by_length drawn =
      stores_alike (picture_mends a b w).stores (picture_mends a b v).stores
      (rw (lengths Shared, lengths Screen, lengths Attribute, lengths Picture) (by_reset _)) part same (λ _. drawn)

  pub indexes_by_length :
      Same part (drawn_with_index a b w) (drawn_with_index a b v)
      → Same part (after (StoreWithIndex a b) w) (after (StoreWithIndex a b) v)
  indexes_by_length drawn =
      stores_alike (index_mends a b w).stores (index_mends a b v).stores
      (rw (lengths Shared, lengths Screen, lengths Attribute, lengths Picture, lengths Index) (by_reset _)) part same (λ _. drawn)

first_of : (one rest : Bool) → one || false ≡ true → one || rest ≡ true
first_of true rest h = refl
first_of false rest h = absurd (false≢true h)

module _ (w v : World) (same : Agree w v) where
  -- the lengths of two worlds that agree are as long after a call as before it
  after_both :
      (call : Call) → Same (AllOf Private) (after call w) (after call v) → Same From0800 (after call w) (after call v)
      → Agree (after call w) (after call v)
  after_both call p f =
      record {
        private = p;
        shared_length = lengths_stay call w Shared ∙ same.shared_length ∙ sym (lengths_stay call v Shared);
        from0800 = f;
      }

  -- the memories that the Z80 is lent are as long in the one as in the other, and what it sees is the same
  as_long : (memory : Memory) → has_memory z80_lent memory ≡ true → length (w.bytes memory) ≡ length (v.bytes memory)
  unfolding has_memory
  as_long memory h = go (is_memory memory Private) (is_memory memory Shared) refl refl h
    where
      go :
          (p s : Bool) → is_memory memory Private ≡ p → is_memory memory Shared ≡ s → p || (s || false) ≡ true
          → length (w.bytes memory) ≡ length (v.bytes memory)
      go true s e f g = rw (is_memory_lem memory Private e) (ap length same.private)
      go false true e f g = rw (is_memory_lem memory Shared f) same.shared_length
      go false false e f g = absurd (false≢true g)

  sees_same : Same Z80Bit w v → (part : Part) → has z80_sees part ≡ true → Same part w v
  unfolding has
  sees_same bit TheMachine h = absurd (false≢true h)
  sees_same bit Z80Bit h = bit
  sees_same bit InReset h = absurd (false≢true h)
  sees_same bit Below0800 h = absurd (false≢true h)
  sees_same bit From0800 h = same.from0800
  sees_same bit TheViewers h = absurd (false≢true h)
  sees_same bit (AllOf Private) h = same.private
  sees_same bit (AllOf Shared) h = absurd (false≢true h)
  sees_same bit (AllOf Screen) h = absurd (false≢true h)
  sees_same bit (AllOf Attribute) h = absurd (false≢true h)
  sees_same bit (AllOf Glyphs) h = absurd (false≢true h)
  sees_same bit (AllOf Nvm) h = absurd (false≢true h)
  sees_same bit (AllOf Shadow) h = absurd (false≢true h)
  sees_same bit (AllOf Picture) h = absurd (false≢true h)
  sees_same bit (AllOf Line) h = absurd (false≢true h)
  sees_same bit (AllOf ScreenList) h = absurd (false≢true h)
  sees_same bit (AllOf Index) h = absurd (false≢true h)

  its_bit : Same Z80Bit w v → (part : Part) → has (Z80Bit ∷ []) part ≡ true → Same part w v
  unfolding has
  its_bit bit part h = sees_same bit part (first_of (eqb (number_of_part part) (number_of_part Z80Bit)) _ h)

  pub z80 :
      (call : Call) → Same Z80Bit w v → is_z80 call ≡ true
      → (answer call w ≡ answer call v) × Agree (after call w) (after call v)
  z80 call bit is = of_z80 (λ (one : Call). (answer one w ≡ answer one v) × Agree (after one w) (after one v)) reads stores call is
    where
      reads : (a : ℕ) → (answer (ReadZ80 a) w ≡ answer (ReadZ80 a) v) × Agree w v
      reads a = ((sees_only (ReadZ80 a) w v (record { lengths = as_long; seen = sees_same bit })).0, same)

      stores :
          (a b : ℕ)
          → (answer (StoreZ80 a b) w ≡ answer (StoreZ80 a b) v) × Agree (after (StoreZ80 a b) w) (after (StoreZ80 a b) v)
      stores a b =
          let both = sees_only (StoreZ80 a b) w v (record { lengths = as_long; seen = its_bit bit }) in
          (both.0, after_both (StoreZ80 a b) (both.1 (AllOf Private) same.private) (both.1 From0800 same.from0800))

  -- a call that the Z80 sees and that is not its own is a store of the 8088
  stores_in_both_lem :
      (call : Call) → is_z80 call ≡ false → unseen_by_z80 call ≡ false → Same InReset w v → SameLengths w v
      → Agree (after call w) (after call v)
  unfolding only_parts only_memories has has_memory
  stores_in_both_lem (Store8088 a b) is un reset lengths =
      after_both (Store8088 a b) (stores_by_length a b w v reset lengths (AllOf Private) same.private)
      (stores_by_length a b w v reset lengths From0800 same.from0800)
  stores_in_both_lem (StoreWithPicture a b) is un reset lengths =
      after_both (StoreWithPicture a b) (pictures_by_length a b w v reset lengths (AllOf Private) same.private same.private)
      (pictures_by_length a b w v reset lengths From0800 same.from0800 same.from0800)
  stores_in_both_lem (StoreForViewers a b) is un reset lengths =
      after_both (StoreForViewers a b) (pictures_by_length a b w v reset lengths (AllOf Private) same.private same.private)
      (pictures_by_length a b w v reset lengths From0800 same.from0800 same.from0800)
  stores_in_both_lem (StoreWithIndex a b) is un reset lengths =
      after_both (StoreWithIndex a b) (indexes_by_length a b w v reset lengths (AllOf Private) same.private same.private)
      (indexes_by_length a b w v reset lengths From0800 same.from0800 same.from0800)
  stores_in_both_lem (StoreWithIndexForViewers a b) is un reset lengths =
      after_both (StoreWithIndexForViewers a b) (indexes_by_length a b w v reset lengths (AllOf Private) same.private same.private)
      (indexes_by_length a b w v reset lengths From0800 same.from0800 same.from0800)
  stores_in_both_lem (ReadZ80 a) is un reset lengths = absurd (true≢false is)
  stores_in_both_lem (StoreZ80 a b) is un reset lengths = absurd (true≢false is)
  stores_in_both_lem (Read8088 a) is un reset lengths = absurd (true≢false un)
  stores_in_both_lem (ReadShadow p) is un reset lengths = absurd (true≢false un)
  stores_in_both_lem (WriteShadow p b) is un reset lengths = absurd (true≢false un)
  stores_in_both_lem (WritePort p k) is un reset lengths = absurd (true≢false un)
  stores_in_both_lem VerticalTick is un reset lengths = absurd (true≢false un)
  stores_in_both_lem WatchdogTick is un reset lengths = absurd (true≢false un)
  stores_in_both_lem Draw is un reset lengths = absurd (true≢false un)
  stores_in_both_lem DrawForViewers is un reset lengths = absurd (true≢false un)
  stores_in_both_lem IndexReaders is un reset lengths = absurd (true≢false un)
  stores_in_both_lem (Ask n) is un reset lengths = absurd (true≢false un)
  stores_in_both_lem (GlyphPart k) is un reset lengths = absurd (true≢false un)
  stores_in_both_lem (DrawLine r s) is un reset lengths = absurd (true≢false un)
  stores_in_both_lem ListLines is un reset lengths = absurd (true≢false un)
  stores_in_both_lem (Explain r k) is un reset lengths = absurd (true≢false un)

lengths_after : (call : Call) (w v : World) → SameLengths w v → SameLengths (after call w) (after call v)
lengths_after call w v lengths memory = lengths_stay call w memory ∙ lengths memory ∙ sym (lengths_stay call v memory)

-- one turn of a call that both make
both_turn :
    (call : Call) (later : Bool) (w v : World) → Agree w v → (is_z80 call ≡ true → Same Z80Bit w v)
    → (not (is_z80 call || unseen_by_z80 call) ≡ true → Same InReset w v)
    → (not (is_z80 call || unseen_by_z80 call) || later ≡ true → SameLengths w v) → Agree (after call w) (after call v)
both_turn call later w v same bit reset lengths = go (is_z80 call) (unseen_by_z80 call) refl refl reset lengths
  where
    go :
        (z u : Bool) → is_z80 call ≡ z → unseen_by_z80 call ≡ u → (not (z || u) ≡ true → Same InReset w v)
        → (not (z || u) || later ≡ true → SameLengths w v) → Agree (after call w) (after call v)
    go true u e f r g = (z80 w v same call (bit e) e).1
    go false true e f r g = agree_trans (unseen call w f) (agree_trans same (agree_sym (unseen call v f)))
    go false false e f r g = stores_in_both_lem w v same call e f (r refl) (g refl)

-- what is asked of all turns is asked of the later ones
later_lengths : (first later : Bool) {L : Type 0} → (first || later ≡ true → L) → later ≡ true → L
later_lengths true later lengths h = lengths refl
later_lengths false later lengths h = lengths h

pub same_answers : SameAnswers
same_answers [] w v same bits resets lengths = (refl, same)
same_answers (Both call ∷ turns) w v same bits resets lengths =
    let first = not (is_z80 call || unseen_by_z80 call) in
    let after_it = both_turn call (stores_in_both turns) w v same bits.0 resets.0 lengths in
    let rest =
    same_answers turns (after call w) (after call v) after_it bits.1 resets.1
    (λ h. lengths_after call w v (later_lengths first (stores_in_both turns) lengths h)) in
    (heard_same (is_z80 call) refl rest.0, rest.1)
  where
    heard_same :
        (z : Bool) → is_z80 call ≡ z
        → answers left turns (after call w) ≡ answers right turns (after call v)
        → cond z (answer call w ∷ answers left turns (after call w)) (answers left turns (after call w))
        ≡ cond z (answer call v ∷ answers right turns (after call v)) (answers right turns (after call v))
    heard_same true e later = rw ((z80 w v same call (bits.0 e) e).0, later)
    heard_same false e later = later
same_answers (LeftAlone call h ∷ turns) w v same bits resets lengths =
    same_answers turns (after call w) v (agree_trans (unseen call w h) same) bits.1 resets.1
    (λ g memory. lengths_stay call w memory ∙ lengths g memory)
same_answers (RightAlone call h ∷ turns) w v same bits resets lengths =
    same_answers turns w (after call v) (agree_trans same (agree_sym (unseen call v h))) bits.1 resets.1
    (λ g memory. lengths g memory ∙ sym (lengths_stay call v memory))

pub same_bit_by_codes : SameBitByCodes
same_bit_by_codes turns w v same codes = go turns (z80_runs w.machine) w v refl (sym same) codes
  where
    go :
        (turns : List Turn) (runs : Bool) (w v : World) → z80_runs w.machine ≡ runs → z80_runs v.machine ≡ runs
        → CodesHave runs turns → SameBit turns w v
    go [] runs w v p q codes = tt
    go (Both call ∷ turns) runs w v p q codes = (
      λ is. p ∙ sym q,
      go turns runs (after call w) (after call v) (keeps_the_bit call w runs p codes.0) (keeps_the_bit call v runs q codes.0)
          codes.1,
    )
    go (LeftAlone call h ∷ turns) runs w v p q codes =
        (λ is. absurd (false≢true is), go turns runs (after call w) v (keeps_the_bit call w runs p codes.0) q codes.1)
    go (RightAlone call h ∷ turns) runs w v p q codes =
        (λ is. absurd (false≢true is), go turns runs w (after call v) p (keeps_the_bit call v runs q codes.0) codes.1)
