-- Laws about worlds: memories are told apart by their numbers, a world with the bytes that it had is the same, and what
-- the 8088's stores leave is a world with one byte changed, or none, beside what is drawn there.
use Prim.Native.Nat.{ℕ, zero, suc}
use mathlib.Core.Path.{◌≡◌, refl, sym, ap, ◌∙◌, fun_ext}
use Rattle.std.specs.Prelude.{Option, Some, None}
use mathlib.Core.List.{List, [], ◌∷◌}
use mathlib.Core.Bool.{Bool, true, false, cond}
use lib.ListN.{length, set, length-set}
use lib.Dec.{ltb}
use borrow.Author.Tests.{eqb-true}
use Rattle.lent.specs.Refusals.{accepted, refuses}
use Rattle.lent.proofs.Tests.{either}
use Rattle.memories.specs.View8088.{seen_8088, refusal_8088, store_seen, Stored8088}
use Rattle.memories.specs.ViewZ80.{shared_from, is_private, refusal_z80}
use Rattle.memories.specs.declared.view8088.Seen.{Seen}
use Rattle.memories.specs.declared.view8088.Seen.TheVariants.{Shared as InShared, Screen as InScreen, Attribute as InAttribute}
use Rattle.memories.proofs.Laws.{is_accepted}
use Rattle.chain.specs.Chain.{Chain}
use Rattle.picture.specs.Draw.{chain_of}
use Rattle.readers.specs.Readers.{first_reader}
use Rattle.mending.specs.Mending.{mended, marks_of}
use Rattle.mending.specs.Store.{refusal_with_picture}
use Rattle.index.specs.Store.{first_in, renewed, refusal_with_index}
use Rattle.runs.specs.World.{Memory, Shared, Private, Screen, Attribute, Glyphs, Nvm, Shadow, Picture, Line, ScreenList, Index, number_of, is_memory, World, with_bytes, Call, Store8088, StoreZ80, StoreWithPicture, StoreWithIndex, Answer, answered, after, answer}

memories : List Memory
memories = Shared ∷ Private ∷ Screen ∷ Attribute ∷ Glyphs ∷ Nvm ∷ Shadow ∷ Picture ∷ Line ∷ ScreenList ∷ Index ∷ []

nth : List Memory → ℕ → Memory
nth [] n = Shared
nth (memory ∷ rest) zero = memory
nth (memory ∷ rest) (suc n) = nth rest n

back : (memory : Memory) → nth memories (number_of memory) ≡ memory
unfolding memories nth
back Shared = refl
back Private = refl
back Screen = refl
back Attribute = refl
back Glyphs = refl
back Nvm = refl
back Shadow = refl
back Picture = refl
back Line = refl
back ScreenList = refl
back Index = refl

pub is_memory_lem : (one other : Memory) → is_memory one other ≡ true → one ≡ other
is_memory_lem one other h = sym (back one) ∙ ap (nth memories) (eqb-true (number_of one) (number_of other) h) ∙ back other

-- a memory of a world with other bytes in one
pub bytes_with :
    (P : List ℕ → Type 0) (memory one : Memory) (new : List ℕ) (w : World)
    → (one ≡ memory → P new) → (is_memory one memory ≡ false → P (w.bytes one)) → P ((with_bytes memory new w).bytes one)
bytes_with P memory one new w f g = go (is_memory one memory) refl
  where
    go : (b : Bool) → is_memory one memory ≡ b → P (cond b new (w.bytes one))
    go true h = f (is_memory_lem one memory h)
    go false h = g h

pub with_own : (memory : Memory) (new : List ℕ) (w : World) → new ≡ w.bytes memory → with_bytes memory new w ≡ w
with_own memory new w e =
    ap (λ (bytes : Memory → List ℕ). record { machine = w.machine; viewers = w.viewers; bytes = bytes })
    (fun_ext (λ one. bytes_with (λ (l : List ℕ). l ≡ w.bytes one) memory one new w (λ is. e ∙ ap w.bytes (sym is)) (λ _. refl)))

-- the world with the three memories that a store of the 8088 left
abbrev pub left_8088 : Stored8088 → World → World
left_8088 left w =
    with_bytes Shared left.shared (with_bytes Screen left.screen (with_bytes Attribute left.attribute w))

abbrev pub stored_in : Option Seen → (byte : ℕ) → World → World
stored_in (Some (InShared place)) byte w = with_bytes Shared (set (w.bytes Shared) place byte) w
stored_in (Some (InScreen place)) byte w = with_bytes Screen (set (w.bytes Screen) place byte) w
stored_in (Some (InAttribute place)) byte w = with_bytes Attribute (set (w.bytes Attribute) place byte) w
stored_in None byte w = w

pub none_stored :
    (shared screen attribute : List ℕ) (refusal : ℕ) (w : World) → shared ≡ w.bytes Shared → screen ≡ w.bytes Screen
    → attribute ≡ w.bytes Attribute
    → left_8088 (record { refusal = refusal; shared = shared; screen = screen; attribute = attribute }) w ≡ w
none_stored shared screen attribute refusal w s c a =
    ap (λ (u : World). with_bytes Shared shared (with_bytes Screen screen u)) (with_own Attribute attribute w a)
    ∙ ap (with_bytes Shared shared) (with_own Screen screen w c) ∙ with_own Shared shared w s

-- so a world in which nothing new is drawn, with the memories that it had
as_drawn :
    {drawn : World} (w : World) → drawn ≡ w
    → with_bytes Shared (w.bytes Shared) (with_bytes Screen (w.bytes Screen) (with_bytes Attribute (w.bytes Attribute) drawn)) ≡ w
as_drawn w e =
    ap (λ (u : World). with_bytes Shared (w.bytes Shared) (with_bytes Screen (w.bytes Screen) (with_bytes Attribute (w.bytes Attribute) u))) e
    ∙ none_stored (w.bytes Shared) (w.bytes Screen) (w.bytes Attribute) 0 w refl refl refl

pub stored_in_lem :
    (seen : Option Seen) (byte : ℕ) (w : World)
    → left_8088 (store_seen seen (w.bytes Shared) (w.bytes Screen) (w.bytes Attribute) byte) w ≡ stored_in seen byte w
stored_in_lem (Some (InShared place)) byte w =
    let new = set (w.bytes Shared) place byte in
    ap (λ (u : World). with_bytes Shared new (with_bytes Screen (w.bytes Screen) u)) (with_own Attribute (w.bytes Attribute) w refl)
    ∙ ap (with_bytes Shared new) (with_own Screen (w.bytes Screen) w refl)
stored_in_lem (Some (InScreen place)) byte w =
    let new = set (w.bytes Screen) place byte in
    ap (λ (u : World). with_bytes Shared (w.bytes Shared) (with_bytes Screen new u)) (with_own Attribute (w.bytes Attribute) w refl)
    ∙ with_own Shared (w.bytes Shared) (with_bytes Screen new w) refl
stored_in_lem (Some (InAttribute place)) byte w =
    let new = with_bytes Attribute (set (w.bytes Attribute) place byte) w in
    ap (with_bytes Shared (w.bytes Shared)) (with_own Screen (w.bytes Screen) new refl)
    ∙ with_own Shared (w.bytes Shared) new refl
stored_in_lem None byte w = none_stored (w.bytes Shared) (w.bytes Screen) (w.bytes Attribute) 0 w refl refl refl

-- a memory that is as long as it was leaves every length
pub with_length :
    (memory : Memory) (new : List ℕ) (w : World) → length new ≡ length (w.bytes memory)
    → (one : Memory) → length ((with_bytes memory new w).bytes one) ≡ length (w.bytes one)
with_length memory new w e one =
    bytes_with (λ (l : List ℕ). length l ≡ length (w.bytes one)) memory one new w
    (λ is. e ∙ ap (λ (m : Memory). length (w.bytes m)) (sym is)) (λ _. refl)

pub stored_length :
    (seen : Option Seen) (byte : ℕ) (w : World) (one : Memory) → length ((stored_in seen byte w).bytes one) ≡ length (w.bytes one)
stored_length (Some (InShared place)) byte w one = with_length Shared _ w (length-set (w.bytes Shared) place byte) one
stored_length (Some (InScreen place)) byte w one = with_length Screen _ w (length-set (w.bytes Screen) place byte) one
stored_length (Some (InAttribute place)) byte w one = with_length Attribute _ w (length-set (w.bytes Attribute) place byte) one
stored_length None byte w one = refl

-- what a store of the 8088 leaves: the world as it was where it is refused, and else one with what it draws and with the
-- byte stored
pub record Stores (call : Call) (address byte : ℕ) (refused : Bool) (drawn w : World) : Type 0 where
  pub stays : refused ≡ true → after call w ≡ w
  pub stored : refused ≡ false → after call w ≡ stored_in (seen_8088 address) byte drawn

abbrev pub refused_8088 : (address : ℕ) → World → Bool
refused_8088 address w = refuses (refusal_8088 w.machine (w.bytes Shared) (w.bytes Screen) (w.bytes Attribute) address)

pub plain_stores : (address byte : ℕ) (w : World) → Stores (Store8088 address byte) address byte (refused_8088 address w) w w
plain_stores address byte w =
    record {
      stays = λ e. rw e (none_stored (w.bytes Shared) (w.bytes Screen) (w.bytes Attribute) 0 w refl refl refl);
      stored = λ e. rw e (stored_in_lem (seen_8088 address) byte w);
    }

abbrev pub refused_z80 : World → Bool
refused_z80 w = refuses (refusal_z80 w.machine (length (w.bytes Private)) (length (w.bytes Shared)))

pub z80_refused : (address byte : ℕ) (w : World) → refused_z80 w ≡ true → after (StoreZ80 address byte) w ≡ w
z80_refused address byte w e =
    rw e
    (ap (with_bytes Private (w.bytes Private)) (with_own Shared (w.bytes Shared) w refl)
    ∙ with_own Private (w.bytes Private) w refl)

pub z80_private :
    (address byte : ℕ) (w : World) → refused_z80 w ≡ false → is_private address ≡ true
    → after (StoreZ80 address byte) w ≡ with_bytes Private (set (w.bytes Private) address byte) w
z80_private address byte w e k =
    rw (e, k) (ap (with_bytes Private (set (w.bytes Private) address byte)) (with_own Shared (w.bytes Shared) w refl))

pub z80_shared :
    (address byte : ℕ) (w : World) → refused_z80 w ≡ false → is_private address ≡ false
    → after (StoreZ80 address byte) w ≡ with_bytes Shared (set (w.bytes Shared) address byte) w
z80_shared address byte w e k =
    rw (e, k) (with_own Private (w.bytes Private) (with_bytes Shared (set (w.bytes Shared) address byte) w) refl)

-- an address that is not private is in shared memory from 0800 on
pub not_below : (address : ℕ) → is_private address ≡ false → ltb address shared_from ≡ false
unfolding is_private
not_below address h = h

-- the picture and the index that an accepted store leaves which mends from a row
abbrev pub chain_after : (address byte : ℕ) → World → Chain
chain_after address byte w =
    let left = store_seen (seen_8088 address) (w.bytes Shared) (w.bytes Screen) (w.bytes Attribute) byte in
    chain_of w.machine left.screen left.attribute

abbrev pub mended_in : (f address byte : ℕ) → World → List ℕ
mended_in f address byte w = mended (chain_after address byte w) f (w.bytes Picture)

abbrev pub renewed_in : (f address byte : ℕ) → World → List ℕ
renewed_in f address byte w = renewed (chain_after address byte w) f (w.bytes Index)

-- from which row: by the walk, or by the index
abbrev pub reader_in : (address : ℕ) → World → ℕ
reader_in address w = first_reader (chain_of w.machine (w.bytes Screen) (w.bytes Attribute)) (seen_8088 address)

abbrev pub named_in : (address : ℕ) → World → ℕ
named_in address w = first_in (w.bytes Index) (seen_8088 address)

-- what a store answers that leaves another picture
abbrev pub mend_answer : (refusal : ℕ) → (old new : List ℕ) → Answer
mend_answer refusal old new =
    cond (refuses refusal) (answered refusal (0 ∷ [])) (answered accepted (marks_of old new ∷ []))

-- a store that mends the picture
pub record Mends (call : Call) (address byte refusal : ℕ) (new : List ℕ) (drawn w : World) : Type 0 where
  pub stores : Stores call address byte (refuses refusal) drawn w
  pub answers : answer call w ≡ mend_answer refusal (w.bytes Picture) new

mends_so :
    (call : Call) (address byte refusal : ℕ) (new : List ℕ) (drawn w : World)
    → (refuses refusal ≡ true → (answer call w ≡ answered refusal (0 ∷ [])) × (after call w ≡ w))
    → (refuses refusal ≡ false
    → (answer call w ≡ answered accepted (marks_of (w.bytes Picture) new ∷ []))
    × (after call w
    ≡ left_8088 (store_seen (seen_8088 address) (drawn.bytes Shared) (drawn.bytes Screen) (drawn.bytes Attribute) byte) drawn))
    → Mends call address byte refusal new drawn w
mends_so call address byte refusal new drawn w stays goes_on =
    record {
      stores =
          record { stays = λ e. (stays e).1; stored = λ e. (goes_on e).1 ∙ stored_in_lem (seen_8088 address) byte drawn };
      answers = go (refuses refusal) refl;
    }
  where
    go : (b : Bool) → refuses refusal ≡ b → answer call w ≡ mend_answer refusal (w.bytes Picture) new
    go true e = (stays e).0 ∙ rw e refl
    go false e = (goes_on e).0 ∙ rw e refl

abbrev pub picture_refusal : (address : ℕ) → World → ℕ
picture_refusal address w =
    refusal_with_picture w.machine (w.bytes Shared) (w.bytes Screen) (w.bytes Attribute) (w.bytes Picture) address

abbrev pub drawn_with_picture : (address byte : ℕ) → World → World
drawn_with_picture address byte w = with_bytes Picture (mended_in (reader_in address w) address byte w) w

pub picture_mends :
    (a b : ℕ) (w : World)
    → Mends (StoreWithPicture a b) a b (picture_refusal a w) (mended_in (reader_in a w) a b w) (drawn_with_picture a b w) w
picture_mends a b w =
    mends_so (StoreWithPicture a b) a b _ _ (drawn_with_picture a b w) w
    (λ e. (rw e, rw e (as_drawn w (with_own Picture (w.bytes Picture) w refl)))) (λ e. (rw e, rw e))

abbrev pub index_refusal : (address : ℕ) → World → ℕ
index_refusal address w =
    refusal_with_index w.machine (w.bytes Shared) (w.bytes Screen) (w.bytes Attribute) (w.bytes Picture) (w.bytes Index) address

abbrev pub drawn_with_index : (address byte : ℕ) → World → World
drawn_with_index address byte w =
    let f = named_in address w in
    with_bytes Picture (mended_in f address byte w) (with_bytes Index (renewed_in f address byte w) w)

pub index_mends :
    (a b : ℕ) (w : World)
    → Mends (StoreWithIndex a b) a b (index_refusal a w) (mended_in (named_in a w) a b w) (drawn_with_index a b w) w
index_mends a b w =
    let indexed = with_own Index (w.bytes Index) w refl in
    let same = ap (with_bytes Picture (w.bytes Picture)) indexed ∙ with_own Picture (w.bytes Picture) w refl in
    mends_so (StoreWithIndex a b) a b _ _ (drawn_with_index a b w) w (λ e. (rw e, rw e (as_drawn w same))) (λ e. (rw e, rw e))

-- such a store answers by what it is refused
pub mends_refusal :
    {call : Call} {address byte refusal : ℕ} {new : List ℕ} {drawn w : World} → Mends call address byte refusal new drawn w
    → (answer call w).refusal ≡ refusal
mends_refusal {refusal = refusal} m =
    ap (λ (a : Answer). a.refusal) m.answers
    ∙ either (λ (a : Answer). a.refusal ≡ refusal) (refuses refusal) _ _ (λ _. refl) (λ h. sym (is_accepted refusal h))
