-- Document 01, "Lent memory", and document 02, tickets 2 and 3: what a Z80 call leaves alone, what a Z80 answer depends
-- on, and what changes whether the Z80 runs. That a Z80 store changes one byte stands in
-- crates/memories/specs/OneByte.antt, and what a held Z80 does in Held.antt.
use Rattle.std.specs.Prelude.{ℕ, ◌≡◌, List, [], ◌∷◌, Bool, true, false, not, cond, ◌&&◌, ◌||◌, length, eqb}
use Rattle.lent.specs.Refusals.{refuses}
use Rattle.machine.specs.Settings.{bit, z80_runs}
use Rattle.runs.specs.World.{Memory, Shared, Private, World, Call, ReadZ80, StoreZ80, WritePort, Answer, after, answer}
use Rattle.runs.specs.Reach.{Part, Z80Bit, InReset, From0800, AllOf, has, has_memory, Same, reach, may_change}

-- whether every part, and every memory, of a list is in another
unfoldable pub only_parts : (all parts : List Part) → Bool
only_parts all [] = true
only_parts all (part ∷ parts) = has all part && only_parts all parts

unfoldable pub only_memories : (all memories : List Memory) → Bool
only_memories all [] = true
only_memories all (memory ∷ memories) = has_memory all memory && only_memories all memories

-- The owner's second demand: "The Z80 reads and writes only its own 2 KB and the 62 KB that it shares." 02, ticket 2:
-- it goes by the bit that lets it run, too
abbrev pub z80_lent : List Memory
z80_lent = Private ∷ Shared ∷ []

abbrev pub z80_sees : List Part
z80_sees = Z80Bit ∷ AllOf Private ∷ From0800 ∷ []

abbrev pub z80_changes : List Part
z80_changes = AllOf Private ∷ AllOf Shared ∷ From0800 ∷ []

-- a Z80 call: one that is lent, sees and may change nothing else
abbrev pub is_z80 : Call → Bool
is_z80 call =
    only_memories z80_lent (reach call).lent
    && (only_parts z80_sees (reach call).sees && only_parts z80_changes (reach call).changes)

-- the Z80's two calls are such
abbrev pub ItsTwoCalls : Type 0
ItsTwoCalls = (address byte : ℕ) → (is_z80 (ReadZ80 address) ≡ true) × (is_z80 (StoreZ80 address byte) ≡ true)

-- it leaves every other part: the machine, the 8088's first 2 KB of shared memory, and each other memory
abbrev pub OnlyItsOwn : Type 0
OnlyItsOwn =
    (call : Call) (w : World) (part : Part) → is_z80 call ≡ true → has z80_changes part ≡ false
    → Same part (after call w) w

-- 02, ticket 2: "the Z80 runs only while the bit is 1". By the table of Reach.antt a write to a port alone may change
-- the bit. An accepted write to 0A makes it bit 0 of the code; one that is refused, by 1 or by 6, leaves it, and so
-- does a write to another port
abbrev pub runs_after : (port code refusal : ℕ) → (before : Bool) → Bool
runs_after port code refusal before = cond (eqb port 0x0A && not (refuses refusal)) (eqb (bit 0 code) 1) before

abbrev pub BitFromCode : Type 0
BitFromCode =
    (w : World) (port code : ℕ)
    → let written = WritePort port code in
    z80_runs (after written w).machine ≡ runs_after port code (answer written w).refusal (z80_runs w.machine)

-- each code that a call writes to port 0A has this bit 0; a call that writes none there is one of these
abbrev pub CodeHas : Bool → Call → Type 0
CodeHas runs call = (code : ℕ) → call ≡ WritePort 0x0A code → eqb (bit 0 code) 1 ≡ runs

-- "A Z80 answer depends only on the call, the buffer lengths, the private bytes and the shared bytes from 0800 up": two
-- worlds that agree on those, whatever the rest of them holds. The bit, which 02 lists with them, is asked for at each
-- call of the Z80: see `SameBit`
pub record Agree (w v : World) : Type 0 where
  pub private : w.bytes Private ≡ v.bytes Private
  pub shared_length : length (w.bytes Shared) ≡ length (v.bytes Shared)
  pub from0800 : Same From0800 w v

-- a call after which the Z80's bytes are what they were. Every write to a port is one, also if it lets the Z80 run or
-- holds it
abbrev pub unseen_by_z80 : Call → Bool
unseen_by_z80 call = not (may_change call (AllOf Private) || may_change call From0800)

-- Two runs side by side, by turns. In a turn both make one call, or one of them alone makes a call that the Z80 cannot
-- see. For example, the left run alone stores at 00010; both store 5A at 00900, by the 8088; the right run alone draws
-- a picture; then the Z80 reads 0900 in both. It reads 5A in both, although the 8088's first 2 KB differ.
pub data Turn : Type 0 where
  Both : (call : Call) → Turn
  LeftAlone : (call : Call) → unseen_by_z80 call ≡ true → Turn
  RightAlone : (call : Call) → unseen_by_z80 call ≡ true → Turn

pub data Side : Type 0 where
  left : Side
  right : Side

-- a run's world after a turn
abbrev pub turned : Side → Turn → World → World
turned side (Both call) w = after call w
turned left (LeftAlone call h) w = after call w
turned right (LeftAlone call h) w = w
turned left (RightAlone call h) w = w
turned right (RightAlone call h) w = after call w

abbrev pub turned_all : Side → List Turn → World → World
turned_all side [] w = w
turned_all side (turn ∷ turns) w = turned_all side turns (turned side turn w)

-- whether a turn is a call of the Z80
abbrev pub asks : Turn → Bool
asks (Both call) = is_z80 call
asks (LeftAlone call h) = false
asks (RightAlone call h) = false

-- what the Z80 is answered in a turn, before what it was answered in the later ones
abbrev pub heard : Turn → World → List Answer → List Answer
heard (Both call) w later = cond (is_z80 call) (answer call w ∷ later) later
heard (LeftAlone call h) w later = later
heard (RightAlone call h) w later = later

abbrev pub answers : Side → List Turn → World → List Answer
answers side [] w = []
answers side (turn ∷ turns) w = heard turn w (answers side turns (turned side turn w))

-- 02, ticket 2: "The rule about two runs now lists this bit": it is the same in both at each call of the Z80. Between
-- its calls each run may write to 0A as it likes, alone or with the other, and a write may be refused in the one and
-- accepted in the other. What is left out: runs in which the two bits differ when the Z80 makes a call. By
-- `BitFromCode` a run's bit is then bit 0 of the code of its last accepted write to 0A, or the bit that it began with
-- if there was none
abbrev pub SameBit : List Turn → (w v : World) → Type 0
SameBit [] w v = Unit {0}
SameBit (turn ∷ turns) w v =
    (asks turn ≡ true → Same Z80Bit w v) × SameBit turns (turned left turn w) (turned right turn v)

-- both runs make a call that the Z80 sees and that is no call of its own: a store of the 8088 from 0800 up
abbrev pub stores : Turn → Bool
stores (Both call) = not (is_z80 call || unseen_by_z80 call)
stores (LeftAlone call h) = false
stores (RightAlone call h) = false

abbrev pub stores_in_both : List Turn → Bool
stores_in_both [] = false
stores_in_both (turn ∷ turns) = stores turn || stores_in_both turns

-- 02, ticket 3: in reset a store of the 8088 is refused. So where both runs make one that the Z80 sees, the 8088 is in
-- reset in both or in neither; at all other times it may be in reset in the one alone. What is left out: runs in which
-- both make such a store and it is refused in the one alone, which shows the Z80 different bytes
abbrev pub SameReset : List Turn → (w v : World) → Type 0
SameReset [] w v = Unit {0}
SameReset (turn ∷ turns) w v =
    (stores turn ≡ true → Same InReset w v) × SameReset turns (turned left turn w) (turned right turn v)

-- every memory is as long in the one as in the other
abbrev pub SameLengths : World → World → Type 0
SameLengths w v = (memory : Memory) → length (w.bytes memory) ≡ length (v.bytes memory)

-- "two runs that agree on those give the Z80 the same answers, even if the 8088's first 2 KB differ". Whether a store
-- of the 8088 is refused goes by the lengths of all that it is lent, so runs that have one in common agree on these
-- too.
abbrev pub SameAnswers : Type 0
SameAnswers =
    (turns : List Turn) (w v : World) → Agree w v → SameBit turns w v → SameReset turns w v
    → (stores_in_both turns ≡ true → SameLengths w v)
    → (answers left turns w ≡ answers right turns v) × Agree (turned_all left turns w) (turned_all right turns v)

-- So it is enough that both have the same bit at the start, and that each code that either of them writes to 0A,
-- accepted or refused, has it as its bit 0
abbrev pub call_in : Turn → Call
call_in (Both call) = call
call_in (LeftAlone call h) = call
call_in (RightAlone call h) = call

abbrev pub CodesHave : Bool → List Turn → Type 0
CodesHave runs [] = Unit {0}
CodesHave runs (turn ∷ turns) = CodeHas runs (call_in turn) × CodesHave runs turns

abbrev pub SameBitByCodes : Type 0
SameBitByCodes =
    (turns : List Turn) (w v : World) → Same Z80Bit w v → CodesHave (z80_runs w.machine) turns → SameBit turns w v
