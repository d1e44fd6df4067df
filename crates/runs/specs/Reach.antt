-- What each call is lent, sees and may change: one row a call.
use Rattle.std.specs.Prelude.{ℕ, ◌+◌, ◌≡◌, List, [], ◌∷◌, Bool, true, false, cond, ◌||◌, length, take, drop, eqb, ltb, Option, Some, None}
use Rattle.machine.specs.Settings.{z80_runs}
use Rattle.memories.specs.View8088.{seen_8088}
use Rattle.memories.specs.ViewZ80.{shared_from}
use Rattle.memories.specs.declared.view8088.Seen.{Seen}
use Rattle.memories.specs.declared.view8088.Seen.TheVariants.{Shared as InShared, Screen as InScreen, Attribute as InAttribute}
use Rattle.runs.specs.World.{Memory, Shared, Private, Screen, Attribute, Glyphs, Nvm, Shadow, Picture, Line, ScreenList, Index, number_of, is_memory, World, Call, Read8088, Store8088, ReadZ80, StoreZ80, ReadShadow, WriteShadow, WritePort, VerticalTick, WatchdogTick, Draw, StoreWithPicture, IndexReaders, StoreWithIndex, DrawForViewers, StoreForViewers, StoreWithIndexForViewers, Ask, GlyphPart, DrawLine, ListLines, Explain, after, answer}

-- a part of the world: the machine, the bit of it by which the Z80 runs, whether the 8088 is in reset, shared memory
-- below 0800 and from there on, the viewers, or all of a memory
pub data Part : Type 0 where
  TheMachine : Part
  Z80Bit : Part
  InReset : Part
  Below0800 : Part
  From0800 : Part
  TheViewers : Part
  AllOf : Memory → Part

abbrev pub number_of_part : Part → ℕ
number_of_part TheMachine = 0
number_of_part Z80Bit = 1
number_of_part InReset = 2
number_of_part Below0800 = 3
number_of_part From0800 = 4
number_of_part TheViewers = 5
number_of_part (AllOf memory) = 6 + number_of memory

unfoldable pub has : List Part → Part → Bool
has [] part = false
has (one ∷ parts) part = eqb (number_of_part part) (number_of_part one) || has parts part

unfoldable pub has_memory : List Memory → Memory → Bool
has_memory [] memory = false
has_memory (one ∷ memories) memory = is_memory memory one || has_memory memories memory

-- a part is the same in two worlds
abbrev pub Same : Part → (w v : World) → Type 0
Same TheMachine w v = w.machine ≡ v.machine
Same Z80Bit w v = z80_runs w.machine ≡ z80_runs v.machine
Same InReset w v = w.machine.reset ≡ v.machine.reset
Same Below0800 w v = take shared_from (w.bytes Shared) ≡ take shared_from (v.bytes Shared)
Same From0800 w v = drop shared_from (w.bytes Shared) ≡ drop shared_from (v.bytes Shared)
Same TheViewers w v = w.viewers ≡ v.viewers
Same (AllOf memory) w v = w.bytes memory ≡ v.bytes memory

-- what a store of the 8088 may change, by what it sees at the address
abbrev pub stored_at : Option Seen → List Part
stored_at (Some (InShared place)) = AllOf Shared ∷ cond (ltb place shared_from) Below0800 From0800 ∷ []
stored_at (Some (InScreen place)) = AllOf Screen ∷ []
stored_at (Some (InAttribute place)) = AllOf Attribute ∷ []
stored_at None = []

-- the memories that a call is lent; the parts by whose bytes, beside the lengths lent, it goes; and those that it may
-- change
pub record Reach : Type 0 where
  pub lent : List Memory
  pub sees : List Part
  pub changes : List Part

abbrev pub reaches : (lent : List Memory) → (sees changes : List Part) → Reach
reaches lent sees changes = record { lent = lent; sees = sees; changes = changes }

abbrev pub memories_8088 : List Memory
memories_8088 = Shared ∷ Screen ∷ Attribute ∷ []

-- the table
abbrev pub reach : Call → Reach
reach (Read8088 address) = reaches memories_8088 (InReset ∷ AllOf Shared ∷ AllOf Screen ∷ AllOf Attribute ∷ []) []
reach (Store8088 address byte) = reaches memories_8088 (InReset ∷ []) (stored_at (seen_8088 address))
reach (ReadZ80 address) = reaches (Private ∷ Shared ∷ []) (Z80Bit ∷ AllOf Private ∷ From0800 ∷ []) []
reach (StoreZ80 address byte) =
    reaches (Private ∷ Shared ∷ []) (Z80Bit ∷ []) (AllOf Private ∷ AllOf Shared ∷ From0800 ∷ [])
reach (ReadShadow place) = reaches (Shadow ∷ []) (InReset ∷ AllOf Shadow ∷ []) []
reach (WriteShadow place value) = reaches (Shadow ∷ []) (InReset ∷ []) (AllOf Shadow ∷ [])
reach (WritePort port code) =
    reaches (Shadow ∷ Nvm ∷ []) (TheMachine ∷ AllOf Shadow ∷ AllOf Nvm ∷ [])
    (TheMachine ∷ Z80Bit ∷ AllOf Shadow ∷ AllOf Nvm ∷ [])
reach VerticalTick = reaches [] [] (TheMachine ∷ [])
reach WatchdogTick = reaches [] (TheMachine ∷ []) (TheMachine ∷ InReset ∷ [])
reach Draw =
    reaches (Screen ∷ Attribute ∷ Picture ∷ []) (TheMachine ∷ AllOf Screen ∷ AllOf Attribute ∷ []) (AllOf Picture ∷ [])
reach (StoreWithPicture address byte) =
    reaches (Picture ∷ memories_8088) (TheMachine ∷ AllOf Screen ∷ AllOf Attribute ∷ AllOf Picture ∷ [])
    (AllOf Picture ∷ stored_at (seen_8088 address))
reach IndexReaders =
    reaches (Screen ∷ Attribute ∷ Index ∷ []) (TheMachine ∷ AllOf Screen ∷ AllOf Attribute ∷ []) (AllOf Index ∷ [])
reach (StoreWithIndex address byte) =
    reaches (Picture ∷ Index ∷ memories_8088)
    (TheMachine ∷ AllOf Screen ∷ AllOf Attribute ∷ AllOf Picture ∷ AllOf Index ∷ [])
    (AllOf Picture ∷ AllOf Index ∷ stored_at (seen_8088 address))
reach DrawForViewers =
    reaches (Screen ∷ Attribute ∷ Picture ∷ []) (TheMachine ∷ AllOf Screen ∷ AllOf Attribute ∷ [])
    (TheViewers ∷ AllOf Picture ∷ [])
reach (StoreForViewers address byte) =
    reaches (Picture ∷ memories_8088) (TheMachine ∷ AllOf Screen ∷ AllOf Attribute ∷ AllOf Picture ∷ [])
    (TheViewers ∷ AllOf Picture ∷ stored_at (seen_8088 address))
reach (StoreWithIndexForViewers address byte) =
    reaches (Picture ∷ Index ∷ memories_8088)
    (TheMachine ∷ AllOf Screen ∷ AllOf Attribute ∷ AllOf Picture ∷ AllOf Index ∷ [])
    (TheViewers ∷ AllOf Picture ∷ AllOf Index ∷ stored_at (seen_8088 address))
reach (Ask viewer) = reaches [] (TheViewers ∷ []) (TheViewers ∷ [])
reach (GlyphPart code) = reaches (Glyphs ∷ []) (AllOf Glyphs ∷ []) []
reach (DrawLine row scan) =
    reaches (Picture ∷ Glyphs ∷ Line ∷ []) (TheMachine ∷ AllOf Picture ∷ AllOf Glyphs ∷ []) (AllOf Line ∷ [])
reach ListLines = reaches (Picture ∷ ScreenList ∷ []) (TheMachine ∷ AllOf Picture ∷ []) (AllOf ScreenList ∷ [])
reach (Explain row column) =
    reaches (Screen ∷ Attribute ∷ []) (TheMachine ∷ AllOf Screen ∷ AllOf Attribute ∷ []) []

abbrev pub may_change : Call → Part → Bool
may_change call part = has (reach call).changes part

-- a call leaves every part but those that it may change
abbrev pub ChangesOnly : Type 0
ChangesOnly = (call : Call) (w : World) (part : Part) → may_change call part ≡ false → Same part (after call w) w

-- no call changes how long a memory is
abbrev pub LengthsStay : Type 0
LengthsStay =
    (call : Call) (w : World) (memory : Memory) → length ((after call w).bytes memory) ≡ length (w.bytes memory)

-- two worlds that a call cannot tell apart: the same lengths lent, and the same in what it sees
pub record Alike (call : Call) (w v : World) : Type 0 where
  pub lengths :
      (memory : Memory) → has_memory (reach call).lent memory ≡ true
      → length (w.bytes memory) ≡ length (v.bytes memory)
  pub seen : (part : Part) → has (reach call).sees part ≡ true → Same part w v

-- there a call answers the same, and a part that was the same before it is the same after it
abbrev pub SeesOnly : Type 0
SeesOnly =
    (call : Call) (w v : World) → Alike call w v
    → (answer call w ≡ answer call v) × ((part : Part) → Same part w v → Same part (after call w) (after call v))
