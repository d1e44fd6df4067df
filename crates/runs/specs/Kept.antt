-- The owner's third demand: "Start from a picture drawn afresh, and redraw at once after each change of column setting.
-- Then after any run of 8088 stores, Z80 stores and port writes, refused ones among them, the kept picture equals one
-- drawn afresh from memory." 02, ticket 8: "After any such run the kept index equals the one worked out from memory
-- afresh, redrawn after a column change as the picture is."
use Rattle.std.specs.Prelude.{ℕ, ◌≡◌, List, [], ◌∷◌, Bool, true, false, not, cond, ◌&&◌, ◌||◌, length}
use Rattle.lent.specs.Lengths.{index_bytes}
use Rattle.lent.specs.Refusals.{accepted, refuses}
use Rattle.machine.specs.Settings.{scroll_latch}
use Rattle.picture.specs.Picture.{picture_of}
use Rattle.picture.specs.Draw.{chain_of}
use Rattle.index.specs.Index.{index_of}
use Rattle.whole_screen.specs.Screen.{screen_lines}
use Rattle.whole_screen.specs.Fresh.{kinds_of}
use Rattle.runs.specs.World.{Memory, Screen, Attribute, Picture, ScreenList, Index, World, Call, StoreZ80, WritePort, VerticalTick, WatchdogTick, Draw, StoreWithPicture, IndexReaders, StoreWithIndex, DrawForViewers, StoreForViewers, StoreWithIndexForViewers, ListLines, after, answer}
use Rattle.runs.specs.Reach.{Part, AllOf, has, Same, reach, may_change}

-- in place of a memory a caller may lend another
pub data Lent : Type 0 where
  Own : Lent
  Another : (bytes : List ℕ) → Lent

abbrev pub lent_bytes : Lent → (own : List ℕ) → List ℕ
lent_bytes Own own = own
lent_bytes (Another bytes) own = bytes

-- what is kept of a memory is what the call left in it, unless another was lent
abbrev pub kept_bytes : Lent → (own new : List ℕ) → List ℕ
kept_bytes Own own new = new
kept_bytes (Another bytes) own new = own

abbrev pub lending : (Memory → Lent) → World → World
lending lent w =
    record {
      machine = w.machine;
      viewers = w.viewers;
      bytes = λ memory. lent_bytes (lent memory) (w.bytes memory);
    }

abbrev pub keeping : (Memory → Lent) → (own new : World) → World
keeping lent own new =
    record {
      machine = new.machine;
      viewers = new.viewers;
      bytes = λ memory. kept_bytes (lent memory) (own.bytes memory) (new.bytes memory);
    }

-- a step of a run: a call with the memories that are kept, or one with others in place of some
pub data Step : Type 0 where
  Made : Call → Step
  Lending : (Memory → Lent) → Call → Step

abbrev pub stepped : Step → World → World
stepped (Made call) w = after call w
stepped (Lending lent call) w = keeping lent w (after call (lending lent w))

-- the drawing with which a caller redraws: the one for one screen alone, or the one that serves viewers
pub data Drawing : Type 0 where
  Alone : Drawing
  Serving : Drawing

abbrev pub call_to : Drawing → Call
call_to Alone = Draw
call_to Serving = DrawForViewers

-- what a caller keeps: a picture, with the drawing by which it redraws it, and an index too, if one is lent
pub record Keeps : Type 0 where
  pub drawing : Drawing
  pub indexed : Bool

-- "Start from a picture drawn afresh", and 02, ticket 8: "Start from one worked out afresh, as demand 3's runs do where
-- an index is lent"
abbrev pub redrawn : Keeps → World → World
redrawn keeps w =
    let drawn = after (call_to keeps.drawing) w in
    cond keeps.indexed (after IndexReaders drawn) drawn

-- "A store with no picture .. is not in demand 3's runs": a call that may change what picture and index are drawn from
-- keeps the picture and, where an index is kept, the index too. So where one is kept, a store to the screen with no
-- index is left out as well: the index would fall behind. Every other call is in them, though the demand names three
-- alone, but for those that `goes_astray` leaves out
abbrev pub leaves_behind : Keeps → Call → Bool
leaves_behind keeps call =
    (may_change call (AllOf Screen) || may_change call (AllOf Attribute))
    && not (may_change call (AllOf Picture) && (may_change call (AllOf Index) || not keeps.indexed))

-- A store takes its first row from "an index lent, true or not". Where none is kept, what is lent to it may be any, and
-- the picture may come out untrue. So the runs of a caller who keeps no index leave out the stores that go by one; what
-- such a store does with any index is said in crates/index/specs/Store.antt and Meaning.antt
abbrev pub goes_astray : Keeps → Call → Bool
goes_astray keeps call = has (reach call).sees (AllOf Index) && not keeps.indexed

-- "refused ones among them": with other memories lent, of a wrong length it may be, a call is in the runs if it is
-- refused
abbrev pub in_runs : Keeps → Step → World → Bool
in_runs keeps (Made call) w = not (leaves_behind keeps call || goes_astray keeps call)
in_runs keeps (Lending lent call) w = refuses (answer call (lending lent w)).refusal

-- "8088 stores, Z80 stores and port writes" are in the runs, all of them, also the stores that serve viewers, and both
-- ticks. Where an index is kept, the 8088's stores are those with an index. 02, ticket 3: so a run may come into reset
-- and out of it, and those that are refused by 8 are among its stores and writes
abbrev pub TheseAreIn : Type 0
TheseAreIn =
    (drawing : Drawing) (address byte port code : ℕ) (w : World)
    → let is_in : Bool → Call → Type 0 =
    λ indexed call. in_runs (record { drawing = drawing; indexed = indexed }) (Made call) w ≡ true in
    (is_in false (StoreWithPicture address byte) × is_in false (StoreForViewers address byte))
    × ((is_in true (StoreWithIndex address byte) × is_in true (StoreWithIndexForViewers address byte))
    × ((indexed : Bool)
    → is_in indexed (StoreZ80 address byte)
    × (is_in indexed (WritePort port code) × (is_in indexed VerticalTick × is_in indexed WatchdogTick))))

-- whether two worlds have one column setting
abbrev pub same_columns : World → World → Bool
same_columns w v = cond w.machine.columns132 v.machine.columns132 (not v.machine.columns132)

-- a step, and "redraw at once after each change of column setting", the index "as the picture is"
abbrev pub played : Keeps → Step → World → World
played keeps step w = let new = stepped step w in cond (same_columns w new) new (redrawn keeps new)

abbrev pub played_all : Keeps → List Step → World → World
played_all keeps [] w = w
played_all keeps (step ∷ steps) w = played_all keeps steps (played keeps step w)

abbrev pub all_in_runs : Keeps → List Step → World → Bool
all_in_runs keeps [] w = true
all_in_runs keeps (step ∷ steps) w = in_runs keeps step w && all_in_runs keeps steps (played keeps step w)

-- the picture equals one drawn afresh: a drawing made now would leave it as it is
abbrev pub PictureKept : World → Type 0
PictureKept w = (after Draw w).bytes Picture ≡ w.bytes Picture

-- the index equals one worked out afresh: worked out now, it would be as it is
abbrev pub IndexKept : World → Type 0
IndexKept w = (after IndexReaders w).bytes Index ≡ w.bytes Index

pub record Kept (keeps : Keeps) (w : World) : Type 0 where
  pub picture : PictureKept w
  pub index : keeps.indexed ≡ true → IndexKept w

-- "the kept picture equals one drawn afresh from memory", and "the kept index equals the one worked out from memory
-- afresh": what is kept before a run is kept after it, and drawing and working out are accepted after it exactly if
-- they were before
abbrev pub KeptByRuns : Type 0
KeptByRuns =
    (keeps : Keeps) (steps : List Step) (w : World) → all_in_runs keeps steps w ≡ true → Kept keeps w
    → let last = played_all keeps steps w in
    Kept keeps last
    × (((answer Draw last).refusal ≡ (answer Draw w).refusal)
    × ((answer IndexReaders last).refusal ≡ (answer IndexReaders w).refusal))

-- "Start from a picture drawn afresh"
abbrev pub KeptFromDrawing : Type 0
KeptFromDrawing =
    (keeps : Keeps) (steps : List Step) (w : World)
    → let begun = redrawn keeps w in
    let last = played_all keeps steps begun in
    all_in_runs keeps steps begun ≡ true → (answer (call_to keeps.drawing) w).refusal ≡ accepted
    → last.bytes Picture ≡ picture_of (chain_of last.machine (last.bytes Screen) (last.bytes Attribute))

-- and from an index worked out afresh
abbrev pub IndexFromFresh : Type 0
IndexFromFresh =
    (keeps : Keeps) (steps : List Step) (w : World) → keeps.indexed ≡ true
    → let begun = redrawn keeps w in
    let last = played_all keeps steps begun in
    all_in_runs keeps steps begun ≡ true → (answer IndexReaders w).refusal ≡ accepted
    → last.bytes Index ≡ index_of (chain_of last.machine (last.bytes Screen) (last.bytes Attribute))

-- two calls that answer the same and leave the same world but for the index
pub record SameButIndex (one other : Call) (w : World) : Type 0 where
  pub answers : answer one w ≡ answer other w
  pub leaves : (part : Part) → has (AllOf Index ∷ []) part ≡ false → Same part (after one w) (after other w)

-- "With a true index the store's answer is the same as without one": where the index is kept. One of another length is
-- refused by 1, whatever the store without it answers
abbrev pub SameAsWithNone : Type 0
SameAsWithNone =
    (address byte : ℕ) (w : World) → IndexKept w → length (w.bytes Index) ≡ index_bytes
    → SameButIndex (StoreWithIndex address byte) (StoreWithPicture address byte) w
    × SameButIndex (StoreWithIndexForViewers address byte) (StoreForViewers address byte) w

-- 02, ticket 5: so the whole screen's list, which the tablet makes from the kept picture, is that of the chain's kinds
abbrev pub ListFromKept : Type 0
ListFromKept =
    (keeps : Keeps) (steps : List Step) (w : World)
    → let begun = redrawn keeps w in
    let last = played_all keeps steps begun in
    all_in_runs keeps steps begun ≡ true → (answer (call_to keeps.drawing) w).refusal ≡ accepted
    → (answer ListLines last).refusal ≡ accepted
    → (after ListLines last).bytes ScreenList
    ≡ screen_lines (kinds_of (chain_of last.machine (last.bytes Screen) (last.bytes Attribute)))
    (scroll_latch last.machine)
