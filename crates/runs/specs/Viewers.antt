-- Document 02, ticket 7: what a viewer is told, from the calls that were made and their answers alone.
use Rattle.std.specs.Prelude.{ℕ, ◌<◌, ◌≡◌, List, [], ◌∷◌, Bool, true, false, not, cond, ◌&&◌, ◌||◌, get_or, eqb}
use Rattle.lent.specs.Refusals.{accepted, refuses}
use Rattle.chain.specs.Chain.{rows}
use Rattle.marks.specs.Marks.{bit_set, marks_to}
use Rattle.viewers.specs.Viewers.{viewers, start}
use Rattle.runs.specs.World.{World, Call, Read8088, Store8088, ReadZ80, StoreZ80, ReadShadow, WriteShadow, WritePort, VerticalTick, WatchdogTick, Draw, StoreWithPicture, IndexReaders, StoreWithIndex, DrawForViewers, StoreForViewers, StoreWithIndexForViewers, Ask, GlyphPart, DrawLine, ListLines, Explain, Answer, answered, answer}
use Rattle.runs.specs.Kept.{Step, stepped}
use Rattle.runs.specs.Stopped.{call_of, answer_of, stepped_all}

-- what a call is to the viewers: their start, a fresh drawing, a store with its marks, an ask of one of them, or nothing
pub data Event : Type 0 where
  Started : Event
  DrawnAfresh : Event
  Marked : (marks : ℕ) → Event
  Asked : (viewer : ℕ) → Event
  Nothing : Event

-- a call that is not refused, with the numbers of its answer. A call for one screen alone takes no viewers, so its marks
-- are for its caller alone
abbrev pub event_of : Call → (numbers : List ℕ) → Event
event_of DrawForViewers numbers = DrawnAfresh
event_of (StoreForViewers address byte) numbers = Marked (get_or numbers 0 0)
event_of (StoreWithIndexForViewers address byte) numbers = Marked (get_or numbers 0 0)
event_of (Ask viewer) numbers = Asked viewer
event_of (Read8088 address) numbers = Nothing
event_of (Store8088 address byte) numbers = Nothing
event_of (ReadZ80 address) numbers = Nothing
event_of (StoreZ80 address byte) numbers = Nothing
event_of (ReadShadow place) numbers = Nothing
event_of (WriteShadow place value) numbers = Nothing
event_of (WritePort port code) numbers = Nothing
event_of VerticalTick numbers = Nothing
event_of WatchdogTick numbers = Nothing
event_of Draw numbers = Nothing
event_of (StoreWithPicture address byte) numbers = Nothing
event_of IndexReaders numbers = Nothing
event_of (StoreWithIndex address byte) numbers = Nothing
event_of (GlyphPart code) numbers = Nothing
event_of (DrawLine row scan) numbers = Nothing
event_of ListLines numbers = Nothing
event_of (Explain row column) numbers = Nothing

-- a call with its answer: one that was refused is nothing
abbrev pub happened : Call → Answer → Event
happened call answer = cond (refuses answer.refusal) Nothing (event_of call answer.numbers)

-- the past of a run, the latest first
abbrev pub past_of : List Step → World → (before : List Event) → List Event
past_of [] w before = before
past_of (step ∷ steps) w before = past_of steps (stepped step w) (happened (call_of step) (answer_of step w) ∷ before)

-- whether an event marks a row: "a fresh drawing, which sets all rows for all, as the start does"
abbrev pub marks : Event → (row : ℕ) → Bool
marks Started row = true
marks DrawnAfresh row = true
marks (Marked number) row = bit_set number row
marks (Asked viewer) row = false
marks Nothing row = false

abbrev pub is_ask_of : (viewer : ℕ) → Event → Bool
is_ask_of viewer Started = false
is_ask_of viewer DrawnAfresh = false
is_ask_of viewer (Marked number) = false
is_ask_of viewer (Asked other) = eqb other viewer
is_ask_of viewer Nothing = false

-- what happened "since that viewer's last ask"
unfoldable pub since : (viewer : ℕ) → (past : List Event) → List Event
since viewer [] = []
since viewer (event ∷ past) = cond (is_ask_of viewer event) [] (event ∷ since viewer past)

-- "the rows marked" by one of these
unfoldable pub marked : List Event → (row : ℕ) → Bool
marked [] row = false
marked (event ∷ events) row = marks event row || marked events row

-- "an answer is exactly the rows marked since that viewer's last ask, or since a fresh drawing": a drawing and the start
-- mark all 25. After any run of all calls, from the start; so of each ask in a longer run, since what comes before it is
-- such a run
abbrev pub AnswersTheMarked : Type 0
AnswersTheMarked =
    (steps : List Step) (w : World) (viewer : ℕ) → w.viewers ≡ start → viewer < viewers
    → answer (Ask viewer) (stepped_all steps w)
    ≡ answered accepted (marks_to (marked (since viewer (past_of steps w (Started ∷ [])))) rows ∷ [])

-- an ask of another viewer, refused or not
abbrev pub is_ask : Event → Bool
is_ask Started = false
is_ask DrawnAfresh = false
is_ask (Marked number) = false
is_ask (Asked viewer) = true
is_ask Nothing = false

abbrev pub is_anothers_ask : (viewer : ℕ) → Call → Bool
is_anothers_ask viewer call = let event = event_of call [] in is_ask event && not (is_ask_of viewer event)

-- a run without the asks of the others, and the answers in a run without theirs
abbrev pub without_others : (viewer : ℕ) → List Step → List Step
without_others viewer [] = []
without_others viewer (step ∷ steps) =
    let later = without_others viewer steps in
    cond (is_anothers_ask viewer (call_of step)) later (step ∷ later)

abbrev pub answers_without_others : (viewer : ℕ) → List Step → World → List Answer
answers_without_others viewer [] w = []
answers_without_others viewer (step ∷ steps) w =
    let later = answers_without_others viewer steps (stepped step w) in
    cond (is_anothers_ask viewer (call_of step)) later (answer_of step w ∷ later)

-- "Asking changes no other viewer's answer": two runs that differ only in the asks of others give this one the same
-- answers, and every other call too
abbrev pub OthersMayAsk : Type 0
OthersMayAsk =
    (viewer : ℕ) (one two : List Step) (w : World) → without_others viewer one ≡ without_others viewer two
    → answers_without_others viewer one w ≡ answers_without_others viewer two w
