-- What the calls act on, and what each call answers and leaves, by the definition that the call's promise cites.
use Rattle.std.specs.Prelude.{ℕ, List, [], ◌∷◌, Bool, cond, eqb}
use Rattle.lent.specs.Refusals.{accepted}
use Rattle.lent.specs.declared.ByteRead.{ByteRead}
use Rattle.machine.specs.Power.{vertical_tick}
use Rattle.machine.specs.Watchdog.{watchdog_tick}
use Rattle.machine.specs.declared.Machine.{Machine}
use Rattle.memories.specs.View8088.{read_8088, store_8088}
use Rattle.memories.specs.ViewZ80.{read_z80, store_z80}
use Rattle.shadow.specs.Shadow.{read_shadow, write_shadow}
use Rattle.ports.specs.Ports.{write_port}
use Rattle.picture.specs.Draw.{draw}
use Rattle.picture.specs.declared.Drawn.{Drawn}
use Rattle.mending.specs.Store.{store_with_picture}
use Rattle.index.specs.Index.{index_readers}
use Rattle.index.specs.Store.{store_with_index}
use Rattle.viewers.specs.Viewers.{ask}
use Rattle.viewers.specs.Serving.{draw_for_viewers, store_for_viewers, store_with_index_for_viewers}
use Rattle.viewers.specs.declared.Viewers.{Viewers}
use Rattle.glyphs.specs.Glyphs.{glyph_part, part_refusal}
use Rattle.scan_line.specs.Call.{draw_line}
use Rattle.whole_screen.specs.Call.{list_lines}
use Rattle.explaining.specs.Call.{explain}
use Rattle.explaining.specs.Numbers.{told}
use Rattle.explaining.specs.declared.Explained.{Explained}

-- the memories of document 01's list, "Lent memory", and those that document 02 adds
pub data Memory : Type 0 where
  Shared : Memory
  Private : Memory
  Screen : Memory
  Attribute : Memory
  Glyphs : Memory
  Nvm : Memory
  Shadow : Memory
  Picture : Memory
  Line : Memory
  ScreenList : Memory
  Index : Memory

-- which one it is in that list, by which two are told apart
abbrev pub number_of : Memory → ℕ
number_of Shared = 0
number_of Private = 1
number_of Screen = 2
number_of Attribute = 3
number_of Glyphs = 4
number_of Nvm = 5
number_of Shadow = 6
number_of Picture = 7
number_of Line = 8
number_of ScreenList = 9
number_of Index = 10

abbrev pub is_memory : (one other : Memory) → Bool
is_memory one other = eqb (number_of one) (number_of other)

-- the machine and the viewers that a user keeps, and the memories that it keeps and lends
pub record World : Type 0 where
  pub machine : Machine
  pub viewers : Viewers
  pub bytes : Memory → List ℕ

-- the world with another machine, with other viewers, and with other bytes in one memory
abbrev pub with_machine : Machine → World → World
with_machine machine w = record { machine = machine; viewers = w.viewers; bytes = w.bytes }

abbrev pub with_viewers : Viewers → World → World
with_viewers viewers w = record { machine = w.machine; viewers = viewers; bytes = w.bytes }

abbrev pub with_bytes : Memory → (new : List ℕ) → World → World
with_bytes memory new w =
    record {
      machine = w.machine;
      viewers = w.viewers;
      bytes = λ one. cond (is_memory one memory) new (w.bytes one);
    }

-- a call with its numbers
pub data Call : Type 0 where
  Read8088 : (address : ℕ) → Call
  Store8088 : (address byte : ℕ) → Call
  ReadZ80 : (address : ℕ) → Call
  StoreZ80 : (address byte : ℕ) → Call
  ReadShadow : (place : ℕ) → Call
  WriteShadow : (place value : ℕ) → Call
  WritePort : (port code : ℕ) → Call
  VerticalTick : Call
  WatchdogTick : Call
  Draw : Call
  StoreWithPicture : (address byte : ℕ) → Call
  IndexReaders : Call
  StoreWithIndex : (address byte : ℕ) → Call
  DrawForViewers : Call
  StoreForViewers : (address byte : ℕ) → Call
  StoreWithIndexForViewers : (address byte : ℕ) → Call
  Ask : (viewer : ℕ) → Call
  GlyphPart : (code : ℕ) → Call
  DrawLine : (row scan : ℕ) → Call
  ListLines : Call
  Explain : (row column : ℕ) → Call

-- what a call answers: its number of refusal, and its other numbers: the byte read, the bytes that the walk read,
-- whether a row is wild and the first that is, the marks, the bytes of a part, why a cell shows what it shows
pub record Answer : Type 0 where
  pub refusal : ℕ
  pub numbers : List ℕ

abbrev pub answered : (refusal : ℕ) → (numbers : List ℕ) → Answer
answered refusal numbers = record { refusal = refusal; numbers = numbers }

abbrev pub read_answer : ByteRead → Answer
read_answer read = answered read.refusal (read.byte ∷ [])

abbrev pub drawn_answer : Drawn → Answer
drawn_answer drawn =
    answered drawn.refusal (drawn.reads ∷ cond drawn.wild 1 0 ∷ drawn.wild_row ∷ [])

abbrev pub explained_answer : Explained → Answer
explained_answer why =
    answered why.refusal
    (why.answer ∷ why.place ∷ why.kind ∷ why.tore ∷ cond why.linked 1 0 ∷ why.link ∷ [])

-- what a call answers, and the world that it leaves
pub record Outcome : Type 0 where
  pub answer : Answer
  pub world : World

abbrev pub leaving : Answer → World → Outcome
leaving answer world = record { answer = answer; world = world }

abbrev pub outcome : Call → World → Outcome
outcome (Read8088 address) w =
    leaving (read_answer (read_8088 w.machine (w.bytes Shared) (w.bytes Screen) (w.bytes Attribute) address)) w
outcome (Store8088 address byte) w =
    let left = store_8088 w.machine (w.bytes Shared) (w.bytes Screen) (w.bytes Attribute) address byte in
    leaving (answered left.refusal [])
    (with_bytes Shared left.shared (with_bytes Screen left.screen (with_bytes Attribute left.attribute w)))
outcome (ReadZ80 address) w =
    leaving (read_answer (read_z80 w.machine (w.bytes Private) (w.bytes Shared) address)) w
outcome (StoreZ80 address byte) w =
    let left = store_z80 w.machine (w.bytes Private) (w.bytes Shared) address byte in
    leaving (answered left.refusal []) (with_bytes Private left.private (with_bytes Shared left.shared w))
outcome (ReadShadow place) w = leaving (read_answer (read_shadow w.machine (w.bytes Shadow) place)) w
outcome (WriteShadow place value) w =
    let left = write_shadow w.machine (w.bytes Shadow) place value in
    leaving (answered left.refusal []) (with_bytes Shadow left.shadow w)
outcome (WritePort port code) w =
    let left = write_port w.machine (w.bytes Shadow) (w.bytes Nvm) port code in
    leaving (answered left.answer.refusal [])
    (with_machine left.answer.machine (with_bytes Shadow left.shadow (with_bytes Nvm left.nvm w)))
outcome VerticalTick w = leaving (answered accepted []) (with_machine (vertical_tick w.machine) w)
outcome WatchdogTick w = leaving (answered accepted []) (with_machine (watchdog_tick w.machine) w)
outcome Draw w =
    let left = draw w.machine (w.bytes Screen) (w.bytes Attribute) (w.bytes Picture) in
    leaving (drawn_answer left.answer) (with_bytes Picture left.picture w)
outcome (StoreWithPicture address byte) w =
    let left =
    store_with_picture w.machine
    (w.bytes Shared) (w.bytes Screen) (w.bytes Attribute) (w.bytes Picture) address byte in
    leaving (answered left.answer.refusal (left.answer.marks ∷ []))
    (with_bytes Shared left.shared
    (with_bytes Screen left.screen (with_bytes Attribute left.attribute (with_bytes Picture left.picture w))))
outcome IndexReaders w =
    let left = index_readers w.machine (w.bytes Screen) (w.bytes Attribute) (w.bytes Index) in
    leaving (answered left.refusal []) (with_bytes Index left.index w)
outcome (StoreWithIndex address byte) w =
    let left =
    store_with_index w.machine
    (w.bytes Shared) (w.bytes Screen) (w.bytes Attribute) (w.bytes Picture) (w.bytes Index) address byte in
    leaving (answered left.answer.refusal (left.answer.marks ∷ []))
    (with_bytes Shared left.shared
    (with_bytes Screen left.screen
    (with_bytes Attribute left.attribute (with_bytes Picture left.picture (with_bytes Index left.index w)))))
outcome DrawForViewers w =
    let left = draw_for_viewers w.machine w.viewers (w.bytes Screen) (w.bytes Attribute) (w.bytes Picture) in
    leaving (drawn_answer left.answer.drawn)
    (with_viewers left.answer.viewers (with_bytes Picture left.picture w))
outcome (StoreForViewers address byte) w =
    let left =
    store_for_viewers w.machine w.viewers
    (w.bytes Shared) (w.bytes Screen) (w.bytes Attribute) (w.bytes Picture) address byte in
    leaving (answered left.answer.stored.refusal (left.answer.stored.marks ∷ []))
    (with_viewers left.answer.viewers
    (with_bytes Shared left.shared
    (with_bytes Screen left.screen (with_bytes Attribute left.attribute (with_bytes Picture left.picture w)))))
outcome (StoreWithIndexForViewers address byte) w =
    let left =
    store_with_index_for_viewers w.machine w.viewers
    (w.bytes Shared) (w.bytes Screen) (w.bytes Attribute) (w.bytes Picture) (w.bytes Index) address byte in
    leaving (answered left.answer.stored.refusal (left.answer.stored.marks ∷ []))
    (with_viewers left.answer.viewers
    (with_bytes Shared left.shared
    (with_bytes Screen left.screen
    (with_bytes Attribute left.attribute (with_bytes Picture left.picture (with_bytes Index left.index w))))))
outcome (Ask viewer) w =
    let asked = ask w.viewers viewer in
    leaving (answered asked.refusal (asked.marks ∷ [])) (with_viewers asked.viewers w)
outcome (GlyphPart code) w =
    let part = glyph_part (w.bytes Glyphs) code in
    leaving (answered (part_refusal part) part) w
outcome (DrawLine row scan) w =
    let left = draw_line w.machine (w.bytes Picture) (w.bytes Glyphs) row scan (w.bytes Line) in
    leaving (answered left.refusal []) (with_bytes Line left.line w)
outcome ListLines w =
    let left = list_lines w.machine (w.bytes Picture) (w.bytes ScreenList) in
    leaving (answered left.refusal []) (with_bytes ScreenList left.list w)
outcome (Explain row column) w =
    leaving (explained_answer (told (explain w.machine (w.bytes Screen) (w.bytes Attribute) row column))) w

abbrev pub answer : Call → World → Answer
answer call w = (outcome call w).answer

abbrev pub after : Call → World → World
after call w = (outcome call w).world
