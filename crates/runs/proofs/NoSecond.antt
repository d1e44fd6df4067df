-- "That no second outcome meets it is shown": the promise of each call is one equation of its outcome, the answer and
-- every memory lent for change, with a definition of what the call was given. So two outcomes that meet it are one.
-- `Post` is the promise as the check reads it off the source; specs/Once.antt says what is shown of it.
use Prim.Native.Nat.{ℕ}
use mathlib.Core.Path.{◌≡◌, sym, ap, ap₂, ◌∙◌}
use mathlib.Core.List.{List, [], ◌∷◌}
use Rattle.lent.proofs.Told.{number_alone, byte_alone}
use Rattle.machine.proofs.Told.{written_alone}
use Rattle.runs.proofs.Told.{drawing_alone, store_alone, asked_alone, served_alone, drawn_alone, listed_alone}
use Rattle.explaining.proofs.Told.{answer_alone}
use Rattle.sentences.proofs.Told.{said_alone}
use Rattle.machine.proofs.Machine.power_up.Reads as power_up
use Rattle.machine.proofs.Machine.vertical_tick.Reads as vertical_tick
use Rattle.machine.proofs.Machine.watchdog_tick.Reads as watchdog_tick
use Rattle.machine.proofs.Machine.columns.Reads as columns
use Rattle.machine.proofs.Machine.scroll_latch.Reads as scroll_latch
use Rattle.machine.proofs.Machine.z80_runs.Reads as z80_runs
use Rattle.machine.proofs.Machine.blanked.Reads as blanked
use Rattle.machine.proofs.Machine.graphics.Reads as graphics
use Rattle.memories.specs.View8088.{Stored8088, stored_8088}
use Rattle.memories.specs.ViewZ80.{StoredZ80, stored_z80}
use Rattle.memories.proofs.view8088.read_8088.Reads as read_8088
use Rattle.memories.proofs.view8088.store_8088.Reads as store_8088
use Rattle.memories.proofs.viewz80.read_z80.Reads as read_z80
use Rattle.memories.proofs.viewz80.store_z80.Reads as store_z80
use Rattle.shadow.specs.Shadow.{WrittenShadow, written_shadow}
use Rattle.shadow.proofs.read_shadow.Reads as read_shadow
use Rattle.shadow.proofs.write_shadow.Reads as write_shadow
use Rattle.diagnostic.specs.Diagnostic.{WrittenPort, written_port}
use Rattle.ports.proofs.write_port.Reads as write_port
use Rattle.picture.specs.Draw.{DrawnPicture, drawn}
use Rattle.picture.proofs.draw.Reads as draw
use Rattle.listing.specs.Listing.{ListedRows}
use Rattle.listing.proofs.list_rows.Reads as list_rows
use Rattle.marks.proofs.is_marked.Reads as is_marked
use Rattle.mending.specs.Store.{StoredWithPicture, stored_with_picture}
use Rattle.mending.proofs.store_with_picture.Reads as store_with_picture
use Rattle.index.specs.Index.{IndexedReaders, indexed}
use Rattle.index.specs.Store.{StoredWithIndex, stored_with_index}
use Rattle.index.proofs.index_readers.Reads as index_readers
use Rattle.index.proofs.store_with_index.Reads as store_with_index
use Rattle.viewers.specs.Serving.{DrawnServing, drawn_serving, StoredServing, stored_serving, StoredServingIndex, stored_serving_index}
use Rattle.viewers.proofs.Viewers.start.Reads as start_viewers
use Rattle.viewers.proofs.Viewers.ask.Reads as ask
use Rattle.viewers.proofs.draw_for_viewers.Reads as draw_for_viewers
use Rattle.viewers.proofs.store_for_viewers.Reads as store_for_viewers
use Rattle.viewers.proofs.store_with_index_for_viewers.Reads as store_with_index_for_viewers
use Rattle.glyphs.specs.Glyphs.{PartAnswer, told_part}
use Rattle.glyphs.proofs.part.Reads as part
use Rattle.scan_line.specs.Call.{DrawnLine, drawn_line}
use Rattle.scan_line.proofs.dots_of_line.Reads as dots_of_line
use Rattle.scan_line.proofs.draw.Reads as draw_line
use Rattle.whole_screen.specs.Call.{Listed, listed as listed_lines}
use Rattle.whole_screen.proofs.list_lines.Reads as list_lines
use Rattle.explaining.proofs.explain.Reads as explain
use Rattle.explaining.proofs.ExplainedFromResultWhyRefusal.from.Reads as tell
use Rattle.sentences.proofs.say.Reads as say
use Rattle.commands.proofs.parse.Reads as parse
use Rattle.commands.proofs.has_words.Reads as has_words
use Rattle.commands.proofs.is_meant.Reads as is_meant
use Rattle.commands.proofs.form_text.Reads as form_text
use Rattle.commands.proofs.form_count.Reads as form_count
use Rattle.rainbow.proofs.machine_calls.rainbow_power_up.Reads as c_power_up
use Rattle.rainbow.proofs.machine_calls.rainbow_vertical_tick.Reads as c_vertical_tick
use Rattle.rainbow.proofs.machine_calls.rainbow_watchdog_tick.Reads as c_watchdog_tick
use Rattle.rainbow.proofs.machine_calls.rainbow_columns.Reads as c_columns
use Rattle.rainbow.proofs.machine_calls.rainbow_scroll_latch.Reads as c_scroll_latch
use Rattle.rainbow.proofs.machine_calls.rainbow_z80_runs.Reads as c_z80_runs
use Rattle.rainbow.proofs.machine_calls.rainbow_blanked.Reads as c_blanked
use Rattle.rainbow.proofs.machine_calls.rainbow_graphics.Reads as c_graphics
use Rattle.rainbow.proofs.machine_calls.rainbow_version.Reads as c_version
use Rattle.rainbow.proofs.machine_calls.rainbow_write_port.Reads as c_write_port
use Rattle.rainbow.proofs.processors.rainbow_read_8088.Reads as c_read_8088
use Rattle.rainbow.proofs.processors.rainbow_store_8088.Reads as c_store_8088
use Rattle.rainbow.proofs.processors.rainbow_read_z80.Reads as c_read_z80
use Rattle.rainbow.proofs.processors.rainbow_store_z80.Reads as c_store_z80
use Rattle.rainbow.proofs.processors.rainbow_read_shadow.Reads as c_read_shadow
use Rattle.rainbow.proofs.processors.rainbow_write_shadow.Reads as c_write_shadow
use Rattle.rainbow.proofs.screen.rainbow_draw.Reads as c_draw
use Rattle.rainbow.proofs.screen.rainbow_store_with_picture.Reads as c_store_with_picture
use Rattle.rainbow.proofs.screen.rainbow_is_marked.Reads as c_is_marked
use Rattle.rainbow.proofs.watching.rainbow_start_viewers.Reads as c_start_viewers
use Rattle.rainbow.proofs.watching.rainbow_ask.Reads as c_ask
use Rattle.rainbow.proofs.watching.rainbow_draw_for_viewers.Reads as c_draw_for_viewers
use Rattle.rainbow.proofs.watching.rainbow_store_for_viewers.Reads as c_store_for_viewers
use Rattle.rainbow.proofs.watching.rainbow_store_with_index_for_viewers.Reads as c_store_with_index_for_viewers
use Rattle.rainbow.proofs.indexing.rainbow_index_readers.Reads as c_index_readers
use Rattle.rainbow.proofs.indexing.rainbow_store_with_index.Reads as c_store_with_index
use Rattle.rainbow.proofs.scan_lines.rainbow_glyph_part.Reads as c_glyph_part
use Rattle.rainbow.proofs.scan_lines.rainbow_scan_line.Reads as c_scan_line
use Rattle.rainbow.proofs.scan_lines.rainbow_dots_of_line.Reads as c_dots_of_line
use Rattle.rainbow.proofs.scan_lines.rainbow_list_lines.Reads as c_list_lines
use Rattle.rainbow.proofs.screen.rainbow_explain.Reads as c_explain
use Rattle.runs.specs.Once.{Once, AnswersOnce}

pub no_second : {A : Type 0} {promised one other : A} → one ≡ promised → other ≡ promised → one ≡ other
no_second p q = p ∙ sym q

-- an answer, and the memories that are left beside it
pub record Left (Answer : Type 0) : Type 0 where
  pub answer : Answer
  pub memories : List (List ℕ)

abbrev pub left : {Answer : Type 0} → Answer → List (List ℕ) → Left Answer
left answer memories = record { answer = answer; memories = memories }

-- where the answer is told in numbers, of one answer alone
both :
    {Answer Told Outcome : Type 0} {one other : Answer} {outcome same : Outcome} (told : Outcome → Told)
    (memories : Outcome → List (List ℕ)) → (told outcome ≡ told same → one ≡ other) → outcome ≡ same
    → left one (memories outcome) ≡ left other (memories same)
both told memories alone e = ap₂ left (alone (ap told e)) (ap memories e)

pub power_up_once : AnswersOnce power_up.Post
power_up_once κs a one two = no_second

pub vertical_tick_once : AnswersOnce vertical_tick.Post
vertical_tick_once κs a one two = no_second

pub watchdog_tick_once : AnswersOnce watchdog_tick.Post
watchdog_tick_once κs a one two = no_second

pub columns_once : AnswersOnce columns.Post
columns_once κs a one two = no_second

pub scroll_latch_once : AnswersOnce scroll_latch.Post
scroll_latch_once κs a one two = no_second

pub z80_runs_once : AnswersOnce z80_runs.Post
z80_runs_once κs a one two = no_second

pub blanked_once : AnswersOnce blanked.Post
blanked_once κs a one two = no_second

pub graphics_once : AnswersOnce graphics.Post
graphics_once κs a one two = no_second

pub read_8088_once : AnswersOnce read_8088.Post
read_8088_once κs a one two p q = byte_alone (no_second p q)

pub store_8088_once : Once store_8088.Post (λ κs r s. left r (s.1.0.now ∷ s.1.1.0.now ∷ s.1.1.1.0.now ∷ []))
store_8088_once κs a one two p q =
    both (λ (out : Stored8088). out.refusal) (λ out. out.shared ∷ out.screen ∷ out.attribute ∷ []) number_alone (no_second p q)

pub read_z80_once : AnswersOnce read_z80.Post
read_z80_once κs a one two p q = byte_alone (no_second p q)

pub store_z80_once : Once store_z80.Post (λ κs r s. left r (s.1.0.now ∷ s.1.1.0.now ∷ []))
store_z80_once κs a one two p q =
    both (λ (out : StoredZ80). out.refusal) (λ out. out.private ∷ out.shared ∷ []) number_alone (no_second p q)

pub read_shadow_once : AnswersOnce read_shadow.Post
read_shadow_once κs a one two p q = byte_alone (no_second p q)

pub write_shadow_once : Once write_shadow.Post (λ κs r s. left r (s.1.0.now ∷ []))
write_shadow_once κs a one two p q =
    both (λ (out : WrittenShadow). out.refusal) (λ out. out.shadow ∷ []) number_alone (no_second p q)

pub write_port_once : Once write_port.Post (λ κs r s. left r (s.1.0.now ∷ s.1.1.0.now ∷ []))
write_port_once κs a one two p q =
    both (λ (out : WrittenPort). out.answer) (λ out. out.shadow ∷ out.nvm ∷ []) (written_alone _) (no_second p q)

pub draw_once : Once draw.Post (λ κs r s. left r (s.1.1.1.0.now ∷ []))
draw_once κs a one two p q =
    both (λ (out : DrawnPicture). out.answer) (λ out. out.picture ∷ []) drawing_alone (no_second p q)

pub store_with_picture_once :
    Once store_with_picture.Post
    (λ κs r s. left r (s.1.0.now ∷ s.1.1.0.now ∷ s.1.1.1.0.now ∷ s.1.1.1.1.0.now ∷ []))
store_with_picture_once κs a one two p q =
    both (λ (out : StoredWithPicture). out.answer)
    (λ out. out.shared ∷ out.screen ∷ out.attribute ∷ out.picture ∷ []) store_alone (no_second p q)

pub index_readers_once : Once index_readers.Post (λ κs r s. left r (s.1.1.1.0.now ∷ []))
index_readers_once κs a one two p q =
    both (λ (out : IndexedReaders). out.refusal) (λ out. out.index ∷ []) number_alone (no_second p q)

pub store_with_index_once :
    Once store_with_index.Post
    (λ κs r s. left r (s.1.0.now ∷ s.1.1.0.now ∷ s.1.1.1.0.now ∷ s.1.1.1.1.0.now ∷ s.1.1.1.1.1.0.now ∷ []))
store_with_index_once κs a one two p q =
    both (λ (out : StoredWithIndex). out.answer)
    (λ out. out.shared ∷ out.screen ∷ out.attribute ∷ out.picture ∷ out.index ∷ []) store_alone (no_second p q)

pub is_marked_once : AnswersOnce is_marked.Post
is_marked_once κs a one two = no_second

pub start_viewers_once : AnswersOnce start_viewers.Post
start_viewers_once κs a one two = no_second

pub ask_once : AnswersOnce ask.Post
ask_once κs a one two p q = asked_alone _ (no_second p q)

pub draw_for_viewers_once : Once draw_for_viewers.Post (λ κs r s. left r (s.1.1.1.1.0.now ∷ []))
draw_for_viewers_once κs a one two p q =
    both (λ (out : DrawnServing). out.answer) (λ out. out.picture ∷ []) (drawn_alone _) (no_second p q)

pub store_for_viewers_once :
    Once store_for_viewers.Post
    (λ κs r s. left r (s.1.1.0.now ∷ s.1.1.1.0.now ∷ s.1.1.1.1.0.now ∷ s.1.1.1.1.1.0.now ∷ []))
store_for_viewers_once κs a one two p q =
    both (λ (out : StoredServing). out.answer)
    (λ out. out.shared ∷ out.screen ∷ out.attribute ∷ out.picture ∷ []) (served_alone _) (no_second p q)

pub store_with_index_for_viewers_once :
    Once store_with_index_for_viewers.Post
    (λ κs r s.
    left r (s.1.1.0.now ∷ s.1.1.1.0.now ∷ s.1.1.1.1.0.now ∷ s.1.1.1.1.1.0.now ∷ s.1.1.1.1.1.1.0.now ∷ []))
store_with_index_for_viewers_once κs a one two p q =
    both (λ (out : StoredServingIndex). out.answer)
    (λ out. out.shared ∷ out.screen ∷ out.attribute ∷ out.picture ∷ out.index ∷ []) (served_alone _) (no_second p q)

-- of a part that is handed back the outcome is where it lies and its bytes
pub part_once : Once part.Post (λ κs r s. told_part r)
part_once κs a one two = no_second

-- and of its number of refusal
pub part_refusal_once : Once part.Post (λ κs r s. (told_part r).refusal)
part_refusal_once κs a one two p q = ap (λ (out : PartAnswer). out.refusal) (no_second p q)

pub draw_line_once : Once draw_line.Post (λ κs r s. left r (s.1.1.1.1.1.0.now ∷ []))
draw_line_once κs a one two p q =
    both (λ (out : DrawnLine). out.refusal) (λ out. out.line ∷ []) number_alone (no_second p q)

pub list_lines_once : Once list_lines.Post (λ κs r s. left r (s.1.1.0.now ∷ []))
list_lines_once κs a one two p q =
    both (λ (out : Listed). out.refusal) (λ out. out.list ∷ []) number_alone (no_second p q)

pub explain_once : AnswersOnce explain.Post
explain_once κs a one two p q = answer_alone (no_second p q)

-- as numbers
pub tell_once : AnswersOnce tell.Post
tell_once κs a one two = no_second

-- that they fit a line follows from the first clause
pub dots_of_line_once : AnswersOnce dots_of_line.Post
dots_of_line_once κs a one two p q = no_second p.0 q.0

-- what the programs are made of; the length of the text of two of them follows from the first clause of the promise
pub list_rows_once : Once list_rows.Post (λ κs r s. left r (s.1.1.1.0.now ∷ s.1.1.1.1.0.now ∷ []))
list_rows_once κs a one two p q =
    both (λ (out : ListedRows). out.answer) (λ out. out.picture ∷ out.text ∷ []) listed_alone (no_second p.0 q.0)

pub say_once : Once say.Post (λ κs r s. left r (s.1.1.1.1.1.0.now ∷ []))
say_once κs a one two p q =
    let same = said_alone (no_second p.0 q.0) in ap₂ left same.0 (ap (λ text. text ∷ []) same.1)

pub parse_once : AnswersOnce parse.Post
parse_once κs a one two = no_second

pub has_words_once : AnswersOnce has_words.Post
has_words_once κs a one two = no_second

pub is_meant_once : AnswersOnce is_meant.Post
is_meant_once κs a one two = no_second

pub form_text_once : Once form_text.Post (λ κs r s. r.now)
form_text_once κs a one two = no_second

pub form_count_once : AnswersOnce form_count.Post
form_count_once κs a one two = no_second

-- the same of the calls under names of C
pub c_power_up_once : AnswersOnce c_power_up.Post
c_power_up_once κs a one two = no_second

pub c_vertical_tick_once : AnswersOnce c_vertical_tick.Post
c_vertical_tick_once κs a one two = no_second

pub c_watchdog_tick_once : AnswersOnce c_watchdog_tick.Post
c_watchdog_tick_once κs a one two = no_second

pub c_columns_once : AnswersOnce c_columns.Post
c_columns_once κs a one two = no_second

pub c_scroll_latch_once : AnswersOnce c_scroll_latch.Post
c_scroll_latch_once κs a one two = no_second

pub c_z80_runs_once : AnswersOnce c_z80_runs.Post
c_z80_runs_once κs a one two = no_second

pub c_blanked_once : AnswersOnce c_blanked.Post
c_blanked_once κs a one two = no_second

pub c_graphics_once : AnswersOnce c_graphics.Post
c_graphics_once κs a one two = no_second

pub c_version_once : AnswersOnce c_version.Post
c_version_once κs a one two = no_second

pub c_write_port_once : Once c_write_port.Post (λ κs r s. written_port r s.1.0.now s.1.1.0.now)
c_write_port_once κs a one two = no_second

pub c_read_8088_once : AnswersOnce c_read_8088.Post
c_read_8088_once κs a one two = no_second

pub c_store_8088_once : Once c_store_8088.Post (λ κs r s. stored_8088 r s.1.0.now s.1.1.0.now s.1.1.1.0.now)
c_store_8088_once κs a one two = no_second

pub c_read_z80_once : AnswersOnce c_read_z80.Post
c_read_z80_once κs a one two = no_second

pub c_store_z80_once : Once c_store_z80.Post (λ κs r s. stored_z80 r s.1.0.now s.1.1.0.now)
c_store_z80_once κs a one two = no_second

pub c_read_shadow_once : AnswersOnce c_read_shadow.Post
c_read_shadow_once κs a one two = no_second

pub c_write_shadow_once : Once c_write_shadow.Post (λ κs r s. written_shadow r s.1.0.now)
c_write_shadow_once κs a one two = no_second

pub c_draw_once : Once c_draw.Post (λ κs r s. drawn r s.1.1.1.0.now)
c_draw_once κs a one two = no_second

pub c_store_with_picture_once : Once c_store_with_picture.Post (λ κs r s. stored_with_picture r s.1.0.now s.1.1.0.now s.1.1.1.0.now s.1.1.1.1.0.now)
c_store_with_picture_once κs a one two = no_second

pub c_is_marked_once : AnswersOnce c_is_marked.Post
c_is_marked_once κs a one two = no_second

pub c_start_viewers_once : AnswersOnce c_start_viewers.Post
c_start_viewers_once κs a one two = no_second

pub c_ask_once : AnswersOnce c_ask.Post
c_ask_once κs a one two = no_second

pub c_draw_for_viewers_once : Once c_draw_for_viewers.Post (λ κs r s. drawn_serving r s.1.1.1.1.0.now)
c_draw_for_viewers_once κs a one two = no_second

pub c_store_for_viewers_once :
    Once c_store_for_viewers.Post
    (λ κs r s. stored_serving r s.1.1.0.now s.1.1.1.0.now s.1.1.1.1.0.now s.1.1.1.1.1.0.now)
c_store_for_viewers_once κs a one two = no_second

pub c_store_with_index_for_viewers_once :
    Once c_store_with_index_for_viewers.Post
    (λ κs r s. stored_serving_index r s.1.1.0.now s.1.1.1.0.now s.1.1.1.1.0.now s.1.1.1.1.1.0.now s.1.1.1.1.1.1.0.now)
c_store_with_index_for_viewers_once κs a one two = no_second

pub c_index_readers_once : Once c_index_readers.Post (λ κs r s. indexed r s.1.1.1.0.now)
c_index_readers_once κs a one two = no_second

pub c_store_with_index_once :
    Once c_store_with_index.Post
    (λ κs r s. stored_with_index r s.1.0.now s.1.1.0.now s.1.1.1.0.now s.1.1.1.1.0.now s.1.1.1.1.1.0.now)
c_store_with_index_once κs a one two = no_second

pub c_glyph_part_once : AnswersOnce c_glyph_part.Post
c_glyph_part_once κs a one two = no_second

pub c_scan_line_once : Once c_scan_line.Post (λ κs r s. drawn_line r s.1.1.1.1.1.0.now)
c_scan_line_once κs a one two = no_second

pub c_dots_of_line_once : AnswersOnce c_dots_of_line.Post
c_dots_of_line_once κs a one two = no_second

pub c_list_lines_once : Once c_list_lines.Post (λ κs r s. listed_lines r s.1.1.0.now)
c_list_lines_once κs a one two = no_second

pub c_explain_once : AnswersOnce c_explain.Post
c_explain_once κs a one two = no_second
