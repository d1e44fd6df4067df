-- The statement of specs/Worked.antt, by computation.
use mathlib.Core.Path.{◌≡◌, refl}
use mathlib.Core.List.{List, map, map-append}
use Rattle.memories.specs.View8088.{within, lengths_8088, seen_8088, refused_access}
use Rattle.memories.specs.ViewZ80.{lengths_z80, refusal_z80, is_private, seen_z80}
use Rattle.shadow.specs.Shadow.{refused_place}
use Rattle.ports.specs.Ports.{lengths_nvm, refusal_port}
use Rattle.chain.specs.First.{first_that}
use Rattle.chain.specs.Chain.{byte_at, capacity, first_ff, terminator, link, row_from, next, row_at}
use Rattle.chain.specs.Reading.{reads, reads_to, from, screen_read, attribute_read}
use Rattle.chain.specs.Wild.{wild_link, wild}
use Rattle.records.specs.Record.{cell_pairs, fill_pairs, record_of}
use Rattle.picture.specs.Picture.{in_order, record_in}
use Rattle.picture.specs.Wild.{first_wild_from}
use Rattle.picture.specs.Draw.{lengths_picture}
use Rattle.marks.specs.Marks.{bit_set, marks_to}
use Rattle.readers.specs.Readers.{among}
use Rattle.mending.specs.Store.{lengths_with_picture}
use Rattle.glyphs.specs.Scans.{scan_addresses}
use Rattle.dots.specs.Attributes.{shade}
use Rattle.dots.specs.Cell.{glyph_dots, twice, cell_dots}
use Rattle.scan_line.specs.Line.{pair_dots, row_dots, shows_nothing, line_of}
use Rattle.scan_line.specs.Call.{lengths_line, on_tube}
use Rattle.whole_screen.specs.Screen.{run_start, run_end, at_rest, screen_lines}
use Rattle.whole_screen.specs.Call.{lengths_list, kinds_in}
use Rattle.explaining.specs.Explain.{led_to, row_that_tore, reached as reached_row, why}
use Rattle.explaining.specs.Call.{on_screen}
use Rattle.ascii.specs.Ascii.{ascii}
use Rattle.ascii.specs.Numbers.{decimal, reached, digit, hex}
use Rattle.listing.specs.Listing.{heading, counted, row_and_start, line, line_of as row_line, lines_to, refused_text, text_of, drawing, list_rows}
use Rattle.sentences.specs.Words.{printable, character_words, said_if, attribute_words, width_words, kind_words}
use Rattle.sentences.specs.Sentences.{row_and_column, shown, held_in, fill_sentence, past_sentence, dark_sentence, clause, clauses_to, chain_sentence, text_of as said_text, say}
use Rattle.cases.specs.Said.{Said, Case, differ}
use Rattle.cases.specs.Screens.{alike_from, alike, drawn_from, rows_of, drawn_all, memory, byte_of_row, start_of_row, count_of_row, named, empty_rows}
use Rattle.cases.specs.Memories.{zeros, refused_by, running, stored_by_z80, stored_short, read_by_z80, stored_by_8088}
use Rattle.cases.specs.Ports.{shadow, nvm, written, written_all, none, recalls}
use Rattle.cases.specs.Watchdog.{ticked, watching, in_reset, watch, told, read_by_8088, read_of_shadow, written_to_shadow, written_to_port}
use Rattle.cases.specs.Mends.{marked_of, marked_from, marked, stored_at, mended_row}
use Rattle.cases.specs.Index.{entries_of, renewed_of, named_by}
use Rattle.cases.specs.Viewers.{told_to, asked_by, stored_for, drawn_for}
use Rattle.cases.specs.Dots.{showing, row_of_kind, lit_dots, every_byte, of_character, numbered, digits80, digits132, bits, lit_by_bits, under_digits, printed}
use Rattle.cases.specs.Scroll.{standing, scrolling, lines_at, of_kinds, kinds_at, refused_at}
use Rattle.cases.specs.Lister.{listed_of}
use Rattle.cases.specs.Why.{looped, over_the_end, at132, why_at, beside_link, said_of}
use Rattle.cases.specs.Table.{screens, wild_links, stores, held, writes, ticks, resets, mends, watched, indexes, dots, scrolls, whys, sentences, prints, table}
use Rattle.cases.specs.Worked.{Worked}

abbrev gives : List Case → List (List Said)
gives = map (λ (c : Case). c.gives)

abbrev says : List Case → List (List Said)
says = map (λ (c : Case). c.says)

drawn : gives screens ≡ says screens
unfolding byte_at capacity first_ff terminator link row_from next row_at reads reads_to cell_pairs fill_pairs record_of in_order lengths_picture alike_from alike drawn_from rows_of drawn_all memory byte_of_row start_of_row count_of_row screens
drawn = refl

named_out : gives wild_links ≡ says wild_links
unfolding byte_at capacity first_ff terminator link row_from next row_at wild_link wild first_wild_from reads reads_to cell_pairs fill_pairs record_of in_order lengths_picture drawn_from memory named empty_rows wild_links
named_out = refl

stored : gives stores ≡ says stores
unfolding within lengths_8088 seen_8088 refused_access lengths_z80 refusal_z80 is_private differ zeros refused_by running stored_by_z80 stored_by_8088 stores
stored = refl

held_out : gives held ≡ says held
unfolding lengths_nvm refusal_port lengths_z80 refusal_z80 is_private seen_z80 differ shadow nvm written written_all zeros refused_by running stored_by_z80 stored_short read_by_z80 held
held_out = refl

written_out : gives writes ≡ says writes
unfolding lengths_nvm refusal_port differ shadow nvm written written_all none recalls writes
written_out = refl

ticked_out : gives ticks ≡ says ticks
unfolding lengths_nvm refusal_port shadow nvm written written_all ticked watching in_reset watch ticks
ticked_out = refl

reset_out : gives resets ≡ says resets
unfolding within lengths_8088 seen_8088 refused_access lengths_z80 refusal_z80 is_private seen_z80 refused_place lengths_nvm refusal_port differ shadow nvm written written_all zeros refused_by running stored_by_z80 read_by_z80 stored_by_8088 ticked watching in_reset watch told read_by_8088 read_of_shadow written_to_shadow written_to_port resets
reset_out = refl

mended_out : gives mends ≡ says mends
unfolding byte_at capacity first_ff terminator link row_from next row_at screen_read attribute_read from cell_pairs fill_pairs record_of in_order record_in lengths_picture within lengths_8088 seen_8088 refused_access lengths_with_picture among first_that bit_set marks_to drawn_from rows_of memory zeros marked_of marked_from marked stored_at mended_row mends
mended_out = refl

watched_out : gives watched ≡ says watched
unfolding byte_at capacity first_ff terminator link row_from next row_at reads reads_to screen_read attribute_read from cell_pairs fill_pairs record_of in_order record_in lengths_picture within lengths_8088 seen_8088 refused_access lengths_with_picture among first_that bit_set marks_to drawn_from memory zeros marked_of marked_from marked told_to asked_by stored_for drawn_for watched
watched_out = refl

indexed_out : gives indexes ≡ says indexes
unfolding byte_at capacity first_ff terminator link row_from next row_at screen_read attribute_read from among first_that memory looped over_the_end entries_of renewed_of named_by indexes
indexed_out = refl

shown_out : gives dots ≡ says dots
unfolding capacity in_order record_in scan_addresses shade glyph_dots twice cell_dots pair_dots row_dots shows_nothing line_of lengths_line on_tube showing row_of_kind lit_dots every_byte of_character numbered digits80 digits132 bits lit_by_bits under_digits printed dots
shown_out = refl

scrolled_out : gives scrolls ≡ says scrolls
unfolding first_that in_order record_in run_start run_end at_rest screen_lines lengths_list kinds_in standing scrolling lines_at of_kinds kinds_at refused_at scrolls
scrolled_out = refl

explained_out : gives whys ≡ says whys
unfolding byte_at capacity first_ff terminator link row_from next row_at first_that led_to row_that_tore why on_screen lengths_nvm refusal_port shadow nvm written written_all memory looped over_the_end at132 why_at beside_link whys
explained_out = refl

said_out : gives sentences ≡ says sentences
unfolding byte_at capacity first_ff terminator link row_from next row_at first_that led_to row_that_tore reached_row why on_screen memory looped beside_link ascii decimal reached digit printable character_words said_if attribute_words width_words kind_words row_and_column shown held_in fill_sentence past_sentence dark_sentence clause clauses_to chain_sentence said_text say said_of sentences
said_out = refl

printed_out : gives prints ≡ says prints
unfolding byte_at capacity first_ff terminator link row_from next row_at reads reads_to cell_pairs fill_pairs record_of in_order lengths_picture heading counted row_and_start line row_line lines_to refused_text text_of drawing list_rows ascii decimal reached digit hex listed_of prints
printed_out = refl

pub worked : Worked
unfolding table
worked = simp map-append (rw (drawn, named_out, stored, held_out, written_out, ticked_out, reset_out, mended_out, watched_out, indexed_out, shown_out, scrolled_out, explained_out, said_out, printed_out))
