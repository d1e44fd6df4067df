-- Document 01, "Screens and ports worked out": the cases marked P. Document 02: those of tickets 1 to 7.
use Rattle.std.specs.Prelude.{◌-◌, List, [], ◌∷◌, ◌++◌, map, true, false, replicate}
use Rattle.lent.specs.Lengths.{shared_bytes, screen_bytes, attribute_bytes, shadow_bytes, picture_bytes}
use Rattle.machine.specs.Fields.{with_held, with_count, with_reset}
use Rattle.machine.specs.Power.{power_up, vertical_tick}
use Rattle.viewers.specs.Viewers.{start, added}
use Rattle.glyphs.specs.Scans.{scan_addresses, scan_address, glyph_scan}
use Rattle.ascii.specs.Ascii.{ascii}
use Rattle.memories.specs.declared.view8088.Seen.TheVariants.{Shared as OfShared, Screen as OfScreen, Attribute as OfAttribute}
use Rattle.cases.specs.Said.{Case, Private, Shared, Screen, Attribute, Byte, Refused, Interlaced, Recalls, Watch, Row, Start, Count, Reads, Names, Marked, Line, Kind, Dots, Addresses, GlyphScan, Prints, Cell, Fill, Past, Dark, Link, IsRow0}
use Rattle.cases.specs.Screens.{alike, drawn_all, start_of_row, count_of_row, memory, named, empty_rows}
use Rattle.cases.specs.Memories.{running, stored_by_z80, stored_short, read_by_z80, stored_by_8088}
use Rattle.cases.specs.Ports.{written_all, recalls}
use Rattle.cases.specs.Watchdog.{ticked, watching, in_reset, watch, read_by_8088, read_of_shadow, written_to_shadow, written_to_port}
use Rattle.cases.specs.Scroll.{standing, scrolling, lines_at, kinds_at, refused_at}
use Rattle.cases.specs.Lister.{listed_of}
use Rattle.cases.specs.Why.{looped, over_the_end, at132, why_at, beside_link, said_of}
use Rattle.cases.specs.Mends.{marked, mended_row}
use Rattle.cases.specs.Index.{entries_of, renewed_of, named_by}
use Rattle.cases.specs.Viewers.{told_to, asked_by, stored_for, drawn_for}
use Rattle.cases.specs.Dots.{lit_dots, every_byte, numbered, digits80, digits132, lit_by_bits, under_digits, printed}

-- P1 to P6
unfoldable pub screens : List Case
screens =
    -- P1: screen all FF, attribute all 00, 80 columns: row 0: start 0, kind 3, count 0; rows 1 to 24: start 4095, kind
    -- 0, count 0; 75 read. 02, ticket 5: "P1, P2 and P13 gain a row, and P1 reads 75"
    record {
      gives = drawn_all (replicate screen_bytes 0xFF) (replicate attribute_bytes 0x00);
      says = Reads 75 ∷ Row 0 0 3 0 ∷ alike 1 24 4095 0 0;
    }
    -- P2: both all 00, 80 columns: row 0 torn, others dark; 81 read
    ∷ record {
      gives = drawn_all (replicate screen_bytes 0x00) (replicate attribute_bytes 0x00);
      says = Reads 81 ∷ Row 0 0 3 255 ∷ alike 1 24 0 3 254;
    }
    -- P3: FF 50 01: next start 336
    ∷ record { gives = start_of_row 1 (0xFF ∷ 0x50 ∷ 0x01 ∷ []) 3; says = Start 336 ∷ [] }
    -- P4: FF 50 F1: next start 336
    ∷ record { gives = start_of_row 1 (0xFF ∷ 0x50 ∷ 0xF1 ∷ []) 3; says = Start 336 ∷ [] }
    -- P5: normal, 80: first FF 80 or 81 bytes after the start: count 80; torn
    ∷ record { gives = count_of_row 0 (replicate 80 0x41 ++ (0xFF ∷ [])) 3; says = Count 80 ∷ [] }
    ∷ record { gives = count_of_row 0 (replicate 81 0x41 ++ (0xFF ∷ [])) 3; says = Count 255 ∷ [] }
    -- P6: double width, 80: FF 40 or 41 after: count 40; torn. Row 1 starts at place 3
    ∷ record { gives = count_of_row 1 (0xFF ∷ 3 ∷ 0 ∷ replicate 40 0x41 ++ (0xFF ∷ [])) 2; says = Count 40 ∷ [] }
    ∷ record { gives = count_of_row 1 (0xFF ∷ 3 ∷ 0 ∷ replicate 41 0x41 ++ (0xFF ∷ [])) 2; says = Count 255 ∷ [] }
    ∷ []

-- 02, ticket 1: "each drawing should name the first such row, or none". The screens of P1 to P4 and others like them.
unfoldable pub wild_links : List Case
wild_links =
    -- P1: each link is FF FF
    record { gives = named (replicate screen_bytes 0xFF) 0; says = Names true 0 ∷ [] }
    -- P2: row 0 is torn, the others are dark: "A torn or dark row has no link."
    ∷ record { gives = named [] 0; says = Names false 0 ∷ [] }
    -- P3 and P4: the high byte is 01; F1
    ∷ record { gives = named (0xFF ∷ 0x50 ∷ 0x01 ∷ []) 3; says = Names false 0 ∷ [] }
    ∷ record { gives = named (0xFF ∷ 0x50 ∷ 0xF1 ∷ []) 3; says = Names true 0 ∷ [] }
    -- bit 4 alone; bits 7 to 4 of the low byte; bit 3 alone, where row 1 leads back to row 0
    ∷ record { gives = named (0xFF ∷ 0x50 ∷ 0x10 ∷ []) 3; says = Names true 0 ∷ [] }
    ∷ record { gives = named (0xFF ∷ 0xF0 ∷ 0x00 ∷ []) 3; says = Names false 0 ∷ [] }
    ∷ record {
      gives = named (0xFF ∷ 0x00 ∷ 0x08 ∷ replicate 2045 0x00 ++ (0xFF ∷ 0 ∷ 0 ∷ [])) 3;
      says = Names false 0 ∷ [];
    }
    -- rows 1 and 2 are wild, 0 is not
    ∷ record { gives = named (empty_rows 0 1 (0xFF ∷ 6 ∷ 0x80 ∷ 0xFF ∷ 0 ∷ 0x10 ∷ [])) 3; says = Names true 1 ∷ [] }
    -- row 1 is torn, all its bytes F0
    ∷ record { gives = named (empty_rows 0 1 (replicate 84 0xF0)) 3; says = Names false 0 ∷ [] }
    -- row 1 is wild and leads to itself, so that every later row is the same
    ∷ record { gives = named (empty_rows 0 1 (0xFF ∷ 3 ∷ 0x20 ∷ [])) 3; says = Names true 1 ∷ [] }
    -- the last row alone; a row more than there are
    ∷ record { gives = named (empty_rows 0 24 (0xFF ∷ 0 ∷ 0x40 ∷ [])) 3; says = Names true 24 ∷ [] }
    ∷ record { gives = named (empty_rows 0 25 (0xFF ∷ 0 ∷ 0x40 ∷ [])) 3; says = Names false 0 ∷ [] }
    ∷ []

-- P7, P8
unfoldable pub stores : List Case
stores =
    -- P7: Z80 store at 07FF; at 0800: private 2047; shared 2048. 02, ticket 2: "P7 has it set", bit 0 of port 0A
    record { gives = stored_by_z80 running 0x07FF; says = Private 2047 ∷ [] }
    ∷ record { gives = stored_by_z80 running 0x0800; says = Shared 2048 ∷ [] }
    -- P8: 8088 at EE000, EFFFF; EDFFF, F0000, 10000: screen 0, attribute 4095; refused 2
    ∷ record { gives = stored_by_8088 power_up 0xEE000; says = Screen 0 ∷ [] }
    ∷ record { gives = stored_by_8088 power_up 0xEFFFF; says = Attribute 4095 ∷ [] }
    ∷ record { gives = stored_by_8088 power_up 0xEDFFF; says = Refused 2 ∷ [] }
    ∷ record { gives = stored_by_8088 power_up 0xF0000; says = Refused 2 ∷ [] }
    ∷ record { gives = stored_by_8088 power_up 0x10000; says = Refused 2 ∷ [] }
    ∷ []

-- 02, ticket 2: "So the Z80 runs only while the bit is 1. .. Refusals: 7, the Z80 is held, for both Z80 access calls,
-- after 1."
unfoldable pub held : List Case
held =
    -- 003: "This signal is active at power-up": a Z80 that is held, at 07FF and at 0800
    record { gives = stored_by_z80 power_up 0x07FF; says = Refused 7 ∷ [] }
    ∷ record { gives = stored_by_z80 power_up 0x0800; says = Refused 7 ∷ [] }
    ∷ record { gives = read_by_z80 power_up 0x07FF; says = Refused 7 ∷ Byte 0x00 ∷ [] }
    ∷ record { gives = read_by_z80 power_up 0x0800; says = Refused 7 ∷ Byte 0x00 ∷ [] }
    -- one that runs reads the byte
    ∷ record { gives = read_by_z80 running 0x07FF; says = Byte 0x5A ∷ [] }
    ∷ record { gives = read_by_z80 running 0x0800; says = Byte 0x5A ∷ [] }
    -- "the unblanking value 83 in source document 001 has it set"; FE has every bit set but this one
    ∷ record { gives = stored_by_z80 (written_all 0x0A power_up (0x83 ∷ [])) 0x0800; says = Shared 2048 ∷ [] }
    ∷ record { gives = stored_by_z80 (with_held power_up 0xFE) 0x0800; says = Refused 7 ∷ [] }
    -- 82 over 83 holds it again
    ∷ record { gives = stored_by_z80 (written_all 0x0A power_up (0x83 ∷ 0x82 ∷ [])) 0x0800; says = Refused 7 ∷ [] }
    -- 1 wins, whether the Z80 is held or runs
    ∷ record { gives = stored_short power_up 0x0800; says = Refused 1 ∷ [] }
    ∷ record { gives = stored_short running 0x0800; says = Refused 1 ∷ [] }
    -- C1 over 00 and C0 over 01 are refused by 6, and leave the Z80 as it was
    ∷ record { gives = stored_by_z80 (written_all 0x0A power_up (0xC1 ∷ [])) 0x0800; says = Refused 7 ∷ [] }
    ∷ record { gives = stored_by_z80 (written_all 0x0A running (0xC0 ∷ [])) 0x0800; says = Shared 2048 ∷ [] }
    ∷ []

-- P9, P12
unfoldable pub writes : List Case
writes =
    -- P9: DC011 00 then 20; 20 then 00: not interlaced; interlaced
    record {
      gives = Interlaced (written_all 0x04 power_up (0x00 ∷ 0x20 ∷ [])).interlace ∷ [];
      says = Interlaced false ∷ [];
    }
    ∷ record {
      gives = Interlaced (written_all 0x04 power_up (0x20 ∷ 0x00 ∷ [])).interlace ∷ [];
      says = Interlaced true ∷ [];
    }
    -- P12: 0A holds 00, write 83 twice: one recall
    ∷ record { gives = Recalls (recalls 0x0A power_up (0x83 ∷ 0x83 ∷ [])) ∷ []; says = Recalls 1 ∷ [] }
    ∷ []

-- 02, ticket 3: "While enabled, reset begins at the 128th tick after the last code 09, enabling or end of reset. ..
-- Reset ends at the 128th tick after it began, with the count 0 and the watchdog still enabled"
unfoldable pub ticks : List Case
ticks =
    record { gives = watch (ticked 127 watching); says = Watch true 127 false ∷ [] }
    ∷ record { gives = watch (ticked 128 watching); says = Watch true 0 true ∷ [] }
    ∷ record { gives = watch (ticked 255 watching); says = Watch true 127 true ∷ [] }
    ∷ record { gives = watch (ticked 256 watching); says = Watch true 0 false ∷ [] }
    ∷ record { gives = watch (ticked 383 watching); says = Watch true 127 false ∷ [] }
    ∷ record { gives = watch (ticked 384 watching); says = Watch true 0 true ∷ [] }
    -- "The count goes to 0 at code 09", to 0C and to 10C, which also disables
    ∷ record { gives = watch (written_all 0x0C (ticked 127 watching) (0x09 ∷ [])); says = Watch true 0 false ∷ [] }
    ∷ record { gives = watch (written_all 0x10C (ticked 127 watching) (0x09 ∷ [])); says = Watch false 0 false ∷ [] }
    ∷ record {
      gives = watch (ticked 127 (written_all 0x0C (ticked 127 watching) (0x09 ∷ [])));
      says = Watch true 127 false ∷ [];
    }
    -- "Other codes to port 0C, while it is enabled, leave the count"; 0C is no code, and 09 to 0A is held
    ∷ record {
      gives = watch (written_all 0x0C (ticked 127 watching) (0x00 ∷ 0x08 ∷ 0x0A ∷ 0x0B ∷ 0x0C ∷ []));
      says = Watch true 127 false ∷ [];
    }
    ∷ record { gives = watch (written_all 0x0A (ticked 127 watching) (0x09 ∷ [])); says = Watch true 127 false ∷ [] }
    -- it "stays 0 while disabled"; and enabling starts anew
    ∷ record { gives = watch (ticked 300 power_up); says = Watch false 0 false ∷ [] }
    ∷ record { gives = watch (written_all 0x10C (ticked 127 watching) (0x00 ∷ [])); says = Watch false 0 false ∷ [] }
    ∷ record { gives = watch (written_all 0x10C (ticked 127 watching) (0x0C ∷ [])); says = Watch true 127 false ∷ [] }
    ∷ record {
      gives = watch (ticked 127 (written_all 0x0C (ticked 300 power_up) (0x00 ∷ [])));
      says = Watch true 127 false ∷ [];
    }
    -- a vertical tick is none of them
    ∷ record { gives = watch (vertical_tick (ticked 127 watching)); says = Watch true 127 false ∷ [] }
    -- machines that no run of calls from power-up makes: a count over 127 is as 127, reset ends though disabled, and a
    -- count while disabled is 0 at the next tick and at enabling
    ∷ record { gives = watch (ticked 1 (with_count watching 200)); says = Watch true 0 true ∷ [] }
    ∷ record { gives = watch (ticked 128 in_reset); says = Watch false 0 false ∷ [] }
    ∷ record { gives = watch (ticked 1 (with_count power_up 5)); says = Watch false 0 false ∷ [] }
    ∷ record { gives = watch (written_all 0x0C (with_count power_up 5) (0x00 ∷ [])); says = Watch true 0 false ∷ [] }
    ∷ []

-- 02, ticket 3: "During reset, 8088 accesses, those to the shadow too, and port writes are refused. Refusals: 8, the
-- 8088 is in reset, after 1, ahead of 2 to 6."
unfoldable pub resets : List Case
resets =
    record { gives = stored_by_8088 in_reset 0xEE000; says = Refused 8 ∷ [] }
    ∷ record { gives = stored_by_8088 in_reset 0xEDFFF; says = Refused 8 ∷ [] }
    ∷ record { gives = read_by_8088 in_reset shared_bytes 0xEE000; says = Refused 8 ∷ Byte 0x00 ∷ [] }
    ∷ record { gives = read_by_8088 in_reset shared_bytes 0xEDFFF; says = Refused 8 ∷ Byte 0x00 ∷ [] }
    ∷ record { gives = read_by_8088 in_reset (shared_bytes - 1) 0xEDFFF; says = Refused 1 ∷ Byte 0x00 ∷ [] }
    ∷ record { gives = read_by_8088 power_up shared_bytes 0xEE000; says = Byte 0x5A ∷ [] }
    ∷ record { gives = read_of_shadow in_reset shadow_bytes 0; says = Refused 8 ∷ Byte 0x00 ∷ [] }
    ∷ record { gives = read_of_shadow in_reset shadow_bytes 256; says = Refused 8 ∷ Byte 0x00 ∷ [] }
    ∷ record { gives = read_of_shadow in_reset (shadow_bytes - 1) 256; says = Refused 1 ∷ Byte 0x00 ∷ [] }
    ∷ record { gives = read_of_shadow power_up shadow_bytes 256; says = Refused 5 ∷ Byte 0x00 ∷ [] }
    ∷ record { gives = written_to_shadow in_reset shadow_bytes 256; says = Refused 8 ∷ [] }
    -- a port that is none, a code that is none, both edges, and the 09 that would have come in time
    ∷ record { gives = written_to_port in_reset 0x05 0x00; says = Refused 8 ∷ [] }
    ∷ record { gives = written_to_port in_reset 0x04 0x01; says = Refused 8 ∷ [] }
    ∷ record { gives = written_to_port in_reset 0x0A 0xC0; says = Refused 8 ∷ [] }
    ∷ record { gives = written_to_port in_reset 0x0C 0x09; says = Refused 8 ∷ [] }
    ∷ record { gives = watch (written_all 0x0C (ticked 200 watching) (0x09 ∷ [])); says = Watch true 72 true ∷ [] }
    -- the Z80 goes on
    ∷ record { gives = stored_by_z80 (with_reset running true) 0x0800; says = Shared 2048 ∷ [] }
    ∷ record { gives = read_by_z80 (with_reset running true) 0x0800; says = Byte 0x5A ∷ [] }
    ∷ []

-- P13
unfoldable pub mends : List Case
mends =
    -- P13: screen FF then 00s, attribute all 03; store 01 at place 2: row 1 torn at 256; marks rows 1 to 24, not 0
    record { gives = mended_row 1 (0xFF ∷ []) 0x03 2 0x01; says = Row 1 256 3 255 ∷ marked 1 24 } ∷ []

-- 02, ticket 7: "an answer is exactly the rows marked since that viewer's last ask, or since a fresh drawing, which sets
-- all rows for all, as the start does"
unfoldable pub watched : List Case
watched =
    -- the start; the last viewer; again
    record { gives = told_to 0 start; says = marked 0 24 }
    ∷ record { gives = told_to 7 start; says = marked 0 24 }
    ∷ record { gives = told_to 0 (asked_by 0 start); says = [] }
    -- P13's store adds rows 1 to 24 for this viewer; another has not asked yet
    ∷ record { gives = told_to 0 (stored_for 0xEE002 (asked_by 0 start)); says = marked 1 24 }
    ∷ record { gives = told_to 1 (stored_for 0xEE002 (asked_by 0 start)); says = marked 0 24 }
    -- the same store at an address that the 8088 does not see is refused
    ∷ record { gives = told_to 0 (stored_for 0xEDFFF (asked_by 0 start)); says = [] }
    -- a fresh drawing; one that is refused
    ∷ record { gives = told_to 0 (drawn_for picture_bytes (asked_by 0 start)); says = marked 0 24 }
    ∷ record { gives = told_to 0 (drawn_for (picture_bytes - 1) (asked_by 0 start)); says = [] }
    -- "adds": the marks of two stores together; and marks that a caller holds in bits of no row
    ∷ record { gives = told_to 3 (added (added (asked_by 3 start) 2) 16); says = Marked 1 ∷ Marked 4 ∷ [] }
    ∷ record { gives = told_to 3 (added (asked_by 3 start) 0x80000000); says = Marked 31 ∷ [] }
    -- "10, a viewer over 7", which changes nothing
    ∷ record { gives = told_to 8 start; says = Refused 10 ∷ [] }
    ∷ record { gives = told_to 0 (asked_by 8 start); says = marked 0 24 }
    ∷ []

-- 02, ticket 8: "for each place of screen and then of attribute memory, the number of the first row that reads it, or
-- 255"
unfoldable pub indexes : List Case
indexes =
    -- AB from place 0 and C from place 6, which leads back to place 0: cells, FF and both bytes of the link; places 5 and
    -- 10 are read by none
    record {
      gives =
          entries_of (memory looped) (replicate attribute_bytes 3)
          (OfScreen 0 ∷ OfScreen 2 ∷ OfScreen 4 ∷ OfScreen 5 ∷ OfScreen 6 ∷ OfScreen 9 ∷ OfScreen 10 ∷ []);
      says = Byte 0 ∷ Byte 0 ∷ Byte 0 ∷ Byte 255 ∷ Byte 1 ∷ Byte 1 ∷ Byte 255 ∷ [];
    }
    -- beside cells and low link bytes, not beside FF and the high byte
    ∷ record {
      gives =
          entries_of (memory looped) (replicate attribute_bytes 3)
          (OfAttribute 1 ∷ OfAttribute 2 ∷ OfAttribute 3 ∷ OfAttribute 4 ∷ OfAttribute 6 ∷ OfAttribute 8 ∷ []);
      says = Byte 0 ∷ Byte 255 ∷ Byte 0 ∷ Byte 255 ∷ Byte 1 ∷ Byte 1 ∷ [];
    }
    -- P2: the torn row's last byte, and what stands beside it
    ∷ record {
      gives =
          entries_of (memory []) (replicate attribute_bytes 0)
          (OfScreen 80 ∷ OfScreen 81 ∷ OfAttribute 79 ∷ OfAttribute 80 ∷ []);
      says = Byte 0 ∷ Byte 255 ∷ Byte 0 ∷ Byte 255 ∷ [];
    }
    -- a row that goes on from place 4095 at place 0
    ∷ record {
      gives =
          entries_of over_the_end (replicate attribute_bytes 3)
          (OfScreen 4095 ∷ OfScreen 0 ∷ OfAttribute 4095 ∷ OfAttribute 0 ∷ OfAttribute 1 ∷ []);
      says = Byte 1 ∷ Byte 0 ∷ Byte 1 ∷ Byte 255 ∷ Byte 0 ∷ [];
    }
    -- "over 24 being no row"; shared memory has no entry
    ∷ record {
      gives =
          named_by (24 ∷ 25 ∷ 255 ∷ 0 ∷ [])
          (OfScreen 0 ∷ OfScreen 1 ∷ OfScreen 2 ∷ OfScreen 3 ∷ OfShared 3 ∷ OfAttribute 3 ∷ []);
      says = Byte 24 ∷ Byte 25 ∷ Byte 25 ∷ Byte 0 ∷ Byte 25 ∷ Byte 25 ∷ [];
    }
    -- "Entries under f stay, the others become those of the memory after the store": a true one, one that is not and
    -- becomes so, one that becomes under f, and an untrue one that is under f and stays
    ∷ record {
      gives =
          renewed_of (memory looped) (replicate attribute_bytes 3) 1 (0 ∷ 1 ∷ 7 ∷ 255 ∷ 0 ∷ 0 ∷ 24 ∷ [])
          (0 ∷ 1 ∷ 2 ∷ 3 ∷ 4 ∷ 5 ∷ 6 ∷ []);
      says = Byte 0 ∷ Byte 0 ∷ Byte 0 ∷ Byte 0 ∷ Byte 0 ∷ Byte 0 ∷ Byte 1 ∷ [];
    }
    ∷ []

-- P10, P11, and 003, section 2.1.6.7
unfoldable pub dots : List Case
dots =
    -- P10: glyph byte A5: 1010010111 at 80; 101001011 at 132
    record {
      gives = Dots (lit_dots false 3 (every_byte 0xA5) 1 10) ∷ [];
      says = Dots (1 ∷ 0 ∷ 1 ∷ 0 ∷ 0 ∷ 1 ∷ 0 ∷ 1 ∷ 1 ∷ 1 ∷ []) ∷ [];
    }
    ∷ record {
      gives = Dots (lit_dots true 3 (every_byte 0xA5) 1 9) ∷ [];
      says = Dots (1 ∷ 0 ∷ 1 ∷ 0 ∷ 0 ∷ 1 ∷ 0 ∷ 1 ∷ 1 ∷ []) ∷ [];
    }
    -- P11: top half, scan 10; bottom, scans 1 and 7: glyph scans 5; 6 and 9. The glyph byte of each scan is the scan's
    -- number, so the dots are those of 05, 06 and 09, each twice
    ∷ record {
      gives = GlyphScan (glyph_scan 1 10) ∷ Dots (lit_dots false 1 numbered 10 16) ∷ [];
      says = GlyphScan 5 ∷ Dots (0 ∷ 0 ∷ 0 ∷ 0 ∷ 0 ∷ 0 ∷ 0 ∷ 0 ∷ 0 ∷ 0 ∷ 1 ∷ 1 ∷ 0 ∷ 0 ∷ 1 ∷ 1 ∷ []) ∷ [];
    }
    ∷ record {
      gives = GlyphScan (glyph_scan 0 1) ∷ Dots (lit_dots false 0 numbered 1 16) ∷ [];
      says = GlyphScan 6 ∷ Dots (0 ∷ 0 ∷ 0 ∷ 0 ∷ 0 ∷ 0 ∷ 0 ∷ 0 ∷ 0 ∷ 0 ∷ 1 ∷ 1 ∷ 1 ∷ 1 ∷ 0 ∷ 0 ∷ []) ∷ [];
    }
    ∷ record {
      gives = GlyphScan (glyph_scan 0 7) ∷ Dots (lit_dots false 0 numbered 7 16) ∷ [];
      says = GlyphScan 9 ∷ Dots (0 ∷ 0 ∷ 0 ∷ 0 ∷ 0 ∷ 0 ∷ 0 ∷ 0 ∷ 1 ∷ 1 ∷ 0 ∷ 0 ∷ 0 ∷ 0 ∷ 1 ∷ 1 ∷ []) ∷ [];
    }
    -- 003: "The following table relates the scan number to the scan address": scans 1 to 10 have F, 0, 1, up to 8.
    -- 02, ticket 4: "each is the scan number plus 14, modulo 16"
    ∷ record {
      gives = Addresses (map scan_address (1 ∷ 2 ∷ 3 ∷ 4 ∷ 5 ∷ 6 ∷ 7 ∷ 8 ∷ 9 ∷ 10 ∷ [])) ∷ [];
      says = Addresses scan_addresses ∷ [];
    }
    -- 003: 76543210007654321000, bit by bit
    ∷ record { gives = lit_by_bits false 3 20; says = under_digits digits80 }
    ∷ record { gives = lit_by_bits true 3 18; says = under_digits digits132 }
    -- 003: scan 4, address 2: -###-#####, read as one cell
    ∷ record {
      gives = Dots (lit_dots false 3 printed 4 10) ∷ [];
      says = Dots (0 ∷ 1 ∷ 1 ∷ 1 ∷ 0 ∷ 1 ∷ 1 ∷ 1 ∷ 1 ∷ 1 ∷ []) ∷ [];
    }
    ∷ record {
      gives = Dots (lit_dots true 3 printed 4 9) ∷ [];
      says = Dots (0 ∷ 1 ∷ 1 ∷ 1 ∷ 0 ∷ 1 ∷ 1 ∷ 1 ∷ 1 ∷ []) ∷ [];
    }
    -- 003: scan 7, address 5: ###-######, read as one cell
    ∷ record {
      gives = Dots (lit_dots false 3 printed 7 10) ∷ [];
      says = Dots (1 ∷ 1 ∷ 1 ∷ 0 ∷ 1 ∷ 1 ∷ 1 ∷ 1 ∷ 1 ∷ 1 ∷ []) ∷ [];
    }
    ∷ record {
      gives = Dots (lit_dots true 3 printed 7 9) ∷ [];
      says = Dots (1 ∷ 1 ∷ 1 ∷ 0 ∷ 1 ∷ 1 ∷ 1 ∷ 1 ∷ 1 ∷ []) ∷ [];
    }
    ∷ []

-- 02, ticket 5: "row then scan for each line from the top"
unfoldable pub scrolls : List Case
scrolls =
    -- "With no such run, or with L 0, rows 0 to 23 show in full."
    record {
      gives = lines_at 7 (standing 25 []) (0 ∷ 9 ∷ 10 ∷ 239 ∷ []);
      says = Line 0 0 1 ∷ Line 9 0 10 ∷ Line 10 1 1 ∷ Line 239 23 10 ∷ [];
    }
    ∷ record {
      gives = lines_at 0 (standing 7 (scrolling 3 (standing 15 []))) (70 ∷ 99 ∷ 239 ∷ []);
      says = Line 70 7 1 ∷ Line 99 9 10 ∷ Line 239 23 10 ∷ [];
    }
    -- 003: "when the scroll latch is non-zero, for example 5, the first line of the scrolling region starts with scan
    -- row 5", our scan 6; "the last line of the scrolling region terminates at scan row 4", our scan 5
    ∷ record {
      gives = lines_at 5 (standing 7 (scrolling 3 (standing 15 []))) (69 ∷ 70 ∷ 74 ∷ 75 ∷ 84 ∷ 85 ∷ 89 ∷ 90 ∷ 239 ∷ []);
      says =
          Line 69 6 10
          ∷ Line 70 7 6
          ∷ Line 74 7 10
          ∷ Line 75 8 1
          ∷ Line 84 8 10
          ∷ Line 85 9 1
          ∷ Line 89 9 5
          ∷ Line 90 10 1
          ∷ Line 239 24 10
          ∷ [];
    }
    -- the same run at L 1 and at L 9, and L read modulo 16
    ∷ record {
      gives = lines_at 1 (standing 7 (scrolling 3 (standing 15 []))) (70 ∷ 78 ∷ 79 ∷ 88 ∷ 89 ∷ 90 ∷ []);
      says = Line 70 7 2 ∷ Line 78 7 10 ∷ Line 79 8 1 ∷ Line 88 8 10 ∷ Line 89 9 1 ∷ Line 90 10 1 ∷ [];
    }
    ∷ record {
      gives = lines_at 9 (standing 7 (scrolling 3 (standing 15 []))) (70 ∷ 71 ∷ 80 ∷ 81 ∷ 89 ∷ 90 ∷ []);
      says = Line 70 7 10 ∷ Line 71 8 1 ∷ Line 80 8 10 ∷ Line 81 9 1 ∷ Line 89 9 9 ∷ Line 90 10 1 ∷ [];
    }
    ∷ record {
      gives = lines_at 0xF9 (standing 7 (scrolling 3 (standing 15 []))) (70 ∷ 89 ∷ []);
      says = Line 70 7 10 ∷ Line 89 9 9 ∷ [];
    }
    -- "a run of one row shows none"
    ∷ record {
      gives = lines_at 4 (standing 3 (scrolling 1 (standing 21 []))) (29 ∷ 30 ∷ 239 ∷ []);
      says = Line 29 2 10 ∷ Line 30 4 1 ∷ Line 239 24 10 ∷ [];
    }
    -- "the first unbroken run": the second shows in full
    ∷ record {
      gives = lines_at 4 (standing 3 (scrolling 2 (standing 1 (scrolling 2 (standing 17 []))))) (30 ∷ 39 ∷ 40 ∷ 50 ∷ 69 ∷ []);
      says = Line 30 3 5 ∷ Line 39 4 4 ∷ Line 40 5 1 ∷ Line 50 6 1 ∷ Line 69 7 10 ∷ [];
    }
    -- a run that reaches row 24, and one of row 24 alone; rows 1 to 24
    ∷ record {
      gives = lines_at 6 (standing 20 (scrolling 5 [])) (199 ∷ 200 ∷ 233 ∷ 234 ∷ 239 ∷ []);
      says = Line 199 19 10 ∷ Line 200 20 7 ∷ Line 233 23 10 ∷ Line 234 24 1 ∷ Line 239 24 6 ∷ [];
    }
    ∷ record { gives = lines_at 6 (standing 24 (scrolling 1 [])) (239 ∷ []); says = Line 239 23 10 ∷ [] }
    ∷ record {
      gives = lines_at 2 (standing 1 (scrolling 24 [])) (9 ∷ 10 ∷ 239 ∷ []);
      says = Line 9 0 10 ∷ Line 10 1 3 ∷ Line 239 24 2 ∷ [];
    }
    -- kinds are taken modulo 8 from a picture, whatever bytes it holds
    ∷ record {
      gives = kinds_at (0xF3 ∷ 0xFC ∷ standing 22 (0x0F ∷ [])) (0 ∷ 1 ∷ 2 ∷ 24 ∷ []);
      says = Kind 3 ∷ Kind 4 ∷ Kind 3 ∷ Kind 7 ∷ [];
    }
    -- "9, a whole screen asked for with L over 9", with a run and without; 1 wins
    ∷ record { gives = refused_at 9 (standing 25 []) 480; says = Refused 0 ∷ [] }
    ∷ record { gives = refused_at 10 (standing 7 (scrolling 3 (standing 15 []))) 480; says = Refused 9 ∷ [] }
    ∷ record { gives = refused_at 15 (standing 25 []) 480; says = Refused 9 ∷ [] }
    ∷ record { gives = refused_at 10 (standing 24 []) 480; says = Refused 1 ∷ [] }
    ∷ record { gives = refused_at 10 (standing 25 []) 481; says = Refused 1 ∷ [] }
    ∷ []

-- the row lister, printed whole
unfoldable pub prints : List Case
prints =
    -- "For 8,192 zero bytes it prints, whole"
    record {
      gives = listed_of (replicate screen_bytes 0x00) (replicate attribute_bytes 0x00) 0;
      says = Prints (ascii "columns 80 reads 81" ++ (0x0A ∷ ascii "0 0000 3 torn" ++ (0x0A ∷ []))) ∷ [];
    }
    -- "Input of another length prints `refused 1`": a byte too many, and one too few
    ∷ record {
      gives = listed_of (replicate screen_bytes 0x00) (replicate attribute_bytes 0x00) 1;
      says = Prints (ascii "refused 1" ++ (0x0A ∷ [])) ∷ [];
    }
    ∷ record {
      gives = listed_of (replicate screen_bytes 0x00) (replicate (attribute_bytes - 1) 0x00) 0;
      says = Prints (ascii "refused 1" ++ (0x0A ∷ [])) ∷ [];
    }
    ∷ []

-- 02, ticket 6. In the screen `AB, FF, link to 6; C, FF, link to 0` row 1 is of kind 2, and row 2 is row 0's cells again
unfoldable pub whys : List Case
whys =
    -- "a cell, with the place that holds it and the kind of its row"; "or that it is row 0"
    record { gives = why_at power_up (memory looped) (beside_link 3 2) 0 1; says = Cell 1 3 ∷ IsRow0 ∷ [] }
    -- "the place of the low link byte that led to the row", beside which its kind stands
    ∷ record { gives = why_at power_up (memory looped) (beside_link 3 2) 1 0; says = Cell 6 2 ∷ Link 3 ∷ [] }
    -- a row that starts at place 0 and is not row 0 has its kind from the link, and names it
    ∷ record { gives = why_at power_up (memory looped) (beside_link 8 7) 2 0; says = Cell 0 7 ∷ Link 8 ∷ [] }
    -- "fill, with the place of the FF that ended the row": at the FF, and up to the capacity, 40 for the wide row
    ∷ record { gives = why_at power_up (memory looped) (beside_link 3 2) 0 2; says = Fill 2 ∷ IsRow0 ∷ [] }
    ∷ record { gives = why_at power_up (memory looped) (beside_link 3 2) 0 79; says = Fill 2 ∷ IsRow0 ∷ [] }
    ∷ record { gives = why_at power_up (memory looped) (beside_link 3 2) 1 39; says = Fill 7 ∷ Link 3 ∷ [] }
    -- "Past capacity comes ahead of fill"
    ∷ record { gives = why_at power_up (memory looped) (beside_link 3 2) 0 80; says = Past ∷ IsRow0 ∷ [] }
    ∷ record { gives = why_at power_up (memory looped) (beside_link 3 2) 1 40; says = Past ∷ Link 3 ∷ [] }
    -- at 132 columns there is room for both
    ∷ record { gives = why_at at132 (memory looped) (beside_link 3 2) 0 131; says = Fill 2 ∷ IsRow0 ∷ [] }
    ∷ record { gives = why_at at132 (memory looped) (beside_link 3 2) 1 65; says = Fill 7 ∷ Link 3 ∷ [] }
    ∷ record { gives = why_at at132 (memory looped) (beside_link 3 2) 1 66; says = Past ∷ Link 3 ∷ [] }
    -- P1: rows from 1 on start and end at place 4095, and the byte after it is at place 0
    ∷ record {
      gives = why_at power_up (replicate screen_bytes 0xFF) (replicate attribute_bytes 0x00) 1 0;
      says = Fill 4095 ∷ Link 1 ∷ [];
    }
    ∷ record {
      gives = why_at power_up (replicate screen_bytes 0xFF) (replicate attribute_bytes 0x00) 24 39;
      says = Fill 4095 ∷ Link 0 ∷ [];
    }
    -- P2: row 0 is torn. It has cells up to its capacity, and is past from there on
    ∷ record { gives = why_at power_up (memory []) (replicate attribute_bytes 0) 0 79; says = Cell 79 3 ∷ IsRow0 ∷ [] }
    ∷ record { gives = why_at power_up (memory []) (replicate attribute_bytes 0) 0 80; says = Past ∷ IsRow0 ∷ [] }
    -- "dark, with the row that tore", and "dark ahead of both"
    ∷ record { gives = why_at power_up (memory []) (replicate attribute_bytes 0) 1 0; says = Dark 0 ∷ [] }
    ∷ record { gives = why_at power_up (memory []) (replicate attribute_bytes 0) 24 131; says = Dark 0 ∷ [] }
    -- P13, after the store: row 1 is torn at 256
    ∷ record {
      gives = why_at power_up (memory (0xFF ∷ 0x00 ∷ 0x01 ∷ [])) (replicate attribute_bytes 3) 1 79;
      says = Cell 335 3 ∷ Link 1 ∷ [];
    }
    ∷ record {
      gives = why_at power_up (memory (0xFF ∷ 0x00 ∷ 0x01 ∷ [])) (replicate attribute_bytes 3) 3 0;
      says = Dark 1 ∷ [];
    }
    -- a row that goes on from place 4095 at place 0, where its FF stands
    ∷ record { gives = why_at power_up over_the_end (replicate attribute_bytes 3) 1 0; says = Cell 4095 3 ∷ Link 1 ∷ [] }
    ∷ record { gives = why_at power_up over_the_end (replicate attribute_bytes 3) 1 1; says = Fill 0 ∷ Link 1 ∷ [] }
    -- "5 also for a column over 131", and a row over 24; 1 wins
    ∷ record { gives = why_at power_up (memory []) (replicate attribute_bytes 0) 0 132; says = Refused 5 ∷ [] }
    ∷ record { gives = why_at power_up (memory []) (replicate attribute_bytes 0) 25 0; says = Refused 5 ∷ [] }
    ∷ record { gives = why_at power_up (memory []) (replicate (attribute_bytes - 1) 0) 25 0; says = Refused 1 ∷ [] }
    ∷ []

-- the program `why`, printed whole
unfoldable pub sentences : List Case
sentences =
    record {
      gives = said_of power_up (memory looped) (beside_link 3 6) 1 0;
      says =
          Prints
          (ascii "Row 1, column 0 shows \"C\", blinking, underlined, in reverse, held at place 6 of screen memory in "
          ++ ascii "a row of double width that scrolls.\n"
          ++ ascii "Row 0 starts at place 0; the link at place 3 leads to row 1 at place 6.\n")
          ∷ [];
    }
    ∷ record {
      gives = said_of power_up (memory looped) (beside_link 3 2) 2 2;
      says =
          Prints
          (ascii "Row 2, column 2 is filled with a blank, since the row's end mark stands at place 2 of "
          ++ ascii "screen memory.\n"
          ++ ascii "Row 0 starts at place 0; the link at place 3 leads to row 1 at place 6; "
          ++ ascii "the link at place 8 leads to row 2 at place 0.\n")
          ∷ [];
    }
    ∷ record {
      gives = said_of power_up (memory looped) (beside_link 3 1) 1 40;
      says =
          Prints
          (ascii "Row 1 has no column 40: the top half of a row of double height has columns 0 to 39 only.\n"
          ++ ascii "Row 0 starts at place 0; the link at place 3 leads to row 1 at place 6.\n")
          ∷ [];
    }
    ∷ record {
      gives = said_of power_up (memory []) (replicate attribute_bytes 0) 24 0;
      says =
          Prints
          (ascii "Row 24, column 0 is dark, since row 0 is torn: its end mark is missing or too far on, "
          ++ ascii "so no row follows it.\n"
          ++ ascii "Row 0 starts at place 0.\n")
          ∷ [];
    }
    ∷ record { gives = said_of power_up (memory []) (replicate attribute_bytes 0) 25 0; says = Prints [] ∷ [] }
    ∷ []

unfoldable pub table : List Case
table = screens ++ wild_links ++ stores ++ held ++ writes ++ ticks ++ resets ++ mends ++ watched ++ indexes ++ dots ++ scrolls ++ whys ++ sentences
    ++ prints
