-- Laws about the cells of a line: together they have the dots that a line has.
use Prim.Native.Nat.{ℕ, ◌*◌, ◌/◌, ◌≤◌, ◌<◌}
use mathlib.Core.Path.{◌≡◌, refl}
use mathlib.Core.Bool.{Bool, true, false, cond, ◌&&◌, and-eq-true_iff}
use native.Mathlib.Omega.{arith}
use lib.Dec.{ltb, leb}
use borrow.Author.Tests.{ltb-true, leb-true}
use borrow.Author.Rules.{rules}
use Rattle.lent.specs.Lengths.{picture_bytes, glyph_bytes, line_bytes}
use Rattle.lent.proofs.Tests.{either, three_equal}
use Rattle.machine.specs.Settings.{columns}
use Rattle.machine.specs.declared.Machine.{Machine}
use Rattle.chain.specs.Chain.{rows, wide, capacity}
use Rattle.records.specs.Record.{record_pairs}
use Rattle.glyphs.specs.Scans.{first_scan, last_scan}
use Rattle.dots.specs.Cell.{cell_width}
use Rattle.dots.specs.Inner.{width_of}
use Rattle.scan_line.specs.Call.{lengths_line, on_tube}
use Rattle.scan_line.specs.Line.{dots_of_line}
use Rattle.scan_line.specs.Inner.{cells_of}

pub record Cells (columns132 wide : Bool) : Type 0 where
  pub fill : cells_of columns132 wide * width_of columns132 wide ≡ cond columns132 1188 800
  pub few : cells_of columns132 wide ≤ record_pairs
  pub fits : cells_of columns132 wide * width_of columns132 wide ≤ line_bytes
  pub all : cells_of columns132 wide ≡ cond wide (cond columns132 132 80 / 2) (cond columns132 132 80)

pub cells_are : (columns132 wide : Bool) → Cells columns132 wide
cells_are true true = record { fill = refl; few = omega arith; fits = omega arith; all = refl }
cells_are true false = record { fill = refl; few = omega arith; fits = omega arith; all = refl }
cells_are false true = record { fill = refl; few = omega arith; fits = omega arith; all = refl }
cells_are false false = record { fill = refl; few = omega arith; fits = omega arith; all = refl }

pub cells_fit :
    (columns132 is_wide : Bool) {cells width : ℕ} → cells ≡ cells_of columns132 is_wide → width ≡ width_of columns132 is_wide
    → cells * width ≤ line_bytes
cells_fit columns132 is_wide e f = rw (e, f) (cells_are columns132 is_wide).fits

-- of a row of a kind
pub cells_fill_the_line :
    (m : Machine) (kind : ℕ) → capacity (columns m) kind * cell_width m.columns132 kind ≡ dots_of_line m
unfolding capacity cell_width
cells_fill_the_line m kind =
    let c = cells_are m.columns132 (wide kind) in
    rw c.all at c.fill

-- a line has no more dots than bytes
pub dots_fit : (columns132 : Bool) → cond columns132 1188 800 ≤ line_bytes
dots_fit columns132 = either (λ (n : ℕ). n ≤ line_bytes) columns132 1188 800 (λ e. search rules) (λ e. search rules)

-- the lengths are those of the list where the test holds
pub lent_line :
    {picture table line : ℕ} → lengths_line picture table line ≡ true
    → (picture ≡ picture_bytes) × ((table ≡ glyph_bytes) × (line ≡ line_bytes))
unfolding lengths_line
lent_line {picture} {table} {line} = three_equal picture picture_bytes table glyph_bytes line line_bytes

-- the row and the scan are in their lists where the test holds
pub placed : {row scan : ℕ} → on_tube row scan ≡ true → (row < rows) × ((first_scan ≤ scan) × (scan ≤ last_scan))
unfolding on_tube
placed {row} {scan} e =
    let a = (and-eq-true_iff (ltb row rows) (leb first_scan scan && leb scan last_scan)).0 e in
    let b = (and-eq-true_iff (leb first_scan scan) (leb scan last_scan)).0 a.1 in
    (ltb-true row rows a.0, (leb-true first_scan scan b.0, leb-true scan last_scan b.1))
