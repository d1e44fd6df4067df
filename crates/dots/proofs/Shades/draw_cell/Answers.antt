use Prim.Native.Nat.{◌/◌, ◌%◌}
use native.Mathlib.Omega.{arith}
use lib.ListN.{length, length-drop}
use Rattle.dots.specs.Shading.{shading}
use Rattle.dots.proofs.Words.{narrow_shown, wide_shown}
use Rattle.dots.proofs.Shades.draw_cell.Goals as goal

pub returns-then-wide : goal.returns-then-wide
returns-then-wide c =
    let glyph = c.args.glyph in
    let attribute = c.args.attribute % 16 in
    let s = c.self.inside in
    let half = c.halves-halves.ensures in
    rw (c.copy_from_slice.ensures.after, c.to_le_bytes.ensures, c.put_filled.ensures, c.split_at_mut-first.ensures.back, length-drop, half (glyph / 16) (omega arith), half (glyph % 16) (omega arith), c.self.invariant.0 attribute (omega arith), c.self.invariant.1 attribute (omega arith), c.if-wide.true, ← c.self.view_is)
    (wide_shown (shading s.machine s.scan) attribute glyph (length c.args.into.now) (omega arith) (rw (c.if-wide.true, ← c.self.view_is) at c.requires))

pub returns-else-wide : goal.returns-else-wide
returns-else-wide c =
    let glyph = c.args.glyph in
    let attribute = c.args.attribute % 16 in
    let s = c.self.inside in
    let half = c.halves-halves.ensures in
    rw (c.put_filled-else-wide.ensures, half (glyph / 16) (omega arith), half (glyph % 16) (omega arith), c.self.invariant.0 attribute (omega arith), c.self.invariant.1 attribute (omega arith), c.if-wide.false, ← c.self.view_is)
    (narrow_shown (shading s.machine s.scan) attribute glyph (length c.args.into.now) (omega arith) (rw (c.if-wide.false, ← c.self.view_is) at c.requires))
