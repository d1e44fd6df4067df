-- Document 01, "The chain of lines": how many bytes of screen memory the drawing call can report.
use Rattle.std.specs.Prelude.{ℕ, ◌≤◌, List, if◌then◌else◌}
use Rattle.machine.specs.declared.Machine.{Machine}
use Rattle.chain.specs.Reading.{reads_at_132, reads_at_80}
use Rattle.picture.specs.Draw.{draw}

-- "at most", at 132 columns and at 80; 02, ticket 5: "the read bounds are 3,375 and 2,075"
abbrev pub CountAtMost : Type 0
CountAtMost =
    (m : Machine) (screen attribute picture : List ℕ)
    → (draw m screen attribute picture).answer.reads ≤ (if m.columns132 then reads_at_132 else reads_at_80)
