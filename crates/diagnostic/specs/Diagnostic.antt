-- Document 01, "Ports", 0A, and document 02, ticket 2.
use Rattle.std.specs.Prelude.{ℕ, List, Bool, cond, ◌&&◌, eqb}
use Rattle.lent.specs.Refusals.{edges_refused}
use Rattle.machine.specs.declared.Machine.{Machine}
use Rattle.machine.specs.Fields.{with_held}
use Rattle.machine.specs.Settings.{bit}
use Rattle.machine.specs.declared.Written.{Written}
use Rattle.machine.specs.Written.{done, refused}

-- what a write leaves: its answer, the shadow and the NVM
pub record WrittenPort : Type 0 where
  pub answer : Written
  pub shadow : List ℕ
  pub nvm : List ℕ

abbrev pub written_port : Written → List ℕ → List ℕ → WrittenPort
written_port answer shadow nvm = record { answer = answer; shadow = shadow; nvm = nvm }

-- bit n "goes from 0 to 1"
abbrev pub rises : ℕ → ℕ → ℕ → Bool
rises n before after = eqb (bit n before) 0 && eqb (bit n after) 1

-- "A write in which bit 6 goes from 0 to 1 copies shadow to NVM; bit 7 from 0 to 1 copies NVM to shadow .. Every byte
-- is a code of this port." Both at once are refusal 6. A write only holds bits 0 to 5. Bits 1 and 2 have a meaning by
-- 01 and bit 0 by 02, ticket 2, all three in `Settings.antt` of crates/machine; bits 3 to 5 have none
abbrev pub write_diagnostic : Machine → List ℕ → List ℕ → ℕ → WrittenPort
write_diagnostic m shadow nvm code =
    let saves = rises 6 m.held code in
    let recalls = rises 7 m.held code in
    cond (saves && recalls) (written_port (refused edges_refused m) shadow nvm)
    (written_port (done (with_held m code)) (cond recalls nvm shadow) (cond saves shadow nvm))
