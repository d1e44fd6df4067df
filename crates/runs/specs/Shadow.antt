-- Document 01, "Lent memory": what changes the shadow, and what the copies move.
use Rattle.std.specs.Prelude.{ℕ, ◌≡◌, true, false, ◌&&◌, length, eqb}
use Rattle.diagnostic.specs.Diagnostic.{rises}
use Rattle.ports.specs.Ports.{lengths_nvm}
use Rattle.runs.specs.World.{World, Nvm, Shadow, WritePort, after}

-- "Nothing else changes it but a recall." By the table of Reach.antt only a shadow write and a port write may; and a
-- port write does not unless it is a recall, a write to port 0A in which bit 7 goes from 0 to 1
abbrev pub NothingElse : Type 0
NothingElse =
    (w : World) (port code : ℕ) → eqb port 0x0A && rises 7 w.machine.held code ≡ false
    → (after (WritePort port code) w).bytes Shadow ≡ w.bytes Shadow

-- "The copies between shadow and NVM move all 256 bytes as they are." 02, ticket 3: in reset the write is refused, so
-- there is no copy to speak of
abbrev pub MovesAll : Type 0
MovesAll =
    (w : World) (code : ℕ) → lengths_nvm (length (w.bytes Shadow)) (length (w.bytes Nvm)) ≡ true
    → w.machine.reset ≡ false
    → let new = after (WritePort 0x0A code) w in
    let saves = rises 6 w.machine.held code in
    let recalls = rises 7 w.machine.held code in
    (saves ≡ true → recalls ≡ false → (new.bytes Nvm ≡ w.bytes Shadow) × (new.bytes Shadow ≡ w.bytes Shadow))
    × (saves ≡ false → recalls ≡ true → (new.bytes Shadow ≡ w.bytes Nvm) × (new.bytes Nvm ≡ w.bytes Nvm))
