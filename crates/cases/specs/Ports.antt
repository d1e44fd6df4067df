-- P9 and P12: codes written to a port one after the other, from power-up.
use Rattle.std.specs.Prelude.{ℕ, ◌+◌, List, [], ◌∷◌, Bool, true, false, cond, replicate}
use Rattle.lent.specs.Lengths.{shadow_bytes, nvm_bytes}
use Rattle.machine.specs.declared.Machine.{Machine}
use Rattle.diagnostic.specs.Diagnostic.{WrittenPort}
use Rattle.ports.specs.Ports.{write_port}
use Rattle.cases.specs.Said.{differ}

-- a shadow and an NVM that differ at every place
unfoldable pub shadow : List ℕ
shadow = replicate shadow_bytes 0x00

unfoldable pub nvm : List ℕ
nvm = replicate nvm_bytes 0x09

unfoldable pub written : ℕ → Machine → ℕ → WrittenPort
written port m code = write_port m shadow nvm port code

unfoldable pub written_all : ℕ → Machine → List ℕ → Machine
written_all port m [] = m
written_all port m (code ∷ codes) = written_all port (written port m code).answer.machine codes

unfoldable pub none : List ℕ → Bool
none [] = true
none (place ∷ places) = false

-- the number of writes that leave the whole NVM in the shadow
unfoldable pub recalls : ℕ → Machine → List ℕ → ℕ
recalls port m [] = 0
recalls port m (code ∷ codes) =
    let left = written port m code in
    cond (none (differ 0 nvm left.shadow)) 1 0 + recalls port left.answer.machine codes
