-- Document 01, "Ports", and document 02, ticket 3: a write of a code to a port.
use Rattle.std.specs.Prelude.{ℕ, List, [], ◌∷◌, Bool, true, false, not, cond, ◌&&◌, ◌||◌, length, eqb}
use Rattle.lent.specs.Lengths.{shadow_bytes, nvm_bytes}
use Rattle.lent.specs.Refusals.{refuses, length_refused, port_refused, in_reset_refused, refusal_of}
use Rattle.machine.specs.declared.Machine.{Machine}
use Rattle.machine.specs.Fields.{with_watchdog, with_count}
use Rattle.machine.specs.declared.Written.{Written}
use Rattle.machine.specs.Written.{done, refused}
use Rattle.dc011.specs.Dc011.{write_dc011}
use Rattle.dc012.specs.Dc012.{write_dc012}
use Rattle.diagnostic.specs.Diagnostic.{WrittenPort, written_port, write_diagnostic}

unfoldable pub lengths_nvm : ℕ → ℕ → Bool
lengths_nvm shadow nvm = eqb shadow shadow_bytes && eqb nvm nvm_bytes

-- "An accepted write to port 0C also enables the watchdog, one to port 10C disables it". 02, ticket 3: the count "stays
-- 0 while disabled", and reset begins so many ticks after "enabling": so a write that enables or disables makes the
-- count 0. "Other codes to port 0C, while it is enabled, leave the count."
abbrev pub watched : Written → Bool → Written
watched written enabled =
    let m = written.machine in
    cond (refuses written.refusal) written
    (cond (enabled && m.watchdog) (done m)
    (done (with_count (with_watchdog m enabled) 0)))

-- the ports of the list
abbrev pub is_port : ℕ → Bool
is_port port = eqb port 0x04 || (eqb port 0x0A || (eqb port 0x0C || eqb port 0x10C))

-- by what a write is refused, ahead of the port itself, where so many bytes are lent. 02, ticket 3: "During reset, ..
-- port writes are refused."
unfoldable pub refusal_port : Machine → (shadow nvm port : ℕ) → ℕ
refusal_port m shadow nvm port =
    refusal_of
    ((length_refused, not (lengths_nvm shadow nvm))
    ∷ (in_reset_refused, m.reset)
    ∷ (port_refused, not (is_port port))
    ∷ [])

-- what the port itself refuses, 4 a code or 6 both edges, comes after 3 in the order, and no port refuses both
abbrev pub write_port : Machine → (shadow nvm : List ℕ) → (port code : ℕ) → WrittenPort
write_port m shadow nvm port code =
    let refusal = refusal_port m (length shadow) (length nvm) port in
    cond (refuses refusal) (written_port (refused refusal m) shadow nvm)
    (cond (eqb port 0x04) (written_port (write_dc011 m code) shadow nvm)
    (cond (eqb port 0x0A) (write_diagnostic m shadow nvm code)
    (cond (eqb port 0x0C) (written_port (watched (write_dc012 m code) true) shadow nvm)
    (written_port (watched (write_dc012 m code) false) shadow nvm))))
