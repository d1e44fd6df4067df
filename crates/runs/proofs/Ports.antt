-- What a write to a port leaves of the byte that 0A holds, of the watchdog and of reset.
use Prim.Native.Nat.{ℕ}
use mathlib.Core.Path.{◌≡◌, refl, sym, ◌∙◌}
use mathlib.Core.List.{List}
use mathlib.Core.Bool.{Bool, true, false, not, cond, ◌&&◌, ◌||◌, true≢false, or-true, or-false}
use native.Mathlib.Omega.{arith}
use lib.ListN.{length}
use lib.Dec.{eqb, leb}
use borrow.Author.Tests.{eqb-true, ne_eqb, leb-true}
use Rattle.lent.specs.Refusals.{accepted, refuses, length_refused, port_refused, in_reset_refused}
use Rattle.lent.proofs.Tests.{either}
use Rattle.machine.specs.declared.Machine.{Machine}
use Rattle.machine.specs.declared.Written.{Written}
use Rattle.dc011.specs.Dc011.{dc011_code, write_dc011}
use Rattle.dc012.specs.Dc012.{write_dc012}
use Rattle.diagnostic.specs.Diagnostic.{WrittenPort, rises}
use Rattle.ports.specs.Ports.{lengths_nvm, is_port, refusal_port, watched, write_port}

-- a machine that a chip leaves, with this count
pub record Left (m : Machine) (new : ℕ) (n : Machine) : Type 0 where
  pub held : n.held ≡ m.held
  pub reset : n.reset ≡ m.reset
  pub watchdog : n.watchdog ≡ m.watchdog
  pub count : n.count ≡ new

module _ (m : Machine) where
  abbrev By011 : Written → Type 0
  By011 written = Left m m.count written.machine

  pub dc011_left : (code : ℕ) → By011 (write_dc011 m code)
  dc011_left code =
      one_of (not (dc011_code code)) _ _ (record { held = refl; reset = refl; watchdog = refl; count = refl })
      (one_of (eqb code 0x00) _ _ (record { held = refl; reset = refl; watchdog = refl; count = refl })
      (one_of (eqb code 0x10) _ _ (record { held = refl; reset = refl; watchdog = refl; count = refl })
      (one_of (eqb code 0x20) _ _ (record { held = refl; reset = refl; watchdog = refl; count = refl })
      (record { held = refl; reset = refl; watchdog = refl; count = refl }))))
    where
      one_of : (test : Bool) (one other : Written) → By011 one → By011 other → By011 (cond test one other)
      one_of test one other h k = either By011 test one other (λ _. h) (λ _. k)

  -- code 09 makes the count 0
  abbrev By012 : (code : ℕ) → Written → Type 0
  By012 code written = Left m (cond (eqb code 0x09) 0 m.count) written.machine

  pub dc012_left : (code : ℕ) → By012 code (write_dc012 m code)
  dc012_left code =
      either (By012 code) (leb 0x0C code) _ _
      (λ h. record { held = refl; reset = refl; watchdog = refl; count = other (ne_eqb code 0x09 (λ e. omega (arith, leb-true 0x0C code h))) })
      (λ _. either (By012 code) (leb code 0x03) _ _
      (λ h. record { held = refl; reset = refl; watchdog = refl; count = other (ne_eqb code 0x09 (λ e. omega (arith, leb-true code 0x03 h))) })
      (λ _. either (By012 code) (leb code 0x07) _ _
      (λ h. record { held = refl; reset = refl; watchdog = refl; count = other (ne_eqb code 0x09 (λ e. omega (arith, leb-true code 0x07 h))) })
      (λ _. either (By012 code) (eqb code 0x08) _ _
      (λ h. record { held = refl; reset = refl; watchdog = refl; count = other (ne_eqb code 0x09 (λ e. omega (arith, eqb-true code 0x08 h))) })
      (λ _. either (By012 code) (eqb code 0x09) _ _
      (λ h. record { held = refl; reset = refl; watchdog = refl; count = rw h })
      (λ h. either (By012 code) (eqb code 0x0A) _ _
      (λ _. record { held = refl; reset = refl; watchdog = refl; count = other h })
      (λ _. record { held = refl; reset = refl; watchdog = refl; count = other h }))))))
    where
      other : eqb code 0x09 ≡ false → m.count ≡ cond (eqb code 0x09) 0 m.count
      other e = rw e

  -- a write to a port of the DC012
  module _ (code : ℕ) (enabled : Bool) where
    abbrev chip : Written
    chip = write_dc012 m code

    abbrev stays : Bool
    stays = enabled && chip.machine.watchdog

    watched_keeps : (P : Machine → Type 0) → P chip.machine → ((n : Machine) → n.held ≡ chip.machine.held → n.reset ≡ chip.machine.reset → P n) → P (watched chip enabled).machine
    watched_keeps P h k =
        either Q (refuses chip.refusal) _ _ (λ _. h) (λ _. either Q stays _ _ (λ _. h) (λ _. k _ refl refl))
      where
        Q : Written → Type 0
        Q written = P written.machine

    pub watched_held : (watched chip enabled).machine.held ≡ m.held
    watched_held =
        watched_keeps (λ (n : Machine). n.held ≡ m.held) (dc012_left code).held (λ n e f. rw e (dc012_left code).held)

    pub watched_reset : (watched chip enabled).machine.reset ≡ m.reset
    watched_reset =
        watched_keeps (λ (n : Machine). n.reset ≡ m.reset) (dc012_left code).reset (λ n e f. rw f (dc012_left code).reset)

-- whether a write of a code makes the count 0
abbrev pub restarts : (port code : ℕ) → (watchdog : Bool) → Bool
restarts port code watchdog = eqb port 0x10C || (eqb port 0x0C && (eqb code 0x09 || not watchdog))

-- what an accepted write leaves of the watchdog
pub record Sets (m : Machine) (port code : ℕ) (n : Machine) : Type 0 where
  pub out : m.reset ≡ false
  pub watchdog : n.watchdog ≡ cond (eqb port 0x0C) true (cond (eqb port 0x10C) false m.watchdog)
  pub count : n.count ≡ cond (restarts port code m.watchdog) 0 m.count

module _ (m : Machine) (shadow nvm : List ℕ) (port code : ℕ) where
  abbrev refusal : ℕ
  refusal = refusal_port m (length shadow) (length nvm) port

  abbrev both_rise : Bool
  both_rise = rises 6 m.held code && rises 7 m.held code

  -- no write changes reset
  pub port_reset : (write_port m shadow nvm port code).answer.machine.reset ≡ m.reset
  port_reset =
      either Same (refuses refusal) _ _ (λ _. refl)
      (λ _. either Same (eqb port 0x04) _ _ (λ _. (dc011_left m code).reset)
      (λ _. either Same (eqb port 0x0A) _ _ (λ _. either Same both_rise _ _ (λ _. refl) (λ _. refl))
      (λ _. either Same (eqb port 0x0C) _ _ (λ _. watched_reset m code true) (λ _. watched_reset m code false))))
    where
      Same : WrittenPort → Type 0
      Same left = left.answer.machine.reset ≡ m.reset

  -- a write that gets as far as the port is made out of reset, to a port of the list
  goes_on : refuses refusal ≡ false → (m.reset ≡ false) × (is_port port ≡ true)
  unfolding refusal_port
  goes_on = go (lengths_nvm (length shadow) (length nvm)) m.reset (is_port port)
    where
      go :
          (right reset is : Bool)
          → refuses (cond (not right) length_refused (cond reset in_reset_refused (cond (not is) port_refused accepted))) ≡ false
          → (reset ≡ false) × (is ≡ true)
      go true false true h = (refl, refl)
      go true false false h = absurd (true≢false h)
      go true true is h = absurd (true≢false h)
      go false reset is h = absurd (true≢false h)

  abbrev Told : WrittenPort → Type 0
  Told left = refuses left.answer.refusal ≡ false → Sets m port code left.answer.machine

  -- a port that leaves the watchdog
  aside :
      (n : Machine) → m.reset ≡ false → eqb port 0x0C ≡ false → eqb port 0x10C ≡ false → n.watchdog ≡ m.watchdog
      → n.count ≡ m.count → Sets m port code n
  aside n out c d e f = record { out = out; watchdog = rw (c, d) e; count = rw (c, d) f }

  enabled_by : m.reset ≡ false → eqb port 0x0C ≡ true → eqb port 0x10C ≡ false → Told (record { answer = watched (write_dc012 m code) true; shadow = shadow; nvm = nvm })
  enabled_by out c d =
      either Chip (refuses chip.refusal) _ _ (λ h g. absurd (true≢false (sym h ∙ g)))
      (λ _. either Chip chip.machine.watchdog _ _
      (λ h _. record {
        out = out;
        watchdog = rw c h;
        count = left.count ∙ sym (again (sym left.watchdog ∙ h));
      })
      (λ h _. record { out = out; watchdog = rw c; count = rw (c, d, sym left.watchdog ∙ h, or-true (eqb code 0x09)) }))
    where
      Chip : Written → Type 0
      Chip written = refuses written.refusal ≡ false → Sets m port code written.machine

      chip : Written
      chip = write_dc012 m code

      left : Left m (cond (eqb code 0x09) 0 m.count) (write_dc012 m code).machine
      left = dc012_left m code

      again : m.watchdog ≡ true → cond (restarts port code m.watchdog) 0 m.count ≡ cond (eqb code 0x09) 0 m.count
      again e = rw (c, d, e, or-false (eqb code 0x09))

  disabled_by : m.reset ≡ false → eqb port 0x0C ≡ false → eqb port 0x10C ≡ true → Told (record { answer = watched (write_dc012 m code) false; shadow = shadow; nvm = nvm })
  disabled_by out c d =
      either Chip (refuses (write_dc012 m code).refusal) _ _ (λ h g. absurd (true≢false (sym h ∙ g)))
      (λ _ _. record { out = out; watchdog = rw (c, d); count = rw (c, d) })
    where
      Chip : Written → Type 0
      Chip written = refuses written.refusal ≡ false → Sets m port code written.machine

  pub port_sets : Told (write_port m shadow nvm port code)
  port_sets =
      either Told (refuses refusal) _ _ (λ h g. absurd (true≢false (sym h ∙ g)))
      (λ h. let on = goes_on h in
      either Told (eqb port 0x04) _ _
      (λ is _. aside _ on.0 (ne_eqb port 0x0C (λ e. omega (arith, eqb-true port 0x04 is))) (ne_eqb port 0x10C (λ e. omega (arith, eqb-true port 0x04 is)))
      (dc011_left m code).watchdog (dc011_left m code).count)
      (λ not04. either Told (eqb port 0x0A) _ _
      (λ is. either Told both_rise _ _ (λ _ g. absurd (true≢false g))
      (λ _ _. aside _ on.0 (ne_eqb port 0x0C (λ e. omega (arith, eqb-true port 0x0A is))) (ne_eqb port 0x10C (λ e. omega (arith, eqb-true port 0x0A is))) refl refl))
      (λ not_0a. either Told (eqb port 0x0C) _ _
      (λ is. enabled_by on.0 is (ne_eqb port 0x10C (λ e. omega (arith, eqb-true port 0x0C is))))
      (λ not_0c. disabled_by on.0 not_0c (rw (not04, not_0a, not_0c) at on).1))))
