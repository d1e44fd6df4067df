use Prim.Native.Nat.{ℕ}
use mathlib.Core.Path.{◌≡◌, sym, ap, ◌∙◌}
use mathlib.Core.List.{List}
use native.Mathlib.Omega.{arith}
use lib.ListN.{length, get_or, set}
use Rattle.lent.proofs.Maps.{partly, partly_begins, partly_goes_on, partly_ends}
use Rattle.marks.specs.Marks.{joined}
use Rattle.viewers.specs.Viewers.{viewers}
use Rattle.viewers.proofs.Viewers.add.Goals as goal

pub loop-viewer-init : goal.loop-viewer-init
loop-viewer-init c = sym (partly_begins _ _)

pub loop-viewer-preserved : goal.loop-viewer-preserved
loop-viewer-preserved c =
    let eight : length c.args.self.waiting ≡ viewers = c.well_formed.0.1.1.0.1.0.1 in
    let f : ℕ → ℕ = λ (waits : ℕ). joined waits c.args.marks in
    let l = c.args.self.waiting in
    let viewer = c.loop-viewer.viewer in
    ap (set c.loop-viewer.waiting viewer) c.join.ensures
    ∙ ap (λ (now : List ℕ). set now viewer (f (get_or now viewer 0))) c.loop-viewer.invariant
    ∙ partly_goes_on f l viewer (omega (arith, eight))

pub returns : goal.returns
returns c =
    let eight : length c.args.self.waiting ≡ viewers = c.well_formed.0.1.1.0.1.0.1 in
    let f : ℕ → ℕ = λ (waits : ℕ). joined waits c.args.marks in
    let l = c.args.self.waiting in
    ap (λ (waiting : List ℕ). record { waiting = waiting })
    (c.loop-viewer.invariant ∙ ap (partly f l) (omega (arith, eight)) ∙ partly_ends f l)
