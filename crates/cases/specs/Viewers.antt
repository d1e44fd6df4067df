-- 02, ticket 7: what a viewer is told after asks, stores and drawings that were made since the start.
use Rattle.std.specs.Prelude.{ℕ, List, [], ◌∷◌, cond, replicate}
use Rattle.lent.specs.Lengths.{shared_bytes, attribute_bytes}
use Rattle.lent.specs.Refusals.{refuses}
use Rattle.machine.specs.Power.{power_up}
use Rattle.viewers.specs.Viewers.{ask}
use Rattle.viewers.specs.Serving.{draw_for_viewers, store_for_viewers}
use Rattle.viewers.specs.declared.Viewers.{Viewers}
use Rattle.cases.specs.Said.{Said, Refused}
use Rattle.cases.specs.Screens.{drawn_from, memory}
use Rattle.cases.specs.Memories.{zeros}
use Rattle.cases.specs.Mends.{marked_of}

-- a refusal, or the rows of any of the 32 bits
unfoldable pub told_to : (viewer : ℕ) → Viewers → List Said
told_to viewer v =
    let told = ask v viewer in
    cond (refuses told.refusal) (Refused told.refusal ∷ []) (marked_of 0 32 told.marks)

unfoldable pub asked_by : (viewer : ℕ) → Viewers → Viewers
asked_by viewer v = (ask v viewer).viewers

-- the store of P13, at an address
unfoldable pub stored_for : (address : ℕ) → Viewers → Viewers
stored_for address v =
    let screen = memory (0xFF ∷ []) in
    let attribute : List ℕ = replicate attribute_bytes 0x03 in
    let picture = (drawn_from screen attribute).picture in
    (store_for_viewers power_up v (zeros shared_bytes) screen attribute picture address 0x01).answer.viewers

-- a drawing of the screen of P2 into so many bytes
unfoldable pub drawn_for : (bytes : ℕ) → Viewers → Viewers
drawn_for bytes v =
    (draw_for_viewers power_up v (memory []) (zeros attribute_bytes) (zeros bytes)).answer.viewers
