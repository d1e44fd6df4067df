-- Document 01, "Numbers of refusal": the table's numbers, 0 for a call that is not refused, and which number wins.
-- Document 02 adds to them.
use Rattle.std.specs.Prelude.{ℕ, List, [], ◌∷◌, Bool, false, not, cond, eqb, Result, Ok, Err}
use Rattle.lent.specs.declared.refusals.Refusal.{Refusal}
use Rattle.lent.specs.declared.refusals.Refusal.TheVariants.{Length, Address, Port, Code, Place, Edges, Z80Held, InReset, Latch, Viewer}

abbrev pub accepted : ℕ
accepted = 0

-- whether a call whose number this is was refused
abbrev pub refuses : ℕ → Bool
refuses number = not (eqb number accepted)

-- a lent buffer's length differs from the list
abbrev pub length_refused : ℕ
length_refused = 1

-- the 8088's address lies in none of its three ranges
abbrev pub address_refused : ℕ
address_refused = 2

-- the port is none of 04, 0A, 0C, 10C
abbrev pub port_refused : ℕ
port_refused = 3

-- the code is not in that port's list
abbrev pub code_refused : ℕ
code_refused = 4

-- a row over 24 (02, ticket 5: "The row limit in 01's number 5 becomes 24"), a scan outside 1 to 10, a shadow place
-- over 255; 02, ticket 6: "5 also for a column over 131"
abbrev pub place_refused : ℕ
place_refused = 5

-- bits 6 and 7 of 0A both rise in one write
abbrev pub edges_refused : ℕ
edges_refused = 6

-- 02, ticket 2: "7, the Z80 is held"
abbrev pub z80_held_refused : ℕ
z80_held_refused = 7

-- 02, ticket 3: "8, the 8088 is in reset"
abbrev pub in_reset_refused : ℕ
in_reset_refused = 8

-- 02, ticket 5: "9, a whole screen asked for with L over 9"
abbrev pub latch_refused : ℕ
latch_refused = 9

-- 02, ticket 7: "10, a viewer over 7"
abbrev pub viewer_refused : ℕ
viewer_refused = 10

-- the number of each refusal
abbrev pub number_of : Refusal → ℕ
number_of Length = length_refused
number_of Address = address_refused
number_of Port = port_refused
number_of Code = code_refused
number_of Place = place_refused
number_of Edges = edges_refused
number_of Z80Held = z80_held_refused
number_of InReset = in_reset_refused
number_of Latch = latch_refused
number_of Viewer = viewer_refused

-- "A refusal returns its number", and a call that is accepted 0
abbrev pub answered : {A : Type 0} → Result A Refusal → ℕ
answered (Ok value) = accepted
answered (Err refusal) = number_of refusal

-- the numbers in the order in which they win. 01: "The lowest number wins." But 02, ticket 2, has 7 "after 1", and
-- ticket 3 has 8 "after 1, ahead of 2 to 6", ticket 5 has 9 "after 5 and 6", ticket 7 has 10 "after 9". No call can be
-- refused by both 7 and 8
abbrev pub order : List ℕ
order = 1 ∷ 7 ∷ 8 ∷ 2 ∷ 3 ∷ 4 ∷ 5 ∷ 6 ∷ 9 ∷ 10 ∷ []

-- a number by which a call can be refused, with whether it is so
abbrev pub Reason : Type 0
Reason = ℕ × Bool

abbrev pub holds : (number : ℕ) → List Reason → Bool
holds number [] = false
holds number (reason ∷ reasons) = cond (eqb reason.0 number) reason.1 (holds number reasons)

abbrev pub first_that_holds : (numbers : List ℕ) → List Reason → ℕ
first_that_holds [] reasons = accepted
first_that_holds (number ∷ numbers) reasons = cond (holds number reasons) number (first_that_holds numbers reasons)

-- by what a call is refused that can be refused for these reasons, in whatever order they are listed
abbrev pub refusal_of : List Reason → ℕ
refusal_of reasons = first_that_holds order reasons
