-- Document 02, ticket 1: what the answer of a drawing says of the wild rows.
use Rattle.std.specs.Prelude.{ℕ, ◌+◌, ◌<◌, ◌≡◌, List, true, false, ◌||◌, ◌==◌}
use Rattle.lent.specs.Refusals.{accepted}
use Rattle.machine.specs.Settings.{bit}
use Rattle.machine.specs.declared.Machine.{Machine}
use Rattle.chain.specs.Chain.{Chain, byte_at, rows, row_at}
use Rattle.chain.specs.Wild.{wild_link, wild, IsWhole}
use Rattle.picture.specs.Draw.{chain_of, draw}
use Rattle.picture.specs.declared.Drawn.{Drawn}

-- a row that is whole and whose link is wild, and before which no row is wild
pub record IsFirstWild (c : Chain) (row : ℕ) : Type 0 where
  pub one_of_them : row < rows
  pub whole : IsWhole (row_at c row)
  pub is_wild : wild c (row_at c row) ≡ true
  pub none_before : (before : ℕ) → before < row → wild c (row_at c before) ≡ false

abbrev pub NoneWild : Chain → Type 0
NoneWild c = (row : ℕ) → row < rows → wild c (row_at c row) ≡ false

-- the row that is named is that one; none is named exactly when no row is wild, and by a drawing that is refused, and
-- then the number is 0
pub record NamesRight (c : Chain) (answer : Drawn) : Type 0 where
  pub first : answer.wild ≡ true → IsFirstWild c answer.wild_row
  pub none : answer.refusal ≡ accepted → answer.wild ≡ false → NoneWild c
  pub only_then : NoneWild c → answer.wild ≡ false
  pub refused : (answer.refusal ≡ accepted → ⊥) → answer.wild ≡ false
  pub no_number : answer.wild ≡ false → answer.wild_row ≡ 0

abbrev pub NamesTheFirst : Type 0
NamesTheFirst =
    (m : Machine) (screen attribute picture : List ℕ)
    → NamesRight (chain_of m screen attribute) (draw m screen attribute picture).answer

-- "any of those bits set", bit by bit: bits 7 to 4 of the link's high byte
abbrev pub WildByItsBits : Type 0
WildByItsBits =
    (screen : List ℕ) (place : ℕ) → let high = byte_at screen (place + 2) in
    high < 256
    → wild_link screen place
    ≡ (bit 7 high == 1 || (bit 6 high == 1 || (bit 5 high == 1 || bit 4 high == 1)))
