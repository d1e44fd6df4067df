-- What the answer of a drawing says of the row that it names: the statements of specs/Named.antt.
use Prim.Native.Nat.{ℕ, zero, suc, ◌+◌, ◌≤◌, ◌<◌}
use mathlib.Core.Path.{◌≡◌, refl, sym, ◌∙◌, ap}
use mathlib.Core.Bool.{true, false, not, ◌||◌, true≢false}
use native.Mathlib.Omega.{arith}
use Rattle.std.proofs.lemmas.Bool.Decides.{nat_tests}
use lib.Dec.{eqb}
use Rattle.lent.specs.Refusals.{refuses}
use Rattle.lent.proofs.Tests.{either}
use Rattle.machine.specs.Settings.{bit}
use Rattle.chain.specs.Chain.{Chain, byte_at, rows, row_at}
use Rattle.chain.specs.Wild.{top_four, wild_link, wild}
use Rattle.chain.proofs.Wild.{wild_is_whole}
use Rattle.picture.specs.Wild.{first_wild_from, first_wild, is_named, row_named}
use Rattle.picture.specs.Draw.{DrawnPicture, chain_of, refusal_drawing}
use Rattle.picture.specs.Named.{IsFirstWild, NoneWild, NamesRight, NamesTheFirst, WildByItsBits}
use Rattle.std.specs.Prelude.{Option, Some, None}

module _ (c : Chain) where
  abbrev NoneFrom : (row last : ℕ) → Type 0
  NoneFrom row last = (r : ℕ) → row ≤ r → r < last → wild c (row_at c r) ≡ false

  -- of the rows from one on, up to a last one
  abbrev FirstFrom : (row last : ℕ) → Option ℕ → Type 0
  FirstFrom row last (Some n) = (row ≤ n) × ((n < last) × ((wild c (row_at c n) ≡ true) × NoneFrom row n))
  FirstFrom row last None = NoneFrom row last

  first_from : (row more : ℕ) → FirstFrom row (row + more) (first_wild_from c row more)
  unfolding first_wild_from
  first_from row zero = λ r from under. absurd (omega arith)
  first_from row (suc more) = grind (arith, nat_tests, first_from (row + 1) more)

  -- of all rows
  first_named : (first : Option ℕ) → FirstFrom 0 rows first → is_named first ≡ true → IsFirstWild c (row_named first)
  first_named (Some n) found h =
      record {
        one_of_them = found.1.0;
        whole = wild_is_whole c (row_at c n) found.1.1.0;
        is_wild = found.1.1.0;
        none_before = λ r under. found.1.1.1 r (omega arith) under;
      }
  first_named None found h = cc

  none_named : (first : Option ℕ) → FirstFrom 0 rows first → is_named first ≡ false → NoneWild c
  none_named first found h = grind (arith, found)

  none_wild : (first : Option ℕ) → FirstFrom 0 rows first → NoneWild c → is_named first ≡ false
  none_wild first found none = grind (arith, found, none)

  no_number : (first : Option ℕ) → is_named first ≡ false → row_named first ≡ 0
  no_number first h = grind arith

pub names_the_first : NamesTheFirst
names_the_first m screen attribute picture =
    let c = chain_of m screen attribute in
    let found = first_from c 0 rows in
    either (λ (left : DrawnPicture). NamesRight c left.answer) (refuses (refusal_drawing screen attribute picture)) _ _
    (λ refused. record {
      first = λ h. absurd (true≢false (sym h));
      none = λ e. absurd (true≢false (sym refused ∙ ap refuses e));
      only_then = λ _. refl;
      refused = λ _. refl;
      no_number = λ _. refl;
    })
    (λ _. record {
      first = first_named c (first_wild c) found;
      none = λ _. none_named c (first_wild c) found;
      only_then = none_wild c (first_wild c) found;
      refused = λ h. absurd (h refl);
      no_number = no_number c (first_wild c);
    })

-- of a byte
by_bits :
    (high : ℕ) → high < 256
    → not (eqb (top_four high) 0)
    ≡ (eqb (bit 7 high) 1 || (eqb (bit 6 high) 1 || (eqb (bit 5 high) 1 || eqb (bit 4 high) 1)))
by_bits high byte = grind (arith, nat_tests)

pub wild_by_its_bits : WildByItsBits
unfolding wild_link
wild_by_its_bits screen place byte = by_bits (byte_at screen (place + 2)) byte
