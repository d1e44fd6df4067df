-- A store changes one byte: the statements of specs/OneByte.antt.
use Prim.Native.Nat.{ℕ, ◌-◌, ◌<◌}
use mathlib.Core.Path.{◌≡◌, refl}
use mathlib.Core.List.{List}
use mathlib.Core.Bool.{Bool, true, false, not, cond}
use native.Mathlib.Omega.{arith}
use lib.ListN.{length, set, length-set}
use lib.Seq.{get_or-set_same, get_or-set_other}
use Rattle.std.specs.Prelude.{Some, None}
use Rattle.std.proofs.lemmas.Bool.Decides.{nat_tests}
use borrow.Author.Tests.{ltb-true}
use Rattle.lent.specs.Lengths.{shared_bytes, private_bytes, screen_bytes, attribute_bytes}
use Rattle.memories.specs.View8088.{within, seen_8088, store_seen, Stored8088}
use Rattle.memories.specs.ViewZ80.{refusal_z80, shared_from, is_private, StoredZ80, stored_z80}
use Rattle.memories.specs.declared.view8088.Seen.TheVariants.{Shared, Screen, Attribute}
use Rattle.memories.specs.OneByte.{OnlyAt, ChangesTheOneByte, ChangesOneByte}
use Rattle.memories.proofs.Laws.{told, lent_8088, lent_z80, is_accepted, accepted_right}

private_below : (a : ℕ) → is_private a ≡ true → a < shared_from
unfolding is_private
private_below a h = ltb-true a shared_from h

module _ (l : List ℕ) (i v : ℕ) where
  stored : i < length l → OnlyAt true i v l (set l i v)
  stored h = (length-set l i v, λ place. grind (arith, nat_tests, get_or-set_same l i v 0 h, get_or-set_other l i place v 0))

  kept : OnlyAt false i v l l
  kept = (refl, λ place. refl)

pub changes_the_one_byte : ChangesTheOneByte
unfolding seen_8088
changes_the_one_byte m shared screen attribute address byte accepts =
    rw accepts (go (within 0x00000 0x0FFFF address) (within 0xEE000 0xEEFFF address) (within 0xEF000 0xEFFFF address) refl refl refl)
  where
    lengths : (length shared ≡ shared_bytes) × ((length screen ≡ screen_bytes) × (length attribute ≡ attribute_bytes))
    lengths = lent_8088 (accepted_right m _ address accepts).0

    left : (x y z : Bool) → Stored8088
    left x y z =
        store_seen
        (cond x (Some (Shared address)) (cond y (Some (Screen (address - 0xEE000))) (cond z (Some (Attribute (address - 0xEF000))) None))) shared screen
        attribute byte

    go :
        (x y z : Bool) → within 0x00000 0x0FFFF address ≡ x → within 0xEE000 0xEEFFF address ≡ y → within 0xEF000 0xEFFFF address ≡ z
        → OnlyAt x address byte shared (left x y z).shared
        × (OnlyAt y (address - 0xEE000) byte screen (left x y z).screen
        × OnlyAt z (address - 0xEF000) byte attribute (left x y z).attribute)
    go true true z h i j = absurd (omega (arith, told 0x00000 0x0FFFF address h, told 0xEE000 0xEEFFF address i))
    go true false true h i j = absurd (omega (arith, told 0x00000 0x0FFFF address h, told 0xEF000 0xEFFFF address j))
    go true false false h i j = (
      stored shared address byte (omega (arith, lengths, told 0x00000 0x0FFFF address h)),
      (kept screen (address - 0xEE000) byte, kept attribute (address - 0xEF000) byte),
    )
    go false true true h i j = absurd (omega (arith, told 0xEE000 0xEEFFF address i, told 0xEF000 0xEFFFF address j))
    go false true false h i j = (
      kept shared address byte,
      (
        stored screen (address - 0xEE000) byte (omega (arith, lengths, told 0xEE000 0xEEFFF address i)),
        kept attribute (address - 0xEF000) byte,
      ),
    )
    go false false true h i j = (
      kept shared address byte,
      (
        kept screen (address - 0xEE000) byte,
        stored attribute (address - 0xEF000) byte (omega (arith, lengths, told 0xEF000 0xEFFFF address j)),
      ),
    )
    go false false false h i j =
        (kept shared address byte, (kept screen (address - 0xEE000) byte, kept attribute (address - 0xEF000) byte))

pub changes_one_byte : ChangesOneByte
changes_one_byte m private shared address byte accepts fits = rw accepts (go (is_private address) refl)
  where
    outcome : Bool → StoredZ80
    outcome b = cond b (stored_z80 0 (set private address byte) shared) (stored_z80 0 private (set shared address byte))

    lengths : (length private ≡ private_bytes) × (length shared ≡ shared_bytes)
    lengths =
        lent_z80 m (length private) (length shared) refl
        (λ e. omega (arith, is_accepted (refusal_z80 m (length private) (length shared)) accepts))

    go :
        (b : Bool) → is_private address ≡ b
        → OnlyAt b address byte private (outcome b).private × OnlyAt (not b) address byte shared (outcome b).shared
    go true e = (stored private address byte (omega (arith, lengths, private_below address e)), kept shared address byte)
    go false e = (kept private address byte, stored shared address byte (omega (arith, lengths, fits)))
