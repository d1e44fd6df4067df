-- A head that stays, the pairs that are filled after it, and those after a row's cells.
use Rattle.std.proofs.Common.{◌≡◌, ◌<◌, ◌≤◌, ◌+◌, ◌-◌, ◌*◌, ℕ, zero, suc, List, ◌++◌, length, take, drop, set, length-set, refl, add-one, add-suc, arith}
use Rattle.std.proofs.lemmas.Grind.{common_steps}
use borrow.Rule.Slice.PartMut.{put_mid}
use Rattle.records.specs.Record.{record_bytes, head_bytes, record_pairs, fill_pairs}

-- the pairs are filled, up to one, after a head that stays
pub record Filling (old bytes : List ℕ) (pair : ℕ) : Type 0 where
  pub long : length bytes ≡ record_bytes
  pub head_stays : take head_bytes bytes ≡ take head_bytes old
  pub filled : take (2 * pair) (drop head_bytes bytes) ≡ fill_pairs pair

pub none_filled : (old : List ℕ) → length old ≡ record_bytes → Filling old old 0
unfolding fill_pairs
none_filled old long = record { long = long; head_stays = refl; filled = refl }

module _ {old bytes : List ℕ} {pair : ℕ} (f : Filling old bytes pair) where
  pub one_filled :
      pair < record_pairs
      → Filling old (set (set bytes (head_bytes + 2 * pair) 0x20) (head_bytes + 2 * pair + 1) 0x0E) (pair + 1)
  unfolding fill_pairs
  one_filled more =
      record {
        long = simp length-set f.long;
        head_stays = grind (arith, common_steps, f.head_stays);
        filled = rw (add-one pair) (grind (arith, common_steps, f.filled, f.long));
      }

  pub all_filled : pair ≡ record_pairs → drop head_bytes bytes ≡ fill_pairs record_pairs
  all_filled last = grind (arith, common_steps, f.filled, f.long)

pub fill_length : (n : ℕ) → length (fill_pairs n) ≡ 2 * n
unfolding fill_pairs
fill_length zero = refl
fill_length (suc n) = grind (arith, common_steps, fill_length n)

fill_more : (a b : ℕ) → fill_pairs (a + b) ≡ fill_pairs a ++ fill_pairs b
unfolding fill_pairs
fill_more a zero = grind (arith, common_steps)
fill_more a (suc b) = grind (arith, common_steps, fill_more a b, add-suc a b)

-- where all pairs are filled, those after the cells are; and after as many cells as pairs there are none
pub filled_after :
    (cells : ℕ) {pairs : List ℕ} → cells ≤ record_pairs → pairs ≡ fill_pairs record_pairs
    → drop (2 * cells) pairs ≡ fill_pairs (record_pairs - cells)
filled_after cells fits is = grind (arith, common_steps, fill_more cells (record_pairs - cells), fill_length cells)

pub none_after :
    (pairs : List ℕ) (cells : ℕ) → length pairs ≡ 2 * record_pairs → record_pairs ≤ cells
    → drop (2 * cells) pairs ≡ fill_pairs (record_pairs - cells)
unfolding fill_pairs
none_after pairs cells same all = grind (arith, common_steps)

-- what was lent after a head comes back there
pub lent_after :
    (head rest : ℕ) (bytes new : List ℕ) → length bytes ≡ head + rest
    → put_mid head rest bytes new ≡ take head bytes ++ new
lent_after head rest bytes new long = grind (arith, common_steps)
