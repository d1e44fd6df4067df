-- Laws about a part of some bytes that is lent, of which something of its length comes back.
use Prim.Native.Nat.{ℕ, ◌+◌, ◌-◌, ◌≤◌, ◌<◌}
use mathlib.Core.Path.{◌≡◌, sym, ap, ◌∙◌}
use mathlib.Core.List.{List, ◌++◌, append_assoc, append-nil}
use native.Mathlib.Numerals.{add-one}
use native.Mathlib.Omega.{arith}
use Rattle.std.proofs.lemmas.Grind.{common_steps}
use lib.ListN.{length, get_or, take, drop, set, length-set, length-append, drop_of_length-le}
use lib.Seq.{take_all, take_at, take-suc, take-suc-set, length-take-le}
use borrow.Rule.Slice.PartMut.{mid_of, put_mid, mid_len, same_len_mid, drop_put}

-- the part that is all
pub all_lent : (bytes : List ℕ) (size : ℕ) → length bytes ≤ size → mid_of 0 (size - 0) bytes ≡ bytes
all_lent bytes size all = take_all (size - 0) bytes (omega arith)

pub all_back : (bytes : List ℕ) (size : ℕ) (new : List ℕ) → length bytes ≤ size → put_mid 0 (size - 0) bytes new ≡ new
all_back bytes size new all = grind (arith, common_steps)

module _ (bytes : List ℕ) (at size : ℕ) (room : at + size ≤ length bytes) where
  whole : at + size - at ≡ size
  whole = omega arith

  pub part_lent : length (mid_of at (at + size - at) bytes) ≡ size
  part_lent = grind (arith, common_steps)

  module _ (new : List ℕ) (same : length new ≡ size) where
    pub part_back : length (put_mid at (at + size - at) bytes new) ≡ length bytes
    part_back = grind (arith, common_steps)

    -- it comes after the bytes before it, and ahead of those after it
    pub part_put : take (at + size) (put_mid at (at + size - at) bytes new) ≡ take at bytes ++ new
    part_put = grind (arith, common_steps)

    pub part_left : drop (at + size) (put_mid at (at + size - at) bytes new) ≡ drop (at + size) bytes
    part_left = drop_put at (at + size) bytes new (omega arith) room (same ∙ sym whole)

-- bytes that are copied, up to one
pub record Copied (from to : List ℕ) (at : ℕ) : Type 0 where
  pub same : length from ≡ length to
  pub put : take at to ≡ take at from

module _ {from to : List ℕ} {at : ℕ} (c : Copied from to at) where
  pub one_copied : at < length to → Copied from (set to at (get_or from at 0)) (at + 1)
  one_copied more =
      record {
        same = c.same ∙ sym (length-set to at (get_or from at 0));
        put =
            rw (add-one at, take-suc-set to at (get_or from at 0) (omega arith), take-suc from at 0 (omega (arith, c.same)), c.put);
      }

  pub all_copied : length to ≤ at → to ≡ from
  all_copied all = sym (take_all at to (omega arith)) ∙ c.put ∙ take_all at from (omega (arith, c.same))
