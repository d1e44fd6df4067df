-- Laws about lists in which some elements are changed: a part of a list, one change after another.
use Prim.Native.Nat.{ℕ, ◌+◌, ◌-◌, ◌≤◌, ◌<◌}
use mathlib.Core.Path.{◌≡◌, refl, ap, ◌∙◌}
use mathlib.Core.List.{List, ◌++◌, map}
use mathlib.Core.Bool.{Bool, true, false, cond, ◌&&◌, ◌||◌}
use native.Mathlib.Omega.{arith}
use lib.ListN.{length, get_or, take, drop, length-map, get_or-append}
use lib.Seq.{get_or-take, get_or-drop, get_or-append-add, length-take-le}
use lib.Dec.{ltb, leb}
use borrow.Author.Tests.{ltb-true, ltb-false, le-leb, lt-leb}
use borrow.Rule.Slice.PartMut.{mid_of, post_of, put_mid, mid_len, same_len_mid, Post-is}
use Rattle.lent.proofs.Maps.{mapped_own}
use Rattle.index.specs.Inner.{Changed}

-- a place from one on and ahead of another
abbrev pub inside : (from to at : ℕ) → Bool
inside from to at = leb from at && ltb at to

pub all_changed : {g : ℕ → ℕ} (l : List ℕ) {new : List ℕ} → new ≡ map g l → Changed (λ at. true) g l new
all_changed {g} l e =
    record { same = rw e (length-map l g); each = λ at h. rw e (mapped_own g l at h) }

-- the same elements, told otherwise
pub same_changed :
    {these others : ℕ → Bool} {g : ℕ → ℕ} {l new : List ℕ} → ((at : ℕ) → at < length l → these at ≡ others at)
    → Changed these g l new → Changed others g l new
same_changed {these} {others} {g} {l} same c =
    record {
      same = c.same;
      each = λ at h. c.each at h ∙ ap (λ (b : Bool). cond b (g (get_or l at 0)) (get_or l at 0)) (same at h);
    }

-- the same change, told otherwise
pub changed_alike :
    {these : ℕ → Bool} {g h : ℕ → ℕ} {l new : List ℕ} → ((x : ℕ) → g x ≡ h x) → Changed these g l new → Changed these h l new
changed_alike {these} {g} {h} {l} alike c =
    record {
      same = c.same;
      each = λ at k. c.each at k ∙ ap (λ (x : ℕ). cond (these at) x (get_or l at 0)) (alike (get_or l at 0));
    }

-- a change that is made twice is made once
pub both_changed :
    {these others : ℕ → Bool} {g : ℕ → ℕ} {l m n : List ℕ} → ((x : ℕ) → g (g x) ≡ g x) → Changed these g l m
    → Changed others g m n → Changed (λ at. these at || others at) g l n
both_changed {these} {others} {g} {l} {m} twice c d =
    record {
      same = d.same ∙ c.same;
      each = λ at h. d.each at (omega (arith, c.same)) ∙ go (these at) (others at) (get_or l at 0) (c.each at h);
    }
  where
    go :
        (a b : Bool) (x : ℕ) {y : ℕ} → y ≡ cond a (g x) x → cond b (g y) y ≡ cond (a || b) (g x) x
    go true true x e = rw (e, twice x)
    go true false x e = e
    go false true x e = rw e
    go false false x e = e

-- a part of a list comes back changed
pub part_changed :
    {these : ℕ → Bool} {g : ℕ → ℕ} (a e : ℕ) (l : List ℕ) {new : List ℕ} → a ≤ e → e ≤ length l
    → Changed these g (mid_of a (e - a) l) new
    → Changed (λ at. inside a e at && these (at - a)) g l (put_mid a (e - a) l new)
part_changed {these} {g} a e l {new} some room c =
    record { same = same_len_mid a (e - a) l new c.same; each = λ at h. go at h (ltb at a) refl (ltb at e) refl }
  where
    long : length new ≡ e - a
    long = c.same ∙ mid_len a e l room

    front : length (take a l) ≡ a
    front = length-take-le a l (omega arith)

    k : ℕ
    k = e - a

    -- from the part on
    on : (at : ℕ) → a ≤ at → get_or (put_mid a k l new) at 0 ≡ get_or (new ++ post_of a k l) (at - a) 0
    on at h =
        let here : at ≡ length (take a l) + (at - a) = omega (arith, front) in
        ap (λ (n : ℕ). get_or (put_mid a k l new) n 0) here ∙ get_or-append-add (take a l) (new ++ post_of a k l) (at - a) 0

    go :
        (at : ℕ) → at < length l → (b : Bool) → ltb at a ≡ b → (d : Bool) → ltb at e ≡ d
        → get_or (put_mid a k l new) at 0 ≡ cond (inside a e at && these (at - a)) (g (get_or l at 0)) (get_or l at 0)
    go at h true ahead d under =
        let less = ltb-true at a ahead in
        get_or-append (take a l) (new ++ post_of a k l) 0 at (omega (arith, front, less))
        ∙ get_or-take a l at 0 less ∙ rw (lt-leb a at less)
    go at h false from true under =
        let more = ltb-false at a from in
        let less = ltb-true at e under in
        let back : a + (at - a) ≡ at = omega (arith, more) in
        let own : get_or (mid_of a k l) (at - a) 0 ≡ get_or l at 0 =
        get_or-take k (drop a l) (at - a) 0 (omega (arith, more, less))
        ∙ get_or-drop a l (at - a) 0 ∙ ap (λ (n : ℕ). get_or l n 0) back in
        on at more
        ∙ get_or-append new (post_of a k l) 0 (at - a) (omega (arith, long, more, less))
        ∙ c.each (at - a) (omega (arith, mid_len a e l room, more, less))
        ∙ rw (own, le-leb a at more, under)
    go at h false from false over =
        let more = ltb-false at a from in
        let past = ltb-false at e over in
        let here : at - a ≡ length new + (at - e) = omega (arith, long, more, past) in
        let back : e + (at - e) ≡ at = omega (arith, past) in
        on at more
        ∙ ap (λ (n : ℕ). get_or (new ++ post_of a k l) n 0) here
        ∙ get_or-append-add new (post_of a k l) (at - e) 0
        ∙ ap (λ (rest : List ℕ). get_or rest (at - e) 0) (Post-is a e l some)
        ∙ get_or-drop e l (at - e) 0
        ∙ ap (λ (n : ℕ). get_or l n 0) back
        ∙ rw (le-leb a at more, over)
