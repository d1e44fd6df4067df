-- A viewer that repaints what it is told has the kept picture: the statements of specs/Repainted.antt.
use Prim.Native.Nat.{ℕ, ◌*◌, ◌<◌}
use mathlib.Core.Path.{◌≡◌, refl, subst, sym, ap, ◌∙◌}
use mathlib.Core.List.{List, [], ◌∷◌, ◌++◌}
use mathlib.Core.Bool.{Bool, true, false, not, cond, ◌||◌, true≢false, false≢true, and-eq-true_iff}
use native.Mathlib.Omega.{arith}
use lib.ListN.{length, get_or, length-set, length-map, get_or-replicate}
use lib.Seq.{take_all}
use lib.Dec.{eqb}
use borrow.Author.Tests.{lt-ltb, eq-eqb, eqb-true}
use Rattle.lent.specs.Lengths.{picture_bytes}
use Rattle.lent.specs.Refusals.{refuses}
use Rattle.chain.specs.Chain.{rows}
use Rattle.chain.proofs.Searching.{neither}
use Rattle.records.specs.Record.{record_bytes}
use Rattle.picture.specs.Picture.{record_in}
use Rattle.picture.proofs.Records.{same_records, own_records}
use Rattle.marks.specs.Marks.{bit_set, all_marked, joined}
use Rattle.marks.proofs.Marks.{bit_by_bit, joined_bit_by_bit}
use Rattle.mending.proofs.Changes.{exactly_the_changed}
use Rattle.viewers.specs.Viewers.{viewers, start}
use Rattle.viewers.proofs.Laws.{added_own}
use Rattle.runs.specs.World.{Memory, Picture, World, Call, Draw, DrawForViewers, Ask, after, answer}
use Rattle.runs.specs.Reach.{TheViewers, AllOf, has, may_change}
use Rattle.runs.specs.Kept.{Lent, Own, Another, lent_bytes, kept_bytes, lending, Step, Made, Lending, stepped, Keeps, redrawn, same_columns, played_all}
use Rattle.runs.specs.Stopped.{call_of, stepped_all}
use Rattle.runs.specs.Repainted.{repainted, copied, copied_all, serves, all_serve, RepaintsRight, serving, redraws, with_redraws, RepaintsFresh}
use Rattle.runs.proofs.Reach.{changes_only, accepted_picture}
use Rattle.runs.proofs.Kept.{redrawn_lengths, draw_told, kept_from_drawing}
use Rattle.runs.proofs.Stopped.{step_refused}
use Rattle.runs.proofs.Held.{step_lengths, step_leaves}
use Rattle.runs.proofs.Viewers.{Quiet, Serves, by_call, ask_aside}

module _ (viewer : ℕ) (within : viewer < viewers) where
  abbrev waiting : World → ℕ
  waiting w = get_or w.viewers.waiting viewer 0

  -- a record that waits for no repaint is the kept one
  record Told (w : World) (copy : List ℕ) : Type 0 where
    long : length (w.bytes Picture) ≡ picture_bytes
    eight : length w.viewers.waiting ≡ viewers
    same :
        (row : ℕ) → row < rows → bit_set (waiting w) row ≡ false → record_in copy row ≡ record_in (w.bytes Picture) row

  -- so repainted it is the kept picture
  whole : {w : World} {copy : List ℕ} → Told w copy → repainted (waiting w) (w.bytes Picture) copy ≡ w.bytes Picture
  whole {w} {copy} t =
      let kept = w.bytes Picture in
      same_records _ (record_in kept) rows (λ row under. go row under (bit_set (waiting w) row) refl)
      ∙ own_records kept rows ∙ take_all (rows * record_bytes) kept (omega (arith, t.long))
    where
      go :
          (row : ℕ) → row < rows → (b : Bool) → bit_set (waiting w) row ≡ b
          → cond b (record_in (w.bytes Picture) row) (record_in copy row) ≡ record_in (w.bytes Picture) row
      go row under true e = refl
      go row under false e = t.same row under e

  -- at the start, and after a fresh drawing, all rows wait
  all_wait : (row : ℕ) → row < rows → bit_set (get_or start.waiting viewer 0) row ≡ true
  all_wait row under =
      ap (λ (n : ℕ). bit_set n row) (get_or-replicate viewers viewer (all_marked rows) 0 within) ∙ bit_by_bit (λ row. true) rows row
      ∙ rw (lt-ltb row rows under) refl

  abbrev Goes : Call → Type 0
  Goes call =
      (lent : Memory → Lent) (w : World) (copy : List ℕ) → serves call ≡ true → Told w copy
      → Told (stepped (Lending lent call) w) (copied viewer (Lending lent call) w copy)

  -- a call that leaves the viewers leaves the picture, if it serves
  quiet_goes : (call : Call) → Quiet call → Goes call
  quiet_goes call q lent w copy s t =
      let left = step_leaves (Lending lent call) w Picture (apart (may_change call (AllOf Picture)) q.leaves s) in
      rw (q.nothing [])
      (record {
        long = step_lengths (Lending lent call) w Picture ∙ t.long;
        eight = rw (changes_only call (lending lent w) TheViewers q.leaves) t.eight;
        same =
            λ row under unset. t.same row under
            (rw (changes_only call (lending lent w) TheViewers q.leaves) at unset)
            ∙ ap (λ (l : List ℕ). record_in l row) (sym left);
      })
    where
      apart : (p : Bool) → may_change call TheViewers ≡ false → not p || may_change call TheViewers ≡ true → p ≡ false
      apart true e h = absurd (false≢true (sym e ∙ h))
      apart false e h = refl

  draw_goes : Goes DrawForViewers
  draw_goes lent w copy s t = go (refuses (answer Draw (lending lent w)).refusal) refl
    where
      go :
          (b : Bool) → refuses (answer Draw (lending lent w)).refusal ≡ b → Told (stepped (Lending lent DrawForViewers) w) copy
      go true e = subst (λ (u : World). Told u copy) (sym (step_refused (Lending lent DrawForViewers) w e)) t
      go false e =
          record {
            long = step_lengths (Lending lent DrawForViewers) w Picture ∙ t.long;
            eight = rw e refl;
            same = λ row under unset. absurd (true≢false (sym (all_wait row under) ∙ (rw e at unset)));
          }

  store_goes : (serving plain : Call) → Serves serving plain → Goes serving
  store_goes serving plain s lent w copy _ t =
      rw (s.event [], s.leaves u)
      (record {
        long = step_lengths (Lending lent plain) w Picture ∙ t.long;
        eight = length-map w.viewers.waiting (λ (waits : ℕ). joined waits marks) ∙ t.eight;
        same =
            λ row under unset.
            let both =
            neither (bit_set (waiting w) row) (bit_set marks row)
            (sym (joined_bit_by_bit (waiting w) marks row)
            ∙ (rw (added_own w.viewers marks viewer (omega (arith, t.eight))) at unset)) in
            let changed = exactly_the_changed (u.bytes Picture) ((after plain u).bytes Picture) (s.marks u) row in
            t.same row under both.0
            ∙ sym (kept (lent Picture) (w.bytes Picture) ((after plain u).bytes Picture) row (changed.1.0 under both.1));
      })
    where
      u : World
      u = lending lent w

      marks : ℕ
      marks = get_or (answer plain u).numbers 0 0

      kept :
          (one : Lent) (own new : List ℕ) (row : ℕ) → record_in new row ≡ record_in (lent_bytes one own) row
          → record_in (kept_bytes one own new) row ≡ record_in own row
      kept Own own new row e = e
      kept (Another bytes) own new row e = refl

  -- its own ask repaints the copy, and then nothing waits
  asked : (lent : Memory → Lent) {w : World} {copy : List ℕ} → Told w copy → copied viewer (Lending lent (Ask viewer)) w copy ≡ w.bytes Picture
  asked lent t = rw (eq-eqb viewer viewer refl, lt-ltb viewer viewers within) (whole t)

  own_ask :
      (lent : Memory → Lent) (w : World) (copy : List ℕ) → Told w copy
      → Told (stepped (Lending lent (Ask viewer)) w) (copied viewer (Lending lent (Ask viewer)) w copy)
  unfolding has
  own_ask lent w copy t =
      let step : Step = Lending lent (Ask viewer) in
      rw (asked lent t)
      (record {
        long = step_lengths step w Picture ∙ t.long;
        eight = rw (lt-ltb viewer viewers within) (length-set w.viewers.waiting viewer 0 ∙ t.eight);
        same = λ row under unset. ap (λ (l : List ℕ). record_in l row) (sym (step_leaves step w Picture refl));
      })

  -- the ask of another leaves what waits for this one
  ask_goes : (n : ℕ) → Goes (Ask n)
  unfolding has
  ask_goes n lent w copy s t = go (eqb n viewer) refl
    where
      step : Step
      step = Lending lent (Ask n)

      go : (own : Bool) → eqb n viewer ≡ own → Told (stepped step w) (copied viewer step w copy)
      go true is =
          subst (λ (m : ℕ). Told (stepped (Lending lent (Ask m)) w) (copied viewer (Lending lent (Ask m)) w copy))
          (sym (eqb-true n viewer is)) (own_ask lent w copy t)
      go false other =
          let aside = ask_aside viewer n (lending lent w) (ap not other) in
          rw other
          (record {
            long = step_lengths step w Picture ∙ t.long;
            eight = aside.as_many ∙ t.eight;
            same =
                λ row under unset. t.same row under (ap (λ (m : ℕ). bit_set m row) (sym aside.own) ∙ unset)
                ∙ ap (λ (l : List ℕ). record_in l row) (sym (step_leaves step w Picture refl));
          })

  call_goes : (call : Call) → Goes call
  call_goes = by_call Goes draw_goes store_goes ask_goes quiet_goes

  step_goes :
      (step : Step) (w : World) (copy : List ℕ) → serves (call_of step) ≡ true → Told w copy
      → Told (stepped step w) (copied viewer step w copy)
  step_goes (Made call) w copy s t = call_goes call (λ _. Own) w copy s t
  step_goes (Lending lent call) w copy s t = call_goes call lent w copy s t

  run_goes :
      (steps : List Step) (w : World) (copy : List ℕ) → all_serve steps ≡ true → Told w copy
      → Told (stepped_all steps w) (copied_all viewer steps w copy)
  run_goes [] w copy all t = t
  run_goes (step ∷ steps) w copy all t =
      let both = (and-eq-true_iff (serves (call_of step)) (all_serve steps)).0 all in
      run_goes steps (stepped step w) (copied viewer step w copy) both.1 (step_goes step w copy both.0 t)

  -- at the start nothing is told yet, and all rows wait
  told_at_start : (w : World) (copy : List ℕ) → w.viewers ≡ start → length (w.bytes Picture) ≡ picture_bytes → Told w copy
  told_at_start w copy begun long =
      record {
        long = long;
        eight = rw begun refl;
        same = λ row under unset. absurd (true≢false (sym (all_wait row under) ∙ (rw begun at unset)));
      }

pub repaints_right : RepaintsRight
repaints_right viewer steps w copy within begun long all =
    asked viewer within (λ _. Own) (run_goes viewer within steps w copy all (told_at_start viewer within w copy begun long))

-- the redraws, one call after the other, leave what a redraw leaves, and they serve viewers
after_redraws : (indexed : Bool) (steps : List Step) (w : World) → stepped_all (redraws indexed ++ steps) w ≡ stepped_all steps (redrawn (serving indexed) w)
after_redraws true steps w = refl
after_redraws false steps w = refl

redraws_serve : (indexed : Bool) (steps : List Step) → all_serve steps ≡ true → all_serve (redraws indexed ++ steps) ≡ true
unfolding has
redraws_serve true steps all = all
redraws_serve false steps all = all

module _ (indexed : Bool) where
  abbrev keeps : Keeps
  keeps = serving indexed

  -- the same run, with the redraws written out or made at once
  as_played : (steps : List Step) (w : World) → stepped_all (with_redraws indexed steps w) w ≡ played_all keeps steps w
  as_played [] w = refl
  as_played (step ∷ steps) w =
      go (same_columns w new) (as_played steps new) (after_redraws indexed _ new ∙ as_played steps (redrawn keeps new))
    where
      new : World
      new = stepped step w

      noisy : List Step
      noisy = redraws indexed ++ with_redraws indexed steps (redrawn keeps new)

      go :
          (b : Bool) → stepped_all (with_redraws indexed steps new) new ≡ played_all keeps steps new
          → stepped_all noisy new ≡ played_all keeps steps (redrawn keeps new)
          → stepped_all (cond b (step ∷ with_redraws indexed steps new) (step ∷ noisy)) w ≡ played_all keeps steps (cond b new (redrawn keeps new))
      go true one other = one
      go false one other = other

  all_still_serve : (steps : List Step) (w : World) → all_serve steps ≡ true → all_serve (with_redraws indexed steps w) ≡ true
  all_still_serve [] w all = refl
  all_still_serve (step ∷ steps) w all =
      let both = (and-eq-true_iff (serves (call_of step)) (all_serve steps)).0 all in
      go both.0 (same_columns w new) (all_still_serve steps new both.1)
      (redraws_serve indexed _ (all_still_serve steps (redrawn keeps new) both.1))
    where
      new : World
      new = stepped step w

      noisy : List Step
      noisy = redraws indexed ++ with_redraws indexed steps (redrawn keeps new)

      go :
          serves (call_of step) ≡ true → (b : Bool) → all_serve (with_redraws indexed steps new) ≡ true → all_serve noisy ≡ true
          → all_serve (cond b (step ∷ with_redraws indexed steps new) (step ∷ noisy)) ≡ true
      go s true one other = rw (s, one)
      go s false one other = rw (s, other)

  -- a working out of the index leaves the viewers
  viewers-redrawn : (w : World) → (redrawn keeps w).viewers ≡ (after DrawForViewers w).viewers
  viewers-redrawn w = go indexed
    where
      go : (b : Bool) → (redrawn (serving b) w).viewers ≡ (after DrawForViewers w).viewers
      go true = refl
      go false = refl

pub repaints_fresh : RepaintsFresh
repaints_fresh indexed viewer steps w copy within accepts all serve =
    let begun = redrawn (serving indexed) w in
    let run = with_redraws indexed steps begun in
    let started : begun.viewers ≡ start = viewers-redrawn indexed w ∙ rw accepts refl in
    let long = redrawn_lengths (serving indexed) w Picture ∙ accepted_picture w (ap refuses (sym (draw_told w) ∙ accepts)) in
    let right = repaints_right viewer run begun copy within started long (all_still_serve indexed steps begun serve) in
    subst
    (λ (last : World). copied viewer (Made (Ask viewer)) last (copied_all viewer run begun copy) ≡ last.bytes Picture)
    (as_played indexed steps begun) right
    ∙ kept_from_drawing (serving indexed) steps w all accepts
