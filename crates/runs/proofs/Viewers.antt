-- What a viewer is told: the statements of specs/Viewers.antt.
use Prim.Native.Nat.{ℕ, zero, suc, ◌<◌}
use mathlib.Core.Path.{◌≡◌, refl, subst, sym, ap, ap₂, ◌∙◌}
use mathlib.Core.List.{List, [], ◌∷◌, map}
use mathlib.Core.Bool.{Bool, true, false, not, cond, ◌&&◌, ◌||◌, true≢false, false≢true, or_comm}
use native.Mathlib.Omega.{arith}
use lib.ListN.{length, get_or, set, length-set, length-map, get_or-replicate}
use lib.Seq.{get_or-set_other}
use lib.Dec.{eqb, ltb}
use borrow.Author.Tests.{lt-ltb, eqb-true, eqb-false, not-true, not-false}
use Rattle.lent.specs.Refusals.{accepted, refuses}
use Rattle.memories.specs.View8088.{seen_8088}
use Rattle.chain.specs.Chain.{rows}
use Rattle.marks.specs.Marks.{bit_set, marks_to, joined}
use Rattle.marks.proofs.Laws.{none_marked, joined_marks, same_marks}
use Rattle.marks.proofs.Marks.{bit_by_bit}
use Rattle.mending.specs.Mending.{marks_of}
use Rattle.mending.proofs.Changes.{marks_of_lem}
use Rattle.index.proofs.Meaning.{marks_of_lem as index_marks_of}
use Rattle.viewers.specs.Viewers.{viewers, start, added}
use Rattle.viewers.specs.declared.Viewers.{Viewers}
use Rattle.viewers.proofs.Laws.{none_added, added_own}
use Rattle.runs.specs.World.{Shared, Screen, Attribute, Picture, Index, World, with_viewers, Call, Read8088, Store8088, ReadZ80, StoreZ80, ReadShadow, WriteShadow, WritePort, VerticalTick, WatchdogTick, Draw, StoreWithPicture, IndexReaders, StoreWithIndex, DrawForViewers, StoreForViewers, StoreWithIndexForViewers, Ask, GlyphPart, DrawLine, ListLines, Explain, Answer, answered, after, answer}
use Rattle.runs.specs.Refused.{AllZero}
use Rattle.runs.specs.Reach.{TheViewers, has, may_change}
use Rattle.runs.specs.Kept.{lending, keeping, Step, Made, Lending, stepped}
use Rattle.runs.specs.Stopped.{call_of, answer_of, stepped_all}
use Rattle.runs.specs.Viewers.{Event, Started, DrawnAfresh, Marked, Asked, Nothing, event_of, happened, past_of, is_ask_of, since, marked, AnswersTheMarked, is_ask, is_anothers_ask, without_others, answers_without_others, OthersMayAsk}
use Rattle.runs.proofs.Worlds.{picture_refusal, index_refusal}
use Rattle.runs.proofs.Refused.{changes_nothing}
use Rattle.runs.proofs.Reach.{stored_apart, changes_only}
use Rattle.runs.proofs.Kept.{kept_as_lent}

-- a call that leaves the viewers is nothing to them
pub record Quiet (call : Call) : Type 0 where
  pub leaves : may_change call TheViewers ≡ false
  pub nothing : (numbers : List ℕ) → event_of call numbers ≡ Nothing

-- a store that serves viewers does as another does, and adds its marks, of the rows whose record changed, to theirs
pub record Serves (serving plain : Call) : Type 0 where
  pub answers : (u : World) → answer serving u ≡ answer plain u
  pub leaves : (u : World) → after serving u ≡ with_viewers (added u.viewers (get_or (answer plain u).numbers 0 0)) (after plain u)
  pub event : (numbers : List ℕ) → event_of serving numbers ≡ Marked (get_or numbers 0 0)
  pub marks : (u : World) → get_or (answer plain u).numbers 0 0 ≡ marks_of (u.bytes Picture) ((after plain u).bytes Picture)

picture_serves : (a b : ℕ) → Serves (StoreForViewers a b) (StoreWithPicture a b)
picture_serves a b =
    record {
      answers = λ u. refl;
      leaves = λ u. refl;
      event = λ _. refl;
      marks =
          λ u. marks_of_lem u.machine (u.bytes Shared) (u.bytes Screen) (u.bytes Attribute) (u.bytes Picture) a b (refuses (picture_refusal a u))
          refl;
    }

index_serves : (a b : ℕ) → Serves (StoreWithIndexForViewers a b) (StoreWithIndex a b)
index_serves a b =
    record {
      answers = λ u. refl;
      leaves = λ u. refl;
      event = λ _. refl;
      marks =
          λ u. index_marks_of u.machine (u.bytes Shared) (u.bytes Screen) (u.bytes Attribute) (u.bytes Picture) (u.bytes Index) a b
          (refuses (index_refusal a u)) refl;
    }

-- every call is a drawing or a store that serves viewers, an ask, or quiet
pub by_call :
    (P : Call → Type 0) → P DrawForViewers → ((serving plain : Call) → Serves serving plain → P serving) → ((n : ℕ) → P (Ask n))
    → ((call : Call) → Quiet call → P call) → (call : Call) → P call
unfolding has
by_call P draws stores asks quiet DrawForViewers = draws
by_call P draws stores asks quiet (StoreForViewers a b) = stores (StoreForViewers a b) (StoreWithPicture a b) (picture_serves a b)
by_call P draws stores asks quiet (StoreWithIndexForViewers a b) =
    stores (StoreWithIndexForViewers a b) (StoreWithIndex a b) (index_serves a b)
by_call P draws stores asks quiet (Ask n) = asks n
by_call P draws stores asks quiet (Read8088 a) = quiet (Read8088 a) (record { leaves = refl; nothing = λ _. refl })
by_call P draws stores asks quiet (Store8088 a b) =
    quiet (Store8088 a b) (record { leaves = stored_apart (seen_8088 a) TheViewers refl; nothing = λ _. refl })
by_call P draws stores asks quiet (ReadZ80 a) = quiet (ReadZ80 a) (record { leaves = refl; nothing = λ _. refl })
by_call P draws stores asks quiet (StoreZ80 a b) = quiet (StoreZ80 a b) (record { leaves = refl; nothing = λ _. refl })
by_call P draws stores asks quiet (ReadShadow p) = quiet (ReadShadow p) (record { leaves = refl; nothing = λ _. refl })
by_call P draws stores asks quiet (WriteShadow p b) = quiet (WriteShadow p b) (record { leaves = refl; nothing = λ _. refl })
by_call P draws stores asks quiet (WritePort p k) = quiet (WritePort p k) (record { leaves = refl; nothing = λ _. refl })
by_call P draws stores asks quiet VerticalTick = quiet VerticalTick (record { leaves = refl; nothing = λ _. refl })
by_call P draws stores asks quiet WatchdogTick = quiet WatchdogTick (record { leaves = refl; nothing = λ _. refl })
by_call P draws stores asks quiet Draw = quiet Draw (record { leaves = refl; nothing = λ _. refl })
by_call P draws stores asks quiet (StoreWithPicture a b) =
    quiet (StoreWithPicture a b) (record { leaves = stored_apart (seen_8088 a) TheViewers refl; nothing = λ _. refl })
by_call P draws stores asks quiet IndexReaders = quiet IndexReaders (record { leaves = refl; nothing = λ _. refl })
by_call P draws stores asks quiet (StoreWithIndex a b) =
    quiet (StoreWithIndex a b) (record { leaves = stored_apart (seen_8088 a) TheViewers refl; nothing = λ _. refl })
by_call P draws stores asks quiet (GlyphPart k) = quiet (GlyphPart k) (record { leaves = refl; nothing = λ _. refl })
by_call P draws stores asks quiet (DrawLine r s) = quiet (DrawLine r s) (record { leaves = refl; nothing = λ _. refl })
by_call P draws stores asks quiet ListLines = quiet ListLines (record { leaves = refl; nothing = λ _. refl })
by_call P draws stores asks quiet (Explain r k) = quiet (Explain r k) (record { leaves = refl; nothing = λ _. refl })

-- an element that was set to 0 reads as 0, in the list or not
cleared : (l : List ℕ) (n : ℕ) → get_or (set l n 0) n 0 ≡ 0
cleared [] n = refl
cleared (x ∷ l) zero = refl
cleared (x ∷ l) (suc n) = cleared l n

-- the first number of an answer with no number but 0
first_zero : (numbers : List ℕ) → AllZero numbers → get_or numbers 0 0 ≡ 0
first_zero [] zeros = refl
first_zero (number ∷ numbers) zeros = zeros.0

-- what waits for one viewer
module _ (viewer : ℕ) (within : viewer < viewers) where
  -- it is what was marked since its last ask
  pub record Waits (past : List Event) (v : Viewers) : Type 0 where
    pub eight : length v.waiting ≡ viewers
    pub own : get_or v.waiting viewer 0 ≡ marks_to (marked (since viewer past)) rows

  -- where the rows marked stay the same
  waits_so :
      {past later : List Event} {v : Viewers} → Waits past v
      → ((row : ℕ) → marked (since viewer later) row ≡ marked (since viewer past) row) → Waits later v
  waits_so h same =
      record { eight = h.eight; own = h.own ∙ same_marks _ _ rows (λ row _. sym (same row)) }

  nothing_waits : {past : List Event} {v : Viewers} → Waits past v → Waits (Nothing ∷ past) v
  unfolding since marked
  nothing_waits h = waits_so h (λ row. refl)

  all_wait : (past : List Event) → Waits (DrawnAfresh ∷ past) start
  unfolding since marked
  all_wait past = record { eight = refl; own = get_or-replicate viewers viewer _ 0 within }

  adds :
      (test : ℕ → Bool) (marks : ℕ) → marks ≡ marks_to test rows → {past : List Event} {v : Viewers} → Waits past v
      → Waits (Marked marks ∷ past) (added v marks)
  unfolding since marked
  adds test marks e {past} {v} h =
      record {
        eight = length-map v.waiting (λ (waits : ℕ). joined waits marks) ∙ h.eight;
        own =
            added_own v marks viewer (omega (arith, h.eight)) ∙ rw (h.own, e) (joined_marks (marked (since viewer past)) test rows)
            ∙ same_marks _ _ rows (λ row under.
            or_comm (marked (since viewer past) row) (test row)
            ∙ ap (λ (b : Bool). b || marked (since viewer past) row) (sym (bit row under)));
      }
    where
      bit : (row : ℕ) → row < rows → bit_set marks row ≡ test row
      bit row under = ap (λ (n : ℕ). bit_set n row) e ∙ bit_by_bit test rows row ∙ rw (lt-ltb row rows under) refl

  asks :
      (n : ℕ) {past : List Event} {v : Viewers} → Waits past v
      → Waits (Asked n ∷ past) (record { waiting = set v.waiting n 0 })
  unfolding since marked
  asks n {past} {v} h =
      record { eight = length-set v.waiting n 0 ∙ h.eight; own = go (eqb n viewer) refl }
    where
      go :
          (b : Bool) → eqb n viewer ≡ b
          → get_or (set v.waiting n 0) viewer 0 ≡ marks_to (marked (cond b [] (Asked n ∷ since viewer past))) rows
      go true is = rw (eqb-true n viewer is) (cleared v.waiting viewer ∙ sym (none_marked (marked []) rows (λ row _. refl)))
      go false other = get_or-set_other v.waiting n viewer 0 0 (λ e. eqb-false n viewer other (sym e)) ∙ h.own

  -- a call
  abbrev Goes : Call → Type 0
  Goes call =
      (u : World) (past : List Event) → Waits past u.viewers → Waits (happened call (answer call u) ∷ past) (after call u).viewers

  quiet_goes : (call : Call) → Quiet call → Goes call
  quiet_goes call q u past h =
      rw (changes_only call u TheViewers q.leaves, q.nothing (answer call u).numbers) (go (refuses (answer call u).refusal))
    where
      go : (b : Bool) → Waits (cond b Nothing Nothing ∷ past) u.viewers
      go true = nothing_waits h
      go false = nothing_waits h

  draw_goes : Goes DrawForViewers
  draw_goes u past h = go (refuses (answer Draw u).refusal)
    where
      go : (b : Bool) → Waits (cond b Nothing DrawnAfresh ∷ past) (cond b u.viewers start)
      go true = nothing_waits h
      go false = all_wait past

  store_goes : (serving plain : Call) → Serves serving plain → Goes serving
  store_goes serving plain s u past h =
      rw (s.answers u, s.event (answer plain u).numbers, s.leaves u) (go (refuses (answer plain u).refusal) refl)
    where
      marks : ℕ
      marks = get_or (answer plain u).numbers 0 0

      go :
          (r : Bool) → refuses (answer plain u).refusal ≡ r → Waits (cond r Nothing (Marked marks) ∷ past) (added u.viewers marks)
      go true e =
          let none = (changes_nothing plain u (λ f. false≢true (sym (ap refuses f) ∙ e))).1 in
          subst (λ (n : ℕ). Waits (Nothing ∷ past) (added u.viewers n)) (sym (first_zero (answer plain u).numbers none))
          (rw (none_added u.viewers) (nothing_waits h))
      go false e = adds _ marks (s.marks u) h

  ask_goes : (n : ℕ) → Goes (Ask n)
  ask_goes n u past h = go (ltb n viewers) refl
    where
      go : (b : Bool) → ltb n viewers ≡ b → Waits (happened (Ask n) (answer (Ask n) u) ∷ past) (after (Ask n) u).viewers
      go true e = rw e (asks n h)
      go false e = rw e (nothing_waits h)

  call_goes : (call : Call) → Goes call
  call_goes = by_call Goes draw_goes store_goes ask_goes quiet_goes

  run_goes :
      (steps : List Step) (w : World) (past : List Event) → Waits past w.viewers
      → Waits (past_of steps w past) (stepped_all steps w).viewers
  run_goes [] w past h = h
  run_goes (Made call ∷ steps) w past h = run_goes steps (after call w) _ (call_goes call w past h)
  run_goes (Lending lent call ∷ steps) w past h =
      run_goes steps (stepped (Lending lent call) w) _ (call_goes call (lending lent w) past h)

  all_at_start : Waits (Started ∷ []) start
  unfolding since marked
  all_at_start = record { eight = refl; own = get_or-replicate viewers viewer _ 0 within }

pub answers_the_marked : AnswersTheMarked
answers_the_marked steps w viewer begun within =
    let last = run_goes viewer within steps w (Started ∷ []) (rw begun (all_at_start viewer within)) in
    rw (lt-ltb viewer viewers within) (ap (λ (n : ℕ). answered accepted (n ∷ [])) last.own)

-- The world without its viewers. No call but an ask goes by them.
abbrev unwatched : World → World
unwatched w = with_viewers start w

blind :
    (call : Call) (w : World)
    → (is_ask (event_of call []) ≡ false → answer call w ≡ answer call (unwatched w))
    × (unwatched (after call w) ≡ unwatched (after call (unwatched w)))
blind (Read8088 a) w = (λ _. refl, refl)
blind (Store8088 a b) w = (λ _. refl, refl)
blind (ReadZ80 a) w = (λ _. refl, refl)
blind (StoreZ80 a b) w = (λ _. refl, refl)
blind (ReadShadow p) w = (λ _. refl, refl)
blind (WriteShadow p b) w = (λ _. refl, refl)
blind (WritePort p k) w = (λ _. refl, refl)
blind VerticalTick w = (λ _. refl, refl)
blind WatchdogTick w = (λ _. refl, refl)
blind Draw w = (λ _. refl, refl)
blind (StoreWithPicture a b) w = (λ _. refl, refl)
blind DrawForViewers w = (λ _. refl, refl)
blind (StoreForViewers a b) w = (λ _. refl, refl)
blind IndexReaders w = (λ _. refl, refl)
blind (StoreWithIndex a b) w = (λ _. refl, refl)
blind (StoreWithIndexForViewers a b) w = (λ _. refl, refl)
blind (Ask n) w = (λ ask. absurd (true≢false ask), refl)
blind (GlyphPart k) w = (λ _. refl, refl)
blind (DrawLine r s) w = (λ _. refl, refl)
blind ListLines w = (λ _. refl, refl)
blind (Explain r k) w = (λ _. refl, refl)

-- where two lists are as long and have the same element at a place, they do when one function is mapped over both
mapped_alike :
    (f : ℕ → ℕ) (l k : List ℕ) (n : ℕ) → length l ≡ length k → get_or l n 0 ≡ get_or k n 0
    → get_or (map f l) n 0 ≡ get_or (map f k) n 0
mapped_alike f [] [] n long e = refl
mapped_alike f [] (y ∷ k) n long e = absurd (omega (arith, long))
mapped_alike f (x ∷ l) [] n long e = absurd (omega (arith, long))
mapped_alike f (x ∷ l) (y ∷ k) zero long e = ap f e
mapped_alike f (x ∷ l) (y ∷ k) (suc n) long e = mapped_alike f l k n (omega (arith, long)) e

module _ (viewer : ℕ) where
  -- two sets of viewers that have the same for this one
  pub record SameOwn (x y : Viewers) : Type 0 where
    pub as_many : length x.waiting ≡ length y.waiting
    pub own : get_or x.waiting viewer 0 ≡ get_or y.waiting viewer 0

  -- two worlds that differ at most in what waits for the others
  SameFor : World → World → Type 0
  SameFor w v = (unwatched w ≡ unwatched v) × SameOwn w.viewers v.viewers

  -- a call that is no ask of another
  abbrev Alike : Call → Type 0
  Alike call =
      (w v : World) → is_anothers_ask viewer call ≡ false → SameFor w v
      → (answer call w ≡ answer call v) × SameOwn (after call w).viewers (after call v).viewers

  same_answer : (call : Call) (w v : World) → is_ask (event_of call []) ≡ false → unwatched w ≡ unwatched v → answer call w ≡ answer call v
  same_answer call w v no_ask rest = (blind call w).0 no_ask ∙ ap (answer call) rest ∙ sym ((blind call v).0 no_ask)

  quiet_alike : (call : Call) → Quiet call → Alike call
  unfolding SameFor
  quiet_alike call q w v h same = (
    same_answer call w v (ap is_ask (q.nothing [])) same.0,
    rw (changes_only call w TheViewers q.leaves, changes_only call v TheViewers q.leaves) same.1,
  )

  draw_alike : Alike DrawForViewers
  unfolding SameFor
  draw_alike w v h same =
      let answers = same_answer DrawForViewers w v refl same.0 in
      (answers, rw (ap (λ (a : Answer). a.refusal) answers) (go (refuses (answer DrawForViewers v).refusal)))
    where
      go : (b : Bool) → SameOwn (cond b w.viewers start) (cond b v.viewers start)
      go true = same.1
      go false = record { as_many = refl; own = refl }

  added_alike : {x y : Viewers} (marks : ℕ) → SameOwn x y → SameOwn (added x marks) (added y marks)
  added_alike {x} {y} marks same =
      let f : ℕ → ℕ = λ (waits : ℕ). joined waits marks in
      record {
        as_many = length-map x.waiting f ∙ same.as_many ∙ sym (length-map y.waiting f);
        own = mapped_alike f x.waiting y.waiting viewer same.as_many same.own;
      }

  store_alike : (serving plain : Call) → Serves serving plain → Alike serving
  unfolding SameFor
  store_alike serving plain s w v h same =
      let answers = same_answer serving w v (ap is_ask (s.event [])) same.0 in
      let marks : World → ℕ = λ u. get_or (answer plain u).numbers 0 0 in
      let alike : marks w ≡ marks v = ap (λ (a : Answer). get_or a.numbers 0 0) (sym (s.answers w) ∙ answers ∙ s.answers v) in (
        answers,
        rw (s.leaves w, s.leaves v)
            (subst (λ (n : ℕ). SameOwn (added w.viewers n) (added v.viewers (marks v))) (sym alike) (added_alike (marks v) same.1)),
      )

  ask_alike : (n : ℕ) → Alike (Ask n)
  unfolding SameFor
  ask_alike n w v h same =
      let is = eqb-true n viewer (not-false (eqb n viewer) h) in
      rw is (go (ltb viewer viewers) refl)
    where
      go :
          (b : Bool) → ltb viewer viewers ≡ b
          → (answer (Ask viewer) w ≡ answer (Ask viewer) v) × SameOwn (after (Ask viewer) w).viewers (after (Ask viewer) v).viewers
      go true e =
          rw e (
            ap (λ (n : ℕ). answered accepted (n ∷ [])) same.1.own,
            record {
              as_many =
                  length-set w.viewers.waiting viewer 0 ∙ same.1.as_many ∙ sym (length-set v.viewers.waiting viewer 0);
              own = cleared w.viewers.waiting viewer ∙ sym (cleared v.viewers.waiting viewer);
            },
          )
      go false e = rw e (refl, same.1)

  call_alike : (call : Call) → Alike call
  call_alike = by_call Alike draw_alike store_alike ask_alike quiet_alike

  rest_alike : (call : Call) (w v : World) → unwatched w ≡ unwatched v → unwatched (after call w) ≡ unwatched (after call v)
  rest_alike call w v rest =
      (blind call w).1 ∙ ap (λ (u : World). unwatched (after call u)) rest ∙ sym (blind call v).1

  step_alike :
      (step : Step) (w v : World) → is_anothers_ask viewer (call_of step) ≡ false → SameFor w v
      → (answer_of step w ≡ answer_of step v) × SameFor (stepped step w) (stepped step v)
  unfolding SameFor
  step_alike (Made call) w v h same =
      let alike = call_alike call w v h same in
      (alike.0, (rest_alike call w v same.0, alike.1))
  step_alike (Lending lent call) w v h same =
      let rest : unwatched (lending lent w) ≡ unwatched (lending lent v) = ap (lending lent) same.0 in
      let alike = call_alike call (lending lent w) (lending lent v) h (rest, same.1) in (
        alike.0,
        (ap₂ (keeping lent) same.0 (rest_alike call (lending lent w) (lending lent v) rest), alike.1),
      )

  -- an ask of another, in the one world alone
  pub ask_aside : (n : ℕ) (w : World) → not (eqb n viewer) ≡ true → SameOwn (after (Ask n) w).viewers w.viewers
  ask_aside n w h = go (ltb n viewers) refl
    where
      go : (b : Bool) → ltb n viewers ≡ b → SameOwn (after (Ask n) w).viewers w.viewers
      go true e =
          rw e
          (record {
            as_many = length-set w.viewers.waiting n 0;
            own = get_or-set_other w.viewers.waiting n viewer 0 0 (λ is. eqb-false n viewer (not-true _ h) (sym is));
          })
      go false e = rw e (record { as_many = refl; own = refl })

  abbrev Aside : Call → Type 0
  Aside call =
      is_anothers_ask viewer call ≡ true → (w : World) → (unwatched (after call w) ≡ unwatched w) × SameOwn (after call w).viewers w.viewers

  no_ask : (call : Call) → is_ask (event_of call []) ≡ false → Aside call
  no_ask call none h =
      absurd (false≢true (sym (ap (λ (b : Bool). b && not (is_ask_of viewer (event_of call []))) none) ∙ h))

  call_aside : (call : Call) → Aside call
  call_aside =
      by_call Aside (no_ask DrawForViewers refl) (λ serving plain s. no_ask serving (ap is_ask (s.event [])))
      (λ n h w. (refl, ask_aside n w h)) (λ call q. no_ask call (ap is_ask (q.nothing [])))

  step_aside : (step : Step) (w : World) → is_anothers_ask viewer (call_of step) ≡ true → SameFor (stepped step w) w
  unfolding SameFor
  step_aside (Made call) w h = call_aside call h w
  step_aside (Lending lent call) w h =
      let aside = call_aside call h (lending lent w) in
      (ap (keeping lent (unwatched w)) aside.0 ∙ ap unwatched (kept_as_lent lent w), aside.1)

  same_trans : (u w v : World) → SameFor u w → SameFor w v → SameFor u v
  unfolding SameFor
  same_trans u w v p q =
      (p.0 ∙ q.0, record { as_many = p.1.as_many ∙ q.1.as_many; own = p.1.own ∙ q.1.own })

  alone :
      (steps : List Step) (w v : World) → SameFor w v
      → answers_without_others viewer steps w ≡ answers_without_others viewer (without_others viewer steps) v
  alone [] w v same = refl
  alone (step ∷ steps) w v same =
      go (λ u x. alone steps u x) (is_anothers_ask viewer (call_of step)) refl
    where
      go :
          ((u x : World) → SameFor u x → answers_without_others viewer steps u ≡ answers_without_others viewer (without_others viewer steps) x)
          → (b : Bool) → is_anothers_ask viewer (call_of step) ≡ b
          → let later = answers_without_others viewer steps (stepped step w) in
          let left = without_others viewer steps in
          cond b later (answer_of step w ∷ later) ≡ answers_without_others viewer (cond b left (step ∷ left)) v
      go rest true e = rest (stepped step w) v (same_trans (stepped step w) w v (step_aside step w e) same)
      go rest false e =
          let alike = step_alike step w v e same in
          rw (e, alike.0, rest (stepped step w) (stepped step v) alike.1)

pub others_may_ask : OthersMayAsk
unfolding SameFor
others_may_ask viewer one two w same =
    let itself : SameFor viewer w w = (refl, record { as_many = refl; own = refl }) in
    alone viewer one w w itself ∙ ap (λ (steps : List Step). answers_without_others viewer steps w) same
    ∙ sym (alone viewer two w w itself)
