-- Document 01, "What each promise must say": "that no second outcome meets it is shown". A promise, as the check
-- reads it off the source, is a statement of κs the lifetimes, a the arguments, r the answer and s what was lent as
-- the call returns.
use Rattle.std.specs.Prelude.{◌≡◌}

-- of two ways for a call to end that both meet its promise, the outcome is the same
abbrev pub Once :
    {K : Type 0} {A R S : K → Type 0} {O : Type 0}
    → ((κs : K) → A κs → R κs → S κs → Type 0) → ((κs : K) → R κs → S κs → O) → Type 0
Once {K = K} {A = A} {R = R} {S = S} post outcome =
    (κs : K) (a : A κs) (one two : R κs × S κs) → post κs a one.0 one.1 → post κs a two.0 two.1
    → outcome κs one.0 one.1 ≡ outcome κs two.0 two.1

-- the same of a call that changes no memory: the outcome is the answer
abbrev pub AnswersOnce : {K : Type 0} {A S : K → Type 0} {O : Type 0} → ((κs : K) → A κs → O → S κs → Type 0) → Type 0
AnswersOnce post = Once post (λ κs r s. r)
