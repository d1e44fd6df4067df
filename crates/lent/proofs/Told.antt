-- That what is told in numbers is told of one outcome alone: from the numbers it can be had back.
use Prim.Native.Nat.{ℕ}
use mathlib.Core.Path.{◌≡◌, refl, sym, ap, ◌∙◌}
use mathlib.Core.Bool.{cond}
use lib.Dec.{eqb}
use Rattle.std.specs.Prelude.{Result, Ok, Err}
use Rattle.lent.specs.Refusals.{accepted, number_of, answered}
use Rattle.lent.specs.Answer.{byte_answered}
use Rattle.lent.specs.declared.ByteRead.{ByteRead}
use Rattle.lent.specs.declared.refusals.Refusal.{Refusal}
use Rattle.lent.specs.declared.refusals.Refusal.TheVariants.{Length, Address, Port, Code, Place, Edges, Z80Held, InReset, Latch, Viewer}

pub one_alone :
    {A B : Type 0} {tell : A → B} (back : B → A) → ((outcome : A) → back (tell outcome) ≡ outcome)
    → {one other : A} → tell one ≡ tell other → one ≡ other
one_alone back same {one} {other} e = sym (same one) ∙ ap back e ∙ same other

abbrev pub refusal_at : ℕ → Refusal
refusal_at number =
    cond (eqb number 1) Length
    (cond (eqb number 2) Address
    (cond (eqb number 3) Port
    (cond (eqb number 4) Code
    (cond (eqb number 5) Place
    (cond (eqb number 6) Edges
    (cond (eqb number 7) Z80Held
    (cond (eqb number 8) InReset
    (cond (eqb number 9) Latch Viewer))))))))

-- an outcome by its number, and by what else it is told with
abbrev pub outcome_at : {A : Type 0} → (number : ℕ) → A → Result A Refusal
outcome_at number value = cond (eqb number accepted) (Ok value) (Err (refusal_at number))

pub refused_at : {A : Type 0} (refusal : Refusal) (value : A) → outcome_at (number_of refusal) value ≡ Err refusal
refused_at Length value = refl
refused_at Address value = refl
refused_at Port value = refl
refused_at Code value = refl
refused_at Place value = refl
refused_at Edges value = refl
refused_at Z80Held value = refl
refused_at InReset value = refl
refused_at Latch value = refl
refused_at Viewer value = refl

number_back : (outcome : Result Unit Refusal) → outcome_at (answered outcome) tt ≡ outcome
number_back (Ok tt) = refl
number_back (Err refusal) = refused_at refusal tt

byte_back : (outcome : Result ℕ Refusal) → outcome_at (byte_answered outcome).refusal (byte_answered outcome).byte ≡ outcome
byte_back (Ok byte) = refl
byte_back (Err refusal) = refused_at refusal 0

pub number_alone : {one other : Result Unit Refusal} → answered one ≡ answered other → one ≡ other
number_alone = one_alone (λ number. outcome_at number tt) number_back

pub byte_alone : {one other : Result ℕ Refusal} → byte_answered one ≡ byte_answered other → one ≡ other
byte_alone = one_alone (λ (told : ByteRead). outcome_at told.refusal told.byte) byte_back
