-- What saying leaves is left by one outcome and one text alone.
use Prim.Native.Nat.{ℕ}
use mathlib.Core.Path.{◌≡◌, refl, sym, ap, ◌∙◌}
use mathlib.Core.List.{List}
use Rattle.std.specs.Prelude.{Result, Ok, Err}
use Rattle.lent.specs.declared.refusals.Refusal.{Refusal}
use Rattle.lent.proofs.Told.{outcome_at, refused_at}
use Rattle.sentences.specs.Sentences.{SaidText, said}

there_and_back :
    (text : List ℕ) (outcome : Result ℕ Refusal)
    → outcome_at (said outcome text).answer.refusal (said outcome text).answer.bytes ≡ outcome
there_and_back text (Ok bytes) = refl
there_and_back text (Err refusal) = refused_at refusal 0

same_text : (text : List ℕ) (outcome : Result ℕ Refusal) → (said outcome text).text ≡ text
same_text text (Ok bytes) = refl
same_text text (Err refusal) = refl

pub said_alone :
    {one other : Result ℕ Refusal} {text after : List ℕ} → said one text ≡ said other after
    → (one ≡ other) × (text ≡ after)
said_alone {one} {other} {text} {after} e = (
  sym (there_and_back text one) ∙ ap (λ (left : SaidText). outcome_at left.answer.refusal left.answer.bytes) e ∙ there_and_back after other,
  sym (same_text text one) ∙ ap (λ (left : SaidText). left.text) e ∙ same_text after other,
)
