use mathlib.Core.Path.{sym, ◌∙◌}
use Rattle.commands.proofs.Numbers.{line_ends, differs, plain, kept, not_kept, line_goes_on, both_end}
use Rattle.commands.proofs.fitted.Goals as goal

pub returns-in_err-typed : goal.returns-in_err-typed
returns-in_err-typed c =
    c.from_residual.ensures ∙ line_ends c.loop-wanted.invariant c.in-Some.ensures c.in_err-typed.ensures

pub returns-in_err-n : goal.returns-in_err-n
returns-in_err-n c =
    c.from_residual-in_err-n.ensures
    ∙ differs c.loop-wanted.invariant c.in-Some.ensures c.in_ok-typed.ensures c.meaning_of.ensures c.in_err-n.was

pub loop-wanted-preserved-then-found-lt4 : goal.loop-wanted-preserved-then-found-lt4
loop-wanted-preserved-then-found-lt4 c =
    kept c.loop-wanted.invariant c.in-Some.ensures c.in_ok-typed.ensures c.meaning_of.ensures c.in_ok-n.was
    c.in-Number.is c.if-found-lt4.true

pub loop-wanted-preserved-else-found-lt4 : goal.loop-wanted-preserved-else-found-lt4
loop-wanted-preserved-else-found-lt4 c =
    not_kept c.loop-wanted.invariant c.in-Some.ensures c.in_ok-typed.ensures c.meaning_of.ensures c.in_ok-n.was
    c.in-Number.is c.if-found-lt4.false

pub loop-wanted-preserved : goal.loop-wanted-preserved
loop-wanted-preserved c =
    plain c.loop-wanted.invariant c.in-Some.ensures c.in_ok-typed.ensures c.meaning_of.ensures c.in_ok-n.was
    c.in_default-2.is

pub returns-then-has_words : goal.returns-then-has_words
returns-then-has_words c =
    line_goes_on c.loop-wanted.invariant c.in_default.ensures (sym c.has_words.ensures ∙ c.if-has_words.true)

pub returns : goal.returns
returns c =
    both_end c.loop-wanted.invariant c.in_default.ensures (sym c.has_words.ensures ∙ c.if-has_words.false)
