-- The worked cases, by computation.
use mathlib.Core.Path.{refl}
use Rattle.ascii.specs.Ascii.{ascii}
use Rattle.commands.specs.Words.{run, words_from}
use Rattle.commands.specs.Meanings.{digit, number_from}
use Rattle.commands.specs.Commands.{joined, fitted, fitting_from, command}
use Rattle.commands.specs.Cases.{form_table, name_table, fits, fits_none, cases, answer, CasesHold, given, GivenHold, meant, MeantHold}

pub cases_hold : CasesHold
unfolding ascii run words_from digit number_from joined fitted fitting_from command form_table name_table fits fits_none cases answer
cases_hold = refl

pub given_hold : GivenHold
unfolding ascii run words_from digit number_from joined fitted fitting_from form_table name_table fits fits_none cases answer given
given_hold = refl

pub meant_hold : MeantHold
unfolding ascii run words_from form_table meant
meant_hold = refl
