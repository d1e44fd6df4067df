-- The longest text has room in the caller's buffer.
use Rattle.std.proofs.Common.{ℕ, zero, suc, ◌*◌, ◌≤◌, ◌<◌, List, length, arith, length-append}
use lib.Dec.{eqb}
use Rattle.std.specs.Prelude.{Option, Some, None, Result, Ok, Err}
use mathlib.Core.Bool.{Bool, true, false}
use Rattle.std.proofs.lemmas.Bool.Decides.{nat_tests}
use Rattle.machine.specs.Settings.{bit}
use Rattle.dots.specs.Attributes.{is_reverse, is_bold, blinks, is_underlined}
use Rattle.chain.specs.Chain.{Chain, byte_at, rows}
use Rattle.explaining.specs.Explain.{reached}
use Rattle.explaining.specs.declared.Reached.{Reached}
use Rattle.explaining.specs.declared.Why.{Why}
use Rattle.explaining.specs.declared.Why.TheVariants.{Cell, Fill, Past, Dark}
use Rattle.ascii.specs.Ascii.{ascii}
use Rattle.ascii.proofs.Lengths.{decimal_fits}
use Rattle.sentences.specs.Words.{character_words, said_if, attribute_words, width_words, kind_words, character_most, attribute_most, width_most, kind_most}
use Rattle.sentences.specs.Sentences.{row_and_column, shown, held_in, fill_sentence, past_sentence, past_in, dark_sentence, sentence, clause, clause_of, link_clause, clauses_to, chain_sentence, last_row, both_sentences, shown_most, held_most, sentence_most, clause_most, chain_most, text_bytes}

character_fits : (byte : ℕ) → length (character_words byte) ≤ character_most
unfolding character_words ascii
character_fits byte = grind (arith, nat_tests, length-append {A = ℕ}, decimal_fits byte)

said_fits : (holds : Bool) (words : List ℕ) → length (said_if holds words) ≤ length words
unfolding said_if
said_fits true words = omega arith
said_fits false words = omega arith

attribute_fits : (attribute : ℕ) → length (attribute_words attribute) ≤ attribute_most
unfolding attribute_words ascii
attribute_fits attribute = simp length-append (omega (
  arith,
  said_fits (is_bold attribute) (ascii ", bold"),
  said_fits (blinks attribute) (ascii ", blinking"),
  said_fits (is_underlined attribute) (ascii ", underlined"),
  said_fits (is_reverse attribute) (ascii ", in reverse"),
))

width_fits : (kind : ℕ) → length (width_words kind) ≤ width_most
unfolding width_words ascii
width_fits kind = grind (arith, nat_tests)

kind_fits : (kind : ℕ) → length (kind_words kind) ≤ kind_most
unfolding kind_words ascii
kind_fits kind = simp length-append (omega (arith, width_fits kind, said_fits (eqb (bit 2 kind) 1) (ascii " that scrolls")))

named_fits : (row column : ℕ) → length (row_and_column row column) ≤ 23
unfolding row_and_column ascii
named_fits row column = simp length-append (omega (arith, decimal_fits row, decimal_fits column))

shown_fits : (screen attribute : List ℕ) (row column place : ℕ) → length (shown screen attribute row column place) ≤ shown_most
unfolding shown ascii
shown_fits screen attribute row column place = simp length-append (omega (
  arith,
  named_fits row column,
  character_fits (byte_at screen place),
  attribute_fits (byte_at attribute place),
))

held_fits : (place kind : ℕ) → length (held_in place kind) ≤ held_most
unfolding held_in ascii
held_fits place kind = simp length-append (omega (arith, decimal_fits place, kind_fits kind))

fill_fits : (row column place : ℕ) → length (fill_sentence row column place) ≤ sentence_most
unfolding fill_sentence ascii
fill_fits row column place = simp length-append (omega (arith, named_fits row column, decimal_fits place))

past_fits : (row column kind last : ℕ) → length (past_sentence row column kind last) ≤ sentence_most
unfolding past_sentence ascii
past_fits row column kind last =
    simp length-append (omega (arith, decimal_fits row, decimal_fits column, kind_fits kind, decimal_fits last))

dark_fits : (row column tore : ℕ) → length (dark_sentence row column tore) ≤ sentence_most
unfolding dark_sentence ascii
dark_fits row column tore = simp length-append (omega (arith, named_fits row column, decimal_fits tore))

past_in_fits : (columns row column : ℕ) (found : Result Reached ℕ) → length (past_in columns row column found) ≤ sentence_most
past_in_fits columns row column (Ok found) = past_fits row column found.head.kind _
past_in_fits columns row column (Err tore) = omega arith

sentence_fits : (c : Chain) (row column : ℕ) (answer : Why) → length (sentence c row column answer) ≤ sentence_most
sentence_fits c row column (Cell place kind led) =
    simp length-append (omega (arith, shown_fits c.screen c.attribute row column place, held_fits place kind))
sentence_fits c row column (Fill place led) = fill_fits row column place
sentence_fits c row column (Past led) = past_in_fits c.columns row column (reached c row)
sentence_fits c row column (Dark tore) = dark_fits row column tore

clause_fits : (place row start : ℕ) → length (clause place row start) ≤ clause_most
unfolding clause ascii
clause_fits place row start =
    simp length-append (omega (arith, decimal_fits place, decimal_fits row, decimal_fits start))

link_fits : (row : ℕ) (found : Result Reached ℕ) → length (link_clause row found) ≤ clause_most
link_fits row (Ok found) = led_fits found.head.start found.led
  where
    led_fits : (start : ℕ) (led : Option ℕ) → length (clause_of row start led) ≤ clause_most
    led_fits start None = omega arith
    led_fits start (Some place) = clause_fits place row start
link_fits row (Err tore) = omega arith

clauses_fit : (c : Chain) (row : ℕ) → length (clauses_to c row) ≤ row * clause_most
unfolding clauses_to
clauses_fit c zero = omega arith
clauses_fit c (suc row) = simp length-append (omega (arith, clauses_fit c row, link_fits (suc row) (reached c (suc row))))

chain_fits : (c : Chain) (last : ℕ) → last < rows → length (chain_sentence c last) ≤ chain_most
unfolding chain_sentence ascii
chain_fits c last on = simp length-append (omega (arith, clauses_fit c last))

pub both_fit :
    (c : Chain) (row column : ℕ) (answer : Why) → last_row row answer < rows
    → length (both_sentences c row column answer) ≤ text_bytes
both_fit c row column answer on =
    simp length-append (omega (arith, sentence_fits c row column answer, chain_fits c (last_row row answer) on))
