-- Document 02, ticket 6, as the text that docs/PROGRAMS.md shows: a sentence why a cell shows what it shows, and one
-- about the chain that led there. Numbers are decimal.
use Rattle.std.specs.Prelude.{ℕ, zero, suc, ◌+◌, ◌-◌, ◌*◌, List, [], ◌++◌, length, Option, Some, None, Result, Ok, Err}
use Rattle.std.proofs.lemmas.List.Edits.{sets}
use Rattle.lent.specs.Refusals.{accepted, number_of}
use Rattle.lent.specs.declared.refusals.Refusal.{Refusal}
use Rattle.machine.specs.declared.Machine.{Machine}
use Rattle.chain.specs.Chain.{Chain, byte_at, capacity, rows}
use Rattle.picture.specs.Draw.{chain_of}
use Rattle.explaining.specs.Explain.{reached}
use Rattle.explaining.specs.Call.{explain}
use Rattle.explaining.specs.Numbers.{told}
use Rattle.explaining.specs.declared.Reached.{Reached}
use Rattle.explaining.specs.declared.Why.{Why}
use Rattle.explaining.specs.declared.Why.TheVariants.{Cell, Fill, Past, Dark}
use Rattle.ascii.specs.Ascii.{ascii}
use Rattle.ascii.specs.Numbers.{decimal}
use Rattle.sentences.specs.Words.{around, character_words, attribute_words, kind_words}

-- "Row R, column K"
unfoldable pub row_and_column : (row column : ℕ) → List ℕ
row_and_column row column = around "Row " row ", column " ++ decimal column

-- "Row R, column K shows SHOWN, held at place P of screen memory in KIND."
unfoldable pub shown : (screen attribute : List ℕ) → (row column place : ℕ) → List ℕ
shown screen attribute row column place =
    row_and_column row column ++ ascii " shows " ++ character_words (byte_at screen place)
    ++ attribute_words (byte_at attribute place)

unfoldable pub held_in : (place kind : ℕ) → List ℕ
held_in place kind = around ", held at place " place " of screen memory in " ++ kind_words kind ++ ascii ".\n"

abbrev pub cell_sentence : Chain → (row column place kind : ℕ) → List ℕ
cell_sentence c row column place kind = shown c.screen c.attribute row column place ++ held_in place kind

-- "Row R, column K is filled with a blank, since the row's end mark stands at place P of screen memory."
unfoldable pub fill_sentence : (row column place : ℕ) → List ℕ
fill_sentence row column place =
    row_and_column row column
    ++ around " is filled with a blank, since the row's end mark stands at place " place " of screen memory.\n"

-- "Row R has no column K: KIND has columns 0 to N only."
unfoldable pub past_sentence : (row column kind last : ℕ) → List ℕ
past_sentence row column kind last =
    around "Row " row " has no column " ++ decimal column ++ ascii ": " ++ kind_words kind
    ++ around " has columns 0 to " last " only.\n"

-- N is the row's capacity less 1. No column is past the end of a dark row, so that has no words
abbrev pub past_in : (columns row column : ℕ) → Result Reached ℕ → List ℕ
past_in columns row column (Ok found) =
    past_sentence row column found.head.kind (capacity columns found.head.kind - 1)
past_in columns row column (Err tore) = []

-- "Row R, column K is dark, since row T is torn: its end mark is missing or too far on, so no row follows it."
unfoldable pub dark_sentence : (row column tore : ℕ) → List ℕ
dark_sentence row column tore =
    row_and_column row column
    ++ around " is dark, since row " tore " is torn: its end mark is missing or too far on, so no row follows it.\n"

-- the first sentence
abbrev pub sentence : Chain → (row column : ℕ) → Why → List ℕ
sentence c row column (Cell place kind led) = cell_sentence c row column place kind
sentence c row column (Fill place led) = fill_sentence row column place
sentence c row column (Past led) = past_in c.columns row column (reached c row)
sentence c row column (Dark tore) = dark_sentence row column tore

-- "; the link at place L leads to row R at place S": L is the place of the low link byte, S the row's start
unfoldable pub clause : (place row start : ℕ) → List ℕ
clause place row start =
    around "; the link at place " place " leads to row " ++ decimal row ++ ascii " at place " ++ decimal start

-- no link led to row 0, nor to a dark row
abbrev pub clause_of : (row start : ℕ) → Option ℕ → List ℕ
clause_of row start None = []
clause_of row start (Some place) = clause place row start

abbrev pub link_clause : (row : ℕ) → Result Reached ℕ → List ℕ
link_clause row (Ok found) = clause_of row found.head.start found.led
link_clause row (Err tore) = []

-- the clauses of the rows from 1 on
unfoldable pub clauses_to : Chain → (row : ℕ) → List ℕ
clauses_to c zero = []
clauses_to c (suc row) = clauses_to c row ++ link_clause (suc row) (reached c (suc row))

-- the second sentence: the chain to the row, or for a dark row to the row that tore
unfoldable pub chain_sentence : Chain → (last : ℕ) → List ℕ
chain_sentence c last = ascii "Row 0 starts at place 0" ++ clauses_to c last ++ ascii ".\n"

abbrev pub last_row : (row : ℕ) → Why → ℕ
last_row row (Cell place kind led) = row
last_row row (Fill place led) = row
last_row row (Past led) = row
last_row row (Dark tore) = tore

abbrev pub both_sentences : Chain → (row column : ℕ) → Why → List ℕ
both_sentences c row column why = sentence c row column why ++ chain_sentence c (last_row row why)

-- what is said of an answer: nothing where the call is refused
unfoldable pub text_of : Chain → (row column : ℕ) → Result Why ℕ → List ℕ
text_of c row column (Ok why) = both_sentences c row column why
text_of c row column (Err refusal) = []

-- what saying answers, in numbers
pub record Answer : Type 0 where
  pub refusal : ℕ
  pub bytes : ℕ

-- what it leaves: its answer and the text
pub record SaidText : Type 0 where
  pub answer : Answer
  pub text : List ℕ

abbrev pub said_by : (refusal bytes : ℕ) → List ℕ → SaidText
said_by refusal bytes text = record { answer = record { refusal = refusal; bytes = bytes }; text = text }

abbrev pub said : Result ℕ Refusal → List ℕ → SaidText
said (Ok bytes) = said_by accepted bytes
said (Err refusal) = said_by (number_of refusal) 0

-- the answer is the refusal, and how many bytes of text there are; the bytes after them stay
unfoldable pub say : Machine → (screen attribute : List ℕ) → (row column : ℕ) → (text : List ℕ) → SaidText
say m screen attribute row column text =
    let why = explain m screen attribute row column in
    let words = text_of (chain_of m screen attribute) row column why in
    said_by (told why).refusal (length words) (sets text 0 words)

-- the bytes of the two parts of the longest first sentence, that of a cell, and of a clause, with each number at its
-- longest, five digits
abbrev pub shown_most : ℕ
shown_most = 92

abbrev pub held_most : ℕ
held_most = 98

abbrev pub clause_most : ℕ
clause_most = 59

-- room for the longest text: in the second sentence what stands around the clauses is shorter than one
abbrev pub sentence_most : ℕ
sentence_most = shown_most + held_most

abbrev pub chain_most : ℕ
chain_most = rows * clause_most

abbrev pub text_bytes : ℕ
text_bytes = sentence_most + chain_most
