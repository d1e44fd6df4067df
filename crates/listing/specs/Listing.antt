-- Document 01, "Screens and ports worked out": the row lister.
use Rattle.std.specs.Prelude.{ℕ, zero, suc, ◌+◌, ◌*◌, List, [], ◌∷◌, ◌++◌, not, cond, length, get_or, eqb}
use Rattle.std.proofs.lemmas.List.Edits.{sets}
use Rattle.lent.specs.Refusals.{refuses, length_refused}
use Rattle.machine.specs.Power.{power_up}
use Rattle.machine.specs.Settings.{columns}
use Rattle.chain.specs.Chain.{rows}
use Rattle.records.specs.Record.{record_bytes, start_low_at, kind_at, count_at, torn_count, dark_count}
use Rattle.picture.specs.Draw.{DrawnPicture, drawing_answered, refuse_drawing, draw}
use Rattle.picture.specs.declared.Drawn.{Drawn}
use Rattle.ascii.specs.Ascii.{ascii}
use Rattle.ascii.specs.Numbers.{decimal, hex}
use Rattle.listing.specs.declared.Listed.{Listed}

abbrev pub newline : List ℕ
newline = 0x0A ∷ []

-- "columns 80 reads 81"
unfoldable pub heading : (columns reads : ℕ) → List ℕ
heading columns reads = ascii "columns " ++ decimal columns ++ ascii " reads " ++ decimal reads ++ newline

-- the count in decimal, or that the row is torn
unfoldable pub counted : ℕ → List ℕ
counted count = cond (eqb count torn_count) (ascii "torn") (decimal count)

-- "row, start in four capital hex digits, kind, count in decimal"; the start is two bytes, the high one first
unfoldable pub row_and_start : (row high low : ℕ) → List ℕ
row_and_start row high low = decimal row ++ ascii " " ++ hex high ++ hex low

unfoldable pub line : (row high low kind count : ℕ) → List ℕ
line row high low kind count =
    row_and_start row high low ++ ascii " " ++ decimal kind ++ ascii " " ++ counted count ++ newline

-- the line of a row's record, "dark ones not at all"
unfoldable pub line_of : List ℕ → ℕ → List ℕ
line_of picture row =
    let at = row * record_bytes in
    let count = get_or picture (at + count_at) 0 in
    cond (eqb count dark_count) []
    (line row (get_or picture at 0) (get_or picture (at + start_low_at) 0) (get_or picture (at + kind_at) 0) count)

-- the lines of the first rows
unfoldable pub lines_to : List ℕ → ℕ → List ℕ
lines_to picture zero = []
lines_to picture (suc row) = lines_to picture row ++ line_of picture row

-- "prints `refused 1`"
unfoldable pub refused_text : ℕ → List ℕ
refused_text number = ascii "refused " ++ decimal number ++ newline

-- what is printed of a drawing
unfoldable pub text_of : (columns : ℕ) → DrawnPicture → List ℕ
text_of columns left =
    cond (refuses left.answer.refusal) (refused_text left.answer.refusal)
    (heading columns left.answer.reads ++ lines_to left.picture rows)

-- "reads 8,192 bytes, screen then attribute, at 80 columns. .. Input of another length prints `refused 1`."
-- `beyond` bytes came after the two memories
unfoldable pub drawing : (screen attribute : List ℕ) → (beyond : ℕ) → (picture : List ℕ) → DrawnPicture
drawing screen attribute beyond picture =
    cond (not (eqb beyond 0)) (refuse_drawing length_refused picture)
    (draw power_up screen attribute picture)

-- what listing answers, in numbers
pub record Answer : Type 0 where
  pub bytes : ℕ
  pub drawn : Drawn

-- what it leaves: its answer, the picture and the text
pub record ListedRows : Type 0 where
  pub answer : Answer
  pub picture : List ℕ
  pub text : List ℕ

abbrev pub rows_listed : Answer → List ℕ → List ℕ → ListedRows
rows_listed answer picture text = record { answer = answer; picture = picture; text = text }

abbrev pub listed : Listed → List ℕ → List ℕ → ListedRows
listed answer = rows_listed (record { bytes = answer.bytes; drawn = drawing_answered answer.drawn })

-- the answer is how many bytes of text there are, and the drawing's own, which names the first wild row: the text does
-- not
unfoldable pub list_rows : (screen attribute : List ℕ) → (beyond : ℕ) → (picture text : List ℕ) → ListedRows
list_rows screen attribute beyond picture text =
    let left = drawing screen attribute beyond picture in
    let words = text_of (columns power_up) left in
    rows_listed (record { bytes = length words; drawn = left.answer }) left.picture (sets text 0 words)

-- the bytes of a heading and of a line with each number at its longest, five digits, and room for the longest text
abbrev pub heading_most : ℕ
heading_most = 26

abbrev pub line_most : ℕ
line_most = 23

abbrev pub text_bytes : ℕ
text_bytes = heading_most + rows * line_most
