-- P1 to P6: screens drawn at power-up, 80 columns, told by the bytes of the picture; and the first wild row of a
-- screen.
use Rattle.std.specs.Prelude.{ℕ, zero, suc, ◌+◌, ◌-◌, ◌*◌, List, [], ◌∷◌, ◌++◌, length, get_or, drop, replicate}
use Rattle.lent.specs.Lengths.{screen_bytes, attribute_bytes, picture_bytes}
use Rattle.machine.specs.Power.{power_up}
use Rattle.chain.specs.Chain.{rows}
use Rattle.records.specs.Record.{record_bytes}
use Rattle.picture.specs.Draw.{DrawnPicture, draw}
use Rattle.cases.specs.Said.{Said, Row, Start, Count, Reads, Names}

-- rows that are alike, so many from `row` on
unfoldable pub alike_from : (row start kind count more : ℕ) → List Said
alike_from row start kind count zero = []
alike_from row start kind count (suc more) = Row row start kind count ∷ alike_from (row + 1) start kind count more

-- the rows from `first` to `last`
unfoldable pub alike : (first last start kind count : ℕ) → List Said
alike first last start kind count = alike_from first start kind count (last + 1 - first)

unfoldable pub drawn_from : (screen attribute : List ℕ) → DrawnPicture
drawn_from screen attribute = draw power_up screen attribute (replicate picture_bytes 0x00)

-- what the records of a picture say, so many from `row` on
unfoldable pub rows_of : (row more : ℕ) → List ℕ → List Said
rows_of row zero picture = []
rows_of row (suc more) picture =
    Row row (256 * get_or picture 0 0 + get_or picture 1 0) (get_or picture 2 0) (get_or picture 3 0)
    ∷ rows_of (row + 1) more (drop record_bytes picture)

-- the read count and every row
unfoldable pub drawn_all : (screen attribute : List ℕ) → List Said
drawn_all screen attribute =
    let left = drawn_from screen attribute in
    Reads left.answer.reads ∷ rows_of 0 rows left.picture

-- a screen memory that begins with these bytes
unfoldable pub memory : List ℕ → List ℕ
memory bytes = bytes ++ replicate (screen_bytes - length bytes) 0x00

-- the record's byte at a place, of a row, where every attribute byte is the same
unfoldable pub byte_of_row : (row place : ℕ) → List ℕ → ℕ → ℕ
byte_of_row row place bytes beside =
    get_or (drawn_from (memory bytes) (replicate attribute_bytes beside)).picture (row * record_bytes + place) 0

unfoldable pub start_of_row : ℕ → List ℕ → ℕ → List Said
start_of_row row bytes beside = Start (256 * byte_of_row row 0 bytes beside + byte_of_row row 1 bytes beside) ∷ []

unfoldable pub count_of_row : ℕ → List ℕ → ℕ → List Said
count_of_row row bytes beside = Count (byte_of_row row 3 bytes beside) ∷ []

-- the row that the drawing names, where every attribute byte is the same
unfoldable pub named : List ℕ → ℕ → List Said
named bytes beside =
    let answer = (drawn_from (memory bytes) (replicate attribute_bytes beside)).answer in
    Names answer.wild answer.wild_row ∷ []

-- rows of no cells, one after the other, so many from `row` on, and then these bytes
unfoldable pub empty_rows : (row more : ℕ) → List ℕ → List ℕ
empty_rows row zero bytes = bytes
empty_rows row (suc more) bytes = 0xFF ∷ 3 * (row + 1) ∷ 0 ∷ empty_rows (row + 1) more bytes
