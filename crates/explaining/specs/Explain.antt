-- Document 02, ticket 6: "Why does this cell say that?"
use Rattle.std.specs.Prelude.{ℕ, zero, suc, ◌+◌, ◌%◌, Bool, true, false, cond, ltb, leb, Option, Some, None, Result, Ok, Err}
use Rattle.chain.specs.Chain.{Chain, Row as ARow, Whole, Torn, Dark as DarkRow, places, capacity, rows, row_at}
use Rattle.chain.specs.First.{first_that}
use Rattle.chain.specs.declared.Head.{Head}
use Rattle.explaining.specs.declared.Reached.{Reached}
use Rattle.explaining.specs.declared.Why.{Why}
use Rattle.explaining.specs.declared.Why.TheVariants.{Cell, Fill, Past, Dark}

-- the place of the low byte of a row's link, which is the byte after FF; a torn or dark row has no link, and leads to
-- no row that is not dark
abbrev pub low_link : ARow → ℕ
low_link (Whole head cells) = (head.start + cells + 1) % places
low_link (Torn head) = 0
low_link DarkRow = 0

-- "the place of the low link byte that led to the row, or that it is row 0"
unfoldable pub led_to : Chain → (row : ℕ) → Option ℕ
led_to c zero = None
led_to c (suc row) = Some (low_link (row_at c row))

-- "the row that tore"; where none did, the number after the last
abbrev pub is_torn : ARow → Bool
is_torn (Whole head cells) = false
is_torn (Torn head) = true
is_torn DarkRow = false

unfoldable pub row_that_tore : Chain → ℕ
row_that_tore c = first_that (λ row. is_torn (row_at c row)) 0 rows

-- "Explaining row r goes back link by link": where the row starts and its kind, with what led to it; of a dark row, the
-- row that tore
abbrev pub comes_to : Option ℕ → (tore : ℕ) → ARow → Result Reached ℕ
comes_to led tore (Whole head cells) = Ok (record { head = head; led = led })
comes_to led tore (Torn head) = Ok (record { head = head; led = led })
comes_to led tore DarkRow = Err tore

unfoldable pub reached : Chain → (row : ℕ) → Result Reached ℕ
reached c row = comes_to (led_to c row) (row_that_tore c) (row_at c row)

-- "a cell, with the place that holds it and the kind of its row"
abbrev pub cell_of : Head → Option ℕ → (column : ℕ) → Why
cell_of head led column = Cell ((head.start + column) % places) head.kind led

-- "fill, with the place of the FF that ended the row"
abbrev pub fill_of : Head → Option ℕ → (cells : ℕ) → Why
fill_of head led cells = Fill ((head.start + cells) % places) led

-- "Past capacity comes ahead of fill, dark ahead of both." A torn row has its capacity of cells, and no FF
abbrev pub why_in : Chain → Option ℕ → (tore column : ℕ) → ARow → Why
why_in c led tore column (Whole head cells) =
    cond (leb (capacity c.columns head.kind) column) (Past led)
    (cond (ltb column cells) (cell_of head led column) (fill_of head led cells))
why_in c led tore column (Torn head) =
    cond (leb (capacity c.columns head.kind) column) (Past led) (cell_of head led column)
why_in c led tore column DarkRow = Dark tore

unfoldable pub why : Chain → (row column : ℕ) → Why
why c row column = why_in c (led_to c row) (row_that_tore c) column (row_at c row)
