-- Document 02, ticket 5: the call that lists the lines of the whole screen.
use Rattle.std.specs.Prelude.{ℕ, List, [], ◌∷◌, Bool, not, ◌&&◌, length, if◌then◌else◌, ◌==◌, nat_lt}
use Rattle.lent.specs.Lengths.{picture_bytes, list_bytes}
use Rattle.lent.specs.Refusals.{accepted, refuses, length_refused, latch_refused, refusal_of}
use Rattle.machine.specs.Settings.{scroll_latch}
use Rattle.machine.specs.declared.Machine.{Machine}
use Rattle.picture.specs.Picture.{record_in}
use Rattle.scan_line.specs.Line.{kind_in}
use Rattle.whole_screen.specs.Screen.{screen_lines}

-- "1: a lent buffer's length differs from the list"
unfoldable pub lengths_list : (picture list : ℕ) → Bool
lengths_list picture list = picture == picture_bytes && list == list_bytes

-- the kinds of a picture's rows, as a scan line takes them from a record: modulo 8
unfoldable pub kinds_in : (picture : List ℕ) → (row : ℕ) → ℕ
kinds_in picture row = kind_in (record_in picture row)

-- "9, a whole screen asked for with L over 9, after 5 and 6", whether a row scrolls or not
abbrev pub latch_most : ℕ
latch_most = 9

-- what the call leaves: its number of refusal and the list
pub record Listed : Type 0 where
  pub refusal : ℕ
  pub list : List ℕ

abbrev pub listed : ℕ → List ℕ → Listed
listed refusal list = record { refusal = refusal; list = list }

-- by what the call is refused
abbrev pub refusal_list : Machine → (picture list : List ℕ) → ℕ
refusal_list m picture list =
    refusal_of
    ((length_refused, not (lengths_list (length picture) (length list)))
    ∷ (latch_refused, nat_lt latch_most (scroll_latch m))
    ∷ [])

abbrev pub list_lines : Machine → (picture list : List ℕ) → Listed
list_lines m picture list =
    let refusal = refusal_list m picture list in
    if refuses refusal
    then listed refusal list
    else listed accepted (screen_lines (kinds_in picture) (scroll_latch m))
