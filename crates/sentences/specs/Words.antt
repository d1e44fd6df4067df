-- The words for what a cell holds and the row that it stands in: a character, an attribute, a kind.
use Rattle.std.specs.Prelude.{ℕ, List, [], ◌∷◌, ◌++◌, Bool, cond, ◌&&◌, eqb, leb}
use Prim.Native.String.{String}
use Rattle.machine.specs.Settings.{bit}
use Rattle.chain.specs.Chain.{bits10, normal, double_width, top_half}
use Rattle.dots.specs.Attributes.{is_reverse, is_bold, blinks, is_underlined}
use Rattle.ascii.specs.Ascii.{ascii}
use Rattle.ascii.specs.Numbers.{decimal}

-- words around a number
abbrev pub around : (before : String) → (number : ℕ) → (after : String) → List ℕ
around before number after = ascii before ++ decimal number ++ ascii after

-- a character: a blank
abbrev pub blank : ℕ
blank = 32

-- one that can be printed, in double quotes
unfoldable pub printable : (byte : ℕ) → Bool
printable byte = leb 33 byte && leb byte 126

abbrev pub quoted : (byte : ℕ) → List ℕ
quoted byte = 0x22 ∷ byte ∷ 0x22 ∷ []

-- any other by its number
unfoldable pub character_words : (byte : ℕ) → List ℕ
character_words byte =
    cond (eqb byte blank) (ascii "a blank")
    (cond (printable byte) (quoted byte) (ascii "character number " ++ decimal byte))

-- words that are said where something holds
unfoldable pub said_if : Bool → List ℕ → List ℕ
said_if holds words = cond holds words []

-- 01: "Attribute: bit 0 set is reverse; bits 1, 2, 3 clear are bold, blink, underline."
unfoldable pub attribute_words : (attribute : ℕ) → List ℕ
attribute_words attribute =
    said_if (is_bold attribute) (ascii ", bold")
    ++ said_if (blinks attribute) (ascii ", blinking")
    ++ said_if (is_underlined attribute) (ascii ", underlined")
    ++ said_if (is_reverse attribute) (ascii ", in reverse")

-- 01: "Bits 1,0 read: 00 bottom half of double height, 01 top half, 10 double width, 11 normal."
unfoldable pub width_words : (kind : ℕ) → List ℕ
width_words kind =
    cond (eqb (bits10 kind) normal) (ascii "a row of normal width")
    (cond (eqb (bits10 kind) double_width) (ascii "a row of double width")
    (cond (eqb (bits10 kind) top_half) (ascii "the top half of a row of double height")
    (ascii "the bottom half of a row of double height")))

-- 01: "bit 2 scrolling"
unfoldable pub kind_words : (kind : ℕ) → List ℕ
kind_words kind = width_words kind ++ said_if (eqb (bit 2 kind) 1) (ascii " that scrolls")

-- the bytes of each at its longest, where a number has five digits
abbrev pub character_most : ℕ
character_most = 22

abbrev pub attribute_most : ℕ
attribute_most = 40

abbrev pub width_most : ℕ
width_most = 41

abbrev pub kind_most : ℕ
kind_most = 54
