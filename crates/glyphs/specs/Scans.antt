-- Document 01, "Dots", and document 02, ticket 4: scan numbers, their addresses, and the glyph scan that a row shows.
use Rattle.std.specs.Prelude.{ℕ, ◌+◌, ◌-◌, ◌/◌, ◌%◌, ◌≤◌, ◌≡◌, List, [], ◌∷◌, Option, Some, None, if◌then◌else◌, ◌==◌, ◌&&◌, get_or, nat_le}
use Rattle.chain.specs.Chain.{top_half, bottom_half, bits10}

-- "Scan numbers 1 to 10 have addresses F, 0, 1, up to 8 (003)."
abbrev pub first_scan : ℕ
first_scan = 1

abbrev pub last_scan : ℕ
last_scan = 10

-- the scan that has a number, where one has
abbrev pub scan_of : (number : ℕ) → Option ℕ
scan_of number = if nat_le first_scan number && nat_le number last_scan then Some number else None

unfoldable pub scan_addresses : List ℕ
scan_addresses = 0xF ∷ 0x0 ∷ 0x1 ∷ 0x2 ∷ 0x3 ∷ 0x4 ∷ 0x5 ∷ 0x6 ∷ 0x7 ∷ 0x8 ∷ []

-- 02, ticket 4: "each is the scan number plus 14, modulo 16."
abbrev pub scan_address : (scan : ℕ) → ℕ
scan_address scan = (scan + 14) % 16

-- for scans 1 to 10 the formula gives what 01 lists
abbrev pub AsListed : Type 0
AsListed =
    (scan : ℕ) → first_scan ≤ scan → scan ≤ last_scan → scan_address scan ≡ get_or scan_addresses (scan - first_scan) 0

-- "At screen scan s, a top half shows glyph scan s/2 rounded up, a bottom half five more than that."
abbrev pub halved : (scan : ℕ) → ℕ
halved scan = (scan + 1) / 2

abbrev pub glyph_scan : (kind scan : ℕ) → ℕ
glyph_scan kind scan =
    if bits10 kind == top_half then halved scan else if bits10 kind == bottom_half then halved scan + 5 else scan
