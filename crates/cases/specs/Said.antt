-- The words in which document 01, and 02 after it, give the outcome of a worked case.
use Rattle.std.specs.Prelude.{ℕ, ◌+◌, List, [], ◌∷◌, Bool, cond, eqb}

pub data Said : Type 0 where
  Private : (place : ℕ) → Said
  Shared : (place : ℕ) → Said
  Screen : (place : ℕ) → Said
  Attribute : (place : ℕ) → Said
  Byte : ℕ → Said
  Refused : (number : ℕ) → Said
  Interlaced : Bool → Said
  Recalls : ℕ → Said
  Watch : (enabled : Bool) → (count : ℕ) → (reset : Bool) → Said
  Row : (row start kind count : ℕ) → Said
  Start : ℕ → Said
  Count : ℕ → Said
  Reads : ℕ → Said
  Names : (wild : Bool) → (row : ℕ) → Said
  Marked : (row : ℕ) → Said
  Line : (line row scan : ℕ) → Said
  Kind : ℕ → Said
  Dots : (lit : List ℕ) → Said
  Addresses : List ℕ → Said
  GlyphScan : ℕ → Said
  Prints : (text : List ℕ) → Said
  Cell : (place kind : ℕ) → Said
  Fill : (place : ℕ) → Said
  Past : Said
  Dark : (tore : ℕ) → Said
  Link : (place : ℕ) → Said
  IsRow0 : Said

-- a case: what the definitions give, and what the document says
pub record Case : Type 0 where
  pub gives : List Said
  pub says : List Said

-- the places, counted from `place`, at which two memories of one length differ
unfoldable pub differ : ℕ → List ℕ → List ℕ → List ℕ
differ place [] [] = []
differ place [] (b ∷ new) = []
differ place (a ∷ before) [] = []
differ place (a ∷ before) (b ∷ new) = let later = differ (place + 1) before new in cond (eqb a b) later (place ∷ later)
