-- Blanks and comments, which separate tokens. Source: the lexer of Move's compiler. Block comments nest.
use Rattle.std.specs.Prelude.{◌≡◌, ℕ, IsTrue, not, ◌==◌, ◌⊎◌, List, [], ◌∷◌, ◌++◌, codes}
use Rattle.std.specs.List.{list_all}
use Rattle.tokens.specs.Characters.{is_blank}

abbrev pub IsBlank : List ℕ → Type 0
IsBlank [] = ⊥
IsBlank (b ∷ []) = IsTrue (is_blank b)
IsBlank (b ∷ c ∷ rest) = ⊥

-- the text ends, or its line ends
abbrev pub IsAtLineEnd : List ℕ → Type 0
IsAtLineEnd [] = Unit {0}
IsAtLineEnd (b ∷ rest) = b ≡ 10

-- from `//` to before the next LF or the end
pub record IsLineComment (text after : List ℕ) : Type 0 where
  pub body : List ℕ
  pub spelled : text ≡ codes "//" ++ body
  pub one_line : IsTrue (list_all (λ b. not (b == 10)) body)
  pub ended : IsAtLineEnd after

-- the content of a block comment: bytes and block comments, in any order
pub data Inside : Type 0 where
  nothing : Inside
  byte : ℕ → Inside → Inside
  comment : Inside → Inside → Inside

abbrev pub inside_text : Inside → List ℕ
inside_text nothing = []
inside_text (byte b rest) = b ∷ inside_text rest
inside_text (comment inner rest) = codes "/*" ++ (inside_text inner ++ (codes "*/" ++ inside_text rest))

-- neither `/*` nor `*/` begins the text
abbrev pub NoMark : List ℕ → Type 0
NoMark text = ((rest : List ℕ) → text ≡ codes "/*" ++ rest → ⊥) × ((rest : List ℕ) → text ≡ codes "*/" ++ rest → ⊥)

-- neither `/*` nor `*/` begins at a single byte of the content
abbrev pub IsInside : Inside → Type 0
IsInside nothing = Unit {0}
IsInside (byte b rest) = NoMark (b ∷ (inside_text rest ++ codes "*/")) × IsInside rest
IsInside (comment inner rest) = IsInside inner × IsInside rest

-- from `/*` to its own `*/`
pub record IsBlockComment (text : List ℕ) : Type 0 where
  pub inside : Inside
  pub spelled : text ≡ codes "/*" ++ (inside_text inside ++ codes "*/")
  pub marked : IsInside inside

-- a blank, or a comment, which `after` follows
abbrev pub IsSpace : List ℕ → List ℕ → Type 0
IsSpace text after = IsBlank text ⊎ IsLineComment text after ⊎ IsBlockComment text
