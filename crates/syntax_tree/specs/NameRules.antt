-- The words that are names, and the first letters of names of each kind. Source: The Move Book, "Structs and
-- Resources", "Constants" and "Variables", on naming.
use Rattle.std.specs.Prelude.{◌≢◌, ℕ, ◌≤◌, ◌⊎◌, ◌≡◌, List, [], ◌∷◌, codes}
use Rattle.std.specs.List.{AllByRecursion}

abbrev pub keywords : List (List ℕ)
keywords =
    codes "abort" ∷ codes "acquires" ∷ codes "as" ∷ codes "break" ∷ codes "const" ∷ codes "continue" ∷ codes "copy" ∷ codes "else"
    ∷ codes "false" ∷ codes "friend" ∷ codes "fun" ∷ codes "has" ∷ codes "if" ∷ codes "let" ∷ codes "loop" ∷ codes "module" ∷ codes "move"
    ∷ codes "mut" ∷ codes "native" ∷ codes "phantom" ∷ codes "public" ∷ codes "return" ∷ codes "spec" ∷ codes "struct" ∷ codes "true"
    ∷ codes "use" ∷ codes "while" ∷ []

-- a word that is not a keyword
abbrev pub IsName : List ℕ → Type 0
IsName word = AllByRecursion (λ keyword. word ≢ keyword) keywords

-- the names of structs, constants and schemas begin with A to Z
abbrev pub IsCapital : List ℕ → Type 0
IsCapital [] = ⊥
IsCapital (b ∷ rest) = (65 ≤ b) × (b ≤ 90)

-- the names of locals and parameters begin with a to z or `_`
abbrev pub IsSmall : List ℕ → Type 0
IsSmall [] = ⊥
IsSmall (b ∷ rest) = ((97 ≤ b) × (b ≤ 122)) ⊎ (b ≡ 95)
