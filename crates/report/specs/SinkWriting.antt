-- The bytes that a sink took of a text.
use Rattle.std.specs.Prelude.{◌≡◌, ℕ, List, ◌++◌, Option}
use Rattle.std.specs.Io.KnownBytes.{append_known}

-- The sink took exactly the front of the text: if it makes its bytes known, they grew by just that.
pub record TakesFront (old new : Option (List ℕ)) (text rest : List ℕ) : Type 0 where
  pub front : List ℕ
  pub parts : text ≡ front ++ rest
  pub grown : new ≡ append_known old front

-- The sink took some bytes at the front of the text.
pub record TakesPrefix (old new : Option (List ℕ)) (text : List ℕ) : Type 0 where
  pub rest : List ℕ
  pub taken : TakesFront old new text rest
