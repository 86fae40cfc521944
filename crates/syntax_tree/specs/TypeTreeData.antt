-- Types in source text, as pure data that contracts see. Source: The Move Book, "Primitive Types", "References",
-- "Tuples and Unit" and "Generics".
use Rattle.std.specs.Prelude.{◌≡◌, ℕ, ◌+◌, Bool, List, [], ◌∷◌, refl, Option, Some, None}
use Rattle.std.proofs.Common.{ap, sym, ◌∙◌}
use Rattle.syntax_tree.specs.declared.path.Path.{Path}
use Rattle.base.specs.declared.span.Span.{Span}

mutual
  pub data SourceTypeData : Type 0 where
    SharedSourceType : Span → SourceTypeData → SourceTypeData
    MutableSourceType : Span → SourceTypeData → SourceTypeData
    NamedSourceType : Path → MaybeArgumentsData → SourceTypeData
    TupleSourceType : Span → SourceTypesData → Bool → SourceTypeData

  -- type arguments, and whether a comma follows the last
  pub data ArgumentsData : Type 0 where
    Arguments : SourceTypesData → Bool → ArgumentsData

  pub data MaybeArgumentsData : Type 0 where
    NoArguments : MaybeArgumentsData
    SomeArguments : ArgumentsData → MaybeArgumentsData

  pub data SourceTypesData : Type 0 where
    NoSourceTypes : SourceTypesData
    MoreSourceTypes : SourceTypeData → SourceTypesData → SourceTypesData

abbrev pub maybe_arguments_of : Option ArgumentsData → MaybeArgumentsData
maybe_arguments_of None = NoArguments
maybe_arguments_of (Some x) = SomeArguments x

-- the list as one of this family, and back
abbrev pub source_types_of : List SourceTypeData → SourceTypesData
source_types_of [] = NoSourceTypes
source_types_of (x ∷ xs) = MoreSourceTypes x (source_types_of xs)

abbrev pub list_of_source_types : SourceTypesData → List SourceTypeData
list_of_source_types NoSourceTypes = []
list_of_source_types (MoreSourceTypes x xs) = x ∷ list_of_source_types xs

pub list_of_source_types-source_types_of : (xs : List SourceTypeData) → list_of_source_types (source_types_of xs) ≡ xs
list_of_source_types-source_types_of [] = refl
list_of_source_types-source_types_of (x ∷ xs) = ap (λ ys. x ∷ ys) (list_of_source_types-source_types_of xs)

pub source_types_of_injective : (xs ys : List SourceTypeData) → source_types_of xs ≡ source_types_of ys → xs ≡ ys
source_types_of_injective xs ys e = sym (list_of_source_types-source_types_of xs) ∙ ap list_of_source_types e ∙ list_of_source_types-source_types_of ys

-- the number of nodes, each cell of a list as one more
abbrev mutual
  pub source_type_size : SourceTypeData → ℕ
  source_type_size (SharedSourceType a b) = 1 + source_type_size b
  source_type_size (MutableSourceType a b) = 1 + source_type_size b
  source_type_size (NamedSourceType a b) = 1 + maybe_arguments_size b
  source_type_size (TupleSourceType a b c) = 1 + source_types_size b

  pub arguments_size : ArgumentsData → ℕ
  arguments_size (Arguments a b) = 1 + source_types_size a

  pub maybe_arguments_size : MaybeArgumentsData → ℕ
  maybe_arguments_size NoArguments = 1
  maybe_arguments_size (SomeArguments a) = 1 + arguments_size a

  pub source_types_size : SourceTypesData → ℕ
  source_types_size NoSourceTypes = 1
  source_types_size (MoreSourceTypes a b) = 1 + (source_type_size a + source_types_size b)
