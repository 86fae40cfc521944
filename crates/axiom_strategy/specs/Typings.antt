-- Types that entries give to terms or deny them, by number.
use Rattle.std.specs.Prelude.{◌≡◌, ℕ, ◌<◌, List, slice_get, Option, Some, None}
use Rattle.base.specs.TypeData.{TypeData}
use Rattle.fol.specs.FormulaData.{TermData, FormulaData, IsFormula, NotFormula}
use Rattle.term_pool.specs.declared.node.Two.TheVariants.{Is}
use Rattle.term_pool.specs.declared.node.Node.{Node}
use Rattle.term_pool.specs.declared.node.Node.TheVariants.{Two as TwoNode}
use Rattle.certificates.specs.BranchesBranch.{Branch, Says}
use Rattle.axiom_instances.specs.Numbers.{IsTermNumber, IsTypeNumber, term_at, type_at}
use Rattle.axiom_strategy.specs.declared.typings.Typing.{Typing}

-- the formula gives the type to the term or denies it
pub data IsTyping : FormulaData → TypeData → TermData → Type 0 where
  Gives : (a : TypeData) (t : TermData) → IsTyping (IsFormula a t) a t
  Denies : (a : TypeData) (t : TermData) → IsTyping (NotFormula (IsFormula a t)) a t

-- the formula does not give a type to a term; it gives one, by these numbers
pub record IsNoGiving (p : FormulaData) : Type 0 where
  pub none : (a : TypeData) (t : TermData) → p ≡ IsFormula a t → ⊥

pub record IsGivingOf (ns : List Node) (p : FormulaData) (typing : Typing) : Type 0 where
  pub of : IsTypeNumber ns typing.of
  pub term : IsTermNumber ns typing.term
  pub is : p ≡ IsFormula (type_at ns typing.of) (term_at ns typing.term)

abbrev pub given_of : Node → Option Typing
given_of (TwoNode Is a b) = Some (record { of = a; term = b })
given_of _ = None

pub record IsUntyped (p : FormulaData) : Type 0 where
  pub none : (a : TypeData) (t : TermData) → IsTyping p a t → ⊥

-- the numbers are those of the type and the term
pub record IsTypingOf (ns : List Node) (p : FormulaData) (typing : Typing) : Type 0 where
  pub of : IsTypeNumber ns typing.of
  pub term : IsTermNumber ns typing.term
  pub is : IsTyping p (type_at ns typing.of) (term_at ns typing.term)

-- ---- entries

-- the entry with this number neither gives a type to a term nor denies one
pub record IsUntypedEntry (b : Branch) (i : ℕ) : Type 0 where
  pub none : (p : FormulaData) → Says b i p → IsUntyped p

-- the entry gives this type to this term or denies it
pub record IsTypingEntry (ns : List Node) (b : Branch) (i : ℕ) (typing : Typing) : Type 0 where
  pub formula : FormulaData
  pub says : Says b i formula
  pub is : IsTypingOf ns formula typing

-- some entry gives this type to this term or denies it
pub record IsGivenOrDenied (ns : List Node) (b : Branch) (typing : Typing) : Type 0 where
  pub position : ℕ
  pub entry : IsTypingEntry ns b position typing

-- some number of a list is that of the type and the term
pub record IsListedTyping (ns : List Node) (typings : List Typing) (a : TypeData) (t : TermData) : Type 0 where
  pub position : ℕ
  pub typing : Typing
  pub found : slice_get typings position ≡ Some typing
  pub type_is : type_at ns typing.of ≡ a
  pub term_is : term_at ns typing.term ≡ t

-- exactly those given or denied by the first entries
pub record AreTypings (ns : List Node) (b : Branch) (count : ℕ) (typings : List Typing) : Type 0 where
  pub each : (k : ℕ) (typing : Typing) → slice_get typings k ≡ Some typing → IsGivenOrDenied ns b typing
  pub all : (i : ℕ) (p : FormulaData) (a : TypeData) (t : TermData) → i < count → Says b i p → IsTyping p a t → IsListedTyping ns typings a t
