-- Triggers of axiom instances, by number, and where they occur on a branch.
use Rattle.std.specs.Prelude.{ℕ, ◌<◌, List, ◌++◌, length, map, slice_index_or}
use Rattle.fol.specs.declared.shapes.Shape.{Shape}
use Rattle.axioms.specs.Forms.{DifferFormula}
use Rattle.term_pool.specs.declared.node.Node.{Node}
use Rattle.certificates.specs.BranchesBranch.{Branch, Stands, IsTyped, IsTerm}
use Rattle.certificates.specs.Joined.{IsItemRead}
use Rattle.certificates.specs.Table.{HasTyped}
use Rattle.axiom_instances.specs.Asks.{AlwaysTriggered, AsksOfTerm, AsksOfType, AsksOfTypeAlone, AsksOfTypeBeside, AsksOfRead, AsksOfItem}
use Rattle.axiom_instances.specs.Present.{IsReadAt}
use Rattle.axiom_instances.specs.Numbers.{IsTermNumber, IsTypeNumber, term_at, type_at}
use Rattle.axiom_instances.specs.VectorRows.{AsksOfPair}
use Rattle.axiom_strategy.specs.declared.askers.Asker.{Asker}
use Rattle.axiom_strategy.specs.declared.askers.Asker.TheVariants.{Always, Term, Typing, TypeAlone, Beside, Read, Item, Vectors}
use Rattle.axiom_strategy.specs.declared.typings.Typing.{Typing as TypingPair}
use Rattle.axiom_strategy.specs.Due.{Asking}

-- ---- the numbers

pub record AreTypeAndTerm (ns : List Node) (a t : ℕ) : Type 0 where
  pub of : IsTypeNumber ns a
  pub term : IsTermNumber ns t

pub record AreTwoTerms (ns : List Node) (t u : ℕ) : Type 0 where
  pub first : IsTermNumber ns t
  pub second : IsTermNumber ns u

pub record AreTypeAndTerms (ns : List Node) (a t u : ℕ) : Type 0 where
  pub of : IsTypeNumber ns a
  pub first : IsTermNumber ns t
  pub second : IsTermNumber ns u

-- the numbers are those of types and terms
abbrev pub IsAsker : List Node → Asker → Type 0
IsAsker ns Always = Unit {0}
IsAsker ns (Term t) = IsTermNumber ns t
IsAsker ns (Typing a t) = AreTypeAndTerm ns a t
IsAsker ns (TypeAlone a) = IsTypeNumber ns a
IsAsker ns (Beside a t) = AreTypeAndTerm ns a t
IsAsker ns (Read t k) = AreTwoTerms ns t k
IsAsker ns (Item a v i) = AreTypeAndTerms ns a v i
IsAsker ns (Vectors a v u) = AreTypeAndTerms ns a v u

pub record AreAskers (ns : List Node) (askers : List Asker) : Type 0 where
  pub each : (k : ℕ) → k < length askers → IsAsker ns (slice_index_or askers k Always)

-- ---- the instances of a trigger

abbrev pub asks_of : List Shape → List Node → Asker → Asking
asks_of shapes ns Always = AlwaysTriggered
asks_of shapes ns (Term t) = AsksOfTerm shapes (term_at ns t)
asks_of shapes ns (Typing a t) = AsksOfType shapes (type_at ns a) (term_at ns t)
asks_of shapes ns (TypeAlone a) = AsksOfTypeAlone (type_at ns a)
asks_of shapes ns (Beside a t) = AsksOfTypeBeside (type_at ns a) (term_at ns t)
asks_of shapes ns (Read t k) = AsksOfRead (term_at ns t) (term_at ns k)
asks_of shapes ns (Item a v i) = AsksOfItem (type_at ns a) (term_at ns v) (term_at ns i)
asks_of shapes ns (Vectors a v u) = AsksOfPair (type_at ns a) (term_at ns v) (term_at ns u)

-- the instances of the trigger with this index
abbrev pub asks_at : List Shape → List Node → List Asker → ℕ → Asking
asks_at shapes ns askers k = asks_of shapes ns (slice_index_or askers k Always)

-- ---- triggers on a branch

abbrev pub IsPresent : List Node → Branch → Asker → Type 0
IsPresent ns b Always = Unit {0}
IsPresent ns b (Term t) = IsTerm b (term_at ns t)
IsPresent ns b (Typing a t) = IsTyped b (type_at ns a) (term_at ns t)
IsPresent ns b (TypeAlone a) = HasTyped b (type_at ns a)
IsPresent ns b (Beside a t) = HasTyped b (type_at ns a) × IsTerm b (term_at ns t)
IsPresent ns b (Read t k) = IsTerm b (term_at ns t) × IsTerm b (term_at ns k) × IsReadAt b (term_at ns t) (term_at ns k)
IsPresent ns b (Item a v i) =
    IsTyped b (type_at ns a) (term_at ns v) × IsTerm b (term_at ns i) × IsItemRead b (term_at ns v) (term_at ns i)
IsPresent ns b (Vectors a v u) =
    Stands b (DifferFormula (term_at ns v) (term_at ns u)) × IsTyped b (type_at ns a) (term_at ns v) × IsTyped b (type_at ns a) (term_at ns u)

-- ---- triggers of the range axioms

abbrev pub term_asker : ℕ → Asker
term_asker t = Term t

abbrev pub typing_asker : TypingPair → Asker
typing_asker x = Typing x.of x.term

abbrev pub range_askers : List ℕ → List TypingPair → List Asker
range_askers terms typings = map term_asker terms ++ map typing_asker typings
