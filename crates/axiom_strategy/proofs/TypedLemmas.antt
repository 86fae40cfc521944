-- The types that entries give to terms or deny them, by number.
use Rattle.std.proofs.Common.{◌≡◌, ℕ, List, length, refl, sym, ap, ◌∙◌, subst}
use Rattle.std.specs.Prelude.{slice_index_or, Contains}
use Rattle.std.proofs.lemmas.Option.{slice_get_within, slice_get-get_or, get_or_from_slice_get}
use Rattle.base.specs.TypeData.{TypeData}
use Rattle.fol.specs.FormulaData.{TermData, FormulaData, IsFormula, NotFormula}
use Rattle.term_pool.specs.Items.{TermItem, TypeItem}
use Rattle.term_pool.specs.Pools.{IsOneNumber}
use Rattle.term_pool.specs.declared.node.Node.{Node}
use Rattle.certificates.specs.BranchesParts.{IsInFormula, Itself, InTyped, InDenied}
use Rattle.certificates.specs.BranchesBranch.{Branch, IsTyped, Said, Denied, IsTerm}
use Rattle.tableau.specs.PoolBranches.{BranchData, branch_in}
use Rattle.tableau.proofs.EntryLemmas.{says_within}
use Rattle.tableau.specs.Terms.{IsBranchTerm}
use Rattle.axiom_instances.specs.Numbers.{IsTermNumber, IsTypeNumber, term_at, type_at}
use Rattle.axiom_strategy.specs.declared.typings.Typing.{Typing}
use Rattle.axiom_strategy.specs.Typings.{Gives, Denies, IsGivenOrDenied, IsListedTyping, AreTypings}
use Rattle.axiom_strategy.proofs.DueLemmas.{term_number}
use Rattle.axiom_strategy.proofs.RangeLemmas.{typed_by}

-- ---- one number

pub same_number : (ns : List Node) → IsOneNumber ns → (i j : ℕ) → IsTermNumber ns i → IsTermNumber ns j → term_at ns i ≡ term_at ns j → i ≡ j
same_number ns one i j s t e = one.one i j s.within t.within (s.is ∙ ap TermItem e ∙ sym t.is)

pub same_type : (ns : List Node) → IsOneNumber ns → (i j : ℕ) → IsTypeNumber ns i → IsTypeNumber ns j → type_at ns i ≡ type_at ns j → i ≡ j
same_type ns one i j s t e = one.one i j s.within t.within (s.is ∙ ap TypeItem e ∙ sym t.is)

-- ---- types of terms

-- the numbers are those of a type and of a term that an entry gives it or denies it
pub record IsTypedNumber (ns : List Node) (b : Branch) (a t : ℕ) : Type 0 where
  pub of : IsTypeNumber ns a
  pub term : IsTermNumber ns t
  pub typed : IsTyped b (type_at ns a) (term_at ns t)

typed_stands : {b : Branch} {a : TypeData} {t : TermData} → IsTyped b a t → IsTerm b t
typed_stands {b} {a} {t} (Said s) = record {
  generation = s.says.entry.generation;
  holds = record {
    position = s.position;
    entry = s.says.entry;
    found = s.says.found;
    inside = subst (λ (p : FormulaData). IsInFormula t p) (sym s.says.is) (InTyped a t Itself);
    same = refl;
  };
}
typed_stands {b} {a} {t} (Denied s) = record {
  generation = s.says.entry.generation;
  holds = record {
    position = s.position;
    entry = s.says.entry;
    found = s.says.found;
    inside = subst (λ (p : FormulaData). IsInFormula t p) (sym s.says.is) (InDenied (IsFormula a t) (InTyped a t Itself));
    same = refl;
  };
}

pub typed_term : {ns : List Node} {b : Branch} {a t : ℕ} → IsTypedNumber ns b a t → IsBranchTerm ns b t
typed_term h = record { number = term_number h.term; stands = typed_stands h.typed }

module _ (ns : List Node) (d : BranchData) (typings : List Typing) (typed : AreTypings ns (branch_in ns d) (length d.entries) typings) where
  abbrev b : Branch
  b = branch_in ns d

  pub listed_typing : {a : TypeData} {t : TermData} → IsTyped b a t → IsListedTyping ns typings a t
  listed_typing {a} {t} (Said s) = typed.all s.position (IsFormula a t) a t (says_within ns d s.position (IsFormula a t) s.says) s.says (Gives a t)
  listed_typing {a} {t} (Denied s) = typed.all s.position (NotFormula (IsFormula a t)) a t (says_within ns d s.position (NotFormula (IsFormula a t)) s.says) s.says (Denies a t)

  pub among : {a : TypeData} {t : TermData} (l : IsListedTyping ns typings a t) → Contains typings l.typing
  among l = (l.position, slice_get_within typings l.position l.typing l.found, get_or_from_slice_get typings l.position l.typing l.typing l.found)

  pub given_at : (x : Typing) → Contains typings x → IsGivenOrDenied ns b x
  given_at x (k, w, e) = subst (IsGivenOrDenied ns b) e (typed.each k (slice_index_or typings k x) (slice_get-get_or typings k x w))

  pub typed_number : (x : Typing) → Contains typings x → IsTypedNumber ns b x.of x.term
  typed_number x m = let g = given_at x m in record { of = g.entry.is.of; term = g.entry.is.term; typed = typed_by ns b x g }
