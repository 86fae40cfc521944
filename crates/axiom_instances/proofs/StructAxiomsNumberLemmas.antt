-- Numbers of types, and of field updates, in a pool that is extended.
use Rattle.std.proofs.Common.{◌≡◌, ℕ, List, refl, sym, ap, ◌∙◌, subst}
use Rattle.base.specs.TypeData.{TypeData}
use Rattle.fol.specs.FormulaData.{TermData, SetFieldTerm}
use Rattle.term_pool.specs.Items.{TermItem, TypeItem, term_in, type_in}
use Rattle.term_pool.specs.Pools.{IsItem, Extends}
use Rattle.term_pool.specs.declared.node.Node.{Node}
use Rattle.term_pool.proofs.GrowthLemmas.{item_stays}
use Rattle.axiom_instances.specs.declared.reading.TermForm.{TermForm}
use Rattle.axiom_instances.specs.declared.reading.TermForm.TheVariants.{Constant, Unary, Binary, Ternary, If, Pack, SetField, Other}
use Rattle.axiom_instances.specs.Numbers.{IsTypeNumber, IsSetField, HasForm, IsOtherTerm, IsVariable, IsField, IsNone, term_at, type_at}
use Rattle.axiom_instances.specs.Rows.{IsPlain}
use Rattle.axiom_instances.proofs.NumberLemmas.{term_kept, number_stays}

pub type_is : {ns : List Node} {i : ℕ} {a : TypeData} → IsItem ns i (TypeItem a) → type_at ns i ≡ a
type_is h = ap type_in h.is

pub type_number : {ns : List Node} {i : ℕ} {a : TypeData} → IsItem ns i (TypeItem a) → IsTypeNumber ns i
type_number h = record { within = h.within; is = h.is ∙ ap TypeItem (sym (type_is h)) }

pub type_stays : {ns ms : List Node} {i : ℕ} → Extends ns ms → IsTypeNumber ns i → IsTypeNumber ms i
type_stays e h = type_number (item_stays e h)

pub type_kept : {ns ms : List Node} {i : ℕ} → Extends ns ms → IsTypeNumber ns i → type_at ms i ≡ type_at ns i
type_kept e h = type_is (item_stays e h)

pub set_field_stays : {ns ms : List Node} {k n s a b : ℕ} → Extends ns ms → IsSetField ns k n s a b → IsSetField ms k n s a b
set_field_stays {k = k} e h =
    let whole = item_stays e h.whole in
    record {
      whole = record {
        within = whole.within;
        is = whole.is ∙ (λ i. TermItem (SetFieldTerm (sym (type_kept e h.of) i) k (sym (term_kept e h.first) i) (sym (term_kept e h.second) i)));
      };
      of = type_stays e h.of;
      first = number_stays e h.first;
      second = number_stays e h.second;
    }

-- ---- terms that are neither packs nor field updates

other_plain : {t : TermData} → IsOtherTerm t → IsPlain t
other_plain (IsVariable k) = tt
other_plain (IsField s k t) = tt
other_plain IsNone = tt

pub plain_form : (ns : List Node) (n : ℕ) (f : TermForm) → HasForm ns n f → ((x y : ℕ) → f ≡ Pack x y → ⊥) → ((k x y z : ℕ) → f ≡ SetField k x y z → ⊥) → IsPlain (term_at ns n)
plain_form ns n (Constant c) h d e = subst IsPlain (sym (ap term_in h.is)) tt
plain_form ns n (Unary o a) h d e = subst IsPlain (sym (ap term_in h.whole.is)) tt
plain_form ns n (Binary o a b) h d e = subst IsPlain (sym (ap term_in h.whole.is)) tt
plain_form ns n (Ternary o a b c) h d e = subst IsPlain (sym (ap term_in h.whole.is)) tt
plain_form ns n (If p a b) h d e = subst IsPlain (sym (ap term_in h.whole.is)) tt
plain_form ns n (Pack s us) h d e = absurd (d s us refl)
plain_form ns n (SetField k s a b) h d e = absurd (e k s a b refl)
plain_form ns n Other h d e = other_plain h.other
