-- Number literals that are no values of their types.
use Rattle.std.proofs.Common.{◌≡◌, ℕ, zero, suc, ◌+◌, ◌-◌, ◌<◌, ◌≤◌, min, Bool, true, false, not, List, [], ◌∷◌, length, Some, None, inl, inr, below_more, refl, sym, ap, subst, ◌∙◌, arith}
use Rattle.std.specs.Prelude.{slice_get}
use Rattle.std.specs.Bool.{Decides}
use Rattle.std.proofs.lemmas.Bool.{false≢true, cases_lt}
use Rattle.base.specs.TypeData.{TypeData, BoolType, IntType, NumType, AddressType, SignerType, VectorType, StructType, ParamType, SharedType, MutableType, TupleType}
use Rattle.base.specs.declared.types.Width.{Width}
use Rattle.program.specs.declared.arena.Node.TheVariants.{Leaf}
use Rattle.program.specs.declared.code.CodeLeaf.TheVariants.{Number}
use Rattle.program.specs.declared.code.Number.{Number as NumberData}
use Rattle.program.specs.CodeNodes.{CodeNode}
use Rattle.typing_rules.specs.Sorts.{is_integer}
use Rattle.typing_rules.specs.Constraint.{Typing}
use Rattle.typing_rules.specs.Answers.{System, IsDefaulted}
use Rattle.typing_rules.specs.Fitting.{Misfits, number_fits}
use Rattle.unification.specs.Ranked.{rank_at}
use Rattle.unification.specs.Ranks.{refill_by}
use Rattle.unification.specs.Choices.{IsSound, HasDefaults, WidthSays}
use Rattle.unification.specs.declared.solution.choice.Defaulted.{Defaulted}
use Rattle.unification.proofs.Refilling.{plain, plain_typing}
use Rattle.body_types.specs.Fitting.{IsNoNumber, IsNumber, NumberMisfits, MisfitAt}
use Rattle.body_types.specs.Judged.{ReadsSteps, ReadsNodes}

-- ---- one number

-- there is a typing with default integer types
pub some_typing : (s : System) (d : Defaulted) → IsSound d → HasDefaults s d → (t : Typing) × IsDefaulted s t
some_typing s d sound has =
    let r : ℕ → ℕ = rank_at d.ranking.ranks.items in
    (refill_by d.slots.items (λ a. plain) r, has.knows.from _ (plain_typing d.slots.items r sound.ranking.is_rank))

others_fit : (value : ℕ) (of : TypeData) → is_integer of ≡ false → number_fits value of ≡ true
others_fit value BoolType e = refl
others_fit value (IntType w) e = absurd (false≢true (sym e))
others_fit value NumType e = refl
others_fit value AddressType e = refl
others_fit value SignerType e = refl
others_fit value (VectorType t) e = refl
others_fit value (StructType s ts) e = refl
others_fit value (ParamType n) e = refl
others_fit value (SharedType t) e = refl
others_fit value (MutableType t) e = refl
others_fit value (TupleType ts) e = refl

both_answers : (b : Bool) → b ≡ true → b ≡ false → ⊥
both_answers b t f = false≢true (sym f ∙ t)

pub fits_none : (s : System) (d : Defaulted) (p value : ℕ) → WidthSays d p None → HasDefaults s d → p < s.variables → Decides false (NumberMisfits s p value)
fits_none s d p value says has lt =
    let found = says s has lt in (
      λ e. absurd (false≢true e),
      λ h. absurd (both_answers (number_fits value (found.0 p)) (others_fit value (found.0 p) found.1.1) (h.each found.0 found.1.0)),
    )

not_true : (b : Bool) → not b ≡ true → b ≡ false
not_true true e = absurd (false≢true e)
not_true false e = refl

false_not : (b : Bool) → b ≡ false → not b ≡ true
false_not b e = ap not e

pub fits_width : (s : System) (d : Defaulted) (p value : ℕ) (w : Width) (fits : Bool) → IsSound d → WidthSays d p (Some w) → fits ≡ number_fits value (IntType w) → HasDefaults s d → p < s.variables →
    Decides (not fits) (NumberMisfits s p value)
fits_width s d p value w fits sound says is has lt =
    let known = says s has lt in (
      λ e. record { each = λ t h. ap (number_fits value) (known t h) ∙ sym is ∙ not_true fits e },
      λ h. let some = some_typing s d sound has in
          false_not fits (is ∙ sym (ap (number_fits value) (known some.0 some.1)) ∙ h.each some.0 some.1),
    )

-- ---- one node

pub no_number : (s : System) (nodes : List CodeNode) (p : ℕ) (node : CodeNode) → slice_get nodes p ≡ Some node → IsNoNumber node → Decides false (MisfitAt s nodes p)
no_number s nodes p node is none = (
  λ e. absurd (false≢true e),
  λ m. absurd (none m.number (let e : Some node ≡ Some (Leaf (Number m.number)) = sym is ∙ m.stands in cc)),
)

same_value : (x y : NumberData) (node : CodeNode) → node ≡ Leaf (Number x) → Some node ≡ Some (Leaf (Number y)) → x ≡ y
same_value x y node e f = cc

pub number_at : (s : System) (nodes : List CodeNode) (p value : ℕ) (node : CodeNode) (found : Bool) → slice_get nodes p ≡ Some node → IsNumber node value → Decides found (NumberMisfits s p value) →
    Decides found (MisfitAt s nodes p)
number_at s nodes p value node found is number decides = (
  λ e. record {
    number = number.number;
    stands = is ∙ ap (λ (x : CodeNode). Some x) number.is;
    misfits = subst (λ (v : ℕ). NumberMisfits s p v) (sym number.value_is) (decides.0 e);
  },
  λ m. decides.1 (subst (λ (v : ℕ). NumberMisfits s p v)
      (sym (ap (λ (x : NumberData). x.value) (same_value number.number m.number node number.is (sym is ∙ m.stands))) ∙ number.value_is) m.misfits),
)

-- ---- nodes

pub some_misfit : (s : System) (nodes : List CodeNode) (read p : ℕ) (found : Bool) → found ≡ true → p < read → ReadsNodes s nodes read → Decides found (MisfitAt s nodes p) → Decides true (Misfits s nodes)
some_misfit s nodes read p found e lt reads decides =
    let m = decides.0 e in
    (λ q. record { variable = p; number = m.number; stands = m.stands; is_read = reads.done p lt; misfits = m.misfits.each }, λ q. refl)

pub none_more : (s : System) (nodes : List CodeNode) (i : ℕ) (found : Bool) → found ≡ false → Decides found (MisfitAt s nodes i) → ((k : ℕ) → k < i → MisfitAt s nodes k → ⊥) → (k : ℕ) → k < i + 1 → MisfitAt s nodes k → ⊥
none_more s nodes i found e decides before = below_more (λ k. MisfitAt s nodes k → ⊥) i before (λ m. both_answers found (decides.1 m) e)

pub stands_within : (nodes : List CodeNode) (p : ℕ) (node : CodeNode) → slice_get nodes p ≡ Some node → p < length nodes
stands_within [] p node is = cc
stands_within (x ∷ nodes) zero node is = omega arith
stands_within (x ∷ nodes) (suc p) node is = let lt = stands_within nodes p node is in omega (arith, lt)

misfit_nowhere : (s : System) (nodes : List CodeNode) (read i : ℕ) → read ≤ i → ReadsNodes s nodes read → ((k : ℕ) → k < i → MisfitAt s nodes k → ⊥) → Misfits s nodes → ⊥
misfit_nowhere s nodes read i le reads none m = elim (cases_lt m.variable read) [
  | inl less ↦ none m.variable (omega (arith, less, le)) (record { number = m.number; stands = m.stands; misfits = record { each = m.misfits } })
  | inr more ↦ reads.left m.variable more (stands_within nodes m.variable (Leaf (Number m.number)) m.stands) m.is_read
]

pub no_misfit : (s : System) (nodes : List CodeNode) (read i : ℕ) → read ≤ i → ReadsNodes s nodes read → ((k : ℕ) → k < i → MisfitAt s nodes k → ⊥) → Decides false (Misfits s nodes)
no_misfit s nodes read i le reads none = (
  λ e. absurd (false≢true e),
  λ m. absurd (misfit_nowhere s nodes read i le reads none m),
)

-- ---- the nodes that are read

pub nodes_of_steps : (s : System) (nodes : List CodeNode) (steps read : ℕ) → read ≡ min (steps - 1) (length nodes) → ReadsSteps s steps → ReadsNodes s nodes read
nodes_of_steps s nodes steps read e reads = record {
  within = omega (arith, e);
  done = λ n lt. reads.done (suc n) (omega (arith, e, lt));
  left = λ n le lt. reads.left (suc n) (omega (arith, e, le, lt));
}
