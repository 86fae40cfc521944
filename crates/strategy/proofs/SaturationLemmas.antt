-- The deciders of single families, taken together.
use Rattle.std.proofs.Common.{◌≡◌, ℕ, Bool, true, false, not, IsTrue, List, [], ◌∷◌, Option, Some, None, sym, ap, ◌∙◌, subst, arith}
use Rattle.std.specs.Prelude.{◌↔◌, MatchBool, MatchOption}
use Rattle.std.specs.Option.{is_some}
use Rattle.fol.specs.declared.shapes.Shape.{Shape}
use Rattle.fol.specs.FormulaData.{TermData, FormulaData, NotFormula}
use Rattle.axioms.specs.declared.axiom.Axiom.{Axiom}
use Rattle.term_pool.specs.Pools.{Extends}
use Rattle.term_pool.specs.declared.node.Node.{Node}
use Rattle.certificates.specs.BranchesBranch.{Branch, IsNew}
use Rattle.certificates.specs.Due.{IsShallow, AsksAxiom, ByTable, AsDecision, trichotomy_axiom, AreGenerations, IsNotClosed, IsSaturated}
use Rattle.tableau.specs.PoolBranches.{BranchData, branch_in, IsOver}
use Rattle.tableau.proofs.PushLemmas.{says_still}
use Rattle.congruence_closure.specs.Known.{BranchClassesData}
use Rattle.congruence_closure.proofs.OverLemmas.{still_over}
use Rattle.tableau.specs.Terms.{AreClassesOf}
use Rattle.tableau.specs.Steps.{NoPartsBefore, NoSplitBefore}
use Rattle.tableau.specs.Names.{NoNameBefore}
use Rattle.axiom_strategy.specs.declared.due.WantedAxioms.TheVariants.{All as Everything}
use Rattle.axiom_strategy.specs.Due.{NoAxiom}
use Rattle.axiom_strategy.specs.Orders.{NoOrder}
use Rattle.ematching.specs.Instances.{NoInstance}
use Rattle.closing_rules.specs.Clashes.{IsClashOf}
use Rattle.closing_rules.specs.declared.clashes.clash.Clash.{Clash}
use Rattle.closing_rules.specs.declared.clashes.clash.Clash.TheVariants.{Opposed, Differing, False}
use Rattle.strategy.specs.Families.{IsReduced, HasAllAxioms, IsSettled}

-- ---- results

module _ {X : Type 0} (P : Type 0) (R : X → Type 0) where
  pub one_of : (o : Option X) → MatchOption o P R → true ≡ is_some o → (x : X) × R x
  one_of None m e = absurd (cc)
  one_of (Some x) m e = (x, m)

  pub none_of : (o : Option X) → MatchOption o P R → false ≡ is_some o → P
  none_of None m e = m
  none_of (Some x) m e = absurd (cc)

  -- the last of some families decides
  pub decided : (Y : Type 0) → (P → Y) → ((x : X) → R x → Y → ⊥) → (o : Option X) (r : Bool) → MatchOption o P R → is_some o ≡ not r → MatchBool r Y (Y → ⊥)
  decided Y f never None true m e = f m
  decided Y f never None false m e = absurd (cc)
  decided Y f never (Some x) true m e = absurd (cc)
  decided Y f never (Some x) false m e = never x m

pub no_parts_yet : (b : Branch) → NoPartsBefore b 0
no_parts_yet b = record { each = λ i w. absurd (omega (arith, w)) }

pub no_split_yet : (b : Branch) → NoSplitBefore b 0
no_split_yet b = record { each = λ i w. absurd (omega (arith, w)) }

pub no_name_yet : (b : Branch) → NoNameBefore b 0
no_name_yet b = record { each = λ i w. absurd (omega (arith, w)) }

-- ---- over a larger pool

module _ (ns ms : List Node) (grown : Extends ns ms) (d : BranchData) (over : IsOver ns d) where
  stays : branch_in ms d ≡ branch_in ns d
  stays = says_still ns ms grown d.entries over.formulas

  pub there : (P : Branch → Type 0) → P (branch_in ns d) → P (branch_in ms d)
  there P h = subst P (sym stays) h

  pub back : (P : Branch → Type 0) → P (branch_in ms d) → P (branch_in ns d)
  back P h = subst P stays h

  pub classes_stay : (c : BranchClassesData) → AreClassesOf ns d c → AreClassesOf ms d c
  classes_stay c h = record { over = still_over ns ms c grown h.over; entries = h.entries }

-- ---- all families

module _ (shapes : List Shape) (b : Branch) where
  not_triggered : NoAxiom shapes b Everything → NoOrder b → {name : Axiom} {ts : List TermData} {p : FormulaData} (g : ℕ) → AsksAxiom shapes b name ts p → AreGenerations b ts g → IsNew b p → IsShallow p → ⊥
  not_triggered table orders g (ByTable name ts p h) generations new shallow = table.none name p g tt (record { terms = ts; triggered = h; generations = generations; is_new = new; shallow = shallow })
  not_triggered table orders g (AsDecision t u x y z) generations new shallow = orders.none shapes (trichotomy_axiom t u) g (record { terms = t ∷ u ∷ []; triggered = AsDecision t u x y z; generations = generations; is_new = new; shallow = shallow })

  pub all_axioms : NoAxiom shapes b Everything → NoOrder b → HasAllAxioms shapes b
  all_axioms table orders = record { none = λ name p g due. not_triggered table orders g due.triggered due.generations due.is_new due.shallow }

  pub all_done : IsReduced b → IsSettled b → HasAllAxioms shapes b → NoInstance b → IsSaturated shapes b
  all_done reduced settled axioms instances = record {
    nothing_due = record {
      no_parts = λ i ps due. (reduced.no_parts.each i).none ps due;
      no_split = λ i ps due. (reduced.no_split.each i).none ps due;
      no_name = λ i v p due. (reduced.no_name.each i).none v p due;
      no_instance = λ i t p g due. (instances.each i).none t p g due;
      no_axiom = λ name p g due. axioms.none name p g due;
      no_cut = λ t u due. settled.no_cut.none t u due;
    };
    not_closed = settled.not_closed;
  }

  module _ (h : IsSaturated shapes b) where
    pub reduced_so : IsReduced b
    reduced_so = record {
      no_parts = record { each = λ i. record { none = λ ps due. h.nothing_due.no_parts i ps due } };
      no_split = record { each = λ i. record { none = λ ps due. h.nothing_due.no_split i ps due } };
      no_name = record { each = λ i. record { none = λ v p due. h.nothing_due.no_name i v p due } };
    }

    pub settled_so : IsSettled b
    settled_so = record {
      no_cut = record { none = λ t u due. h.nothing_due.no_cut t u due };
      not_closed = h.not_closed;
    }

    pub axioms_so : HasAllAxioms shapes b
    axioms_so = record { none = λ name p g due. h.nothing_due.no_axiom name p g due }

    pub instances_so : NoInstance b
    instances_so = record { each = λ i. record { none = λ t p g due. h.nothing_due.no_instance i t p g due } }

-- a clash shows that the branch is closed
pub closes : (b : Branch) (clash : Clash) → IsClashOf b clash → IsNotClosed b → ⊥
closes b (Opposed said denied) h n = n.no_clash h.formula h.other (record { position = said; says = h.says }) (record { position = denied; says = h.denies }) h.alike
closes b (Differing i) h n =
    n.no_differing h.equates.left h.equates.right (record { position = i; says = record { entry = h.denies.entry; found = h.denies.found; is = h.denies.is ∙ ap NotFormula h.equates.is } }) h.equates.joined
closes b (False i) h n = n.no_false h.formula (record { position = i; says = h.says }) h.is_false

-- a truth value known by cases is exact
pub exact_of : (P : Type 0) (r : Bool) → MatchBool r P (P → ⊥) → IsTrue r ↔ P
exact_of P true h = (λ t. h, λ p. (λ i. true))
exact_of P false h = (λ t. absurd (cc), λ p. absurd (h p))

pub weaker : (A B : Type 0) → (A → B) → (B → A) → (r : Bool) → MatchBool r A (A → ⊥) → MatchBool r B (B → ⊥)
weaker A B f g true h = f h
weaker A B f g false h = λ b. h (g b)
