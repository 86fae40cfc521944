-- Searches for a first application as truth values.
use Rattle.std.proofs.Common.{◌≡◌, ◌↔◌, Bool, true, false, not, IsTrue, List, Option, Some, None, refl, sym, subst, arith}
use Rattle.std.specs.Prelude.{MatchOption}
use Rattle.std.specs.Option.{is_some}
use Rattle.term_pool.specs.Pools.{Extends}
use Rattle.term_pool.specs.declared.node.Node.{Node}
use Rattle.certificates.specs.BranchesBranch.{Branch}
use Rattle.tableau.specs.PoolBranches.{BranchData, branch_in, IsOver}
use Rattle.tableau.proofs.PushLemmas.{says_still}
use Rattle.tableau.specs.States.{NoRangeSplitBefore}
use Rattle.tableau.specs.Steps.{NoPartsBefore}
use Rattle.tableau.specs.Names.{NoNameBefore}

-- false is right for what never holds
pub never : {P : Type 0} → (P → ⊥) → IsTrue false ↔ P
never f = (λ t. absurd (cc), λ p. absurd (f p))

pub weaker : {A B : Type 0} (r : Bool) → (A → B) → (B → A) → IsTrue r ↔ A → IsTrue r ↔ B
weaker r f g h = (λ t. f (h.0 t), λ b. h.1 (g b))

-- a check that is false and exact refutes its claim
pub refuted : {P : Type 0} (r : Bool) → r ≡ false → IsTrue r ↔ P → P → ⊥
refuted r e h p = (let yes = h.1 p in absurd (cc))

-- ---- results

module _ {X : Type 0} (P : Type 0) (R : X → Type 0) where
  pub one_of : (o : Option X) → MatchOption o P R → true ≡ is_some o → (x : X) × R x
  one_of None m e = absurd (cc)
  one_of (Some x) m e = (x, m)

  pub none_of : (o : Option X) → MatchOption o P R → false ≡ is_some o → P
  none_of None m e = m
  none_of (Some x) m e = absurd (cc)

  -- the last of some families decides
  pub decided : (Y : Type 0) → (P → Y) → ((x : X) → R x → Y → ⊥) → (o : Option X) (r : Bool) → MatchOption o P R → is_some o ≡ not r → IsTrue r ↔ Y
  decided Y f fails None true m e = (λ t. f m, λ y. refl)
  decided Y f fails None false m e = absurd (cc)
  decided Y f fails (Some x) true m e = absurd (cc)
  decided Y f fails (Some x) false m e = never (fails x m)

pub no_parts_yet : (b : Branch) → NoPartsBefore b 0
no_parts_yet b = record { each = λ i w. absurd (omega (arith, w)) }

pub no_name_yet : (b : Branch) → NoNameBefore b 0
no_name_yet b = record { each = λ i w. absurd (omega (arith, w)) }

pub no_split_yet : (b : Branch) → NoRangeSplitBefore b 0
no_split_yet b = record { each = λ i w. absurd (omega (arith, w)) }

-- ---- over a larger pool

module _ (ns ms : List Node) (grown : Extends ns ms) (d : BranchData) (over : IsOver ns d) where
  stays : branch_in ms d ≡ branch_in ns d
  stays = says_still ns ms grown d.entries over.formulas

  pub there : (P : Branch → Type 0) → P (branch_in ns d) → P (branch_in ms d)
  there P h = subst P (sym stays) h

  pub back : (P : Branch → Type 0) → P (branch_in ms d) → P (branch_in ns d)
  back P h = subst P stays h
