-- Rule applications with new numbers, by a list that has the new number at the index of the old one.
use Rattle.std.specs.Prelude.{◌≡◌, ℕ, List, map}
use Rattle.explanations.specs.declared.chain.ChainStep.{ChainStep}
use Rattle.explanations.specs.declared.chain.ChainStep.TheVariants.{Itself, Rewritten}
use Rattle.search.specs.declared.trees.application.Reason.{Reason}
use Rattle.search.specs.declared.trees.application.Reason.TheVariants.{Instance, Cut, Bound}
use Rattle.search.specs.declared.trees.application.Extension.{Extension}
use Rattle.search.specs.declared.trees.application.Closing.{Closing}
use Rattle.search.specs.declared.trees.application.PoolApplication.{PoolApplication}
use Rattle.search.specs.declared.trees.application.PoolApplication.TheVariants.{Grown, Closed}
use Rattle.certificate_text.specs.Nodes.{new_number}

abbrev pub reason_anew : List ℕ → Reason → Reason
reason_anew ks (Instance i t) = Instance i (new_number ks t)
reason_anew ks (Cut t u) = Cut (new_number ks t) (new_number ks u)
reason_anew ks (Bound i t k) = Bound i (new_number ks t) k
reason_anew ks r = r

abbrev pub step_anew : List ℕ → ChainStep → ChainStep
step_anew ks (Itself k) = Itself (new_number ks k)
step_anew ks (Rewritten r) = Rewritten (record { equation = r.equation; source = r.source; variable = r.variable; pattern = new_number ks r.pattern; formula = new_number ks r.formula })

pub record IsExtensionAnew (ks : List ℕ) (old new : Extension) : Type 0 where
  pub reason : new.reason ≡ reason_anew ks old.reason
  pub generation : new.generation ≡ old.generation
  pub formulas : new.formulas.items ≡ map (new_number ks) old.formulas.items

pub record IsClosingAnew (ks : List ℕ) (old new : Closing) : Type 0 where
  pub chain : new.chain.items ≡ map (step_anew ks) old.chain.items
  pub by : new.by ≡ old.by

-- the second application is the first with new numbers
abbrev pub IsApplicationAnew : List ℕ → PoolApplication → PoolApplication → Type 0
IsApplicationAnew ks (Grown g) (Grown h) = IsExtensionAnew ks g h
IsApplicationAnew ks (Closed c) (Closed d) = IsClosingAnew ks c d
IsApplicationAnew ks (Grown g) (Closed d) = ⊥
IsApplicationAnew ks (Closed c) (Grown h) = ⊥
