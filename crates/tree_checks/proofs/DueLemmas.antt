-- Bounds with valid grounds are due.
use Rattle.std.proofs.Common.{ℕ, ℤ, pos, ◌+ℤ◌, List, subst}
use Rattle.base.specs.TypeData.{NumType}
use Rattle.fol.specs.declared.shapes.Shape.{Shape}
use Rattle.fol.specs.FormulaData.{TermData, NumTerm, LeFormula, IsFormula}
use Rattle.linear_arith.specs.Answer.{IsSolution}
use Rattle.linear_arith.specs.Values.{AreAllChosen}
use Rattle.step_checks.specs.declared.elimination.GivenElimination.{GivenElimination}
use Rattle.step_checks.proofs.ShownLemmas.{chosen}
use Rattle.term_pool.specs.declared.node.Node.{Node}
use Rattle.certificates.specs.BranchesBranch.{Branch, Says}
use Rattle.certificates.specs.Due.{IsShallow}
use Rattle.certificates.specs.ProofTraces.{BoundDue}
use Rattle.search.specs.declared.values.OpenValues.{OpenValues}
use Rattle.tree_checks.specs.Bounds.{IsBoundBy}

pub bound_due : (shapes : List Shape) (ns : List Node) (b : Branch) (i : ℕ) (t : TermData) (k : ℤ) (v : OpenValues) (given : GivenElimination) → IsBoundBy shapes ns b t k v given → Says b i (IsFormula NumType t) → IsShallow (LeFormula (NumTerm (k +ℤ pos 1)) t) → BoundDue shapes b i t k
bound_due shapes ns b i t k v given h says shallow =
    let first = h.first in
    record {
      saturated = h.saturated;
      says = says;
      class = h.class;
      classes = v.classes.items;
      rows = h.rows;
      are_rows = h.are_rows;
      before = first.before;
      value = first.value;
      after = first.after;
      chosen = subst (λ values. AreAllChosen h.rows values) first.parts (chosen h.rows given v.values h.chosen);
      solution = subst (λ values. IsSolution h.rows values) first.parts h.solution;
      whole_before = first.whole_before;
      of_term = first.of_term;
      between = first.between;
      shallow = shallow;
    }
