-- What the tree of a search shows at its end.
use Rattle.std.proofs.Common.{◌≡◌, ℕ, false, ◌+◌, ◌-◌, ◌≤◌, List, ◌++◌, take, drop, reverse, sym, subst, arith}
use Rattle.std.proofs.lemmas.List.{length-map, length-take-le, take-append-drop}
use Rattle.fol.specs.declared.shapes.Shape.{Shape}
use Rattle.certificates.specs.CertData.{StepData}
use Rattle.certificates.specs.CertView.{close_of_node}
use Rattle.term_pool.specs.declared.node.Node.{Node}
use Rattle.certificates.specs.Due.{IsShallow}
use Rattle.certificates.specs.Rows.{MeetsWhole}
use Rattle.certificates.specs.ProofTraces.{Application, IsReached, ClosesBranch}
use Rattle.tableau.specs.PoolBranches.{branch_in}
use Rattle.explanations.specs.Chains.{step_in}
use Rattle.search.specs.Trees.{waiting_in, IsTree}
use Rattle.search.specs.declared.trees.tree.SearchTree.{SearchTree}
use Rattle.search.specs.Decisions.{IsValued}
use Rattle.search.specs.Ends.{Claim, ShowsEnd, HasApplications, links_of, IsShown, is_full, IsOutcome}
use Rattle.search.specs.declared.values.OpenValues.{OpenValues}
use Rattle.search.specs.declared.search.Outcome.{Outcome}
use Rattle.search.specs.declared.end.End.{End}
use Rattle.search.specs.declared.end.End.TheVariants.{Proved, Open, Spent, SpentInChain, Wide, TooManyRows, Full}

module _ (shapes : List Shape) (claim : Claim) (ns : List Node) (t : SearchTree) where
  -- the current branch is reached
  reached : (spent : ℕ) (tree : IsTree shapes claim.formula spent ns t) → IsReached shapes claim.formula tree.text.applications (branch_in ns t.branch)
  reached spent tree = record { others = waiting_in ns t.branch.entries (reverse t.waiting.items); due = tree.text.due; first = tree.text.branches }

  -- the values satisfy the rows of the branch
  met : (v : OpenValues) → IsValued ns (branch_in ns t.branch) v → MeetsWhole (branch_in ns t.branch) v.values
  met v h = record { class = h.class; classes = v.classes.items; rows = h.rows; are_rows = h.are_rows; solution = h.solution; whole = h.whole }

  has_applications : (spent : ℕ) (tree : IsTree shapes claim.formula spent ns t) (taken : ℕ) → spent ≤ taken → (P : List Application → Type 0) → P tree.text.applications → HasApplications ns t taken P
  has_applications spent tree taken few P shown = record {
    applications = tree.text.applications;
    are_applications = tree.text.are_applications;
    few = (let s = tree.text.steps in omega (arith, s, few));
    shown = shown;
  }

  shown_of : (left taken : ℕ) → taken + left ≡ claim.budget → (end : End) → ShowsEnd shapes claim left ns t end → IsShown shapes claim.formula claim.budget taken ns t end
  shown_of left taken sum Proved h = record {
    applications = h.text.applications;
    are_applications = h.text.are_applications;
    few = (let s = h.text.steps in let e = h.sum in omega (arith, s, e, sum));
    shown = record { due = h.text.due; closed = h.text.branches };
  }
  shown_of left taken sum (Open values) h =
      has_applications h.spent h.tree taken (let e = h.sum in omega (arith, e, sum)) _ (record {
        open_branch = record { reached = reached h.spent h.tree; saturated = h.shown.0; met = met values h.shown.1 };
        valued = h.shown.1;
      })
  shown_of left taken sum Spent h =
      has_applications h.spent h.tree taken (let e = h.sum in let l = h.shown in omega (arith, e, l, sum)) _ (record { due = h.tree.text.due; steps = (let s = h.tree.text.steps in let e = h.sum in omega (arith, s, e)) })
  shown_of left taken sum (SpentInChain c done) h =
      has_applications h.spent h.tree taken (let e = h.sum in let l = h.shown.0 in omega (arith, e, l, sum)) _ (record {
        b = branch_in ns t.branch;
        reached = reached h.spent h.tree;
        closes = subst (λ ss. ClosesBranch shapes (branch_in ns t.branch) ss (close_of_node c.by)) (sym (parts (links_of ns c) done)) h.shown.1.closes;
        steps = (
            let s = h.tree.text.steps in
            let e = h.sum in
            let w = h.shown.1.within in
            let l = length-map c.chain.items (step_in ns) in
            let k = length-take-le done (links_of ns c) (omega (arith, w, l)) in
            omega (arith, s, e, k));
      })
    where
      parts : (ss : List StepData) (n : ℕ) → take n ss ++ drop n ss ≡ ss
      parts ss n = take-append-drop n ss
  shown_of left taken sum (Wide first second) h =
      has_applications h.spent h.tree taken (let e = h.sum in omega (arith, e, sum)) _ (record { reached = reached h.spent h.tree; class = h.shown.class; classes = h.shown.classes; rows = h.shown.rows; are_rows = h.shown.are_rows; wide = h.shown.wide })
  shown_of left taken sum (TooManyRows found) h =
      has_applications h.spent h.tree taken (let e = h.sum in omega (arith, e, sum)) _ (record { reached = reached h.spent h.tree; class = h.shown.class; classes = h.shown.classes; rows = h.shown.rows; are_rows = h.shown.are_rows; limit = h.shown.limit })
  shown_of left taken sum Full h =
      has_applications h.spent h.tree taken (let e = h.sum in omega (arith, e, sum)) _ (record { reached = reached h.spent h.tree; full = h.shown })

-- the outcome of a search that ends with this much of the budget left
pub outcome_of : (shapes : List Shape) (claim : Claim) (left before after : ℕ) (ns : List Node) (outcome : Outcome) → after + left ≡ before + claim.budget → left ≤ claim.budget → ShowsEnd shapes claim left ns outcome.tree outcome.end → (is_full outcome.end ≡ false → IsShallow claim.formula) → IsOutcome shapes claim before after ns outcome
outcome_of shapes claim left before after ns outcome sum within h shallow = record {
  taken = claim.budget - left;
  counted = omega (arith, sum, within);
  at_most = omega arith;
  shown = shown_of shapes claim ns outcome.tree left (claim.budget - left) (omega (arith, within)) outcome.end h;
  shallow = shallow;
}

-- no more is left than the budget
pub left_within : (shapes : List Shape) (claim : Claim) (ns : List Node) (t : SearchTree) (left : ℕ) (end : End) → ShowsEnd shapes claim left ns t end → left ≤ claim.budget
left_within shapes claim ns t left Proved h = (let s = h.sum in omega (arith, s))
left_within shapes claim ns t left (Open values) h = (let s = h.sum in omega (arith, s))
left_within shapes claim ns t left Spent h = (let s = h.shown in omega (arith, s))
left_within shapes claim ns t left (SpentInChain c done) h = (let s = h.shown.0 in omega (arith, s))
left_within shapes claim ns t left (Wide first second) h = (let s = h.sum in omega (arith, s))
left_within shapes claim ns t left (TooManyRows found) h = (let s = h.sum in omega (arith, s))
left_within shapes claim ns t left Full h = (let s = h.sum in omega (arith, s))
