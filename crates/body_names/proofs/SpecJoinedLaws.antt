-- Spec expressions whose trees are added one after another.
use Rattle.std.proofs.Common.{◌≡◌, ℕ, ◌+◌, List, ◌++◌, length, sym, ap, ◌∙◌, arith, length-append, append_assoc}
use Rattle.base.specs.declared.span.Span.{Span}
use Rattle.syntax_tree.specs.SpecExpressionData.{SpecExpressionData, SpecFieldsData, TriggersData}
use Rattle.program.specs.Listed.{inner_all, indices, nodes_from_all}
use Rattle.scopes.specs.declared.scope.InScope.{InScope}
use Rattle.body_names.specs.declared.spec.building.Building.{Building}
use Rattle.body_names.specs.SpecForms.{SpecScope, SpecTrees}
use Rattle.body_names.specs.SpecTrees.{spec_tree, trigger_trees, field_trees}
use Rattle.body_names.specs.Joined.{joined}
use Rattle.body_names.proofs.JoinedLaws.{joined-nodes, joined-indices, joined-size, joined-sound}
use Rattle.body_names.specs.SpecAdded.{AddedAll}

-- ---- extensions

-- more trees
pub added-both : {ts us : SpecTrees} {ss s : List Span} {ns k : List (List ℕ)} {old now next : Building} {first parts more : List ℕ} → AddedAll ts ss ns old now first parts → AddedAll us s k now next parts more → AddedAll (joined ts us) (ss ++ s) (ns ++ k) old next first more
added-both {ts} {us} {ss} {s} {ns} {k} {old} {now} {next} {first} {parts} {more} all others =
    let n : ℕ = length old.body.nodes in
    let behind : length now.body.nodes ≡ n + length (inner_all ts) = all.count in
    record {
      sound = joined-sound ts us all.sound others.sound;
      parts_are = others.parts_are ∙ (λ i. all.parts_are i ++ indices (behind i) us) ∙ append_assoc first (indices n ts) (indices (n + length (inner_all ts)) us) ∙ ap (λ xs. first ++ xs) (sym (joined-indices n ts us));
      count = omega (arith, others.count, all.count, joined-size ts us);
      nodes = others.nodes ∙ (λ i. all.nodes i ++ nodes_from_all (behind i) us) ∙ append_assoc old.body.nodes (nodes_from_all n ts) (nodes_from_all (n + length (inner_all ts)) us) ∙ ap (λ xs. old.body.nodes ++ xs) (sym (joined-nodes n ts us));
      spans_are = others.spans_are ∙ (λ i. all.spans_are i ++ s) ∙ append_assoc old.body.spans ss s;
      variables = others.variables ∙ (λ i. all.variables i ++ k) ∙ append_assoc old.variables ns k;
    }

-- ---- an expression after bound variables

pub bound-count : (old now : Building) (names : List (List ℕ)) → now.variables ≡ old.variables ++ names → length now.variables ≡ length old.variables + length names
bound-count old now names e = ap length e ∙ length-append old.variables names

pub both-count : (old now : Building) (names others : List (List ℕ)) → now.variables ≡ old.variables ++ (names ++ others) → length now.variables ≡ (length old.variables + length names) + length others
both-count old now names others e = omega (arith, ap length e, length-append old.variables (names ++ others), length-append names others)

pub same-spec : (w : SpecScope) {s s' : List InScope} {n n' : ℕ} (x : SpecExpressionData) → s ≡ s' → n ≡ n' → spec_tree w s n x ≡ spec_tree w s' n' x
same-spec w x e f = λ i. spec_tree w (e i) (f i) x

pub same-triggers : (w : SpecScope) {s s' : List InScope} {n n' : ℕ} (x : TriggersData) → s ≡ s' → n ≡ n' → trigger_trees w s n x ≡ trigger_trees w s' n' x
same-triggers w x e f = λ i. trigger_trees w (e i) (f i) x

pub same-fields : (w : SpecScope) {s s' : List InScope} {n n' : ℕ} (x : SpecFieldsData) → s ≡ s' → n ≡ n' → field_trees w s n x ≡ field_trees w s' n' x
same-fields w x e f = λ i. field_trees w (e i) (f i) x
