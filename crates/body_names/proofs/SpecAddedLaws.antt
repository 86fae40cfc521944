-- The effect of adding the children of a tree, and then its root.
use Rattle.std.proofs.Common.{◌≡◌, ℕ, ◌+◌, ◌<◌, List, [], ◌∷◌, ◌++◌, length, All, sym, ap, ◌∙◌, arith, length-append, append_assoc}
use Rattle.base.specs.declared.span.Span.{Span}
use Rattle.program.specs.declared.arena.Node.TheVariants.{Many}
use Rattle.program.specs.declared.spec.SpecMany.{SpecMany}
use Rattle.program.specs.Trees.{ManyTree}
use Rattle.program.specs.Listed.{inner_all, indices, nodes_from_all}
use Rattle.body_names.proofs.JoinedLaws.{indices-below}
use Rattle.body_names.specs.declared.spec.building.Building.{Building}
use Rattle.body_names.specs.SpecForms.{SpecTrees}
use Rattle.body_names.specs.SpecAdded.{Stepped, Added, AddedAll}

-- ---- trees with one more node

pub added-many : {m : SpecMany} {ts : SpecTrees} {s : Span} {ss : List Span} {ns : List (List ℕ)} {old mid new : Building} {parts : List ℕ} {r : ℕ} → AddedAll ts ss ns old mid [] parts → Stepped (Many m parts) s mid new r → Added (ManyTree m ts) (ss ++ s ∷ []) ns old new r
added-many {m} {ts} {s} {ss} {ns} {old} {mid} {new} {parts} {r} all step =
    let n : ℕ = length old.body.nodes in
    let here : parts ≡ indices n ts = all.parts_are in
    record {
      sound = all.sound;
      index_is = omega (arith, step.index_is, all.count);
      last = omega (arith, step.index_is, ap length step.nodes, length-append mid.body.nodes (Many m parts ∷ []));
      nodes = step.nodes ∙ (λ i. all.nodes i ++ Many m (here i) ∷ []) ∙ append_assoc old.body.nodes (nodes_from_all n ts) (Many m (indices n ts) ∷ []);
      spans_are = step.spans ∙ (λ i. all.spans_are i ++ s ∷ []) ∙ append_assoc old.body.spans ss (s ∷ []);
      variables = step.variables ∙ all.variables;
    }

-- ---- children come before their parent

pub parts-below : {ts : SpecTrees} {ss : List Span} {ns : List (List ℕ)} {old mid : Building} {first parts : List ℕ} → first ≡ [] → AddedAll ts ss ns old mid first parts → All (λ x. x < length mid.body.nodes) parts
parts-below {ts} {ss} {ns} {old} {mid} {first} {parts} none all =
    let n : ℕ = length old.body.nodes in
    let e : n + length (inner_all ts) ≡ length mid.body.nodes = sym all.count in
    let f : indices n ts ≡ parts = sym (all.parts_are ∙ ap (λ xs. xs ++ indices n ts) none) in
    rw (← e, ← f) (indices-below n ts)
