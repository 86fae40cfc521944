-- Nodes that are taken as lvalues, node by node.
use Rattle.std.proofs.Common.{◌≡◌, ℕ, ◌+◌, ◌<◌, ◌≤◌, Bool, false, ◌||◌, List, length, get_or, take, Some, sym, ◌∙◌, ap, arith}
use Rattle.std.specs.Prelude.{slice_get}
use Rattle.std.specs.List.{list_any}
use Rattle.std.proofs.lemmas.List.{take_all}
use Rattle.std.proofs.lemmas.List.Folds.{list_any_more}
use Rattle.std.proofs.lemmas.Option.{get_or_from_slice_get, slice_get_within}
use Rattle.program.specs.CodeNodes.{CodeNode}
use Rattle.typing_rules.specs.Required.{takes_place}
use Rattle.ability_rules.specs.Bodies.{TellsTaken}

pub taken_more : (nodes : List CodeNode) (old new : List Bool) (k : ℕ) (node : CodeNode) → slice_get nodes k ≡ Some node → length old ≡ length nodes
    → ((n : ℕ) → n < length nodes → get_or old n false ≡ list_any (takes_place n) (take k nodes))
    → ((n : ℕ) → n < length old → get_or new n false ≡ (get_or old n false || takes_place n node))
    → (n : ℕ) → n < length nodes → get_or new n false ≡ list_any (takes_place n) (take (k + 1) nodes)
taken_more nodes old new k node e long before mark n lt =
    mark n (omega (arith, lt, long))
    ∙ ap (λ (b : Bool). b || takes_place n node) (before n lt)
    ∙ sym (list_any_more (takes_place n) nodes k node (slice_get_within nodes k node e)
    ∙ ap (λ (y : CodeNode). list_any (takes_place n) (take k nodes) || takes_place n y) (get_or_from_slice_get nodes k node node e))

pub taken_all : (nodes : List CodeNode) (taken : List Bool) (k : ℕ) → length nodes ≤ k → length taken ≡ length nodes
    → ((n : ℕ) → n < length nodes → get_or taken n false ≡ list_any (takes_place n) (take k nodes)) → TellsTaken taken nodes
taken_all nodes taken k end long known = record {
  len = long;
  each = λ n lt. known n lt ∙ ap (λ (ns : List CodeNode). list_any (takes_place n) ns) (take_all k nodes end);
}
