use Rattle.std.proofs.Common.{◌≡◌, ◌<◌, ◌≤◌, ◌+◌, ◌-◌, length, take, All, slice_index_or}
use Rattle.code_tree.specs.Growing.{AreMade, nodes_made}
use Rattle.code_tree.proofs.pass.apply.apply.Given as goal

abbrev pub invariant-loop-index : goal.invariant-loop-index
invariant-loop-index g l = record {
  places : length l.places ≡ l.index;
  below : All (λ place. place < length l.made.nodes) l.places;
  are_made : AreMade (g.P.Pass.makes l.initial.pass) l.code.nodes l.made.nodes l.places;
  within : length l.made.nodes ≤ 50000;
  count : length l.made.nodes ≡ nodes_made (g.P.Pass.makes l.initial.pass) (take l.index l.code.nodes);
  last : 0 < l.index → slice_index_or l.places (l.index - 1) 0 + 1 ≡ length l.made.nodes;
  same : g.P.Pass.makes l.pass ≡ g.P.Pass.makes l.initial.pass;
  never_falls : g.P.Pass.gave l.initial.pass ≤ g.P.Pass.gave l.pass;
}
