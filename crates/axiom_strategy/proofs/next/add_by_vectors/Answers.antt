use Rattle.std.proofs.Common.{◌++◌, ap, ◌∙◌}
use Rattle.axiom_strategy.proofs.next.add_by_vectors.Goals as goal

pub returns : goal.returns
returns c = record {
  more = c.in_ok-found.found.items;
  is = c.in_ok-extend_from_slice.ensures.items ∙ ap (λ xs. c.args.askers.now.items ++ xs) c.as_slice.ensures.value;
  has = c.in_ok-found.ensures;
}
