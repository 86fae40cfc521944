use Rattle.axiom_strategy.proofs.CutLemmas.{list_known, list_within}
use Rattle.axiom_strategy.proofs.decisions.cuts.cut_positions.Goals as goal

pub candidates-requires-clause-known : goal.candidates-requires-clause-known
candidates-requires-clause-known c =
    rw c.as_slice-all.ensures.value (list_known c.args.pool.now c.one_number.ensures c.args.branch.now c.requires.over c.args.classes.now c.requires.classes c.exact.ensures c.in_ok-listed.listed.items (λ t. (c.in_ok-listed.ensures.each t).0))

pub candidates-requires-clause-within : goal.candidates-requires-clause-within
candidates-requires-clause-within c =
    rw c.as_slice-all.ensures.value (list_within c.args.pool.now c.one_number.ensures c.args.branch.now c.requires.over c.args.classes.now c.requires.classes c.exact.ensures c.in_ok-listed.listed.items (λ t. (c.in_ok-listed.ensures.each t).0))

pub find_positions-requires-clause-candidates : goal.find_positions-requires-clause-candidates
find_positions-requires-clause-candidates c =
    rw c.as_slice-2.ensures.value (list_known c.args.pool.now c.one_number.ensures c.args.branch.now c.requires.over c.args.classes.now c.requires.classes c.exact.ensures c.in_ok-found.found.items (λ t m. (c.in_ok-listed.ensures.each t).0 ((rw c.as_slice-all.ensures.value at c.in_ok-found.ensures).terms_are t m)))

pub returns : goal.returns
returns c = record {
  groups = c.in_ok-near.near.items;
  near = c.in_ok-near.ensures;
  terms = c.in_ok-listed.listed.items;
  are = c.in_ok-listed.ensures;
  candidates = c.in_ok-found.found.items;
  chosen = rw c.as_slice-all.ensures.value at c.in_ok-found.ensures;
  positions = rw (c.as_slice.ensures.value, c.as_slice-2.ensures.value) at c.in_ok-positions.ensures;
}
