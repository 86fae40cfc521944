use Rattle.axiom_strategy.proofs.reads.read_index.Goals as goal

pub returns : goal.returns
returns c = record {
  terms = c.args.terms.now;
  are = c.requires.terms;
  members = c.in_ok-members.ensures;
  memories = c.in_ok-memories.ensures;
  vectors = c.in_ok-vectors.ensures;
}
