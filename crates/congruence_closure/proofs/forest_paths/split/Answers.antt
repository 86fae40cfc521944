use Rattle.congruence_closure.proofs.PathLemmas.{split_of}
use Rattle.congruence_closure.proofs.forest_paths.split.Goals as goal

pub returns : goal.returns
returns c = split_of c.args.links.now c.args.span c.join.result c.requires.linked c.join.ensures
