use Rattle.congruence_closure.proofs.ClassesExactLemmas.{joined_exactly}
use Rattle.congruence_closure.proofs.classes.Classes.are_joined.Goals as goal

pub returns : goal.returns
returns c = joined_exactly c.args.self.now.nodes c.args.self.now.equations c.args.self.now.names c.args.self.now.links c.exact.ensures c.args.left c.args.right c.class.result c.class-2.result c.requires.left c.requires.right c.class.ensures c.class-2.ensures
