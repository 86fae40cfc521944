use Rattle.std.proofs.Common.{[]}
use Rattle.axiom_instances.specs.Numbers.{term_at, type_at}
use Rattle.axiom_instances.proofs.ListLemmas.{adds_none}
use Rattle.axiom_instances.proofs.PackTypedLemmas.{no_pack_typed}
use Rattle.axiom_instances.proofs.struct_axioms.pack_typed.ask_pack_typed.Goals as goal

pub returns-in-None-clause-adds : goal.returns-in-None-clause-adds
returns-in-None-clause-adds c = record {
  instances = [];
  adds = adds_none _ _;
  exactly = no_pack_typed c.args.shapes.now (type_at c.args.pool.now c.args.of) (term_at c.args.pool.now c.args.term) c.in-None.ensures;
}
