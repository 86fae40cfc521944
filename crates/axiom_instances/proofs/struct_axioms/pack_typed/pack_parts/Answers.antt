use Rattle.axiom_instances.specs.Numbers.{type_at}
use Rattle.axiom_instances.proofs.TypedListLemmas.{own_pack, other_pack, no_pack_form}
use Rattle.axiom_instances.proofs.struct_axioms.pack_typed.pack_parts.Goals as goal

pub returns-then-own-of : goal.returns-then-own-of
returns-then-own-of c = own_pack c.in-Pack.ensures c.if-own-of.true

pub returns-else-own-of : goal.returns-else-own-of
returns-else-own-of c = other_pack c.one_number.ensures c.requires c.in-Pack.ensures c.if-own-of.false

pub returns-in_default : goal.returns-in_default
returns-in_default c =
    no_pack_form c.args.pool.now c.args.term (type_at c.args.pool.now c.args.of) c.term_form.result c.term_form.ensures c.in_default.not-Pack
