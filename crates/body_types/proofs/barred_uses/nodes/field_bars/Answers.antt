use Rattle.std.proofs.Common.{Option, ap, subst}
use Rattle.std.specs.Option.{option_copied}
use Rattle.base.specs.declared.types.StructId.{StructId}
use Rattle.body_types.specs.Owners.{OwnerSays}
use Rattle.body_types.proofs.Deciding.{an_owner, no_owner}
use Rattle.body_types.proofs.barred_uses.nodes.field_bars.Goals as goal

pub returns-in-Some : goal.returns-in-Some
returns-in-Some c = an_owner c.args.facts.slots.now c.args.facts.own.now c.args.base c.in-Some.owner.now c.is_of_module.result c.requires.known.ranked
    (subst (λ (o : Option StructId). OwnerSays c.args.facts.slots.now c.args.base o) (ap option_copied c.in-Some.is) c.owner_at.ensures) c.is_of_module.ensures

pub returns-in-None : goal.returns-in-None
returns-in-None c = no_owner c.args.facts.slots.now c.args.facts.own.now c.args.base
    (subst (λ (o : Option StructId). OwnerSays c.args.facts.slots.now c.args.base o) (ap option_copied c.in-None.is) c.owner_at.ensures)
