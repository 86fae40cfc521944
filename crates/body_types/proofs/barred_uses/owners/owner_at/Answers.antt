use Rattle.std.specs.Option.{option_copied}
use Rattle.body_types.proofs.Owning.{owner_says}
use Rattle.body_types.proofs.barred_uses.owners.owner_at.Goals as goal

pub returns : goal.returns
returns c = owner_says c.args.slots.now c.args.roots.now c.args.variable (option_copied c.slot_owner.result) c.requires.fits c.requires.roots c.requires.ranked c.requires.within c.slot_owner.ensures
