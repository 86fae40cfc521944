use Rattle.std.proofs.Common.{sym, refl}
use Rattle.ematching.proofs.ConditionLemmas.{clear_none, clear_some, condition_number}
use Rattle.ematching.proofs.node.is_clear.Goals as goal

pub are_free_of-requires : goal.are_free_of-requires
are_free_of-requires c = condition_number c.args.pool.now c.args.node c.in-Some.condition c.requires (sym c.in-Some.ensures)

pub returns-in-Some : goal.returns-in-Some
returns-in-Some c =
    clear_some c.args.pool.now c.args.bound.now c.args.node c.in-Some.condition (sym c.in-Some.ensures) c.are_free_of.result c.are_free_of.ensures

pub returns-in-None : goal.returns-in-None
returns-in-None c = (λ t. clear_none c.args.pool.now c.args.bound.now c.args.node (sym c.in-None.ensures), λ h. refl)
