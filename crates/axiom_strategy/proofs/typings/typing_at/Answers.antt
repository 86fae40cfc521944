use Rattle.std.proofs.Common.{sym}
use Rattle.axiom_strategy.proofs.TypingLemmas.{no_entry, entry_typing}
use Rattle.axiom_strategy.proofs.typings.typing_at.Goals as goal

pub returns-in_default : goal.returns-in_default
returns-in_default c = no_entry c.args.pool.now c.args.branch.now c.args.i (sym c.in_default.ensures)

pub returns : goal.returns
returns c =
    entry_typing c.args.pool.now c.args.branch.now c.args.i c.in-Some.entry (sym c.in-Some.ensures) c.typing_of.result c.typing_of.ensures
