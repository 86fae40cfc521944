use Rattle.closing_rules.proofs.ClosingLemmas.{without_links}
use Rattle.closing_rules.proofs.closings.literal.literal_closing.Goals as goal

pub returns : goal.returns
returns c = λ shapes. without_links shapes c.args.pool.now c.args.branch.now (record { chain = c.new.result; by = c.close_of.result }) c.new.ensures.items c.requires.short c.close_of.ensures
