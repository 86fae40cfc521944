use Rattle.std.proofs.Common.{sym, ◌∙◌}
use Rattle.term_pool.proofs.GrowthLemmas.{if_ok}
use Rattle.ematching.proofs.SaidLemmas.{put_number}
use Rattle.ematching.proofs.instances.made.instance.Goals as goal

pub put_in-requires : goal.put_in-requires
put_in-requires c = record { within = c.requires.body.within; term = record { earlier = c.requires.term.within; sort = c.requires.term.sort } }

pub returns-clause-is : goal.returns-clause-is
returns-clause-is c =
    if_ok c.put_in.result (λ k made. put_number c.args.pool.now c.put_in.new.pool c.args.universal.variable c.args.term c.args.universal.body k c.requires.body (sym c.requires.free ∙ c.if-not-is_free.false) made) c.put_in.ensures.is
