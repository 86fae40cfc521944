use Rattle.std.proofs.Common.{refl}
use Rattle.tableau.specs.PoolBranches.{branch_in}
use Rattle.ematching.proofs.RowLemmas.{listing_begun, listing_more, listing_done}
use Rattle.ematching.proofs.rows.rows.Goals as goal

pub loop-pattern-init : goal.loop-pattern-init
loop-pattern-init c =
    listing_begun c.args.pool.now (branch_in c.args.pool.now c.args.branch.now) c.args.bound.now c.args.list c.new-rows.result.items c.new-rows.ensures.items c.requires.list

pub loop-pattern-smaller : goal.loop-pattern-smaller
loop-pattern-smaller c = c.in-Some.ensures.earlier

pub loop-pattern-preserved : goal.loop-pattern-preserved
loop-pattern-preserved c =
    listing_more c.args.pool.now (branch_in c.args.pool.now c.args.branch.now) c.args.bound.now c.args.list c.loop-pattern.rest c.loop-pattern.rows.items c.push.new.self.items (c.in-Some.pattern, c.in-Some.others) (record { pattern = c.in-Some.pattern; candidates = c.in_ok-terms.terms }) c.loop-pattern.invariant c.in-Some.ensures (record { pattern = c.in-Some.ensures.first; candidates = c.in_ok-terms.ensures }) refl c.in_ok-push.ensures.items

pub returns : goal.returns
returns c =
    listing_done c.args.pool.now (branch_in c.args.pool.now c.args.branch.now) c.args.bound.now c.args.list c.loop-pattern.rest c.loop-pattern.rows.items c.loop-pattern.invariant c.in_default.ensures
