use Rattle.ability_rules.specs.Rows.{FoundAt}
use Rattle.ability_rules.proofs.Making.{found_more}
use Rattle.ability_rules.proofs.polymorphic_recursion.wrapping.found_functions.Goals as goal

pub loop-number-preserved : goal.loop-number-preserved
loop-number-preserved c =
    found_more (λ n b. FoundAt c.args.all c.args.found.now n b) c.loop-number.known.items c.push.new.self.items c.is_found_at.result c.loop-number.number
    c.loop-number.invariant.0 c.in_ok-push.ensures.items c.loop-number.invariant.1 c.is_found_at.ensures
