use Rattle.std.proofs.Common.{refl}
use Rattle.explanations.proofs.AlikeLemmas.{all_found}
use Rattle.explanations.proofs.derived.plan.alike.Goals as goal

pub returns-in_ok-differences : goal.returns-in_ok-differences
returns-in_ok-differences c =
    all_found c.args.pool.now c.args.graph.nodes.now c.args.graph.links.now c.args.graph.numbers.now c.requires.graph c.args.before c.args.link c.requires.left c.requires.right c.requires.alike c.number_of-left.result c.number_of-left.ensures _ refl c.in_ok-position.position c.in_ok-next.next c.args.found.now.items c.parts.new.found.items c.differences.new.found.items c.in_ok-position.ensures c.in_ok-next.ensures c.in_ok-differences.ensures
