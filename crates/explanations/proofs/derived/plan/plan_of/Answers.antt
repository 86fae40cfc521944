use Rattle.std.proofs.lemmas.Option.{get_or_from_slice_get}
use Rattle.explanations.proofs.AlikeLemmas.{plan_given, plan_alike}
use Rattle.explanations.proofs.derived.plan.plan_of.Goals as goal

pub returns-in-Given : goal.returns-in-Given
returns-in-Given c =
    let ends = c.requires.ends in
    plan_given c.args.pool.now c.args.graph.nodes.now c.args.graph.links.now c.args.graph.numbers.now c.args.number ends _ c.in-Given.field-0 c.new-found.result.items (get_or_from_slice_get c.args.graph.links.now c.args.number ends.link _ ends.is_link) c.in-Given.is c.new-found.ensures.items

pub returns-in_ok-alike-in-Alike : goal.returns-in_ok-alike-in-Alike
returns-in_ok-alike-in-Alike c =
    let ends = c.requires.ends in
    plan_alike c.args.pool.now c.args.graph.nodes.now c.args.graph.links.now c.args.graph.numbers.now c.args.number ends _ c.new-found.result.items c.alike.new.found.items (get_or_from_slice_get c.args.graph.links.now c.args.number ends.link _ ends.is_link) c.in-Alike.is c.new-found.ensures.items c.in_ok-alike-in-Alike.ensures
