use Rattle.std.proofs.Common.{◌≡◌, ◌∙◌, length, refl}
use Rattle.explanations.proofs.DeriveLemmas.{is_next, link_ready, link_found, placed_next}
use Rattle.explanations.proofs.derived.derive.next_equation.Goals as goal

pub link_equation-requires-clause-ready : goal.link_equation-requires-clause-ready
link_equation-requires-clause-ready c =
    let n = is_next c.args.needed.now c.len-number.result (length c.args.equations.now.items) c.is_needed.result (c.len-number.ensures ∙ c.args.equations.now.ok.0) c.is_needed.ensures c.if-is_needed.true in
    link_ready c.args.pool.now c.args.chain.now c.args.graph.links.now c.args.graph.numbers.now c.args.needed.now c.args.equations.now.items c.args.found.now c.requires.ready n c.len-number.result c.link_of.result c.in-Some.link c.as_slice-before.result.now (c.len-number.ensures ∙ c.args.equations.now.ok.0) c.link_of.ensures c.in-Some.is c.as_slice-before.ensures.value

pub returns-in_ok-push-in-Some-clause-placed : goal.returns-in_ok-push-in-Some-clause-placed
returns-in_ok-push-in-Some-clause-placed c =
    let number : c.len-number.result ≡ length c.args.equations.now.items = c.len-number.ensures ∙ c.args.equations.now.ok.0 in
    let n = is_next c.args.needed.now c.len-number.result (length c.args.equations.now.items) c.is_needed.result number c.is_needed.ensures c.if-is_needed.true in
    let found = link_found c.args.pool.now c.args.chain.now c.args.graph.links.now c.args.graph.numbers.now c.args.needed.now c.args.equations.now.items c.args.found.now c.requires.ready n c.len-number.result c.link_of.result c.in-Some.link number c.link_of.ensures c.in-Some.is in
    placed_next c.args.pool.now c.link_equation.new.pool c.link_equation.ensures.extends c.args.chain.now c.link_equation.new.chain c.in_ok-position-in-Some.ensures.keeps c.args.graph.links.now c.args.graph.numbers.now c.args.needed.now c.args.equations.now.items c.push.new.self.items c.in_ok-position-in-Some.position c.in-Some.link c.in-Some.link c.in_ok-push-in-Some.ensures.items found refl c.in_ok-position-in-Some.ensures.at c.requires.placed
