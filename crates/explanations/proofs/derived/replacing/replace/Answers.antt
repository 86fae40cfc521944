use Rattle.std.proofs.Common.{sym, ap, ◌∙◌, subst}
use Rattle.term_pool.specs.Items.{TermSort}
use Rattle.explanations.specs.Frames.{IsWay}
use Rattle.congruence_closure.specs.Numbers.{number_at}
use Rattle.explanations.specs.Routes.{CanGo, end_of}
use Rattle.explanations.proofs.RouteLemmas.{term_of}
use Rattle.explanations.proofs.ReplacingLemmas.{replacement_grown, before_stands, can_swap, ends_either, swap_read, replaced_at}
use Rattle.explanations.proofs.derived.replacing.replace.Goals as goal

pub between-requires-clause-route : goal.between-requires-clause-route
between-requires-clause-route c = subst (CanGo c.args.pool.now c.args.chain.now c.args.numbers.now c.args.equations.now c.args.difference.now.from) (sym c.as_slice-route.ensures.value) c.requires.replaced.route

pub rewrite-requires-clause-way : goal.rewrite-requires-clause-way
rewrite-requires-clause-way c =
    let is = replacement_grown c.args.pool.now c.between.new.pool c.between.ensures.extends c.args.numbers.now c.args.difference.now c.requires.replaced.is in
    subst (λ way. IsWay c.between.new.pool way TermSort) (sym c.as_slice-way.ensures.value) is.leads

pub rewrite-requires-clause-from : goal.rewrite-requires-clause-from
rewrite-requires-clause-from c =
    let is = replacement_grown c.args.pool.now c.between.new.pool c.between.ensures.extends c.args.numbers.now c.args.difference.now c.requires.replaced.is in
    term_of c.between.new.pool c.number_of-from.result (number_at c.args.numbers.now c.args.difference.now.from) c.number_of-from.ensures is.from_term

pub rewrite-requires-clause-to : goal.rewrite-requires-clause-to
rewrite-requires-clause-to c =
    let is = replacement_grown c.args.pool.now c.between.new.pool c.between.ensures.extends c.args.numbers.now c.args.difference.now c.requires.replaced.is in
    term_of c.between.new.pool c.number_of-to.result (number_at c.args.numbers.now c.args.difference.now.to) c.number_of-to.ensures is.to_term

pub rewrite-requires-clause-swap : goal.rewrite-requires-clause-swap
rewrite-requires-clause-swap c =
    let d = c.args.difference.now in
    let ns = c.between.new.pool in
    let is = replacement_grown c.args.pool.now c.between.new.pool c.between.ensures.extends c.args.numbers.now c.args.difference.now c.requires.replaced.is in
    let end = ap (end_of c.args.difference.now.from) c.as_slice-route.ensures.value ∙ c.requires.replaced.ends in
    let either = ends_either c.between.new.pool c.between.new.chain c.args.numbers.now c.in_ok-equation.equation c.args.difference.now.from c.args.difference.now.to (end_of c.args.difference.now.from c.as_slice-route.result.now) end c.in_ok-equation.ensures.at in
    let source = before_stands c.args.pool.now c.between.new.pool c.between.ensures.extends c.args.chain.now c.between.new.chain c.in_ok-equation.ensures.keeps c.args.numbers.now c.args.difference.now c.requires.replaced.is c.args.source c.requires.source in
    swap_read c.between.new.pool c.between.new.chain c.args.numbers.now c.args.difference.now c.in_ok-equation.equation c.args.source c.number_of-from.result c.number_of-to.result c.as_slice-way.result.now c.as_slice-way.ensures.value c.number_of-from.ensures c.number_of-to.ensures
    (can_swap c.between.new.pool c.between.new.chain c.args.numbers.now c.args.difference.now c.in_ok-equation.equation c.args.source is either source)

pub returns-clause-at : goal.returns-clause-at
returns-clause-at c =
    replaced_at c.args.pool.now c.between.new.pool c.rewrite.new.pool c.between.ensures.extends c.rewrite.new.self c.args.numbers.now c.args.difference.now c.number_of-to.result c.as_slice-way.result.now c.requires.replaced.is c.as_slice-way.ensures.value c.number_of-to.ensures c.rewrite.result c.rewrite.ensures.at
