use Rattle.std.proofs.Common.{◌≡◌, ◌+◌, ◌∙◌, length, ap, arith}
use Rattle.type_solver.proofs.Emitting.{given_lent}
use Rattle.type_solver.proofs.constraints.lent.Goals as goal

pub returns-clause-says : goal.returns-clause-says
returns-clause-says c old e s lt =
    let at : c.len-variable.result ≡ length c.args.slots.now.items = c.len-variable.ensures ∙ c.args.slots.now.ok.0 in
    given_lent old c.args.slots.now.items c.add_bound.new.slots.items e c.len-variable.result c.args.to c.args.wanted s lt c.in_ok-add_bound.ensures.grows c.requires.to
    (let one : length c.add_bound.new.slots.items ≡ length c.args.slots.now.items + 1 = c.in_ok-add_bound.ensures.one in omega (arith, at, one))
    (λ t m. ap t at ∙ c.in_ok-add_bound.ensures.has t m)
