use Rattle.std.proofs.Common.{rules, ◌≡◌, pos, FitsSigned, sym, ◌∙◌, arith}
use Rattle.std.specs.Int.{w128}
use Rattle.std.proofs.lemmas.Int.{ints}
use Rattle.step_checks.proofs.ChoiceLemmas.{no_bound}
use Rattle.step_checks.proofs.elimination.choices.bound_of.Goals as goal

pub returns-then-coefficient-eq0-clause-none : goal.returns-then-coefficient-eq0-clause-none
returns-then-coefficient-eq0-clause-none c = λ b is.
    let rest = rw c.in-Some.is at c.in_ok-rest.ensures.some in
    let f : FitsSigned w128 c.coefficient-coefficient.result = search rules in
    let z : c.coefficient-coefficient.result ≡ pos 0 = omega (arith, ints) in
    no_bound c.args.before.now c.args.values.now c.args.unknown c.args.row.now c.in-Some.rest b c.requires rest (sym c.coefficient-coefficient.ensures ∙ z) is
