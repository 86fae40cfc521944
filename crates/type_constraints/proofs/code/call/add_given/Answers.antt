use Rattle.std.proofs.Common.{◌≡◌, ◌++◌, List, [], map, drop, sym, ◌∙◌, ap}
use Rattle.std.proofs.lemmas.Result.{on_ok_weaker}
use Rattle.program.specs.declared.declaration.TypedName.{TypedName}
use Rattle.typing_rules.specs.Constraint.{Constraint}
use Rattle.typing_rules.specs.CodeConstraints.{given_constraints}
use Rattle.type_constraints.specs.Seen.{seen_all}
use Rattle.type_constraints.proofs.CodeGiven.{no_parameter, none_of}
use Rattle.type_constraints.proofs.code.call.add_given.Goals as goal

pub returns-in_default : goal.returns-in_default
returns-in_default c =
    let none : c.loop-part.left.now ≡ [] = none_of c.loop-part.left.now c.in_default.ensures.cases in
    let index = c.loop-part.part-index in
    let left = λ (ps : List TypedName). given_constraints c.args.first c.args.count (drop index c.args.parts.now) (map (λ p. p.annotation) ps) in
    let barred = no_parameter c.args.first c.args.count index c.args.parts.now c.loop-part-test.true in
    on_ok_weaker c.add.result
    (λ e. e ∙ ap (λ (x : List Constraint). seen_all c.loop-part.constraints.items ++ x) (sym (ap left none ∙ barred)) ∙ c.loop-part.invariant)
    c.add.ensures
