use Rattle.std.proofs.Common.{refl, arith}
use Rattle.std.proofs.lemmas.Option.{MatchOption-at_none}
use Rattle.type_constraints.proofs.Variables.{nodes_within}
use Rattle.ability_rules.specs.Nodes.{IsAbleTo, NodeLacksAbility}
use Rattle.ability_rules.proofs.RequiredFunctions.{more_able, node_found, none_found}
use Rattle.ability_rules.proofs.required.function.function_lacks_ability.Goals as goal

pub first_of_all-first-requires : goal.first_of_all-first-requires
first_of_all-first-requires c =
    let all = nodes_within c.args.program.now c.args.function.now c.requires.types c.args.judged.variables.now c.requires.typed in
    omega (arith, all)

pub loop-index-preserved : goal.loop-index-preserved
loop-index-preserved c = record {
  first = c.in-Some.ensures.next_is;
  none = more_able c.args.program.now c.args.function.now c.loop-index.index c.in-Some.ensures.able c.loop-index.invariant.none;
}

pub returns-in_default : goal.returns-in_default
returns-in_default c =
    let lacks = MatchOption-at_none (NodeLacksAbility c.args.program.now c.args.function.now c.loop-index.index) (IsAbleTo c.args.program.now c.args.function.now c.loop-index.index) c.in_default.is c.next_if_able.ensures in
    (λ t. node_found c.args.program.now c.args.function.now c.loop-index.index lacks, λ h. refl)

pub returns : goal.returns
returns c =
    none_found c.args.program.now c.args.function.now c.is_signature_lacking.result (λ n lt. c.loop-index.invariant.none n (omega (arith, lt))) c.is_signature_lacking.ensures
