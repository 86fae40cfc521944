use Rattle.std.proofs.Common.{sym, subst, arith}
use Rattle.base.specs.TypeData.{TypeData}
use Rattle.typing_rules.specs.Answers.{HasType}
use Rattle.type_check.proofs.Placing.{more_types, no_variable, no_types, variable_of}
use Rattle.type_check.proofs.clauses.arguments.types_between.Goals as goal

pub loop-variable-init : goal.loop-variable-init
loop-variable-init c = record {
  begins = omega arith;
  types = λ s says. no_types s c.args.first c.new-terms.result.items c.new-terms.ensures.items;
}

pub returns-in-None : goal.returns-in-None
returns-in-None c s says = (
  c.loop-variable.variable,
  (
    c.loop-variable.invariant.begins,
    c.loop-variable-test.true,
    no_variable s c.args.pool.now c.loop-variable.variable c.in_ok-number_of.field-0 c.in-None.is (c.in_ok-number_of.ensures s c.args.pool.now says),
  ),
)

pub term_of-requires : goal.term_of-requires
term_of-requires c =
    let typed = c.requires.typed in
    (variable_of typed.0 c.args.pool.now c.loop-variable.variable c.in_ok-number_of.field-0 c.in-Some.number c.in-Some.is (c.in_ok-number_of.ensures typed.0 c.args.pool.now typed.1)).0

pub loop-variable-preserved : goal.loop-variable-preserved
loop-variable-preserved c = record {
  begins = (let b = c.loop-variable.invariant.begins in omega (arith, b));
  types = λ s says.
      let at = variable_of s c.args.pool.now c.loop-variable.variable c.in_ok-number_of.field-0 c.in-Some.number c.in-Some.is (c.in_ok-number_of.ensures s c.args.pool.now says) in
      more_types s c.args.first c.loop-variable.variable c.loop-variable.terms.items c.push.new.self.items c.in_ok-term_of-in-Some.field-0 c.in_ok-push-in-Some.ensures.items
      (subst (λ (t : TypeData). HasType s c.loop-variable.variable t) (sym c.in_ok-term_of-in-Some.ensures) at.1) (c.loop-variable.invariant.types s says);
}

pub returns : goal.returns
returns c s says =
    let to = c.loop-variable.invariant.types s says in
    let size = to.size in
    let past = c.loop-variable-test.false in
    let bound = c.loop-variable.auto.variable-end in
    (omega (arith, size, past, bound), to.each)
