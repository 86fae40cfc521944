use Rattle.std.proofs.Common.{ℕ, ◌+◌, ◌<◌, length, sym, ap, subst, arith}
use Rattle.base.specs.TypeData.{TypeData}
use Rattle.typing_rules.specs.Answers.{HasType}
use Rattle.typing_rules.specs.CodeSystems.{function_system}
use Rattle.type_check.proofs.Placing.{TypesTo, more_types}
use Rattle.type_check.proofs.spec.loops.local_types.Goals as goal

pub returns-in-None : goal.returns-in-None
returns-in-None c =
    let s = function_system c.args.program.now c.args.function.now in
    let below : c.loop-local.local < length c.args.function.now.locals = (let t = c.loop-local-test.true in let is = ap (λ xs. length xs) c.as_slice-local-end.ensures in omega (arith, t, is)) in (
      c.loop-local.local,
      (
        below,
        λ of h. c.requires.lacks (c.len-first.result + c.loop-local.local) of c.in-None.ensures
            (subst (λ (n : ℕ). HasType s (n + c.loop-local.local) of) (sym c.len-first.ensures) h),
      ),
    )

pub loop-local-preserved : goal.loop-local-preserved
loop-local-preserved c =
    let s = function_system c.args.program.now c.args.function.now in
    let first = length c.args.function.now.body.nodes in
    let local = c.loop-local.local in
    let has = subst (λ (n : ℕ). HasType s (n + local) c.in_ok-term_of-in-Some.field-0) c.len-first.ensures
    (subst (λ (t : TypeData). HasType s (c.len-first.result + local) t) (sym c.in_ok-term_of-in-Some.ensures) (c.requires.has (c.len-first.result + local) c.in-Some.number c.in-Some.ensures)) in
    subst (λ (p : ℕ). TypesTo s first p c.push.new.self.items) (omega arith)
    (more_types s first (first + local) c.loop-local.terms.items c.push.new.self.items c.in_ok-term_of-in-Some.field-0 c.in_ok-push-in-Some.ensures.items has c.loop-local.invariant)
