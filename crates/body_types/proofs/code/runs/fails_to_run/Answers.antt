use Rattle.std.proofs.Common.{◌<◌, ℕ, List, All, length, sym, ap, subst, ◌∙◌, arith}
use Rattle.body_types.specs.Runs.{AreNodeTypes}
use Rattle.body_types.proofs.Running.{none_stated, run_decides}
use Rattle.body_types.proofs.code.runs.fails_to_run.Goals as goal

pub run_of-requires-clause-types : goal.run_of-requires-clause-types
run_of-requires-clause-types c = let e = ap length c.deref.ensures.value in let n = c.in_ok-types.ensures.count in omega (arith, e, n)

pub run_of-requires-clause-known : goal.run_of-requires-clause-known
run_of-requires-clause-known c =
    let five = c.in_ok-pool.ensures.count in
    subst (λ (xs : List ℕ). All (λ n. n < length c.in_ok-pool.pool) xs) (sym c.deref.ensures.value)
    (λ k d lt. let h = c.in_ok-types.ensures.within k d lt in omega (arith, h, five))

pub returns : goal.returns
returns c s has inside = run_decides s c.args.defaulted.now c.args.body.now.nodes c.in_ok-pool.pool c.deref.result.now c.in_ok-value.value c.is_none.result c.requires.sound has c.in_ok-pool.ensures.types
    (ap length c.deref.ensures.value ∙ c.in_ok-types.ensures.count)
    (subst (λ (xs : List ℕ). AreNodeTypes s c.args.body.now.nodes xs) (sym c.deref.ensures.value) (c.in_ok-types.ensures.are s has inside))
    c.in_ok-value.ensures (none_stated c.in_ok-value.value c.is_none.result c.is_none.ensures)
