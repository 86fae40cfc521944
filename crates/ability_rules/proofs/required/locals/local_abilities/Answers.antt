use Rattle.std.proofs.Common.{ℕ, ◌+◌, ◌∙◌, ap, List, length, arith}
use Rattle.std.proofs.lemmas.List.{length_push}
use Rattle.program.specs.declared.declaration.AbilitySet.{AbilitySet}
use Rattle.ability_rules.specs.Bodies.{judged_variable}
use Rattle.ability_rules.specs.declared.required.entry.Judged.{Judged}
use Rattle.ability_rules.proofs.LocalSets.{local_sets, more_known}
use Rattle.ability_rules.proofs.required.locals.local_abilities.Goals as goal

pub loop-local-preserved : goal.loop-local-preserved
loop-local-preserved c =
    let push = c.in_ok-push.ensures.items in
    let size = ap (λ (xs : List AbilitySet). length xs) push ∙ length_push c.loop-local.sets.items c.known-of.result.abilities in
    let long = c.loop-local.invariant.len in
    record {
      len = omega (arith, size, long);
      each = more_known c.args.judged.table.now c.args.judged.variables.now (length c.args.function.now.body.nodes) c.loop-local.sets.items c.push.new.self.items c.loop-local.local c.known-of.result.abilities long push
          (ap (λ (j : Judged). j.abilities) c.known-of.ensures ∙ ap (λ (m : ℕ). (judged_variable c.args.judged.table.now c.args.judged.variables.now (m + c.loop-local.local)).abilities) c.len-first.ensures) c.loop-local.invariant.each;
    }

pub returns : goal.returns
returns c = λ program body.
    (let locals = ap (λ (xs : List (List ℕ)). length xs) c.as_slice-local-end.ensures in
    let end = c.loop-local-test.false in
    let last = c.loop-local.auto.local-end in
    let len = c.loop-local.invariant.len in
    local_sets program c.args.function.now c.args.judged.variables.now c.args.judged.table.now c.loop-local.sets.items (omega (arith, locals, end, last, len))
    (λ k lt. c.loop-local.invariant.each k (omega (arith, lt, locals, end))) body)
