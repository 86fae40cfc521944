use Rattle.std.proofs.Common.{List, length, refl, ◌∙◌, ap, arith}
use Rattle.std.proofs.lemmas.List.{length_push}
use Rattle.typing_rules.specs.Pools.{types}
use Rattle.ability_rules.specs.declared.required.entry.Judged.{Judged}
use Rattle.ability_rules.specs.declared.required.entry.JudgedTypes.{JudgedTypes}
use Rattle.ability_rules.proofs.Entries.{parts_known, known_more}
use Rattle.ability_rules.proofs.required.entry.judge_types.Goals as goal

pub entry_abilities-requires : goal.entry_abilities-requires
entry_abilities-requires c =
    parts_known c.loop-number.table c.args.pool.now c.args.start c.loop-number.number c.entry-entry.result.now c.loop-number.invariant.start c.loop-number.auto.number c.loop-number.invariant.len c.requires.parts c.entry-entry.ensures.entry c.entry-entry.ensures.below

pub entry_constrained-requires : goal.entry_constrained-requires
entry_constrained-requires c =
    parts_known c.loop-number.table c.args.pool.now c.args.start c.loop-number.number c.entry-entry.result.now c.loop-number.invariant.start c.loop-number.auto.number c.loop-number.invariant.len c.requires.parts c.entry-entry.ensures.entry c.entry-entry.ensures.below

pub loop-number-preserved : goal.loop-number-preserved
loop-number-preserved c =
    let old = c.loop-number.table in
    let judged : Judged = record { abilities = c.entry_abilities.result; is_constrained = c.entry_constrained.result } in
    let new : JudgedTypes = record { start = c.loop-number.table.start; judged = c.push.new.self } in
    let start = c.loop-number.invariant.start in
    let first = c.loop-number.auto.number in
    let len = c.loop-number.invariant.len in
    let parts = parts_known old c.args.pool.now c.args.start c.loop-number.number c.entry-entry.result.now start first len c.requires.parts c.entry-entry.ensures.entry c.entry-entry.ensures.below in
    let size = ap (λ (xs : List Judged). length xs) c.in_ok-push.ensures.items ∙ length_push old.judged.items judged in
    record {
      start = start;
      len = omega (arith, size, first, len);
      known = known_more c.args.structs.now c.args.params.now (types c.args.pool.now) old new c.loop-number.number c.entry-entry.result.now judged c.loop-number.invariant.known parts
          (omega (arith, start, first)) (omega (arith, start, len)) refl c.in_ok-push.ensures.items c.entry-entry.ensures.one c.entry_abilities.ensures c.entry_constrained.ensures;
    }

pub returns-clause-len : goal.returns-clause-len
returns-clause-len c =
    let len = c.loop-number.invariant.len in
    let within = c.requires.within in
    let all = c.len-number-end.ensures in
    let last = c.loop-number.auto.number-end (omega (arith, within, all)) in
    let end = c.loop-number-test.false in
    omega (arith, len, last, all, end)
