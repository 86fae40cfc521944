use Rattle.std.proofs.Common.{◌≡◌, ◌<◌, length, rules, sym, ◌∙◌, pos, arith}
use Rattle.std.specs.Prelude.{FitsSigned}
use Rattle.std.specs.Int.{w128}
use Rattle.std.proofs.lemmas.Int.{ints, to_z-of_z}
use Rattle.std.proofs.lemmas.List.{get_or_past, get_or_default}
use Rattle.step_checks.proofs.RestLemmas.{ok_map, value_passed, value_put}
use Rattle.step_checks.specs.Rests.{IsWithout}
use Rattle.step_checks.proofs.met_rows.rest.with_value.Goals as goal

pub returns-then-value-len : goal.returns-then-value-len
returns-then-value-len c = λ form h. value_passed form c.args.rest c.args.value c.requires h (get_or_past c.args.rest.left.items c.args.value.unknown (pos 0) (omega (arith, c.len.ensures, c.args.rest.left.ok.0, c.if-value-len.true)))

pub returns-then-coefficient-eq0 : goal.returns-then-coefficient-eq0
returns-then-coefficient-eq0 c = λ form h. (
    let items = c.args.rest.left.items in
    let u = c.args.value.unknown in
    let here = c.index-coefficient.result.now in
    let f : FitsSigned w128 here = search rules in
    let zero : here ≡ pos 0 = omega (arith, ints, c.if-coefficient-eq0.true, f) in
    value_passed form c.args.rest c.args.value c.requires h (get_or_default items u (pos 0) here (omega (arith, c.len.ensures, c.args.rest.left.ok.0, c.if-value-len.false)) ∙ sym c.index-coefficient.ensures ∙ zero))

pub without-requires-clause-within : goal.without-requires-clause-within
without-requires-clause-within c = omega (arith, c.len.ensures, c.args.rest.left.ok.0, c.if-value-len.false)

pub returns : goal.returns
returns c = λ form h. (
    let items = c.args.rest.left.items in
    let u = c.args.value.unknown in
    let here = c.index-coefficient.result.now in
    let f : FitsSigned w128 here = search rules in
    let within : u < length items = omega (arith, c.len.ensures, c.args.rest.left.ok.0, c.if-value-len.false) in
    ok_map c.without.result
    (λ made (w : IsWithout c.args.rest here c.args.value made). value_put form c.args.rest c.args.value c.requires h made here within (get_or_default items u (pos 0) here within ∙ sym c.index-coefficient.ensures) w)
    (simp to_z-of_z at c.without.ensures))
