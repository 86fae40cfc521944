use Rattle.std.proofs.Common.{◌≡◌, ℕ, ◌+◌, ◌<◌, List, length, sym, ◌∙◌, ap, subst, arith}
use Rattle.std.specs.Prelude.{slice_get}
use Rattle.base.specs.TypeData.{TypeData}
use Rattle.typing_rules.specs.Answers.{HasType}
use Rattle.typing_rules.specs.CodeSystems.{function_system}
use Rattle.type_check.proofs.Placing.{TypesTo, more_types}
use Rattle.type_check.proofs.LocalLaws.{are_locals, local_within, number_within, variable_type, variable_within}
use Rattle.type_check.proofs.typed_program.locals.local_types.Goals as goal

pub local_number-number-requires : goal.local_number-number-requires
local_number-number-requires c =
    let program = c.args.program.now in
    let f = c.args.function.now in
    let below : c.loop-local.local < length f.locals = (let t = c.loop-local-test.true in let is = ap (λ xs. length xs) c.as_slice-local-end.ensures in omega (arith, t, is)) in
    let within = variable_within (function_system program f) c.args.table.now c.requires (length f.body.nodes + c.loop-local.local) (local_within program f c.loop-local.local below) in
    let first = c.len-first.ensures in
    let size = ap (λ xs. length xs) c.as_slice-numbers.ensures in
    omega (arith, within, first, size)

pub term_of-requires : goal.term_of-requires
term_of-requires c =
    number_within (function_system c.args.program.now c.args.function.now) c.args.table.now c.requires (c.len-first.result + c.loop-local.local) c.local_number-number.result
    (ap (λ (xs : List ℕ). slice_get xs (c.len-first.result + c.loop-local.local)) (sym c.as_slice-numbers.ensures) ∙ c.local_number-number.ensures)

pub loop-local-preserved : goal.loop-local-preserved
loop-local-preserved c =
    let s = function_system c.args.program.now c.args.function.now in
    let first = length c.args.function.now.body.nodes in
    let local = c.loop-local.local in
    let has = subst (λ (n : ℕ). HasType s (n + local) c.in_ok-term_of.field-0) c.len-first.ensures
    (subst (λ (t : TypeData). HasType s (c.len-first.result + local) t) (sym c.in_ok-term_of.ensures)
    (variable_type s c.args.table.now c.requires (c.len-first.result + local) c.local_number-number.result
    (ap (λ (xs : List ℕ). slice_get xs (c.len-first.result + local)) (sym c.as_slice-numbers.ensures) ∙ c.local_number-number.ensures))) in
    subst (λ (p : ℕ). TypesTo s first p c.push.new.self.items) (omega arith)
    (more_types s first (first + local) c.loop-local.terms.items c.push.new.self.items c.in_ok-term_of.field-0 c.in_ok-push.ensures.items has c.loop-local.invariant)

pub returns : goal.returns
returns c =
    let f = c.args.function.now in
    let same : c.loop-local.local ≡ length f.locals = (let t = c.loop-local-test.false in let b = c.loop-local.auto.local-end in let is = ap (λ xs. length xs) c.as_slice-local-end.ensures in omega (arith, t, b, is)) in
    are_locals c.args.program.now f c.loop-local.local c.loop-local.terms.items same c.loop-local.invariant
