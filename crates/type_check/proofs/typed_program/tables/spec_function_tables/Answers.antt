use Rattle.std.proofs.Common.{◌<◌, ◌≤◌, length, sym, ◌∙◌, ap, arith}
use Rattle.std.specs.Option.{option_map}
use Rattle.std.specs.Map.Iter.{deref_pair}
use Rattle.type_check.proofs.SchemasLists.{at_contained}
use Rattle.typing_rules.specs.Clauses.{spec_function_system}
use Rattle.type_check.specs.Tables.{IsTable}
use Rattle.type_check.proofs.CodeFirsts.{nothing_there}
use Rattle.type_check.proofs.TypedProgramLists.{paired_entry, paired_none, paired_taken}
use Rattle.type_check.proofs.Settled.{settled_spec_function}
use Rattle.type_check.proofs.typed_program.tables.spec_function_tables.Goals as goal
use Rattle.type_check.proofs.typed_program.tables.spec_function_tables.Goals.{in-Some+in_ok-table+in_ok-push, in_default}

pub loop-number-init : goal.loop-number-init
loop-number-init c = paired_none (λ e t. IsTable (spec_function_system c.args.program.now e.1) t) c.args.program.now.spec_functions c.new-tables.result.items c.new-tables.ensures.items

pub spec_function_table-requires-clause-settled : goal.spec_function_table-requires-clause-settled
spec_function_table-requires-clause-settled c =
    settled_spec_function c.args.program.now c.requires.determined _ c.in-Some.function.now (at_contained c.args.program.now.spec_functions c.loop-number.number _ (sym c.in-Some.ensures))

pub loop-number-preserved : goal.loop-number-preserved
loop-number-preserved c =
    let program = c.args.program.now in
    let n = c.loop-number.number in
    let below : n < length program.spec_functions = (let t = c.loop-number-test.true in let is = c.len-number-end.ensures in omega (arith, t, is)) in
    elim c.match-entry.branch [
      | in-Some+in_ok-table+in_ok-push w ↦
          paired_entry (λ e t. IsTable (spec_function_system c.args.program.now e.1) t) program.spec_functions n _ c.loop-number.tables.items c.match-entry.tables.items w.in_ok-table.table c.loop-number.invariant (sym w.in-Some.ensures) w.in_ok-table.ensures
          (ap (λ ts. ts.items) w.tables-is ∙ w.in_ok-push.ensures.items)
      | in_default w ↦ absurd (nothing_there program.spec_functions n below (sym (ap (option_map deref_pair) w.in_default.is) ∙ c.entry.ensures))
    ]

pub returns : goal.returns
returns c =
    let program = c.args.program.now in
    let past : length program.spec_functions ≤ c.loop-number.number = (let t = c.loop-number-test.false in let is = c.len-number-end.ensures in omega (arith, t, is)) in
    paired_taken (λ e t. IsTable (spec_function_system c.args.program.now e.1) t) program.spec_functions c.loop-number.number c.loop-number.tables.items past c.loop-number.invariant
