use Rattle.std.proofs.Common.{◌<◌, ◌≤◌, length, refl, sym, ◌∙◌, ap, arith}
use Rattle.std.specs.Option.{option_map}
use Rattle.std.specs.Map.Iter.{deref_pair}
use Rattle.std.proofs.lemmas.Option.{slice_get_read}
use Rattle.type_check.proofs.CodeFirsts.{nothing_there}
use Rattle.type_check.proofs.SchemasLists.{at_contained}
use Rattle.typing_rules.specs.CodeSystems.{function_system}
use Rattle.type_check.specs.Clauses.{AreFunctionClauses}
use Rattle.type_check.specs.Tables.{IsTable}
use Rattle.type_check.proofs.TypedProgramLists.{paired_at, paired_entry, paired_none, paired_size, paired_taken}
use Rattle.type_check.proofs.typed_program.clauses.function_clauses.Goals as goal
use Rattle.type_check.proofs.typed_program.clauses.function_clauses.Goals.{in-Some+in_ok-one+in_ok-push, in_default}

pub loop-number-init : goal.loop-number-init
loop-number-init c = paired_none (λ f t. AreFunctionClauses c.args.program.now f.1 t) c.args.program.now.functions c.new-all.result.items c.new-all.ensures.items

pub clauses_of-requires-clause-table : goal.clauses_of-requires-clause-table
clauses_of-requires-clause-table c =
    let program = c.args.program.now in
    let tables = c.args.tables.now in
    let n = c.loop-number.number in
    let at = slice_get_read tables (length tables) n c.index-tables-number.result refl c.loop-number-test.true c.index-tables-number.is in
    paired_at (λ f t. IsTable (function_system program f.1) t) program.functions tables n _ _ c.requires.tables (sym c.in-Some.ensures) at

pub clauses_of-requires-clause-declared : goal.clauses_of-requires-clause-declared
clauses_of-requires-clause-declared c = (_, at_contained c.args.program.now.functions c.loop-number.number _ (sym c.in-Some.ensures))

pub loop-number-preserved : goal.loop-number-preserved
loop-number-preserved c =
    let program = c.args.program.now in
    let n = c.loop-number.number in
    let size = paired_size (λ f t. IsTable (function_system program f.1) t) program.functions c.args.tables.now c.requires.tables in
    let below : n < length program.functions = (let t = c.loop-number-test.true in omega (arith, t, size)) in
    elim c.match-entry.branch [
      | in-Some+in_ok-one+in_ok-push w ↦
          paired_entry (λ f t. AreFunctionClauses program f.1 t) program.functions n _ c.loop-number.all.items c.match-entry.all.items w.in_ok-one.one c.loop-number.invariant (sym w.in-Some.ensures) w.in_ok-one.ensures
          (ap (λ ts. ts.items) w.all-is ∙ w.in_ok-push.ensures.items)
      | in_default w ↦ absurd (nothing_there program.functions n below (sym (ap (option_map deref_pair) w.in_default.is) ∙ c.entry.ensures))
    ]

pub returns : goal.returns
returns c =
    let program = c.args.program.now in
    let size = paired_size (λ f t. IsTable (function_system program f.1) t) program.functions c.args.tables.now c.requires.tables in
    let past : length program.functions ≤ c.loop-number.number = (let t = c.loop-number-test.false in omega (arith, t, size)) in
    paired_taken (λ f t. AreFunctionClauses program f.1 t) program.functions c.loop-number.number c.loop-number.all.items past c.loop-number.invariant
