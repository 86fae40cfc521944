use Rattle.std.proofs.Common.{◌<◌, ◌≤◌, List, length, sym, ◌∙◌, ap, subst, arith}
use Rattle.std.specs.Option.{option_map}
use Rattle.std.specs.Map.Iter.{deref_pair}
use Rattle.base.specs.TypeData.{NoTypes}
use Rattle.program.specs.declared.clause.Clause.{Clause}
use Rattle.type_check.proofs.CodeFirsts.{nothing_there}
use Rattle.type_check.proofs.SchemasLists.{at_contained}
use Rattle.typing_rules.specs.Clauses.{ModuleBlock, module_names}
use Rattle.type_check.specs.Clauses.{AreClauseTables, AreSettled}
use Rattle.type_check.proofs.TypedProgramLists.{paired_entry, paired_none, paired_taken}
use Rattle.type_check.proofs.Owners.{module_settled}
use Rattle.type_check.proofs.typed_program.clauses.module_clauses.Goals as goal
use Rattle.type_check.proofs.typed_program.clauses.module_clauses.Goals.{in-Some+in_ok-tables+in_ok-push, in_default}

pub loop-number-init : goal.loop-number-init
loop-number-init c = paired_none (λ e t. AreClauseTables c.args.program.now module_names ModuleBlock NoTypes e.1.clauses t) c.args.program.now.modules c.new-all.result.items c.new-all.ensures.items

pub owner_tables-requires-clause-settled : goal.owner_tables-requires-clause-settled
owner_tables-requires-clause-settled c =
    let program = c.args.program.now in
    let declared = c.in-Some.declared.now in
    subst (λ (cs : List Clause). AreSettled program module_names ModuleBlock NoTypes cs) (sym c.as_slice-clauses.ensures)
    (module_settled program c.requires.determined _ declared (at_contained program.modules c.loop-number.number _ (sym c.in-Some.ensures)))

pub loop-number-preserved : goal.loop-number-preserved
loop-number-preserved c =
    let program = c.args.program.now in
    let n = c.loop-number.number in
    let below : n < length program.modules = (let t = c.loop-number-test.true in let is = c.len-number-end.ensures in omega (arith, t, is)) in
    elim c.match-entry.branch [
      | in-Some+in_ok-tables+in_ok-push w ↦
          paired_entry (λ e t. AreClauseTables program module_names ModuleBlock NoTypes e.1.clauses t) program.modules n _ c.loop-number.all.items c.match-entry.all.items w.in_ok-tables.tables c.loop-number.invariant (sym w.in-Some.ensures)
          (subst (λ (cs : List Clause). AreClauseTables program module_names ModuleBlock NoTypes cs w.in_ok-tables.tables) w.as_slice-clauses.ensures w.in_ok-tables.ensures)
          (ap (λ ts. ts.items) w.all-is ∙ w.in_ok-push.ensures.items)
      | in_default w ↦ absurd (nothing_there program.modules n below (sym (ap (option_map deref_pair) w.in_default.is) ∙ c.entry.ensures))
    ]

pub returns : goal.returns
returns c =
    let program = c.args.program.now in
    let past : length program.modules ≤ c.loop-number.number = (let t = c.loop-number-test.false in let is = c.len-number-end.ensures in omega (arith, t, is)) in
    paired_taken (λ e t. AreClauseTables program module_names ModuleBlock NoTypes e.1.clauses t) program.modules c.loop-number.number c.loop-number.all.items past c.loop-number.invariant
