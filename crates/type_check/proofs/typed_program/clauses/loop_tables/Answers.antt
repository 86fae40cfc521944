use Rattle.std.proofs.Common.{◌≡◌, List, length, sym, ◌∙◌, ap, subst}
use Rattle.std.proofs.lemmas.Bool.{eqb-true}
use Rattle.base.specs.TypeData.{TypeData}
use Rattle.type_check.proofs.Placing.{if_ok_map}
use Rattle.type_check.specs.Clauses.{AreLocals}
use Rattle.type_check.proofs.TypedProgramLists.{nothing_left}
use Rattle.type_check.proofs.LocalLaws.{no_loops}
use Rattle.type_check.proofs.typed_program.clauses.loop_tables.Goals as goal

pub returns-then-is_empty : goal.returns-then-is_empty
returns-then-is_empty c =
    let f = c.args.function.now in
    let size : length c.as_slice.result.now ≡ 0 = eqb-true (length c.as_slice.result.now) 0 (sym c.is_empty.ensures ∙ c.if-is_empty.true) in
    no_loops c.args.program.now f c.args.table.now c.requires.table c.new.result (nothing_left f.loop_clauses (ap (λ xs. length xs) (sym c.as_slice.ensures) ∙ size)) c.new.ensures

pub loop_tables_with-requires-clause-locals : goal.loop_tables_with-requires-clause-locals
loop_tables_with-requires-clause-locals c =
    subst (λ (ts : List TypeData). AreLocals c.args.program.now c.args.function.now ts) (sym c.deref.ensures.value) c.in_ok-locals.ensures

pub returns : goal.returns
returns c =
    if_ok_map c.loop_tables_with.result (λ tables typed. record {
      locals = c.deref.result.now;
      are_locals = subst (λ (ts : List TypeData). AreLocals c.args.program.now c.args.function.now ts) (sym c.deref.ensures.value) c.in_ok-locals.ensures;
      typed = typed;
    })
    c.loop_tables_with.ensures
