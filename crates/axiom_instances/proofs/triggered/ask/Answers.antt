use Rattle.std.proofs.Common.{arith, ap, ◌∙◌, ◌++◌, refl}
use Rattle.std.proofs.lemmas.List.{get_or_read, take_all}
use Rattle.axioms.specs.declared.axiom.Axiom.TheVariants.{Equal}
use Rattle.axioms.specs.declared.axiom.Equation.TheVariants.{Itself}
use Rattle.axiom_instances.specs.declared.triggered.Row.{Row}
use Rattle.axiom_instances.proofs.ListLemmas.{row_within, rows_next, rows_added, triggered_rows}
use Rattle.axiom_instances.proofs.triggered.ask.Goals as goal

pub index-requires : goal.index-requires
index-requires c =
    let d : Row = record { name = Equal Itself; position = 0 } in
    let w = row_within c.in_ok-numbers.ensures.are c.args.rows.now c.loop-row.row-index d c.requires.formulas c.loop-row-test.true in
    omega (arith, c.in_ok-numbers.numbers.ok.0)

pub loop-row-preserved : goal.loop-row-preserved
loop-row-preserved c =
    let d : Row = record { name = Equal Itself; position = 0 } in
    let w = row_within c.in_ok-numbers.ensures.are c.args.rows.now c.loop-row.row-index d c.requires.formulas c.loop-row-test.true in
    rows_next c.args.terms c.in_ok-numbers.numbers.items c.args.rows.now c.loop-row.row-index d _ c.args.list.now.items.items c.loop-row.list.items.items c.push.new.self.items c.loop-row-test.true (get_or_read c.in_ok-numbers.numbers.items _ _ w c.index.ensures 0) c.loop-row.invariant c.in_ok-push.ensures.items

pub returns-clause-adds : goal.returns-clause-adds
returns-clause-adds c =
    let all = c.loop-row.invariant ∙ ap (λ rs. c.args.list.now.items.items ++ triggered_rows c.args.terms c.in_ok-numbers.numbers.items rs) (take_all c.loop-row.row-index c.args.rows.now c.loop-row-test.false) in
    rw all (rows_added c.in_ok-numbers.ensures.are c.args.rows.now c.args.list.now.items.items c.in_ok-numbers.ensures.extends refl c.requires.formulas)
