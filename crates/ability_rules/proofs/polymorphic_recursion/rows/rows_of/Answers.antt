use Rattle.std.proofs.Common.{refl, ◌∙◌, ap}
use Rattle.std.proofs.lemmas.Option.{slice_get-get_or}
use Rattle.ability_rules.specs.declared.polymorphic_recursion.rows.Row.{Row}
use Rattle.ability_rules.specs.Rows.{row_end}
use Rattle.ability_rules.proofs.Making.{more_rows}
use Rattle.ability_rules.proofs.polymorphic_recursion.rows.rows_of.Goals as goal

pub loop-number-preserved : goal.loop-number-preserved
loop-number-preserved c =
    let known = c.args.known.now in
    let n = c.loop-number.number in
    let row : Row = record { first = c.loop-number.count; parameters = c.parameter_count.result } in
    more_rows c.args.program.now known c.loop-number.rows.items c.push.new.self.items n c.loop-number.count c.in_ok-count.count row _ c.loop-number.invariant
    (slice_get-get_or known n c.index-known-number.result c.loop-number-test.true) refl c.parameter_count.ensures (c.in_ok-count.ensures ∙ ap (row_end row) c.index-known-number.is) c.in_ok-push.ensures.items
