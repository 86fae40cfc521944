use Rattle.std.proofs.Common.{◌+◌, List, subst}
use Rattle.definite_assignment.specs.Views.{is_in}
use Rattle.definite_assignment.specs.Entries.{Entry}
use Rattle.definite_assignment.specs.Tables.{Gains}
use Rattle.definite_assignment.proofs.Tabled.{many_default}
use Rattle.definite_assignment.proofs.points.entering.enter_many.Goals as goal

pub returns-in_default : goal.returns-in_default
returns-in_default c = λ i base pieces h all.
    subst (λ (es : List Entry). Gains i es c.args.table.now c.enter_in_order.new.table)
    (many_default (base + i) pieces c.args.form.now c.args.parts.now (λ s. is_in c.args.states s i) c.in_default.not-Unpack c.in_default.not-TuplePattern)
    (c.enter_in_order.ensures i base pieces h all)
