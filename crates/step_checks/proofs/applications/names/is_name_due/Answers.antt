use Rattle.std.proofs.Common.{sym, arith}
use Rattle.std.proofs.lemmas.Option.{slice_get_within}
use Rattle.tableau.specs.Numbers.{formula_at}
use Rattle.tableau.proofs.UnnamedLemmas.{no_entry}
use Rattle.step_checks.proofs.GivenLemmas.{never}
use Rattle.step_checks.proofs.NameLemmas.{name_given, named_read, least_read, name_read}
use Rattle.step_checks.proofs.applications.names.is_name_due.Goals as goal

pub returns-in_default-clause-exact : goal.returns-in_default-clause-exact
returns-in_default-clause-exact c =
    never (λ due. (no_entry c.args.pool.now c.args.branch.now c.args.entry (sym c.in_default.ensures)).none c.args.variable (formula_at c.args.pool.now c.args.formula) due)

pub is_named-named-requires : goal.is_named-named-requires
is_named-named-requires c =
    let within = slice_get_within c.args.branch.now.entries c.args.entry c.in-Some.at (sym c.in-Some.ensures) in
    omega (arith, within, c.in_ok-least.ensures.all)

pub returns-clause-exact : goal.returns-clause-exact
returns-clause-exact c =
    let ns = c.args.pool.now in
    let d = c.args.branch.now in
    name_given ns d c.args.entry c.in-Some.at (sym c.in-Some.ensures) c.args.variable (formula_at ns c.args.formula) c.is_same-is_least.result c.is_false-is_unnamed.result c.in_ok-is_body.is_body c.is_shallow-shallow.result c.are_all.result c.ranges.variable.fits
    (least_read c.from.ensures c.is_same-is_least.ensures c.in_ok-least.ensures.is)
    (named_read c.is_false-is_unnamed.ensures (c.is_named-named.ensures ns d.entries c.in_ok-least.ensures.above c.in_ok-least.ensures.all))
    (name_read (formula_at ns c.args.formula) c.variable-name.ensures c.in_ok-whole.ensures c.in_ok-is_body.ensures)
    c.is_shallow-shallow.ensures c.are_all.ensures
