use Rattle.std.proofs.Common.{sym, ap, ◌∙◌}
use Rattle.std.specs.Option.{option_copied}
use Rattle.std.specs.Map.{lookup}
use Rattle.program.specs.Same.{same_function}
use Rattle.ability_rules.proofs.Looks.{declared_is, not_declared}
use Rattle.ability_rules.proofs.acquires.callee.declared_lacks.Goals as goal

pub returns-in-Some : goal.returns-in-Some
returns-in-Some c = λ listed is.
    declared_is listed c.as_slice.result.now (lookup (same_function c.args.callee.now) c.args.program.now.functions) c.in-Some.found.now c.has_missing.result c.in-Some.ensures c.as_slice.ensures (c.has_missing.ensures listed is)

pub returns-in-None : goal.returns-in-None
returns-in-None c = λ listed is.
    not_declared listed (lookup (same_function c.args.callee.now) c.args.program.now.functions) (sym (ap option_copied c.in-None.is) ∙ c.get.ensures)
