use Rattle.std.proofs.Common.{◌++◌, Some, None, Option, ℕ, sym, ◌∙◌, ap}
use Rattle.std.proofs.lemmas.Option.{slice_get-get_or}
use Rattle.std.proofs.lemmas.List.{append-nil}
use Rattle.ability_rules.specs.Edges.{argument_edge, of_option}
use Rattle.ability_rules.proofs.polymorphic_recursion.edges.push_argument.Goals as goal

pub returns-in_default : goal.returns-in_default
returns-in_default c =
    let at = slice_get-get_or c.args.given.types.now c.args.variable None c.requires.variable in
    sym (append-nil c.args.into.now.items)
    ∙ ap (λ (o : Option (Option ℕ)). c.args.into.now.items ++ of_option (argument_edge c.args.row c.args.to) o) (sym (at ∙ ap Some c.in_default.is))
