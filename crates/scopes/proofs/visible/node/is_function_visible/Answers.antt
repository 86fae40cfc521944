use Rattle.std.proofs.Common.{sym, ◌∙◌, ap}
use Rattle.std.specs.Option.{option_copied}
use Rattle.std.specs.Map.{lookup}
use Rattle.program.specs.Homes.{function_home}
use Rattle.program.specs.Same.{same_function}
use Rattle.scopes.specs.Visibility.{MayCall}
use Rattle.scopes.specs.Visible.{friends_of}
use Rattle.scopes.proofs.Each.{not_declared, declared}
use Rattle.scopes.proofs.visible.node.is_function_visible.Goals as goal

pub returns-in_default : goal.returns-in_default
returns-in_default c =
    let home = function_home c.args.function.now in
    not_declared (lookup (same_function c.args.function.now) c.args.program.now.functions)
    (λ d. MayCall c.args.own.now home d.visibility (friends_of c.args.program.now home))
    (sym (ap option_copied c.in_default.is) ∙ c.get.ensures)

pub returns : goal.returns
returns c =
    declared c.args.program.now c.args.own.now c.args.function.now c.in-Some.declaration.now c.in_ok-owner.owner c.friends_of-friends.result.now c.may_call.result
    c.in-Some.ensures (c.in_ok-owner.ensures ∙ c.of_function.ensures) c.friends_of-friends.ensures c.may_call.ensures
