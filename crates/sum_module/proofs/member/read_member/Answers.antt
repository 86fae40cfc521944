use Rattle.std.proofs.Common.{sym, subst}
use Rattle.std.specs.Prelude.{MatchResult}
use Rattle.sum_read.specs.FormFault.{IfNotBuilt}
use Rattle.sum_module.specs.Members.{IsMember, IsUnbuilt}
use Rattle.sum_module.proofs.member.read_member.Goals as goal

pub returns-in-Function : goal.returns-in-Function
returns-in-Function c = λ members before table set.
    subst (λ form. MatchResult c.read_function_member.result (IsMember members before form) (λ fault. IfNotBuilt fault (IsUnbuilt members before form))) (sym c.in-Function.is) (c.read_function_member.ensures before set)

pub returns-in-Spec : goal.returns-in-Spec
returns-in-Spec c = λ members before table set.
    subst (λ form. MatchResult c.read_spec_member.result (IsMember members before form) (λ fault. IfNotBuilt fault (IsUnbuilt members before form))) (sym c.in-Spec.is) (c.read_spec_member.ensures members table)
