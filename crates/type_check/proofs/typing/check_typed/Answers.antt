use Rattle.std.proofs.Common.{subst}
use Rattle.std.specs.Prelude.{MatchOption}
use Rattle.definite_assignment.specs.KnownState.{AreTypedBy}
use Rattle.type_check.specs.Typed.{HasUntyped}
use Rattle.type_check.proofs.Rules.{all_typed}
use Rattle.type_check.proofs.typing.check_typed.Goals as goal

pub returns-in_default : goal.returns-in_default
returns-in_default c =
    let program = c.args.program.now in
    absurd (all_typed program c.requires.determined
    (subst (λ found. MatchOption found (HasUntyped program) (λ known. AreTypedBy program known.items)) c.in_default.is (c.in_ok-known.ensures program c.requires.typings)))
