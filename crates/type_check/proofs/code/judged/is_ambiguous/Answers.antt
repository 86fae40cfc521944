use Rattle.type_check.proofs.Typings.{typed_is_settled}
use Rattle.type_check.proofs.code.judged.is_ambiguous.Goals as goal

pub returns-in-Typed : goal.returns-in-Typed
returns-in-Typed c = typed_is_settled c.args.typing.now _ _ c.in-Typed.is
