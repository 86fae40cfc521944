use Rattle.std.proofs.Common.{refl}
use Rattle.type_check.proofs.KnownTypes.{known}
use Rattle.type_check.proofs.code.variables.types_of.Goals as goal

pub returns : goal.returns
returns c = λ program f is. known program f c.args.typing.now _ refl c.as_slice.ensures.value refl is
