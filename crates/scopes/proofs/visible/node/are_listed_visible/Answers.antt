use Rattle.std.proofs.Common.{List, sym, subst}
use Rattle.std.specs.Prelude.{◌↔◌, IsTrue, All}
use Rattle.base.specs.TypeData.{TypeData, list_of_types-types_of}
use Rattle.program.specs.StorageTypes.{TypeIsVisible}
use Rattle.scopes.proofs.visible.node.are_listed_visible.Goals as goal

pub returns : goal.returns
returns c =
    subst (λ (terms : List TypeData). IsTrue c.are_types_visible.result ↔ All (TypeIsVisible c.args.own.now c.args.types.now) terms)
    (sym (list_of_types-types_of c.args.terms.now)) c.are_types_visible.ensures
