use Rattle.std.proofs.Common.{◌≡◌, arith, rules}
use Rattle.std.proofs.lemmas.Grind.{common_steps}
use Rattle.base.specs.TypeData.{list_of_types}
use Rattle.type_constraints.proofs.Arguments.{listed_types}
use Rattle.type_constraints.proofs.spec.structs.add_pack.Goals as goal

pub returns : goal.returns
returns c =
    let same : list_of_types c.args.named.now.types ≡ c.deref.result.now = grind (arith, listed_types, c.named.view_is, c.deref.ensures.value) in
    rw same (first_of (search rules, grind (arith, common_steps)))
