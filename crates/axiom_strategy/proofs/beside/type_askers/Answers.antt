use Rattle.std.proofs.Common.{[], ◌∷◌, ◌++◌, map, ap, ◌∙◌}
use Rattle.std.specs.Prelude.{filter}
use Rattle.axiom_instances.specs.Numbers.{term_at}
use Rattle.axiom_strategy.specs.declared.askers.Asker.TheVariants.{Always}
use Rattle.axiom_strategy.specs.Beside.{is_made_vector, alone_asker, beside_askers}
use Rattle.axiom_strategy.proofs.beside.type_askers.Goals as goal

pub returns : goal.returns
returns c =
    let made = filter (λ n. is_made_vector (term_at c.args.pool.now n)) c.args.terms.now in
    let types = c.in_ok-types.types.items in
    let first = c.in_ok-push.ensures.items ∙ ap (λ xs. xs ++ Always ∷ []) c.new-askers.ensures.items in
    let second = c.in_ok-add_types.ensures ∙ ap (λ xs. xs ++ map alone_asker c.args.typings.now) first in
    let third = rw (c.as_slice.ensures.value, c.as_slice-2.ensures.value, c.in_ok-made.ensures) at c.in_ok-add_beside.ensures in
    record { types = types; are = c.in_ok-types.ensures; is = third ∙ ap (λ xs. xs ++ beside_askers made types) second }
