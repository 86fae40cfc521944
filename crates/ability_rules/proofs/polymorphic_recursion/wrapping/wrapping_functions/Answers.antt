use Rattle.std.proofs.Common.{List, length, sym, subst, ◌∙◌, arith}
use Rattle.std.specs.Prelude.{All}
use Rattle.std.proofs.lemmas.Option.{slice_get_within}
use Rattle.base.specs.declared.marked_cycles.edge.MarkedEdge.{MarkedEdge}
use Rattle.base.specs.MarkedCycles.{IsWithin}
use Rattle.ability_rules.specs.declared.polymorphic_recursion.rows.Row.{Row}
use Rattle.ability_rules.specs.Rows.{AreRows}
use Rattle.ability_rules.proofs.Making.{edges_within, if_both}
use Rattle.ability_rules.proofs.Carrying.{known_wrapping}
use Rattle.ability_rules.proofs.polymorphic_recursion.wrapping.wrapping_functions.Goals as goal

pub on_marked_cycle-requires : goal.on_marked_cycle-requires
on_marked_cycle-requires c =
    let program = c.args.program.now in
    let known = c.args.known.now in
    let are = subst (λ (rows : List Row). AreRows program known rows (length known) c.in_ok-rows.count) (sym c.as_slice.ensures.value) c.in_ok-rows.ensures in
    subst (λ (edges : List MarkedEdge). All (IsWithin c.in_ok-rows.count) edges) (sym (c.deref.ensures.value ∙ c.in_ok-edges.ensures.edges))
    (edges_within program known c.as_slice.result.now c.in_ok-rows.count are c.in_ok-edges.ensures.below c.requires)

pub returns-clause-found : goal.returns-clause-found
returns-clause-found c =
    let program = c.args.program.now in
    let known = c.args.known.now in
    if_both _ _ _
    (λ found sized each n id f at.
    let b = slice_get_within program.functions n (id, f) at in
    let long = c.requires.same_length in
    let one = each n (omega (arith, b, long, sized)) id f at in
    let all = known_wrapping program known c.in_ok-rows.rows.items c.as_slice.result.now c.in_ok-rows.count c.as_slice.ensures.value c.in_ok-rows.ensures c.requires
    c.in_ok-edges.edges.items c.deref.result.now c.deref.ensures.value c.in_ok-edges.ensures.edges c.in_ok-edges.ensures.below
    c.in_ok-found.found.items c.deref-2.result.now c.deref-2.ensures.value c.in_ok-found.ensures.len c.in_ok-found.ensures.found id in
    (λ t. all.0 (one.0 t), λ w. one.1 (all.1 w)))
    c.found_functions.result c.found_functions.ensures.len c.found_functions.ensures.found
