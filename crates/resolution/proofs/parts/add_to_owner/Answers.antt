use Rattle.std.proofs.Common.{◌≡◌, List, refl, ap, subst, ◌∙◌}
use Rattle.std.proofs.lemmas.Result.{err_from_is_err_and}
use Rattle.syntax_tree.specs.declared.clause.Spec.{Spec as SpecTree}
use Rattle.scopes.specs.Meanings.{IfUnknown}
use Rattle.body_names.proofs.JoinedLaws.{unknown-more}
use Rattle.resolution.specs.Clauses.{AddedClauses, HasUnknownBehind, PlacedClause, placed}
use Rattle.resolution.specs.Pragmas.{before_others, pragmas_in, settings_of}
use Rattle.resolution.specs.Owners.{HasUnknownInBlock, OwnerScope, placed_in}
use Rattle.resolution.specs.OwnersSoFar.{IsOwnerAfter, StandsIn}
use Rattle.resolution.specs.Parts.{here_of}
use Rattle.resolution.proofs.OwnerLaws.{code_scope, owner_known, owner_next, owner_unknown, scope_is}
use Rattle.resolution.proofs.parts.add_to_owner.Goals as goal

pub returns-in_err-resolve_block-clause-unknown : goal.returns-in_err-resolve_block-clause-unknown
returns-in_err-resolve_block-clause-unknown c =
    let w = here_of c.args.context.now in
    let old = c.args.owner.now in
    let spec = c.args.spec.now in
    let ps = c.as_slice.result.now in
    let scope = code_scope w ps in
    let fault = c.in_err-resolve_block.field-0.0 in
    let source : placed c.spec_span.result c.clauses_of_spec-trees.result.now ≡ placed_in spec = λ i. placed (c.spec_span.ensures i) (c.clauses_of_spec-trees.ensures i) in
    let R : List PlacedClause → Type 0 = λ ts. IfUnknown fault (HasUnknownBehind scope ts old.target) in
    let here : R (placed_in spec) = subst R source c.in_err-resolve_block.ensures.unknown in
    let g : (o : OwnerScope) (blocks : List SpecTree) → StandsIn w o → IsOwnerAfter o blocks old → IfUnknown fault (HasUnknownInBlock o blocks spec) = λ o blocks st after.
    unknown-more fault {P = HasUnknownBehind scope (placed_in spec) old.target} {Q = HasUnknownInBlock o blocks spec} (owner_unknown o scope blocks spec old (scope_is w o ps st (c.as_slice.ensures.value ∙ after.parameters)) after) here in
    let p = err_from_is_err_and c.from_residual.result c.from_residual.ensures.1 in
    rw (p.1, p.2) g

pub returns-clause-added : goal.returns-clause-added
returns-clause-added c = λ o blocks st after.
    let w = here_of c.args.context.now in
    let old = c.args.owner.now in
    let spec = c.args.spec.now in
    let ps = c.as_slice.result.now in
    let scope = code_scope w ps in
    let source : placed c.spec_span.result c.clauses_of_spec-trees.result.now ≡ placed_in spec = λ i. placed (c.spec_span.ensures i) (c.clauses_of_spec-trees.ensures i) in
    let R : List PlacedClause → Type 0 = λ ts. AddedClauses scope ts old.target c.resolve_block.new.into in
    let here : R (placed_in spec) = subst R source c.in_ok-resolve_block.ensures.added in
    owner_next o scope blocks spec old _ (scope_is w o ps st (c.as_slice.ensures.value ∙ after.parameters)) after here refl
    (c.with_block-owner.ensures ∙ ap (λ ts. before_others (settings_of (pragmas_in ts)) old.settings) c.clauses_of_spec-trees.ensures)

pub returns-clause-known : goal.returns-clause-known
returns-clause-known c = λ o blocks st after.
    let w = here_of c.args.context.now in
    let old = c.args.owner.now in
    let spec = c.args.spec.now in
    let ps = c.as_slice.result.now in
    let scope = code_scope w ps in
    let source : placed c.spec_span.result c.clauses_of_spec-trees.result.now ≡ placed_in spec = λ i. placed (c.spec_span.ensures i) (c.clauses_of_spec-trees.ensures i) in
    let R : List PlacedClause → Type 0 = λ ts. AddedClauses scope ts old.target c.resolve_block.new.into in
    let here : R (placed_in spec) = subst R source c.in_ok-resolve_block.ensures.added in
    owner_known o scope blocks spec old c.resolve_block.new.into (scope_is w o ps st (c.as_slice.ensures.value ∙ after.parameters)) after here
