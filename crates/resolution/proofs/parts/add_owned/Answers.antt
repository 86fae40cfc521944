use Rattle.std.proofs.Common.{◌≡◌, ◌<◌, Some, length, take, get_or, sym, ap, subst, ◌∙◌, arith}
use Rattle.std.proofs.lemmas.Result.{err_from_is_err_and}
use Rattle.scopes.specs.Meanings.{IfUnknown}
use Rattle.body_names.proofs.JoinedLaws.{unknown-more}
use Rattle.resolution.specs.Items.{HasUnknownInOwned, HasUnknownOf}
use Rattle.resolution.specs.Owners.{HasUnknownInBlock, member_numbers, module_scope, owner_of}
use Rattle.resolution.specs.OwnersSoFar.{blocks_before, scopes_of}
use Rattle.resolution.specs.Parts.{here_of}
use Rattle.resolution.proofs.PartLaws.{owner_below, owner_of_number, owner_stands, owners_length, owners_more}
use Rattle.resolution.proofs.parts.add_owned.Goals as goal

pub index_mut-owner-requires : goal.index_mut-owner-requires
index_mut-owner-requires c =
    let w = here_of c.args.context.now in
    let spec = c.args.spec.now in
    let e : owner_of (member_numbers w.members) (length w.members) spec ≡ Some c.in-Some.index = ap (λ ns. owner_of ns (length w.members) spec) (sym c.requires.numbers.are) ∙ sym c.in_ok-index.ensures ∙ c.in-Some.is in
    let h = owner_below w.members spec c.in-Some.index e in
    let n = owners_length w (blocks_before w (take c.args.number w.members)) c.args.owners.now.items c.requires.owners in
    omega arith

pub returns-clause-added : goal.returns-clause-added
returns-clause-added c =
    let w = here_of c.args.context.now in
    let spec = c.args.spec.now in
    let k = c.in-Some.index in
    let first = take c.args.number w.members in
    let os = c.args.owners.now.items in
    let old = c.index_mut-owner.result.now in
    let e : owner_of (member_numbers w.members) (length w.members) spec ≡ Some k = ap (λ ns. owner_of ns (length w.members) spec) (sym c.requires.numbers.are) ∙ sym c.in_ok-index.ensures ∙ c.in-Some.is in
    let h = owner_below w.members spec k e in
    let n = owners_length w (blocks_before w first) os c.requires.owners in
    let within : k < length os = omega arith in
    let scope = get_or (scopes_of w) k (module_scope w.environment w.schemas) in
    let after = owner_of_number w first os k old c.requires.owners within c.index_mut-owner.ensures.value in
    owners_more w first spec os k c.add_to_owner.new.owner e within c.requires.owners (c.in_ok-add_to_owner.ensures.added scope (blocks_before w first k) (owner_stands w k) after)

pub returns-clause-known : goal.returns-clause-known
returns-clause-known c = λ u.
    let w = here_of c.args.context.now in
    let spec = c.args.spec.now in
    let k = c.in-Some.index in
    let first = take c.args.number w.members in
    let os = c.args.owners.now.items in
    let old = c.index_mut-owner.result.now in
    let e : owner_of (member_numbers w.members) (length w.members) spec ≡ Some k = ap (λ ns. owner_of ns (length w.members) spec) (sym c.requires.numbers.are) ∙ sym c.in_ok-index.ensures ∙ c.in-Some.is in
    let h = owner_below w.members spec k e in
    let n = owners_length w (blocks_before w first) os c.requires.owners in
    let within : k < length os = omega arith in
    let scope = get_or (scopes_of w) k (module_scope w.environment w.schemas) in
    let after = owner_of_number w first os k old c.requires.owners within c.index_mut-owner.ensures.value in
    c.in_ok-add_to_owner.ensures.known scope (blocks_before w first k) (owner_stands w k) after (subst (λ o. HasUnknownOf w first spec o) e u)

pub returns-in_err-add_to_owner-clause-unknown : goal.returns-in_err-add_to_owner-clause-unknown
returns-in_err-add_to_owner-clause-unknown c =
    let w = here_of c.args.context.now in
    let spec = c.args.spec.now in
    let k = c.in-Some.index in
    let first = take c.args.number w.members in
    let os = c.args.owners.now.items in
    let old = c.index_mut-owner.result.now in
    let e : owner_of (member_numbers w.members) (length w.members) spec ≡ Some k = ap (λ ns. owner_of ns (length w.members) spec) (sym c.requires.numbers.are) ∙ sym c.in_ok-index.ensures ∙ c.in-Some.is in
    let h = owner_below w.members spec k e in
    let n = owners_length w (blocks_before w first) os c.requires.owners in
    let within : k < length os = omega arith in
    let scope = get_or (scopes_of w) k (module_scope w.environment w.schemas) in
    let after = owner_of_number w first os k old c.requires.owners within c.index_mut-owner.ensures.value in
    let fault = c.in_err-add_to_owner.field-0.0 in
    let u : IfUnknown fault (HasUnknownInBlock scope (blocks_before w first k) spec) = c.in_err-add_to_owner.ensures.unknown scope (blocks_before w first k) (owner_stands w k) after in
    let g : IfUnknown fault (HasUnknownInOwned w first spec) = unknown-more fault {P = HasUnknownInBlock scope (blocks_before w first k) spec} {Q = HasUnknownInOwned w first spec} (λ x. subst (λ o. HasUnknownOf w first spec o) (sym e) x) u in
    let p = err_from_is_err_and c.from_residual-in_err-add_to_owner.result c.from_residual-in_err-add_to_owner.ensures.1 in
    rw (p.1, p.2) g
