use Rattle.std.proofs.Common.{◌≡◌, zip, map, subst, ◌∙◌}
use Rattle.std.proofs.lemmas.Result.{err_from_is_err_and}
use Rattle.resolution.specs.Faults.{IsFaultAmong}
use Rattle.resolution.specs.Items.{LoopItem, function_scope, loops_of}
use Rattle.resolution.specs.LoopParts.{AddedLoops}
use Rattle.resolution.specs.Parts.{here_of}
use Rattle.resolution.proofs.OwnerLaws.{code_scope}
use Rattle.resolution.proofs.functions.loop_clauses.Goals as goal

pub returns-in_err-add_loops-clause-unknown : goal.returns-in_err-add_loops-clause-unknown
returns-in_err-add_loops-clause-unknown c =
    let w = here_of c.args.context.now in
    let f = c.args.tree.now in
    let ps = c.as_slice.result.now in
    let same : code_scope w ps ≡ function_scope w f = λ i. code_scope w ((c.as_slice.ensures.value ∙ c.in_ok-names.ensures) i) in
    let loops : zip c.args.scopes.now c.args.loops.now ≡ loops_of f c.args.loops.now = (λ i. zip (c.requires.scopes i) c.args.loops.now) in
    let fault = c.in_err-add_loops.field-0.0 in
    let g = subst (λ ls. IsFaultAmong (map (LoopItem w f) ls) fault) loops (c.in_err-add_loops.ensures.unknown w f same c.requires.outcome) in
    let p = err_from_is_err_and c.from_residual-in_err-add_loops.result c.from_residual-in_err-add_loops.ensures.1 in
    rw (p.1, p.2) g

pub returns-clause-added : goal.returns-clause-added
returns-clause-added c =
    let w = here_of c.args.context.now in
    let f = c.args.tree.now in
    let ps = c.as_slice.result.now in
    let same : code_scope w ps ≡ function_scope w f = λ i. code_scope w ((c.as_slice.ensures.value ∙ c.in_ok-names.ensures) i) in
    let loops : zip c.args.scopes.now c.args.loops.now ≡ loops_of f c.args.loops.now = (λ i. zip (c.requires.scopes i) c.args.loops.now) in
    let there = subst (λ ls. AddedLoops w f ls c.new-found.result c.add_loops.new.into) loops (c.in_ok-add_loops.ensures.added w f same c.requires.outcome) in
    subst (λ old. AddedLoops w f (loops_of f c.args.loops.now) old c.add_loops.new.into) c.new-found.ensures there
