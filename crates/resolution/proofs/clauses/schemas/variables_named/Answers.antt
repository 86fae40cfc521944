use Rattle.std.proofs.Common.{◌≡◌, None}
use Rattle.std.proofs.lemmas.Result.{err_from_is_err_and}
use Rattle.scopes.specs.TypeMeanings.{TypeScope}
use Rattle.scopes.specs.Meanings.{IfUnknown}
use Rattle.scopes.specs.Declares.{listed}
use Rattle.body_names.proofs.JoinedLaws.{unknown-more}
use Rattle.resolution.specs.Parameters.{typed_meaning, typed_names}
use Rattle.resolution.specs.SpecDeclarations.{variables_in, variables_of_clause}
use Rattle.resolution.proofs.VariableLaws.{named_next, named_none}
use Rattle.resolution.proofs.clauses.schemas.variables_named.Goals as goal

pub loop-tree-preserved : goal.loop-tree-preserved
loop-tree-preserved c =
    let w : TypeScope = record { environment = c.args.context.now.environment.now; parameters = c.args.context.now.parameters.now; is_spec = c.args.context.now.is_spec } in
    named_next (typed_meaning w) variables_of_clause c.args.trees.now c.loop-tree.tree-index c.tree-item.result c.loop-tree.variables (listed c.in_ok-found.found) c.push_found.new.into c.loop-tree-test.true c.tree-item.is c.loop-tree.invariant c.in_ok-found.ensures c.in_ok-push_found.ensures

pub returns-in_err-found : goal.returns-in_err-found
returns-in_err-found c =
    let w : TypeScope = record { environment = c.args.context.now.environment.now; parameters = c.args.context.now.parameters.now; is_spec = c.args.context.now.is_spec } in
    let x = c.tree-item.result in
    let xs = c.args.trees.now in
    let fault = c.in_err-found.field-0.0 in
    let P : Type 0 = typed_names w (variables_of_clause x) ≡ None in
    let Q : Type 0 = typed_names w (variables_in xs) ≡ None in
    let needs : P → Q = named_none (typed_meaning w) variables_of_clause xs c.loop-tree.tree-index x c.loop-tree-test.true c.tree-item.is in
    let g : IfUnknown fault Q = unknown-more fault {P = P} {Q = Q} needs c.in_err-found.ensures in
    let p = err_from_is_err_and c.from_residual.result c.from_residual.ensures.1 in
    rw (p.1, p.2) g
