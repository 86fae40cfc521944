use Rattle.std.proofs.Common.{◌≡◌, ◌+◌, length, subst}
use Rattle.std.proofs.lemmas.Result.{err_from_is_err_and}
use Rattle.syntax_tree.specs.SpecExpressionData.{spec_fields_of}
use Rattle.program.specs.Listed.{AreSound}
use Rattle.scopes.specs.Meanings.{IfUnknown}
use Rattle.body_names.specs.SpecAdded.{AddedAll}
use Rattle.body_names.specs.SpecForms.{SpecTrees}
use Rattle.body_names.specs.SpecSetting.{setting}
use Rattle.body_names.specs.SpecNames.{variables_of_fields}
use Rattle.body_names.specs.SpecSpans.{spans_of_fields}
use Rattle.body_names.specs.SpecTrees.{field_trees}
use Rattle.body_names.specs.Joined.{joined}
use Rattle.body_names.proofs.SpecJoinedLaws.{added-both, bound-count, same-fields}
use Rattle.body_names.proofs.JoinedLaws.{first-needed, second-needed, unknown-more}
use Rattle.body_names.proofs.spec.expression.resolve_both.Goals as goal

pub returns-in_err-resolve_fields-clause-unknown : goal.returns-in_err-resolve_fields-clause-unknown
returns-in_err-resolve_fields-clause-unknown c =
    let w = setting c.args.context.now in
    let old = c.args.into.now in
    let n = length old.variables in
    let xs = spec_fields_of c.args.first.now in
    let first = field_trees w old.scope n xs in
    let last = field_trees w old.scope (n + length (variables_of_fields xs)) (spec_fields_of c.args.others.now) in
    let fault = c.in_err-resolve_fields.field-0.0 in
    let P : Type 0 = AreSound first → ⊥ in
    let Q : Type 0 = AreSound (joined first last) → ⊥ in
    let g : IfUnknown fault Q = unknown-more fault {P = P} {Q = Q} (first-needed first last) c.in_err-resolve_fields.ensures.unknown in
    let p = err_from_is_err_and c.from_residual.result c.from_residual.ensures.1 in
    rw (p.1, p.2) g

pub returns-clause-added : goal.returns-clause-added
returns-clause-added c =
    let w = setting c.args.context.now in
    let old = c.args.into.now in
    let mid = c.resolve_fields.new.into in
    let n = length old.variables in
    let xs = spec_fields_of c.args.first.now in
    let ys = spec_fields_of c.args.others.now in
    let count = n + length (variables_of_fields xs) in
    let count_is : length mid.variables ≡ count = bound-count old mid (variables_of_fields xs) c.in_ok-resolve_fields.ensures.added.variables in
    let R : SpecTrees → Type 0 = λ us. AddedAll us (spans_of_fields ys) (variables_of_fields ys) mid c.resolve_fields-2.new.into c.resolve_fields.new.parts c.resolve_fields-2.new.parts in
    let more : R (field_trees w old.scope count ys) = subst R (same-fields w ys c.in_ok-resolve_fields.ensures.scope count_is) c.in_ok-resolve_fields-2.ensures.added in
    added-both c.in_ok-resolve_fields.ensures.added more

pub returns-in_err-resolve_fields-2-clause-unknown : goal.returns-in_err-resolve_fields-2-clause-unknown
returns-in_err-resolve_fields-2-clause-unknown c =
    let w = setting c.args.context.now in
    let old = c.args.into.now in
    let mid = c.resolve_fields.new.into in
    let n = length old.variables in
    let xs = spec_fields_of c.args.first.now in
    let ys = spec_fields_of c.args.others.now in
    let count = n + length (variables_of_fields xs) in
    let count_is : length mid.variables ≡ count = bound-count old mid (variables_of_fields xs) c.in_ok-resolve_fields.ensures.added.variables in
    let first = field_trees w old.scope n xs in
    let last = field_trees w old.scope count ys in
    let fault = c.in_err-resolve_fields-2.field-0.0 in
    let R : SpecTrees → Type 0 = λ us. IfUnknown fault (AreSound us → ⊥) in
    let one : R last = subst R (same-fields w ys c.in_ok-resolve_fields.ensures.scope count_is) c.in_err-resolve_fields-2.ensures.unknown in
    let Q : Type 0 = AreSound (joined first last) → ⊥ in
    let g : IfUnknown fault Q = unknown-more fault {P = AreSound last → ⊥} {Q = Q} (second-needed first last) one in
    let p = err_from_is_err_and c.from_residual-in_err-resolve_fields-2.result c.from_residual-in_err-resolve_fields-2.ensures.1 in
    rw (p.1, p.2) g
