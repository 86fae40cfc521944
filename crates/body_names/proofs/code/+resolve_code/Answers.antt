use Rattle.std.proofs.Common.{◌≡◌, ℕ, ◌+◌, ◌++◌, ◌∷◌, [], List, length, length-append, ap, sym, subst, ◌∙◌}
use Rattle.std.proofs.lemmas.Result.{err_from_is_err_and}
use Rattle.base.specs.declared.span.Span.{Span}
use Rattle.syntax_tree.specs.ExpressionData.{MaybeExpressionData, expressions_of, items_of, maybe_expression_of, NoExpression, SomeExpression}
use Rattle.program.specs.Trees.{NoTrees, MoreTrees}
use Rattle.program.specs.Listed.{IsSound, AreSound}
use Rattle.program.specs.declared.code.CodeMany.TheVariants.{Tuple}
use Rattle.scopes.specs.Meanings.{IfUnknown}
use Rattle.body_names.specs.declared.code.loops.LoopScope.{LoopScope}
use Rattle.body_names.specs.CodeAdded.{Added, AddedAll}
use Rattle.body_names.specs.CodeNames.{names_of, names_of_expressions, names_of_items, names_of_maybe, entered_by_all}
use Rattle.body_names.specs.CodeSpans.{spans_of, spans_of_expressions, spans_of_items, spans_of_maybe}
use Rattle.body_names.specs.CodeTrees.{code_tree, code_trees, item_trees, last_trees}
use Rattle.body_names.specs.Joined.{joined}
use Rattle.body_names.specs.LoopScopes.{loops_of, loops_of_expressions, loops_of_items, loops_of_maybe}
use Rattle.body_names.specs.PatternTrees.{parenthesized}
use Rattle.body_names.specs.CodeSetting.{setting}
use Rattle.body_names.specs.CodeForms.{CodeTree}
use Rattle.body_names.proofs.CodeAddedLaws.{added-parenthesized, parts-below}
use Rattle.body_names.proofs.CodeListings.{own_spans-is}
use Rattle.body_names.proofs.CodeJoinedLaws.{added-no_more, added-one_more, bound-count, same-code}
use Rattle.body_names.proofs.JoinedLaws.{unknown-more, first-needed, second-needed}
use Rattle.body_names.proofs.code.+resolve_code.Goals as goal

pub resolve_block-add-requires : goal.resolve_block-add-requires
resolve_block-add-requires t c = parts-below c.in_ok-parts.ensures.added

pub resolve_many-add-requires : goal.resolve_many-add-requires
resolve_many-add-requires t c = parts-below c.in_ok-parts.ensures.added

pub resolve_pack-add-requires : goal.resolve_pack-add-requires
resolve_pack-add-requires t c = parts-below c.in_ok-parts.ensures.added

pub resolve_tuple-parenthesized-requires : goal.resolve_tuple-parenthesized-requires
resolve_tuple-parenthesized-requires t c = parts-below c.in_ok-parts.ensures.added

pub resolve_tuple-returns-clause-added : goal.resolve_tuple-returns-clause-added
resolve_tuple-returns-clause-added t c =
    let w = setting c.args.context.now in
    let scope = c.args.into.now.scope in
    let n = length c.args.into.now.locals in
    let items = expressions_of c.args.items.now in
    let trees = code_trees w scope n items in
    let loops = loops_of_expressions scope n (length c.args.into.now.body.spans) items in
    let P : List Span → Type 0 = λ own. Added (parenthesized Tuple trees) (spans_of_expressions items ++ own) (names_of_expressions items) loops c.args.into.now c.parenthesized.new.self c.in_ok-index.index in
    subst P (sym (own_spans-is w scope n c.args.span items))
    (added-parenthesized Tuple trees c.args.span c.resolve_values.new.into c.parenthesized.new.self c.in_ok-parts.parts c.in_ok-index.index c.in_ok-parts.ensures.added c.in_ok-index.ensures.closed)

pub resolve_parts-returns-in-None-clause-added : goal.resolve_parts-returns-in-None-clause-added
resolve_parts-returns-in-None-clause-added t c =
    let w = setting c.args.context.now in
    let scope = c.args.into.now.scope in
    let n = length c.args.into.now.locals in
    let k = length c.args.into.now.body.spans in
    let items = items_of c.args.items.now in
    let e : maybe_expression_of c.args.value.now ≡ NoExpression = ap maybe_expression_of c.in-None.is in
    let P : MaybeExpressionData → Type 0 = λ v. AddedAll (joined (item_trees w scope n items) (last_trees w (scope ++ entered_by_all n items) (n + length (names_of_items items)) v)) (spans_of_items items ++ spans_of_maybe v) (names_of_items items ++ names_of_maybe v) (loops_of_items scope n k items ++ loops_of_maybe (scope ++ entered_by_all n items) (n + length (names_of_items items)) (k + length (spans_of_items items)) v) c.args.into.now c.resolve_items.new.into c.in_ok-parts.parts in
    subst P (sym e) (added-no_more c.in_ok-parts.ensures.added)

pub resolve_parts-returns-in_ok-push-in-Some-clause-added : goal.resolve_parts-returns-in_ok-push-in-Some-clause-added
resolve_parts-returns-in_ok-push-in-Some-clause-added t c =
    let w = setting c.args.context.now in
    let old = c.args.into.now in
    let mid = c.resolve_items.new.into in
    let new = c.resolve_code.new.into in
    let x = c.in-Some.value in
    let n = length old.locals in
    let items = items_of c.args.items.now in
    let inside = old.scope ++ entered_by_all n items in
    let count = n + length (names_of_items items) in
    let parts = c.in_ok-parts.parts in
    let part = c.in_ok-part-in-Some.part in
    let e : maybe_expression_of c.args.value.now ≡ SomeExpression x = ap maybe_expression_of c.in-Some.is in
    let scope_is : mid.scope ≡ inside = c.in_ok-parts.ensures.scope in
    let count_is : length mid.locals ≡ count = bound-count old mid (names_of_items items) c.in_ok-parts.ensures.added.locals in
    let first = length old.body.spans in
    let next = first + length (spans_of_items items) in
    let next_is : length mid.body.spans ≡ next = ap length c.in_ok-parts.ensures.added.spans_are ∙ length-append old.body.spans (spans_of_items items) in
    let R : CodeTree → List LoopScope → Type 0 = λ tree loops. Added tree (spans_of x) (names_of x) loops mid new part in
    let there : R (code_tree w inside count x) (loops_of mid.scope (length mid.locals) (length mid.body.spans) x) = subst (λ tree. R tree (loops_of mid.scope (length mid.locals) (length mid.body.spans) x)) (same-code w x scope_is count_is) c.in_ok-part-in-Some.ensures.added in
    let one : R (code_tree w inside count x) (loops_of inside count next x) = subst (λ loops. R (code_tree w inside count x) loops) (λ i. loops_of (scope_is i) (count_is i) (next_is i) x) there in
    let P : MaybeExpressionData → List ℕ → Type 0 = λ v ps. AddedAll (joined (item_trees w old.scope n items) (last_trees w inside count v)) (spans_of_items items ++ spans_of_maybe v) (names_of_items items ++ names_of_maybe v) (loops_of_items old.scope n first items ++ loops_of_maybe inside count next v) old new ps in
    let all : P (SomeExpression x) (parts ++ part ∷ []) = added-one_more c.in_ok-parts.ensures.added one in
    let whole : P (maybe_expression_of c.args.value.now) (parts ++ part ∷ []) = subst (λ v. P v (parts ++ part ∷ [])) (sym e) all in
    subst (λ ps. P (maybe_expression_of c.args.value.now) ps) (sym c.in_ok-push-in-Some.ensures.ok) whole

pub resolve_parts-returns-in_err-parts-clause-unknown : goal.resolve_parts-returns-in_err-parts-clause-unknown
resolve_parts-returns-in_err-parts-clause-unknown t c =
    let w = setting c.args.context.now in
    let old = c.args.into.now in
    let n = length old.locals in
    let items = items_of c.args.items.now in
    let first = item_trees w old.scope n items in
    let last = last_trees w (old.scope ++ entered_by_all n items) (n + length (names_of_items items)) (maybe_expression_of c.args.value.now) in
    let fault = c.in_err-parts.field-0.0 in
    let P : Type 0 = AreSound first → ⊥ in
    let Q : Type 0 = AreSound (joined first last) → ⊥ in
    let g : IfUnknown fault Q = unknown-more fault {P = P} {Q = Q} (first-needed first last) c.in_err-parts.ensures.unknown in
    let p = err_from_is_err_and c.from_residual.result c.from_residual.ensures.1 in
    rw (p.1, p.2) g

pub resolve_parts-returns-in_err-part-in-Some-clause-unknown : goal.resolve_parts-returns-in_err-part-in-Some-clause-unknown
resolve_parts-returns-in_err-part-in-Some-clause-unknown t c =
    let w = setting c.args.context.now in
    let old = c.args.into.now in
    let mid = c.resolve_items.new.into in
    let x = c.in-Some.value in
    let n = length old.locals in
    let items = items_of c.args.items.now in
    let inside = old.scope ++ entered_by_all n items in
    let count = n + length (names_of_items items) in
    let first = item_trees w old.scope n items in
    let fault = c.in_err-part-in-Some.field-0.0 in
    let e : maybe_expression_of c.args.value.now ≡ SomeExpression x = ap maybe_expression_of c.in-Some.is in
    let scope_is : mid.scope ≡ inside = c.in_ok-parts.ensures.scope in
    let count_is : length mid.locals ≡ count = bound-count old mid (names_of_items items) c.in_ok-parts.ensures.added.locals in
    let R : CodeTree → Type 0 = λ tree. IfUnknown fault (IsSound tree → ⊥) in
    let one : R (code_tree w inside count x) = subst R (same-code w x scope_is count_is) c.in_err-part-in-Some.ensures.unknown in
    let Q : MaybeExpressionData → Type 0 = λ v. AreSound (joined first (last_trees w inside count v)) → ⊥ in
    let g : IfUnknown fault (Q (SomeExpression x)) = unknown-more fault {P = IsSound (code_tree w inside count x) → ⊥} {Q = Q (SomeExpression x)} (λ f. second-needed first (MoreTrees (code_tree w inside count x) NoTrees) (λ h. f h.0)) one in
    let there : IfUnknown fault (Q (maybe_expression_of c.args.value.now)) = subst (λ v. IfUnknown fault (Q v)) (sym e) g in
    let p = err_from_is_err_and c.from_residual-in_err-part-in-Some.result c.from_residual-in_err-part-in-Some.ensures.1 in
    rw (p.1, p.2) there
