use Rattle.std.proofs.Common.{◌≡◌, ◌+◌, ◌++◌, List, length, sym, subst, ◌∙◌}
use Rattle.std.proofs.lemmas.Result.{err_from_is_err_and}
use Rattle.syntax_tree.specs.SpecExpressionData.{binds_of, triggers_of}
use Rattle.program.specs.Trees.{NoTrees, MoreTrees}
use Rattle.program.specs.Listed.{AreSound}
use Rattle.scopes.specs.declared.scope.InScope.{InScope}
use Rattle.scopes.specs.Meanings.{IfUnknown}
use Rattle.body_names.specs.SpecAdded.{AddedAll}
use Rattle.body_names.specs.SpecForms.{SpecTree, SpecTrees}
use Rattle.body_names.specs.SpecSetting.{setting}
use Rattle.body_names.specs.SpecNames.{entered_by, entered_by_all, variables_of, variables_of_bind, variables_of_binds, variables_of_trigger, variables_of_triggers}
use Rattle.body_names.specs.SpecSpans.{spans_of, spans_of_trigger, spans_of_triggers}
use Rattle.body_names.specs.SpecTrees.{bind_tree, bind_trees, binds_in, trigger_tree, trigger_trees, spec_tree}
use Rattle.body_names.specs.Joined.{joined}
use Rattle.body_names.proofs.SpecAddedLaws.{parts-below}
use Rattle.body_names.proofs.SpecJoinedLaws.{added-both, bound-count, both-count, same-spec, same-triggers}
use Rattle.body_names.proofs.JoinedLaws.{unknown-more, first-needed, second-needed}
use Rattle.body_names.proofs.Listings.{BoundNames, trigger_listing, is_trigger_listing, bind_listing, is_bind_listing, entered-next, bound-next}
use Rattle.body_names.proofs.SpecRemainsLaws.{head-of, listed-less, listed-needs}
use Rattle.body_names.proofs.spec.+resolve_spec.Goals as goal

pub resolve_call-add-requires : goal.resolve_call-add-requires
resolve_call-add-requires t c = parts-below c.new-parts.ensures c.in_ok-resolve_values.ensures.added

pub resolve_pack-add-requires : goal.resolve_pack-add-requires
resolve_pack-add-requires t c = parts-below c.new-parts.ensures c.in_ok-resolve_fields.ensures.added

pub resolve_quantified-add-requires : goal.resolve_quantified-add-requires
resolve_quantified-add-requires t c = parts-below c.new-parts.ensures c.in_ok-bound.ensures.added

pub resolve_ranges-returns-clause-added : goal.resolve_ranges-returns-clause-added
resolve_ranges-returns-clause-added t c =
    let w = setting c.args.context.now in
    let old = c.args.into.now in
    let mid = c.resolve_binds.new.into in
    let n = length old.variables in
    let binds = binds_of c.args.binds.now in
    let terms = triggers_of c.args.triggers.now in
    let inside = old.scope ++ entered_by_all n binds in
    let count = n + length (variables_of_binds binds) in
    let scope_is : mid.scope ≡ inside = c.in_ok-bound.ensures.scope in
    let count_is : length mid.variables ≡ count = bound-count old mid (variables_of_binds binds) c.in_ok-bound.ensures.added.variables in
    let R : SpecTrees → Type 0 = λ ts. AddedAll ts (spans_of_triggers terms) (variables_of_triggers terms) mid c.resolve_triggers.new.into c.resolve_binds.new.parts c.resolve_triggers.new.parts in
    let more : R (trigger_trees w inside count terms) = subst R (same-triggers w terms scope_is count_is) c.in_ok-resolve_triggers.ensures.added in
    added-both c.in_ok-bound.ensures.added more

pub resolve_ranges-returns-in_err-bound-clause-unknown : goal.resolve_ranges-returns-in_err-bound-clause-unknown
resolve_ranges-returns-in_err-bound-clause-unknown t c =
    let w = setting c.args.context.now in
    let old = c.args.into.now in
    let n = length old.variables in
    let binds = binds_of c.args.binds.now in
    let first = bind_trees w old.scope n binds in
    let last = trigger_trees w (old.scope ++ entered_by_all n binds) (n + length (variables_of_binds binds)) (triggers_of c.args.triggers.now) in
    let fault = c.in_err-bound.field-0.0 in
    let P : Type 0 = AreSound first → ⊥ in
    let Q : Type 0 = AreSound (joined first last) → ⊥ in
    let g : IfUnknown fault Q = unknown-more fault {P = P} {Q = Q} (first-needed first last) c.in_err-bound.ensures.unknown in
    let p = err_from_is_err_and c.from_residual.result c.from_residual.ensures.1 in
    rw (p.1, p.2) g

pub resolve_ranges-returns-in_err-resolve_triggers-clause-unknown : goal.resolve_ranges-returns-in_err-resolve_triggers-clause-unknown
resolve_ranges-returns-in_err-resolve_triggers-clause-unknown t c =
    let w = setting c.args.context.now in
    let old = c.args.into.now in
    let mid = c.resolve_binds.new.into in
    let n = length old.variables in
    let binds = binds_of c.args.binds.now in
    let terms = triggers_of c.args.triggers.now in
    let inside = old.scope ++ entered_by_all n binds in
    let count = n + length (variables_of_binds binds) in
    let first = bind_trees w old.scope n binds in
    let last = trigger_trees w inside count terms in
    let fault = c.in_err-resolve_triggers.field-0.0 in
    let scope_is : mid.scope ≡ inside = c.in_ok-bound.ensures.scope in
    let count_is : length mid.variables ≡ count = bound-count old mid (variables_of_binds binds) c.in_ok-bound.ensures.added.variables in
    let R : SpecTrees → Type 0 = λ ts. IfUnknown fault (AreSound ts → ⊥) in
    let one : R last = subst R (same-triggers w terms scope_is count_is) c.in_err-resolve_triggers.ensures.unknown in
    let Q : Type 0 = AreSound (joined first last) → ⊥ in
    let g : IfUnknown fault Q = unknown-more fault {P = AreSound last → ⊥} {Q = Q} (second-needed first last) one in
    let p = err_from_is_err_and c.from_residual-in_err-resolve_triggers.result c.from_residual-in_err-resolve_triggers.ensures.1 in
    rw (p.1, p.2) g

pub resolve_parts-returns-clause-added : goal.resolve_parts-returns-clause-added
resolve_parts-returns-clause-added t c =
    let w = setting c.args.context.now in
    let old = c.args.into.now in
    let mid = c.resolve_ranges.new.into in
    let n = length old.variables in
    let binds = binds_of c.args.binds.now in
    let terms = triggers_of c.args.triggers.now in
    let body = c.args.body.now in
    let inside = old.scope ++ entered_by_all n binds in
    let count = (n + length (variables_of_binds binds)) + length (variables_of_triggers terms) in
    let scope_is : mid.scope ≡ inside = c.in_ok-bound.ensures.scope in
    let count_is : length mid.variables ≡ count = both-count old mid (variables_of_binds binds) (variables_of_triggers terms) c.in_ok-bound.ensures.added.variables in
    let R : SpecTree → Type 0 = λ u. AddedAll (MoreTrees u NoTrees) (spans_of body) (variables_of body) mid c.resolve_part.new.into c.resolve_ranges.new.parts c.resolve_part.new.parts in
    let more : R (spec_tree w inside count body) = subst R (same-spec w body scope_is count_is) c.in_ok-resolve_part.ensures.added in
    added-both c.in_ok-bound.ensures.added more

pub resolve_parts-returns-in_err-bound-clause-unknown : goal.resolve_parts-returns-in_err-bound-clause-unknown
resolve_parts-returns-in_err-bound-clause-unknown t c =
    let w = setting c.args.context.now in
    let old = c.args.into.now in
    let n = length old.variables in
    let binds = binds_of c.args.binds.now in
    let terms = triggers_of c.args.triggers.now in
    let inside = old.scope ++ entered_by_all n binds in
    let count = n + length (variables_of_binds binds) in
    let first = joined (bind_trees w old.scope n binds) (trigger_trees w inside count terms) in
    let last : SpecTrees = MoreTrees (spec_tree w inside (count + length (variables_of_triggers terms)) c.args.body.now) NoTrees in
    let fault = c.in_err-bound.field-0.0 in
    let P : Type 0 = AreSound first → ⊥ in
    let Q : Type 0 = AreSound (joined first last) → ⊥ in
    let g : IfUnknown fault Q = unknown-more fault {P = P} {Q = Q} (first-needed first last) c.in_err-bound.ensures.unknown in
    let p = err_from_is_err_and c.from_residual.result c.from_residual.ensures.1 in
    rw (p.1, p.2) g

pub resolve_parts-returns-in_err-resolve_part-clause-unknown : goal.resolve_parts-returns-in_err-resolve_part-clause-unknown
resolve_parts-returns-in_err-resolve_part-clause-unknown t c =
    let w = setting c.args.context.now in
    let old = c.args.into.now in
    let mid = c.resolve_ranges.new.into in
    let n = length old.variables in
    let binds = binds_of c.args.binds.now in
    let terms = triggers_of c.args.triggers.now in
    let body = c.args.body.now in
    let inside = old.scope ++ entered_by_all n binds in
    let count = (n + length (variables_of_binds binds)) + length (variables_of_triggers terms) in
    let first = joined (bind_trees w old.scope n binds) (trigger_trees w inside (n + length (variables_of_binds binds)) terms) in
    let last : SpecTrees = MoreTrees (spec_tree w inside count body) NoTrees in
    let fault = c.in_err-resolve_part.field-0.0 in
    let scope_is : mid.scope ≡ inside = c.in_ok-bound.ensures.scope in
    let count_is : length mid.variables ≡ count = both-count old mid (variables_of_binds binds) (variables_of_triggers terms) c.in_ok-bound.ensures.added.variables in
    let R : SpecTree → Type 0 = λ u. IfUnknown fault (AreSound (MoreTrees u NoTrees) → ⊥) in
    let one : R (spec_tree w inside count body) = subst R (same-spec w body scope_is count_is) c.in_err-resolve_part.ensures.unknown in
    let Q : Type 0 = AreSound (joined first last) → ⊥ in
    let g : IfUnknown fault Q = unknown-more fault {P = AreSound last → ⊥} {Q = Q} (second-needed first last) one in
    let p = err_from_is_err_and c.from_residual-in_err-resolve_part.result c.from_residual-in_err-resolve_part.ensures.1 in
    rw (p.1, p.2) g

pub resolve_triggers-loop-trigger-preserved : goal.resolve_triggers-loop-trigger-preserved
resolve_triggers-loop-trigger-preserved t c =
    let w = setting c.args.context.now in
    let old = c.args.into.now in
    let now = c.loop-trigger.into in
    let new = c.resolve_trigger.new.into in
    let xs = c.args.triggers.now in
    let i = c.loop-trigger.trigger-index in
    let x = c.trigger-item.result in
    let m = length now.variables in
    let R : List InScope → Type 0 = λ s. AddedAll (trigger_tree w s m x) (spans_of_trigger x) (variables_of_trigger x) now new c.loop-trigger.parts c.resolve_trigger.new.parts in
    let one : R old.scope = subst R c.loop-trigger.invariant.scope c.in_ok-resolve_trigger.ensures.added in
    let next : m + length (variables_of_trigger x) ≡ length new.variables = sym (bound-count now new (variables_of_trigger x) one.variables) in
    record {
      remains = listed-less (trigger_listing w old.scope) (is_trigger_listing w old.scope) (length old.variables) m (length new.variables) xs i x old now new c.args.parts.now c.loop-trigger.parts c.resolve_trigger.new.parts c.loop-trigger-test.true c.trigger-item.is c.loop-trigger.invariant.remains one next;
      scope = c.in_ok-resolve_trigger.ensures.scope ∙ c.loop-trigger.invariant.scope;
    }

pub resolve_triggers-returns-in_err-resolve_trigger-clause-unknown : goal.resolve_triggers-returns-in_err-resolve_trigger-clause-unknown
resolve_triggers-returns-in_err-resolve_trigger-clause-unknown t c =
    let w = setting c.args.context.now in
    let old = c.args.into.now in
    let now = c.loop-trigger.into in
    let xs = c.args.triggers.now in
    let i = c.loop-trigger.trigger-index in
    let x = c.trigger-item.result in
    let n = length old.variables in
    let m = length now.variables in
    let fault = c.in_err-resolve_trigger.field-0.0 in
    let R : List InScope → Type 0 = λ s. IfUnknown fault (AreSound (trigger_tree w s m x) → ⊥) in
    let one : R old.scope = subst R c.loop-trigger.invariant.scope c.in_err-resolve_trigger.ensures.unknown in
    let P : Type 0 = AreSound (trigger_tree w old.scope m x) → ⊥ in
    let Q : Type 0 = AreSound (trigger_trees w old.scope n (triggers_of xs)) → ⊥ in
    let needs : P → Q = λ f s. f (listed-needs (trigger_listing w old.scope) (is_trigger_listing w old.scope) n m xs i x old now c.args.parts.now c.loop-trigger.parts c.loop-trigger-test.true c.trigger-item.is c.loop-trigger.invariant.remains s) in
    let g : IfUnknown fault Q = unknown-more fault {P = P} {Q = Q} needs one in
    let p = err_from_is_err_and c.from_residual.result c.from_residual.ensures.1 in
    rw (p.1, p.2) g

pub resolve_binds-loop-bind-preserved : goal.resolve_binds-loop-bind-preserved
resolve_binds-loop-bind-preserved t c =
    let w = setting c.args.context.now in
    let old = c.args.into.now in
    let now = c.loop-bind.into in
    let new = c.resolve_bind.new.into in
    let xs = c.args.binds.now in
    let i = c.loop-bind.bind-index in
    let x = c.bind-item.result in
    let m = length now.variables in
    let a : BoundNames = record { scope = old.scope; count = length old.variables } in
    let b : BoundNames = record { scope = now.scope; count = m } in
    let d : BoundNames = record { scope = new.scope; count = length new.variables } in
    let one = c.in_ok-resolve_bind.ensures.added in
    let scope_is : now.scope ++ entered_by m x ≡ new.scope = sym c.in_ok-resolve_bind.ensures.scope in
    let count_is : m + length (variables_of_bind x) ≡ length new.variables = sym (bound-count now new (variables_of_bind x) one.variables) in
    let next : record { scope = now.scope ++ entered_by m x; count = m + length (variables_of_bind x) } ≡ d = λ j. record { scope = scope_is j; count = count_is j } in
    let rest = head-of (bind_listing w) (is_bind_listing w) xs i x c.loop-bind-test.true c.bind-item.is in
    record {
      remains = listed-less (bind_listing w) (is_bind_listing w) a b d xs i x old now new c.args.parts.now c.loop-bind.parts c.resolve_bind.new.parts c.loop-bind-test.true c.bind-item.is c.loop-bind.invariant.remains one next;
      scope = entered-next xs i x (old.scope ++ entered_by_all (length old.variables) (binds_of xs)) now.scope new.scope m (length new.variables) rest c.loop-bind.invariant.scope scope_is count_is;
      bound = bound-next w.types xs i x (binds_in w.types (length old.variables) (binds_of xs)) c.loop-bind.bound c.push.new.self c.in_ok-resolve_bind.field-0 m (length new.variables) rest c.loop-bind.invariant.bound c.in_ok-push.ensures.ok c.in_ok-resolve_bind.ensures.bound count_is;
    }

pub resolve_binds-returns-in_err-resolve_bind-clause-unknown : goal.resolve_binds-returns-in_err-resolve_bind-clause-unknown
resolve_binds-returns-in_err-resolve_bind-clause-unknown t c =
    let w = setting c.args.context.now in
    let old = c.args.into.now in
    let now = c.loop-bind.into in
    let xs = c.args.binds.now in
    let i = c.loop-bind.bind-index in
    let x = c.bind-item.result in
    let n = length old.variables in
    let m = length now.variables in
    let fault = c.in_err-resolve_bind.field-0.0 in
    let a : BoundNames = record { scope = old.scope; count = n } in
    let b : BoundNames = record { scope = now.scope; count = m } in
    let P : Type 0 = AreSound (bind_tree w now.scope m x) → ⊥ in
    let Q : Type 0 = AreSound (bind_trees w old.scope n (binds_of xs)) → ⊥ in
    let needs : P → Q = λ f s. f (listed-needs (bind_listing w) (is_bind_listing w) a b xs i x old now c.args.parts.now c.loop-bind.parts c.loop-bind-test.true c.bind-item.is c.loop-bind.invariant.remains s) in
    let g : IfUnknown fault Q = unknown-more fault {P = P} {Q = Q} needs c.in_err-resolve_bind.ensures.unknown in
    let p = err_from_is_err_and c.from_residual.result c.from_residual.ensures.1 in
    rw (p.1, p.2) g
