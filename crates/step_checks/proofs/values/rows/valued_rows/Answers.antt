use Rattle.std.proofs.Common.{◌∙◌, ◌↔◌, IsTrue, ap, sym, subst, arith}
use Rattle.std.specs.Prelude.{slice_index, MatchOption}
use Rattle.tableau.specs.PoolBranches.{branch_in}
use Rattle.row_reasoning.specs.Rows.{AreNames, HasNoRows, AreRowsOver}
use Rattle.step_checks.specs.Naming.{AreClassNames}
use Rattle.step_checks.proofs.ValuedLemmas.{filled_names, no_names, none_over_classes, made_over_classes}
use Rattle.step_checks.proofs.values.rows.valued_rows.Goals as goal

pub returns-then-not-branch : goal.returns-then-not-branch
returns-then-not-branch c =
    let ns = c.args.pool.now in
    let b = branch_in ns c.args.branch.now in
    let v = c.args.values.now in
    let exact : IsTrue c.in_ok-is_naming.field-0 ↔ AreClassNames ns b v.names.items = rw c.as_slice-given.ensures.value at c.in_ok-is_naming.ensures in
    no_names ns b v c.in_ok-is_naming.field-0 c.if-not-branch.true exact

pub rows_over-requires-clause-named : goal.rows_over-requires-clause-named
rows_over-requires-clause-named c = rw c.as_slice.ensures.value (omega (arith, c.in_ok-names.ensures.long, c.len.ensures))

pub returns-in_default : goal.returns-in_default
returns-in_default c =
    let ns = c.args.pool.now in
    let b = branch_in ns c.args.branch.now in
    let v = c.args.values.now in
    let exact : IsTrue c.in_ok-is_naming.field-0 ↔ AreClassNames ns b v.names.items = rw c.as_slice-given.ensures.value at c.in_ok-is_naming.ensures in
    let naming : AreClassNames ns b v.names.items = exact.0 c.if-not-branch.false in
    let filled : AreNames ns b naming.class c.in_ok-names.names.items = filled_names ns b naming.class v.names.items c.in_ok-names.names.items (λ n w. c.in_ok-names.ensures.same n (omega (arith, w, c.len.ensures)) ∙ ap (λ xs. slice_index xs n) c.as_slice-given.ensures.value) naming.named in
    let rows = c.in_ok-rows.ensures naming.class naming.classing (subst (AreNames ns b naming.class) (sym c.as_slice.ensures.value) filled) in
    none_over_classes ns c.one_number.ensures c.args.branch.now c.requires.over v naming
    (subst (λ ks. HasNoRows b naming.class ks) c.as_slice-2.ensures.value (subst (λ m. MatchOption m (HasNoRows b naming.class c.as_slice-2.result.now) (AreRowsOver b naming.class c.as_slice-2.result.now)) c.in_default.is rows))

pub returns : goal.returns
returns c =
    let ns = c.args.pool.now in
    let b = branch_in ns c.args.branch.now in
    let v = c.args.values.now in
    let exact : IsTrue c.in_ok-is_naming.field-0 ↔ AreClassNames ns b v.names.items = rw c.as_slice-given.ensures.value at c.in_ok-is_naming.ensures in
    let naming : AreClassNames ns b v.names.items = exact.0 c.if-not-branch.false in
    let filled : AreNames ns b naming.class c.in_ok-names.names.items = filled_names ns b naming.class v.names.items c.in_ok-names.names.items (λ n w. c.in_ok-names.ensures.same n (omega (arith, w, c.len.ensures)) ∙ ap (λ xs. slice_index xs n) c.as_slice-given.ensures.value) naming.named in
    let rows = c.in_ok-rows.ensures naming.class naming.classing (subst (AreNames ns b naming.class) (sym c.as_slice.ensures.value) filled) in
    made_over_classes ns b v naming (record { names = c.in_ok-names.names; rows = c.in-Some.rows }) (omega (arith, c.in_ok-names.ensures.long, c.len.ensures)) filled
    (subst (λ ks. AreRowsOver b naming.class ks c.in-Some.rows) c.as_slice-2.ensures.value (subst (λ m. MatchOption m (HasNoRows b naming.class c.as_slice-2.result.now) (AreRowsOver b naming.class c.as_slice-2.result.now)) c.in-Some.is rows))
