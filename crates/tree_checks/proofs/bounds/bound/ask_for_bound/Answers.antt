use Rattle.std.proofs.Common.{◌≡◌, ◌↔◌, IsTrue, length, sym, subst, arith}
use Rattle.std.specs.Prelude.{MatchOption}
use Rattle.std.specs.Int.{w128}
use Rattle.std.proofs.lemmas.Int.{to_z-of_z}
use Rattle.linear_arith.specs.Answer.{IsSolution}
use Rattle.tableau.specs.PoolBranches.{branch_in, IsNoTerm}
use Rattle.tableau.specs.Terms.{term_at}
use Rattle.row_reasoning.specs.Rows.{AreNames}
use Rattle.step_checks.specs.Rows.{HasNoRows, AreValuedRows}
use Rattle.tree_checks.specs.Chosen.{AreChosenFor}
use Rattle.tree_checks.specs.Firsts.{IsNameOf, IsFirstNamed}
use Rattle.tree_checks.proofs.BoundsTruthLemmas.{never, refuted}
use Rattle.tree_checks.proofs.AskLemmas.{no_rows_ask, asks_solved, asks_named, asks_exactly}
use Rattle.tree_checks.proofs.bounds.bound.ask_for_bound.Goals as goal

pub returns-in_default : goal.returns-in_default
returns-in_default c =
    let ns = c.args.pool.now in
    let b = branch_in ns c.args.branch.now in
    let grounds = c.args.grounds.now in
    let v = grounds.values in
    let none : HasNoRows ns b v = subst (λ m. MatchOption m (HasNoRows ns b v) (AreValuedRows ns b v)) c.in_default.is c.in_ok-made.ensures in
    never (no_rows_ask ns b (term_at ns c.args.term) c.args.number v grounds.elimination none)

pub returns-then-not-met : goal.returns-then-not-met
returns-then-not-met c =
    let ns = c.args.pool.now in
    let b = branch_in ns c.args.branch.now in
    let grounds = c.args.grounds.now in
    let v = grounds.values in
    let made = c.in-Some.made in
    let are : AreValuedRows ns b v made = subst (λ m. MatchOption m (HasNoRows ns b v) (AreValuedRows ns b v)) c.in-Some.is c.in_ok-made.ensures in
    let met = subst (λ vs. IsTrue c.in_ok-met.met ↔ IsSolution made.rows.rows vs) c.as_slice-values.ensures c.in_ok-met.ensures in
    never (λ h. refuted c.in_ok-met.met c.if-not-met.true met (asks_solved ns c.one_number.ensures c.args.branch.now c.requires.over v made are c.args.term c.requires.term c.args.number grounds.elimination h))

pub name_of-name-requires-clause-named : goal.name_of-name-requires-clause-named
name_of-name-requires-clause-named c =
    let ns = c.args.pool.now in
    let b = branch_in ns c.args.branch.now in
    let v = c.args.grounds.now.values in
    let are : AreValuedRows ns b v c.in-Some.made = subst (λ m. MatchOption m (HasNoRows ns b v) (AreValuedRows ns b v)) c.in-Some.is c.in_ok-made.ensures in
    rw c.as_slice-names.ensures.value are.long

pub is_first_named-requires-clause-named : goal.is_first_named-requires-clause-named
is_first_named-requires-clause-named c =
    let ns = c.args.pool.now in
    let b = branch_in ns c.args.branch.now in
    let v = c.args.grounds.now.values in
    let are : AreValuedRows ns b v c.in-Some.made = subst (λ m. MatchOption m (HasNoRows ns b v) (AreValuedRows ns b v)) c.in-Some.is c.in_ok-made.ensures in
    rw c.as_slice-names.ensures.value are.long

pub is_first_named-requires-clause-positive : goal.is_first_named-requires-clause-positive
is_first_named-requires-clause-positive c = (c.in_ok-met.ensures.0 c.if-not-met.false).positive

pub returns-then-not-first : goal.returns-then-not-first
returns-then-not-first c =
    let ns = c.args.pool.now in
    let b = branch_in ns c.args.branch.now in
    let t = term_at ns c.args.term in
    let grounds = c.args.grounds.now in
    let v = grounds.values in
    let made = c.in-Some.made in
    let name = c.name_of-name.result in
    let are : AreValuedRows ns b v made = subst (λ m. MatchOption m (HasNoRows ns b v) (AreValuedRows ns b v)) c.in-Some.is c.in_ok-made.ensures in
    let named = subst (λ xs. MatchOption name (IsNoTerm b t) (IsNameOf b t xs c.args.term)) c.as_slice-names.ensures.value c.name_of-name.ensures in
    let by_call = c.in_ok-first.ensures are.class (subst (AreNames ns b are.class) (sym c.as_slice-names.ensures.value) are.all_named) in
    let of_number = subst (λ z. IsTrue c.in_ok-first.first ↔ IsFirstNamed b are.class made.rows.classes.keys name z c.as_slice-values.result.now) (to_z-of_z w128 c.args.number c.ranges.number) by_call in
    let of_values = subst (λ vs. IsTrue c.in_ok-first.first ↔ IsFirstNamed b are.class made.rows.classes.keys name c.args.number vs) c.as_slice-values.ensures of_number in
    let first = subst (λ ks. IsTrue c.in_ok-first.first ↔ IsFirstNamed b are.class ks name c.args.number v.values) are.keys of_values in
    never (λ h. refuted c.in_ok-first.first c.if-not-first.true first (asks_named ns c.one_number.ensures c.args.branch.now c.requires.over v made are c.args.term c.requires.term c.args.number grounds.elimination name named h))

pub returns : goal.returns
returns c =
    let ns = c.args.pool.now in
    let b = branch_in ns c.args.branch.now in
    let t = term_at ns c.args.term in
    let grounds = c.args.grounds.now in
    let v = grounds.values in
    let made = c.in-Some.made in
    let name = c.name_of-name.result in
    let are : AreValuedRows ns b v made = subst (λ m. MatchOption m (HasNoRows ns b v) (AreValuedRows ns b v)) c.in-Some.is c.in_ok-made.ensures in
    let named = subst (λ xs. MatchOption name (IsNoTerm b t) (IsNameOf b t xs c.args.term)) c.as_slice-names.ensures.value c.name_of-name.ensures in
    let by_call = c.in_ok-first.ensures are.class (subst (AreNames ns b are.class) (sym c.as_slice-names.ensures.value) are.all_named) in
    let of_number = subst (λ z. IsTrue c.in_ok-first.first ↔ IsFirstNamed b are.class made.rows.classes.keys name z c.as_slice-values.result.now) (to_z-of_z w128 c.args.number c.ranges.number) by_call in
    let of_values = subst (λ vs. IsTrue c.in_ok-first.first ↔ IsFirstNamed b are.class made.rows.classes.keys name c.args.number vs) c.as_slice-values.ensures of_number in
    let first = subst (λ ks. IsTrue c.in_ok-first.first ↔ IsFirstNamed b are.class ks name c.args.number v.values) are.keys of_values in
    let solution = subst (λ vs. IsSolution made.rows.rows vs) c.as_slice-values.ensures (c.in_ok-met.ensures.0 c.if-not-met.false) in
    let most : c.len-most.result ≡ length v.classes.items = (let e = c.len-most.ensures in let l = v.classes.ok.0 in omega (arith, e, l)) in
    let chosen = subst (λ n. IsTrue c.in_ok-chosen.chosen ↔ AreChosenFor n made.rows.rows grounds.elimination v.values) most (subst (λ vs. IsTrue c.in_ok-chosen.chosen ↔ AreChosenFor c.len-most.result made.rows.rows grounds.elimination vs) c.as_slice-values.ensures c.in_ok-chosen.ensures) in
    asks_exactly ns c.one_number.ensures c.args.branch.now c.requires.over v made are c.args.term c.requires.term c.args.number grounds.elimination name named (first.0 c.if-not-first.false) solution c.in_ok-chosen.chosen chosen
