use Rattle.std.proofs.Common.{◌≡◌, ◌<◌, ℕ, List, [], sym, ap, ◌∙◌, subst}
use Rattle.std.specs.Prelude.{Contains}
use Rattle.linear_arith.specs.Values.{AreValues}
use Rattle.step_checks.specs.Given.{rows_of, width_of}
use Rattle.step_checks.specs.GivenValues.{AreGivenValues}
use Rattle.step_checks.specs.Sets.{IsNumberSet}
use Rattle.step_checks.proofs.CheckLemmas.{refused, decided_false}
use Rattle.step_checks.proofs.GivenValueLemmas.{valued, distinct_unknowns, different_unknowns, valued_of, given_decided, if_decided}
use Rattle.step_checks.proofs.EliminationNumberLemmas.{AreDistinct}
use Rattle.step_checks.proofs.ValueLemmas.{different_of}
use Rattle.step_checks.proofs.elimination.values.are_given_values.Goals as goal

pub returns-in_default-2 : goal.returns-in_default-2
returns-in_default-2 c =
    let values = c.args.values.now in
    let given = c.args.given.now in
    let same : c.as_slice.result.now ≡ valued values = c.as_slice.ensures.value ∙ c.in_ok-valued.ensures in
    let none = rw c.in_default-2.is at c.in_ok-known.ensures.none in
    decided_false (AreGivenValues c.args.rows.now given values) (λ g. none (subst (λ (ns : List ℕ). AreDistinct ns) (sym same) (distinct_unknowns values (different_of (rows_of given.rows.items) given.unknowns.items [] values g.are_values))))

pub returns-then-not-has_each_below : goal.returns-then-not-has_each_below
returns-then-not-has_each_below c =
    let values = c.args.values.now in
    let rows = c.args.rows.now in
    let same : c.as_slice.result.now ≡ valued values = c.as_slice.ensures.value ∙ c.in_ok-valued.ensures in
    let width : c.greatest_width.result ≡ width_of rows = c.greatest_width.ensures ∙ ap width_of c.as_slice-2.ensures in
    let some = rw c.in-Some-2.is at c.in_ok-known.ensures.some in
    let set : IsNumberSet (valued values) c.in-Some-2.known = subst (λ (ns : List ℕ). IsNumberSet ns c.in-Some-2.known) same some in
    decided_false (AreGivenValues rows c.args.given.now values) (λ g. refused c.has_each_below.result ((n : ℕ) → n < c.greatest_width.result → Contains (valued values) n) c.if-not-has_each_below.true (c.has_each_below.ensures (valued values) set) (λ n l. valued_of values n (g.covered n (subst (λ (w : ℕ). n < w) width l))))

pub are_values-requires-clause-different : goal.are_values-requires-clause-different
are_values-requires-clause-different c =
    let values = c.args.values.now in
    let same : c.as_slice.result.now ≡ valued values = c.as_slice.ensures.value ∙ c.in_ok-valued.ensures in
    let distinct = rw c.in-Some-2.is at c.in_ok-known.ensures.different in
    different_unknowns values (subst (λ (ns : List ℕ). AreDistinct ns) same distinct)

pub returns : goal.returns
returns c =
    let values = c.args.values.now in
    let rows = c.args.rows.now in
    let given = c.args.given.now in
    let same : c.as_slice.result.now ≡ valued values = c.as_slice.ensures.value ∙ c.in_ok-valued.ensures in
    let width : c.greatest_width.result ≡ width_of rows = c.greatest_width.ensures ∙ ap width_of c.as_slice-2.ensures in
    let some = rw c.in-Some-2.is at c.in_ok-known.ensures.some in
    let set : IsNumberSet (valued values) c.in-Some-2.known = subst (λ (ns : List ℕ). IsNumberSet ns c.in-Some-2.known) same some in
    let below = (c.has_each_below.ensures (valued values) set).0 c.if-not-has_each_below.false in
    let covered : (n : ℕ) → n < width_of rows → Contains (valued values) n = λ n l. below n (subst (λ (w : ℕ). n < w) (sym width) l) in
    let found : c.in_ok-found.found ≡ rows_of given.rows.items = c.in_ok-found.ensures ∙ ap rows_of c.as_slice-3.ensures.value in
    let distinct = rw c.in-Some.is at c.in_ok-eliminated.ensures.different in
    let elimination = c.in_ok-is_complete_elimination.ensures.0 c.if-not-branch.false in
    if_decided c.are_values.result (AreValues c.in_ok-found.found c.as_slice-unknowns.result.now [] values) (AreGivenValues rows given values) (given_decided rows given values c.in_ok-found.found c.as_slice-unknowns.result.now found c.as_slice-unknowns.ensures.value elimination distinct covered) c.are_values.ensures
