-- Values that require a bound on a term, by the representative of its class.
use Rattle.std.proofs.Common.{◌≡◌, ◌↔◌, ℕ, suc, ◌<◌, ◌^◌, Bool, true, false, IsTrue, ℤ, List, ◌∷◌, ◌++◌, length, take, drop, cond, Option, Some, None, refl, sym, ap, ◌∙◌, subst, arith}
use Rattle.std.specs.Prelude.{slice_get, All, MatchOption}
use Rattle.std.proofs.Math.Seq.{split_at, take-append_seam, get_or-append_seam}
use Rattle.std.proofs.lemmas.List.{length-append}
use Rattle.std.proofs.lemmas.Option.{slice_get-get_or, slice_get_within, get_or_from_slice_get}
use Rattle.fol.specs.declared.shapes.Shape.{Shape}
use Rattle.fol.specs.FormulaData.{TermData}
use Rattle.certificates.specs.Linear.{same_term}
use Rattle.certificates.proofs.Sums.{same_term-equal, same_term_itself}
use Rattle.linear_arith.specs.Inequality.{Inequality}
use Rattle.linear_arith.specs.declared.rows.Fraction.{Fraction}
use Rattle.linear_arith.specs.Answer.{IsSolution}
use Rattle.step_checks.specs.declared.elimination.GivenElimination.{GivenElimination}
use Rattle.term_pool.specs.Pools.{IsOneNumber}
use Rattle.term_pool.specs.declared.node.Node.{Node}
use Rattle.certificates.specs.BranchesBranch.{Branch, formulas, IsTerm}
use Rattle.certificates.specs.Names.{above_all}
use Rattle.certificates.specs.Due.{IsSaturated}
use Rattle.certificates.specs.Rows.{AreBranchRows, IsClassing, IsWholeIfNumber}
use Rattle.tableau.specs.PoolBranches.{BranchData, branch_in, IsTermNumber, IsNoTerm, IsOver}
use Rattle.tableau.specs.Terms.{term_at}
use Rattle.row_reasoning.specs.Rows.{AreNames}
use Rattle.search.specs.declared.values.OpenValues.{OpenValues}
use Rattle.step_checks.specs.Rows.{HasNoRows, AreValuedRows}
use Rattle.step_checks.specs.declared.values.rows.ValuedRows.{ValuedRows}
use Rattle.step_checks.proofs.SameLemmas.{Agree, agreed, solved_so, rows_so, whole_so}
use Rattle.tree_checks.specs.Bounds.{IsFirstBetween, IsBoundBy}
use Rattle.tree_checks.specs.Chosen.{AreChosenFor}
use Rattle.tree_checks.specs.Firsts.{IsOfName, IsNameOf, IsFirstNamed, AskForBound}
use Rattle.tree_checks.proofs.RowLemmas.{branch_alike, branch_again, branch_few}

-- ---- a class of its own for a term that is not on the branch

with_name : (TermData → ℕ) → TermData → ℕ → TermData → ℕ
with_name class t name u = cond (same_term u t) name (class u)

name_is : (class : TermData → ℕ) (t : TermData) (name : ℕ) → with_name class t name t ≡ name
unfolding with_name
name_is class t name = ap (λ r. cond r name (class t)) (same_term_itself t)

other_name : (b : Branch) (class : TermData → ℕ) (t : TermData) (name : ℕ) → IsNoTerm b t → (u : TermData) → IsTerm b u → (r : Bool) → same_term u t ≡ r → cond r name (class u) ≡ class u
other_name b class t name missing u h true e = absurd (missing.none (subst (λ w. IsTerm b w) (same_term-equal u t e) h))
other_name b class t name missing u h false e = refl

agree_with : (b : Branch) (class : TermData → ℕ) (t : TermData) (name : ℕ) → IsNoTerm b t → Agree b (with_name class t name) class
unfolding with_name
agree_with b class t name missing = record { same = λ u h. other_name b class t name missing u h (same_term u t) refl }

turned : {b : Branch} {f g : TermData → ℕ} → Agree b f g → Agree b g f
turned agree = record { same = λ t h. sym (agree.same t h) }

module _ (b : Branch) (f g : TermData → ℕ) (agree : Agree b f g) where
  classing_so : IsClassing b g → IsClassing b f
  classing_so h = record {
    same = λ t u x y joined. agree.same t x ∙ h.same t u x y joined ∙ sym (agree.same u y);
    apart = λ t u x y e. h.apart t u x y (sym (agree.same t x) ∙ e ∙ agree.same u y);
  }

  names_so : (ns : List Node) (names : List ℕ) → AreNames ns b g names → AreNames ns b f names
  names_so ns names h = record { named = λ n number stands. h.named n number stands ∙ sym (agree.same (term_at ns n) stands) }

-- ---- the first value, by a representative or by a term

parts_at : (values : List Fraction) (position : ℕ) (v : Fraction) → slice_get values position ≡ Some v → values ≡ take position values ++ v ∷ drop (suc position) values
parts_at values position v found =
    split_at values position v (slice_get_within values position v found) ∙ ap (λ x. take position values ++ x ∷ drop (suc position) values) (get_or_from_slice_get values position v v found)

module _ (b : Branch) (class : TermData → ℕ) (classes : List ℕ) (t : TermData) (k : ℤ) (values : List Fraction) where
  between_of_term : (name : Option ℕ) (h : IsFirstNamed b class classes name k values) → slice_get classes h.value.unknown ≡ Some (class t) → IsFirstBetween b class classes t k values
  between_of_term name h e = record {
    before = take h.position values;
    value = h.value;
    after = drop (suc h.position) values;
    parts = parts_at values h.position h.value h.found;
    whole_before = h.whole_before;
    of_term = e;
    between = h.triggered.between;
  }

  named_of_between : (name : Option ℕ) (h : IsFirstBetween b class classes t k values) → IsOfName classes name h.value.unknown → IsFirstNamed b class classes name k values
  named_of_between name h is =
      let whole = h.before ++ h.value ∷ h.after in
      let long = length-append h.before (h.value ∷ h.after) in
      let found : slice_get whole (length h.before) ≡ Some h.value = slice_get-get_or whole (length h.before) h.value (omega (arith, long)) ∙ ap Some (get_or-append_seam h.before h.value h.after h.value) in
      record {
        position = length h.before;
        value = h.value;
        found = subst (λ vs. slice_get vs (length h.before) ≡ Some h.value) (sym h.parts) found;
        triggered = record { of_name = is; between = h.between };
        whole_before = subst (All (IsWholeIfNumber b class classes)) (sym (ap (take (length h.before)) h.parts ∙ take-append_seam h.before (h.value ∷ h.after))) h.whole_before;
      }

-- over classes that agree
named_so : (b : Branch) (f g : TermData → ℕ) → Agree b f g → (classes : List ℕ) (name : Option ℕ) (k : ℤ) (values : List Fraction) → IsFirstNamed b g classes name k values → IsFirstNamed b f classes name k values
named_so b f g agree classes name k values h = record { position = h.position; value = h.value; found = h.found; triggered = h.triggered; whole_before = whole_so b f g agree classes (take h.position values) h.whole_before }

-- ---- the use of the values

-- without rows over their classes the values require nothing
pub no_rows_ask : (ns : List Node) (b : Branch) (t : TermData) (k : ℤ) (v : OpenValues) (given : GivenElimination) → HasNoRows ns b v → AskForBound ns b t k v given → ⊥
no_rows_ask ns b t k v given none h = none.none h.rows (record { class = h.class; named = h.named; are_rows = h.are_rows })

module _ (ns : List Node) (one : IsOneNumber ns) (d : BranchData) (over : IsOver ns d) (v : OpenValues) (made : ValuedRows) (are : AreValuedRows ns (branch_in ns d) v made) (number : ℕ) (is_term : IsTermNumber ns number) (k : ℤ) (given : GivenElimination) where
  abbrev b : Branch
  b = branch_in ns d

  abbrev t : TermData
  t = term_at ns number

  abbrev rows : List Inequality
  rows = made.rows.rows

  abbrev classes : List ℕ
  classes = v.classes.items

  agrees : (h : AskForBound ns b t k v given) → Agree b are.class h.class
  agrees h = agreed ns one d over are.class h.class v.names.items are.named h.named

  rows_of : (h : AskForBound ns b t k v given) → AreBranchRows b are.class classes h.rows
  rows_of h = rows_so b are.class h.class (agrees h) classes h.rows are.are_rows.classing h.are_rows

  pub asks_solved : AskForBound ns b t k v given → IsSolution rows v.values
  asks_solved h = solved_so b are.class h.class (agrees h) classes rows h.rows v.values are.are_rows h.are_rows h.solution

  pub asks_chosen : AskForBound ns b t k v given → AreChosenFor (length classes) rows given v.values
  asks_chosen h = record {
    others = h.rows;
    alike = branch_alike b are.class classes rows h.rows are.are_rows (rows_of h);
    few = branch_few b are.class classes h.rows (rows_of h);
    chosen = h.chosen;
  }

  name_of_term : (name : ℕ) → IsNameOf b t made.names.items number name → name ≡ are.class t
  name_of_term name h = h.is ∙ are.all_named.named number is_term h.stands

  of_name : (name : Option ℕ) → MatchOption name (IsNoTerm b t) (IsNameOf b t made.names.items number) → (class : TermData → ℕ) → Agree b are.class class → (unknown : ℕ) → slice_get classes unknown ≡ Some (class t) → IsOfName classes name unknown
  of_name None m class agree unknown e = record { name = class t; is = e }
  of_name (Some name) m class agree unknown e = e ∙ ap Some (sym (name_of_term name m ∙ agree.same t m.stands))

  pub asks_named : (name : Option ℕ) → MatchOption name (IsNoTerm b t) (IsNameOf b t made.names.items number) → AskForBound ns b t k v given → IsFirstNamed b are.class classes name k v.values
  asks_named name m h = named_so b are.class h.class (agrees h) classes name k v.values (named_of_between b h.class classes t k v.values name h.first (of_name name m h.class (agrees h) h.first.value.unknown h.first.of_term))

  -- the values require the bound, if the term is in this class
  triggered_in : (class : TermData → ℕ) → Agree b class are.class → IsFirstBetween b class classes t k v.values → AreChosenFor (length classes) rows given v.values → IsSolution rows v.values → AskForBound ns b t k v given
  triggered_in class agree first chosen solution =
      let others = branch_again b are.class classes rows chosen.others chosen.alike chosen.few are.are_rows in
      record {
        class = class;
        named = names_so b class are.class agree ns v.names.items are.named;
        rows = chosen.others;
        are_rows = rows_so b class are.class agree classes chosen.others (classing_so b class are.class agree are.are_rows.classing) others;
        chosen = chosen.chosen;
        solution = solved_so b are.class are.class (record { same = λ u h. refl }) classes chosen.others rows v.values others are.are_rows solution;
        first = first;
      }

  triggered_by : (name : Option ℕ) → MatchOption name (IsNoTerm b t) (IsNameOf b t made.names.items number) → IsFirstNamed b are.class classes name k v.values → AreChosenFor (length classes) rows given v.values → IsSolution rows v.values → AskForBound ns b t k v given
  unfolding named_so
  triggered_by None missing h chosen solution =
      let is = h.triggered.of_name in
      let class = with_name are.class t is.name in
      let agree = agree_with b are.class t is.name missing in
      triggered_in class agree
      (between_of_term b class classes t k v.values None (named_so b class are.class agree classes None k v.values h) (is.is ∙ ap Some (sym (name_is are.class t is.name)))) chosen solution
  triggered_by (Some name) m h chosen solution = triggered_in are.class (record { same = λ u x. refl }) (between_of_term b are.class classes t k v.values (Some name) h (h.triggered.of_name ∙ ap Some (name_of_term name m))) chosen solution

  pub asks_exactly : (name : Option ℕ) → MatchOption name (IsNoTerm b t) (IsNameOf b t made.names.items number) → IsFirstNamed b are.class classes name k v.values → IsSolution rows v.values → (known : Bool) → IsTrue known ↔ AreChosenFor (length classes) rows given v.values → IsTrue known ↔ AskForBound ns b t k v given
  asks_exactly name m first solution known h = (λ yes. triggered_by name m first (h.0 yes) solution, λ asks. h.1 (asks_chosen asks))

-- ---- the bound itself

module _ (shapes : List Shape) (ns : List Node) (b : Branch) (t : TermData) (k : ℤ) (v : OpenValues) (given : GivenElimination) where
  pub bound_asks : IsBoundBy shapes ns b t k v given → AskForBound ns b t k v given
  bound_asks h = record { class = h.class; named = h.named; rows = h.rows; are_rows = h.are_rows; chosen = h.chosen; solution = h.solution; first = h.first }

  pub bound_exactly : above_all (formulas b) < 2 ^ 32 → AskForBound ns b t k v given → (known : Bool) → IsTrue known ↔ IsSaturated shapes b → IsTrue known ↔ IsBoundBy shapes ns b t k v given
  bound_exactly room h known saturated =
      (λ yes. record { room = room; saturated = saturated.0 yes; class = h.class; named = h.named; rows = h.rows; are_rows = h.are_rows; chosen = h.chosen; solution = h.solution; first = h.first }, λ bound. saturated.1 bound.saturated)
