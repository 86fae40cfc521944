-- Applications that are due over a pool are due over each extension of it, and vice versa, if the formulas of the
-- branch have numbers in the first one.
use Rattle.std.proofs.Common.{◌≡◌, ◌↔◌, ℕ, ◌<◌, ◌≤◌, ℤ, IsTrue, Bool, List, [], length, map, Option, Some, None, refl, sym, ap, ◌∙◌, subst, arith}
use Rattle.std.specs.Prelude.{All, slice_get}
use Rattle.std.proofs.lemmas.List.Elements.{All-head, All-weaker}
use Rattle.fol.specs.declared.shapes.Shape.{Shape}
use Rattle.fol.specs.FormulaData.{TermData}
use Rattle.step_checks.specs.declared.elimination.GivenElimination.{GivenElimination}
use Rattle.term_pool.specs.Items.{sort_of}
use Rattle.term_pool.specs.Pools.{Extends, IsOneNumber}
use Rattle.term_pool.specs.declared.node.Node.{Node}
use Rattle.term_pool.proofs.ItemLemmas.{item_kept}
use Rattle.certificates.specs.BranchesBranch.{Branch, Entry, IsTerm}
use Rattle.tableau.specs.Logs.{value_in}
use Rattle.tableau.specs.Marks.{IsUnder, Itself, Below}
use Rattle.tableau.specs.PoolBranches.{BranchData, entry_in, branch_in, IsFormulaNumber, IsTermNumber, IsOver}
use Rattle.tableau.specs.declared.entry.PoolEntry.{PoolEntry}
use Rattle.tableau.proofs.MarkLemmas.{earlier}
use Rattle.tableau.proofs.AnswerLemmas.{all_least, generation_is, stored, pure_entry}
use Rattle.tableau.proofs.PushLemmas.{over_still, says_still}
use Rattle.tableau.specs.Numbers.{formula_at, IsNumberOf}
use Rattle.tableau.proofs.NumberLemmas.{number_of_stays}
use Rattle.tableau.specs.Terms.{term_at}
use Rattle.axiom_strategy.proofs.GrownLemmas.{number_grown, term_grown}
use Rattle.row_reasoning.specs.Rows.{AreNames}
use Rattle.search.specs.declared.values.OpenValues.{OpenValues}
use Rattle.search.specs.Applications.{terms_of, formulas_of}
use Rattle.search.specs.declared.trees.application.Extension.{Extension}
use Rattle.search.specs.declared.trees.application.Reason.{Reason}
use Rattle.search.specs.declared.trees.application.Reason.TheVariants.{Parts, Name, Instance, Axiom, Split, Cut, Bound}
use Rattle.tree_checks.specs.Late.{IsLateBy}
use Rattle.tree_checks.specs.Bounds.{IsBoundBy}
use Rattle.tree_checks.specs.Steps.{HasNumbers, IsGrowing}
use Rattle.tree_checks.proofs.GrownReachedLemmas.{all_found, found}
use Rattle.tree_checks.proofs.SideLemmas.{formula_once}
use Rattle.tree_checks.proofs.GrowthLemmas.{number_within}
use Rattle.tree_checks.proofs.LeadLemmas.{IsSameTerm, added_also, numbers_later, same_formulas}
use Rattle.tree_checks.specs.Timely.{IsSplitBy, IsCutBy, IsPutBy, IsTimely, IsDueBy}
use Rattle.tree_checks.specs.declared.partial.applications.Grounds.{Grounds}
use Rattle.tree_checks.specs.declared.partial.applications.Grounds.TheVariants.{Nothing, Late, Bound as OfBound}
use Rattle.tree_checks.specs.declared.partial.applications.GivenExtension.{GivenExtension}

-- the formula of the entry has a number
pub record IsIn (ns : List Node) (e : Entry) : Type 0 where
  pub number : ℕ
  pub of : IsNumberOf ns e.formula number

-- the same for the entries of a branch over a pool
pub entries_in : (ns : List Node) (es : List PoolEntry) → ((i : ℕ) (e : PoolEntry) → slice_get es i ≡ Some e → IsFormulaNumber ns e.formula) → All (IsIn ns) (map (entry_in ns) es)
entries_in ns es numbers = all_found (IsIn ns) (map (entry_in ns) es) (λ i e at. (
    let it = stored ns es i e at in
    subst (IsIn ns) it.is (record { number = it.entry.formula; of = record { number = numbers i it.entry it.found; is = refl } })))

-- ---- facts that hold whatever pool the numbers come from

module _ (shapes : List Shape) (ns ms : List Node) (b : Branch) (names : (class : TermData → ℕ) (xs : List ℕ) → AreNames ns b class xs → AreNames ms b class xs) where
  late_also : (v : OpenValues) → IsLateBy shapes ns b v → IsLateBy shapes ms b v
  late_also v h = record {
    nothing_early = h.nothing_early;
    not_closed = h.not_closed;
    met = record {
      rows = h.met.rows;
      has = record { class = h.met.has.class; named = names h.met.has.class v.names.items h.met.has.named; are_rows = h.met.has.are_rows };
      solution = h.met.solution;
    };
  }

  bound_also : (t : TermData) (k : ℤ) (v : OpenValues) (given : GivenElimination) → IsBoundBy shapes ns b t k v given → IsBoundBy shapes ms b t k v given
  bound_also t k v given h = record {
    room = h.room;
    saturated = h.saturated;
    class = h.class;
    named = names h.class v.names.items h.named;
    rows = h.rows;
    are_rows = h.are_rows;
    chosen = h.chosen;
    solution = h.solution;
    first = h.first;
  }

  split_also : (i : ℕ) (g : Grounds) → IsSplitBy shapes ns b i g → IsSplitBy shapes ms b i g
  split_also i Nothing h = h
  split_also i (Late v) h = late_also v h
  split_also i (OfBound g) h = h

  cut_also : (g : Grounds) → IsCutBy shapes ns b g → IsCutBy shapes ms b g
  cut_also Nothing h = h
  cut_also (Late v) h = late_also v h
  cut_also (OfBound g) h = h

  put_also : (t : TermData) (k : ℤ) (g : Grounds) → IsPutBy shapes ns b t k g → IsPutBy shapes ms b t k g
  put_also t k Nothing h = h
  put_also t k (Late v) h = h
  put_also t k (OfBound g) h = bound_also t k g.values g.elimination h

  timely_also : (r : Reason) (g : Grounds) → All (IsSameTerm ns ms) (terms_of r) → IsTimely shapes ns b r g → IsTimely shapes ms b r g
  timely_also (Parts i) g same h = tt
  timely_also (Name i v) g same h = tt
  timely_also (Instance i t) g same h = tt
  timely_also (Axiom name) g same h = tt
  timely_also (Split i) g same h = split_also i g h
  timely_also (Cut t u) g same h = cut_also g h
  timely_also (Bound i t k) g same h =
      let one : term_at ms t ≡ term_at ns t = All-head (IsSameTerm ns ms) t [] same in
      put_also (term_at ms t) k g (subst (λ x. IsPutBy shapes ns b x k g) (sym one) h)

  growing_also : (g : Extension) → formulas_of ms g ≡ formulas_of ns g → All (IsSameTerm ns ms) (terms_of g.reason) → HasNumbers ms g → IsGrowing shapes ns b g → IsGrowing shapes ms b g
  growing_also g same terms numbers h = record {
    application = h.application;
    is = record {
      formulas = numbers.formulas;
      terms = number_within ms (terms_of g.reason) numbers.terms;
      added = added_also ns ms (formulas_of ns g) (formulas_of ms g) g.reason g.generation h.application same terms h.is.added;
    };
    from = h.from;
    due = h.due;
    room = h.room;
  }

  due_also : (given : GivenExtension) → formulas_of ms given.extension ≡ formulas_of ns given.extension → All (IsSameTerm ns ms) (terms_of given.extension.reason) → HasNumbers ms given.extension → IsDueBy shapes ns b given → IsDueBy shapes ms b given
  due_also given same terms numbers h = record {
    growing = growing_also given.extension same terms numbers h.growing;
    timely = timely_also given.extension.reason given.grounds terms h.timely;
  }

-- ---- a pool and one that extends it

module _ (ns ms : List Node) (grown : Extends ns ms) where
  terms_later : (r : Reason) → All (IsTermNumber ns) (terms_of r) → All (IsSameTerm ns ms) (terms_of r)
  terms_later r h = All-weaker (IsTermNumber ns) (IsSameTerm ns ms) (λ t n. term_grown ns ms grown t n) (terms_of r) h

  terms_before : (r : Reason) → All (IsTermNumber ns) (terms_of r) → All (IsSameTerm ms ns) (terms_of r)
  terms_before r h = All-weaker (IsTermNumber ns) (IsSameTerm ms ns) (λ t n. sym (term_grown ns ms grown t n)) (terms_of r) h

  pub formulas_later : (g : Extension) → HasNumbers ns g → formulas_of ms g ≡ formulas_of ns g
  formulas_later g h = same_formulas ns ms grown [] (record { extension = g; case = 0 }) h

  module _ (one : IsOneNumber ms) (d : BranchData) (over : IsOver ms d) (inside : All (IsIn ns) (branch_in ms d)) where
    -- ---- the terms of the branch have numbers in the first pool

    numbered : (i : ℕ) (e : PoolEntry) → slice_get d.entries i ≡ Some e → IsFormulaNumber ns e.formula
    numbered i e at =
        let it : IsIn ns (entry_in ms e) = found (IsIn ns) (branch_in ms d) i (entry_in ms e) inside (pure_entry ms d.entries i e at) in
        let later = number_of_stays ns ms grown (formula_at ms e.formula) it.number it.of in
        let same : it.number ≡ e.formula = formula_once ms one it.number e.formula later.number (over.formulas i e at) later.is in
        subst (IsFormulaNumber ns) same it.of.number

    under_less : (top n : ℕ) → IsUnder ms top n → n ≤ top
    under_less top _ Itself = omega arith
    under_less top _ (Below n node part under made among) =
        let up = under_less top n under in
        let down = earlier ms n node part made.parts among in
        omega (arith, up, down)

    inside_number : (n : ℕ) → IsTermNumber ms n → IsTerm (branch_in ms d) (term_at ms n) → IsTermNumber ns n
    inside_number n number stands = go (value_in d.generations n) refl
      where
        go : (o : Option ℕ) → value_in d.generations n ≡ o → IsTermNumber ns n
        go None e = absurd ((generation_is ms one d over n number None (sym e)).none stands)
        go (Some g) e =
            let from = (all_least ms d over).from n g e in
            let top = (numbered from.position from.entry from.found).within in
            let less = under_less from.entry.formula n from.under in
            let within : n < length ns = omega (arith, top, less) in
            record { within = within; sort = sym (ap sort_of (item_kept ns ms grown n within)) ∙ number.sort }

    names_before : (class : TermData → ℕ) (xs : List ℕ) → AreNames ms (branch_in ms d) class xs → AreNames ns (branch_in ms d) class xs
    names_before class xs h = record {
      named = λ n number stands. (
          let e : term_at ms n ≡ term_at ns n = term_grown ns ms grown n number in
          h.named n (number_grown ns ms grown n number) (subst (IsTerm (branch_in ms d)) (sym e) stands) ∙ ap class e);
    }

    names_later : (class : TermData → ℕ) (xs : List ℕ) → AreNames ns (branch_in ms d) class xs → AreNames ms (branch_in ms d) class xs
    names_later class xs h = record {
      named = λ n number stands. (
          let k = inside_number n number stands in
          let e : term_at ms n ≡ term_at ns n = term_grown ns ms grown n k in
          h.named n k (subst (IsTerm (branch_in ms d)) e stands) ∙ ap class (sym e));
    }

    -- ---- due applications

    module _ (shapes : List Shape) (given : GivenExtension) (numbers : HasNumbers ns given.extension) where
      pub due_before : IsDueBy shapes ms (branch_in ms d) given → IsDueBy shapes ns (branch_in ms d) given
      due_before h = due_also shapes ms ns (branch_in ms d) names_before given (sym (formulas_later given.extension numbers)) (terms_before given.extension.reason numbers.terms) numbers h

      pub due_later : IsDueBy shapes ns (branch_in ms d) given → IsDueBy shapes ms (branch_in ms d) given
      due_later h = due_also shapes ns ms (branch_in ms d) names_later given (formulas_later given.extension numbers) (terms_later given.extension.reason numbers.terms) (numbers_later ns ms grown given.extension numbers) h

      timely_before : IsTimely shapes ms (branch_in ms d) given.extension.reason given.grounds → IsTimely shapes ns (branch_in ms d) given.extension.reason given.grounds
      timely_before h = timely_also shapes ms ns (branch_in ms d) names_before given.extension.reason given.grounds (terms_before given.extension.reason numbers.terms) h

      timely_later : IsTimely shapes ns (branch_in ms d) given.extension.reason given.grounds → IsTimely shapes ms (branch_in ms d) given.extension.reason given.grounds
      timely_later h = timely_also shapes ns ms (branch_in ms d) names_later given.extension.reason given.grounds (terms_later given.extension.reason numbers.terms) h

  -- the result for the grounds over the later pool decides whether the application was due
  pub due_known : IsOneNumber ms → (d : BranchData) → IsOver ns d → (shapes : List Shape) (given : GivenExtension) → HasNumbers ns given.extension → IsGrowing shapes ns (branch_in ns d) given.extension → (known : Bool) → IsTrue known ↔ IsTimely shapes ms (branch_in ms d) given.extension.reason given.grounds → IsTrue known ↔ IsDueBy shapes ns (branch_in ns d) given
  due_known one d over shapes given numbers growing known h =
      let later = over_still ns ms grown d over in
      let same : branch_in ms d ≡ branch_in ns d = says_still ns ms grown d.entries over.formulas in
      let inside : All (IsIn ns) (branch_in ms d) = subst (All (IsIn ns)) (sym same) (entries_in ns d.entries over.formulas) in (
        λ t. record { growing = growing; timely = subst (λ (b : Branch). IsTimely shapes ns b given.extension.reason given.grounds) same (timely_before one d later inside shapes given numbers (h.0 t)) },
        λ due. h.1 (timely_later one d later inside shapes given numbers (subst (λ (b : Branch). IsTimely shapes ns b given.extension.reason given.grounds) (sym same) due.timely)),
      )
