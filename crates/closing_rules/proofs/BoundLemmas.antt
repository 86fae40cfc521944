-- Bounds that are due.
use Rattle.std.proofs.Common.{◌≡◌, inl, inr, ℕ, ◌<◌, ℤ, pos, ◌+ℤ◌, List, [], ◌∷◌, length, length-append, map, sym, ap, ◌∙◌, subst, arith}
use Rattle.std.specs.Prelude.{slice_index, All}
use Rattle.std.proofs.lemmas.List.Elements.{All-nil, All-cons}
use Rattle.base.specs.TypeData.{NumType}
use Rattle.fol.specs.declared.shapes.Shape.{Shape}
use Rattle.fol.specs.FormulaData.{TermData, NumTerm, FormulaData, LeFormula, IsFormula, NotFormula}
use Rattle.fol.specs.declared.operators.Constant.TheVariants.{Num}
use Rattle.term_pool.specs.Items.{TermItem, sort_of, term_in}
use Rattle.term_pool.specs.Pools.{IsItem, IsMade, Extends}
use Rattle.term_pool.specs.declared.node.Leaf.TheVariants.{Constant}
use Rattle.term_pool.specs.declared.node.Node.{Node}
use Rattle.term_pool.specs.declared.node.Node.TheVariants.{Leaf as LeafNode}
use Rattle.term_pool.proofs.ItemLemmas.{item_kept}
use Rattle.term_pool.proofs.GrowthLemmas.{leaf_made}
use Rattle.certificates.specs.BranchesBranch.{Branch, Says}
use Rattle.certificates.specs.Due.{IsSaturated, IsShallow}
use Rattle.certificates.specs.ProofTraces.{BoundApplication, BoundDue}
use Rattle.tableau.specs.PoolBranches.{IsFormulaNumber, IsTermNumber}
use Rattle.tableau.specs.Numbers.{formula_at, AreNumbersOf, IsNumberOf}
use Rattle.tableau.proofs.NumberLemmas.{number_stays, formula_stays}
use Rattle.row_reasoning.specs.Numbers.{term_at}
use Rattle.row_reasoning.specs.Bounds.{IsBound}
use Rattle.row_reasoning.specs.declared.values.bounds.Bound.{Bound as BoundData}
use Rattle.certificates.specs.Rows.{AreBranchRows, IsWholeIfNumber}
use Rattle.linear_arith.specs.Answer.{IsSolution}
use Rattle.linear_arith.specs.Values.{AreAllChosen}
use Rattle.row_reasoning.specs.declared.rows.BranchRows.{BranchRows}
use Rattle.linear_arith.specs.declared.rows.Fraction.{Fraction}
use Rattle.search.specs.Applications.{terms_of, entry_of, IsGenerationFrom, IsAddedFor, AsBound}
use Rattle.search.specs.declared.trees.application.Extension.{Extension}
use Rattle.search.specs.Decisions.{IsLevel, IsExtensionDue, IsValued}
use Rattle.search.specs.declared.values.OpenValues.{OpenValues}
use Rattle.closing_rules.specs.Eliminations.{AreNamedRows, AreValues}
use Rattle.closing_rules.specs.Bounds.{IsNumeral, IsBoundApplication}

-- ---- numbers while the pool is extended

module _ (ns ms : List Node) (grown : Extends ns ms) where
  pub term_number_stays : (n : ℕ) → IsTermNumber ns n → IsTermNumber ms n
  term_number_stays n h = record {
    within = (let l = ap length grown.is in omega (arith, l, length-append ns grown.more, h.within));
    sort = ap sort_of (item_kept ns ms grown n h.within) ∙ h.sort;
  }

  pub term_stays : (n : ℕ) → IsTermNumber ns n → term_at ms n ≡ term_at ns n
  term_stays n h = ap term_in (item_kept ns ms grown n h.within)

  pub numeral_stays : (value : ℤ) (n : ℕ) → IsNumeral ns value n → IsNumeral ms value n
  numeral_stays value n h = record { number = term_number_stays n h.number; is = term_stays n h.number ∙ h.is }

  pub formula_number_stays : (p : FormulaData) (n : ℕ) → IsNumberOf ns p n → IsNumberOf ms p n
  formula_number_stays p n h = record { number = number_stays ns ms grown n h.number; is = formula_stays ns ms grown n h.number ∙ h.is }

pub numeral_made : (ns : List Node) (value : ℤ) (n : ℕ) → IsMade ns n (LeafNode (Constant (Num value))) → IsNumeral ns value n
numeral_made ns value n made =
    let it : IsItem ns n (TermItem (NumTerm value)) = leaf_made (Constant (Num value)) made in
    record { number = record { within = it.within; sort = ap sort_of it.is }; is = ap term_in it.is }

pub pair_numbers : (ns : List Node) (p q : FormulaData) (m n : ℕ) → IsNumberOf ns p m → IsNumberOf ns q n → AreNumbersOf ns (p ∷ q ∷ []) (m ∷ n ∷ [])
pair_numbers ns p q m n first second = record {
  formulas = record { each = All-cons (IsFormulaNumber ns) m (n ∷ []) first.number (All-cons (IsFormulaNumber ns) n [] second.number (All-nil (IsFormulaNumber ns))) };
  are = λ i. first.is i ∷ second.is i ∷ [];
}

-- ---- the application

-- the intermediate pools, one after another
pub bound_numbers : (ns ms os ps qs : List Node) → Extends ns ms → Extends ms os → Extends os ps → Extends ps qs → (bound : BoundData) (below above first second : ℕ) → IsTermNumber ns bound.term → IsNumeral ms bound.below below → IsNumeral os bound.above above → IsNumberOf ps (LeFormula (term_at os bound.term) (term_at os below)) first → IsNumberOf qs (LeFormula (term_at ps above) (term_at ps bound.term)) second → AreNumbersOf qs (LeFormula (term_at ns bound.term) (NumTerm bound.below) ∷ LeFormula (NumTerm bound.above) (term_at ns bound.term) ∷ []) (first ∷ second ∷ [])
bound_numbers ns ms os ps qs one two three four bound below above first second number low high left right =
    let in_ms = term_number_stays ns ms one bound.term number in
    let in_os = term_number_stays ms os two bound.term in_ms in
    let t_os : term_at os bound.term ≡ term_at ns bound.term = term_stays ms os two bound.term in_ms ∙ term_stays ns ms one bound.term number in
    let t_ps : term_at ps bound.term ≡ term_at ns bound.term = term_stays os ps three bound.term in_os ∙ t_os in
    let k : term_at os below ≡ NumTerm bound.below = (numeral_stays ms os two bound.below below low).is in
    let j : term_at ps above ≡ NumTerm bound.above = (numeral_stays os ps three bound.above above high).is in
    let first_is = subst (λ p. IsNumberOf ps p first) (λ i. LeFormula (t_os i) (k i)) left in
    let second_is = subst (λ p. IsNumberOf qs p second) (λ i. LeFormula (j i) (t_ps i)) right in
    pair_numbers qs (LeFormula (term_at ns bound.term) (NumTerm bound.below)) (LeFormula (NumTerm bound.above) (term_at ns bound.term)) first second (formula_number_stays ps qs four (LeFormula (term_at ns bound.term) (NumTerm bound.below)) first first_is) second_is

-- an entry stating that a term is a whole number is shallow, and so is a bound on the term
number_shallow : (b : Branch) (i : ℕ) (t : TermData) (k : ℤ) → IsLevel b → Says b i (IsFormula NumType t) → IsShallow (LeFormula (NumTerm k) t)
number_shallow b i t k level says = elim (level.level i (IsFormula NumType t) says) [
  | inl shallow ↦ omega (arith, shallow)
  | inr denial ↦ absurd (let e : IsFormula NumType t ≡ NotFormula denial.0 = denial.1 in cc)
]

module _ (shapes : List Shape) (ns ms : List Node) (grown : Extends ns ms) (b : Branch) (names : List ℕ) (rows : BranchRows) (values : List Fraction) (named : AreNamedRows ns b names rows) (found : AreValues rows.rows values) (level : IsLevel b) (saturated : IsSaturated shapes b) where
  pub bound_due : (bound : BoundData) → IsBound ns b named.class rows.classes.keys values bound → (g : Extension) → IsBoundApplication ns ms b bound g → IsExtensionDue shapes ms b g
  bound_due bound h g application =
      let t : TermData = term_at ns bound.term in
      let same : term_at ms bound.term ≡ t = term_stays ns ms grown bound.term h.number in
      let formulas : map (formula_at ms) g.formulas.items ≡ LeFormula (term_at ms bound.term) (NumTerm bound.below) ∷ LeFormula (NumTerm (bound.below +ℤ pos 1)) (term_at ms bound.term) ∷ [] =
      application.formulas.are ∙ (λ i. LeFormula (sym same i) (NumTerm bound.below) ∷ LeFormula (NumTerm (h.next i)) (sym same i) ∷ []) in
      record {
        application = BoundApplication bound.entry (term_at ms bound.term) bound.below;
        is = record {
          formulas = application.formulas.formulas;
          terms = subst (λ r. All (λ n. n < length ms) (terms_of r)) (sym application.reason) (All-cons (λ n. n < length ms) bound.term [] (term_number_stays ns ms grown bound.term h.number).within (All-nil (λ n. n < length ms)));
          added = subst (λ r. IsAddedFor ms (map (formula_at ms) g.formulas.items) r g.generation (BoundApplication bound.entry (term_at ms bound.term) bound.below)) (sym application.reason) (AsBound bound.entry bound.term g.generation bound.below formulas);
        };
        from = subst (λ r. IsGenerationFrom b (entry_of r) g.generation) (sym application.reason) application.generation;
        due = subst (λ u. BoundDue shapes b bound.entry u bound.below) (sym same) (record {
          saturated = saturated;
          says = h.says;
          class = named.class;
          classes = rows.classes.keys;
          rows = rows.rows;
          are_rows = named.are_rows;
          before = h.before;
          value = h.value;
          after = h.after;
          chosen = subst (AreAllChosen rows.rows) h.parts found.chosen;
          solution = subst (IsSolution rows.rows) h.parts found.solution;
          whole_before = h.whole_before;
          of_term = h.of_term;
          between = h.between;
          shallow = number_shallow b bound.entry t (bound.below +ℤ pos 1) level h.says;
        });
      }

  pub values_open : (v : OpenValues) → v.names.items ≡ names → v.classes.items ≡ rows.classes.keys → v.values ≡ values → All (IsWholeIfNumber b named.class rows.classes.keys) values → IsValued ns b v
  values_open v same_names same_classes same_values whole = record {
    class = named.class;
    named = λ n number term. ap (λ xs. slice_index xs n) same_names ∙ named.named.named n number term;
    rows = rows.rows;
    are_rows = subst (λ ks. AreBranchRows b named.class ks rows.rows) (sym same_classes) named.are_rows;
    solution = subst (IsSolution rows.rows) (sym same_values) found.solution;
    whole = subst (λ ks. All (IsWholeIfNumber b named.class ks) v.values) (sym same_classes) (subst (All (IsWholeIfNumber b named.class rows.classes.keys)) (sym same_values) whole);
  }
