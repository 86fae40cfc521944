-- The premises of a condition are on each saturated branch for it: so entries state that its parameters are whole
-- numbers. That a formula is on a branch holds up to a double negation, as no test of all entries is required.
use Rattle.std.proofs.Common.{◌≡◌, inl, inr, ℕ, zero, suc, ◌^◌, ◌-◌, ◌<◌, ◌≤◌, max, pos, Bool, true, false, List, [], ◌∷◌, length, get_or, slice_get, Some, position, refl, sym, ap, subst, arith}
use Rattle.std.specs.Prelude.{All, Contains, slice_index_or}
use Rattle.std.specs.Cmp.Lexicographic.{same_text}
use Rattle.std.proofs.lemmas.Bool.{cases_lt}
use Rattle.std.proofs.lemmas.List.Quantifiers.{position-Some}
use Rattle.std.proofs.lemmas.List.Elements.{All-nil, All-cons, All-head}
use Rattle.base.specs.Names.{same_name}
use Rattle.base.specs.TypeData.{IntType, NumType}
use Rattle.base.specs.declared.types.Width.TheVariants.{U64}
use Rattle.fol.specs.Depth.{formula_depth, formulas_depth}
use Rattle.fol.specs.declared.shapes.Shape.{Shape}
use Rattle.fol.specs.FormulaData.{TermData, VarTerm, NumTerm, FormulaData, LeFormula, IsFormula, NotFormula, AllOfFormula, ImpliesFormula, FormulasData, NoFormulas, MoreFormulas, list_of_formulas}
use Rattle.axioms.specs.declared.axiom.Axiom.TheVariants.{Exactly}
use Rattle.axioms.specs.declared.axiom.Equivalence.TheVariants.{Range}
use Rattle.axioms.specs.Forms.{number, WholeFormula}
use Rattle.certificates.specs.Parts.{both_of, parts_of}
use Rattle.certificates.specs.BranchesBranch.{Branch, Says, Stands, IsNew, IsTerm, Said, Holds, IsGeneration}
use Rattle.certificates.specs.Due.{IsShallow, IsSaturated, OfNone, OfMore, ByTable}
use Rattle.certificates.specs.Joined.{OfOneHead, NoneAlike, Typed}
use Rattle.certificates.specs.BranchesParts.{IsInFormula, Itself as AtItself, InTyped}
use Rattle.certificates.specs.Table.{OfRange, all_of, range_axiom}
use Rattle.certificates.specs.ProofTraces.{Application, IsReached}
use Rattle.search.proofs.FirstLemmas.{begins}
use Rattle.sum_formula.specs.Premises.{argument_formula}
use Rattle.sum_formula.specs.Translation.{term_at, zero_term}
use Rattle.driver.specs.OpenValues.{Likely}
use Rattle.vc_gen.specs.Supposed.{IsConjunct, Itself, Inside, Supposes, SupposesTypes}

-- ---- lists

found_at : (ps : List FormulaData) (k : ℕ) (p : FormulaData) → k < length ps → slice_index_or ps k p ≡ p → slice_get ps k ≡ Some p
found_at [] k p lt e = absurd (omega (arith, lt))
found_at (q ∷ ps) zero p lt e = ap Some e
found_at (q ∷ ps) (suc k) p lt e = found_at ps k p (omega (arith, lt)) e

shallow_list : (d : ℕ) (ps : FormulasData) → formulas_depth ps ≤ d → All (λ p. formula_depth p ≤ d) (list_of_formulas ps)
shallow_list d NoFormulas h = All-nil (λ p. formula_depth p ≤ d)
shallow_list d (MoreFormulas p ps) h =
    All-cons (λ p. formula_depth p ≤ d) p (list_of_formulas ps) (omega (arith, h)) (shallow_list d ps (omega (arith, h)))

shallow_in : (d : ℕ) (ps : FormulasData) → formulas_depth ps ≤ d → (k : ℕ) (p : FormulaData) → k < length (list_of_formulas ps) → slice_index_or (list_of_formulas ps) k p ≡ p → formula_depth p ≤ d
shallow_in d NoFormulas h k p lt e = absurd (omega (arith, lt))
shallow_in d (MoreFormulas q ps) h zero p lt e = (let s = ap formula_depth e in omega (arith, h, s))
shallow_in d (MoreFormulas q ps) h (suc k) p lt e = shallow_in d ps (omega (arith, h)) k p (omega (arith, lt)) e

-- the index of a name where the names are equal
named_there : (names : List (List ℕ)) (name : List ℕ) (k : ℕ) → position (same_name name) names ≡ Some k → Contains names name
named_there names name k is =
    let first = position-Some (same_name name) names k name is in
    (k, first.0, sym (go (same_name name (get_or names k name)) refl first.1))
  where
    go : (b : Bool) → same_name name (get_or names k name) ≡ b → b ≡ true → name ≡ get_or names k name
    go true e t = same_text name (get_or names k name) (sym e)
    go false e t = absurd (cc)

-- ---- generations

module _ (P : ℕ → Type 0) (none_least : (n : ℕ) → P n → ((m : ℕ) → P m → n ≤ m) → ⊥) where
  none_below : (n m : ℕ) → m < n → P m → ⊥
  none_below zero m lt h = absurd (omega (arith, lt))
  none_below (suc n) m lt h = elim (cases_lt m n) [
    | inl less ↦ none_below n m less h
    | inr more ↦ none_least m h (λ k held. elim (cases_lt k m) [
      | inl below ↦ absurd (none_below n k (omega (arith, lt, below)) held)
      | inr above ↦ above
    ])
  ]

  none_at_all : (n : ℕ) → P n → ⊥
  none_at_all n h = none_below (suc n) n (omega arith) h

has_generation : (b : Branch) (t : TermData) → IsTerm b t → Likely ((g : ℕ) × IsGeneration b t g)
has_generation b t term never =
    none_at_all (Holds b t) (λ n h least. never (n, record { holds = h; least = least })) term.generation term.holds

-- ---- a saturated branch

module _ (shapes : List Shape) (b : Branch) (saturated : IsSaturated shapes b) where
  -- the conjuncts of an entry are on the branch
  part_stands : (q : FormulaData) (ps : List FormulaData) → Stands b q → parts_of q ≡ Some ps → All IsShallow ps → (r : FormulaData) → Contains ps r → Likely (Stands b r)
  part_stands q ps stands are shallow r at never =
      saturated.nothing_due.no_parts stands.position ps (record {
        entry = q;
        says = stands.says;
        are_parts = are;
        news = record { position = at.0; formula = r; found = found_at ps at.0 r at.1 at.2; is_new = record { new = never } };
        shallow = shallow;
      })

  conjunct_stands : (q : FormulaData) {r : FormulaData} → IsConjunct q r → IsShallow r → Stands b r → Likely (Stands b q)
  conjunct_stands q Itself shallow stands never = never stands
  conjunct_stands q (Inside ps p at rest) shallow stands never =
      part_stands (AllOfFormula ps) (list_of_formulas ps) stands refl (shallow_list 2000 ps (omega (arith, shallow))) p at (λ here.
      conjunct_stands q rest (let s = shallow_in 1999 ps (omega (arith, shallow)) at.0 p at.1 at.2 in omega (arith, s)) here never)

  -- the premises of a formula are on a branch with its negation
  supposed_stands : (p q : FormulaData) → Supposes p q → IsShallow p → Stands b (NotFormula p) → Likely (Stands b q)
  supposed_stands p q s shallow stands never =
      let premise : FormulaData = s.premise in
      let claim : FormulaData = s.claim in
      let denied : Stands b (NotFormula (ImpliesFormula premise claim)) = subst (λ x. Stands b (NotFormula x)) s.is stands in
      let deep : formula_depth (ImpliesFormula premise claim) ≤ 2000 = subst IsShallow s.is shallow in
      let low : IsShallow premise = omega (arith, deep) in
      let all : All IsShallow (premise ∷ NotFormula claim ∷ []) = All-cons IsShallow premise (NotFormula claim ∷ []) low (All-cons IsShallow (NotFormula claim) [] (omega (arith, deep)) (All-nil IsShallow)) in
      part_stands (NotFormula (ImpliesFormula premise claim)) (premise ∷ NotFormula claim ∷ []) denied refl all premise (0, omega arith, refl) (λ here.
      conjunct_stands q s.conjunct low here never)

  module _ (k : ℕ) where
    abbrev t : TermData
    t = VarTerm k

    abbrev most : TermData
    most = NumTerm (pos (2 ^ 64 - 1))

    abbrev bounds : List FormulaData
    bounds = WholeFormula t ∷ LeFormula (number 0) t ∷ LeFormula t most ∷ []

    abbrev typed : FormulaData
    typed = IsFormula (IntType U64) t

    abbrev whole : FormulaData
    whole = IsFormula NumType t

    abbrev ranged : FormulaData
    ranged = range_axiom (IntType U64) t most

    abbrev holding : FormulaData
    holding = both_of typed (all_of bounds)

    abbrev failing : FormulaData
    failing = both_of (NotFormula typed) (NotFormula (all_of bounds))

    of_term : Stands b typed → IsTerm b t
    of_term stands = record {
      generation = stands.says.entry.generation;
      holds = record {
        position = stands.position;
        entry = stands.says.entry;
        found = stands.says.found;
        inside = subst (IsInFormula t) (sym stands.says.is) (InTyped (IntType U64) t AtItself);
        same = refl;
      };
    }

    -- the instance of the axiom on ranges is on the branch
    range_stands : Stands b typed → Likely (Stands b ranged)
    range_stands stands never =
        has_generation b t (of_term stands) (λ found.
        saturated.nothing_due.no_axiom (Exactly Range) ranged (max found.0 0) (record {
          terms = t ∷ [];
          triggered = ByTable (Exactly Range) (t ∷ []) ranged (OfRange (IntType U64) t most (Said stands) refl);
          generations = OfMore t [] found.0 0 found.1 OfNone;
          is_new = record { new = never };
          shallow = omega arith;
        }))

    -- the term has the type, and so the first case of the axiom holds
    not_failing : Stands b typed → Stands b failing → ⊥
    not_failing stands failed =
        part_stands failing (NotFormula typed ∷ NotFormula (all_of bounds) ∷ []) failed refl
        (All-cons IsShallow (NotFormula typed) (NotFormula (all_of bounds) ∷ []) (omega arith) (All-cons IsShallow (NotFormula (all_of bounds)) [] (omega arith) (All-nil IsShallow)))
        (NotFormula typed) (0, omega arith, refl) (λ denied.
        saturated.not_closed.no_clash typed typed stands denied (Typed [] (IntType U64) t t (OfOneHead [] t t refl (NoneAlike []))))

    -- an entry states that it is a whole number
    whole_stands : Stands b typed → Likely (Stands b whole)
    whole_stands stands never =
        range_stands stands (λ here.
        saturated.nothing_due.no_split here.position (holding ∷ failing ∷ []) (record {
          entry = ranged;
          says = here.says;
          are_cases = refl;
          some = λ e. absurd (cc);
          news = All-cons (IsNew b) holding (failing ∷ []) (record { new = not_holding }) (All-cons (IsNew b) failing [] (record { new = not_failing stands }) (All-nil (IsNew b)));
          shallow = All-cons IsShallow holding (failing ∷ []) (omega arith) (All-cons IsShallow failing [] (omega arith) (All-nil IsShallow));
        }))
      where
        not_holding : Stands b holding → ⊥
        not_holding held =
            part_stands holding (typed ∷ all_of bounds ∷ []) held refl
            (All-cons IsShallow typed (all_of bounds ∷ []) (omega arith) (All-cons IsShallow (all_of bounds) [] (omega arith) (All-nil IsShallow)))
            (all_of bounds) (1, omega arith, refl) (λ here.
            part_stands (all_of bounds) bounds here refl
            (All-cons IsShallow whole (LeFormula (number 0) t ∷ LeFormula t most ∷ []) (omega arith) (All-cons IsShallow (LeFormula (number 0) t) (LeFormula t most ∷ []) (omega arith) (All-cons IsShallow (LeFormula t most) [] (omega arith) (All-nil IsShallow))))
            whole (0, omega arith, refl) never)

-- an entry states, on a saturated branch that is reached, that each parameter of a condition is a whole number
pub parameter_stands : (shapes : List Shape) (p : FormulaData) (applications : List Application) (b : Branch) (parameters : List (List ℕ)) → IsReached shapes p applications b → IsSaturated shapes b → IsShallow p → SupposesTypes parameters p → (name : List ℕ) (k : ℕ) → position (same_name name) parameters ≡ Some k → Likely (Stands b (IsFormula NumType (VarTerm k)))
parameter_stands shapes p applications b parameters reached saturated shallow supposes name k is never =
    let at : Contains parameters name = named_there parameters name k is in
    let all : All (λ c. Says c 0 (NotFormula p)) (b ∷ reached.others) = subst (All (λ c. Says c 0 (NotFormula p))) reached.first (begins p applications) in
    let denied : Stands b (NotFormula p) = record { position = 0; says = All-head (λ c. Says c 0 (NotFormula p)) b reached.others all } in
    supposed_stands shapes b saturated p (argument_formula parameters name) (supposes.typed name at) shallow denied (λ stands.
    whole_stands shapes b saturated k (subst (λ o. Stands b (IsFormula (IntType U64) (term_at o zero_term name))) is stands) never)
