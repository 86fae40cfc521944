-- Classes in a given order.
use Rattle.std.proofs.Common.{◌≡◌, ◌⊎◌, inl, inr, ℕ, zero, suc, ◌+◌, ◌<◌, ◌≤◌, true, nat_eq, List, [], ◌∷◌, ◌++◌, length, get_or, take, Some, refl, sym, ap, ◌∙◌, subst, append-nil, arith}
use Rattle.std.specs.Prelude.{slice_get}
use Rattle.std.specs.List.{IsDistinct, AllZip}
use Rattle.std.proofs.lemmas.Bool.{eqb-true}
use Rattle.std.proofs.lemmas.List.{length-append, length_push, length-take-le, take_more}
use Rattle.std.proofs.lemmas.Option.{slice_get_within}
use Rattle.fol.specs.FormulaData.{TermData}
use Rattle.indexmap.specs.IndexSet.{insert_key}
use Rattle.linear_arith.specs.Inequality.{Inequality}
use Rattle.certificates.specs.BranchesBranch.{Branch, formulas}
use Rattle.certificates.specs.Rows.{AreBranchRows}
use Rattle.row_reasoning.specs.Sums.{IsAmong}
use Rattle.row_reasoning.specs.Rows.{IsRowFrom, AreDifferent, AreClassesFrom, HasNoRows, AreRowsOver, IsSetOf}
use Rattle.row_reasoning.specs.declared.rows.BranchRows.{BranchRows}
use Rattle.row_reasoning.proofs.PutLemmas.{at_position, all_different, one_position, longer_keeps, insert_cases}

-- ---- a set of classes

-- the first classes are in the set, and are distinct
pub record IsSetSoFar (given : List ℕ) (count : ℕ) (keys : List ℕ) : Type 0 where
  pub keys_are : keys ≡ take count given
  pub different : AreDifferent keys

take_is : (xs : List ℕ) (k n : ℕ) → (slice_get (take k xs) n ≡ slice_get xs n) ⊎ (k ≤ n)
take_is xs zero n = inr (omega arith)
take_is [] (suc k) n = inl refl
take_is (x ∷ xs) (suc k) zero = inl refl
take_is (x ∷ xs) (suc k) (suc n) = elim (take_is xs k n) [ inl e ↦ inl e | inr l ↦ inr (omega (arith, l)) ]

module _ (given : List ℕ) (count : ℕ) (ks ls : List ℕ) (class position key : ℕ) (w : count < length given) (class_is : class ≡ get_or given count 0) (before : IsSetSoFar given count ks) (keys : ls ≡ insert_key nat_eq ks class) (distinct : IsDistinct nat_eq ls) (stored : slice_get ls position ≡ Some key) (same_key : nat_eq class key ≡ true) where
  grown : (ls ≡ ks) ⊎ (ls ≡ ks ++ class ∷ [])
  grown = elim (insert_cases ks class) [ inl e ↦ inl (keys ∙ e) | inr e ↦ inr (keys ∙ e) ]

  pub set_more : length ls ≡ length ks + 1 → IsSetSoFar given (count + 1) ls
  set_more long = record { keys_are = is grown; different = all_different ls distinct }
    where
      is : (ls ≡ ks) ⊎ (ls ≡ ks ++ class ∷ []) → ls ≡ take (count + 1) given
      is (inl e) = (let s = ap length e in absurd (omega (arith, s, long)))
      is (inr e) = e ∙ (λ i. before.keys_are i ++ class_is i ∷ []) ∙ sym (take_more given count 0 w)

  -- the class occurred before
  pub stands_twice : length ls ≡ length ks + 0 → AreDifferent given → ⊥
  stands_twice long different = twice grown
    where
      found : slice_get ls position ≡ Some class
      found = stored ∙ ap Some (sym (eqb-true class key same_key))

      earlier : slice_get ks position ≡ Some class → (slice_get (take count given) position ≡ slice_get given position) ⊎ (count ≤ position) → ⊥
      earlier e (inl same) = (
          let at : slice_get given position ≡ Some class = sym same ∙ ap (λ xs. slice_get xs position) (sym before.keys_are) ∙ e in
          let less = slice_get_within ks position class e in
          let few = ap length before.keys_are in
          let short = length-take-le count given (omega (arith, w)) in
          different position count 0 (omega (arith, less, few, short)) w (at_position given position class 0 at ∙ class_is))
      earlier e (inr l) = (
          let less = slice_get_within ks position class e in
          let few = ap length before.keys_are in
          let short = length-take-le count given (omega (arith, w)) in
          omega (arith, less, few, short, l))

      twice : (ls ≡ ks) ⊎ (ls ≡ ks ++ class ∷ []) → ⊥
      twice (inl e) = earlier (ap (λ xs. slice_get xs position) (sym e) ∙ found) (take_is given count position)
      twice (inr e) = (let s = ap length e in let t = length_push ks class in omega (arith, s, t, long))

-- ---- rows over them

at_end : (xs : List ℕ) (x : ℕ) (more : List ℕ) → slice_get (xs ++ x ∷ more) (length xs) ≡ Some x
at_end [] x more = refl
at_end (y ∷ xs) x more = at_end xs x more

module _ (b : Branch) (class : TermData → ℕ) (given keys : List ℕ) (made : BranchRows) (set : IsSetOf given keys) (are : AreBranchRows b class made.classes.keys made.rows) (from : AreClassesFrom b class keys made.classes.keys) where
  no_more : (more : List ℕ) → length (given ++ more) ≡ length given → more ≡ []
  no_more [] e = refl
  no_more (x ∷ more) e = (let s = length-append given (x ∷ more) in absurd (omega (arith, e, s)))

  over_given : made.classes.keys ≡ given ++ from.longer.more
  over_given = from.longer.is ∙ ap (λ ks. ks ++ from.longer.more) set.keys_are

  pub made_over : AllZip (IsRowFrom class (formulas b) made.classes.keys) made.rows made.origins.items → length made.classes.keys ≡ length given → AreRowsOver b class given made
  made_over origins long = record {
    keys = same;
    are_rows = subst (λ ks. AreBranchRows b class ks made.rows) same are;
    origins = subst (λ ks. AllZip (IsRowFrom class (formulas b) ks) made.rows made.origins.items) same origins;
  }
    where
      same : made.classes.keys ≡ given
      same = over_given ∙ ap (λ ms. given ++ ms) (no_more from.longer.more (ap length (sym over_given) ∙ long)) ∙ append-nil given

  first_more : (more : List ℕ) → made.classes.keys ≡ given ++ more → (length made.classes.keys ≡ length given → ⊥) → IsAmong made.classes.keys (get_or more 0 0) × (slice_get made.classes.keys (length given) ≡ Some (get_or more 0 0))
  first_more [] e other = absurd (other (ap length (e ∙ append-nil given)))
  first_more (x ∷ more) e other =
      let found : slice_get made.classes.keys (length given) ≡ Some x = ap (λ ks. slice_get ks (length given)) e ∙ at_end given x more in
      (record { position = length given; found = found }, found)

  pub none_over : (length made.classes.keys ≡ length given → ⊥) → HasNoRows b class given
  none_over other = record { none = λ rows over. never rows over }
    where
      last : IsAmong made.classes.keys (get_or from.longer.more 0 0) × (slice_get made.classes.keys (length given) ≡ Some (get_or from.longer.more 0 0))
      last = first_more from.longer.more over_given other

      among : (rows : List Inequality) → AreBranchRows b class given rows → IsAmong given (get_or from.longer.more 0 0)
      among rows over = elim (from.spoken (get_or from.longer.more 0 0) last.0) [ inl a ↦ subst (λ ks. IsAmong ks (get_or from.longer.more 0 0)) set.keys_are a | inr s ↦ s.among given rows over ]

      never : (rows : List Inequality) → AreBranchRows b class given rows → ⊥
      never rows over =
          let a = among rows over in
          let within = slice_get_within given a.position _ a.found in
          let kept = longer_keeps given made.classes.keys (record { more = from.longer.more; is = over_given }) a.position _ a.found in
          let same : a.position ≡ length given = one_position made.classes.keys are.different a.position (length given) _ kept last.1 in
          omega (arith, within, same)

-- there are no rows over classes one of which occurs twice
pub none_over_twice : (b : Branch) (class : TermData → ℕ) (given : List ℕ) → (AreDifferent given → ⊥) → HasNoRows b class given
none_over_twice b class given twice = record { none = λ rows over. twice over.different }
