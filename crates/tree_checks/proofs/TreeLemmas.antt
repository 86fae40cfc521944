-- The trees of the first entries of a branch.
use Rattle.std.proofs.Common.{◌≡◌, ℕ, zero, suc, List, [], ◌∷◌, ◌++◌, length, take, Some, None, refl, sym, ap, ◌∙◌, subst, append-nil, append_assoc}
use Rattle.std.specs.Prelude.{slice_get}
use Rattle.std.specs.Option.{option_map}
use Rattle.std.proofs.lemmas.Option.{slice_get-map}
use Rattle.std.proofs.lemmas.List.{map-append}
use Rattle.fol.specs.FormulaData.{FormulaData}
use Rattle.term_pool.specs.declared.node.Node.{Node}
use Rattle.certificates.specs.BranchesBranch.{formula_of, formulas}
use Rattle.tableau.specs.PoolBranches.{entry_in}
use Rattle.tableau.specs.declared.entry.PoolEntry.{PoolEntry}
use Rattle.tableau.proofs.AnswerLemmas.{pure_entry}
use Rattle.tableau.specs.Numbers.{formula_at}
use Rattle.search.specs.Trees.{branch_of}
use Rattle.search.proofs.AddedLemmas.{branch_append}
use Rattle.tree_checks.specs.Walks.{AreFirstTrees}

-- the formula after the first ones
record HasNext (fs ps : List FormulaData) (f : FormulaData) : Type 0 where
  more : List FormulaData
  are : fs ≡ (ps ++ f ∷ []) ++ more

next_of : (fs ps more : List FormulaData) (f : FormulaData) → fs ≡ ps ++ more → slice_get fs (length ps) ≡ Some f → HasNext fs ps f
next_of [] [] more f e found = absurd (cc)
next_of (x ∷ xs) [] more f e found = (let same : x ≡ f = cc in record { more = xs; are = ap (λ y. y ∷ xs) same })
next_of [] (p ∷ ps) more f e found = absurd (cc)
next_of (x ∷ xs) (p ∷ ps) more f e found =
    let both : x ∷ xs ≡ p ∷ (ps ++ more) = e in
    let first : x ≡ p = cc in
    let rest : xs ≡ ps ++ more = cc in
    let it = next_of xs ps more f rest found in
    record { more = it.more; are = (λ i. first i ∷ it.are i) }

none_behind : (fs ps more : List FormulaData) → fs ≡ ps ++ more → None ≡ slice_get fs (length ps) → ps ≡ fs
none_behind [] [] more e none = refl
none_behind (x ∷ xs) [] more e none = absurd (cc)
none_behind [] (p ∷ ps) more e none = absurd (cc)
none_behind (x ∷ xs) (p ∷ ps) more e none =
    let both : x ∷ xs ≡ p ∷ (ps ++ more) = e in
    let first : p ≡ x = cc in
    let rest : xs ≡ ps ++ more = cc in
    let it = none_behind xs ps more rest none in
    λ i. first i ∷ it i

-- a prefix of the first ones is a prefix of all
first_of : (fs ps more : List FormulaData) (k : ℕ) → fs ≡ ps ++ more → (rest : List FormulaData) × (take k fs ≡ take k ps ++ rest)
first_of fs ps more zero e = ([], refl)
first_of fs [] more (suc k) e = (take (suc k) fs, refl)
first_of [] (p ∷ ps) more (suc k) e = absurd (cc)
first_of (x ∷ xs) (p ∷ ps) more (suc k) e =
    let both : x ∷ xs ≡ p ∷ (ps ++ more) = e in
    let first : x ≡ p = cc in
    let rest : xs ≡ ps ++ more = cc in
    let it = first_of xs ps more k rest in
    (it.0, (λ i. first i ∷ it.1 i))

module _ (ns : List Node) where
  formula_found : (es : List PoolEntry) (k : ℕ) (e : PoolEntry) → slice_get es k ≡ Some e → slice_get (formulas (branch_of ns es)) k ≡ Some (formula_at ns e.formula)
  formula_found es k e h = slice_get-map formula_of (branch_of ns es) k ∙ ap (option_map formula_of) (pure_entry ns es k e h)

  formula_none : (es : List PoolEntry) (k : ℕ) → None ≡ slice_get es k → None ≡ slice_get (formulas (branch_of ns es)) k
  formula_none es k h = sym (slice_get-map formula_of (branch_of ns es) k ∙ ap (option_map formula_of) (slice_get-map (entry_in ns) es k ∙ ap (option_map (entry_in ns)) (sym h)))

  pub trees_more : (es : List PoolEntry) (ps qs : List FormulaData) (e : PoolEntry) → slice_get es (length ps) ≡ Some e → qs ≡ ps ++ formula_at ns e.formula ∷ [] → AreFirstTrees ns es ps → AreFirstTrees ns es qs
  trees_more es ps qs e found is h =
      let it = next_of (formulas (branch_of ns es)) ps h.more (formula_at ns e.formula) h.are (formula_found es (length ps) e found) in
      subst (AreFirstTrees ns es) (sym is) (record { more = it.more; are = it.are })

  pub trees_all : (es : List PoolEntry) (ps : List FormulaData) → None ≡ slice_get es (length ps) → AreFirstTrees ns es ps → ps ≡ formulas (branch_of ns es)
  trees_all es ps none h = none_behind (formulas (branch_of ns es)) ps h.more h.are (formula_none es (length ps) none)

  pub trees_whole : (es : List PoolEntry) (ps : List FormulaData) → ps ≡ formulas (branch_of ns es) → AreFirstTrees ns es ps
  trees_whole es ps e = record { more = []; are = sym e ∙ sym (append-nil ps) }

  pub trees_longer : (es ds : List PoolEntry) (ps : List FormulaData) → AreFirstTrees ns es ps → AreFirstTrees ns (es ++ ds) ps
  trees_longer es ds ps h = record {
    more = h.more ++ formulas (branch_of ns ds);
    are = ap formulas (branch_append ns es ds) ∙ map-append formula_of (branch_of ns es) (branch_of ns ds) ∙ ap (λ xs. xs ++ formulas (branch_of ns ds)) h.are ∙ append_assoc ps h.more (formulas (branch_of ns ds));
  }

  taken_formulas : (k : ℕ) (es : List PoolEntry) → formulas (branch_of ns (take k es)) ≡ take k (formulas (branch_of ns es))
  taken_formulas zero es = refl
  taken_formulas (suc k) [] = refl
  taken_formulas (suc k) (e ∷ es) = (let rest = taken_formulas k es in λ i. formula_at ns e.formula ∷ rest i)

  pub trees_shorter : (k : ℕ) (es : List PoolEntry) (ps : List FormulaData) → AreFirstTrees ns es ps → AreFirstTrees ns (take k es) (take k ps)
  trees_shorter k es ps h =
      let it = first_of (formulas (branch_of ns es)) ps h.more k h.are in
      record { more = it.0; are = taken_formulas k es ∙ it.1 }
