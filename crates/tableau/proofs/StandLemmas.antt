-- Formulas that are new on a branch, and shallow ones.
use Rattle.std.proofs.Common.{◌≡◌, ℕ, ◌<◌, ◌≤◌, List, length, map, get_or, take, sym, ap, ◌∙◌, subst, arith}
use Rattle.std.specs.Prelude.{All}
use Rattle.std.specs.Option.{option_map}
use Rattle.std.proofs.lemmas.List.{length-map, get_or-map, take_all}
use Rattle.std.proofs.lemmas.List.Elements.{All-map}
use Rattle.std.proofs.lemmas.Option.{slice_get-map, slice_get_within, slice_get-get_or, get_or_from_slice_get}
use Rattle.fol.specs.Depth.{formula_depth}
use Rattle.fol.specs.FormulaData.{FormulaData}
use Rattle.term_pool.specs.Depths.{item_depth, counted}
use Rattle.term_pool.specs.Pools.{item_at}
use Rattle.term_pool.specs.declared.node.Node.{Node}
use Rattle.term_pool.proofs.ShapeLemmas.{a_formula}
use Rattle.certificates.specs.BranchesBranch.{Branch, Stands}
use Rattle.certificates.specs.Due.{HasNew, IsShallow}
use Rattle.tableau.specs.PoolBranches.{IsFormulaNumber}
use Rattle.tableau.specs.Numbers.{formula_at}

-- a property that fails for one formula of a list fails for all together
pub not_all : (P : FormulaData → Type 0) (f : ℕ → FormulaData) (xs : List ℕ) (i : ℕ) → i < length xs → (P (f (get_or xs i 0)) → ⊥) → All P (map f xs) → ⊥
not_all P f xs i w fails all =
    let within : i < length (map f xs) = omega (arith, w, length-map xs f) in
    fails (subst P (get_or-map f xs i 0 (f 0) w) (all i (f 0) within))

-- a property that was checked for each number holds for all formulas
pub all_taken : (P : FormulaData → Type 0) (f : ℕ → FormulaData) (xs : List ℕ) (i : ℕ) → length xs ≤ i → All (λ n. P (f n)) (take i xs) → All P (map f xs)
all_taken P f xs i w all = All-map P f xs (subst (All (λ n. P (f n))) (take_all i xs w) all)

module _ (ns : List Node) (b : Branch) where
  pub none_new : (xs : List ℕ) → All (λ n. Stands b (formula_at ns n)) xs → HasNew b (map (formula_at ns) xs) → ⊥
  none_new xs all h =
      let within : h.position < length xs = omega (arith, slice_get_within (map (formula_at ns) xs) h.position h.formula h.found, length-map xs (formula_at ns)) in
      let is : formula_at ns (get_or xs h.position 0) ≡ h.formula = sym (get_or-map (formula_at ns) xs h.position 0 h.formula within) ∙ get_or_from_slice_get (map (formula_at ns) xs) h.position h.formula h.formula h.found in
      h.is_new.new (subst (Stands b) is (all h.position 0 within))

  pub none_new_taken : (xs : List ℕ) (i : ℕ) → length xs ≤ i → All (λ n. Stands b (formula_at ns n)) (take i xs) → HasNew b (map (formula_at ns) xs) → ⊥
  none_new_taken xs i w all = none_new xs (subst (All (λ n. Stands b (formula_at ns n))) (take_all i xs w) all)

  pub some_new : (xs : List ℕ) (i : ℕ) → i < length xs → (Stands b (formula_at ns (get_or xs i 0)) → ⊥) → HasNew b (map (formula_at ns) xs)
  some_new xs i w fails = record {
    position = i;
    formula = formula_at ns (get_or xs i 0);
    found = slice_get-map (formula_at ns) xs i ∙ ap (option_map (formula_at ns)) (slice_get-get_or xs i 0 w);
    is_new = record { new = fails };
  }

-- ---- depth

depth_at : (ns : List Node) (n : ℕ) → IsFormulaNumber ns n → item_depth (item_at ns n) ≡ formula_depth (formula_at ns n)
depth_at ns n h = ap item_depth (sym (a_formula (item_at ns n) h.sort))

pub shallow_at : (ns : List Node) (n d : ℕ) → IsFormulaNumber ns n → d ≡ counted (item_depth (item_at ns n)) → d ≤ 2000 → IsShallow (formula_at ns n)
shallow_at ns n d h e l = omega (arith, e, l, depth_at ns n h)

pub too_deep_at : (ns : List Node) (n d : ℕ) → IsFormulaNumber ns n → d ≡ counted (item_depth (item_at ns n)) → 2000 < d → IsShallow (formula_at ns n) → ⊥
too_deep_at ns n d h e l s = omega (arith, e, l, s, depth_at ns n h)
