-- The formulas that the steps of an explanation add, and whether they were there before.
use Rattle.std.proofs.Common.{◌≡◌, ◌↔◌, ◌⊎◌, inl, inr, ℕ, ◌+◌, ◌<◌, ◌≤◌, Bool, true, false, IsTrue, List, ◌++◌, length, get_or, take, map, refl, sym, ap, ◌∙◌, subst, arith}
use Rattle.std.specs.Prelude.{All, Contains}
use Rattle.std.proofs.lemmas.List.{length-map, get_or-map, take_all}
use Rattle.std.proofs.lemmas.List.Elements.{All-more, All-get_or, All-contains, Contains-get_or, Contains-append_left, Contains-append_right, Contains-append_cases}
use Rattle.std.proofs.lemmas.Option.{slice_get_within, slice_get-get_or, get_or_from_slice_get}
use Rattle.fol.specs.FormulaData.{FormulaData}
use Rattle.term_pool.specs.Items.{FormulaItem}
use Rattle.term_pool.specs.Pools.{item_at, IsOneNumber}
use Rattle.term_pool.specs.declared.node.Node.{Node}
use Rattle.term_pool.proofs.ShapeLemmas.{a_formula}
use Rattle.certificates.specs.BranchesBranch.{Branch, Entry, formula_of, formulas, Stands}
use Rattle.certificates.specs.declared.branches.origin.Origin.TheVariants.{Other}
use Rattle.tableau.specs.PoolBranches.{IsFormulaNumber}
use Rattle.tableau.specs.Numbers.{formula_at, AreFormulas}
use Rattle.explanations.specs.declared.chain.ChainStep.{ChainStep}
use Rattle.step_checks.specs.Links.{IsShallowStep, AreShallow}
use Rattle.step_checks.proofs.ClosingsTruthLemmas.{never}

-- ---- shallow steps

pub both_shallow : {P Q : Type 0} → P → (known : Bool) → IsTrue known ↔ Q → IsTrue known ↔ (P × Q)
both_shallow p known h = (λ yes. (p, h.0 yes), λ both. h.1 both.1)

pub one_deep : {P Q : Type 0} (known : Bool) → known ≡ false → IsTrue known ↔ P → IsTrue false ↔ (P × Q)
one_deep known e h = never (λ both. (let yes = h.1 both.0 in absurd (cc)))

module _ (ns : List Node) (xs : List ChainStep) (i : ℕ) where
  pub shallow_more : (x : ChainStep) (known : Bool) → i < length xs → IsTrue known ↔ IsShallowStep ns (get_or xs i x) → known ≡ true → All (IsShallowStep ns) (take i xs) → All (IsShallowStep ns) (take (i + 1) xs)
  shallow_more x known w h e all = All-more (IsShallowStep ns) xs i x w all (h.0 e)

  pub shallow_fails : (x : ChainStep) (known : Bool) → i < length xs → IsTrue known ↔ IsShallowStep ns (get_or xs i x) → known ≡ false → IsTrue false ↔ AreShallow ns xs
  shallow_fails x known w h e = never (λ all. (let yes = h.1 (All-get_or (IsShallowStep ns) xs i x w all.each) in absurd (cc)))

  pub shallow_all : length xs ≤ i → All (IsShallowStep ns) (take i xs) → IsTrue true ↔ AreShallow ns xs
  shallow_all w all = (λ yes. record { each = subst (All (IsShallowStep ns)) (take_all i xs w) all }, λ h. refl)

-- ---- numbers among others

module _ (xs : List ℕ) (n : ℕ) where
  pub among_here : (i : ℕ) → i < length xs → get_or xs i 0 ≡ n → IsTrue true ↔ Contains xs n
  among_here i w e = (λ yes. subst (Contains xs) e (Contains-get_or xs i 0 w), λ h. refl)

  pub among_none : (i : ℕ) → length xs ≤ i → All (λ m. m ≡ n → ⊥) (take i xs) → IsTrue false ↔ Contains xs n
  among_none i w all = never (λ h. All-contains (λ m. m ≡ n → ⊥) xs n (subst (All (λ m. m ≡ n → ⊥)) (take_all i xs w) all) h refl)

-- ---- formulas among others

contains_map : {X Y : Type 0} (f : X → Y) (xs : List X) (x : X) → Contains xs x → Contains (map f xs) (f x)
contains_map f xs x h =
    let w = h.1 in
    (h.0, omega (arith, w, length-map xs f), get_or-map f xs h.0 x (f x) h.1 ∙ ap f h.2)

pub formula_once : (ns : List Node) → IsOneNumber ns → (i j : ℕ) → IsFormulaNumber ns i → IsFormulaNumber ns j → formula_at ns i ≡ formula_at ns j → i ≡ j
formula_once ns one i j s t e =
    one.one i j s.within t.within (sym (a_formula (item_at ns i) s.sort) ∙ ap FormulaItem e ∙ a_formula (item_at ns j) t.sort)

contains_number : (ns : List Node) → IsOneNumber ns → (xs : List ℕ) → AreFormulas ns xs → (n : ℕ) → IsFormulaNumber ns n → Contains (map (formula_at ns) xs) (formula_at ns n) → Contains xs n
contains_number ns one xs formulas n number h =
    let w = h.1 in
    let within : h.0 < length xs = omega (arith, w, length-map xs (formula_at ns)) in
    let is : formula_at ns (get_or xs h.0 n) ≡ formula_at ns n = sym (get_or-map (formula_at ns) xs h.0 n (formula_at ns n) within) ∙ h.2 in
    (h.0, within, formula_once ns one (get_or xs h.0 n) n (All-get_or (IsFormulaNumber ns) xs h.0 n within formulas.each) number is)

-- ---- entries

stands_contained : (b : Branch) (p : FormulaData) → Stands b p → Contains (formulas b) p
stands_contained b p s =
    let e = s.says.entry in
    let w = slice_get_within b s.position e s.says.found in
    (s.position, omega (arith, w, length-map b formula_of), get_or-map formula_of b s.position e p w ∙ ap formula_of (get_or_from_slice_get b s.position e e s.says.found) ∙ s.says.is)

contained_stands : (b : Branch) (p : FormulaData) → Contains (formulas b) p → Stands b p
contained_stands b p h =
    let none : Entry = record { formula = p; generation = 0; origin = Other } in
    let w = h.1 in
    let within : h.0 < length b = omega (arith, w, length-map b formula_of) in
    record {
      position = h.0;
      says = record {
        entry = get_or b h.0 none;
        found = slice_get-get_or b h.0 none within;
        is = sym (get_or-map formula_of b h.0 none p within) ∙ h.2;
      };
    }

module _ (ns : List Node) (b : Branch) (xs : List ℕ) (n : ℕ) where
  pub stands_so : Stands b (formula_at ns n) → IsTrue true ↔ Contains (formulas b ++ map (formula_at ns) xs) (formula_at ns n)
  stands_so s = (λ yes. Contains-append_left (formulas b) (map (formula_at ns) xs) (formula_at ns n) (stands_contained b (formula_at ns n) s), λ h. refl)

  pub among_given : IsOneNumber ns → AreFormulas ns xs → IsFormulaNumber ns n → (Stands b (formula_at ns n) → ⊥) → (known : Bool) → IsTrue known ↔ Contains xs n → IsTrue known ↔ Contains (formulas b ++ map (formula_at ns) xs) (formula_at ns n)
  among_given one formulas_are number none known h = (
    λ yes. Contains-append_right (formulas b) (map (formula_at ns) xs) (formula_at ns n) (contains_map (formula_at ns) xs n (h.0 yes)),
    λ c. go (Contains-append_cases (formulas b) (map (formula_at ns) xs) (formula_at ns n) c),
  )
    where
      go : Contains (formulas b) (formula_at ns n) ⊎ Contains (map (formula_at ns) xs) (formula_at ns n) → IsTrue known
      go (inl c) = absurd (none (contained_stands b (formula_at ns n) c))
      go (inr c) = h.1 (contains_number ns one xs formulas_are n number c)
