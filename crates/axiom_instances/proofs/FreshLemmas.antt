-- The least variable that is free in neither of two terms, and the instance that a pair of vectors triggers with it.
use Rattle.std.proofs.Common.{◌≡◌, ◌⊎◌, inl, inr, ℕ, ◌+◌, ◌<◌, ◌≤◌, Bool, true, false, List, [], ◌∷◌, refl, sym, ap, ◌∙◌, subst, arith}
use Rattle.std.specs.Prelude.{◌||◌}
use Rattle.std.proofs.lemmas.Bool.{cases_eq, cases_lt}
use Rattle.base.specs.TypeData.{TypeData, VectorType}
use Rattle.fol.specs.FormulaData.{TermData, FormulaData}
use Rattle.substitution.specs.Free.{free_in_term}
use Rattle.axioms.specs.declared.axiom.Axiom.{Axiom}
use Rattle.certificates.specs.Due.{IsVariable}
use Rattle.certificates.specs.Table.{IsLeastFresh}
use Rattle.term_pool.specs.Items.{type_in}
use Rattle.term_pool.specs.Pools.{item_at}
use Rattle.term_pool.specs.Free.{free_in_item}
use Rattle.term_pool.specs.declared.node.Node.{Node}
use Rattle.axiom_instances.specs.Asks.{AsksOfVectors, ByVectors}
use Rattle.axiom_instances.specs.Lists.{IsAmong, IsHere, AreAll}
use Rattle.axiom_instances.specs.Numbers.{IsTermNumber, IsVector, term_at, type_at}
use Rattle.axiom_instances.specs.PairRows.{IsNoVector}
use Rattle.axiom_instances.specs.Fresh.{HasFresh, HasNoFresh}
use Rattle.axiom_instances.specs.VectorRows.{AsksOfPair, same_items_row}

-- ---- the variables tried so far

-- each of the first numbers is that of a variable that is free in one of the terms
pub record AreFree (t u : TermData) (count : ℕ) : Type 0 where
  pub each : (k : ℕ) → k < count → (free_in_term k t ≡ true) ⊎ (free_in_term k u ≡ true)

pub none_free : (t u : TermData) → AreFree t u 0
none_free t u = record { each = λ k w. absurd (omega arith) }

either : (a b : Bool) → true ≡ (a || b) → (a ≡ true) ⊎ (b ≡ true)
either true b e = inl refl
either false b e = inr (sym e)

neither : (a b : Bool) → false ≡ (a || b) → (a ≡ false) × (b ≡ false)
neither true b e = absurd (cc)
neither false b e = (refl, sym e)

pub more_free : (t u : TermData) (n : ℕ) (found : Bool) → AreFree t u n → found ≡ (free_in_term n t || free_in_term n u) → found ≡ true → AreFree t u (n + 1)
more_free t u n found h e f = record { each = λ k w. go k w (cases_eq k n) }
  where
    go : (k : ℕ) → k < n + 1 → (k ≡ n) ⊎ (k ≡ n → ⊥) → (free_in_term k t ≡ true) ⊎ (free_in_term k u ≡ true)
    go k w (inl same) = subst (λ j. (free_in_term j t ≡ true) ⊎ (free_in_term j u ≡ true)) (sym same) (either (free_in_term n t) (free_in_term n u) (sym f ∙ e))
    go k w (inr d) = h.each k (omega (arith, w, d))

pub all_free : (t u : TermData) (n : ℕ) (found : Bool) → AreFree t u n → found ≡ (free_in_term n t || free_in_term n u) → found ≡ true → n ≡ 4294967295 → HasNoFresh t u
all_free t u n found h e f last = record { each = λ k w. (more_free t u n found h e f).each k (omega (arith, w, last)) }

pub least_free : (t u : TermData) (n : ℕ) (found : Bool) → AreFree t u n → found ≡ (free_in_term n t || free_in_term n u) → found ≡ false → IsLeastFresh n t u
least_free t u n found h e f =
    let both = neither (free_in_term n t) (free_in_term n u) (sym f ∙ e) in
    record { not_left = both.0; not_right = both.1; least = h.each }

-- ---- pairs of vectors

clash : (b : Bool) → b ≡ false → b ≡ true → ⊥
clash b e f = let both : false ≡ true = sym e ∙ f in absurd (cc)

not_below : (t u : TermData) (i j : ℕ) → IsLeastFresh i t u → IsLeastFresh j t u → i < j → ⊥
not_below t u i j h k w = go (k.least i w)
  where
    go : (free_in_term i t ≡ true) ⊎ (free_in_term i u ≡ true) → ⊥
    go (inl e) = clash _ h.not_left e
    go (inr e) = clash _ h.not_right e

one_least : (t u : TermData) (i j : ℕ) → IsLeastFresh i t u → IsLeastFresh j t u → i ≡ j
one_least t u i j h k = go (cases_lt i j) (cases_eq i j)
  where
    go : (i < j) ⊎ (j ≤ i) → (i ≡ j) ⊎ (i ≡ j → ⊥) → i ≡ j
    go (inl w) _ = absurd (not_below t u i j h k w)
    go (inr l) (inl e) = e
    go (inr l) (inr d) = absurd (not_below t u j i k h (omega (arith, l, d)))

stands : {b : TypeData} {v u : TermData} {name : Axiom} {ts : List TermData} {p : FormulaData} → AsksOfVectors b v u name ts p → (a : TypeData) → b ≡ VectorType a → (i : ℕ) → IsLeastFresh i v u → IsAmong (record { name = name; terms = ts; formula = p }) (same_items_row a v u i ∷ [])
stands (ByVectors c v u j f) a e i g =
    let same : c ≡ a = cc in
    subst (λ x. IsAmong (same_items_row c v u j) (same_items_row x v u i ∷ [])) same (subst (λ x. IsAmong (same_items_row c v u j) (same_items_row c v u x ∷ [])) (one_least v u j i f g) (IsHere []))

pair_all : (a : TypeData) (v u : TermData) (i : ℕ) → IsLeastFresh i v u → IsVariable i → AreAll (same_items_row a v u i ∷ []) (AsksOfPair (VectorType a) v u)
pair_all a v u i h w = record {
  only = (record { fresh = record { number = i; is_variable = w; not_left = h.not_left; not_right = h.not_right }; triggered = ByVectors a v u i h }, tt);
  all = λ name ts p asks. stands asks.triggered a refl i h;
}

pub pair_here : {ns : List Node} {of items : ℕ} (v u : TermData) (i : ℕ) → IsVector ns of items → IsLeastFresh i v u → IsVariable i → AreAll (same_items_row (type_at ns items) v u i ∷ []) (AsksOfPair (type_at ns of) v u)
pair_here {ns} {of} {items} v u i h f w =
    subst (λ b. AreAll (same_items_row (type_at ns items) v u i ∷ []) (AsksOfPair b v u)) (sym (ap type_in h.whole.is)) (pair_all (type_at ns items) v u i f w)

pub no_fresh : (b : TypeData) (v u : TermData) → HasNoFresh v u → AreAll [] (AsksOfPair b v u)
no_fresh b v u none = record { only = tt; all = λ name ts p asks. absurd (go asks.fresh) }
  where
    go : HasFresh v u → ⊥
    go h = split (none.each h.number h.is_variable)
      where
        split : (free_in_term h.number v ≡ true) ⊎ (free_in_term h.number u ≡ true) → ⊥
        split (inl e) = clash _ h.not_left e
        split (inr e) = clash _ h.not_right e

of_vector : {b : TypeData} {v u : TermData} {name : Axiom} {ts : List TermData} {p : FormulaData} → AsksOfVectors b v u name ts p → ((a : TypeData) → b ≡ VectorType a → ⊥) → ⊥
of_vector (ByVectors c v u j f) d = d c refl

pub no_vectors : {ns : List Node} {of : ℕ} (v u : TermData) → IsNoVector ns of → AreAll [] (AsksOfPair (type_at ns of) v u)
no_vectors v u none = record { only = tt; all = λ name ts p asks. absurd (of_vector asks.triggered none.none) }

-- ---- whether a variable is in a term of a pool

pub in_term : {ns : List Node} {i : ℕ} (v : ℕ) (found : Bool) → IsTermNumber ns i → found ≡ free_in_item v (item_at ns i) → found ≡ free_in_term v (term_at ns i)
in_term v found h e = e ∙ ap (free_in_item v) h.is

pub left_found : (a b found : Bool) → found ≡ a → found ≡ true → true ≡ (a || b)
left_found a b found e f = ap (λ c. c || b) (sym f ∙ e)

pub right_found : (a b found other : Bool) → found ≡ a → found ≡ false → other ≡ b → other ≡ (a || b)
right_found a b found other e f g = g ∙ ap (λ c. c || b) (sym f ∙ e)
