-- Roots of numbers.
use Rattle.std.proofs.Common.{◌≡◌, ◌⊎◌, inl, inr, ℕ, ◌-◌, ◌<◌, ◌≤◌, List, length, Option, Some, None, refl, sym, ap, ◌∙◌, subst, arith}
use Rattle.congruence_closure.specs.Histories.{step_of, IsStill, IsRoot, Stays, Climbs, AreRising, IsParent, IsOnWay, rank}
use Rattle.congruence_closure.specs.declared.proof_forest.Step.{Step}

pub same_step : (o : Option Step) (s t : Step) → o ≡ Some s → o ≡ Some t → s ≡ t
same_step o s t e f = (let both : Some s ≡ Some t = sym e ∙ f in cc)

module _ (steps : List (Option Step)) where
  pub still_none : (k i : ℕ) → step_of steps i ≡ None → IsStill steps k i
  still_none k i e = record { later = λ s f. (let both : None ≡ Some s = sym e ∙ f in absurd (cc)) }

  inverted : (k i q : ℕ) → IsRoot steps k i q → (IsStill steps k i × (q ≡ i)) ⊎ ((s : Step) × (step_of steps i ≡ Some s) × (s.link < k) × IsRoot steps k s.parent q)
  inverted k _ _ (Stays i still) = inl (still, refl)
  inverted k _ _ (Climbs i r s f w h) = inr (s, f, w, h)

  pub root_unique : (k i r q : ℕ) → IsRoot steps k i r → IsRoot steps k i q → r ≡ q
  root_unique k _ _ q (Stays i still) g = go (inverted k i q g)
    where
      go : (IsStill steps k i × (q ≡ i)) ⊎ ((s : Step) × (step_of steps i ≡ Some s) × (s.link < k) × IsRoot steps k s.parent q) → i ≡ q
      go (inl p) = sym p.1
      go (inr p) = (let late = still.later p.0 p.1 in absurd (omega (arith, late, p.2)))
  root_unique k _ _ q (Climbs i r s f w h) g = go (root_unique k s.parent r q h) (inverted k i q g)
    where
      go : (IsRoot steps k s.parent q → r ≡ q) → (IsStill steps k i × (q ≡ i)) ⊎ ((t : Step) × (step_of steps i ≡ Some t) × (t.link < k) × IsRoot steps k t.parent q) → r ≡ q
      go up (inl p) = (let late = p.0.later s f in absurd (omega (arith, late, w)))
      go up (inr p) = up (subst (λ (x : Step). IsRoot steps k x.parent q) (same_step (step_of steps i) p.0 s p.1 f) p.3)

  pub onward : (k m i r q : ℕ) → k ≤ m → IsRoot steps k i r → IsRoot steps m r q → IsRoot steps m i q
  onward k m _ _ q le (Stays i still) g = g
  onward k m _ _ q le (Climbs i r s f w h) g = Climbs i q s f (omega (arith, w, le)) (onward k m s.parent r q le h g)

  pub longer : (k m i r : ℕ) → k ≤ m → IsRoot steps k i r → IsStill steps m r → IsRoot steps m i r
  longer k m i r le h still = onward k m i r r le h (Stays r still)

  pub root_still : (k i r : ℕ) → IsRoot steps k i r → IsStill steps k r
  root_still k _ _ (Stays i still) = still
  root_still k _ _ (Climbs i r s f w h) = root_still k s.parent r h

  pub root_within : AreRising steps → (k i r : ℕ) → i < length steps → IsRoot steps k i r → r < length steps
  root_within rising k _ _ w (Stays i still) = w
  root_within rising k _ _ w (Climbs i r s f l h) = root_within rising k s.parent r (rising.within i s f) h

  -- ---- the climb

  pub way_begun : (k i : ℕ) → IsOnWay steps k i i
  way_begun k i = record { leads = λ r h. h }

  pub way_on : (k i top p : ℕ) → IsOnWay steps k i top → IsParent steps k top p → IsOnWay steps k i p
  way_on k i top p way up = record { leads = λ r h. way.leads r (Climbs top r up.step up.is_step up.early (subst (λ x. IsRoot steps k x r) (sym up.is) h)) }

  pub way_done : (k i top : ℕ) → IsOnWay steps k i top → IsStill steps k top → IsRoot steps k i top
  way_done k i top way still = way.leads top (Stays top still)

  pub rank_falls : AreRising steps → (k i p : ℕ) → IsParent steps k i p → rank k (step_of steps p) < rank k (step_of steps i)
  rank_falls rising k i p up = go (step_of steps p) refl
    where
      here : rank k (step_of steps i) ≡ k - up.step.link
      here = ap (rank k) up.is_step

      go : (o : Option Step) → step_of steps p ≡ o → rank k (step_of steps p) < rank k (step_of steps i)
      go None e =
          let there : rank k (step_of steps p) ≡ 0 = ap (rank k) e in
          let early = up.early in
          omega (arith, here, there, early)
      go (Some t) e =
          let there : rank k (step_of steps p) ≡ k - t.link = ap (rank k) e in
          let early = up.early in
          let rises = rising.rising i up.step t up.is_step (ap (step_of steps) up.is ∙ e) in
          omega (arith, here, there, early, rises)
