-- Pairs that were in a set before they were added.
use Rattle.std.proofs.Common.{◌≡◌, ◌↔◌, ℕ, Bool, true, false, true≢false, List, refl, sym, ◌∙◌}
use Rattle.std.specs.Prelude.{Contains, IsTrue}
use Rattle.std.specs.List.{list_any}
use Rattle.base.proofs.PairLemmas.{same_pair, pair_found}

-- a pair that is not missing is there
stable_pair : (ps : List (ℕ × ℕ)) (p : ℕ × ℕ) → ((Contains ps p → ⊥) → ⊥) → Contains ps p
stable_pair ps p h = go (list_any (same_pair p) ps) refl
  where
    go : (r : Bool) → list_any (same_pair p) ps ≡ r → Contains ps p
    go true e = (pair_found ps ps p (list_any (same_pair p) ps) refl refl).0 e
    go false e = absurd (h (λ m. true≢false (sym ((pair_found ps ps p (list_any (same_pair p) ps) refl refl).1 m) ∙ e)))

pub was_there : (ps : List (ℕ × ℕ)) (p : ℕ × ℕ) (fresh : Bool) → fresh ≡ false → IsTrue fresh ↔ (Contains ps p → ⊥) → Contains ps p
was_there ps p fresh e h = stable_pair ps p (λ none. true≢false (sym (h.1 none) ∙ e))
