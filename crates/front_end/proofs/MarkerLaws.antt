-- Tokens have one first marker.
use Rattle.std.proofs.Common.{◌≡◌, ℕ, zero, suc, List, [], ◌∷◌, refl, ap}
use Rattle.tokens.specs.declared.token.Token.{Token}
use Rattle.parser_base.specs.Markers.{HoldNone, IsFirstMarker}

pub marker_once : (ts : List Token) (i j : ℕ) → IsFirstMarker ts i → IsFirstMarker ts j → i ≡ j
marker_once [] i j p q = absurd p
marker_once (t ∷ ts) zero zero p q = refl
marker_once (t ∷ ts) zero (suc j) p q = absurd (q.0 p)
marker_once (t ∷ ts) (suc i) zero p q = absurd (p.0 q)
marker_once (t ∷ ts) (suc i) (suc j) p q = ap suc (marker_once ts i j p.1 q.1)

pub marker_or_none : (ts : List Token) (i : ℕ) → IsFirstMarker ts i → HoldNone ts → ⊥
marker_or_none [] i p h = p
marker_or_none (t ∷ ts) zero p h = h.0 p
marker_or_none (t ∷ ts) (suc i) p h = marker_or_none ts i p.1 h.1
