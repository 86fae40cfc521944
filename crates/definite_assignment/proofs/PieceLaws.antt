-- Pieces of code one after another.
use Rattle.std.proofs.Common.{◌≡◌, ℕ, ◌+◌, ◌<◌, Bool, true, false, ◌||◌, eqb, List, [], ◌∷◌, ◌++◌, length, map, take, get_or, refl, sym, ap, ◌∙◌}
use Rattle.std.proofs.lemmas.List.{map-append, take_more}
use Rattle.typing_rules.specs.Flows.{Flow, Then, quiet}
use Rattle.typing_rules.specs.Pieces.{Piece, in_order, all_binds, piece_at}
use Rattle.definite_assignment.specs.declared.sets.LocalSet.{LocalSet}
use Rattle.definite_assignment.specs.LocalEffects.{is_among}
use Rattle.definite_assignment.specs.Sets.{has}
use Rattle.definite_assignment.specs.Shown.{Means}
use Rattle.definite_assignment.proofs.EventLaws.{or_false}

in_order_more : (f : Flow) (ps : List Piece) (p : Piece) → in_order f (ps ++ p ∷ []) ≡ Then (in_order f ps) p.flow
in_order_more f [] p = refl
in_order_more f (q ∷ ps) p = in_order_more (Then f q.flow) ps p

parts_more : (done : List Piece) (parts : List ℕ) (k : ℕ) → k < length parts → map (piece_at done) (take (k + 1) parts) ≡ map (piece_at done) (take k parts) ++ piece_at done (get_or parts k 0) ∷ []
parts_more done parts k h = ap (map (piece_at done)) (take_more parts k 0 h) ∙ map-append (piece_at done) (take k parts) (get_or parts k 0 ∷ [])

pub order_next : (done : List Piece) (parts : List ℕ) (k : ℕ) → k < length parts
    → in_order quiet (map (piece_at done) (take (k + 1) parts)) ≡ Then (in_order quiet (map (piece_at done) (take k parts))) (piece_at done (get_or parts k 0)).flow
order_next done parts k h = ap (in_order quiet) (parts_more done parts k h) ∙ in_order_more quiet (map (piece_at done) (take k parts)) (piece_at done (get_or parts k 0))

or_assoc : (x y z : Bool) → ((x || y) || z) ≡ (x || (y || z))
or_assoc true y z = refl
or_assoc false y z = refl

pub among_append : (l : ℕ) (a b : List ℕ) → is_among l (a ++ b) ≡ (is_among l a || is_among l b)
among_append l [] b = refl
among_append l (m ∷ a) b = ap (λ x. eqb m l || x) (among_append l a b) ∙ sym (or_assoc (eqb m l) (is_among l a) (is_among l b))

binds_more : (l : ℕ) (ps : List Piece) (p : Piece) → is_among l (all_binds (ps ++ p ∷ [])) ≡ (is_among l (all_binds ps) || is_among l p.binds)
binds_more l [] p = among_append l p.binds [] ∙ or_false (is_among l p.binds)
binds_more l (q ∷ ps) p =
    among_append l q.binds (all_binds (ps ++ p ∷ [])) ∙ ap (λ x. is_among l q.binds || x) (binds_more l ps p)
    ∙ sym (or_assoc (is_among l q.binds) (is_among l (all_binds ps)) (is_among l p.binds)) ∙ ap (λ x. x || is_among l p.binds) (sym (among_append l q.binds (all_binds ps)))

pub binds_next : (base : ℕ) (old one new : LocalSet) (done : List Piece) (parts : List ℕ) (k : ℕ) → k < length parts
    → ((i : ℕ) → has new i ≡ (has old i || has one i))
    → Means base old (all_binds (map (piece_at done) (take k parts)))
    → Means base one (piece_at done (get_or parts k 0)).binds
    → Means base new (all_binds (map (piece_at done) (take (k + 1) parts)))
binds_next base old one new done parts k h union before next = record {
  meant = λ i b.
      union i ∙ ap (λ x. x || has one i) (before.meant i b) ∙ ap (λ x. is_among (base + i) (all_binds (map (piece_at done) (take k parts))) || x) (next.meant i b)
      ∙ sym (binds_more (base + i) (map (piece_at done) (take k parts)) (piece_at done (get_or parts k 0)))
      ∙ ap (λ ps. is_among (base + i) (all_binds ps)) (sym (parts_more done parts k h));
}
