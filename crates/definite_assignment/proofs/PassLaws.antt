-- Summaries of one more node.
use Rattle.std.proofs.Common.{◌≡◌, ℕ, zero, suc, ◌+◌, ◌<◌, List, [], ◌∷◌, ◌++◌, length, take, Some, refl, sym, ap, ◌∙◌, subst, inl, inr, arith, length-append}
use Rattle.std.specs.Prelude.{slice_get}
use Rattle.std.proofs.lemmas.List.{take_more, get_or_append_left}
use Rattle.std.proofs.lemmas.Bool.{cases_lt}
use Rattle.std.proofs.lemmas.Option.{slice_get-get_or, slice_get_within, get_or_from_slice_get}
use Rattle.std.proofs.Math.Seq.{get_or-append_seam}
use Rattle.program.specs.declared.declaration.AbilitySet.{AbilitySet}
use Rattle.typing_rules.specs.Pieces.{CodeNode, Piece, no_piece, piece_at, piece_of, pieces_in, pieces}
use Rattle.definite_assignment.specs.declared.summary.Summary.{Summary}
use Rattle.definite_assignment.specs.Summaries.{Stands, AllStand}

pieces_in-push : (types : List AbilitySet) (done : List Piece) (ns : List CodeNode) (n : CodeNode) → pieces_in types done (ns ++ n ∷ []) ≡ pieces_in types done ns ++ piece_of types (pieces_in types done ns) n ∷ []
pieces_in-push types done [] n = refl
pieces_in-push types done (m ∷ ns) n = pieces_in-push types (done ++ piece_of types done m ∷ []) ns n

pieces_in-length : (types : List AbilitySet) (done : List Piece) (ns : List CodeNode) → length (pieces_in types done ns) ≡ length done + length ns
pieces_in-length types done [] = omega arith
pieces_in-length types done (n ∷ ns) = omega (arith, pieces_in-length types (done ++ piece_of types done n ∷ []) ns, length-append done (piece_of types done n ∷ []))

pub pieces-length : (types : List AbilitySet) (ns : List CodeNode) → length (pieces types ns) ≡ length ns
pieces-length types ns = omega (arith, pieces_in-length types [] ns)

got_left : {X : Type 0} (xs ys : List X) (k : ℕ) → k < length xs → slice_get (xs ++ ys) k ≡ slice_get xs k
got_left [] ys k h = absurd (omega arith)
got_left (x ∷ xs) ys zero h = refl
got_left (x ∷ xs) ys (suc k) h = got_left xs ys k (omega arith)

got_seam : {X : Type 0} (xs : List X) (y : X) → slice_get (xs ++ y ∷ []) (length xs) ≡ Some y
got_seam xs y = slice_get-get_or (xs ++ y ∷ []) (length xs) y (omega (arith, length-append xs (y ∷ []))) ∙ ap Some (get_or-append_seam xs y [] y)

-- one more summary
pub stand_more : (base : ℕ) (ss : List Summary) (ps : List Piece) (s : Summary) (p : Piece) → AllStand base ss ps → Stands base s p → AllStand base (ss ++ s ∷ []) (ps ++ p ∷ [])
stand_more base ss ps s p all one = record {
  same = omega (arith, all.same, length-append ss (s ∷ []), length-append ps (p ∷ []));
  each = λ k t e.
      elim (cases_lt k (length ss)) [
        | inl before ↦
            let inside : k < length ps = omega (arith, all.same) in
            let old : slice_get ss k ≡ Some t = sym (got_left ss (s ∷ []) k before) ∙ e in
            subst (λ (x : Piece). Stands base t x) (sym (get_or_append_left ps (p ∷ []) no_piece k inside)) (all.each k t old)
        | inr behind ↦
            let top = slice_get_within (ss ++ s ∷ []) k t e in
            let last : length ss ≡ k = omega (arith, length-append ss (s ∷ []), top) in
            let end : length ps ≡ k = omega (arith, all.same) in
            let there : slice_get (ss ++ s ∷ []) k ≡ Some s = subst (λ (j : ℕ). slice_get (ss ++ s ∷ []) j ≡ Some s) last (got_seam ss s) in
            let same : s ≡ t = cc in
            let piece : piece_at (ps ++ p ∷ []) k ≡ p = subst (λ (j : ℕ). piece_at (ps ++ p ∷ []) j ≡ p) end (get_or-append_seam ps p [] no_piece) in
            subst (λ (x : Piece). Stands base t x) (sym piece) (subst (λ (x : Summary). Stands base x p) same one)
      ];
}

pub no_stand : (base : ℕ) (types : List AbilitySet) (ns : List CodeNode) → AllStand base [] (pieces types (take 0 ns))
no_stand base types ns = record { same = refl; each = λ k t e. absurd (cc) }

-- one more node of a body
pub stand_next : (base : ℕ) (types : List AbilitySet) (ns : List CodeNode) (k : ℕ) (n : CodeNode) (ss : List Summary) (s : Summary) → slice_get ns k ≡ Some n
    → AllStand base ss (pieces types (take k ns)) → Stands base s (piece_of types (pieces types (take k ns)) n)
    → AllStand base (ss ++ s ∷ []) (pieces types (take (k + 1) ns))
stand_next base types ns k n ss s e all one =
    let inside = slice_get_within ns k n e in
    let more : take (k + 1) ns ≡ take k ns ++ n ∷ [] = take_more ns k n inside ∙ ap (λ x. take k ns ++ x ∷ []) (get_or_from_slice_get ns k n n e) in
    subst (λ (ps : List Piece). AllStand base (ss ++ s ∷ []) ps) (sym (ap (pieces types) more ∙ pieces_in-push types [] (take k ns) n))
    (stand_more base ss (pieces types (take k ns)) s (piece_of types (pieces types (take k ns)) n) all one)
