-- The proof forest edges that rewritings use, and their equations.
use Rattle.std.proofs.Common.{◌≡◌, ◌⊎◌, inl, inr, ℕ, zero, ◌+◌, ◌<◌, Bool, true, false, List, [], ◌∷◌, ◌++◌, length, take, get_or, Option, Some, sym, ap, ◌∙◌, subst}
use Rattle.std.specs.Prelude.{slice_get}
use Rattle.std.proofs.lemmas.List.{take_more}
use Rattle.std.proofs.lemmas.Option.{slice_get-get_or}
use Rattle.term_pool.specs.Pools.{item_at, Extends}
use Rattle.term_pool.specs.declared.node.Node.{Node}
use Rattle.term_pool.proofs.ItemLemmas.{item_kept}
use Rattle.congruence_closure.specs.declared.classes.link.Link.{Link}
use Rattle.certificates.specs.BranchesBranch.{Branch}
use Rattle.explanations.specs.Chains.{ChainData, Keeps}
use Rattle.explanations.proofs.ChainLemmas.{push_kept, push_new}
use Rattle.explanations.specs.Replacing.{AreInTurn}
use Rattle.explanations.specs.Graphs.{IsGraph}
use Rattle.explanations.specs.Plans.{is_needed, IsOnAny, CanMark, AreMarked, HasTermEnds, AreNeeded}
use Rattle.explanations.specs.Derivations.{HasPosition, ArePlaced, CanBeginAny, IsUnmarked}
use Rattle.explanations.specs.Formulas.{AreInSource}
use Rattle.explanations.specs.declared.derived.replacing.Difference.{Difference}
use Rattle.explanations.proofs.ReplacingLemmas.{turn_grown}
use Rattle.explanations.proofs.PlanLemmas.{marks_none, marks_then, route_ends}
use Rattle.explanations.proofs.DeriveLemmas.{replace_by}
use Rattle.explanations.proofs.FormulaLemmas.{begun_here}
use Rattle.closing_rules.specs.Rewritings.{IsOnEach, AreSources, IsReady, AreReady}
use Rattle.closing_rules.specs.declared.row_closings.rewriting.Rewriting.{Rewriting}
use Rattle.closing_rules.proofs.RowClosingsRewritingLemmas.{push_cases}

-- ---- marks

none_taken : {X : Type 0} (xs : List X) (i : ℕ) (x : X) → slice_get (take zero xs) i ≡ Some x → ⊥
none_taken [] i x e = absurd (cc)
none_taken (y ∷ ys) i x e = absurd (cc)

each_push : (rs : List Rewriting) (r : Rewriting) (k : ℕ) → IsOnEach (rs ++ r ∷ []) k → IsOnEach rs k ⊎ IsOnAny r.differences.items k
each_push rs r k o = elim (push_cases rs r o.rewriting o.position o.found) [ inl f ↦ inl (record { position = o.position; rewriting = o.rewriting; found = f; on = o.on }) | inr e ↦ inr (subst (λ (x : Rewriting). IsOnAny x.differences.items k) (sym e) o.on) ]

each_pushed : (rs : List Rewriting) (r : Rewriting) (k : ℕ) → IsOnEach rs k ⊎ IsOnAny r.differences.items k → IsOnEach (rs ++ r ∷ []) k
each_pushed rs r k (inl o) = record { position = o.position; rewriting = o.rewriting; found = push_kept rs r o.rewriting o.position o.found; on = o.on }
each_pushed rs r k (inr o) = record { position = length rs; rewriting = r; found = push_new rs r; on = o }

pub each_begun : (rs : List Rewriting) (xs : List Bool) → AreMarked (IsOnEach (take zero rs)) xs xs
each_begun rs xs = marks_none (IsOnEach (take zero rs)) xs (λ k o. none_taken rs o.position o.rewriting o.found)

pub each_next : (rs : List Rewriting) (n : ℕ) (r e : Rewriting) (read : List Difference) (old cur new : List Bool) → n < length rs → r ≡ get_or rs n e → read ≡ r.differences.items → AreMarked (IsOnEach (take n rs)) old cur → AreMarked (IsOnAny read) cur new → AreMarked (IsOnEach (take (n + 1) rs)) old new
each_next rs n r e read old cur new w is same a b =
    subst (λ xs. AreMarked (IsOnEach xs) old new) (ap (λ x. take n rs ++ x ∷ []) is ∙ sym (take_more rs n e w))
    (marks_then (IsOnEach (take n rs)) (IsOnAny r.differences.items) (IsOnEach (take n rs ++ r ∷ [])) old cur new (each_pushed (take n rs) r) (each_push (take n rs) r) a (subst (λ ds. AreMarked (IsOnAny ds) cur new) same b))

pub each_links : (rs : List Rewriting) (n count more : ℕ) (r e : Rewriting) (read : List Difference) → n < length rs → r ≡ get_or rs n e → read ≡ r.differences.items → more ≡ count → CanMark count (IsOnEach rs) → CanMark more (IsOnAny read)
each_links rs n count more r e read w is same long can = record {
  each = λ k o. subst (λ c. k < c) (sym long) (can.each k (record { position = n; rewriting = r; found = slice_get-get_or rs n e w ∙ ap Some (sym is); on = subst (λ ds. IsOnAny ds k) same o }));
}

-- ---- used edges

module _ (ns nodes : List Node) (ls : List Link) (numbers : List ℕ) (g : IsGraph ns nodes ls numbers) (d : ChainData) (rs : List Rewriting) (sources : AreSources ns nodes ls numbers d rs) where
  ends_of : (ds : List Difference) (source c : ℕ) → AreInSource ns nodes ls numbers d source ds → IsOnAny ds c → (c < length ls) × HasTermEnds ns nodes ls numbers c
  ends_of ds source c s o =
      let h = s.each o.position o.difference o.found in
      route_ends ns nodes ls numbers g (length ls) o.difference.from o.difference.to o.difference.route.items h.term h.path c o.on

  each_ends : (c : ℕ) → IsOnEach rs c → (c < length ls) × HasTermEnds ns nodes ls numbers c
  each_ends c o = ends_of o.rewriting.differences.items o.rewriting.entry c (sources.each o.position o.rewriting o.found) o.on

  pub each_marks : (count : ℕ) (needed : List Bool) → count ≡ length ls → IsUnmarked count needed → CanMark (length needed) (IsOnEach rs)
  each_marks count needed e u = record { each = λ c o. subst (λ n. c < n) (sym (u.long ∙ e)) (each_ends c o).0 }

  pub each_needed : (count : ℕ) (old new : List Bool) → count ≡ length ls → IsUnmarked count old → AreMarked (IsOnEach rs) old new → AreNeeded ns nodes ls numbers new
  each_needed count old new e u m = record {
    long = m.long ∙ u.long ∙ e;
    ends = λ c n. elim (m.only c n) [ inl o ↦ absurd (let both : true ≡ false = sym o ∙ u.none c in (cc)) | inr o ↦ (each_ends c o).1 ];
  }

  module _ (ms : List Node) (x : Extends ns ms) (e : ChainData) (k : Keeps d e) (b : Branch) (can : CanBeginAny ns nodes b d numbers) where
    one_ready : (table : List (Option ℕ)) (r : Rewriting) → AreInSource ns nodes ls numbers d r.entry r.differences.items → ((c : ℕ) → IsOnAny r.differences.items c → HasPosition ms e ls numbers table c) → IsReady ms b e numbers table r
    one_ready table r s positions = record {
      can = record {
        number = s.number;
        found = k.kept r.entry s.number s.found;
        in_turn = subst (λ y. AreInTurn ms numbers y r.differences.items) (sym (item_kept ns ms x s.number s.inside)) (turn_grown ns ms x numbers (item_at ns s.number) r.differences.items (λ n c f. (s.each n c f).is) s.in_turn);
        each = λ n c f. replace_by ns ms nodes ls numbers g x e table (length ls) c (s.each n c f) (λ i o. positions i (record { position = n; difference = c; found = f; on = o }));
      };
      begin = begun_here ns nodes ls numbers g d r.entry r.differences.items s ms x e b k can;
    }

    pub all_ready : (table : List (Option ℕ)) (old first last read : List Bool) → AreMarked (IsOnEach rs) old first → ((c : ℕ) → is_needed first c ≡ true → is_needed last c ≡ true) → read ≡ last → ArePlaced ms e ls numbers read table (length ls) → AreReady ms b e numbers table rs
    all_ready table old first last read marked stays same placed = record {
      each = λ position r f. (
          let s = sources.each position r f in
          one_ready table r s (λ c o. placed.each c (ends_of r.differences.items r.entry c s o).0 (subst (λ bs. is_needed bs c ≡ true) (sym same) (stays c (marked.marked c (record { position = position; rewriting = r; found = f; on = o }))))));
    }
