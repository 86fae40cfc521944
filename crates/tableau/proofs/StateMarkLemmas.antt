-- Marks of a branch, as it is extended and truncated.
use Rattle.std.proofs.Common.{◌≡◌, ◌≢◌, ◌⊎◌, inl, inr, ℕ, ◌+◌, ◌-◌, ◌<◌, ◌≤◌, List, [], ◌∷◌, ◌++◌, length, length-append, map, take, set, get_or, min, refl, sym, ap, ◌∙◌, subst, arith}
use Rattle.std.proofs.lemmas.Bool.{cases_eq, cases_lt}
use Rattle.std.proofs.lemmas.List.{get_or_append_left, get_or_push, get_or-set_same, get_or-set_other, get_or-take, length_push, length-take, length-set, map_push, take_all, take-take, take-append-le}
use Rattle.term_pool.specs.declared.node.Node.{Node}
use Rattle.certificates.specs.BranchesBranch.{Branch}
use Rattle.tableau.specs.PoolBranches.{entry_in}
use Rattle.tableau.specs.declared.entry.PoolEntry.{PoolEntry}
use Rattle.tableau.proofs.RulesLaterLemmas.{said, split_was_due, parts_stay}
use Rattle.tableau.proofs.NamesLaterLemmas.{names_stay}
use Rattle.tableau.specs.States.{NoRangeSplitBefore, AreMarks, AreAllMarks, no_marks, last_of, branch_to}
use Rattle.tableau.specs.declared.state.marks.Marks.{Marks}

pub no_marks_are : (b : Branch) → AreMarks b no_marks
no_marks_are b = record {
  parts_within = omega arith;
  names_within = omega arith;
  ranges_within = omega arith;
  parts = record { each = λ i l. absurd (omega (arith, l)) };
  names = record { each = λ i l. absurd (omega (arith, l)) };
  ranges = record { each = λ i l. absurd (omega (arith, l)) };
}

module _ (b more : Branch) where
  ranges_stay : (count : ℕ) → count ≤ length b → NoRangeSplitBefore b count → NoRangeSplitBefore (b ++ more) count
  ranges_stay count w h = record {
    each = λ i l. record {
      none = λ p ps says is due. (h.each i l).none p ps (said b more i p (omega (arith, l, w)) says) is (split_was_due b more i ps (omega (arith, l, w)) due);
    };
  }

  pub marks_stay : (m : Marks) → AreMarks b m → AreMarks (b ++ more) m
  marks_stay m h = record {
    parts_within = (let w = h.parts_within in omega (arith, w, length-append b more));
    names_within = (let w = h.names_within in omega (arith, w, length-append b more));
    ranges_within = (let w = h.ranges_within in omega (arith, w, length-append b more));
    parts = parts_stay b more m.parts h.parts_within h.parts;
    names = names_stay b more m.names h.names_within h.names;
    ranges = ranges_stay m.ranges h.ranges_within h.ranges;
  }

module _ (ns : List Node) where
  -- the branch up to the last entry is the whole
  whole : (es : List PoolEntry) (k : ℕ) → length es ≡ k + 1 → branch_to ns es k ≡ map (entry_in ns) es
  whole es k e = ap (map (entry_in ns)) (take_all (k + 1) es (omega (arith, e)))

  pub last_are : (es : List PoolEntry) (ms : List Marks) → AreAllMarks ns es ms → AreMarks (map (entry_in ns) es) (last_of ms)
  last_are es [] h = no_marks_are (map (entry_in ns) es)
  last_are es (x ∷ xs) h =
      let same : length es ≡ length (x ∷ xs) - 1 + 1 = (let e = h.one_each in omega (arith, e)) in
      subst (λ b. AreMarks b (last_of (x ∷ xs))) (whole es (length (x ∷ xs) - 1) same) (h.each (length (x ∷ xs) - 1) (omega arith))

  pub all_of_none : AreAllMarks ns [] []
  all_of_none = record { one_each = refl; each = λ k w. absurd (omega (arith, w)) }

  pub all_push : (es : List PoolEntry) (ms : List Marks) (e : PoolEntry) → AreAllMarks ns es ms → AreAllMarks ns (es ++ e ∷ []) (ms ++ last_of ms ∷ [])
  all_push es ms e h = record {
    one_each = (let one = h.one_each in omega (arith, one, length_push es e, length_push ms (last_of ms)));
    each = λ k w. each k w (cases_lt k (length ms));
  }
    where
      each : (k : ℕ) → k < length (ms ++ last_of ms ∷ []) → (k < length ms) ⊎ (length ms ≤ k) → AreMarks (branch_to ns (es ++ e ∷ []) k) (get_or (ms ++ last_of ms ∷ []) k no_marks)
      each k w (inl l) =
          let front : take (k + 1) es ≡ take (k + 1) (es ++ e ∷ []) = sym (take-append-le (k + 1) es (e ∷ []) (let one = h.one_each in omega (arith, one, l))) in
          subst (λ b. AreMarks b (get_or (ms ++ last_of ms ∷ []) k no_marks)) (ap (map (entry_in ns)) front) (subst (AreMarks (branch_to ns es k)) (sym (get_or_append_left ms (last_of ms ∷ []) no_marks k l)) (h.each k l))
      each k w (inr l) =
          let last : k ≡ length ms = omega (arith, w, l, length_push ms (last_of ms)) in
          let all : branch_to ns (es ++ e ∷ []) k ≡ map (entry_in ns) es ++ entry_in ns e ∷ [] =
          whole (es ++ e ∷ []) k (let one = h.one_each in omega (arith, one, last, length_push es e)) ∙ map_push (entry_in ns) es e in
          let here : get_or (ms ++ last_of ms ∷ []) k no_marks ≡ last_of ms = ap (λ i. get_or (ms ++ last_of ms ∷ []) i no_marks) last ∙ get_or_push ms (last_of ms) no_marks (length ms) refl in
          subst (λ b. AreMarks b (get_or (ms ++ last_of ms ∷ []) k no_marks)) (sym all) (subst (AreMarks (map (entry_in ns) es ++ entry_in ns e ∷ [])) (sym here) (marks_stay (map (entry_in ns) es) (entry_in ns e ∷ []) (last_of ms) (last_are es ms h)))

  pub all_cut : (es : List PoolEntry) (ms : List Marks) (count : ℕ) → AreAllMarks ns es ms → AreAllMarks ns (take count es) (take count ms)
  all_cut es ms count h = record {
    one_each = length-take count ms ∙ ap (min count) h.one_each ∙ sym (length-take count es);
    each = λ k w. each k w;
  }
    where
      each : (k : ℕ) → k < length (take count ms) → AreMarks (branch_to ns (take count es) k) (get_or (take count ms) k no_marks)
      each k w =
          let l : k < length ms = omega (arith, w, length-take count ms) in
          let c : k < count = omega (arith, w, length-take count ms) in
          let front : take (k + 1) es ≡ take (k + 1) (take count es) = sym (take-take (k + 1) count es (omega (arith, c))) in
          subst (λ b. AreMarks b (get_or (take count ms) k no_marks)) (ap (map (entry_in ns)) front) (subst (AreMarks (branch_to ns es k)) (sym (get_or-take count ms k no_marks c)) (h.each k l))

  pub all_set : (es : List PoolEntry) (ms : List Marks) (last : ℕ) (m : Marks) → last + 1 ≡ length ms → AreAllMarks ns es ms → AreMarks (map (entry_in ns) es) m → AreAllMarks ns es (set ms last m)
  all_set es ms last m e h are = record {
    one_each = length-set ms last m ∙ h.one_each;
    each = λ k w. each k (omega (arith, w, length-set ms last m)) (cases_eq k last);
  }
    where
      each : (k : ℕ) → k < length ms → (k ≡ last) ⊎ (k ≢ last) → AreMarks (branch_to ns es k) (get_or (set ms last m) k no_marks)
      each k w (inl same) =
          let all : branch_to ns es k ≡ map (entry_in ns) es = whole es k (let one = h.one_each in omega (arith, one, e, same)) in
          let here : get_or (set ms last m) k no_marks ≡ m = ap (λ i. get_or (set ms last m) i no_marks) same ∙ get_or-set_same ms last m no_marks (omega (arith, e)) in
          subst (λ b. AreMarks b (get_or (set ms last m) k no_marks)) (sym all) (subst (AreMarks (map (entry_in ns) es)) (sym here) are)
      each k w (inr other) = subst (AreMarks (branch_to ns es k)) (sym (get_or-set_other ms last k m no_marks other)) (h.each k w)
