-- Joins of the terms of a trigger, one candidate after another.
use Rattle.std.proofs.Common.{Result, Ok, Err, ◌≡◌, ◌⊎◌, inl, inr, ℕ, ◌+◌, ◌<◌, ◌≤◌, true, false, List, [], ◌∷◌, length, get_or, take, Some, None, sym, ap, ◌∙◌, subst, arith}
use Rattle.std.specs.Prelude.{◌↔◌, OnOk}
use Rattle.std.proofs.Math.Seq.{take-append_seam}
use Rattle.std.proofs.lemmas.Bool.{or_cases}
use Rattle.std.proofs.lemmas.List.{take_all, take_more}
use Rattle.fol.specs.FormulaData.{TermData, VarTerm, terms_of}
use Rattle.substitution.specs.Free.{free_in_term, free_in_terms}
use Rattle.term_pool.specs.Items.{TermItem, sort_of, term_in}
use Rattle.term_pool.specs.Pools.{item_at, IsOneNumber}
use Rattle.term_pool.specs.declared.node.Node.{Node}
use Rattle.term_pool.proofs.ShapeLemmas.{a_term}
use Rattle.certificates.specs.BranchesBranch.{Branch, IsTerm}
use Rattle.certificates.specs.Match.{IsFilled, NoneFilled, MoreFilled}
use Rattle.tableau.specs.Logs.{value_in}
use Rattle.tableau.specs.PoolBranches.{IsTermNumber}
use Rattle.tableau.specs.declared.log.Change.{Change}
use Rattle.ematching.specs.Numbers.{IsAmong, AreAll, term_at}
use Rattle.ematching.specs.Fits.{IsFilledItem, IsFilling, IsGrown, IsFitted, IsUnfit, IsFitAnswer}
use Rattle.ematching.specs.Rows.{AreCandidates, patterns_in}
use Rattle.ematching.specs.Joins.{IsWanted, IsReady, IsJoined, AreJoined, IsAdded, IsJoinedAt, AreJoinedAt}
use Rattle.ematching.specs.declared.rows.Row.{Row}
use Rattle.ematching.specs.declared.joins.Wanted.{Wanted}
use Rattle.ematching.proofs.ListLemmas.{among_first, among_push, among_push_cases}
use Rattle.ematching.proofs.FillLemmas.{by_variable, first_filled}
use Rattle.ematching.proofs.ApartLemmas.{as_term}
use Rattle.ematching.proofs.FreeLemmas.{term_free}
use Rattle.ematching.proofs.HeldLemmas.{filled_item}
use Rattle.ematching.proofs.AssignmentLemmas.{assigned, assigned_is, assigned_meets, free_kept}

-- ---- undoing the log

pub taken_back : (cs ds es : List Change) (mark : ℕ) → mark ≡ length cs → IsGrown cs ds → es ≡ take mark ds → es ≡ cs
taken_back cs ds es mark m grown e = e ∙ ap (λ k. take k ds) m ∙ ap (take (length cs)) grown.longer.is ∙ take-append_seam cs grown.longer.more

pub grown_back : (cs ds es : List Change) → es ≡ ds → IsGrown cs ds → IsGrown cs es
grown_back cs ds es e h = subst (IsGrown cs) (sym e) h

-- ---- results

pub on_ok : {X E P Q : Type 0} (r : Result X E) → (P → Q) → OnOk r P → OnOk r Q
on_ok (Ok x) f h = f h
on_ok (Err e) f h = h

pub added_value : (cs : List Change) (k w : ℕ) (found more : List ℕ) → Some w ≡ value_in cs k → ((v : ℕ) → IsAmong v more ↔ (IsAmong v found ⊎ (v ≡ w))) → IsAdded cs k found more
added_value cs k w found more e h = record { each = λ u f v. (let both : Some w ≡ Some u = e ∙ f in let same : w ≡ u = cc in subst (λ m. IsAmong v more ↔ (IsAmong v found ⊎ (v ≡ m))) same (h v)) }

pub no_value : (cs : List Change) (k : ℕ) (found more : List ℕ) → None ≡ value_in cs k → IsAdded cs k found more
no_value cs k found more e = record { each = λ u f v. (let both : None ≡ Some u = e ∙ f in absurd (cc)) }

-- ---- the first row and the others

pub first_row : (P : Row → Type 0) (rows rest : List Row) (row : Row) → rows ≡ row ∷ rest → AreAll P rows → P row
first_row P rows rest row e h = (let all : AreAll P (row ∷ rest) = subst (AreAll P) e h in all.0)

pub rest_rows : (P : Row → Type 0) (rows rest : List Row) (row : Row) → rows ≡ row ∷ rest → AreAll P rows → AreAll P rest
rest_rows P rows rest row e h = (let all : AreAll P (row ∷ rest) = subst (AreAll P) e h in all.1)

-- ---- candidates one after another

pub record IsJoinedBy (ns : List Node) (b : Branch) (bound : List ℕ) (x : ℕ) (cs : List Change) (p : ℕ) (numbers : List ℕ) (ts : List TermData) (v : ℕ) : Type 0 where
  pub candidate : ℕ
  pub among : IsAmong candidate numbers
  pub joined : IsJoinedAt ns b bound x cs p candidate ts v

pub record AreJoinedBy (ns : List Node) (b : Branch) (bound : List ℕ) (x : ℕ) (cs : List Change) (p : ℕ) (numbers : List ℕ) (ts : List TermData) (found more : List ℕ) : Type 0 where
  pub each : (v : ℕ) → IsAmong v more ↔ (IsAmong v found ⊎ IsJoinedBy ns b bound x cs p numbers ts v)

module _ (ns : List Node) (one : IsOneNumber ns) (b : Branch) (bound : List ℕ) where
  -- ---- no pattern is left

  same_term : (v w : ℕ) → IsTermNumber ns v → IsTermNumber ns w → term_at ns v ≡ term_at ns w → v ≡ w
  same_term v w hv hw e = one.one v w hv.within hw.within (sym (a_term (item_at ns v) hv.sort) ∙ ap TermItem e ∙ a_term (item_at ns w) hw.sort)

  module _ (w : Wanted) (wanted : IsWanted ns bound w) (cs : List Change) (filling : IsFilling ns bound cs []) where
    variable_item : item_at ns w.number ≡ TermItem (VarTerm w.variable)
    variable_item = wanted.number.item

    target_number : (t : ℕ) → value_in cs w.number ≡ Some t → IsTermNumber ns t
    target_number t e =
        let pair = (filling.each w.number t e).pair in
        record { within = pair.target_within; sort = pair.same_sort ∙ ap sort_of variable_item }

    kept_to : (t v : ℕ) → value_in cs w.number ≡ Some t → IsJoined ns b bound w.variable cs [] v → v ≡ t
    kept_to t v e h =
        let number = target_number t e in
        let item : IsFilledItem bound h.at (item_at ns w.number) (item_at ns t) = h.meets.each w.number t e in
        let filled : IsFilled bound h.at (term_in (item_at ns w.number)) (term_at ns t) = as_term bound h.at (item_at ns w.number) (item_at ns t) (ap sort_of variable_item) item in
        let is : h.at w.variable ≡ term_at ns t = by_variable bound h.at (term_in (item_at ns w.number)) (term_at ns t) w.variable filled (ap term_in variable_item) wanted.is_bound in
        same_term v t h.number number (sym h.for_variable ∙ is)

    kept_from : (t v : ℕ) → value_in cs w.number ≡ Some t → v ≡ t → IsJoined ns b bound w.variable cs [] v
    kept_from t v e f = subst (IsJoined ns b bound w.variable cs []) (sym f) (record {
      number = target_number t e;
      at = assigned ns one bound cs filling;
      meets = assigned_meets ns one bound cs filling;
      for_variable = assigned_is ns one bound cs filling w.variable w.number t variable_item e;
      filled = [];
      are_filled = NoneFilled;
      stand = tt;
    })

    pub none_left : (found more : List ℕ) → IsReady cs w [] → IsAdded cs w.number found more → AreJoined ns b bound w.variable cs [] found more
    none_left found more (inl kept) added = record { each = λ v. (λ a. to v ((added.each kept.value kept.is v).0 a), λ h. (added.each kept.value kept.is v).1 (from v h)) }
      where
        to : (v : ℕ) → IsAmong v found ⊎ (v ≡ kept.value) → IsAmong v found ⊎ IsJoined ns b bound w.variable cs [] v
        to v (inl a) = inl a
        to v (inr f) = inr (kept_from kept.value v kept.is f)

        from : (v : ℕ) → IsAmong v found ⊎ IsJoined ns b bound w.variable cs [] v → IsAmong v found ⊎ (v ≡ kept.value)
        from v (inl a) = inl a
        from v (inr h) = inr (kept_to kept.value v kept.is h)
    none_left found more (inr free) added = absurd (cc)

    pub join_end : (rows : List Row) → length rows ≡ 0 → (found more : List ℕ) → IsReady cs w (patterns_in ns rows) → IsAdded cs w.number found more → AreJoined ns b bound w.variable cs (patterns_in ns rows) found more
    join_end [] e found more ready added = none_left found more ready added
    join_end (row ∷ rows) e found more ready added = absurd (omega arith)

  -- ---- a candidate that fits, and one that does not

  module _ (x : ℕ) (cs ds : List Change) (p c : ℕ) (number : IsTermNumber ns p) (term : IsTermNumber ns c) (ts : List TermData) where
    fitted_to : IsGrown cs ds → IsFitted ns bound p c cs ds → (v : ℕ) → IsJoined ns b bound x ds ts v → IsJoinedAt ns b bound x cs p c ts v
    fitted_to grown fitted v h = record {
      number = h.number;
      at = h.at;
      meets = record { each = λ q u e. h.meets.each q u (grown.same q u e) };
      for_variable = h.for_variable;
      first = as_term bound h.at (item_at ns p) (item_at ns c) number.sort (h.meets.each p c fitted.has);
      filled = h.filled;
      are_filled = h.are_filled;
      stand = h.stand;
    }

    item_filled : (at : ℕ → TermData) → IsFilled bound at (term_at ns p) (term_at ns c) → IsFilledItem bound at (item_at ns p) (item_at ns c)
    item_filled at h = filled_item bound at (item_at ns p) (item_at ns c) (term_at ns c) number.sort (sym (a_term (item_at ns c) term.sort)) h

    fitted_from : IsFitted ns bound p c cs ds → (v : ℕ) → IsJoinedAt ns b bound x cs p c ts v → IsJoined ns b bound x ds ts v
    fitted_from fitted v h = record {
      number = h.number;
      at = h.at;
      meets = fitted.meets h.at h.meets (item_filled h.at h.first);
      for_variable = h.for_variable;
      filled = h.filled;
      are_filled = h.are_filled;
      stand = h.stand;
    }

    pub fitted_joined : IsFitAnswer ns bound p c cs ds true → (found more : List ℕ) → AreJoined ns b bound x ds ts found more → (v : ℕ) → IsAmong v more ↔ (IsAmong v found ⊎ IsJoinedAt ns b bound x cs p c ts v)
    fitted_joined fit found more h v = (λ a. to ((h.each v).0 a), λ q. (h.each v).1 (from q))
      where
        to : IsAmong v found ⊎ IsJoined ns b bound x ds ts v → IsAmong v found ⊎ IsJoinedAt ns b bound x cs p c ts v
        to (inl a) = inl a
        to (inr j) = inr (fitted_to fit.grown fit.answer v j)

        from : IsAmong v found ⊎ IsJoinedAt ns b bound x cs p c ts v → IsAmong v found ⊎ IsJoined ns b bound x ds ts v
        from (inl a) = inl a
        from (inr j) = inr (fitted_from fit.answer v j)

    pub unfit_joined : IsFitAnswer ns bound p c cs ds false → (found more : List ℕ) → more ≡ found → (v : ℕ) → IsAmong v more ↔ (IsAmong v found ⊎ IsJoinedAt ns b bound x cs p c ts v)
    unfit_joined fit found more e v = (λ a. inl (subst (IsAmong v) e a), λ q. subst (IsAmong v) (sym e) (from q))
      where
        unfit : IsUnfit ns bound p c cs
        unfit = fit.answer

        from : IsAmong v found ⊎ IsJoinedAt ns b bound x cs p c ts v → IsAmong v found
        from (inl a) = a
        from (inr j) = absurd (unfit.none j.at j.meets (item_filled j.at j.first))

  module _ (x : ℕ) (cs : List Change) (p : ℕ) (ts : List TermData) (found : List ℕ) where
    pub by_none : (more : List ℕ) → more ≡ found → AreJoinedBy ns b bound x cs p [] ts found more
    by_none more e = record { each = λ v. (λ a. inl (subst (IsAmong v) e a), λ q. subst (IsAmong v) (sym e) (from v q)) }
      where
        from : (v : ℕ) → IsAmong v found ⊎ IsJoinedBy ns b bound x cs p [] ts v → IsAmong v found
        from v (inl a) = a
        from v (inr j) = absurd j.among

    pub by_more : (numbers : List ℕ) (i : ℕ) → i < length numbers → (before more : List ℕ) → AreJoinedBy ns b bound x cs p (take i numbers) ts found before → AreJoinedAt ns b bound x cs (record { pattern = p; term = get_or numbers i 0 }) ts before more → AreJoinedBy ns b bound x cs p (take (i + 1) numbers) ts found more
    by_more numbers i w before more h g = record { each = λ v. (λ a. to v ((g.each v).0 a), λ q. (g.each v).1 (from v q)) }
      where
        c : ℕ
        c = get_or numbers i 0

        still : (n : ℕ) → IsAmong n (take i numbers) → IsAmong n (take (i + 1) numbers)
        still n a = subst (IsAmong n) (sym (take_more numbers i 0 w)) (among_first n (take i numbers) (c ∷ []) a)

        here : IsAmong c (take (i + 1) numbers)
        here = subst (IsAmong c) (sym (take_more numbers i 0 w)) (among_push (take i numbers) c)

        earlier : (v : ℕ) → IsAmong v found ⊎ IsJoinedBy ns b bound x cs p (take i numbers) ts v → IsAmong v found ⊎ IsJoinedBy ns b bound x cs p (take (i + 1) numbers) ts v
        earlier v (inl a) = inl a
        earlier v (inr j) = inr (record { candidate = j.candidate; among = still j.candidate j.among; joined = j.joined })

        to : (v : ℕ) → IsAmong v before ⊎ IsJoinedAt ns b bound x cs p c ts v → IsAmong v found ⊎ IsJoinedBy ns b bound x cs p (take (i + 1) numbers) ts v
        to v (inl a) = earlier v ((h.each v).0 a)
        to v (inr j) = inr (record { candidate = c; among = here; joined = j })

        pick : (v : ℕ) (j : IsJoinedBy ns b bound x cs p (take (i + 1) numbers) ts v) → IsAmong j.candidate (take i numbers) ⊎ (j.candidate ≡ c) → IsAmong v before ⊎ IsJoinedAt ns b bound x cs p c ts v
        pick v j (inl a) = inl ((h.each v).1 (inr (record { candidate = j.candidate; among = a; joined = j.joined })))
        pick v j (inr e) = inr (subst (λ k. IsJoinedAt ns b bound x cs p k ts v) e j.joined)

        from : (v : ℕ) → IsAmong v found ⊎ IsJoinedBy ns b bound x cs p (take (i + 1) numbers) ts v → IsAmong v before ⊎ IsJoinedAt ns b bound x cs p c ts v
        from v (inl a) = inl ((h.each v).1 (inl a))
        from v (inr j) = pick v j (among_push_cases j.candidate c (take i numbers) (subst (IsAmong j.candidate) (take_more numbers i 0 w) j.among))

    by_all : (numbers : List ℕ) → AreCandidates ns b bound p numbers → (v : ℕ) → IsJoinedBy ns b bound x cs p numbers ts v ↔ IsJoined ns b bound x cs (term_at ns p ∷ ts) v
    by_all numbers candidates v = (λ h. to h, λ h. from h)
      where
        to : IsJoinedBy ns b bound x cs p numbers ts v → IsJoined ns b bound x cs (term_at ns p ∷ ts) v
        to h = record {
          number = h.joined.number;
          at = h.joined.at;
          meets = h.joined.meets;
          for_variable = h.joined.for_variable;
          filled = term_at ns h.candidate ∷ h.joined.filled;
          are_filled = MoreFilled (term_at ns p) (term_at ns h.candidate) ts h.joined.filled h.joined.first h.joined.are_filled;
          stand = ((candidates.only h.candidate h.among).stands, h.joined.stand);
        }

        from : IsJoined ns b bound x cs (term_at ns p ∷ ts) v → IsJoinedBy ns b bound x cs p numbers ts v
        from h =
            let f = first_filled bound h.at (term_at ns p) ts h.filled h.are_filled in
            let stand : AreAll (IsTerm b) (f.first ∷ f.rest) = subst (AreAll (IsTerm b)) f.is h.stand in
            let it = candidates.all f.first h.at stand.0 f.filled in
            record {
              candidate = it.number;
              among = it.among;
              joined = record {
                number = h.number;
                at = h.at;
                meets = h.meets;
                for_variable = h.for_variable;
                first = subst (IsFilled bound h.at (term_at ns p)) (sym it.is) f.filled;
                filled = f.rest;
                are_filled = f.rest_filled;
                stand = stand.1;
              };
            }

    pub by_done : (numbers : List ℕ) (i : ℕ) → length numbers ≤ i → (more : List ℕ) → AreCandidates ns b bound p numbers → AreJoinedBy ns b bound x cs p (take i numbers) ts found more → AreJoined ns b bound x cs (term_at ns p ∷ ts) found more
    by_done numbers i w more candidates h = record { each = λ v. (λ a. to v ((h.each v).0 a), λ q. (h.each v).1 (from v q)) }
      where
        to : (v : ℕ) → IsAmong v found ⊎ IsJoinedBy ns b bound x cs p (take i numbers) ts v → IsAmong v found ⊎ IsJoined ns b bound x cs (term_at ns p ∷ ts) v
        to v (inl a) = inl a
        to v (inr j) = inr ((by_all numbers candidates v).0 (subst (λ ks. IsJoinedBy ns b bound x cs p ks ts v) (take_all i numbers w) j))

        from : (v : ℕ) → IsAmong v found ⊎ IsJoined ns b bound x cs (term_at ns p ∷ ts) v → IsAmong v found ⊎ IsJoinedBy ns b bound x cs p (take i numbers) ts v
        from v (inl a) = inl a
        from v (inr j) = inr (subst (λ ks. IsJoinedBy ns b bound x cs p ks ts v) (sym (take_all i numbers w)) ((by_all numbers candidates v).1 j))

-- ---- the variable's number is recorded, or the variable is free in the remaining patterns

module _ (ns : List Node) (one : IsOneNumber ns) (bound : List ℕ) (w : Wanted) (wanted : IsWanted ns bound w) where
  pub still_ready : (cs ds : List Change) (p c : ℕ) (ts : List TermData) → IsTermNumber ns p → IsFitAnswer ns bound p c cs ds true → IsReady cs w (term_at ns p ∷ ts) → IsReady ds w ts
  still_ready cs ds p c ts number fit (inl kept) = inl (record { value = kept.value; is = fit.grown.same w.number kept.value kept.is })
  still_ready cs ds p c ts number fit (inr free) = go (or_cases (free_in_term w.variable (term_at ns p)) (free_in_terms w.variable (terms_of ts)) free)
    where
      fitted : IsFitted ns bound p c cs ds
      fitted = fit.answer

      go : (free_in_term w.variable (term_at ns p) ≡ true) ⊎ (free_in_terms w.variable (terms_of ts) ≡ true) → IsReady ds w ts
      go (inl e) = inl (free_kept ns one bound ds fitted.filling w.variable w.number wanted.number wanted.is_bound p c fitted.has (term_free w.variable (item_at ns p) number.sort ∙ e))
      go (inr e) = inr e
