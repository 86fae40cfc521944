-- Which cuts are due, by number.
use Rattle.std.proofs.Common.{◌≡◌, inl, inr, ℕ, ◌+◌, ◌<◌, ◌≤◌, Bool, List, length, get_or, refl, sym, ap, ◌∙◌, subst, arith}
use Rattle.std.specs.Prelude.{Contains, All}
use Rattle.std.proofs.lemmas.List.Elements.{Contains-get_or}
use Rattle.std.proofs.lemmas.Option.{slice_get_within}
use Rattle.fol.specs.Depth.{term_depth}
use Rattle.fol.specs.declared.operators.Comparison.TheVariants.{Eq}
use Rattle.fol.specs.FormulaData.{TermData, EqFormula}
use Rattle.term_pool.specs.Items.{sort_of, term_in, formula_in}
use Rattle.term_pool.specs.Depths.{item_depth}
use Rattle.term_pool.specs.Pools.{item_at, HasParts, IsMade, IsOneNumber, Extends}
use Rattle.term_pool.specs.declared.node.Two.TheVariants.{Compare}
use Rattle.term_pool.specs.declared.node.Node.{Node}
use Rattle.term_pool.specs.declared.node.Node.TheVariants.{Two as TwoNode}
use Rattle.axioms.specs.Forms.{DifferFormula}
use Rattle.certificates.specs.BranchesBranch.{Branch, IsTerm}
use Rattle.certificates.specs.Joined.{Joined, ByEntry, Turned as Back}
use Rattle.certificates.specs.Decisions.{IsNear, OfOneClass, Chained, AreIndexes, AsksDecision, IsDenied}
use Rattle.certificates.specs.Due.{IsShallow, CutDue}
use Rattle.tableau.specs.PoolBranches.{BranchData, branch_in, IsTermNumber, IsOver}
use Rattle.congruence_closure.specs.Known.{BranchClassesData, IsKnown, class_of, AreExact}
use Rattle.tableau.specs.Terms.{term_at, IsBranchTerm, AreBranchTerms, AreClassesOf}
use Rattle.tableau.specs.Groups.{AreGroups}
use Rattle.tableau.proofs.BranchLemmas.{term_item, term_number, known_term}
use Rattle.tableau.proofs.NearLemmas.{joined_of_class, class_of_joined}
use Rattle.axiom_strategy.specs.Numbers.{AreNumberMarks}
use Rattle.axiom_strategy.specs.Denials.{AreDenied}
use Rattle.axiom_strategy.specs.Positions.{IsReadIn, ArePositions}
use Rattle.axiom_strategy.specs.Cuts.{NoCut, IsCut, IsShallowTerm, AreCandidates, IsDeniedEither, IsOpen, NoOpenPair, IsOpenPair, IsKnownBelow, AreAllKnown}
use Rattle.axiom_strategy.specs.declared.decisions.positions.Position.{Position}
use Rattle.axiom_strategy.proofs.DenialLemmas.{equation_alike, denied_by, turned_by, classes_denied}
use Rattle.axiom_strategy.proofs.GrownLemmas.{number_grown, so_after}
use Rattle.axiom_strategy.proofs.PositionLemmas.{index_number, read_index, read_terms}

-- ---- depth

shallow_both : (t u : TermData) → term_depth t + 2 ≤ 2000 → term_depth u + 2 ≤ 2000 → IsShallow (DifferFormula t u)
shallow_both t u h k = omega (arith, h, k)

shallow_left : (t u : TermData) → IsShallow (DifferFormula t u) → term_depth t + 2 ≤ 2000
shallow_left t u h = omega (arith, h)

shallow_right : (t u : TermData) → IsShallow (DifferFormula t u) → term_depth u + 2 ≤ 2000
shallow_right t u h = omega (arith, h)

module _ (ns : List Node) (one : IsOneNumber ns) (d : BranchData) (over : IsOver ns d) (c : BranchClassesData) (classes : AreClassesOf ns d c) (exact : AreExact c) where
  abbrev b : Branch
  b = branch_in ns d

  -- lists of terms of the branch
  pub list_known : (xs : List ℕ) → ((t : ℕ) → Contains xs t → IsBranchTerm ns b t) → All (IsKnown c) xs
  list_known xs h = λ i e w. known_term ns one d over c classes (get_or xs i e) (h (get_or xs i e) (Contains-get_or xs i e w))

  pub list_within : (xs : List ℕ) → ((t : ℕ) → Contains xs t → IsBranchTerm ns b t) → All (λ n. n < length ns) xs
  list_within xs h = λ i e w. (h (get_or xs i e) (Contains-get_or xs i e w)).number.within

  depth_at : (n : ℕ) → IsBranchTerm ns b n → item_depth (item_at ns n) ≡ term_depth (term_at ns n)
  depth_at n s = ap item_depth (term_item ns b n s)

  term_shallow : (n : ℕ) → IsBranchTerm ns b n → IsShallowTerm ns n → term_depth (term_at ns n) + 2 ≤ 2000
  term_shallow n s h = let e = depth_at n s in omega (arith, e, h)

  number_shallow : (n : ℕ) → IsBranchTerm ns b n → term_depth (term_at ns n) + 2 ≤ 2000 → IsShallowTerm ns n
  number_shallow n s h = let e = depth_at n s in omega (arith, e, h)

  module _ (groups : List ℕ) (near : AreGroups ns b groups) where
    -- ---- indexes of aliasing memories or vectors, by group

    -- two terms index one group
    pub record AreReadIn (i j : ℕ) : Type 0 where
      pub group : ℕ
      pub one_read : IsReadIn ns b c groups group (class_of c i)
      pub other_read : IsReadIn ns b c groups group (class_of c j)

    pub indexes_read : (i j : ℕ) → IsBranchTerm ns b i → IsBranchTerm ns b j → AreIndexes b (term_at ns i) (term_at ns j) → AreReadIn i j
    indexes_read i j s t h =
        let p = index_number ns one d over c classes exact h.one i s h.index in
        let q = index_number ns one d over c classes exact h.other j t h.other_index in
        let ps = read_terms ns one d over c classes p.number p.parts p.term p.read in
        let qs = read_terms ns one d over c classes q.number q.parts q.term q.read in
        let close : IsNear b (term_at ns p.parts.0) (term_at ns q.parts.0) = Chained (term_at ns p.parts.0) h.one (term_at ns q.parts.0) (OfOneClass (term_at ns p.parts.0) h.one p.from) (Chained h.one h.other (term_at ns q.parts.0) h.near (OfOneClass h.other (term_at ns q.parts.0) (Back (term_at ns q.parts.0) h.other q.from))) in
        record {
          group = get_or groups p.parts.0 0;
          one_read = record { number = p.number; term = p.term; parts = p.parts; read = p.read; same_group = refl; same_class = p.same_class };
          other_read = record { number = q.number; term = q.term; parts = q.parts; read = q.read; same_group = sym ((near.exact p.parts.0 q.parts.0 ps.0 qs.0).1 close); same_class = q.same_class };
        }

    pub read_indexes : (i j : ℕ) → IsBranchTerm ns b i → IsBranchTerm ns b j → AreReadIn i j → AreIndexes b (term_at ns i) (term_at ns j)
    read_indexes i j s t h =
        let p = h.one_read in
        let q = h.other_read in
        let ps = read_terms ns one d over c classes p.number p.parts p.term p.read in
        let qs = read_terms ns one d over c classes q.number q.parts q.term q.read in
        record {
          one = term_at ns p.parts.0;
          other = term_at ns q.parts.0;
          index = read_index ns one d over c classes exact p.number i p.parts p.term p.read s p.same_class;
          other_index = read_index ns one d over c classes exact q.number j q.parts q.term q.read t q.same_class;
          near = (near.exact p.parts.0 q.parts.0 ps.0 qs.0).0 (p.same_group ∙ sym q.same_group);
          is_term = s.stands;
          is_other_term = t.stands;
        }

    module _ (terms : List ℕ) (are : AreBranchTerms ns b terms) (marks : List Bool) (numbers : AreNumberMarks ns b marks) (denied : List (ℕ × ℕ)) (denials : AreDenied ns b c denied) (candidates : List ℕ) (chosen : AreCandidates ns c marks terms candidates) (all : List Position) (lists : List (ℕ × List ℕ)) (positions : ArePositions ns b c groups candidates all lists) where
      candidate_term : (n : ℕ) → Contains candidates n → IsBranchTerm ns b n
      candidate_term n h = (are.each n).0 (chosen.terms_are n h)

      -- ---- an open pair is one on which a cut is due

      open_due : (i j : ℕ) → IsBranchTerm ns b i → IsBranchTerm ns b j → IsShallowTerm ns i → IsShallowTerm ns j → AreReadIn i j → IsOpen c marks denied i j → CutDue b (term_at ns i) (term_at ns j)
      open_due i j s t si sj read o = record {
        triggered = inl (read_indexes i j s t read);
        no_numbers = λ h. o.not_both (record { left = (numbers.each i s.number).1 h.left; right = (numbers.each j t.number).1 h.right });
        undecided = record { not_joined = not_joined; not_denied = not_denied };
        is_new = record { new = λ h. not_joined (ByEntry h.position (term_at ns i) (term_at ns j) h.says) };
        denial_is_new = record { new = λ h. not_denied (record { formula = EqFormula (term_at ns i) (term_at ns j); stands = h; alike = inl (equation_alike b (term_at ns i) (term_at ns j) (term_at ns i) (term_at ns j) (itself i s) (itself j t)) }) };
        shallow = shallow_both (term_at ns i) (term_at ns j) (term_shallow i s si) (term_shallow j t sj);
      }
        where
          itself : (n : ℕ) → IsBranchTerm ns b n → Joined b (term_at ns n) (term_at ns n)
          itself n r = joined_of_class ns one d over c classes exact n n r r refl

          not_joined : Joined b (term_at ns i) (term_at ns j) → ⊥
          not_joined h = o.apart (class_of_joined ns one d over c classes exact i j s t h)

          not_denied : IsDenied b (term_at ns i) (term_at ns j) → ⊥
          not_denied h = elim (classes_denied ns one d over c classes exact i j s t h) [
            | inl q ↦ o.not_denied (inl ((denials.each (class_of c i) (class_of c j)).1 q))
            | inr q ↦ o.not_denied (inr ((denials.each (class_of c j) (class_of c i)).1 q))
          ]

      pub pair_due : (p : ℕ × ℕ) → IsOpenPair c marks denied all lists p → IsBranchTerm ns b p.0 × IsBranchTerm ns b p.1 × CutDue b (term_at ns p.0) (term_at ns p.1)
      pair_due p h =
          let q = (positions.positions h.group p.0).0 h.one in
          let r = (positions.by_group h.group p.1).0 h.other in
          let s = candidate_term p.0 q.candidate in
          let t = candidate_term p.1 r.candidate in
          (s, t, open_due p.0 p.1 s t (chosen.shallow p.0 q.candidate) (chosen.shallow p.1 r.candidate) (record { group = h.group; one_read = q.read; other_read = r.read }) h.is_open)

      -- ---- without such a pair no cut is due

      denied_so : (i j : ℕ) → IsBranchTerm ns b i → IsBranchTerm ns b j → IsDeniedEither denied (class_of c i) (class_of c j) → IsDenied b (term_at ns i) (term_at ns j)
      denied_so i j s t (inl m) = denied_by ns one d over c classes exact i j s t ((denials.each (class_of c i) (class_of c j)).0 m)
      denied_so i j s t (inr m) = turned_by ns one d over c classes exact i j s t ((denials.each (class_of c j) (class_of c i)).0 m)

      shown : (i j : ℕ) → IsBranchTerm ns b i → IsBranchTerm ns b j → CutDue b (term_at ns i) (term_at ns j) → NoOpenPair c marks denied all lists → AreReadIn i j → ⊥
      shown i j s t due none read =
          let p = chosen.all i ((are.each i).1 s) (number_shallow i s (shallow_left (term_at ns i) (term_at ns j) due.shallow)) in
          let q = chosen.all j ((are.each j).1 t) (number_shallow j t (shallow_right (term_at ns i) (term_at ns j) due.shallow)) in
          none.none read.group p.candidate q.candidate
          ((positions.positions read.group p.candidate).1 (record { candidate = p.among; read = subst (IsReadIn ns b c groups read.group) (sym p.same_class) read.one_read }))
          ((positions.by_group read.group q.candidate).1 (record { candidate = q.among; read = subst (IsReadIn ns b c groups read.group) (sym q.same_class) read.other_read }))
          (record {
            apart = λ e. due.undecided.not_joined (joined_of_class ns one d over c classes exact i j s t (sym p.same_class ∙ e ∙ q.same_class));
            not_denied = λ m. due.undecided.not_denied (denied_so i j s t (subst (λ x. IsDeniedEither denied x (class_of c j)) p.same_class (subst (IsDeniedEither denied (class_of c p.candidate)) q.same_class m)));
            not_both = λ m. due.no_numbers (record { left = (numbers.each i s.number).0 (sym p.same_mark ∙ m.left); right = (numbers.each j t.number).0 (sym q.same_mark ∙ m.right) });
          })

      by_numbers : (i j : ℕ) → IsBranchTerm ns b i → IsBranchTerm ns b j → CutDue b (term_at ns i) (term_at ns j) → NoOpenPair c marks denied all lists → ⊥
      by_numbers i j s t due none = go due.triggered
        where
          go : AsksDecision b (term_at ns i) (term_at ns j) → ⊥
          go (inl h) = shown i j s t due none (indexes_read i j s t h)
          go (inr h) = due.denial_is_new.new h

      pub none_due : NoOpenPair c marks denied all lists → NoCut b
      none_due none = record { none = λ t u due. go t u due due.triggered }
        where
          at_numbers : (t u : TermData) → CutDue b t u → IsTerm b t → IsTerm b u → ⊥
          at_numbers t u due ht hu =
              let i = term_number ns one d over t ht in
              let j = term_number ns one d over u hu in
              let t_is : t ≡ term_at ns i.number = sym (ap term_in i.is) in
              let u_is : u ≡ term_at ns j.number = sym (ap term_in j.is) in
              by_numbers i.number j.number i.term j.term (subst (λ x. CutDue b x (term_at ns j.number)) t_is (subst (CutDue b t) u_is due)) none

          go : (t u : TermData) → CutDue b t u → AsksDecision b t u → ⊥
          go t u due (inl h) = at_numbers t u due h.is_term h.is_other_term
          go t u due (inr h) = due.denial_is_new.new h

      -- what the code requires of the index terms
      pub all_known : (length marks ≡ length ns) → AreAllKnown c (length marks) all lists
      all_known long = record { positions = λ g t m. known t ((positions.positions g t).0 m).candidate; by_group = λ g t m. known t ((positions.by_group g t).0 m).candidate }
        where
          known : (t : ℕ) → Contains candidates t → IsKnownBelow c (length marks) t
          known t m = let s = candidate_term t m in record { known = known_term ns one d over c classes t s; below = (let w = s.number.within in omega (arith, long, w)) }

-- ---- the cut in an extended pool

pub equation_parts : (ns : List Node) (i j : ℕ) → IsTermNumber ns i → IsTermNumber ns j → HasParts ns (length ns) (TwoNode (Compare Eq) i j)
equation_parts ns i j s t = (record { earlier = s.within; sort = s.sort }, record { earlier = t.within; sort = t.sort })

pub cut_made : (ns ms : List Node) (grown : Extends ns ms) (d : BranchData) (over : IsOver ns d) (i j k : ℕ) → IsBranchTerm ns (branch_in ns d) i → IsBranchTerm ns (branch_in ns d) j → CutDue (branch_in ns d) (term_at ns i) (term_at ns j) → IsMade ms k (TwoNode (Compare Eq) i j) → IsCut ms (branch_in ms d) (record { left = i; right = j; equation = k })
cut_made ns ms grown d over i j k s t due made = record {
  left = number_grown ns ms grown i s.number;
  right = number_grown ns ms grown j t.number;
  equation = record { number = record { within = slice_get_within ms k (TwoNode (Compare Eq) i j) made.found; sort = ap sort_of made.item }; is = ap formula_in made.item };
  due = so_after ns ms grown d over CutDue i j s.number t.number due;
}
