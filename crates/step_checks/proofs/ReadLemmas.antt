-- What is read at classes, by groups of aliasing memories and vectors.
use Rattle.std.proofs.Common.{◌≡◌, ◌↔◌, ℕ, Bool, false, IsTrue, List, get_or, Some, refl, sym, ap, ◌∙◌, subst}
use Rattle.std.specs.Prelude.{All, Contains}
use Rattle.std.proofs.lemmas.List.Elements.{All-contains}
use Rattle.term_pool.specs.Pools.{IsOneNumber}
use Rattle.term_pool.specs.declared.node.Node.{Node}
use Rattle.certificates.specs.BranchesBranch.{Branch}
use Rattle.certificates.specs.Decisions.{AreIndexes}
use Rattle.tableau.specs.PoolBranches.{BranchData, branch_in, IsTermNumber, IsOver}
use Rattle.congruence_closure.specs.Known.{BranchClassesData, class_of, AreExact}
use Rattle.tableau.specs.Terms.{term_at, IsBranchTerm, AreBranchTerms, AreClassesOf}
use Rattle.tableau.specs.Groups.{AreGroups}
use Rattle.axiom_strategy.specs.Positions.{read_of, IsReadAt, IsReadIn}
use Rattle.axiom_strategy.proofs.PositionLemmas.{AreSeen}
use Rattle.axiom_strategy.proofs.CutLemmas.{indexes_read, read_indexes}
use Rattle.step_checks.specs.Pairs.{AreReads, AreReadInOne, IsMeeting}
use Rattle.step_checks.proofs.DecisionsTruthLemmas.{never}

pub reads_done : (ns : List Node) (b : Branch) (c : BranchClassesData) (groups terms : List ℕ) (seen : List (ℕ × ℕ)) → AreBranchTerms ns b terms → AreSeen ns c groups terms seen → AreReads ns b c groups seen
reads_done ns b c groups terms seen are h = record { each = λ g k. (there g k, back g k) }
  where
    there : (g k : ℕ) → Contains seen (g, k) → IsReadIn ns b c groups g k
    there g k m =
        let r = h.are g k m in
        record { number = r.number; term = (are.each r.number).0 r.among; parts = r.parts; read = r.read; same_group = r.same_group; same_class = r.same_class }

    back : (g k : ℕ) → IsReadIn ns b c groups g k → Contains seen (g, k)
    back g k r =
        subst (λ x. Contains seen (x, k)) r.same_group (subst (λ x. Contains seen (get_or groups r.parts.0 0, x)) r.same_class (h.all r.number r.parts ((are.each r.number).1 r.term) r.read))

same_read : (ns : List Node) (n : ℕ) (p q : ℕ × ℕ) → IsReadAt ns n p → IsReadAt ns n q → p ≡ q
same_read ns n p q h g =
    let both : Some h.node ≡ Some g.node = sym h.made.found ∙ g.made.found in
    let same : h.node ≡ g.node = cc in
    let parts : Some p ≡ Some q = sym h.is ∙ ap read_of same ∙ g.is in
    cc

-- ---- one term

module _ (ns : List Node) (c : BranchClassesData) (groups : List ℕ) (reads : List (ℕ × ℕ)) (one other n : ℕ) where
  pub no_meeting : ((p : ℕ × ℕ) → IsReadAt ns n p → ⊥) → IsTrue false ↔ IsMeeting ns c groups reads one other n
  no_meeting none = never (λ h. none h.parts h.read)

  pub other_class : (p : ℕ × ℕ) → IsReadAt ns n p → (class_of c p.1 ≡ one → ⊥) → IsTrue false ↔ IsMeeting ns c groups reads one other n
  other_class p read differ = never (λ h. differ (ap (λ (q : ℕ × ℕ). class_of c q.1) (same_read ns n p h.parts read h.read) ∙ h.same_class))

  pub meeting_so : (p : ℕ × ℕ) → IsReadAt ns n p → class_of c p.1 ≡ one → (known : Bool) → IsTrue known ↔ Contains reads (get_or groups p.0 0, other) → IsTrue known ↔ IsMeeting ns c groups reads one other n
  meeting_so p read same known h = (
    λ t. record { parts = p; read = read; same_class = same; among = h.0 t },
    λ m. h.1 (subst (λ (q : ℕ × ℕ). Contains reads (get_or groups q.0 0, other)) (same_read ns n m.parts p m.read read) m.among),
  )

-- ---- all terms

module _ (ns : List Node) (b : Branch) (c : BranchClassesData) (groups terms : List ℕ) (are : AreBranchTerms ns b terms) (reads : List (ℕ × ℕ)) (found : AreReads ns b c groups reads) (one other : ℕ) where
  pub met : (n : ℕ) → Contains terms n → IsMeeting ns c groups reads one other n → AreReadInOne ns b c groups one other
  met n among h = record {
    group = get_or groups h.parts.0 0;
    one_read = record { number = n; term = (are.each n).0 among; parts = h.parts; read = h.read; same_group = refl; same_class = h.same_class };
    other_read = (found.each (get_or groups h.parts.0 0) other).0 h.among;
  }

  pub not_met : All (λ n. IsMeeting ns c groups reads one other n → ⊥) terms → AreReadInOne ns b c groups one other → ⊥
  not_met all h =
      let r = h.one_read in
      let among : Contains reads (get_or groups r.parts.0 0, other) = subst (λ x. Contains reads (x, other)) (sym r.same_group) ((found.each h.group other).1 h.other_read) in
      All-contains (λ n. IsMeeting ns c groups reads one other n → ⊥) terms r.number all ((are.each r.number).1 r.term) (record { parts = r.parts; read = r.read; same_class = r.same_class; among = among })

-- ---- two terms

module _ (ns : List Node) (one : IsOneNumber ns) (d : BranchData) (over : IsOver ns d) (c : BranchClassesData) (classes : AreClassesOf ns d c) (exact : AreExact c) (groups : List ℕ) (near : AreGroups ns (branch_in ns d) groups) (i j : ℕ) (s : IsBranchTerm ns (branch_in ns d) i) (t : IsBranchTerm ns (branch_in ns d) j) where
  pub indexes_so : (x y : ℕ) → x ≡ class_of c i → y ≡ class_of c j → (known : Bool) → IsTrue known ↔ AreReadInOne ns (branch_in ns d) c groups x y → IsTrue known ↔ AreIndexes (branch_in ns d) (term_at ns i) (term_at ns j)
  indexes_so x y e f known h = (
    λ yes. (
        let r = h.0 yes in
        read_indexes ns one d over c classes exact groups near i j s t (record {
          group = r.group;
          one_read = subst (IsReadIn ns (branch_in ns d) c groups r.group) e r.one_read;
          other_read = subst (IsReadIn ns (branch_in ns d) c groups r.group) f r.other_read;
        })),
    λ a. (
        let r = indexes_read ns one d over c classes exact groups near i j s t a in
        h.1 (record {
          group = r.group;
          one_read = subst (IsReadIn ns (branch_in ns d) c groups r.group) (sym e) r.one_read;
          other_read = subst (IsReadIn ns (branch_in ns d) c groups r.group) (sym f) r.other_read;
        })),
  )

-- a term that is not on the branch is no index
pub not_left : (ns : List Node) (b : Branch) (i j : ℕ) → IsTermNumber ns i → (IsBranchTerm ns b i → ⊥) → IsTrue false ↔ AreIndexes b (term_at ns i) (term_at ns j)
not_left ns b i j number none = never (λ h. none (record { number = number; stands = h.is_term }))

pub not_right : (ns : List Node) (b : Branch) (i j : ℕ) → IsTermNumber ns j → (IsBranchTerm ns b j → ⊥) → IsTrue false ↔ AreIndexes b (term_at ns i) (term_at ns j)
not_right ns b i j number none = never (λ h. none (record { number = number; stands = h.is_other_term }))
