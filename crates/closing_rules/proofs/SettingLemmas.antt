-- A shallowest term of each class replaces the others.
use Rattle.std.proofs.Common.{◌≡◌, ℕ, zero, suc, ◌+◌, ◌<◌, ◌≤◌, max, ℤ, List, [], ◌∷◌, length, map, get_or, Option, Some, None, unwrap_or, refl, sym, ap, ◌∙◌, subst, arith}
use Rattle.std.specs.Prelude.{slice_get, slice_index, All, MatchOption}
use Rattle.std.specs.List.{AllZip}
use Rattle.std.specs.Option.{option_map}
use Rattle.std.proofs.lemmas.List.Elements.{Contains-get_or}
use Rattle.std.proofs.lemmas.Option.{slice_get-map}
use Rattle.fol.specs.FormulaData.{TermData, VarTerm, FormulaData}
use Rattle.linear_arith.specs.Combination.{IsContradiction}
use Rattle.term_pool.specs.Items.{sort_of, formula_in}
use Rattle.term_pool.specs.Pools.{item_at, IsOneNumber, Extends}
use Rattle.term_pool.specs.declared.node.Node.{Node}
use Rattle.term_pool.proofs.ItemLemmas.{item_kept}
use Rattle.term_pool.proofs.ShapeLemmas.{a_term, a_formula}
use Rattle.congruence_closure.specs.Links.{Linked}
use Rattle.congruence_closure.specs.Signatures.{class_in}
use Rattle.congruence_closure.specs.States.{AreClasses}
use Rattle.certificates.specs.BranchesBranch.{Branch, formula_of, formulas}
use Rattle.certificates.specs.Joined.{Joined}
use Rattle.certificates.specs.Names.{above_term, above, above_all}
use Rattle.certificates.specs.BranchesParts.{IsInFormula, Itself}
use Rattle.tableau.specs.Marks.{IsUnder}
use Rattle.tableau.specs.PoolBranches.{BranchData, entry_in, branch_in, IsOver, IsTermNumber}
use Rattle.tableau.specs.declared.entry.PoolEntry.{PoolEntry}
use Rattle.tableau.proofs.InsideLemmas.{IsInItem}
use Rattle.tableau.proofs.AnswerLemmas.{pure_entry, under_inside}
use Rattle.tableau.proofs.PushLemmas.{over_still, says_still}
use Rattle.row_reasoning.specs.Rows.{IsRowFrom}
use Rattle.row_reasoning.specs.declared.rows.BranchRows.{BranchRows}
use Rattle.congruence_closure.specs.Numbers.{number_at}
use Rattle.congruence_closure.specs.Known.{BranchClassesData, node_in, IsKnown, class_of, AreExact, AreInEntries}
use Rattle.congruence_closure.proofs.OverLemmas.{still_over, inside_more}
use Rattle.tableau.specs.Terms.{term_at, IsBranchTerm, AreBranchTerms, AreClassesOf, formula_number}
use Rattle.tableau.proofs.BranchLemmas.{known_term}
use Rattle.tableau.proofs.NearLemmas.{class_of_joined}
use Rattle.explanations.specs.Chains.{formula_at}
use Rattle.explanations.proofs.AboveLemmas.{above_item}
use Rattle.explanations.specs.BranchGraphs.{IsLow, AreLow}
use Rattle.explanations.proofs.StandLemmas.{stands_above}
use Rattle.closing_rules.specs.Eliminations.{AreNamedRows}
use Rattle.row_reasoning.specs.Chosen.{IsNoSum}
use Rattle.row_reasoning.specs.Shallowest.{IsCandidate, IsNoCandidate, IsShallowest, AreShallowest}
use Rattle.row_reasoning.specs.StandIns.{IsStandIn, HasStandIn, AreOverClasses}
use Rattle.row_reasoning.proofs.StandInLemmas.{over_classes_grown}
use Rattle.closing_rules.specs.Rewritings.{HaveEntryStandIns}
use Rattle.closing_rules.specs.Settings.{IsBase, IsSetting}
use Rattle.closing_rules.proofs.RowClosingsDepthLemmas.{number_at_position}
use Rattle.closing_rules.proofs.RowClosingsRewritingLemmas.{stand_ins_grown}
use Rattle.closing_rules.proofs.FreshLemmas.{with_fresh, fresh_class, same_class, AreBelowIt, all_from}

-- ---- variables

formula_below : (ps : List FormulaData) (i : ℕ) (p : FormulaData) → slice_get ps i ≡ Some p → above p ≤ above_all ps
formula_below [] i p f = absurd (cc)
formula_below (q ∷ ps) zero p f = let same : q ≡ p = cc in subst (λ x. above x ≤ max (above q) (above_all ps)) same (omega arith)
formula_below (q ∷ ps) (suc i) p f = let l = formula_below ps i p f in omega (arith, l)

pub entry_formula : (ns : List Node) (d : BranchData) (i : ℕ) (e : PoolEntry) → slice_get d.entries i ≡ Some e → slice_get (formulas (branch_in ns d)) i ≡ Some (formula_at ns e.formula)
entry_formula ns d i e f = slice_get-map formula_of (branch_in ns d) i ∙ ap (option_map formula_of) (pure_entry ns d.entries i e f)

at_most : (a b c : ℕ) → a ≤ b → b ≤ c → a ≤ c
at_most a b c p q = omega (arith, p, q)

-- the term chosen for a class, or a variable that occurs nowhere
abbrev chosen_or : List Node → ℕ → Option ℕ → ℕ → TermData
chosen_or ns v (Some m) n = term_at ns m
chosen_or ns v None n = VarTerm (v + n)

-- ---- a choice of the shallowest

module _ (ns : List Node) (one : IsOneNumber ns) (d : BranchData) (over : IsOver ns d) (c : BranchClassesData) (classes : AreClassesOf ns d c) (exact : AreExact c) (shown : AreClasses c.classes.nodes c.classes.equations c.classes.names c.classes.links) (inside : AreInEntries ns c) where
  -- what occurs in an entry outside quantifiers is a term of the branch
  under_entry : (i : ℕ) (e : PoolEntry) → slice_get d.entries i ≡ Some e → (n : ℕ) → IsUnder ns e.formula n → IsTermNumber ns n → IsBranchTerm ns (branch_in ns d) n
  under_entry i e found n under term =
      let itself : IsInItem (term_at ns n) (item_at ns n) = subst (IsInItem (term_at ns n)) (a_term (item_at ns n) term.sort) Itself in
      let within : IsInFormula (term_at ns n) (formula_at ns e.formula) = subst (IsInItem (term_at ns n)) (sym (a_formula (item_at ns e.formula) (over.formulas i e found).sort)) (under_inside ns e.formula n under (term_at ns n) itself) in
      record {
        number = term;
        stands = record { generation = e.generation; holds = record { position = i; entry = entry_in ns e; found = pure_entry ns d.entries i e found; inside = within; same = refl } };
      }

  module _ (v : ℕ) (limit : above_all (formulas (branch_in ns d)) ≤ v) where
    entry_above : (i : ℕ) (e : PoolEntry) → slice_get d.entries i ≡ Some e → above (formula_at ns e.formula) ≤ v
    entry_above i e f = at_most (above (formula_at ns e.formula)) (above_all (formulas (branch_in ns d))) v (formula_below (formulas (branch_in ns d)) i (formula_at ns e.formula) (entry_formula ns d i e f)) limit

    -- the node of a term of the branch was made for an occurrence in an entry
    term_above : (n : ℕ) → IsBranchTerm ns (branch_in ns d) n → above_term (term_at ns n) ≤ v
    term_above n h =
        let k : IsKnown c n = known_term ns one d over c classes n h in
        let made = classes.over.made.each n k.node k.found in
        let s = inside.each k.node made.within in
        let at = number_at_position ns d over s.position s.entry (ap (λ ks. slice_get ks s.position) (sym classes.entries) ∙ s.found) in
        let deep : above_item (item_at ns (number_at c.numbers k.node)) ≤ above_item (item_at ns s.entry) = stands_above ns (number_at c.numbers k.node) s.entry s.stands in
        let here : above_item (item_at ns n) ≤ above_item (item_at ns at.entry.formula) = subst (λ i. above_item (item_at ns i) ≤ above_item (item_at ns at.entry.formula)) made.is (subst (λ i. above_item (item_at ns (number_at c.numbers k.node)) ≤ above_item (item_at ns i)) (sym at.same) deep) in
        let formula : above_item (item_at ns n) ≤ above (formula_at ns at.entry.formula) = subst (λ x. above_item (item_at ns n) ≤ above_item x) (sym (a_formula (item_at ns at.entry.formula) (over.formulas s.position at.entry at.found).sort)) here in
        at_most (above_term (term_at ns n)) (above (formula_at ns at.entry.formula)) v (subst (λ x. above_item x ≤ above (formula_at ns at.entry.formula)) (sym (a_term (item_at ns n) h.number.sort)) formula) (entry_above s.position at.entry at.found)

  module _ (names : List ℕ) (rows : BranchRows) (named : AreNamedRows ns (branch_in ns d) names rows) (terms : List ℕ) (are : AreBranchTerms ns (branch_in ns d) terms) (find : ℕ → Option ℕ) (shallowest : AreShallowest ns names terms find) where
    class_is : (n : ℕ) → IsBranchTerm ns (branch_in ns d) n → slice_index names n ≡ named.class (term_at ns n)
    class_is n h = named.named.named n h.number h.stands

    candidate : (n : ℕ) → IsBranchTerm ns (branch_in ns d) n → IsNoSum (term_at ns n) → IsCandidate ns names terms (slice_index names n) n
    candidate n h s = record { among = (are.each n).1 h; no_sum = s; of_class = refl }

    -- a term that was chosen is one of the branch
    of_branch : (class m : ℕ) → IsShallowest ns names terms class m → IsBranchTerm ns (branch_in ns d) m
    of_branch class m s = (are.each m).0 s.candidate.among

    pub record HasBest (n : ℕ) : Type 0 where
      pub chosen : ℕ
      pub found : find (slice_index names n) ≡ Some chosen
      pub is : IsShallowest ns names terms (slice_index names n) chosen

    best : (n : ℕ) → IsBranchTerm ns (branch_in ns d) n → IsNoSum (term_at ns n) → HasBest n
    best n h s = go (find (slice_index names n)) refl (shallowest.each (slice_index names n))
      where
        go : (o : Option ℕ) → find (slice_index names n) ≡ o → MatchOption o (IsNoCandidate ns names terms (slice_index names n)) (IsShallowest ns names terms (slice_index names n)) → HasBest n
        go None e m = absurd (m.none n (candidate n h s))
        go (Some k) e m = record { chosen = k; found = e; is = m }

    chosen_best : (class m : ℕ) → find class ≡ Some m → IsShallowest ns names terms class m
    chosen_best class m e = subst (λ o. MatchOption o (IsNoCandidate ns names terms class) (IsShallowest ns names terms class)) e (shallowest.each class)

    -- edges of the proof forest connect two terms of one class
    one_class : (n m i j : ℕ) → IsBranchTerm ns (branch_in ns d) n → IsBranchTerm ns (branch_in ns d) m → slice_index names m ≡ slice_index names n → node_in c n ≡ Some i → node_in c m ≡ Some j → Linked c.classes.links i j
    one_class n m i j h k same e f =
        let classed : named.class (term_at ns n) ≡ named.class (term_at ns m) = sym (class_is n h) ∙ sym same ∙ class_is m k in
        let joined : Joined (branch_in ns d) (term_at ns n) (term_at ns m) = named.classing.apart (term_at ns n) (term_at ns m) h.stands k.stands classed in
        let of_class : class_of c n ≡ class_of c m = class_of_joined ns one d over c classes exact n m h k joined in
        let by_nodes : class_in c.classes.names i ≡ class_in c.classes.names j = ap (λ o. class_in c.classes.names (unwrap_or o 0)) (sym e) ∙ of_class ∙ ap (λ o. class_in c.classes.names (unwrap_or o 0)) f in
        shown.linked i j (classes.over.made.each n i e).within (classes.over.made.each m j f).within by_nodes

    stand_in : (n : ℕ) → IsBranchTerm ns (branch_in ns d) n → IsNoSum (term_at ns n) → HasStandIn ns c names find n
    stand_in n h s =
        let b = best n h s in
        let m = of_branch (slice_index names n) b.chosen b.is in
        let k = known_term ns one d over c classes n h in
        let l = known_term ns one d over c classes b.chosen m in
        record {
          named = (let long = named.long in let w = h.number.within in omega (arith, long, w));
          chosen = b.chosen;
          is = record {
            term = h.number;
            other = m.number;
            no_sum = s;
            chosen = b.found;
            node = k.node;
            other_node = l.node;
            found = k.found;
            other_found = l.found;
            linked = one_class n b.chosen k.node l.node h m b.is.candidate.of_class k.found l.found;
            no_deeper = b.is.least n (candidate n h s);
          };
        }

    stand_ins : HaveEntryStandIns ns d c names find
    stand_ins = record { each = λ i e f. record { each = λ n u term s. stand_in n (under_entry i e f n u term) s } }

    module _ (v : ℕ) (limit : above_all (formulas (branch_in ns d)) ≤ v) where
      abbrev chosen : ℕ → TermData
      chosen n = chosen_or ns v (find n) n

      chosen_is : (n m : ℕ) → find n ≡ Some m → chosen n ≡ term_at ns m
      chosen_is n m e = ap (λ o. chosen_or ns v o n) e

      over_classes : (i : ℕ) (e : PoolEntry) → slice_get d.entries i ≡ Some e → AreOverClasses ns c names find e.formula (with_fresh v named.class) chosen
      over_classes i e f = record { each = each }
        where
          each : (n m : ℕ) → IsUnder ns e.formula n → IsStandIn ns c names find n m → chosen (with_fresh v named.class (term_at ns n)) ≡ term_at ns m
          each n m u s =
              let h = under_entry i e f n u s.term in
              ap chosen (same_class v named.class (term_at ns n) (term_above v limit n h) ∙ sym (class_is n h)) ∙ chosen_is (slice_index names n) m s.chosen

      of_fresh : (n : ℕ) (o : Option ℕ) → find n ≡ o → with_fresh v named.class (chosen_or ns v o n) ≡ n
      of_fresh n None e = fresh_class v named.class n
      of_fresh n (Some m) e =
          let s = chosen_best n m e in
          let h = of_branch n m s in
          same_class v named.class (term_at ns m) (term_above v limit m h) ∙ sym (class_is m h) ∙ s.candidate.of_class

      no_fresh_sum : (n : ℕ) (o : Option ℕ) → find n ≡ o → IsNoSum (chosen_or ns v o n)
      no_fresh_sum n None e = tt
      no_fresh_sum n (Some m) e = (chosen_best n m e).candidate.no_sum

      all_below : AreBelowIt v named.class (formulas (branch_in ns d))
      all_below = record { each = λ i p f. at_most (above p) (above_all (formulas (branch_in ns d))) v (formula_below (formulas (branch_in ns d)) i p f) limit }

      pub setting : (ms : List ℤ) → AreLow ns (map formula_number d.entries) → IsContradiction rows.rows ms → IsSetting ns d c names find rows ms v
      setting ms low contradiction = record {
        base = record { over = over; classes = classes; shown = shown; inside = inside; low = subst (AreLow ns) (sym classes.entries) low };
        stand_ins = stand_ins;
        above = limit;
        class = with_fresh v named.class;
        chosen = chosen;
        are_chosen = record { of_class = λ k n f. of_fresh n (find n) refl; no_sum = λ k n f. no_fresh_sum n (find n) refl };
        origins = all_from v named.class (formulas (branch_in ns d)) all_below rows.classes.keys rows.rows rows.origins.items named.origins;
        over_classes = over_classes;
        contradiction = contradiction;
      }

-- the numbers of a branch's terms, one by one
pub all_numbers : (ns : List Node) (b : Branch) (terms read : List ℕ) → read ≡ terms → AreBranchTerms ns b terms → All (IsTermNumber ns) read
all_numbers ns b terms read same are = subst (All (IsTermNumber ns)) (sym same) (λ i k w. ((are.each (get_or terms i k)).0 (Contains-get_or terms i k w)).number)

pub all_named : (ns : List Node) (b : Branch) (names terms read : List ℕ) → read ≡ terms → length ns ≤ length names → AreBranchTerms ns b terms → All (λ n. n < length names) read
all_named ns b names terms read same long are = subst (All (λ n. n < length names)) (sym same) (λ i k w. (let v = ((are.each (get_or terms i k)).0 (Contains-get_or terms i k w)).number.within in omega (arith, v, long)))

-- ---- a pool that is extended

module _ (ns ms : List Node) (g : Extends ns ms) (d : BranchData) (c : BranchClassesData) where
  low_grown : IsOver ns d → c.entries ≡ map formula_number d.entries → AreLow ns c.entries → AreLow ms c.entries
  low_grown over entries low = record {
    formula = λ position number f. ap sort_of (kept position number f) ∙ low.formula position number f;
    low = λ position number f. subst (λ x. IsLow (formula_in x)) (sym (kept position number f)) (low.low position number f);
  }
    where
      kept : (position number : ℕ) → slice_get c.entries position ≡ Some number → item_at ms number ≡ item_at ns number
      kept position number f =
          let at = number_at_position ns d over position number (ap (λ ks. slice_get ks position) (sym entries) ∙ f) in
          item_kept ns ms g number (subst (λ k. k < length ns) at.same (over.formulas position at.entry at.found).within)

  base_grown : IsBase ns d c → IsBase ms d c
  base_grown h = record {
    over = over_still ns ms g d h.over;
    classes = record { over = still_over ns ms c g h.classes.over; entries = h.classes.entries };
    shown = h.shown;
    inside = inside_more ns ms c g h.inside;
    low = low_grown h.over h.classes.entries h.low;
  }

  pub same_branch : IsOver ns d → branch_in ms d ≡ branch_in ns d
  same_branch over = says_still ns ms g d.entries over.formulas

  pub setting_grown : (names : List ℕ) (find : ℕ → Option ℕ) (rows : BranchRows) (zs : List ℤ) (v : ℕ) → IsSetting ns d c names find rows zs v → IsSetting ms d c names find rows zs v
  setting_grown names find rows zs v h = record {
    base = base_grown h.base;
    stand_ins = stand_ins_grown ns ms g d h.base.over c names find h.stand_ins;
    above = subst (λ b. above_all (formulas b) ≤ v) (sym (same_branch h.base.over)) h.above;
    class = h.class;
    chosen = h.chosen;
    are_chosen = h.are_chosen;
    origins = subst (λ b. AllZip (IsRowFrom h.class (formulas b) rows.classes.keys) rows.rows rows.origins.items) (sym (same_branch h.base.over)) h.origins;
    over_classes = λ i e f. over_classes_grown ns ms g c names find e.formula h.class h.chosen (h.base.over.formulas i e f).within (h.stand_ins.each i e f) (h.over_classes i e f);
    contradiction = h.contradiction;
  }
