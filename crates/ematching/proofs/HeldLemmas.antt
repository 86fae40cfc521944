-- Terms of a branch by number, and those that a pattern may match.
use Rattle.std.proofs.Common.{Result, Ok, Err, IfOk, ◌≡◌, ℕ, ◌<◌, true, List, length, sym, ap, subst}
use Rattle.std.proofs.lemmas.Option.{slice_get_within}
use Rattle.fol.specs.FormulaData.{TermData}
use Rattle.term_pool.specs.Items.{Item, TermItem, TermSort, sort_of, term_in, formula_in}
use Rattle.term_pool.specs.Pools.{item_at, IsMade, IsOneNumber}
use Rattle.term_pool.specs.declared.node.Leaf.TheVariants.{Var, Constant}
use Rattle.term_pool.specs.declared.node.One.TheVariants.{Unary}
use Rattle.term_pool.specs.declared.node.Two.TheVariants.{Binary, Pack, Field}
use Rattle.term_pool.specs.declared.node.Three.TheVariants.{Ternary, SetField, If}
use Rattle.term_pool.specs.declared.node.Node.{Node}
use Rattle.term_pool.specs.declared.node.Node.TheVariants.{Leaf as LeafNode, One as OneNode, Two as TwoNode, Three as ThreeNode}
use Rattle.term_pool.specs.Forms.{is_term_node}
use Rattle.term_pool.proofs.FormLemmas.{made_term}
use Rattle.term_pool.proofs.ShapeLemmas.{a_formula}
use Rattle.certificates.specs.BranchesParts.{IsInFormula}
use Rattle.certificates.specs.BranchesBranch.{Entry, IsTerm}
use Rattle.certificates.specs.Match.{IsFilled}
use Rattle.tableau.specs.PoolBranches.{BranchData, branch_in, IsTermNumber, IsOver}
use Rattle.tableau.specs.Terms.{IsBranchTerm, AreBranchTerms}
use Rattle.tableau.proofs.MarkLemmas.{value_of}
use Rattle.tableau.proofs.InsideLemmas.{IsInItem}
use Rattle.tableau.proofs.AnswerLemmas.{stored, all_least, number_found}
use Rattle.ematching.specs.Numbers.{term_at}
use Rattle.ematching.specs.Heads.{head_of, HasHead}
use Rattle.ematching.specs.Listed.{AreThose}
use Rattle.ematching.specs.Fits.{IsFilledItem, IsBoundNode, refilled}
use Rattle.ematching.specs.Rows.{AreCandidates}
use Rattle.ematching.proofs.ApartLemmas.{apart}
use Rattle.ematching.proofs.ListLemmas.{among_contains, contains_among}

pub if_ok : {X E : Type 0} {P Q : X → Type 0} (r : Result X E) → ((x : X) → P x → Q x) → IfOk r P → IfOk r Q
if_ok (Ok x) f h = f x h
if_ok (Err e) f h = h

-- ---- the number of a term of the branch

pub record HasTermNode (ns : List Node) (t : TermData) : Type 0 where
  pub number : ℕ
  pub node : Node
  pub made : IsMade ns number node
  pub is : item_at ns number ≡ TermItem t

module _ (ns : List Node) (d : BranchData) (over : IsOver ns d) (t : TermData) where
  pub term_node_of : IsTerm (branch_in ns d) t → HasTermNode ns t
  term_node_of h =
      let it = stored ns d.entries h.holds.position h.holds.entry h.holds.found in
      let formula = over.formulas h.holds.position it.entry it.found in
      let in_formula : IsInFormula t (formula_in (item_at ns it.entry.formula)) = subst (λ (e : Entry). IsInFormula t e.formula) (sym it.is) h.holds.inside in
      let inside : IsInItem t (item_at ns it.entry.formula) = subst (IsInItem t) (a_formula (item_at ns it.entry.formula) formula.sort) in_formula in
      let least = all_least ns d over in
      let found = number_found ns d.generations least.closed t it.entry.formula it.entry.generation (least.entries h.holds.position it.entry it.found) inside in
      let has = value_of d.generations found.number it.entry.generation found.small in
      let node = least.closed.nodes found.number has.value has.is in
      record { number = found.number; node = node.node; made = node.made; is = found.is }

  held_of : (n : ℕ) → n < length ns → item_at ns n ≡ TermItem t → IsTerm (branch_in ns d) t → IsBranchTerm ns (branch_in ns d) n
  held_of n w e h = record {
    number = record { within = w; sort = ap sort_of e };
    stands = subst (IsTerm (branch_in ns d)) (sym (ap term_in e)) h;
  }

  pub node_held : (n : HasTermNode ns t) → IsTerm (branch_in ns d) t → IsBranchTerm ns (branch_in ns d) n.number
  node_held n h = held_of n.number (slice_get_within ns n.number n.node n.made.found) n.is h

-- ---- candidates

-- a pattern other than a bound variable has the head symbol of its target
head_refilled : (l r : Node) → is_term_node l ≡ true → refilled l r ≡ r → head_of l ≡ head_of r
head_refilled (LeafNode (Var x)) (LeafNode k) t e = e
head_refilled (LeafNode (Constant c)) (LeafNode k) t e = e
head_refilled (OneNode (Unary o) a) (OneNode k b) t e = (let same : Unary o ≡ k = cc in ap (λ j. OneNode j 0) same)
head_refilled (TwoNode (Binary o) a b) (TwoNode k c d) t e = (let same : Binary o ≡ k = cc in ap (λ j. head_of (TwoNode j c d)) same)
head_refilled (TwoNode Pack a b) (TwoNode k c d) t e = (let same : Pack ≡ k = cc in ap (λ j. head_of (TwoNode j c d)) same)
head_refilled (TwoNode (Field i) a b) (TwoNode k c d) t e = (let same : Field i ≡ k = cc in ap (λ j. head_of (TwoNode j c d)) same)
head_refilled (ThreeNode (Ternary o) a b c) (ThreeNode k x y z) t e = (let same : Ternary o ≡ k = cc in ap (λ j. ThreeNode j 0 0 0) same)
head_refilled (ThreeNode (SetField i) a b c) (ThreeNode k x y z) t e = (let same : SetField i ≡ k = cc in ap (λ j. ThreeNode j 0 0 0) same)
head_refilled (ThreeNode If a b c) (ThreeNode k x y z) t e = (let same : If ≡ k = cc in ap (λ j. ThreeNode j 0 0 0) same)
head_refilled _ _ t e = absurd (cc)

pub filled_item : (bound : List ℕ) (at : ℕ → TermData) (x y : Item) (u : TermData) → sort_of x ≡ TermSort → y ≡ TermItem u → IsFilled bound at (term_in x) u → IsFilledItem bound at x y
filled_item bound at (TermItem t) y u e f h = subst (IsFilledItem bound at (TermItem t)) (sym f) h
filled_item bound at _ y u e f h = absurd (cc)

module _ (ns : List Node) (one : IsOneNumber ns) (d : BranchData) (over : IsOver ns d) (bound : List ℕ) (pattern : ℕ) where
  pub all_candidates : (numbers : List ℕ) → AreBranchTerms ns (branch_in ns d) numbers → AreCandidates ns (branch_in ns d) bound pattern numbers
  all_candidates numbers h = record {
    only = λ n a. (h.each n).0 (contains_among numbers n a);
    all = λ t at held f. (let it = term_node_of ns d over t held in record { number = it.number; among = among_contains numbers it.number ((h.each it.number).1 (node_held ns d over t it held)); is = ap term_in it.is });
  }

  module _ (node : Node) (number : IsTermNumber ns pattern) (made : IsMade ns pattern node) (other : IsBoundNode bound node → ⊥) where
    same_head : (t : TermData) (at : ℕ → TermData) (it : HasTermNode ns t) → IsFilled bound at (term_at ns pattern) t → HasHead ns (head_of node) it.number
    same_head t at it f =
        let filled = filled_item bound at (item_at ns pattern) (item_at ns it.number) t number.sort it.is f in
        let parts = apart ns one bound at pattern it.number node it.node made it.made other filled in
        let is_term : is_term_node node ≡ true = made_term ns pattern node made number.sort in
        record { node = it.node; found = it.made.found; same = sym (head_refilled node it.node is_term parts.same) }

    pub head_candidates : (h : Node) → h ≡ head_of node → (numbers : List ℕ) → AreThose (λ n. HasHead ns h n × IsBranchTerm ns (branch_in ns d) n) numbers → AreCandidates ns (branch_in ns d) bound pattern numbers
    head_candidates h e numbers those = record {
      only = λ n a. ((those.each n).0 a).1;
      all = λ t at held f. (let it = term_node_of ns d over t held in record { number = it.number; among = (those.each it.number).1 (subst (λ g. HasHead ns g it.number) (sym e) (same_head t at it f), node_held ns d over t it held); is = ap term_in it.is });
    }
