-- The closing of a branch by an explanation of a clash that needs congruence.
use Rattle.std.proofs.Common.{◌≡◌, inl, inr, ℕ, ◌<◌, List, length, map, get_or, Some, refl, sym, ap, ◌∙◌, subst, arith}
use Rattle.std.specs.Prelude.{slice_get}
use Rattle.std.proofs.lemmas.List.{length-map}
use Rattle.std.proofs.lemmas.Option.{slice_get_within, slice_get-get_or}
use Rattle.fol.specs.declared.operators.Junction.TheVariants.{AnyOf}
use Rattle.fol.specs.declared.shapes.Shape.{Shape}
use Rattle.fol.specs.FormulaData.{FormulaData, JoinFormula, NoFormulas, EqFormula, NotFormula}
use Rattle.term_pool.specs.Items.{term_in}
use Rattle.term_pool.specs.Pools.{Extends, IsOneNumber}
use Rattle.term_pool.specs.declared.node.Node.{Node}
use Rattle.term_pool.proofs.ItemLemmas.{item_kept}
use Rattle.congruence_closure.specs.States.{AreClasses}
use Rattle.congruence_closure.specs.declared.classes.link.Link.{Link}
use Rattle.congruence_closure.specs.Histories.{AreAmong}
use Rattle.congruence_closure.proofs.AmongLemmas.{links_among}
use Rattle.certificates.specs.BranchesBranch.{Branch}
use Rattle.certificates.specs.Due.{IsShallow}
use Rattle.certificates.specs.ProofTraces.{IsFull, Deep}
use Rattle.tableau.specs.PoolBranches.{BranchData, branch_in, IsFormulaNumber, IsOver}
use Rattle.tableau.specs.declared.entry.PoolEntry.{PoolEntry}
use Rattle.congruence_closure.specs.Numbers.{number_at}
use Rattle.congruence_closure.specs.Known.{BranchClassesData, IsKnown, node_in, class_of, AreExact}
use Rattle.tableau.specs.Numbers.{formula_at}
use Rattle.tableau.proofs.EntryLemmas.{entry_says}
use Rattle.tableau.specs.Terms.{formula_number, AreClassesOf}
use Rattle.tableau.proofs.BranchLemmas.{entry_known}
use Rattle.closing_rules.specs.Clashes.{AreOpposed}
use Rattle.term_pool.specs.Forms.{IsDenialOf, IsEquationOf}
use Rattle.closing_rules.proofs.FormLemmas.{denial_is}
use Rattle.explanations.specs.Chains.{term_at, ChainData, Keeps, IsAt}
use Rattle.explanations.specs.BranchGraphs.{IsLow, AreLow}
use Rattle.explanations.proofs.GrowthLemmas.{at_grown}
use Rattle.closing_rules.specs.Depths.{IsDeep, HasDeep}
use Rattle.closing_rules.proofs.GraphLemmas.{number_of_node, entry_at, denied_equation, same_formulas}

-- ---- formulas of an explanation that is extended

a_denial : (q : FormulaData) → NotFormula q ≡ JoinFormula AnyOf NoFormulas → ⊥
a_denial q e = cc

pub denial_grown : (ns ms : List Node) → Extends ns ms → (d e : ChainData) → Keeps d e → (position : ℕ) (q : FormulaData) → IsAt ns d position (NotFormula q) → IsAt ms e position (NotFormula q)
denial_grown ns ms x d e keeps position q h = at_grown ns ms x d e keeps position (NotFormula q) (a_denial q) h

pub equation_denied : (ns ms : List Node) → Extends ns ms → (d e : ChainData) → Keeps d e → (position m n : ℕ) → m < length ns → n < length ns → IsAt ns d position (NotFormula (EqFormula (term_at ns m) (term_at ns n))) → IsAt ms e position (NotFormula (EqFormula (term_at ms m) (term_at ms n)))
equation_denied ns ms x d e keeps position m n v w h =
    let left : term_at ns m ≡ term_at ms m = ap term_in (sym (item_kept ns ms x m v)) in
    let right : term_at ns n ≡ term_at ms n = ap term_in (sym (item_kept ns ms x n w)) in
    subst (IsAt ms e position) (λ i. NotFormula (EqFormula (left i) (right i))) (denial_grown ns ms x d e keeps position (EqFormula (term_at ns m) (term_at ns n)) h)

pub longer_chain : (d e : ChainData) → Keeps d e → (i : ℕ) → i < length d.formulas → i < length e.formulas
longer_chain d e keeps i w = slice_get_within e.formulas i (get_or d.formulas i 0) (keeps.kept i (get_or d.formulas i 0) (slice_get-get_or d.formulas i 0 w))

-- ---- a branch that is too deep

pub too_deep : (shapes : List Shape) (b : Branch) → HasDeep b → IsFull shapes b
too_deep shapes b h = Deep h.position h.formula h.says h.deep.deep

pub deep_at : (shapes : List Shape) (ns : List Node) (d : BranchData) (i n : ℕ) (e : PoolEntry) → slice_get d.entries i ≡ Some e → e.formula ≡ n → IsDeep (formula_at ns n) → IsFull shapes (branch_in ns d)
deep_at shapes ns d i n e found is deep = Deep i (formula_at ns e.formula) (entry_says ns d i e found) (subst (λ k. IsDeep (formula_at ns k)) (sym is) deep).deep

-- the formula that a low formula negates is not too deep
under_low : (p q : FormulaData) → p ≡ NotFormula q → IsLow p → IsShallow q
under_low p q e (inl s) = let deep : IsShallow (NotFormula q) = subst IsShallow e s in omega (arith, deep)
under_low p q e (inr h) =
    let both : NotFormula q ≡ NotFormula h.0 = sym e ∙ h.1 in
    let same : h.0 ≡ q = cc in
    subst IsShallow same h.2

pub denied_shallow : (ns : List Node) (d : BranchData) → AreLow ns (map formula_number d.entries) → (i inner : ℕ) (e : PoolEntry) → slice_get d.entries i ≡ Some e → IsDenialOf ns e.formula inner → IsShallow (formula_at ns inner)
denied_shallow ns d low i inner e found denial = under_low (formula_at ns e.formula) (formula_at ns inner) (denial_is ns e.formula inner denial) (low.low i e.formula (entry_at d (map formula_number d.entries) refl i e found))

-- ---- the edges of the proof forest

pub among_lent : (c : BranchClassesData) → AreClasses c.classes.nodes c.classes.equations c.classes.names c.classes.links → (nodes : List Node) (links : List Link) → nodes ≡ c.classes.nodes → links ≡ c.classes.links → (count : ℕ) → count ≡ length nodes → AreAmong links count
among_lent c classes nodes links e f count g =
    subst (AreAmong links) (sym (g ∙ ap length e)) (subst (λ ls. AreAmong ls (length c.classes.nodes)) (sym f) (links_among c.classes.nodes c.classes.equations c.classes.names c.classes.links classes))

pub chain_within : (d : BranchData) (ks : List ℕ) → ks ≡ map formula_number d.entries → (i : ℕ) → i < length d.entries → i < length ks
chain_within d ks same i w = let l : length ks ≡ length d.entries = ap length same ∙ length-map d.entries formula_number in omega (arith, l, w)

-- ---- the formula of the negating entry, by the numbers of nodes

module _ (ns : List Node) (one : IsOneNumber ns) (d : BranchData) (over : IsOver ns d) (c : BranchClassesData) (of : AreClassesOf ns d c) (exact : AreExact c) (i inner : ℕ) (e : PoolEntry) (found : slice_get d.entries i ≡ Some e) (denial : IsDenialOf ns e.formula inner) where
  pub differing_at : (sides : ℕ × ℕ) → IsEquationOf ns inner sides → (m n : ℕ) → node_in c sides.0 ≡ Some m → node_in c sides.1 ≡ Some n → (chain : ChainData) → chain.formulas ≡ map formula_number d.entries → IsAt ns chain i (NotFormula (EqFormula (term_at ns (number_at c.numbers m)) (term_at ns (number_at c.numbers n))))
  differing_at sides equation m n f g chain same =
      let left : number_at c.numbers m ≡ sides.0 = number_of_node ns one d over c of sides.0 m f in
      let right : number_at c.numbers n ≡ sides.1 = number_of_node ns one d over c of sides.1 n g in
      record {
        number = e.formula;
        found = entry_at d chain.formulas same i e found;
        is = denied_equation ns one d over c of exact i inner e found denial sides equation ∙ (λ k. NotFormula (EqFormula (term_at ns (sym left k)) (term_at ns (sym right k))));
      }

  pub opposed_at : (n : ℕ) → node_in c inner ≡ Some n → (chain : ChainData) → chain.formulas ≡ map formula_number d.entries → IsAt ns chain i (NotFormula (formula_at ns (number_at c.numbers n)))
  opposed_at n g chain same =
      let number : number_at c.numbers n ≡ inner = number_of_node ns one d over c of inner n g in
      record {
        number = e.formula;
        found = entry_at d chain.formulas same i e found;
        is = denial_is ns e.formula inner denial ∙ (λ k. NotFormula (formula_at ns (sym number k)));
      }

  -- the entry with the formula

  module _ (j n : ℕ) (o : PoolEntry) (at : slice_get d.entries j ≡ Some o) (is : o.formula ≡ n) where
    pub said_known : IsKnown c n
    said_known = subst (IsKnown c) is (entry_known ns one d over c of j o at)

    pub said_number : IsFormulaNumber ns n
    said_number = subst (IsFormulaNumber ns) is (over.formulas j o at)

    pub same_class : AreOpposed (branch_in ns d) j i → class_of c n ≡ class_of c inner
    same_class h = subst (λ k. class_of c k ≡ class_of c inner) is (same_formulas ns one d over c of exact i inner e found denial j o at h)

    pub said_at : (m : ℕ) → node_in c n ≡ Some m → (ks : List ℕ) → ks ≡ map formula_number d.entries → slice_get ks j ≡ Some (number_at c.numbers m)
    said_at m f ks same = entry_at d ks same j o at ∙ ap Some (is ∙ sym (number_of_node ns one d over c of n m f))
