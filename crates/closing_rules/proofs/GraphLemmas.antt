-- The classes of a branch as a graph, and the explanation that begins with its entries.
use Rattle.std.proofs.Common.{◌≡◌, ℕ, ◌<◌, ◌≤◌, List, length, map, Some, sym, ap, ◌∙◌, subst}
use Rattle.std.specs.Prelude.{slice_get, option_map, unwrap_or, ◌==◌}
use Rattle.std.proofs.lemmas.Bool.{eqb-true}
use Rattle.std.proofs.lemmas.Option.{slice_get-map}
use Rattle.base.specs.TypeData.{ParamType}
use Rattle.fol.specs.FormulaData.{EqFormula, NotFormula}
use Rattle.certificates.specs.Closes.{most_deep}
use Rattle.term_pool.specs.Items.{TypeItem, TermSort, FormulaSort, TypeSort, sort_of}
use Rattle.term_pool.specs.Pools.{item_at, HasPart, IsOneNumber}
use Rattle.term_pool.specs.Depths.{item_depth}
use Rattle.term_pool.specs.declared.node.Node.{Node}
use Rattle.term_pool.proofs.ShapeLemmas.{a_formula}
use Rattle.congruence_closure.specs.Links.{Linked}
use Rattle.congruence_closure.specs.Signatures.{class_in}
use Rattle.congruence_closure.specs.States.{AreClasses}
use Rattle.congruence_closure.specs.declared.classes.link.Link.{Link}
use Rattle.certificates.specs.Due.{IsShallow}
use Rattle.tableau.specs.PoolBranches.{BranchData, branch_in, IsFormulaNumber, IsTermNumber, IsOver}
use Rattle.tableau.specs.declared.entry.PoolEntry.{PoolEntry}
use Rattle.congruence_closure.specs.Numbers.{number_at, IsMadeFor}
use Rattle.congruence_closure.specs.Known.{BranchClassesData, IsKnown, node_in, class_of, AreInEntries, AreExact}
use Rattle.tableau.specs.Numbers.{formula_at}
use Rattle.tableau.proofs.EntryLemmas.{said_is}
use Rattle.tableau.specs.Terms.{formula_number, AreClassesOf}
use Rattle.tableau.proofs.BranchLemmas.{entries_of, entry_known}
use Rattle.closing_rules.specs.Clashes.{AreOpposed, EquatesJoined, DeniesJoined}
use Rattle.term_pool.specs.Forms.{IsDenialOf, IsEquationOf}
use Rattle.closing_rules.proofs.FormLemmas.{denial_is, denial_number, equation_is}
use Rattle.closing_rules.proofs.ClashLemmas.{formula_item, left_known, right_known, denied_known, equates_answer, denied_is}
use Rattle.explanations.specs.Chains.{term_at, ChainData, IsChain}
use Rattle.explanations.specs.Graphs.{IsTermNode, IsGraph}
use Rattle.explanations.specs.BranchGraphs.{AreLow, HasEntries}
use Rattle.explanations.specs.Derivations.{AreSaid, CanBeginAny}
use Rattle.explanations.specs.Formulas.{IsFormulaNode}
use Rattle.explanations.proofs.BranchLemmas.{a_graph, said, begins}

-- the parts that the classes give access to
pub record AreLent (c : BranchClassesData) (nodes : List Node) (links : List Link) (numbers : List ℕ) : Type 0 where
  pub nodes_are : nodes ≡ c.classes.nodes
  pub links_are : links ≡ c.classes.links
  pub numbers_are : numbers ≡ c.numbers

module _ (c : BranchClassesData) (nodes : List Node) (links : List Link) (numbers : List ℕ) (lent : AreLent c nodes links numbers) where
  pub lent_fact : (P : List Node → List Link → List ℕ → Type 0) → P c.classes.nodes c.classes.links c.numbers → P nodes links numbers
  lent_fact P h = subst (λ xs. P xs links numbers) (sym lent.nodes_are) (subst (λ xs. P c.classes.nodes xs numbers) (sym lent.links_are) (subst (P c.classes.nodes c.classes.links) (sym lent.numbers_are) h))

module _ (ns : List Node) (one : IsOneNumber ns) (d : BranchData) (over : IsOver ns d) (c : BranchClassesData) (of : AreClassesOf ns d c) where
  -- ---- nodes

  made : (n i : ℕ) → node_in c n ≡ Some i → IsMadeFor ns c.classes.nodes c.numbers n i
  made n i f = of.over.made.each n i f

  part_at : (n i : ℕ) (f : node_in c n ≡ Some i) → HasPart ns (length ns) n TermSort → HasPart ns (length ns) (number_at c.numbers i) TermSort
  part_at n i f p = subst (λ k. HasPart ns (length ns) k TermSort) (sym (made n i f).is) p

  formula_part_at : (n i : ℕ) (f : node_in c n ≡ Some i) → HasPart ns (length ns) n FormulaSort → HasPart ns (length ns) (number_at c.numbers i) FormulaSort
  formula_part_at n i f p = subst (λ k. HasPart ns (length ns) k FormulaSort) (sym (made n i f).is) p

  no_type : (k i : ℕ) → HasPart ns (length ns) (number_at c.numbers i) TermSort → item_at ns (number_at c.numbers i) ≡ TypeItem (ParamType k) → ⊥
  no_type k i p q = let both : TermSort ≡ TypeSort = sym p.sort ∙ ap sort_of q in absurd (cc)

  no_formula_type : (k i : ℕ) → HasPart ns (length ns) (number_at c.numbers i) FormulaSort → item_at ns (number_at c.numbers i) ≡ TypeItem (ParamType k) → ⊥
  no_formula_type k i p q = let both : FormulaSort ≡ TypeSort = sym p.sort ∙ ap sort_of q in absurd (cc)

  pub term_node : (n i : ℕ) → node_in c n ≡ Some i → IsTermNumber ns n → IsTermNode ns c.classes.nodes c.numbers i
  term_node n i f number = record {
    term = part_at n i f (record { earlier = number.within; sort = number.sort });
    no_parameter = λ k e. no_type k i (part_at n i f (record { earlier = number.within; sort = number.sort })) ((made n i f).real.made k e).item;
  }

  pub formula_node : (n i : ℕ) → node_in c n ≡ Some i → i < length c.classes.nodes → IsFormulaNumber ns n → IsShallow (formula_at ns n) → IsFormulaNode ns c.classes.nodes c.numbers i
  formula_node n i f w number shallow = record {
    within = w;
    formula = formula_part_at n i f (record { earlier = number.within; sort = number.sort });
    no_parameter = λ k e. no_formula_type k i (formula_part_at n i f (record { earlier = number.within; sort = number.sort })) ((made n i f).real.made k e).item;
    low = subst (λ k. item_depth (item_at ns k) ≤ most_deep) (sym (made n i f).is) (subst (λ x. item_depth x ≤ most_deep) (a_formula (item_at ns n) number.sort) shallow);
  }

  pub number_of_node : (n i : ℕ) → node_in c n ≡ Some i → number_at c.numbers i ≡ n
  number_of_node n i f = (made n i f).is

  class_at : (n i : ℕ) → node_in c n ≡ Some i → class_of c n ≡ class_in c.classes.names i
  class_at n i f = ap (λ o. class_in c.classes.names (unwrap_or o 0)) f

  module _ (classes : AreClasses c.classes.nodes c.classes.equations c.classes.names c.classes.links) where
    pub are_linked : (m n i j : ℕ) → node_in c m ≡ Some i → node_in c n ≡ Some j → i < length c.classes.nodes → j < length c.classes.nodes → class_of c m ≡ class_of c n → Linked c.classes.links i j
    are_linked m n i j f g v w same = classes.linked i j v w (sym (class_at m i f) ∙ same ∙ class_at n j g)

    -- ---- the graph and the explanation

    module _ (inside : AreInEntries ns c) (low : AreLow ns (map formula_number d.entries)) where
      low_entries : AreLow ns c.entries
      low_entries = subst (AreLow ns) (sym of.entries) low

      pub graph : IsGraph ns c.classes.nodes c.classes.links c.numbers
      graph = a_graph ns c of.over classes inside low_entries

      pub begins_any : (chain : ChainData) → chain.formulas ≡ map formula_number d.entries → IsChain ns (branch_in ns d) chain → CanBeginAny ns c.classes.nodes (branch_in ns d) chain c.numbers
      begins_any chain same is = record { each = λ i w t. begins ns c of.over (branch_in ns d) chain inside low_entries (entries_of ns one d over c of) (begun_with chain same) is i w t }
        where
          begun_with : (e : ChainData) → e.formulas ≡ map formula_number d.entries → HasEntries e c.entries
          begun_with e s = record { each = λ position number f. subst (λ ks. slice_get ks position ≡ Some number) (of.entries ∙ sym s) f }

    pub links_said : (chain : ChainData) → chain.formulas ≡ map formula_number d.entries → AreSaid ns chain c.classes.links c.numbers
    links_said chain same = said ns c of.over classes chain (record { each = λ position number f. subst (λ ks. slice_get ks position ≡ Some number) (of.entries ∙ sym same) f })

-- ---- entries in the explanation

pub entry_at : (d : BranchData) (ks : List ℕ) → ks ≡ map formula_number d.entries → (i : ℕ) (e : PoolEntry) → slice_get d.entries i ≡ Some e → slice_get ks i ≡ Some e.formula
entry_at d ks same i e found = ap (λ xs. slice_get xs i) same ∙ slice_get-map formula_number d.entries i ∙ ap (option_map formula_number) found

-- ---- the two clashing formulas

module _ (ns : List Node) (one : IsOneNumber ns) (d : BranchData) (over : IsOver ns d) (c : BranchClassesData) (of : AreClassesOf ns d c) (exact : AreExact c) (i inner : ℕ) (e : PoolEntry) (found : slice_get d.entries i ≡ Some e) (denial : IsDenialOf ns e.formula inner) where
  pub inner_known : IsKnown c inner
  inner_known = denied_known ns one d over c of i inner e found denial

  pub equates : DeniesJoined (branch_in ns d) i → EquatesJoined (branch_in ns d) (formula_at ns inner)
  equates h = subst (EquatesJoined (branch_in ns d)) (sym (denied_is ns d i e found inner denial h.formula h.denies)) h.equates

  module _ (sides : ℕ × ℕ) (equation : IsEquationOf ns inner sides) where
    pub first_known : IsKnown c sides.0
    first_known = left_known ns one d over c of inner sides inner_known equation

    pub second_known : IsKnown c sides.1
    second_known = right_known ns one d over c of inner sides inner_known equation

    pub same_sides : DeniesJoined (branch_in ns d) i → class_of c sides.0 ≡ class_of c sides.1
    same_sides h = eqb-true (class_of c sides.0) (class_of c sides.1) ((equates_answer ns one d over c of inner sides (class_of c sides.0 == class_of c sides.1) equation (exact.joined sides.0 sides.1 first_known second_known)).1 (equates h))

    pub denied_equation : formula_at ns e.formula ≡ NotFormula (EqFormula (term_at ns sides.0) (term_at ns sides.1))
    denied_equation = denial_is ns e.formula inner denial ∙ ap NotFormula (equation_is ns inner sides equation)

  module _ (j : ℕ) (o : PoolEntry) (at : slice_get d.entries j ≡ Some o) where
    pub same_formulas : AreOpposed (branch_in ns d) j i → class_of c o.formula ≡ class_of c inner
    same_formulas h =
        let tells = (exact.alike o.formula inner (entry_known ns one d over c of j o at) inner_known).tells ns (branch_in ns d) h.formula h.other (entries_of ns one d over c of) (formula_item ns o.formula h.formula (over.formulas j o at) (sym (said_is ns d j o h.formula at h.says))) (formula_item ns inner h.other (denial_number ns e.formula inner denial) (denied_is ns d i e found inner denial h.other h.denies)) in
        eqb-true (class_of c o.formula) (class_of c inner) (tells.1 h.alike)
