-- The classes of the nodes of terms and formulas are those of a branch.
use Rattle.std.proofs.Common.{◌+◌, ◌≡◌, ℕ, zero, suc, ◌<◌, List, [], ◌∷◌, length, Option, Some, None, Bool, true, false, cond, ◌↔◌, refl, sym, ap, ◌∙◌, subst, arith}
use Rattle.std.specs.Prelude.{slice_get}
use Rattle.fol.specs.FormulaData.{TermData, FormulaData}
use Rattle.term_pool.specs.declared.node.Node.{Node}
use Rattle.term_pool.specs.declared.node.Node.TheVariants.{Leaf as LeafNode, One as OneNode, Two as TwoNode, Three as ThreeNode}
use Rattle.congruence_closure.specs.Trees.{plain_term, plain_formula, Tree, tree_of}
use Rattle.congruence_closure.specs.Nodes.{IsTree, IsNode, AreNodes, IsEquation, AreEquations}
use Rattle.congruence_closure.specs.Congruence.{Congruent, ByEquation, ByLeaf, ByPart, ByTwo, ByThree}
use Rattle.congruence_closure.specs.declared.classes.link.Equation.{Equation}
use Rattle.congruence_closure.specs.declared.classes.link.Link.{Link}
use Rattle.term_pool.specs.Items.{TermItem, FormulaItem}
use Rattle.term_pool.specs.NodeCodes.{same_node, same_node_decides}
use Rattle.congruence_closure.specs.Signatures.{class_in, signed}
use Rattle.congruence_closure.specs.Links.{AreAlike}
use Rattle.congruence_closure.specs.States.{SameClass, AreClasses}
use Rattle.congruence_closure.proofs.SignedLemmas.{alike_by_signature}
use Rattle.fol.specs.FormulaData.{EqFormula}
use Rattle.certificates.specs.BranchesBranch.{Branch, Says}
use Rattle.certificates.specs.Joined.{Joined, IsAlike}
use Rattle.congruence_closure.proofs.ReadLemmas.{read, read_term, read_formula, sorted_item}
use Rattle.congruence_closure.proofs.TreeLemmas.{fits_renamed, none_among}
use Rattle.congruence_closure.proofs.AlikeLemmas.{AreItemsAlike, Alike, alike_items, joined_alike}
use Rattle.congruence_closure.proofs.BranchClassesNodeLemmas.{tree_within, congruent_alike}
use Rattle.congruence_closure.proofs.ValueLemmas.{ClassValue, value, node_value, term_value, joined_value, alike_formula}

-- ---- the class of a signature, if a node has it

abbrev held_from : (ℕ → ℕ) → ℕ → List Node → Node → Option ℕ
held_from c k [] s = None
held_from c k (n ∷ ns) s = cond (same_node (signed c n) s) (Some (c k)) (held_from c (suc k) ns s)

held_at : (c : ℕ → ℕ) (k : ℕ) (ns : List Node) (s : Node) (v : ℕ) → ((i : ℕ) (n : Node) → slice_get ns i ≡ Some n → signed c n ≡ s → c (k + i) ≡ v) → (i : ℕ) (n : Node) → slice_get ns i ≡ Some n → signed c n ≡ s → held_from c k ns s ≡ Some v
held_at c k [] s v all i n e f = absurd (cc)
held_at c k (m ∷ ns) s v all i n e f = go (λ j g. held_at c (suc k) ns s v (λ i n e h. ap c (sym (later i)) ∙ all (suc i) n e h) j n g f) (same_node (signed c m) s) refl i e
  where
    here : k + 0 ≡ k
    here = omega arith

    later : (j : ℕ) → k + suc j ≡ suc k + j
    later j = omega arith

    go : ((j : ℕ) → slice_get ns j ≡ Some n → held_from c (suc k) ns s ≡ Some v) → (b : Bool) → same_node (signed c m) s ≡ b → (j : ℕ) → slice_get (m ∷ ns) j ≡ Some n → cond (same_node (signed c m) s) (Some (c k)) (held_from c (suc k) ns s) ≡ Some v
    go more true t j g = ap (λ d. cond d (Some (c k)) (held_from c (suc k) ns s)) t ∙ ap Some (ap c (sym here) ∙ all 0 m refl ((same_node_decides (signed c m) s).0 t))
    go more false t zero g =
        let is : m ≡ n = cc in
        let yes : same_node (signed c m) s ≡ true = (same_node_decides (signed c m) s).1 (ap (signed c) is ∙ f) in
        let both : true ≡ false = sym yes ∙ t in absurd (cc)
    go more false t (suc j) g = ap (λ d. cond d (Some (c k)) (held_from c (suc k) ns s)) t ∙ more j g

-- ---- exactly the classes of the branch

module _ (ns : List Node) (es : List Equation) (cs : List ℕ) (ls : List Link) (classes : AreClasses ns es cs ls) (nodes : AreNodes ns) (b : Branch) (equations : AreEquations ns es (Says b)) where
  part_congruent : (i j : ℕ) → i < length ns → j < length ns → SameClass (class_in cs) i j → Congruent ns es i j
  part_congruent i j wi wj e = classes.sound i j wi wj e

  by_nodes : (i j : ℕ) (m n : Node) → slice_get ns i ≡ Some m → slice_get ns j ≡ Some n → AreAlike (SameClass (class_in cs)) m n → Congruent ns es i j
  by_nodes i j (LeafNode h) (LeafNode k) e f a = ByLeaf i j h e (f ∙ ap (λ g. Some (LeafNode g)) (sym a))
  by_nodes i j (OneNode h a) (OneNode k x) e f p =
      ByPart i j h a x e (f ∙ ap (λ g. Some (OneNode g x)) (sym p.0)) (part_congruent a x (classes.terms.parts i (OneNode h a) e) (classes.terms.parts j (OneNode k x) f) p.1)
  by_nodes i j (TwoNode h a c) (TwoNode k x y) e f p =
      let s = classes.terms.parts i (TwoNode h a c) e in
      let t = classes.terms.parts j (TwoNode k x y) f in
      ByTwo i j h a c x y e (f ∙ ap (λ g. Some (TwoNode g x y)) (sym p.0)) (part_congruent a x s.0 t.0 p.1) (part_congruent c y s.1 t.1 p.2)
  by_nodes i j (ThreeNode h a c d) (ThreeNode k x y z) e f p =
      let s = classes.terms.parts i (ThreeNode h a c d) e in
      let t = classes.terms.parts j (ThreeNode k x y z) f in
      ByThree i j h a c d x y z e (f ∙ ap (λ g. Some (ThreeNode g x y z)) (sym p.0)) (part_congruent a x s.0 t.0 p.1) (part_congruent c y s.1 t.1 p.2) (part_congruent d z s.2 t.2 p.3)
  by_nodes i j _ _ e f p = absurd p

  abbrev held : Node → Option ℕ
  held s = held_from (class_in cs) 0 ns s

  tabled : (i : ℕ) (n : Node) → slice_get ns i ≡ Some n → held (signed (class_in cs) n) ≡ Some (class_in cs i)
  tabled i n e = held_at (class_in cs) 0 ns (signed (class_in cs) n) (class_in cs i) all i n e refl
    where
      all : (j : ℕ) (m : Node) → slice_get ns j ≡ Some m → signed (class_in cs) m ≡ signed (class_in cs) n → class_in cs (0 + j) ≡ class_in cs i
      all j m f s =
          let zero_more : 0 + j ≡ j = omega arith in
          ap (class_in cs) zero_more ∙ classes.whole j i (by_nodes j i m n f e (alike_by_signature (class_in cs) m n s))

  entry_value : (i : ℕ) (t u : TermData) → Says b i (EqFormula t u) → term_value held [] t ≡ term_value held [] u
  entry_value i t u s =
      let q : IsEquation ns es t u = equations.all i t u s in
      node_value held ns (class_in cs) tabled q.equation.left (tree_of [] (TermItem t)) q.sides.left.is
      ∙ ap ClassValue (classes.whole q.equation.left q.equation.right (ByEquation q.position q.equation q.found))
      ∙ sym (node_value held ns (class_in cs) tabled q.equation.right (tree_of [] (TermItem u)) q.sides.right.is)

  class_of : {m n : ℕ} → ClassValue m ≡ ClassValue n → m ≡ n
  class_of e = cc

  of_values : (i j : ℕ) (x y : Tree) → IsTree ns i x → IsTree ns j y → value held x ≡ value held y → Congruent ns es i j
  of_values i j x y u v e =
      classes.sound i j (tree_within ns i x u) (tree_within ns j y v) (class_of (sym (node_value held ns (class_in cs) tabled i x u) ∙ e ∙ node_value held ns (class_in cs) tabled j y v))

  pub exactly_joined : (i j : ℕ) (t u : TermData) → IsNode ns i [] (TermItem t) → IsNode ns j [] (TermItem u) → Congruent ns es i j ↔ Joined b t u
  exactly_joined i j t u m n = (forth, λ h. of_values i j (tree_of [] (TermItem t)) (tree_of [] (TermItem u)) m.is n.is (joined_value held b entry_value t u h))
    where
      forth : Congruent ns es i j → Joined b t u
      forth h =
          let a : Alike b (tree_of [] (TermItem t)) (tree_of [] (TermItem u)) = congruent_alike b ns es classes.terms nodes equations i j h (tree_of [] (TermItem t)) (tree_of [] (TermItem u)) m.is n.is in
          let r : AreItemsAlike b [] (read (tree_of [] (TermItem t))) (read (tree_of [] (TermItem u))) = alike_items b [] (tree_of [] (TermItem t)) (tree_of [] (TermItem u)) a (sorted_item [] (TermItem t)) (fits_renamed [] [] (plain_term t) (none_among [])) (fits_renamed [] [] (plain_term u) (none_among [])) in
          joined_alike b t u (subst (λ x. AreItemsAlike b [] x (TermItem u)) (read_term [] t) (subst (λ x. AreItemsAlike b [] (read (tree_of [] (TermItem t))) x) (read_term [] u) r))

  pub exactly_alike : (i j : ℕ) (p q : FormulaData) → IsNode ns i [] (FormulaItem p) → IsNode ns j [] (FormulaItem q) → Congruent ns es i j ↔ IsAlike b [] p q
  exactly_alike i j p q m n = (forth, λ h. of_values i j (tree_of [] (FormulaItem p)) (tree_of [] (FormulaItem q)) m.is n.is (alike_formula held b entry_value [] p q h))
    where
      forth : Congruent ns es i j → IsAlike b [] p q
      forth h =
          let a : Alike b (tree_of [] (FormulaItem p)) (tree_of [] (FormulaItem q)) = congruent_alike b ns es classes.terms nodes equations i j h (tree_of [] (FormulaItem p)) (tree_of [] (FormulaItem q)) m.is n.is in
          let r : AreItemsAlike b [] (read (tree_of [] (FormulaItem p))) (read (tree_of [] (FormulaItem q))) = alike_items b [] (tree_of [] (FormulaItem p)) (tree_of [] (FormulaItem q)) a (sorted_item [] (FormulaItem p)) (fits_renamed [] [] (plain_formula p) (none_among [])) (fits_renamed [] [] (plain_formula q) (none_among [])) in
          subst (λ x. AreItemsAlike b [] x (FormulaItem q)) (read_formula [] p) (subst (λ x. AreItemsAlike b [] (read (tree_of [] (FormulaItem p))) x) (read_formula [] q) r)
