-- Nodes that are added to code.
use Rattle.std.proofs.Common.{◌≡◌, ℕ, ◌+◌, ◌<◌, ◌≤◌, List, [], ◌∷◌, ◌++◌, length, refl, sym, ap, ◌∙◌, arith, length-append, lt_of_lt_of_le}
use Rattle.std.proofs.Math.Seq.{get_or-append_seam}
use Rattle.program.specs.declared.arena.Node.{Node}
use Rattle.program.specs.Trees.{BadTree, Stays, at, trees, trees_in, tree_of}
use Rattle.code_tree.specs.declared.code.At.{At}
use Rattle.code_tree.specs.declared.code.CodeUnary.{CodeUnary}
use Rattle.code_tree.specs.declared.code.CodeMany.{CodeMany}
use Rattle.code_tree.specs.Codes.{Code}
use Rattle.code_tree.specs.Passes.{behind}
use Rattle.code_tree.specs.Growing.{CodeNodes, Grown, AddsBehind}

module _ {O H : Type 0} where
  length_in : (done : List (Code O H)) (ns : CodeNodes O H) → length (trees_in done ns) ≡ length done + length ns
  length_in done [] = omega arith
  length_in done (n ∷ ns) = length_in (done ++ tree_of done n ∷ []) ns ∙ (let e = length-append done (tree_of done n ∷ []) in omega (arith, e))

  at_end : (ts : List (Code O H)) (t : Code O H) (n : ℕ) → n ≡ length ts → at (ts ++ t ∷ []) n ≡ t
  at_end ts t n e = ap (at (ts ++ t ∷ [])) e ∙ get_or-append_seam ts t [] BadTree

  -- the tree of a node that is put behind the others
  pub added : (old new : CodeNodes O H) (t : Code O H) (index : ℕ) → trees new ≡ trees old ++ t ∷ [] → index ≡ length old → at (trees new) index ≡ t
  added old new t index e h = ap (λ ts. at ts index) e ∙ at_end (trees old) t index (h ∙ sym (let l = length_in [] old in omega (arith, l)))

  pub grown : (old new : CodeNodes O H) (node : Node (At O) CodeUnary H (CodeMany O)) → new ≡ old ++ node ∷ [] → Stays old new → Grown 1 old new
  grown old new node e s = record {
    count = let l = length-append old (node ∷ []) in let f = ap length e in omega (arith, l, f);
    same = s.same;
  }

  pub not_grown : (ns : CodeNodes O H) → Grown 0 ns ns
  not_grown ns = record { count = omega arith; same = λ i h. refl }

  pub grown_then : (k l n : ℕ) (a b c : CodeNodes O H) → n ≡ k + l → Grown k a b → Grown l b c → Grown n a c
  grown_then k l n a b c e h g = record {
    count = let x = h.count in let y = g.count in omega (arith, e, x, y);
    same = λ i less. g.same i (let x = h.count in omega (arith, less, x)) ∙ h.same i less;
  }

  -- ---- operations one behind another

  pub behind_begins : (n : ℕ) (ns : CodeNodes O H) (ops : List O) (part : ℕ) → part < length ns → AddsBehind n ns ns ops ops part part
  behind_begins n ns ops part less = record { count = refl; longer = omega arith; same = λ i h. refl; below = less; last = λ e. e; tree = refl }

  pub behind_goes_on : (n : ℕ) (old now new : CodeNodes O H) (ops rest left : List O) (o : O) (part index next : ℕ) → AddsBehind n old now ops rest part index → rest ≡ o ∷ left
      → Grown 1 now new → next ≡ length now → at (trees new) next ≡ behind n (o ∷ []) (at (trees now) index) → AddsBehind n old new ops left part next
  behind_goes_on n old now new ops rest left o part index next h r g l e = record {
    count = let x = h.count in let y = g.count in let z = ap length r in omega (arith, x, y, z);
    longer = let x = h.longer in let y = g.count in omega (arith, x, y);
    same = λ i less. g.same i (lt_of_lt_of_le less h.longer) ∙ h.same i less;
    below = let y = g.count in omega (arith, y, l);
    last = λ k. let y = g.count in omega (arith, y, l);
    tree = ap (behind n left) e ∙ ap (λ os. behind n os (at (trees now) index)) (sym r) ∙ h.tree;
  }

  pub behind_ends : (n : ℕ) (old now : CodeNodes O H) (ops : List O) (part index : ℕ) → AddsBehind n old now ops [] part index → Grown (length ops) old now
  behind_ends n old now ops part index h = record { count = let x = h.count in omega (arith, x); same = h.same }
