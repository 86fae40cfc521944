-- The nodes of a tree represent its proper subtrees and, last, the tree itself.
use Rattle.std.proofs.Common.{◌≡◌, ℕ, ◌+◌, List, [], ◌∷◌, ◌++◌, length, map, refl, sym, ap, ◌∙◌, arith, length-append, append_assoc, append-nil}
use Rattle.std.proofs.Math.Seq.{get_or-append_seam}
use Rattle.program.specs.declared.arena.Node.{Node}
use Rattle.program.specs.declared.arena.Node.TheVariants.{Unary, Binary, If, Many}
use Rattle.program.specs.Trees.{Tree, LeafTree, UnaryTree, BinaryTree, IfTree, ManyTree, BadTree, Trees, NoTrees, MoreTrees, at, tree_of, trees_of, trees_in, trees}
use Rattle.program.specs.Listed.{IsSound, AreSound, inner, inner_all, subtrees, before, indices, nodes_from, nodes_from_all, nodes_of}

module _ {L U B M : Type 0} where
  trees_in-append : (done : List (Tree L U B M)) (xs ys : List (Node L U B M)) → trees_in done (xs ++ ys) ≡ trees_in (trees_in done xs) ys
  trees_in-append done [] ys = refl
  trees_in-append done (x ∷ xs) ys = trees_in-append (done ++ tree_of done x ∷ []) xs ys

  -- the index of a tree after its proper subtrees
  seat : (done rest : List (Tree L U B M)) (t : Tree L U B M) (i : ℕ) → i ≡ length done + before t → at ((done ++ subtrees t) ++ rest) i ≡ t
  seat done rest t i e =
      let index : i ≡ length (done ++ inner t) = omega (arith, length-append done (inner t)) in
      let list : (done ++ subtrees t) ++ rest ≡ (done ++ inner t) ++ t ∷ rest = ap (λ xs. xs ++ rest) (sym (append_assoc done (inner t) (t ∷ []))) ∙ append_assoc (done ++ inner t) (t ∷ []) rest in
      ap (λ xs. at xs i) list ∙ ap (at ((done ++ inner t) ++ t ∷ rest)) index ∙ get_or-append_seam (done ++ inner t) t rest BadTree

  -- the index of the last tree
  last_seat : (done : List (Tree L U B M)) (t : Tree L U B M) (i : ℕ) → i ≡ length done + before t → at (done ++ subtrees t) i ≡ t
  last_seat done t i e = ap (λ xs. at xs i) (sym (append-nil (done ++ subtrees t))) ∙ seat done [] t i e

  -- the length after one more tree
  longer : (done : List (Tree L U B M)) (t : Tree L U B M) (n : ℕ) → n ≡ length done → n + (before t + 1) ≡ length (done ++ subtrees t)
  longer done t n e = omega (arith, length-append done (subtrees t), length-append (inner t) (t ∷ []))

  seats : (done rest : List (Tree L U B M)) (ts : Trees L U B M) (n : ℕ) → n ≡ length done → trees_of (map (at ((done ++ inner_all ts) ++ rest)) (indices n ts)) ≡ ts
  seats done rest NoTrees n e = refl
  seats done rest (MoreTrees t ts) n e =
      let here : (done ++ (subtrees t ++ inner_all ts)) ++ rest ≡ (done ++ subtrees t) ++ (inner_all ts ++ rest) = ap (λ xs. xs ++ rest) (sym (append_assoc done (subtrees t) (inner_all ts))) ∙ append_assoc (done ++ subtrees t) (inner_all ts) rest in
      let there : (done ++ (subtrees t ++ inner_all ts)) ++ rest ≡ ((done ++ subtrees t) ++ inner_all ts) ++ rest = ap (λ xs. xs ++ rest) (sym (append_assoc done (subtrees t) (inner_all ts))) in
      let first : at ((done ++ (subtrees t ++ inner_all ts)) ++ rest) (n + before t) ≡ t = ap (λ xs. at xs (n + before t)) here ∙ seat done (inner_all ts ++ rest) t (n + before t) (omega arith) in
      let others : trees_of (map (at ((done ++ (subtrees t ++ inner_all ts)) ++ rest)) (indices (n + (before t + 1)) ts)) ≡ ts = ap (λ xs. trees_of (map (at xs) (indices (n + (before t + 1)) ts))) there ∙ seats (done ++ subtrees t) rest ts (n + (before t + 1)) (longer done t n e) in
      λ i. MoreTrees (first i) (others i)

  -- one more node after nodes whose trees are known
  one_more : (done known : List (Tree L U B M)) (xs : List (Node L U B M)) (n : Node L U B M) (t : Tree L U B M) → trees_in done xs ≡ known → tree_of known n ≡ t → trees_in done (xs ++ n ∷ []) ≡ known ++ t ∷ []
  one_more done known xs n t e f = trees_in-append done xs (n ∷ []) ∙ ap (λ ts. ts ++ tree_of ts n ∷ []) e ∙ ap (λ x. known ++ x ∷ []) f

  then : (done known more : List (Tree L U B M)) (xs ys : List (Node L U B M)) → trees_in done xs ≡ known → trees_in known ys ≡ known ++ more → trees_in done (xs ++ ys) ≡ known ++ more
  then done known more xs ys e f = trees_in-append done xs ys ∙ ap (λ ts. trees_in ts ys) e ∙ f

  mutual
    stand : (done : List (Tree L U B M)) (t : Tree L U B M) (n : ℕ) → n ≡ length done → IsSound t → trees_in done (nodes_from n t) ≡ done ++ subtrees t
    stand done (LeafTree l) n e s = refl
    stand done (UnaryTree u a) n e s =
        let all : trees_in done (nodes_from n a) ≡ done ++ subtrees a = stand done a n e s in
        let node : tree_of (done ++ subtrees a) (Unary u (n + before a)) ≡ UnaryTree u a = ap (UnaryTree u) (last_seat done a (n + before a) (omega arith)) in
        one_more done (done ++ subtrees a) (nodes_from n a) (Unary u (n + before a)) (UnaryTree u a) all node ∙ append_assoc done (subtrees a) (UnaryTree u a ∷ [])
    stand done (BinaryTree o a b) n e s =
        let m : ℕ = n + (before a + 1) in
        let em : m ≡ length (done ++ subtrees a) = longer done a n e in
        let all : trees_in done (nodes_from n a ++ nodes_from m b) ≡ (done ++ subtrees a) ++ subtrees b = then done (done ++ subtrees a) (subtrees b) (nodes_from n a) (nodes_from m b) (stand done a n e s.0) (stand (done ++ subtrees a) b m em s.1) in
        let left : at ((done ++ subtrees a) ++ subtrees b) (n + before a) ≡ a = seat done (subtrees b) a (n + before a) (omega arith) in
        let right : at ((done ++ subtrees a) ++ subtrees b) (m + before b) ≡ b = last_seat (done ++ subtrees a) b (m + before b) (omega arith) in
        one_more done ((done ++ subtrees a) ++ subtrees b) (nodes_from n a ++ nodes_from m b) (Binary o (n + before a) (m + before b)) (BinaryTree o a b) all (λ i. BinaryTree o (left i) (right i))
        ∙ ap (λ xs. xs ++ BinaryTree o a b ∷ []) (append_assoc done (subtrees a) (subtrees b)) ∙ append_assoc done (subtrees a ++ subtrees b) (BinaryTree o a b ∷ [])
    stand done (IfTree c a b) n e s =
        let m : ℕ = n + (before c + 1) in
        let k : ℕ = m + (before a + 1) in
        let em : m ≡ length (done ++ subtrees c) = longer done c n e in
        let ek : k ≡ length ((done ++ subtrees c) ++ subtrees a) = longer (done ++ subtrees c) a m em in
        let two : trees_in done (nodes_from n c ++ nodes_from m a) ≡ (done ++ subtrees c) ++ subtrees a = then done (done ++ subtrees c) (subtrees a) (nodes_from n c) (nodes_from m a) (stand done c n e s.0) (stand (done ++ subtrees c) a m em s.1) in
        let all : trees_in done ((nodes_from n c ++ nodes_from m a) ++ nodes_from k b) ≡ ((done ++ subtrees c) ++ subtrees a) ++ subtrees b = then done ((done ++ subtrees c) ++ subtrees a) (subtrees b) (nodes_from n c ++ nodes_from m a) (nodes_from k b) two (stand ((done ++ subtrees c) ++ subtrees a) b k ek s.2) in
        let first : at (((done ++ subtrees c) ++ subtrees a) ++ subtrees b) (n + before c) ≡ c = ap (λ xs. at xs (n + before c)) (append_assoc (done ++ subtrees c) (subtrees a) (subtrees b)) ∙ seat done (subtrees a ++ subtrees b) c (n + before c) (omega arith) in
        let left : at (((done ++ subtrees c) ++ subtrees a) ++ subtrees b) (m + before a) ≡ a = seat (done ++ subtrees c) (subtrees b) a (m + before a) (omega arith) in
        let right : at (((done ++ subtrees c) ++ subtrees a) ++ subtrees b) (k + before b) ≡ b = last_seat ((done ++ subtrees c) ++ subtrees a) b (k + before b) (omega arith) in
        one_more done (((done ++ subtrees c) ++ subtrees a) ++ subtrees b) ((nodes_from n c ++ nodes_from m a) ++ nodes_from k b) (If (n + before c) (m + before a) (k + before b)) (IfTree c a b) all (λ i. IfTree (first i) (left i) (right i))
        ∙ ap (λ xs. (xs ++ subtrees b) ++ IfTree c a b ∷ []) (append_assoc done (subtrees c) (subtrees a)) ∙ ap (λ xs. xs ++ IfTree c a b ∷ []) (append_assoc done (subtrees c ++ subtrees a) (subtrees b)) ∙ append_assoc done ((subtrees c ++ subtrees a) ++ subtrees b) (IfTree c a b ∷ [])
    stand done (ManyTree m ts) n e s =
        let all : trees_in done (nodes_from_all n ts) ≡ done ++ inner_all ts = subtrees_all done ts n e s in
        let parts : trees_of (map (at (done ++ inner_all ts)) (indices n ts)) ≡ ts = ap (λ xs. trees_of (map (at xs) (indices n ts))) (sym (append-nil (done ++ inner_all ts))) ∙ seats done [] ts n e in
        one_more done (done ++ inner_all ts) (nodes_from_all n ts) (Many m (indices n ts)) (ManyTree m ts) all (ap (ManyTree m) parts) ∙ append_assoc done (inner_all ts) (ManyTree m ts ∷ [])
    stand done BadTree n e s = absurd s

    subtrees_all : (done : List (Tree L U B M)) (ts : Trees L U B M) (n : ℕ) → n ≡ length done → AreSound ts → trees_in done (nodes_from_all n ts) ≡ done ++ inner_all ts
    subtrees_all done NoTrees n e s = sym (append-nil done)
    subtrees_all done (MoreTrees t ts) n e s =
        let rest : trees_in (done ++ subtrees t) (nodes_from_all (n + (before t + 1)) ts) ≡ (done ++ subtrees t) ++ inner_all ts = subtrees_all (done ++ subtrees t) ts (n + (before t + 1)) (longer done t n e) s.1 in
        then done (done ++ subtrees t) (inner_all ts) (nodes_from n t) (nodes_from_all (n + (before t + 1)) ts) (stand done t n e s.0) rest ∙ append_assoc done (subtrees t) (inner_all ts)

  pub trees-nodes_of : (t : Tree L U B M) → IsSound t → trees (nodes_of t) ≡ subtrees t
  trees-nodes_of t s = stand [] t 0 refl s

  abbrev last_of : List (Tree L U B M) → Tree L U B M
  last_of [] = BadTree
  last_of (t ∷ []) = t
  last_of (t ∷ u ∷ ts) = last_of (u ∷ ts)

  last_of-push : (ts : List (Tree L U B M)) (t : Tree L U B M) → last_of (ts ++ t ∷ []) ≡ t
  last_of-push [] t = refl
  last_of-push (u ∷ []) t = refl
  last_of-push (u ∷ v ∷ ts) t = last_of-push (v ∷ ts) t

  -- nodes are those of at most one tree
  pub one_tree : (t u : Tree L U B M) → IsSound t → IsSound u → nodes_of t ≡ nodes_of u → t ≡ u
  one_tree t u s r e =
      sym (last_of-push (inner t) t) ∙ ap last_of (sym (trees-nodes_of t s) ∙ ap trees e ∙ trees-nodes_of u r) ∙ last_of-push (inner u) u
