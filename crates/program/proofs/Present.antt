-- The trees of an arena do not change when nodes are added, and each tree is made of those before it.
use Rattle.std.proofs.Common.{◌≡◌, ℕ, zero, suc, ◌+◌, ◌<◌, List, [], ◌∷◌, ◌++◌, length, get_or, map, All, refl, sym, ◌∙◌, subst, arith, length-append, append_assoc, append-nil, add-zero, zero-add, below_more, Some}
use Rattle.std.specs.Prelude.{slice_get}
use Rattle.std.proofs.lemmas.Option.{get_or_from_slice_get, slice_get_within}
use Rattle.std.proofs.lemmas.List.{get_or_append_left}
use Rattle.std.proofs.Math.Seq.{get_or-append_seam}
use Rattle.std.proofs.lemmas.List.Elements.{All-head, All-tail}
use Rattle.program.specs.declared.arena.Node.{Node}
use Rattle.program.specs.declared.arena.Node.TheVariants.{Leaf, Unary, Binary, If, Many}
use Rattle.program.specs.Trees.{Tree, UnaryTree, BinaryTree, IfTree, ManyTree, BadTree, at, tree_of, trees_of, trees_in, trees, IsBelow, AreBelow, Grows, Stays}

module _ {L U B M : Type 0} where
  at-append : (ts more : List (Tree L U B M)) (i : ℕ) → i < length ts → at (ts ++ more) i ≡ at ts i
  at-append ts more i h = get_or_append_left ts more BadTree i h

  map_at-append : (ts more : List (Tree L U B M)) (xs : List ℕ) → All (λ x. x < length ts) xs → map (at (ts ++ more)) xs ≡ map (at ts) xs
  map_at-append ts more [] h = refl
  map_at-append ts more (x ∷ xs) h = λ i. at-append ts more x (All-head (λ x. x < length ts) x xs h) i ∷ map_at-append ts more xs (All-tail (λ x. x < length ts) x xs h) i

  -- trees after those of its children do not change a tree
  pub tree_of-append : (ts more : List (Tree L U B M)) (n : Node L U B M) → IsBelow (length ts) n → tree_of (ts ++ more) n ≡ tree_of ts n
  tree_of-append ts more (Leaf l) h = refl
  tree_of-append ts more (Unary u a) h = λ i. UnaryTree u (at-append ts more a h i)
  tree_of-append ts more (Binary o a b) h = λ i. BinaryTree o (at-append ts more a h.0 i) (at-append ts more b h.1 i)
  tree_of-append ts more (If c a b) h = λ i. IfTree (at-append ts more c h.0 i) (at-append ts more a h.1 i) (at-append ts more b h.2 i)
  tree_of-append ts more (Many m xs) h = λ i. ManyTree m (trees_of (map_at-append ts more xs h i))

  trees_in-push : (done : List (Tree L U B M)) (ns : List (Node L U B M)) (n : Node L U B M) → trees_in done (ns ++ n ∷ []) ≡ trees_in done ns ++ tree_of (trees_in done ns) n ∷ []
  trees_in-push done [] n = refl
  trees_in-push done (m ∷ ns) n = trees_in-push (done ++ tree_of done m ∷ []) ns n

  -- one more node
  pub trees-push : (ns : List (Node L U B M)) (n : Node L U B M) → trees (ns ++ n ∷ []) ≡ trees ns ++ tree_of (trees ns) n ∷ []
  trees-push ns n = trees_in-push [] ns n

  trees_in-grows : (done : List (Tree L U B M)) (ns : List (Node L U B M)) → Grows done (trees_in done ns)
  trees_in-grows done [] = ([], sym (append-nil done))
  trees_in-grows done (n ∷ ns) =
      let rest = trees_in-grows (done ++ tree_of done n ∷ []) ns in
      (tree_of done n ∷ rest.0, rest.1 ∙ append_assoc done (tree_of done n ∷ []) rest.0)

  at-trees_in : (done : List (Tree L U B M)) (ns : List (Node L U B M)) (i : ℕ) (d : Node L U B M) → i < length ns → IsBelow (length done + i) (get_or ns i d) → at (trees_in done ns) (length done + i) ≡ tree_of (trees_in done ns) (get_or ns i d)
  at-trees_in done [] i d h b = absurd (omega arith)
  at-trees_in done (n ∷ ns) zero d h b =
      let one = tree_of done n in
      let rest = trees_in-grows (done ++ one ∷ []) ns in
      let same : trees_in (done ++ one ∷ []) ns ≡ done ++ one ∷ rest.0 = rest.1 ∙ append_assoc done (one ∷ []) rest.0 in
      let P : List (Tree L U B M) → Type 0 = λ xs. at xs (length done + 0) ≡ tree_of xs n in
      let below : IsBelow (length done) n = rw (← add-zero (length done)) b in
      subst P (sym same) (rw add-zero (get_or-append_seam done one rest.0 BadTree) ∙ sym (tree_of-append done (one ∷ rest.0) n below))
  at-trees_in done (n ∷ ns) (suc i) d h b =
      let node = get_or ns i d in
      let one = tree_of done n in
      let index : length (done ++ one ∷ []) + i ≡ length done + suc i = omega (arith, length-append done (one ∷ [])) in
      let P : ℕ → Type 0 = λ k. IsBelow k node → at (trees_in (done ++ one ∷ []) ns) k ≡ tree_of (trees_in (done ++ one ∷ []) ns) node in
      subst P index (at-trees_in (done ++ one ∷ []) ns i d (omega arith)) b

  at-trees : (ns : List (Node L U B M)) (i : ℕ) (d : Node L U B M) → i < length ns → IsBelow i (get_or ns i d) → at (trees ns) i ≡ tree_of (trees ns) (get_or ns i d)
  at-trees ns i d h b =
      let P : ℕ → Type 0 = λ k. IsBelow k (get_or ns i d) → at (trees ns) k ≡ tree_of (trees ns) (get_or ns i d) in
      subst P (zero-add i) (at-trees_in [] ns i d h) b

  -- the tree of the node at an index
  pub tree_read : (ns : List (Node L U B M)) (i : ℕ) (n : Node L U B M) → slice_get ns i ≡ Some n → IsBelow i n → at (trees ns) i ≡ tree_of (trees ns) n
  tree_read ns i n e b =
      let same : get_or ns i n ≡ n = get_or_from_slice_get ns i n n e in
      at-trees ns i n (slice_get_within ns i n e) (rw same b) ∙ (λ k. tree_of (trees ns) (same k))

  trees_in-length : (done : List (Tree L U B M)) (ns : List (Node L U B M)) → length (trees_in done ns) ≡ length done + length ns
  trees_in-length done [] = omega arith
  trees_in-length done (n ∷ ns) = omega (arith, trees_in-length (done ++ tree_of done n ∷ []) ns, length-append done (tree_of done n ∷ []))

  -- there is one tree for each node
  pub trees-length : (ns : List (Node L U B M)) → length (trees ns) ≡ length ns
  trees-length ns = omega (arith, trees_in-length [] ns)

  -- one more node after its children
  pub below-push : (ns : List (Node L U B M)) (n : Node L U B M) → AreBelow ns → IsBelow (length ns) n → AreBelow (ns ++ n ∷ [])
  below-push ns n all b i d h =
      below_more (λ k. IsBelow k (get_or (ns ++ n ∷ []) k d)) (length ns)
      (λ k lt. rw (get_or_append_left ns (n ∷ []) d k lt) (all k d lt))
      (rw (get_or-append_seam ns n [] d) b)
      i (omega (arith, length-append ns (n ∷ [])))

  -- each tree is unchanged when a node is added
  pub stays-push : (ns : List (Node L U B M)) (n : Node L U B M) → Stays ns (ns ++ n ∷ [])
  stays-push ns n = record {
    same = λ i h.
        let within : i < length (trees ns) = omega (arith, trees-length ns) in
        rw (trees-push ns n) (at-append (trees ns) (tree_of (trees ns) n ∷ []) i within);
  }
