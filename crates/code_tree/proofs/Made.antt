-- The nodes that a pass makes, and where they are.
use Rattle.std.proofs.Common.{◌≡◌, ◌⊎◌, inl, inr, ℕ, zero, suc, ◌+◌, ◌-◌, ◌<◌, ◌≤◌, eq-or-lt_of_le, Result, Ok, Err, IfOk, Option, Some, None, List, [], ◌∷◌, ◌++◌, length, map, take, All, slice_index_or, refl, sym, ap, ◌∙◌, subst, arith, length-append, lt_of_lt_of_le}
use Rattle.std.specs.Prelude.{slice_get}
use Rattle.std.proofs.Math.Seq.{get_or-append_seam}
use Rattle.std.proofs.Math.ListN.{get_or-append}
use Rattle.program.specs.declared.arena.Node.{Node}
use Rattle.program.specs.declared.arena.Node.TheVariants.{Many}
use Rattle.program.specs.Trees.{BadTree, MoreTrees, at, trees, tree_of, trees_of}
use Rattle.code_tree.specs.declared.code.At.{At}
use Rattle.code_tree.specs.declared.code.CodeUnary.{CodeUnary}
use Rattle.code_tree.specs.declared.code.CodeMany.{CodeMany}
use Rattle.code_tree.specs.declared.fault.PassFault.{PassFault}
use Rattle.code_tree.specs.declared.fault.PassFault.TheVariants.{CodeLimit, Own, NoMemory}
use Rattle.code_tree.specs.Passes.{Pass, applied, applied_all, applied_many}
use Rattle.code_tree.specs.Faults.{OnPassLimit}
use Rattle.code_tree.specs.Growing.{CodeNodes, Grown, whole, nodes_of_node, nodes_made, AreMade}

pub ok_more : {A E : Type 0} (X Y : A → Type 0) (r : Result A E) → IfOk r X → ((a : A) → X a → Y a) → IfOk r Y
ok_more X Y (Ok a) h f = f a h
ok_more X Y (Err e) h f = tt

pub limit_more : {A F : Type 0} (X Y : ℕ → Type 0) (r : Result A (PassFault F)) → OnPassLimit r X → ((n : ℕ) → X n → Y n) → OnPassLimit r Y
limit_more X Y (Ok a) h f = tt
limit_more X Y (Err (CodeLimit n)) h f = f n h
limit_more X Y (Err (Own e)) h f = tt
limit_more X Y (Err NoMemory) h f = tt

-- ---- parts

each_first : (x : ℕ) (xs : List ℕ) (n : ℕ) → x < n → All (λ p. p < n) xs → All (λ p. p < n) (x ∷ xs)
each_first x xs n h k zero d less = h
each_first x xs n h k (suc i) d less = k i d (omega (arith, less))

pub parts_below : (places parts : List ℕ) (n : ℕ) → All (λ p. p < n) places → All (λ p. p < length places) parts → All (λ p. p < n) (map (λ p. slice_index_or places p 0) parts)
parts_below places [] n h k = λ i d less. absurd (omega (arith, less))
parts_below places (p ∷ ps) n h k =
    each_first (slice_index_or places p 0) (map (λ q. slice_index_or places q 0) ps) n (h p 0 (k zero 0 (omega arith)))
    (parts_below places ps n h (λ j e l. k (suc j) e (omega (arith, l))))

pub below_more : (places : List ℕ) (n m place : ℕ) → All (λ p. p < n) places → n ≤ m → place < m → All (λ p. p < m) (places ++ place ∷ [])
below_more [] n m place h le less = each_first place [] m less (λ i d l. absurd (omega (arith, l)))
below_more (p ∷ ps) n m place h le less =
    each_first p (ps ++ place ∷ []) m (lt_of_lt_of_le (h zero 0 (omega arith)) le) (below_more ps n m place (λ j e k. h (suc j) e (omega (arith, k))) le less)

module _ {O H Q K : Type 0} (pass : Pass O H Q K) where
  parts_made : (source : CodeNodes O H) (result : CodeNodes Q K) (places parts : List ℕ) → AreMade pass source result places → All (λ p. p < length places) parts
      → trees_of (map (at (trees result)) (map (λ p. slice_index_or places p 0) parts)) ≡ applied_all pass (trees_of (map (at (trees source)) parts))
  parts_made source result places [] h k = refl
  parts_made source result places (p ∷ ps) h k =
      λ i. MoreTrees (h.each p (k zero 0 (omega arith)) i) (parts_made source result places ps h (λ j e l. k (suc j) e (omega (arith, l))) i)

  pub many_made : (source : CodeNodes O H) (result : CodeNodes Q K) (places parts : List ℕ) (m : CodeMany O) → AreMade pass source result places → All (λ p. p < length places) parts
      → applied_many pass m (trees_of (map (at (trees result)) (map (λ p. slice_index_or places p 0) parts))) ≡ applied pass (tree_of (trees source) (Many m parts))
  many_made source result places parts m h k = ap (applied_many pass m) (parts_made source result places parts h k)

  -- ---- one node more

  pub made_more : (source : CodeNodes O H) (k : ℕ) (old new : CodeNodes Q K) (places : List ℕ) (place : ℕ)
      → AreMade pass source old places → All (λ p. p < length old) places → Grown k old new → at (trees new) place ≡ applied pass (at (trees source) (length places)) → AreMade pass source new (places ++ place ∷ [])
  made_more source k old new places place h w g e = record { each = λ i less. split i less (eq-or-lt_of_le (at_most i less)) }
    where
      at_most : (i : ℕ) → i < length (places ++ place ∷ []) → i ≤ length places
      at_most i less = let l = length-append places (place ∷ []) in omega (arith, l, less)

      split : (i : ℕ) → i < length (places ++ place ∷ []) → (i ≡ length places) ⊎ (i < length places) → at (trees new) (slice_index_or (places ++ place ∷ []) i 0) ≡ applied pass (at (trees source) i)
      split i less (inl is) =
          ap (λ j. at (trees new) (slice_index_or (places ++ place ∷ []) j 0)) is ∙ ap (at (trees new)) (get_or-append_seam places place [] 0) ∙ e ∙ ap (λ j. applied pass (at (trees source) j)) (sym is)
      split i less (inr l) =
          ap (at (trees new)) (get_or-append places (place ∷ []) 0 i l) ∙ g.same (slice_index_or places i 0) (w i 0 l) ∙ h.each i l

  pub none_made : (source : CodeNodes O H) (result : CodeNodes Q K) → AreMade pass source result []
  none_made source result = record { each = λ i h. absurd (omega (arith, h)) }

  -- ---- counts

  abbrev held : {X : Type 0} → X → Option X → X
  held d None = d
  held d (Some x) = x

  some_is : {X : Type 0} (x y : X) → Some x ≡ Some y → x ≡ y
  some_is x y e = ap (held x) e

  count_next : (ns : CodeNodes O H) (i : ℕ) (node : Node (At O) CodeUnary H (CodeMany O)) → slice_get ns i ≡ Some node → nodes_made pass (take (suc i) ns) ≡ nodes_made pass (take i ns) + nodes_of_node pass node
  count_next [] i node h = absurd (cc)
  count_next (n ∷ ns) zero node h = ap (λ m. nodes_of_node pass m + 0) (some_is n node h) ∙ omega arith
  count_next (n ∷ ns) (suc i) node h = ap (λ k. nodes_of_node pass n + k) (count_next ns i node h) ∙ omega arith

  pub count_more : (ns : CodeNodes O H) (i : ℕ) (node : Node (At O) CodeUnary H (CodeMany O)) → slice_get ns i ≡ Some node → nodes_made pass (take (i + 1) ns) ≡ nodes_made pass (take i ns) + nodes_of_node pass node
  count_more ns i node h = let e : i + 1 ≡ suc i = omega arith in ap (λ k. nodes_made pass (take k ns)) e ∙ count_next ns i node h

  pub count_within : (ns : CodeNodes O H) (i : ℕ) (node : Node (At O) CodeUnary H (CodeMany O)) → slice_get ns i ≡ Some node → nodes_made pass (take i ns) + nodes_of_node pass node ≤ nodes_made pass ns
  count_within [] i node h = absurd (cc)
  count_within (n ∷ ns) zero node h = let e = ap (nodes_of_node pass) (some_is n node h) in omega (arith, e)
  count_within (n ∷ ns) (suc i) node h = let r = count_within ns i node h in omega (arith, r)

  -- ---- the whole

  no_nodes : (ns : CodeNodes Q K) → length ns ≡ 0 → ns ≡ []
  no_nodes [] e = refl
  no_nodes (n ∷ ns) e = absurd (omega (arith, e))

  pub whole_made : (source : CodeNodes O H) (result : CodeNodes Q K) (places : List ℕ) → AreMade pass source result places → length places ≡ length source
      → (0 < length source → slice_index_or places (length source - 1) 0 + 1 ≡ length result) → (length source ≡ 0 → length result ≡ 0) → whole result ≡ applied pass (whole source)
  whole_made [] result places h e last none = ap whole (no_nodes result (none refl))
  whole_made (n ∷ ns) result places h e last none =
      let l = last (omega arith) in
      let i : length result - 1 ≡ slice_index_or places (length (n ∷ ns) - 1) 0 = omega (arith, l) in
      ap (at (trees result)) i ∙ h.each (length (n ∷ ns) - 1) (omega (arith, e))
