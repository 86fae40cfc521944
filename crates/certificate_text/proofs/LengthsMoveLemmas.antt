-- The lengths of moves, one after another.
use Rattle.std.proofs.Common.{◌≡◌, ℕ, ◌+◌, ◌<◌, ◌≤◌, List, [], ◌∷◌, ◌++◌, length, map, take, get_or, sym, ap, ◌∙◌, arith}
use Rattle.std.specs.List.{flat_map}
use Rattle.std.proofs.lemmas.List.{take_more, take_all, map_more, flat_map_more}
use Rattle.fol.specs.FormulaData.{FormulaData}
use Rattle.term_pool.specs.declared.node.Node.{Node}
use Rattle.tableau.specs.Numbers.{formula_at}
use Rattle.explanations.specs.Chains.{step_in}
use Rattle.explanations.specs.declared.chain.ChainStep.{ChainStep}
use Rattle.explanations.specs.declared.chain.ChainStep.TheVariants.{Rewritten}
use Rattle.explanations.specs.declared.chain.Rewriting.{Rewriting}
use Rattle.certificates.specs.CertData.{CloseData, MoveData, ClosedMove}
use Rattle.certificates.specs.Lengths.{capped, formula_length, list_length, step_length, close_length, move_length, moves_length}

pub count_sum : (d e x y : ℕ) → d ≡ capped x → e ≡ capped y → capped (d + e) ≡ capped (x + y)
count_sum d e x y p q = omega (arith, p, q)

list_more : (ps : List FormulaData) (p : FormulaData) → list_length (ps ++ p ∷ []) ≡ list_length ps + formula_length p
list_more [] p = omega arith
list_more (q ∷ ps) p = omega (arith, list_more ps p)

moves_more : (ms ns : List MoveData) → moves_length (ms ++ ns) ≡ moves_length ms + moves_length ns
moves_more [] ns = omega arith
moves_more (m ∷ ms) ns = omega (arith, moves_more ms ns)

flat_next : {X : Type 0} (f : X → List MoveData) (xs : List X) (i : ℕ) (d : X) → i < length xs → flat_map f (take (i + 1) xs) ≡ flat_map f (take i xs) ++ f (get_or xs i d)
flat_next f xs i d before = ap (flat_map f) (take_more xs i d before) ∙ sym (flat_map_more f [] (take i xs) (get_or xs i d))

-- ---- one more in a sum

module _ {X : Type 0} (xs : List X) (i : ℕ) (d : X) (before : i < length xs) (total len : ℕ) where
  pub formulas_next : (f : X → FormulaData) → total ≡ capped (list_length (map f (take i xs))) → len ≡ capped (formula_length (f (get_or xs i d))) → capped (total + len) ≡ capped (list_length (map f (take (i + 1) xs)))
  formulas_next f p q =
      count_sum total len (list_length (map f (take i xs))) (formula_length (f (get_or xs i d))) p q
      ∙ ap capped (sym (ap list_length (map_more f xs i d before) ∙ list_more (map f (take i xs)) (f (get_or xs i d))))

  -- the next moves, added to a number
  pub links_next : (f : X → MoveData) (n : ℕ) → total ≡ capped (n + moves_length (map f (take i xs))) → len ≡ capped (move_length (f (get_or xs i d))) → capped (total + len) ≡ capped (n + moves_length (map f (take (i + 1) xs)))
  links_next f n p q =
      let more : moves_length (map f (take (i + 1) xs)) ≡ moves_length (map f (take i xs)) + moves_length (f (get_or xs i d) ∷ []) =
      ap moves_length (map_more f xs i d before) ∙ moves_more (map f (take i xs)) (f (get_or xs i d) ∷ []) in
      omega (arith, p, q, more)

  pub applications_next : (f : X → List MoveData) (n : ℕ) → total ≡ capped (n + moves_length (flat_map f (take i xs))) → len ≡ capped (moves_length (f (get_or xs i d))) → capped (total + len) ≡ capped (n + moves_length (flat_map f (take (i + 1) xs)))
  applications_next f n p q =
      let more : moves_length (flat_map f (take (i + 1) xs)) ≡ moves_length (flat_map f (take i xs)) + moves_length (f (get_or xs i d)) =
      ap moves_length (flat_next f xs i d before) ∙ moves_more (flat_map f (take i xs)) (f (get_or xs i d)) in
      omega (arith, p, q, more)

-- ---- the whole list

pub formulas_whole : {X : Type 0} (f : X → FormulaData) (xs : List X) (i total : ℕ) → length xs ≤ i → total ≡ capped (list_length (map f (take i xs))) → total ≡ capped (list_length (map f xs))
formulas_whole f xs i total over h = h ∙ ap (λ ys. capped (list_length (map f ys))) (take_all i xs over)

pub links_whole : {X : Type 0} (f : X → MoveData) (xs : List X) (i total : ℕ) (by : CloseData) → length xs ≤ i → total ≡ capped (close_length by + moves_length (map f (take i xs))) → total ≡ capped (moves_length (map f xs ++ ClosedMove by ∷ []))
links_whole f xs i total by over h =
    let all : moves_length (map f (take i xs)) ≡ moves_length (map f xs) = ap (λ ys. moves_length (map f ys)) (take_all i xs over) in
    let whole = moves_more (map f xs) (ClosedMove by ∷ []) in
    omega (arith, h, all, whole)

pub applications_whole : {X : Type 0} (f : X → List MoveData) (xs : List X) (i total : ℕ) (ms : List MoveData) → length xs ≤ i → flat_map f xs ≡ ms → total ≡ capped (1 + moves_length (flat_map f (take i xs))) → total ≡ capped (1 + moves_length ms)
applications_whole f xs i total ms over is h = h ∙ ap (λ ys. capped (1 + moves_length (flat_map f ys))) (take_all i xs over) ∙ ap (λ ns. capped (1 + moves_length ns)) is

pub rewriting_length : (ns : List Node) (s : ChainStep) (r : Rewriting) → s ≡ Rewritten r → step_length (step_in ns s) ≡ 9 + formula_length (formula_at ns r.formula)
rewriting_length ns s r is = ap (λ x. step_length (step_in ns x)) is
