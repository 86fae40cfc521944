-- The moves that close a list of branches are those of a tree for each of them.
use Rattle.std.proofs.Common.{◌≡◌, ℕ, suc, ◌+◌, ℤ, List, [], ◌∷◌, ◌++◌, length, map, refl, sym, ap, ◌∙◌, subst, arith, append_assoc}
use Rattle.std.specs.Prelude.{pos, ◌+ℤ◌}
use Rattle.std.proofs.lemmas.List.{length-append, length-map, append-nil}
use Rattle.fol.specs.declared.shapes.Shape.{Shape}
use Rattle.fol.specs.FormulaData.{TermData, NumTerm, FormulaData, NotFormula, LeFormula}
use Rattle.certificates.specs.CertData.{StepData, PartsStep, AxiomStep, InstanceStep, NameStep, RewriteStep, CloseData, LinearClose, ClashClose, FalseClose, MoveData, StraightMove, ForkedMove, ClosedMove}
use Rattle.certificates.specs.declared.certificate.Cause.{Cause}
use Rattle.certificates.specs.declared.certificate.Cause.TheVariants.{Split, Cut, Bound}
use Rattle.certificates.specs.Closes.{OpenData, IsMove, IsFork, left_of, Closes}
use Rattle.certificates.specs.Trees.{TreeData, PartsTree, SplitTree, CutTree, NameTree, InstanceTree, RewriteTree, AxiomTree, BoundTree, LinearTree, ClashTree, FalseTree, CasesData, NoCases, MoreCases, list_of_cases, moves_of, moves_of_cases, AcceptedAreTrees}

abbrev moves_of_all : List TreeData → List MoveData
moves_of_all [] = []
moves_of_all (t ∷ ts) = moves_of t ++ moves_of_all ts

-- this many trees with these moves
record Forest (n : ℕ) (moves : List MoveData) : Type 0 where
  trees : List TreeData
  count : length trees ≡ n
  same : moves_of_all trees ≡ moves

-- the first of them, and the others
record Headed (n : ℕ) (moves : List MoveData) : Type 0 where
  first : TreeData
  rest : List TreeData
  count : length rest ≡ n
  same : moves_of first ++ moves_of_all rest ≡ moves

headed : (n : ℕ) (moves : List MoveData) → Forest (suc n) moves → Headed n moves
headed n moves f = go f.trees f.count f.same
  where
    go : (ts : List TreeData) → length ts ≡ suc n → moves_of_all ts ≡ moves → Headed n moves
    go [] e h = absurd (omega arith)
    go (t ∷ ts) e h = record { first = t; rest = ts; count = omega (arith, e); same = h }

-- ---- straight steps

abbrev with_step : StepData → TreeData → TreeData
with_step (PartsStep i ps) next = PartsTree i ps next
with_step (AxiomStep name p) next = AxiomTree name p next
with_step (InstanceStep i t p) next = InstanceTree i t p next
with_step (NameStep i v p) next = NameTree i v p next
with_step (RewriteStep i j x c p) next = RewriteTree i j x c p next

moves_with_step : (s : StepData) (next : TreeData) → moves_of (with_step s next) ≡ StraightMove s ∷ moves_of next
moves_with_step (PartsStep i ps) next = refl
moves_with_step (AxiomStep name p) next = refl
moves_with_step (InstanceStep i t p) next = refl
moves_with_step (NameStep i v p) next = refl
moves_with_step (RewriteStep i j x c p) next = refl

straight : (s : StepData) (n : ℕ) (moves : List MoveData) → Forest (suc n) moves → Forest (suc n) (StraightMove s ∷ moves)
straight s n moves f =
    let h = headed n moves f in
    record {
      trees = with_step s h.first ∷ h.rest;
      count = ap suc h.count;
      same = (λ i. moves_with_step s h.first i ++ moves_of_all h.rest) ∙ ap (λ ms. StraightMove s ∷ ms) h.same;
    }

-- ---- forks

-- the first trees as those of cases
record Cased (ps : List FormulaData) (n : ℕ) (moves : List MoveData) : Type 0 where
  cases : CasesData
  formulas : list_of_cases cases ≡ ps
  rest : List TreeData
  count : length rest ≡ n
  same : moves_of_cases cases ++ moves_of_all rest ≡ moves

cased : (ps : List FormulaData) (n : ℕ) (ts : List TreeData) → length ts ≡ length ps + n → Cased ps n (moves_of_all ts)
cased [] n ts e = record { cases = NoCases; formulas = refl; rest = ts; count = omega (arith, e); same = refl }
cased (p ∷ ps) n [] e = absurd (omega arith)
cased (p ∷ ps) n (t ∷ ts) e =
    let more = cased ps n ts (omega (arith, e)) in
    record {
      cases = MoreCases p t more.cases;
      formulas = ap (λ qs. p ∷ qs) more.formulas;
      rest = more.rest;
      count = more.count;
      same = append_assoc (moves_of t) (moves_of_cases more.cases) (moves_of_all more.rest) ∙ ap (λ ms. moves_of t ++ ms) more.same;
    }

split : (i : ℕ) (ps : List FormulaData) (n : ℕ) (moves : List MoveData) → Forest (length ps + n) moves → Forest (suc n) (ForkedMove (Split i) ps ∷ moves)
split i ps n moves f =
    let c = cased ps n f.trees f.count in
    record {
      trees = SplitTree i c.cases ∷ c.rest;
      count = ap suc c.count;
      same = λ j. ForkedMove (Split i) (c.formulas j) ∷ (c.same ∙ f.same) j;
    }

-- the first two of some trees
record Doubled (n : ℕ) (moves : List MoveData) : Type 0 where
  first : TreeData
  second : TreeData
  rest : List TreeData
  count : length rest ≡ n
  same : (moves_of first ++ moves_of second) ++ moves_of_all rest ≡ moves

doubled : (n : ℕ) (moves : List MoveData) → Forest (suc (suc n)) moves → Doubled n moves
doubled n moves f =
    let h = headed (suc n) moves f in
    let k = headed n (moves_of_all h.rest) (record { trees = h.rest; count = h.count; same = refl }) in
    record {
      first = h.first;
      second = k.first;
      rest = k.rest;
      count = k.count;
      same = append_assoc (moves_of h.first) (moves_of k.first) (moves_of_all k.rest) ∙ ap (λ ms. moves_of h.first ++ ms) k.same ∙ h.same;
    }

cut : (p : FormulaData) (n : ℕ) (moves : List MoveData) → Forest (suc (suc n)) moves → Forest (suc n) (ForkedMove Cut (p ∷ NotFormula p ∷ []) ∷ moves)
cut p n moves f =
    let d = doubled n moves f in
    record {
      trees = CutTree p d.first d.second ∷ d.rest;
      count = ap suc d.count;
      same = ap (λ ms. ForkedMove Cut (p ∷ NotFormula p ∷ []) ∷ ms) d.same;
    }

bound : (i : ℕ) (t : TermData) (k : ℤ) (n : ℕ) (moves : List MoveData) → Forest (suc (suc n)) moves → Forest (suc n) (ForkedMove (Bound i) (LeFormula t (NumTerm k) ∷ LeFormula (NumTerm (k +ℤ pos 1)) t ∷ []) ∷ moves)
bound i t k n moves f =
    let d = doubled n moves f in
    record {
      trees = BoundTree i t k d.first d.second ∷ d.rest;
      count = ap suc d.count;
      same = ap (λ ms. ForkedMove (Bound i) (LeFormula t (NumTerm k) ∷ LeFormula (NumTerm (k +ℤ pos 1)) t ∷ []) ∷ ms) d.same;
    }

forked : (entries : List FormulaData) (cause : Cause) (ps : List FormulaData) → IsFork entries cause ps → (n : ℕ) (moves : List MoveData) → Forest (length ps + n) moves → Forest (suc n) (ForkedMove cause ps ∷ moves)
forked entries (Split i) ps h n moves f = split i ps n moves f
forked entries Cut ps h n moves f =
    subst (λ qs. Forest (length qs + n) moves → Forest (suc n) (ForkedMove Cut qs ∷ moves)) (sym h.1) (λ g. cut h.0 n moves (subst (λ k. Forest k moves) (omega arith) g)) f
forked entries (Bound i) ps h n moves f =
    subst (λ qs. Forest (length qs + n) moves → Forest (suc n) (ForkedMove (Bound i) qs ∷ moves)) (sym h.2.1) (λ g. bound i h.0 h.2.0 n moves (subst (λ k. Forest k moves) (omega arith) g)) f

-- ---- steps that close a branch

abbrev closing_tree : CloseData → TreeData
closing_tree (LinearClose ms) = LinearTree ms
closing_tree (ClashClose i j) = ClashTree i j
closing_tree (FalseClose i) = FalseTree i

moves_of_closing : (c : CloseData) → moves_of (closing_tree c) ≡ ClosedMove c ∷ []
moves_of_closing (LinearClose ms) = refl
moves_of_closing (ClashClose i j) = refl
moves_of_closing (FalseClose i) = refl

closed : (c : CloseData) (n : ℕ) (moves : List MoveData) → Forest n moves → Forest (suc n) (ClosedMove c ∷ moves)
closed c n moves f = record {
  trees = closing_tree c ∷ f.trees;
  count = ap suc f.count;
  same = (λ i. moves_of_closing c i ++ moves_of_all f.trees) ∙ ap (λ ms. ClosedMove c ∷ ms) f.same;
}

-- ---- a move, and all

module _ (shapes : List Shape) where
  moved : (b : List FormulaData) (bs : OpenData) (m : MoveData) (moves : List MoveData) → IsMove shapes b m → Forest (length (left_of b m ++ bs)) moves → Forest (suc (length bs)) (m ∷ moves)
  moved b bs (StraightMove s) moves h f = straight s (length bs) moves f
  moved b bs (ForkedMove cause ps) moves h f =
      forked b cause ps h.allowed (length bs) moves (subst (λ k. Forest k moves) (length-append (map (λ p. b ++ p ∷ []) ps) bs ∙ ap (λ k. k + length bs) (length-map ps (λ p. b ++ p ∷ []))) f)
  moved b bs (ClosedMove c) moves h f = closed c (length bs) moves f

  grown : (bs : OpenData) (moves : List MoveData) → Closes shapes bs moves → Forest (length bs) moves
  grown bs [] h = record { trees = []; count = sym (ap length h); same = refl }
  grown [] (m ∷ moves) h = absurd h.0
  grown (b ∷ bs) (m ∷ moves) h = moved b bs m moves h.0.0 (grown (left_of b m ++ bs) moves h.1)

pub accepted_tree : AcceptedAreTrees
accepted_tree shapes moves p h =
    let f = headed 0 moves (grown shapes ((NotFormula p ∷ []) ∷ []) moves h) in
    (f.first, go f.rest f.count f.first f.same)
  where
    go : (ts : List TreeData) → length ts ≡ 0 → (t : TreeData) → moves_of t ++ moves_of_all ts ≡ moves → moves_of t ≡ moves
    go [] e t h = sym (append-nil (moves_of t)) ∙ h
    go (u ∷ ts) e t h = absurd (omega arith)
