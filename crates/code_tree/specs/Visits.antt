-- The numbered points that a run comes to, with its states there, and those in which the run of what a pass made comes to them. Points
-- inside calls are those of the code that is called.
use Rattle.std.specs.Prelude.{◌≡◌, ℕ, zero, suc, Bool, true, false, List, [], ◌∷◌, ◌++◌, Option, Some, None}
use Rattle.program.specs.Trees.{Tree, LeafTree, UnaryTree, BinaryTree, IfTree, ManyTree, BadTree, Trees, NoTrees, MoreTrees}
use Rattle.code_tree.specs.declared.code.Jump.{Jump}
use Rattle.code_tree.specs.declared.code.Jump.TheVariants.{Break, Continue, Return}
use Rattle.code_tree.specs.declared.code.At.{At}
use Rattle.code_tree.specs.declared.code.CodeUnary.{CodeUnary}
use Rattle.code_tree.specs.declared.code.CodeUnary.TheVariants.{Passes, Leaves, Catches}
use Rattle.code_tree.specs.declared.code.CodeMany.{CodeMany}
use Rattle.code_tree.specs.declared.code.CodeMany.TheVariants.{Joins, Does}
use Rattle.code_tree.specs.Outcomes.{Outcome, Done, Left, Aborted, Unfinished, Stuck, unfinished}
use Rattle.code_tree.specs.Codes.{Code, CodeRuns, Meaning, level, levels, runs}
use Rattle.code_tree.specs.Passes.{Pass, applied, applied_all}

pub record Visit (S : Type 0) : Type 0 where
  pub point : ℕ
  pub state : S

abbrev pub Visits : Type 0 → Type 0
Visits S = List (Visit S)

abbrev pub visit : {S : Type 0} → ℕ → S → Visits S
visit n s = record { point = n; state = s } ∷ []

-- ---- where a run goes on

abbrev pub visits_after : {I S X : Type 0} → Outcome I S → (List I → S → List X) → List X
visits_after (Done vs s) next = next vs s
visits_after (Left j vs s) next = []
visits_after (Aborted code) next = []
visits_after Unfinished next = []
visits_after Stuck next = []

abbrev pub visits_turned : {I S X : Type 0} → Outcome I S → (S → List X) → List X
visits_turned (Done vs s) next = next s
visits_turned (Left Continue vs s) next = next s
visits_turned (Left Break vs s) next = []
visits_turned (Left Return vs s) next = []
visits_turned (Aborted code) next = []
visits_turned Unfinished next = []
visits_turned Stuck next = []

abbrev pub visits_of_two : {X : Type 0} → Option Bool → List X → List X → List X
visits_of_two None one other = []
visits_of_two (Some true) one other = one
visits_of_two (Some false) one other = other

abbrev pub visits_chosen : {I S X : Type 0} → (I → Option Bool) → (S → List X) → (S → List X) → List I → S → List X
visits_chosen truth one other [] s = []
visits_chosen truth one other (x ∷ y ∷ vs) s = []
visits_chosen truth one other (x ∷ []) s = visits_of_two (truth x) (one s) (other s)

-- ---- the visits of code

-- A run of code, and of parts of code; the one of what a pass made is told by the code that the pass was given.
pub record Running (O H I S : Type 0) : Type 0 where
  pub truth : I → Option Bool
  -- in this turn, and in the turns that are left
  pub now : Code O H → S → Outcome I S
  pub all_now : Trees (At O) CodeUnary H (CodeMany O) → S → Outcome I S
  pub again : Code O H → S → Outcome I S

module _ {O H I S : Type 0} (number : H → ℕ) (run : Running O H I S) (fewer : Code O H → S → Visits S) where
  abbrev pub many_visits : CodeMany O → List I → S → Visits S
  many_visits Joins vs s = []
  many_visits (Does at) vs s = visit at.point s

  abbrev pub unary_visits : CodeUnary → List I → S → Visits S
  unary_visits (Passes n way) vs s = visit n s
  unary_visits (Leaves j) vs s = []
  unary_visits (Catches j) vs s = []

  abbrev mutual
    pub visits_level : Tree (At O) CodeUnary H (CodeMany O) → S → Visits S
    visits_level (LeafTree at) s = visit at.point s
    visits_level (UnaryTree u a) s = visits_level a s ++ visits_after (run.now a s) (unary_visits u)
    visits_level (BinaryTree h c a) s =
        visit (number h) s
        ++ (fewer c s ++ visits_after (run.again c s) (visits_chosen run.truth (λ t. fewer a t ++ visits_turned (run.again a t) (fewer (BinaryTree h c a))) (λ t. [])))
    visits_level (IfTree c a b) s = visits_level c s ++ visits_after (run.now c s) (visits_chosen run.truth (visits_level a) (visits_level b))
    visits_level (ManyTree m ts) s = visits_levels ts s ++ visits_after (run.all_now ts s) (many_visits m)
    visits_level BadTree s = []

    pub visits_levels : Trees (At O) CodeUnary H (CodeMany O) → S → Visits S
    visits_levels NoTrees s = []
    visits_levels (MoreTrees t ts) s = visits_level t s ++ visits_after (run.now t s) (λ vs. visits_levels ts)

module _ {N O H I S : Type 0} (number : H → ℕ) (M : Meaning N O I S) (bodies : N → Code O H) where
  abbrev pub running : CodeRuns O H I S → Running O H I S
  running fewer = record { truth = M.truth; now = level M bodies fewer; all_now = levels M bodies fewer; again = fewer }

  -- the points that code comes to in n turns
  abbrev pub visits : ℕ → Code O H → S → Visits S
  visits zero = visits_level number (running (λ c. unfinished)) (λ c s. [])
  visits (suc n) = visits_level number (running (runs M bodies n)) (visits n)

module _ {N O H Q K J T : Type 0} (number : H → ℕ) (pass : Pass O H Q K) (L : Meaning N Q J T) (bodies : N → Code Q K) where
  abbrev pub made_running : CodeRuns Q K J T → Running O H J T
  made_running fewer =
      record { truth = L.truth; now = λ c. level L bodies fewer (applied pass c); all_now = λ cs. levels L bodies fewer (applied_all pass cs); again = λ c. fewer (applied pass c) }

  -- the states in which what the pass made comes to the same points
  abbrev pub made_visits : ℕ → Code O H → T → Visits T
  made_visits zero = visits_level number (made_running (λ c. unfinished)) (λ c t. [])
  made_visits (suc n) = visits_level number (made_running (runs L bodies n)) (made_visits n)

-- visit by visit: the same point, and states that correspond there
abbrev pub VisitsAlike : {S T : Type 0} → (ℕ → S → T → Type 0) → Visits S → Visits T → Type 0
VisitsAlike K [] [] = Unit {0}
VisitsAlike K [] (y ∷ ys) = ⊥
VisitsAlike K (x ∷ xs) [] = ⊥
VisitsAlike K (x ∷ xs) (y ∷ ys) = (x.point ≡ y.point) × K x.point x.state y.state × VisitsAlike K xs ys
