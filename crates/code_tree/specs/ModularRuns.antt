-- Modular runs of code, one relation for any language: an operation has a set of ends, to fail is an end, and a loop is cut at its
-- head. Source: the Move Prover paper (Dill et al., TACAS 2022), "Modular verification"; the Move Specification Language reference,
-- "Invariants", "Ensures", "AbortsIf".
use Rattle.std.specs.Prelude.{◌≡◌, ℕ, zero, suc, Bool, List, [], ◌∷◌, ◌++◌, Option}
use Rattle.program.specs.Trees.{Tree, LeafTree, UnaryTree, BinaryTree, IfTree, ManyTree, BadTree, Trees, NoTrees, MoreTrees}
use Rattle.code_tree.specs.declared.code.Jump.{Jump}
use Rattle.code_tree.specs.declared.code.At.{At}
use Rattle.code_tree.specs.declared.code.CodeUnary.{CodeUnary}
use Rattle.code_tree.specs.declared.code.CodeUnary.TheVariants.{Passes, Leaves, Catches}
use Rattle.code_tree.specs.declared.code.CodeMany.{CodeMany}
use Rattle.code_tree.specs.declared.code.CodeMany.TheVariants.{Joins, Does}
use Rattle.code_tree.specs.Codes.{Code}
use Rattle.code_tree.specs.Ends.{Failure, AtCheck, Broken, End, Goes, Jumps, Aborts, Fails, EndsOf, Ending, Just, ThenEnds, ChoiceEnds, JumpEnds, CaughtEnds, Judged, HeadEnds, TurnEnds}

-- What modular runs know of a language. `ends` says how an operation may end, where `calls` says how the code of each function may;
-- `judged` says of a loop's invariants which hold; `differs` says which state may stand at a loop's head where this one came to it.
pub record Modular (N O H I S : Type 0) : Type 1 where
  pub ends : (calls : N → Ending I S) → O → List I → Ending I S
  pub truth : I → Option Bool
  pub judged : H → S → List Judged
  pub differs : H → S → S → Type 0

abbrev pub CodeEnds : Type 0 → Type 0 → Type 0 → Type 0 → Type 1
CodeEnds O H I S = Code O H → Ending I S

module _ {N O H I S : Type 0} (M : Modular N O H I S) (bodies : N → Code O H) where
  abbrev pub OperationEnds : CodeEnds O H I S → At O → List I → Ending I S
  OperationEnds fewer at = M.ends (λ f. fewer (bodies f)) at.op

  abbrev pub UnaryEnds : CodeUnary → EndsOf I S → EndsOf I S
  UnaryEnds (Passes n way) part end = part end
  UnaryEnds (Leaves j) part end = ThenEnds part (JumpEnds j) end
  UnaryEnds (Catches j) part end = CaughtEnds j part end

  abbrev pub ManyEnds : CodeEnds O H I S → CodeMany O → List I → Ending I S
  ManyEnds fewer Joins vs s end = end ≡ Goes vs s
  ManyEnds fewer (Does at) vs s end = OperationEnds fewer at vs s end

  -- calls lead to code that is called one call less deep; no turns are counted
  abbrev mutual
    pub MayLevel : CodeEnds O H I S → Tree (At O) CodeUnary H (CodeMany O) → S → End I S → Type 0
    MayLevel fewer (LeafTree at) s end = OperationEnds fewer at [] s end
    MayLevel fewer (UnaryTree u a) s end = UnaryEnds u (MayLevel fewer a s) end
    MayLevel fewer (BinaryTree h c a) s end =
        ThenEnds (HeadEnds (M.judged h) (M.differs h) s) (λ none u. ThenEnds (MayLevel fewer c u) (ChoiceEnds M.truth (λ v. TurnEnds (M.judged h) (MayLevel fewer a v)) (λ v. Just (Goes [] v)))) end
    MayLevel fewer (IfTree c a b) s end = ThenEnds (MayLevel fewer c s) (ChoiceEnds M.truth (MayLevel fewer a) (MayLevel fewer b)) end
    MayLevel fewer (ManyTree m ts) s end = ThenEnds (MayLevels fewer ts s) (ManyEnds fewer m) end
    MayLevel fewer BadTree s end = end ≡ Fails Broken

    pub MayLevels : CodeEnds O H I S → Trees (At O) CodeUnary H (CodeMany O) → S → End I S → Type 0
    MayLevels fewer NoTrees s end = end ≡ Goes [] s
    MayLevels fewer (MoreTrees t ts) s end = ThenEnds (MayLevel fewer t s) (λ vs u. ThenEnds (MayLevels fewer ts u) (λ ws v. Just (Goes (vs ++ ws) v))) end

  -- the ends of modular runs whose calls by body are at most n deep
  abbrev pub MayRun : ℕ → CodeEnds O H I S
  MayRun zero = MayLevel (λ c s end. ⊥)
  MayRun (suc n) = MayLevel (MayRun n)

  -- some modular run comes to a check with this number that does not hold
  abbrev pub MayFail : ℕ → ℕ → Code O H → S → Type 0
  MayFail n k c s = MayRun n c s (Fails (AtCheck k))
