-- Two sets of ends that match, where a relation at points says which states correspond.
use Rattle.std.specs.Prelude.{◌≡◌, ℕ, List}
use Rattle.code_tree.specs.Ends.{End, Goes, Jumps, Aborts, Fails, EndsOf}
use Rattle.code_tree.specs.Passes.{Exits, AllAlike, AtExit}

-- from the ends of a code to those of what a pass made of it, or back
pub data Side : Type 0 where
  Forth : Side
  Back : Side

module _ {P A I J S T : Type 0} (V : A → I → J → Type 0) (R : P → S → T → Type 0) where
  -- the same kind of end, with items and states that correspond
  abbrev pub Match : Exits P A → P → List A → End I S → End J T → Type 0
  Match exits q kinds (Goes vs s) (Goes ws t) = AllAlike V kinds vs ws × R q s t
  Match exits q kinds (Goes vs s) (Jumps k ws t) = ⊥
  Match exits q kinds (Goes vs s) (Aborts d) = ⊥
  Match exits q kinds (Goes vs s) (Fails k) = ⊥
  Match exits q kinds (Jumps j vs s) (Goes ws t) = ⊥
  Match exits q kinds (Jumps j vs s) (Jumps k ws t) = (j ≡ k) × AtExit V R (exits j) vs s ws t
  Match exits q kinds (Jumps j vs s) (Aborts d) = ⊥
  Match exits q kinds (Jumps j vs s) (Fails k) = ⊥
  Match exits q kinds (Aborts c) (Goes ws t) = ⊥
  Match exits q kinds (Aborts c) (Jumps k ws t) = ⊥
  Match exits q kinds (Aborts c) (Aborts d) = c ≡ d
  Match exits q kinds (Aborts c) (Fails k) = ⊥
  Match exits q kinds (Fails i) (Goes ws t) = ⊥
  Match exits q kinds (Fails i) (Jumps k ws t) = ⊥
  Match exits q kinds (Fails i) (Aborts d) = ⊥
  Match exits q kinds (Fails i) (Fails k) = i ≡ k

  -- each end on the one side has one that matches on the other
  abbrev pub Meets : Side → Exits P A → P → List A → EndsOf I S → EndsOf J T → Type 0
  Meets Forth exits q kinds X Y = (e : End I S) → X e → (u : End J T) × Y u × Match exits q kinds e u
  Meets Back exits q kinds X Y = (u : End J T) → Y u → (e : End I S) × X e × Match exits q kinds e u
