-- When a pass keeps a relation in modular runs, on either side: each end of the one code has one that matches of the other.
use Rattle.std.specs.Prelude.{◌≡◌, ℕ, Bool, List, [], ◌∷◌, Option, Some}
use Rattle.code_tree.specs.declared.code.Way.{Way}
use Rattle.code_tree.specs.Codes.{Code}
use Rattle.code_tree.specs.Passes.{Pass, applied, Flow, Flows, Exits, no_exits, AllAlike}
use Rattle.code_tree.specs.PassLaws.{Signatures}
use Rattle.code_tree.specs.Ends.{End, Goes, EndsOf, Ending, Just, ThenEnds}
use Rattle.code_tree.specs.ModularRuns.{Modular, MayRun}
use Rattle.code_tree.specs.Matching.{Side, Forth, Back, Meets}

-- operations one behind another, each on the items that the one before gives
abbrev pub ChainEnds : {N Q K J T : Type 0} → Modular N Q K J T → (N → Ending J T) → List Q → List J → Ending J T
ChainEnds L calls [] ws t end = end ≡ Goes ws t
ChainEnds L calls (o ∷ os) ws t end = ThenEnds (L.ends calls o ws t) (ChainEnds L calls os) end

-- the code of each function from states that correspond, in any context
abbrev pub CallsMeet : {N C P A I J S T : Type 0} → Side → (C → A → I → J → Type 0) → (C → P → S → T → Type 0) → Signatures N P A → (N → Ending I S) → (N → Ending J T) → Type 0
CallsMeet {N} {C} {P} {A} {I} {J} {S} {T} side V R G calls others =
    (d : C) (f : N) (s : S) (t : T) → R d (G.begins f) s t → Meets (V d) (R d) side no_exits (G.finishes f) (G.results f) (calls f s) (others f t)

-- each state of the one set has one that corresponds in the other
abbrev pub StatesMeet : {S T : Type 0} → Side → (S → T → Type 0) → (S → Type 0) → (T → Type 0) → Type 0
StatesMeet {S} {T} Forth R X Y = (s : S) → X s → (t : T) × Y t × R s t
StatesMeet {S} {T} Back R X Y = (t : T) → Y t → (s : S) × X s × R s t

pub record KeepsModular {N C P A O H Q K I J S T : Type 0} (side : Side) (V : C → A → I → J → Type 0) (R : C → P → S → T → Type 0) (F : Flow O H P A) (G : Signatures N P A) (M : Modular N O H I S) (L : Modular N Q K J T) (pass : Pass O H Q K) : Type 1 where
  pub op : (c : C) (n : ℕ) (o : O) (p q : P) (kinds given : List A) (vs : List I) (ws : List J) (s : S) (t : T) → F.op n p kinds o q given → AllAlike (V c) kinds vs ws → R c p s t
      → (calls : N → Ending I S) (others : N → Ending J T) → CallsMeet side V R G calls others → Meets (V c) (R c) side no_exits q given (M.ends calls o vs s) (ChainEnds L others (pass.op n o) ws t)
  pub way : (c : C) (n : ℕ) (w : Way) (p q : P) (kinds : List A) (vs : List I) (ws : List J) (s : S) (t : T) → F.way n p w q → AllAlike (V c) kinds vs ws → R c p s t
      → (calls : N → Ending I S) (others : N → Ending J T) → CallsMeet side V R G calls others → Meets (V c) (R c) side no_exits q kinds (Just (Goes vs s)) (ChainEnds L others (pass.way n w) ws t)
  pub test : (c : C) (k : A) (x : I) (y : J) → F.test k → V c k x y → (b : Bool) × (M.truth x ≡ Some b) × (L.truth y ≡ Some b)
  -- at the head of a loop the same invariants hold, and states that may stand there correspond
  pub judged : (c : C) (h : H) (m : P) (s : S) (t : T) → F.head m h → R c m s t → M.judged h s ≡ L.judged (pass.head h) t
  pub differs : (c : C) (h : H) (m : P) (s : S) (t : T) → F.head m h → R c m s t → StatesMeet side (R c m) (M.differs h s) (L.differs (pass.head h) t)
  pub less : (c : C) (p q : P) (s : S) (t : T) → F.less p q → R c p s t → R c q s t

-- Ends of modular runs of code and of what the pass makes of it match, on that side, for calls of every depth.
abbrev pub ModularRunsMeet : {N C P A O H Q K I J S T : Type 0} → Side → (C → A → I → J → Type 0) → (C → P → S → T → Type 0) → Flow O H P A → Modular N O H I S → Modular N Q K J T → Pass O H Q K → (N → Code O H) → Type 0
ModularRunsMeet {N} {C} {P} {A} {O} {H} {Q} {K} {I} {J} {S} {T} side V R F M L pass bodies =
    (n : ℕ) (c : C) (a : Code O H) (exits : Exits P A) (p q : P) (kinds : List A) (s : S) (t : T) → Flows F exits p a q kinds → R c p s t
    → Meets (V c) (R c) side exits q kinds (MayRun M bodies n a s) (MayRun L (λ f. applied pass (bodies f)) n (applied pass a) t)
