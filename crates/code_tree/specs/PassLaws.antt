-- When a pass keeps a relation. It holds in a context (what is around a call, say) at a point, of a state of the source and one of
-- the result; items correspond by their kinds, wherever they wait.
use Rattle.std.specs.Prelude.{◌≡◌, ℕ, Bool, List, [], ◌∷◌, Option, Some}
use Rattle.code_tree.specs.declared.code.Way.{Way}
use Rattle.code_tree.specs.Outcomes.{Outcome, Done, RunOf, gives, then_run}
use Rattle.code_tree.specs.Codes.{Code, CodeRuns, Meaning, runs}
use Rattle.code_tree.specs.Passes.{Pass, applied, Flow, Flows, Exits, no_exits, AllAlike, Alike}
use Rattle.code_tree.specs.Visits.{visits, made_visits, VisitsAlike}

-- operations one behind another, each on the items that the one before gives
abbrev pub chain_run : {N Q J T : Type 0} → Meaning N Q J T → (N → RunOf J T) → List Q → List J → RunOf J T
chain_run L calls [] ws t = Done ws t
chain_run L calls (o ∷ os) ws t = then_run (L.operate calls o ws) (chain_run L calls os) t

-- the points at which functions begin and finish, and the kinds of the items that they give
pub record Signatures (N P A : Type 0) : Type 0 where
  pub begins : N → P
  pub finishes : N → P
  pub results : N → List A

-- the code of each function run from states that correspond, in any context
abbrev pub CallsAlike : {N C P A I J S T : Type 0} → (C → A → I → J → Type 0) → (C → P → S → T → Type 0) → Signatures N P A → (N → RunOf I S) → (N → RunOf J T) → Type 0
CallsAlike {N} {C} {P} {A} {I} {J} {S} {T} V R G calls others =
    (d : C) (f : N) (s : S) (t : T) → R d (G.begins f) s t → Alike (V d) (R d) no_exits (G.finishes f) (G.results f) (calls f s) (others f t)

pub record Keeps {N C P A O H Q K I J S T : Type 0} (V : C → A → I → J → Type 0) (R : C → P → S → T → Type 0) (F : Flow O H P A) (G : Signatures N P A) (M : Meaning N O I S) (L : Meaning N Q J T) (pass : Pass O H Q K) : Type 0 where
  -- an operation and what the pass makes of it, on items that correspond; calls in them run code that keeps the relation
  pub op : (c : C) (n : ℕ) (o : O) (p q : P) (kinds given : List A) (vs : List I) (ws : List J) (s : S) (t : T) → F.op n p kinds o q given → AllAlike (V c) kinds vs ws → R c p s t
      → (calls : N → RunOf I S) (others : N → RunOf J T) → CallsAlike V R G calls others → Alike (V c) (R c) no_exits q given (M.operate calls o vs s) (chain_run L others (pass.op n o) ws t)
  -- what the pass puts where a point is passed, which hands the items on
  pub way : (c : C) (n : ℕ) (w : Way) (p q : P) (kinds : List A) (vs : List I) (ws : List J) (s : S) (t : T) → F.way n p w q → AllAlike (V c) kinds vs ws → R c p s t
      → (calls : N → RunOf I S) (others : N → RunOf J T) → CallsAlike V R G calls others → Alike (V c) (R c) no_exits q kinds (Done vs s) (chain_run L others (pass.way n w) ws t)
  -- items that choose have one truth
  pub test : (c : C) (k : A) (x : I) (y : J) → F.test k → V c k x y → (b : Bool) × (M.truth x ≡ Some b) × (L.truth y ≡ Some b)
  pub less : (c : C) (p q : P) (s : S) (t : T) → F.less p q → R c p s t → R c q s t
  pub less_itself : (p : P) → F.less p p

-- the code of each function leads from where it begins to where it finishes
abbrev pub BodiesFlow : {N P A O H : Type 0} → Flow O H P A → Signatures N P A → (N → Code O H) → Type 0
BodiesFlow {N} F G bodies = (f : N) → Flows F no_exits (G.begins f) (bodies f) (G.finishes f) (G.results f)

-- Runs of code and of what the pass makes of it end alike, for every number of turns.
abbrev pub RunsAlike : {N C P A O H Q K I J S T : Type 0} → (C → A → I → J → Type 0) → (C → P → S → T → Type 0) → Flow O H P A → Meaning N O I S → Meaning N Q J T → Pass O H Q K → (N → Code O H) → Type 0
RunsAlike {N} {C} {P} {A} {O} {H} {Q} {K} {I} {J} {S} {T} V R F M L pass bodies =
    (n : ℕ) (c : C) (a : Code O H) (exits : Exits P A) (p q : P) (kinds : List A) (s : S) (t : T) → Flows F exits p a q kinds → R c p s t
    → Alike (V c) (R c) exits q kinds (runs M bodies n a s) (runs L (λ f. applied pass (bodies f)) n (applied pass a) t)

-- So they are for the code that a pass is given and its result, in any functions that flow.
abbrev pub WholeAlike : {N C P A O H Q K I J S T : Type 0} → (C → A → I → J → Type 0) → (C → P → S → T → Type 0) → Flow O H P A → Signatures N P A → Meaning N O I S → Meaning N Q J T → Pass O H Q K → Code O H → Code Q K → Type 0
WholeAlike {N} {C} {P} {A} {O} {H} {Q} {K} {I} {J} {S} {T} V R F G M L pass source result =
    (bodies : N → Code O H) → BodiesFlow F G bodies → (n : ℕ) (c : C) (exits : Exits P A) (p q : P) (kinds : List A) (s : S) (t : T) → Flows F exits p source q kinds → R c p s t
    → Alike (V c) (R c) exits q kinds (runs M bodies n source s) (runs L (λ f. applied pass (bodies f)) n result t)

-- what the relation gives at the points with a number; `number` is that of a loop's head
pub record KeepsAtPoints {C P A O H S T : Type 0} (R : C → P → S → T → Type 0) (F : Flow O H P A) (number : H → ℕ) (K : ℕ → S → T → Type 0) : Type 0 where
  pub op : (c : C) (n : ℕ) (o : O) (p q : P) (kinds given : List A) (s : S) (t : T) → F.op n p kinds o q given → R c p s t → K n s t
  pub way : (c : C) (n : ℕ) (w : Way) (p q : P) (s : S) (t : T) → F.way n p w q → R c p s t → K n s t
  pub head : (c : C) (h : H) (p : P) (s : S) (t : T) → F.head p h → R c p s t → K (number h) s t

-- Both come to the same points, in states that correspond there.
abbrev pub VisitsKept : {N C P A O H Q Y I J S T : Type 0} → (C → A → I → J → Type 0) → (C → P → S → T → Type 0) → Flow O H P A → Meaning N O I S → Meaning N Q J T → Pass O H Q Y → (N → Code O H) → (H → ℕ) → (ℕ → S → T → Type 0) → Type 0
VisitsKept {N} {C} {P} {A} {O} {H} {Q} {Y} {I} {J} {S} {T} V R F M L pass bodies number K =
    (n : ℕ) (c : C) (a : Code O H) (exits : Exits P A) (p q : P) (kinds : List A) (s : S) (t : T) → Flows F exits p a q kinds → R c p s t
    → VisitsAlike K (visits number M bodies n a s) (made_visits number pass L (λ f. applied pass (bodies f)) n a t)
