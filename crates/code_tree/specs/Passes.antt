-- Passes from code to code, and how code goes from point to point. A point is what a pass knows where code stands, as which references
-- are held there. Passes that know nothing take the unit type for points and contexts.
use Rattle.std.specs.Prelude.{◌≡◌, ℕ, Bool, true, false, if◌then◌else◌, List, [], ◌∷◌, ◌++◌, Option, Some, None}
use Rattle.program.specs.Trees.{Tree, LeafTree, UnaryTree, BinaryTree, IfTree, ManyTree, BadTree, Trees, NoTrees, MoreTrees}
use Rattle.code_tree.specs.declared.code.Jump.{Jump}
use Rattle.code_tree.specs.declared.code.Jump.TheVariants.{Break, Continue, Return}
use Rattle.code_tree.specs.declared.code.Way.{Way}
use Rattle.code_tree.specs.declared.code.At.{At}
use Rattle.code_tree.specs.declared.code.CodeUnary.{CodeUnary}
use Rattle.code_tree.specs.declared.code.CodeUnary.TheVariants.{Passes, Leaves, Catches}
use Rattle.code_tree.specs.declared.code.CodeMany.{CodeMany}
use Rattle.code_tree.specs.declared.code.CodeMany.TheVariants.{Joins, Does}
use Rattle.code_tree.specs.Outcomes.{Outcome, Done, Left, Aborted, Unfinished, Stuck, same_jump}
use Rattle.code_tree.specs.Codes.{Code, Codes}

-- ---- passes

-- What a pass makes of an operation: some operations, each on the items that the one before gives; which operations it puts where a
-- point is passed; and what it makes of the head of a loop.
pub record Pass (O H Q K : Type 0) : Type 0 where
  pub op : (point : ℕ) → O → List Q
  pub way : (point : ℕ) → Way → List Q
  pub head : H → K

module _ {Q K : Type 0} where
  -- operations behind code, one on the items of another
  abbrev pub behind : ℕ → List Q → Code Q K → Code Q K
  behind n [] c = c
  behind n (o ∷ os) c = behind n os (ManyTree (Does (record { point = n; op = o })) (MoreTrees c NoTrees))

  abbrev pub behind_all : ℕ → List Q → Codes Q K → Code Q K
  behind_all n [] cs = ManyTree Joins cs
  behind_all n (o ∷ os) cs = behind n os (ManyTree (Does (record { point = n; op = o })) cs)

  abbrev pub behind_none : ℕ → List Q → Code Q K
  behind_none n [] = ManyTree Joins NoTrees
  behind_none n (o ∷ os) = behind n os (LeafTree (record { point = n; op = o }))

module _ {O H Q K : Type 0} (pass : Pass O H Q K) where
  abbrev pub applied_unary : CodeUnary → Code Q K → Code Q K
  applied_unary (Passes n way) a = UnaryTree (Passes n way) (behind n (pass.way n way) a)
  applied_unary (Leaves j) a = UnaryTree (Leaves j) a
  applied_unary (Catches j) a = UnaryTree (Catches j) a

  abbrev pub applied_many : CodeMany O → Codes Q K → Code Q K
  applied_many Joins cs = ManyTree Joins cs
  applied_many (Does at) cs = behind_all at.point (pass.op at.point at.op) cs

  -- the result of a pass
  abbrev mutual
    pub applied : Tree (At O) CodeUnary H (CodeMany O) → Code Q K
    applied (LeafTree at) = behind_none at.point (pass.op at.point at.op)
    applied (UnaryTree u a) = applied_unary u (applied a)
    applied (BinaryTree h c a) = BinaryTree (pass.head h) (applied c) (applied a)
    applied (IfTree c a b) = IfTree (applied c) (applied a) (applied b)
    applied (ManyTree m ts) = applied_many m (applied_all ts)
    applied BadTree = BadTree

    pub applied_all : Trees (At O) CodeUnary H (CodeMany O) → Codes Q K
    applied_all NoTrees = NoTrees
    applied_all (MoreTrees t ts) = MoreTrees (applied t) (applied_all ts)

-- ---- from point to point

-- What is demanded where an operation leads from items of some kinds at one point to items at the next, where a point is passed, at the
-- head of a loop, and of the kind of an item that chooses between two ways. `less` leads from a point to one of less knowledge, as
-- where ways join.
pub record Flow (O H P A : Type 0) : Type 1 where
  pub op : (point : ℕ) → P → List A → O → P → List A → Type 0
  pub way : (point : ℕ) → P → Way → P → Type 0
  pub head : P → H → Type 0
  pub test : A → Type 0
  pub less : P → P → Type 0

-- where code goes on when it is left, and with items of which kinds
pub record Exit (P A : Type 0) : Type 0 where
  pub point : P
  pub kinds : List A

abbrev pub Exits : Type 0 → Type 0 → Type 0
Exits P A = Jump → Option (Exit P A)

abbrev pub no_exits : {P A : Type 0} → Exits P A
no_exits j = None

abbrev pub with_exit : {P A : Type 0} → Jump → P → List A → Exits P A → Exits P A
with_exit j q kinds exits k = if same_jump j k then Some (record { point = q; kinds = kinds }) else exits k

-- in the body of a loop with this head, behind which code goes on at q
abbrev pub turn_exits : {P A : Type 0} → (head q : P) → Exits P A → Exits P A
turn_exits head q exits = with_exit Break q [] (with_exit Continue head [] exits)

module _ {O H P A : Type 0} (F : Flow O H P A) where
  abbrev pub LeavesTo : P → List A → Option (Exit P A) → Type 0
  LeavesTo p kinds None = ⊥
  LeavesTo p kinds (Some exit) = F.less p exit.point × (kinds ≡ exit.kinds)

  abbrev pub FlowsMany : P → List A → CodeMany O → P → List A → Type 0
  FlowsMany p kinds Joins q given = F.less p q × (given ≡ kinds)
  FlowsMany p kinds (Does at) q given = F.op at.point p kinds at.op q given

  -- code leads from p to q, where it gives items of these kinds, or is left to one of the exits
  abbrev mutual
    pub Flows : Exits P A → P → Tree (At O) CodeUnary H (CodeMany O) → P → List A → Type 0
    Flows exits p (LeafTree at) q given = F.op at.point p [] at.op q given
    Flows exits p (UnaryTree (Passes n way) a) q given = (m : P) × Flows exits p a m given × F.way n m way q
    Flows exits p (UnaryTree (Leaves j) a) q given = (m : P) × (kinds : List A) × Flows exits p a m kinds × LeavesTo m kinds (exits j)
    Flows exits p (UnaryTree (Catches j) a) q given = Flows (with_exit j q given exits) p a q given
    Flows exits p (BinaryTree h c a) q given =
        (m : P) × (l : P) × (k : A) × (kinds : List A) × F.less p m × F.head m h × Flows exits m c l (k ∷ []) × F.test k
        × Flows (turn_exits m q exits) l a m kinds × F.less l q × (given ≡ [])
    Flows exits p (IfTree c a b) q given =
        (m : P) × (k : A) × Flows exits p c m (k ∷ []) × F.test k × Flows exits m a q given × Flows exits m b q given
    Flows exits p (ManyTree o ts) q given = (m : P) × (kinds : List A) × FlowsAll exits p ts m kinds × FlowsMany m kinds o q given
    Flows exits p BadTree q given = ⊥

    pub FlowsAll : Exits P A → P → Trees (At O) CodeUnary H (CodeMany O) → P → List A → Type 0
    FlowsAll exits p NoTrees q given = F.less p q × (given ≡ [])
    FlowsAll exits p (MoreTrees t ts) q given =
        (m : P) × (first : List A) × (others : List A) × Flows exits p t m first × FlowsAll exits m ts q others × (given ≡ first ++ others)

-- ---- outcomes that correspond

-- item by item, each of its kind
abbrev pub AllAlike : {A I J : Type 0} → (A → I → J → Type 0) → List A → List I → List J → Type 0
AllAlike V [] [] [] = Unit {0}
AllAlike V [] [] (y ∷ ws) = ⊥
AllAlike V [] (x ∷ vs) ws = ⊥
AllAlike V (k ∷ ks) [] ws = ⊥
AllAlike V (k ∷ ks) (x ∷ vs) [] = ⊥
AllAlike V (k ∷ ks) (x ∷ vs) (y ∷ ws) = V k x y × AllAlike V ks vs ws

module _ {P A I J S T : Type 0} (V : A → I → J → Type 0) (R : P → S → T → Type 0) where
  abbrev pub AtExit : Option (Exit P A) → List I → S → List J → T → Type 0
  AtExit None vs s ws t = ⊥
  AtExit (Some exit) vs s ws t = AllAlike V exit.kinds vs ws × R exit.point s t

  -- Both end in the same way, with items and states that correspond. Nothing is like a run that is stuck, so where the demands of a
  -- flow are met none is.
  abbrev pub Alike : Exits P A → P → List A → Outcome I S → Outcome J T → Type 0
  Alike exits q kinds (Done vs s) (Done ws t) = AllAlike V kinds vs ws × R q s t
  Alike exits q kinds (Done vs s) (Left k ws t) = ⊥
  Alike exits q kinds (Done vs s) (Aborted d) = ⊥
  Alike exits q kinds (Done vs s) Unfinished = ⊥
  Alike exits q kinds (Done vs s) Stuck = ⊥
  Alike exits q kinds (Left j vs s) (Done ws t) = ⊥
  Alike exits q kinds (Left j vs s) (Left k ws t) = (j ≡ k) × AtExit (exits j) vs s ws t
  Alike exits q kinds (Left j vs s) (Aborted d) = ⊥
  Alike exits q kinds (Left j vs s) Unfinished = ⊥
  Alike exits q kinds (Left j vs s) Stuck = ⊥
  Alike exits q kinds (Aborted c) (Done ws t) = ⊥
  Alike exits q kinds (Aborted c) (Left k ws t) = ⊥
  Alike exits q kinds (Aborted c) (Aborted d) = c ≡ d
  Alike exits q kinds (Aborted c) Unfinished = ⊥
  Alike exits q kinds (Aborted c) Stuck = ⊥
  Alike exits q kinds Unfinished (Done ws t) = ⊥
  Alike exits q kinds Unfinished (Left k ws t) = ⊥
  Alike exits q kinds Unfinished (Aborted d) = ⊥
  Alike exits q kinds Unfinished Unfinished = Unit {0}
  Alike exits q kinds Unfinished Stuck = ⊥
  Alike exits q kinds Stuck u = ⊥
