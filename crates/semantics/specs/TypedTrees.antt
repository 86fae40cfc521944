-- Typed trees: what the nodes of a body are once their types are known. Source: The Move Book, "Expressions and Scope" and the sections
-- on each form.
use Rattle.std.specs.Prelude.{ℕ, ◌+◌, List, [], ◌∷◌, ◌++◌, map, Option}
use Rattle.base.specs.declared.types.FunctionId.{FunctionId}
use Rattle.program.specs.Trees.{Tree, LeafTree, ManyTree, Trees, NoTrees, MoreTrees}
use Rattle.code_tree.specs.declared.code.Jump.{Jump}
use Rattle.semantics.specs.Operations.{Binding, Operation}

-- How the operand of a borrow or of a field access is reached: it is an lvalue; it gives a reference; or its value is put into a local
-- of its own, a temporary.
pub data Operand : Type 0 where
  AsLvalue : Operand
  AsReference : Operand
  AsTemporary : ℕ → Operand

pub data LeafForm : Type 0 where
  Does : Operation → LeafForm
  Jumps : Jump → LeafForm
  -- the patterns that bind a local, and `_`
  Binder : ℕ → LeafForm
  Ignored : LeafForm

pub data UnaryForm : Type 0 where
  Works : Operation → UnaryForm
  Borrows : Operand → UnaryForm
  -- the field with this number
  TakesField : Operand → ℕ → UnaryForm
  ReturnsValue : UnaryForm
  -- a loop, with the number of its node
  Loops : ℕ → UnaryForm
  -- `let` without a value
  DeclaresOnly : UnaryForm

pub data BinaryForm : Type 0 where
  Joins : Operation → BinaryForm
  And : BinaryForm
  Or : BinaryForm
  -- the target, and the new value
  Assigns : BinaryForm
  IfOnly : BinaryForm
  While : ℕ → BinaryForm
  Asserts : BinaryForm
  -- the pattern, and the value
  Lets : BinaryForm

pub data ManyForm : Type 0 where
  Gives : Operation → ManyForm
  -- patterns: of a struct, with the numbers of the fields that are named; of a tuple
  Unpacks : List ℕ → ManyForm
  Several : ManyForm

abbrev pub TypedTree : Type 0
TypedTree = Tree LeafForm UnaryForm BinaryForm ManyForm

abbrev pub TypedTrees : Type 0
TypedTrees = Trees LeafForm UnaryForm BinaryForm ManyForm

-- ---- functions

-- how many cells a call has, for locals and temporaries; the parameters are its first locals
pub record TypedFunction : Type 0 where
  pub cells : ℕ
  pub body : TypedTree

abbrev pub TypedFunctions : Type 0
TypedFunctions = FunctionId → Option TypedFunction

-- ---- patterns

abbrev mutual
  -- the locals that a pattern binds, where it stands for this item, or for a field of a field .. of it
  pub bindings_of : TypedTree → ℕ → List ℕ → List Binding
  bindings_of (LeafTree (Binder l)) i ks = record { local = l; item = i; fields = ks } ∷ []
  bindings_of (ManyTree (Unpacks ns) ts) i ks = bindings_in ts ns i ks
  bindings_of (ManyTree Several ts) i ks = bindings_from ts 0
  bindings_of _ i ks = []

  -- of patterns for the fields with these numbers
  pub bindings_in : TypedTrees → List ℕ → ℕ → List ℕ → List Binding
  bindings_in (MoreTrees t ts) (n ∷ ns) i ks = bindings_of t i (ks ++ n ∷ []) ++ bindings_in ts ns i ks
  bindings_in _ ns i ks = []

  -- of patterns for items, from this one on
  pub bindings_from : TypedTrees → ℕ → List Binding
  bindings_from NoTrees i = []
  bindings_from (MoreTrees t ts) i = bindings_of t i [] ++ bindings_from ts (i + 1)

abbrev pub bindings : TypedTree → List Binding
bindings t = bindings_of t 0 []

abbrev pub locals_bound : TypedTree → List ℕ
locals_bound t = map (λ b. b.local) (bindings t)
