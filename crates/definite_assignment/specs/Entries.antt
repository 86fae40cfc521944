-- The states of a local in which the parts of a node are entered, from those in which the node is. A set of states is
-- given by whether the local may have no value, and whether it may have one.
use Rattle.std.specs.Prelude.{ℕ, Bool, false, ◌&&◌, ◌||◌, eqb, List, [], ◌∷◌}
use Rattle.program.specs.declared.arena.Node.TheVariants.{Leaf, Unary, Binary, If as two_branches, Many}
use Rattle.program.specs.declared.code.CodeUnary.{CodeUnary}
use Rattle.program.specs.declared.code.CodeUnary.TheVariants.{Not, Dereference, Borrow, BorrowMutable, Field, Cast, Return, Abort, Loop, Discard, Declare}
use Rattle.program.specs.declared.code.CodeBinary.{CodeBinary}
use Rattle.program.specs.declared.code.CodeBinary.TheVariants.{Operator, Assign, If, While, Assert, Let}
use Rattle.program.specs.declared.code.CodeMany.{CodeMany}
use Rattle.program.specs.declared.code.CodeMany.TheVariants.{Call, Vector, Pack, Unpack, Tuple, TuplePattern, Block}
use Rattle.typing_rules.specs.Flows.{Flow, Onward, Broken, Jump, Either, quiet}
use Rattle.typing_rules.specs.Pieces.{CodeNode, Piece, piece_at}
use Rattle.definite_assignment.specs.LocalEffects.{at_some, effect_of, reached}

-- the part with this number is entered in these states
pub record Entry : Type 0 where
  pub part : ℕ
  pub states : Bool → Bool

-- the states after code that is entered in these
abbrev pub behind : ℕ → Flow → (Bool → Bool) → Bool → Bool
behind l f begun state = at_some begun (λ had. (effect_of l f).ends had Onward state)

-- the states at the starts of the iterations of a loop that is entered in these
abbrev pub at_turns : ℕ → Flow → Flow → (Bool → Bool) → Bool → Bool
at_turns l f g begun state = at_some begun (λ had. reached (effect_of l f) (effect_of l g) had state)

-- parts one after another
abbrev pub in_order : ℕ → List Piece → List ℕ → (Bool → Bool) → List Entry
in_order l pieces [] begun = []
in_order l pieces (p ∷ ps) begun = record { part = p; states = begun } ∷ in_order l pieces ps (behind l (piece_at pieces p).flow begun)

-- patterns are bound, not entered
abbrev pub unary_entries : ℕ → List Piece → CodeUnary → ℕ → (Bool → Bool) → List Entry
unary_entries l pieces (Declare annotation) a begun = []
unary_entries l pieces Loop a begun = in_order l pieces (a ∷ []) (at_turns l quiet (piece_at pieces a).flow begun)
unary_entries l pieces (Field name) a begun = in_order l pieces (a ∷ []) begun
unary_entries l pieces Borrow a begun = in_order l pieces (a ∷ []) begun
unary_entries l pieces BorrowMutable a begun = in_order l pieces (a ∷ []) begun
unary_entries l pieces Return a begun = in_order l pieces (a ∷ []) begun
unary_entries l pieces Abort a begun = in_order l pieces (a ∷ []) begun
unary_entries l pieces Not a begun = in_order l pieces (a ∷ []) begun
unary_entries l pieces Dereference a begun = in_order l pieces (a ∷ []) begun
unary_entries l pieces (Cast of) a begun = in_order l pieces (a ∷ []) begun
unary_entries l pieces Discard a begun = in_order l pieces (a ∷ []) begun

-- the value of an assignment or a `let` is evaluated before the left side or the pattern
abbrev pub binary_entries : ℕ → List Piece → CodeBinary → ℕ → ℕ → (Bool → Bool) → List Entry
binary_entries l pieces (Operator o) a b begun = in_order l pieces (a ∷ b ∷ []) begun
binary_entries l pieces Assign a b begun = in_order l pieces (b ∷ a ∷ []) begun
binary_entries l pieces If a b begun = in_order l pieces (a ∷ b ∷ []) begun
binary_entries l pieces While a b begun =
    in_order l pieces (a ∷ b ∷ []) (at_turns l (piece_at pieces a).flow (Either (Jump Broken) (piece_at pieces b).flow) begun)
binary_entries l pieces Assert a b begun = in_order l pieces (a ∷ b ∷ []) begun
binary_entries l pieces (Let annotation) a b begun = in_order l pieces (b ∷ []) begun

-- both branches are entered after the condition
abbrev pub branch_entries : ℕ → List Piece → ℕ → ℕ → ℕ → (Bool → Bool) → List Entry
branch_entries l pieces c a b begun =
    record { part = c; states = begun }
    ∷ record { part = a; states = behind l (piece_at pieces c).flow begun }
    ∷ record { part = b; states = behind l (piece_at pieces c).flow begun } ∷ []

abbrev pub many_entries : ℕ → List Piece → CodeMany → List ℕ → (Bool → Bool) → List Entry
many_entries l pieces (Unpack fields) parts begun = []
many_entries l pieces TuplePattern parts begun = []
many_entries l pieces (Block has_value) parts begun = in_order l pieces parts begun
many_entries l pieces (Call call) parts begun = in_order l pieces parts begun
many_entries l pieces (Vector types) parts begun = in_order l pieces parts begun
many_entries l pieces (Pack fields) parts begun = in_order l pieces parts begun
many_entries l pieces Tuple parts begun = in_order l pieces parts begun

abbrev pub entries : ℕ → List Piece → CodeNode → (Bool → Bool) → List Entry
entries l pieces (Leaf form) begun = []
entries l pieces (Unary form a) begun = unary_entries l pieces form a begun
entries l pieces (Binary form a b) begun = binary_entries l pieces form a b begun
entries l pieces (two_branches c a b) begun = branch_entries l pieces c a b begun
entries l pieces (Many form parts) begun = many_entries l pieces form parts begun

-- whether a part is entered in a state
abbrev pub given : List Entry → ℕ → Bool → Bool
given [] p state = false
given (e ∷ es) p state = (eqb e.part p && e.states state) || given es p state
