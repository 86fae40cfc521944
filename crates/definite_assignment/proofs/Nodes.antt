-- The nodes that paths reach from a node: those that they reach from its parts, each in the states in which it is
-- entered.
use Rattle.std.proofs.Common.{◌≡◌, ℕ, Bool, true, List, [], ◌∷◌, ◌++◌, map, ◌⊎◌, inl, inr, Option, Some, None, refl, sym, subst}
use Rattle.program.specs.declared.arena.Node.TheVariants.{Leaf, Unary, Binary, If as two_branches, Many}
use Rattle.program.specs.declared.code.CodeLeaf.{CodeLeaf}
use Rattle.program.specs.declared.code.CodeLeaf.TheVariants.{Number, Truth, Address, Local, Constant, Return as return_leaf, Break, Continue, Bind, Ignore}
use Rattle.program.specs.declared.code.CodeUnary.{CodeUnary}
use Rattle.program.specs.declared.code.CodeUnary.TheVariants.{Not, Dereference, Borrow, BorrowMutable, Field, Cast, Return, Abort, Loop, Discard, Declare}
use Rattle.program.specs.declared.code.CodeBinary.{CodeBinary}
use Rattle.program.specs.declared.code.CodeBinary.TheVariants.{Operator, Assign, If, While, Assert, Let}
use Rattle.program.specs.declared.code.CodeMany.{CodeMany}
use Rattle.program.specs.declared.code.CodeMany.TheVariants.{Call, Vector, Pack, Unpack, Tuple, TuplePattern, Block}
use Rattle.program.specs.declared.operator.BinaryOperator.{BinaryOperator}
use Rattle.program.specs.declared.operator.BinaryOperator.TheVariants.{Arithmetic, Bitwise, Shift, Comparison, Equal, NotEqual, And, Or}
use Rattle.program.specs.declared.declaration.AbilitySet.{AbilitySet}
use Rattle.typing_rules.specs.Events.{Event, Used, Overwritten, Assigned, Declared}
use Rattle.typing_rules.specs.Flows.{Flow, Happens, Jump, Aborts, Then, Either, At, Broken, Returned, quiet}
use Rattle.typing_rules.specs.Pieces.{CodeNode, Piece, piece_at, all_binds, in_order as flows_in_order, seen_flow, written_flow, leaf_flow, unary_flow, operator_flow, binary_flow, many_flow, node_flow, copies, event_of_use}
use Rattle.definite_assignment.specs.Entries.{Entry, behind, at_turns, in_order, unary_entries, binary_entries, branch_entries, many_entries, entries}
use Rattle.definite_assignment.proofs.Begun.{From, AreBehind, behind_is, quiet_behind, then_behind, then_to, then_first, then_second, from_happens, from_jump, from_aborts, either_to, either_first, either_second, scope_to, scope_from, at_to, at_here, turns_to, turns_first, turns_second}

-- from one of these parts, each in its states
abbrev pub AnyFrom : ℕ → List Piece → ℕ → Bool → List Entry → Type 0
AnyFrom l pieces n state [] = ⊥
AnyFrom l pieces n state (e ∷ es) = From l e.states (piece_at pieces e.part).flow n state ⊎ AnyFrom l pieces n state es

-- an lvalue that is a whole local reaches only itself
pub record AreLocals (pieces : List Piece) : Type 0 where
  pub each : (k m : ℕ) → (piece_at pieces k).local ≡ Some m → (es : List Event) × ((piece_at pieces k).flow ≡ At k (Happens es))

from_more : (l : ℕ) (a b : Bool → Bool) (f : Flow) (n : ℕ) (state : Bool) → ((s : Bool) → a s ≡ true → b s ≡ true) → From l a f n state → From l b f n state
from_more l a b f n state h w = record { had = w.had; is_begun = h w.had w.is_begun; reaches = w.reaches }

-- ---- parts in order

module _ (l : ℕ) (pieces : List Piece) (n : ℕ) (state : Bool) where
  order_to : (begun middle : Bool → Bool) (f : Flow) (parts : List ℕ) → AreBehind l begun f middle → From l begun (flows_in_order f (map (piece_at pieces) parts)) n state
      → From l begun f n state ⊎ AnyFrom l pieces n state (in_order l pieces parts middle)
  order_to begun middle f [] p w = inl w
  order_to begun middle f (q ∷ qs) p w =
      let g = (piece_at pieces q).flow in
      elim (order_to begun (behind l g middle) (Then f g) qs (then_behind l begun middle (behind l g middle) f g p (behind_is l middle g)) w) [
        | inl v ↦ elim (then_to l begun middle f g p n state v) [
          | inl one ↦ inl one
          | inr one ↦ inr (inl one)
        ]
        | inr v ↦ inr (inr v)
      ]

  order_first : (begun : Bool → Bool) (f : Flow) (parts : List ℕ) → From l begun f n state → From l begun (flows_in_order f (map (piece_at pieces) parts)) n state
  order_first begun f [] w = w
  order_first begun f (q ∷ qs) w = order_first begun (Then f (piece_at pieces q).flow) qs (then_first l begun f (piece_at pieces q).flow n state w)

  order_any : (begun middle : Bool → Bool) (f : Flow) (parts : List ℕ) → AreBehind l begun f middle → AnyFrom l pieces n state (in_order l pieces parts middle)
      → From l begun (flows_in_order f (map (piece_at pieces) parts)) n state
  order_any begun middle f [] p w = absurd w
  order_any begun middle f (q ∷ qs) p w =
      let g = (piece_at pieces q).flow in
      elim w [
        | inl one ↦ order_first begun (Then f g) qs (then_second l begun middle f g p n state one)
        | inr more ↦ order_any begun (behind l g middle) (Then f g) qs (then_behind l begun middle (behind l g middle) f g p (behind_is l middle g)) more
      ]

  parts_to : (begun : Bool → Bool) (parts : List ℕ) → From l begun (flows_in_order quiet (map (piece_at pieces) parts)) n state → AnyFrom l pieces n state (in_order l pieces parts begun)
  parts_to begun parts w =
      elim (order_to begun begun quiet parts (quiet_behind l begun) w) [
        | inl v ↦ absurd (from_happens l begun [] n state v)
        | inr v ↦ v
      ]

  parts_any : (begun : Bool → Bool) (parts : List ℕ) → AnyFrom l pieces n state (in_order l pieces parts begun) → From l begun (flows_in_order quiet (map (piece_at pieces) parts)) n state
  parts_any begun parts w = order_any begun begun quiet parts (quiet_behind l begun) w

  -- ---- two pieces of code

  then_is : (begun : Bool → Bool) (f g : Flow) → From l begun (Then f g) n state → From l begun f n state ⊎ From l (behind l f begun) g n state
  then_is begun f g w = then_to l begun (behind l f begun) f g (behind_is l begun f) n state w

  then_next : (begun : Bool → Bool) (f g : Flow) → From l (behind l f begun) g n state → From l begun (Then f g) n state
  then_next begun f g w = then_second l begun (behind l f begun) f g (behind_is l begun f) n state w

  -- ---- lvalues

  here_alone : (begun : Bool → Bool) (k : ℕ) (es xs : List Event) → From l begun (At k (Happens es)) n state → From l begun (At k (Happens xs)) n state
  here_alone begun k es xs w =
      elim (at_to l begun k (Happens es) n state w) [
        | inl here ↦ at_here l begun k (Happens xs) n state here
        | inr one ↦ absurd (from_happens l begun es n state one)
      ]

  module _ (all : AreLocals pieces) (begun : Bool → Bool) (a : ℕ) where
    seen_to : (local : Option ℕ) → (piece_at pieces a).local ≡ local → From l begun (seen_flow a (piece_at pieces a).flow local) n state → From l begun (piece_at pieces a).flow n state
    seen_to None e w = w
    seen_to (Some m) e w = let one = all.each a m e in subst (λ f. From l begun f n state) (sym one.1) (here_alone begun a (Used m ∷ []) one.0 w)

    seen_from : (local : Option ℕ) → (piece_at pieces a).local ≡ local → From l begun (piece_at pieces a).flow n state → From l begun (seen_flow a (piece_at pieces a).flow local) n state
    seen_from None e w = w
    seen_from (Some m) e w = let one = all.each a m e in here_alone begun a one.0 (Used m ∷ []) (subst (λ f. From l begun f n state) one.1 w)

    written_to : (local : Option ℕ) → (piece_at pieces a).local ≡ local → From l begun (written_flow a (piece_at pieces a).flow local) n state → From l begun (piece_at pieces a).flow n state
    written_to None e w = w
    written_to (Some m) e w = let one = all.each a m e in subst (λ f. From l begun f n state) (sym one.1) (here_alone begun a (Overwritten m ∷ Assigned m ∷ []) one.0 w)

    written_from : (local : Option ℕ) → (piece_at pieces a).local ≡ local → From l begun (piece_at pieces a).flow n state → From l begun (written_flow a (piece_at pieces a).flow local) n state
    written_from None e w = w
    written_from (Some m) e w = let one = all.each a m e in here_alone begun a one.0 (Overwritten m ∷ Assigned m ∷ []) (subst (λ f. From l begun f n state) one.1 w)

  -- ---- forms

  leaf_to : (types : List AbilitySet) (begun : Bool → Bool) (form : CodeLeaf) → From l begun (leaf_flow types form) n state → ⊥
  leaf_to types begun (Local kind m) w = from_happens l begun (event_of_use (copies types m) kind m ∷ []) n state w
  leaf_to types begun return_leaf w = from_jump l begun Returned n state w
  leaf_to types begun Break w = from_jump l begun _ n state w
  leaf_to types begun Continue w = from_jump l begun _ n state w
  leaf_to types begun (Number x) w = from_happens l begun [] n state w
  leaf_to types begun (Truth b) w = from_happens l begun [] n state w
  leaf_to types begun (Address a) w = from_happens l begun [] n state w
  leaf_to types begun (Constant c) w = from_happens l begun [] n state w
  leaf_to types begun (Bind m) w = from_happens l begun [] n state w
  leaf_to types begun Ignore w = from_happens l begun [] n state w

  quiet_more : (begun : Bool → Bool) (f : Flow) → From l (behind l quiet begun) f n state → From l begun f n state
  quiet_more begun f w = from_more l (behind l quiet begun) begun f n state (λ s h. (quiet_behind l begun).from s ((behind_is l begun quiet).to s h)) w

  more_quiet : (begun : Bool → Bool) (f : Flow) → From l begun f n state → From l (behind l quiet begun) f n state
  more_quiet begun f w = from_more l begun (behind l quiet begun) f n state (λ s h. (behind_is l begun quiet).from s ((quiet_behind l begun).to s h)) w

  module _ (all : AreLocals pieces) (begun : Bool → Bool) where
    abbrev f_of : ℕ → Flow
    f_of a = (piece_at pieces a).flow

    unary_to : (form : CodeUnary) (a : ℕ) → From l begun (unary_flow form a (piece_at pieces a)) n state → AnyFrom l pieces n state (unary_entries l pieces form a begun)
    unary_to (Declare annotation) a w = from_happens l begun (map Declared (piece_at pieces a).binds) n state w
    unary_to Loop a w =
        elim (turns_to l quiet (f_of a) begun n state w) [
          | inl v ↦ absurd (from_happens l (at_turns l quiet (f_of a) begun) [] n state v)
          | inr v ↦ inl (quiet_more (at_turns l quiet (f_of a) begun) (f_of a) v)
        ]
    unary_to (Field name) a w = inl (seen_to all begun a (piece_at pieces a).local refl w)
    unary_to Borrow a w = inl (seen_to all begun a (piece_at pieces a).local refl w)
    unary_to BorrowMutable a w = inl (seen_to all begun a (piece_at pieces a).local refl w)
    unary_to Return a w = elim (then_is begun (f_of a) (Jump Returned) w) [ inl v ↦ inl v | inr v ↦ absurd (from_jump l (behind l (f_of a) begun) Returned n state v) ]
    unary_to Abort a w = elim (then_is begun (f_of a) Aborts w) [ inl v ↦ inl v | inr v ↦ absurd (from_aborts l (behind l (f_of a) begun) n state v) ]
    unary_to Not a w = inl w
    unary_to Dereference a w = inl w
    unary_to (Cast of) a w = inl w
    unary_to Discard a w = inl w

    unary_any : (form : CodeUnary) (a : ℕ) → AnyFrom l pieces n state (unary_entries l pieces form a begun) → From l begun (unary_flow form a (piece_at pieces a)) n state
    unary_any (Declare annotation) a w = absurd w
    unary_any Loop a w = elim w [ inl v ↦ turns_second l quiet (f_of a) begun n state (more_quiet (at_turns l quiet (f_of a) begun) (f_of a) v) | inr v ↦ absurd v ]
    unary_any (Field name) a w = elim w [ inl v ↦ seen_from all begun a (piece_at pieces a).local refl v | inr v ↦ absurd v ]
    unary_any Borrow a w = elim w [ inl v ↦ seen_from all begun a (piece_at pieces a).local refl v | inr v ↦ absurd v ]
    unary_any BorrowMutable a w = elim w [ inl v ↦ seen_from all begun a (piece_at pieces a).local refl v | inr v ↦ absurd v ]
    unary_any Return a w = elim w [ inl v ↦ then_first l begun (f_of a) (Jump Returned) n state v | inr v ↦ absurd v ]
    unary_any Abort a w = elim w [ inl v ↦ then_first l begun (f_of a) Aborts n state v | inr v ↦ absurd v ]
    unary_any Not a w = elim w [ inl v ↦ v | inr v ↦ absurd v ]
    unary_any Dereference a w = elim w [ inl v ↦ v | inr v ↦ absurd v ]
    unary_any (Cast of) a w = elim w [ inl v ↦ v | inr v ↦ absurd v ]
    unary_any Discard a w = elim w [ inl v ↦ v | inr v ↦ absurd v ]

    -- two parts, the second of which is entered after the first
    two_to : (a b : ℕ) (g : Flow) → ((c : Bool → Bool) → From l c g n state → From l c (f_of b) n state) → From l begun (Then (f_of a) g) n state → AnyFrom l pieces n state (in_order l pieces (a ∷ b ∷ []) begun)
    two_to a b g h w = elim (then_is begun (f_of a) g w) [ inl v ↦ inl v | inr v ↦ inr (inl (h (behind l (f_of a) begun) v)) ]

    two_any : (a b : ℕ) (g : Flow) → ((c : Bool → Bool) → From l c (f_of b) n state → From l c g n state) → AnyFrom l pieces n state (in_order l pieces (a ∷ b ∷ []) begun) → From l begun (Then (f_of a) g) n state
    two_any a b g h w =
        elim w [
          | inl v ↦ then_first l begun (f_of a) g n state v
          | inr more ↦ elim more [
            | inl v ↦ then_next begun (f_of a) g (h (behind l (f_of a) begun) v)
            | inr v ↦ absurd v
          ]
        ]

    maybe_to : (c : Bool → Bool) (f : Flow) → From l c (Either quiet f) n state → From l c f n state
    maybe_to c f w = elim (either_to l c quiet f n state w) [ inl v ↦ absurd (from_happens l c [] n state v) | inr v ↦ v ]

    maybe_from : (c : Bool → Bool) (f : Flow) → From l c f n state → From l c (Either quiet f) n state
    maybe_from c f w = either_second l c quiet f n state w

    if_to : (c : Bool → Bool) (f : Flow) → From l c (Either f quiet) n state → From l c f n state
    if_to c f w = elim (either_to l c f quiet n state w) [ inl v ↦ v | inr v ↦ absurd (from_happens l c [] n state v) ]

    -- an assertion that fails
    fails_to : (c : Bool → Bool) (f : Flow) → From l c (Either quiet (Then f Aborts)) n state → From l c f n state
    fails_to c f w = elim (then_is c f Aborts (maybe_to c (Then f Aborts) w)) [ inl v ↦ v | inr v ↦ absurd (from_aborts l (behind l f c) n state v) ]

    fails_from : (c : Bool → Bool) (f : Flow) → From l c f n state → From l c (Either quiet (Then f Aborts)) n state
    fails_from c f w = maybe_from c (Then f Aborts) (then_first l c f Aborts n state w)

    operator_to : (o : BinaryOperator) (a b : ℕ) → From l begun (operator_flow o (f_of a) (f_of b)) n state → AnyFrom l pieces n state (in_order l pieces (a ∷ b ∷ []) begun)
    operator_to And a b w = two_to a b (Either quiet (f_of b)) (λ c v. maybe_to c (f_of b) v) w
    operator_to Or a b w = two_to a b (Either quiet (f_of b)) (λ c v. maybe_to c (f_of b) v) w
    operator_to (Arithmetic o) a b w = two_to a b (f_of b) (λ c v. v) w
    operator_to (Bitwise o) a b w = two_to a b (f_of b) (λ c v. v) w
    operator_to (Shift o) a b w = two_to a b (f_of b) (λ c v. v) w
    operator_to (Comparison o) a b w = two_to a b (f_of b) (λ c v. v) w
    operator_to Equal a b w = two_to a b (f_of b) (λ c v. v) w
    operator_to NotEqual a b w = two_to a b (f_of b) (λ c v. v) w

    operator_any : (o : BinaryOperator) (a b : ℕ) → AnyFrom l pieces n state (in_order l pieces (a ∷ b ∷ []) begun) → From l begun (operator_flow o (f_of a) (f_of b)) n state
    operator_any And a b w = two_any a b (Either quiet (f_of b)) (λ c v. maybe_from c (f_of b) v) w
    operator_any Or a b w = two_any a b (Either quiet (f_of b)) (λ c v. maybe_from c (f_of b) v) w
    operator_any (Arithmetic o) a b w = two_any a b (f_of b) (λ c v. v) w
    operator_any (Bitwise o) a b w = two_any a b (f_of b) (λ c v. v) w
    operator_any (Shift o) a b w = two_any a b (f_of b) (λ c v. v) w
    operator_any (Comparison o) a b w = two_any a b (f_of b) (λ c v. v) w
    operator_any Equal a b w = two_any a b (f_of b) (λ c v. v) w
    operator_any NotEqual a b w = two_any a b (f_of b) (λ c v. v) w

    binary_to : (form : CodeBinary) (a b : ℕ) → From l begun (binary_flow form a (piece_at pieces a) (piece_at pieces b)) n state → AnyFrom l pieces n state (binary_entries l pieces form a b begun)
    binary_to (Operator o) a b w = operator_to o a b w
    binary_to Assign a b w = two_to b a (written_flow a (f_of a) (piece_at pieces a).local) (λ c v. written_to all c a (piece_at pieces a).local refl v) w
    binary_to If a b w = two_to a b (Either (f_of b) quiet) (λ c v. if_to c (f_of b) v) w
    binary_to While a b w =
        let g = Either (Jump Broken) (f_of b) in
        let turns = at_turns l (f_of a) g begun in
        elim (turns_to l (f_of a) g begun n state w) [
          | inl v ↦ inl v
          | inr v ↦ elim (either_to l (behind l (f_of a) turns) (Jump Broken) (f_of b) n state v) [
            | inl u ↦ absurd (from_jump l (behind l (f_of a) turns) Broken n state u)
            | inr u ↦ inr (inl u)
          ]
        ]
    binary_to Assert a b w = two_to a b (Either quiet (Then (f_of b) Aborts)) (λ c v. fails_to c (f_of b) v) w
    binary_to (Let annotation) a b w =
        let es = map Declared (piece_at pieces a).binds ++ map Assigned (piece_at pieces a).binds in
        elim (then_is begun (f_of b) (Happens es) w) [ inl v ↦ inl v | inr v ↦ absurd (from_happens l (behind l (f_of b) begun) es n state v) ]

    binary_any : (form : CodeBinary) (a b : ℕ) → AnyFrom l pieces n state (binary_entries l pieces form a b begun) → From l begun (binary_flow form a (piece_at pieces a) (piece_at pieces b)) n state
    binary_any (Operator o) a b w = operator_any o a b w
    binary_any Assign a b w = two_any b a (written_flow a (f_of a) (piece_at pieces a).local) (λ c v. written_from all c a (piece_at pieces a).local refl v) w
    binary_any If a b w = two_any a b (Either (f_of b) quiet) (λ c v. either_first l c (f_of b) quiet n state v) w
    binary_any While a b w =
        let g = Either (Jump Broken) (f_of b) in
        let turns = at_turns l (f_of a) g begun in
        elim w [
          | inl v ↦ turns_first l (f_of a) g begun n state v
          | inr more ↦ elim more [
            | inl v ↦ turns_second l (f_of a) g begun n state (either_second l (behind l (f_of a) turns) (Jump Broken) (f_of b) n state v)
            | inr v ↦ absurd v
          ]
        ]
    binary_any Assert a b w = two_any a b (Either quiet (Then (f_of b) Aborts)) (λ c v. fails_from c (f_of b) v) w
    binary_any (Let annotation) a b w =
        let es = map Declared (piece_at pieces a).binds ++ map Assigned (piece_at pieces a).binds in
        elim w [ inl v ↦ then_first l begun (f_of b) (Happens es) n state v | inr v ↦ absurd v ]

    branch_to : (c a b : ℕ) → From l begun (Then (f_of c) (Either (f_of a) (f_of b))) n state → AnyFrom l pieces n state (branch_entries l pieces c a b begun)
    branch_to c a b w =
        elim (then_is begun (f_of c) (Either (f_of a) (f_of b)) w) [
          | inl v ↦ inl v
          | inr v ↦ elim (either_to l (behind l (f_of c) begun) (f_of a) (f_of b) n state v) [
            | inl u ↦ inr (inl u)
            | inr u ↦ inr (inr (inl u))
          ]
        ]

    branch_any : (c a b : ℕ) → AnyFrom l pieces n state (branch_entries l pieces c a b begun) → From l begun (Then (f_of c) (Either (f_of a) (f_of b))) n state
    branch_any c a b w =
        let next = behind l (f_of c) begun in
        elim w [
          | inl v ↦ then_first l begun (f_of c) (Either (f_of a) (f_of b)) n state v
          | inr one ↦ elim one [
            | inl v ↦ then_next begun (f_of c) (Either (f_of a) (f_of b)) (either_first l next (f_of a) (f_of b) n state v)
            | inr two ↦ elim two [
              | inl v ↦ then_next begun (f_of c) (Either (f_of a) (f_of b)) (either_second l next (f_of a) (f_of b) n state v)
              | inr v ↦ absurd v
            ]
          ]
        ]

    many_to : (form : CodeMany) (parts : List ℕ) → From l begun (many_flow form (map (piece_at pieces) parts)) n state → AnyFrom l pieces n state (many_entries l pieces form parts begun)
    many_to (Block has_value) parts w = parts_to begun parts (scope_to l begun (all_binds (map (piece_at pieces) parts)) (flows_in_order quiet (map (piece_at pieces) parts)) n state w)
    many_to (Unpack fields) parts w = from_happens l begun [] n state w
    many_to TuplePattern parts w = from_happens l begun [] n state w
    many_to (Call call) parts w = parts_to begun parts w
    many_to (Vector types) parts w = parts_to begun parts w
    many_to (Pack fields) parts w = parts_to begun parts w
    many_to Tuple parts w = parts_to begun parts w

    many_any : (form : CodeMany) (parts : List ℕ) → AnyFrom l pieces n state (many_entries l pieces form parts begun) → From l begun (many_flow form (map (piece_at pieces) parts)) n state
    many_any (Block has_value) parts w = scope_from l begun (all_binds (map (piece_at pieces) parts)) (flows_in_order quiet (map (piece_at pieces) parts)) n state (parts_any begun parts w)
    many_any (Unpack fields) parts w = absurd w
    many_any TuplePattern parts w = absurd w
    many_any (Call call) parts w = parts_any begun parts w
    many_any (Vector types) parts w = parts_any begun parts w
    many_any (Pack fields) parts w = parts_any begun parts w
    many_any Tuple parts w = parts_any begun parts w

    pub node_to : (types : List AbilitySet) (node : CodeNode) → From l begun (node_flow types pieces node) n state → AnyFrom l pieces n state (entries l pieces node begun)
    node_to types (Leaf form) w = leaf_to types begun form w
    node_to types (Unary form a) w = unary_to form a w
    node_to types (Binary form a b) w = binary_to form a b w
    node_to types (two_branches c a b) w = branch_to c a b w
    node_to types (Many form parts) w = many_to form parts w

    pub node_any : (types : List AbilitySet) (node : CodeNode) → AnyFrom l pieces n state (entries l pieces node begun) → From l begun (node_flow types pieces node) n state
    node_any types (Leaf form) w = absurd w
    node_any types (Unary form a) w = unary_any form a w
    node_any types (Binary form a b) w = binary_any form a b w
    node_any types (two_branches c a b) w = branch_any c a b w
    node_any types (Many form parts) w = many_any form parts w
