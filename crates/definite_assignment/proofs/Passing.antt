-- From the end of a body to its start: what is known of the later nodes, and the states in which earlier ones are
-- entered.
use Rattle.std.proofs.Common.{◌≡◌, ℕ, zero, suc, ◌+◌, ◌-◌, ◌<◌, ◌≤◌, Bool, true, false, ◌&&◌, ◌||◌, eqb, List, [], ◌∷◌, ◌++◌, length, map, All, ◌⊎◌, inl, inr, Some, None, refl, sym, ap, subst, ◌∙◌, arith, length-append, append-nil, append_assoc, eq-eqb}
use Rattle.std.specs.Prelude.{slice_get}
use Rattle.std.proofs.lemmas.Bool.{or_cases, or_left, or_right, and_parts, and_from, false≢true, eqb-true, cases_lt}
use Rattle.std.proofs.lemmas.List.{get_or_append_left, get_or_past}
use Rattle.std.proofs.Math.Seq.{get_or-append_seam}
use Rattle.program.specs.Trees.{IsBelow}
use Rattle.program.specs.declared.arena.Node.TheVariants.{Leaf, Unary, Binary, If as two_branches, Many}
use Rattle.program.specs.declared.code.CodeLeaf.TheVariants.{Number, Truth, Address, Local, Constant, Return as return_leaf, Break, Continue, Bind, Ignore}
use Rattle.program.specs.declared.code.LocalUse.TheVariants.{Plain, Move, Copy}
use Rattle.program.specs.declared.code.CodeUnary.{CodeUnary}
use Rattle.program.specs.declared.code.CodeUnary.TheVariants.{Not, Dereference, Borrow, BorrowMutable, Field, Cast, Return, Abort, Loop, Discard, Declare}
use Rattle.program.specs.declared.code.CodeBinary.{CodeBinary}
use Rattle.program.specs.declared.code.CodeBinary.TheVariants.{Operator, Assign, If, While, Assert, Let}
use Rattle.program.specs.declared.code.CodeMany.{CodeMany}
use Rattle.program.specs.declared.code.CodeMany.TheVariants.{Call, Vector, Pack, Unpack, Tuple, TuplePattern, Block}
use Rattle.program.specs.declared.declaration.AbilitySet.{AbilitySet}
use Rattle.typing_rules.specs.Events.{Event, has_behind}
use Rattle.typing_rules.specs.Flows.{Flow, Happens, Jump, Then, Either, At, Broken, quiet}
use Rattle.typing_rules.specs.Paths.{Stopped, Goes}
use Rattle.typing_rules.specs.LocalRules.{BodyFacts, Comes, starts_with}
use Rattle.definite_assignment.specs.LocalEffects.{same}
use Rattle.typing_rules.specs.Pieces.{CodeNode, Piece, no_piece, piece_at, piece_of, pieces_in, pieces, copies, event_of_use, unary_flow, binary_flow, many_flow, node_flow, node_local}
use Rattle.definite_assignment.proofs.PassLaws.{pieces-length}
use Rattle.definite_assignment.specs.Entries.{Entry, behind, at_turns, in_order, unary_entries, binary_entries, branch_entries, many_entries, entries, given}
use Rattle.definite_assignment.proofs.Begun.{Reaches, From, at_to, at_here, at_inside}
use Rattle.definite_assignment.proofs.Nodes.{AnyFrom, AreLocals, node_to, node_any}

-- ---- the pieces of a body

-- the piece of a node, among those before it and those after it
pub record StandsAmong (types : List AbilitySet) (whole : List Piece) (k : ℕ) (node : CodeNode) : Type 0 where
  pub before : List Piece
  pub behind : List Piece
  pub count : length before ≡ k
  pub whole_is : whole ≡ before ++ piece_of types before node ∷ behind

pieces_grow : (types : List AbilitySet) (done : List Piece) (ns : List CodeNode) → (more : List Piece) × (pieces_in types done ns ≡ done ++ more)
pieces_grow types done [] = ([], sym (append-nil done))
pieces_grow types done (n ∷ ns) =
    let one = pieces_grow types (done ++ piece_of types done n ∷ []) ns in
    (piece_of types done n ∷ one.0, one.1 ∙ append_assoc done (piece_of types done n ∷ []) one.0)

some_same : (a b : CodeNode) → Some a ≡ Some b → a ≡ b
some_same a b h = cc

stands_in : (types : List AbilitySet) (done : List Piece) (ns : List CodeNode) (k : ℕ) (node : CodeNode) → slice_get ns k ≡ Some node → StandsAmong types (pieces_in types done ns) (length done + k) node
stands_in types done [] k node h = absurd (cc)
stands_in types done (m ∷ ns) zero node h =
    let one = pieces_grow types (done ++ piece_of types done m ∷ []) ns in
    subst (λ (x : CodeNode). StandsAmong types (pieces_in types done (m ∷ ns)) (length done + 0) x) (some_same m node h)
    (record {
      before = done;
      behind = one.0;
      count = omega arith;
      whole_is = one.1 ∙ append_assoc done (piece_of types done m ∷ []) one.0;
    })
stands_in types done (m ∷ ns) (suc k) node h =
    let one = stands_in types (done ++ piece_of types done m ∷ []) ns k node h in
    record {
      before = one.before;
      behind = one.behind;
      count = one.count ∙ omega (arith, length-append done (piece_of types done m ∷ []));
      whole_is = one.whole_is;
    }

pub stands_among : (types : List AbilitySet) (nodes : List CodeNode) (k : ℕ) (node : CodeNode) → slice_get nodes k ≡ Some node → StandsAmong types (pieces types nodes) k node
stands_among types nodes k node h = subst (λ j. StandsAmong types (pieces types nodes) j node) (omega arith) (stands_in types [] nodes k node h)

-- ---- a node among all pieces has the flow that it has among those before it

maps_same : (a b : List Piece) (k : ℕ) → ((j : ℕ) → j < k → piece_at a j ≡ piece_at b j) → (xs : List ℕ) → All (λ x. x < k) xs → map (piece_at a) xs ≡ map (piece_at b) xs
maps_same a b k h [] all = refl
maps_same a b k h (x ∷ xs) all = λ i. h x (all 0 0 (omega arith)) i ∷ maps_same a b k h xs (λ j d l. all (suc j) d (omega arith)) i

flow_same : (types : List AbilitySet) (a b : List Piece) (k : ℕ) → ((j : ℕ) → j < k → piece_at a j ≡ piece_at b j) → (node : CodeNode) → IsBelow k node → node_flow types a node ≡ node_flow types b node
flow_same types a b k h (Leaf form) below = refl
flow_same types a b k h (Unary form x) below = λ i. unary_flow form x (h x below i)
flow_same types a b k h (Binary form x y) below = λ i. binary_flow form x (h x below.0 i) (h y below.1 i)
flow_same types a b k h (two_branches c x y) below = λ i. Then (h c below.0 i).flow (Either (h x below.1 i).flow (h y below.2 i).flow)
flow_same types a b k h (Many form xs) below = λ i. many_flow form (maps_same a b k h xs below i)

-- an lvalue that is a whole local happens at once
at_once : (types : List AbilitySet) (before : List Piece) (f : Flow) (k m : ℕ) (node : CodeNode) → node_local node ≡ Some m → f ≡ At k (node_flow types before node) → (es : List Event) × (f ≡ At k (Happens es))
at_once types before f k m (Leaf (Local Plain a)) e h = (event_of_use (copies types a) Plain a ∷ [], h)
at_once types before f k m (Leaf (Local Move a)) e h = absurd (cc)
at_once types before f k m (Leaf (Local Copy a)) e h = absurd (cc)
at_once types before f k m (Leaf return_leaf) e h = absurd (cc)
at_once types before f k m (Leaf Break) e h = absurd (cc)
at_once types before f k m (Leaf Continue) e h = absurd (cc)
at_once types before f k m (Leaf (Number a)) e h = absurd (cc)
at_once types before f k m (Leaf (Truth a)) e h = absurd (cc)
at_once types before f k m (Leaf (Address a)) e h = absurd (cc)
at_once types before f k m (Leaf (Constant a)) e h = absurd (cc)
at_once types before f k m (Leaf (Bind a)) e h = absurd (cc)
at_once types before f k m (Leaf Ignore) e h = absurd (cc)
at_once types before f k m (Unary u a) e h = absurd (cc)
at_once types before f k m (Binary o a b) e h = absurd (cc)
at_once types before f k m (two_branches c a b) e h = absurd (cc)
at_once types before f k m (Many g xs) e h = absurd (cc)

module _ (types : List AbilitySet) (nodes : List CodeNode) (k : ℕ) (node : CodeNode) (stands : slice_get nodes k ≡ Some node) where
  abbrev whole : List Piece
  whole = pieces types nodes

  pub among : StandsAmong types whole k node
  among = stands_among types nodes k node stands

  pub piece_is : piece_at whole k ≡ piece_of types among.before node
  piece_is =
      subst (λ j. piece_at whole j ≡ piece_of types among.before node) among.count
      (ap (λ ps. piece_at ps (length among.before)) among.whole_is ∙ get_or-append_seam among.before (piece_of types among.before node) among.behind no_piece)

  before_same : (j : ℕ) → j < k → piece_at among.before j ≡ piece_at whole j
  before_same j h =
      let below : j < length among.before = subst (λ m. j < m) (sym among.count) h in
      sym (ap (λ ps. piece_at ps j) among.whole_is ∙ get_or_append_left among.before (piece_of types among.before node ∷ among.behind) no_piece j below)

  pub own_flow : IsBelow k node → (piece_at whole k).flow ≡ At k (node_flow types whole node)
  own_flow below =
      ap (λ p. p.flow) piece_is ∙ (λ i. At (among.count i) (node_flow types among.before node))
      ∙ ap (At k) (flow_same types among.before whole k before_same node below)

  pub own_local : (m : ℕ) → (piece_at whole k).local ≡ Some m → (es : List Event) × ((piece_at whole k).flow ≡ At k (Happens es))
  own_local m h =
      at_once types among.before (piece_at whole k).flow k m node (sym (ap (λ p. p.local) piece_is) ∙ h)
      (ap (λ p. p.flow) piece_is ∙ (λ i. At (among.count i) (node_flow types among.before node)))

nothing_past : (nodes : List CodeNode) (types : List AbilitySet) (k : ℕ) → length nodes ≤ k → piece_at (pieces types nodes) k ≡ no_piece
nothing_past nodes types k h = get_or_past (pieces types nodes) k no_piece (omega (arith, pieces-length types nodes))

node_or_none : (nodes : List CodeNode) (k : ℕ) → ((node : CodeNode) × (slice_get nodes k ≡ Some node)) ⊎ (length nodes ≤ k)
node_or_none [] k = inr (omega arith)
node_or_none (n ∷ ns) zero = inl (n, refl)
node_or_none (n ∷ ns) (suc k) =
    elim (node_or_none ns k) [
      | inl one ↦ inl one
      | inr past ↦ inr (omega arith)
    ]

pub locals_of : (types : List AbilitySet) (nodes : List CodeNode) → AreLocals (pieces types nodes)
locals_of types nodes = record {
  each = λ k m h.
      elim (node_or_none nodes k) [
        | inl one ↦ own_local types nodes k one.0 one.1 m h
        | inr past ↦ let e : None ≡ Some m = sym (ap (λ p. p.local) (nothing_past nodes types k past)) ∙ h in absurd (cc)
      ];
}

-- ---- parts come before their node

order_below : (l : ℕ) (ps : List Piece) (k : ℕ) (parts : List ℕ) → All (λ x. x < k) parts → (begun : Bool → Bool) (p : ℕ) (state : Bool) → given (in_order l ps parts begun) p state ≡ true → p < k
order_below l ps k [] all begun p state h = absurd (false≢true h)
order_below l ps k (x ∷ xs) all begun p state h =
    elim (or_cases (eqb x p && begun state) (given (in_order l ps xs (behind l (piece_at ps x).flow begun)) p state) h) [
      | inl one ↦ let same = eqb-true x p (and_parts (eqb x p) (begun state) one).0 in let low = all 0 0 (omega arith) in subst (λ y. y < k) same low
      | inr more ↦ order_below l ps k xs (λ j d b. all (suc j) d (omega arith)) (behind l (piece_at ps x).flow begun) p state more
    ]

one_below : (k a : ℕ) → a < k → All (λ x. x < k) (a ∷ [])
one_below k a h zero d b = h
one_below k a h (suc j) d b = absurd (omega arith)

two_below : (k a b : ℕ) → a < k → b < k → All (λ x. x < k) (a ∷ b ∷ [])
two_below k a b h g zero d m = h
two_below k a b h g (suc j) d m = one_below k b g j d (omega arith)

unary_below : (l : ℕ) (ps : List Piece) (k : ℕ) (form : CodeUnary) (a : ℕ) → a < k → (begun : Bool → Bool) (p : ℕ) (state : Bool) → given (unary_entries l ps form a begun) p state ≡ true → p < k
unary_below l ps k (Declare annotation) a h begun p state g = absurd (false≢true g)
unary_below l ps k Loop a h begun p state g = order_below l ps k (a ∷ []) (one_below k a h) (at_turns l quiet (piece_at ps a).flow begun) p state g
unary_below l ps k (Field name) a h begun p state g = order_below l ps k (a ∷ []) (one_below k a h) begun p state g
unary_below l ps k Borrow a h begun p state g = order_below l ps k (a ∷ []) (one_below k a h) begun p state g
unary_below l ps k BorrowMutable a h begun p state g = order_below l ps k (a ∷ []) (one_below k a h) begun p state g
unary_below l ps k Return a h begun p state g = order_below l ps k (a ∷ []) (one_below k a h) begun p state g
unary_below l ps k Abort a h begun p state g = order_below l ps k (a ∷ []) (one_below k a h) begun p state g
unary_below l ps k Not a h begun p state g = order_below l ps k (a ∷ []) (one_below k a h) begun p state g
unary_below l ps k Dereference a h begun p state g = order_below l ps k (a ∷ []) (one_below k a h) begun p state g
unary_below l ps k (Cast of) a h begun p state g = order_below l ps k (a ∷ []) (one_below k a h) begun p state g
unary_below l ps k Discard a h begun p state g = order_below l ps k (a ∷ []) (one_below k a h) begun p state g

binary_below : (l : ℕ) (ps : List Piece) (k : ℕ) (form : CodeBinary) (a b : ℕ) → a < k → b < k → (begun : Bool → Bool) (p : ℕ) (state : Bool) → given (binary_entries l ps form a b begun) p state ≡ true → p < k
binary_below l ps k (Operator o) a b h g begun p state w = order_below l ps k (a ∷ b ∷ []) (two_below k a b h g) begun p state w
binary_below l ps k Assign a b h g begun p state w = order_below l ps k (b ∷ a ∷ []) (two_below k b a g h) begun p state w
binary_below l ps k If a b h g begun p state w = order_below l ps k (a ∷ b ∷ []) (two_below k a b h g) begun p state w
binary_below l ps k While a b h g begun p state w = order_below l ps k (a ∷ b ∷ []) (two_below k a b h g) (at_turns l (piece_at ps a).flow (Either (Jump Broken) (piece_at ps b).flow) begun) p state w
binary_below l ps k Assert a b h g begun p state w = order_below l ps k (a ∷ b ∷ []) (two_below k a b h g) begun p state w
binary_below l ps k (Let annotation) a b h g begun p state w = order_below l ps k (b ∷ []) (one_below k b g) begun p state w

branch_below : (l : ℕ) (ps : List Piece) (k c a b : ℕ) → c < k → a < k → b < k → (begun : Bool → Bool) (p : ℕ) (state : Bool) → given (branch_entries l ps c a b begun) p state ≡ true → p < k
branch_below l ps k c a b hc ha hb begun p state w =
    let next = behind l (piece_at ps c).flow begun in
    elim (or_cases (eqb c p && begun state) ((eqb a p && next state) || ((eqb b p && next state) || false)) w) [
      | inl one ↦ subst (λ y. y < k) (eqb-true c p (and_parts (eqb c p) (begun state) one).0) hc
      | inr more ↦ elim (or_cases (eqb a p && next state) ((eqb b p && next state) || false) more) [
        | inl one ↦ subst (λ y. y < k) (eqb-true a p (and_parts (eqb a p) (next state) one).0) ha
        | inr last ↦ elim (or_cases (eqb b p && next state) false last) [
          | inl one ↦ subst (λ y. y < k) (eqb-true b p (and_parts (eqb b p) (next state) one).0) hb
          | inr none ↦ absurd (false≢true none)
        ]
      ]
    ]

many_below : (l : ℕ) (ps : List Piece) (k : ℕ) (form : CodeMany) (parts : List ℕ) → All (λ x. x < k) parts → (begun : Bool → Bool) (p : ℕ) (state : Bool) → given (many_entries l ps form parts begun) p state ≡ true → p < k
many_below l ps k (Block has_value) parts all begun p state w = order_below l ps k parts all begun p state w
many_below l ps k (Unpack fields) parts all begun p state w = absurd (false≢true w)
many_below l ps k TuplePattern parts all begun p state w = absurd (false≢true w)
many_below l ps k (Call call) parts all begun p state w = order_below l ps k parts all begun p state w
many_below l ps k (Vector types) parts all begun p state w = order_below l ps k parts all begun p state w
many_below l ps k (Pack fields) parts all begun p state w = order_below l ps k parts all begun p state w
many_below l ps k Tuple parts all begun p state w = order_below l ps k parts all begun p state w

entries_below : (l : ℕ) (ps : List Piece) (k : ℕ) (node : CodeNode) → IsBelow k node → (begun : Bool → Bool) (p : ℕ) (state : Bool) → given (entries l ps node begun) p state ≡ true → p < k
entries_below l ps k (Leaf form) below begun p state w = absurd (false≢true w)
entries_below l ps k (Unary form a) below begun p state w = unary_below l ps k form a below begun p state w
entries_below l ps k (Binary form a b) below begun p state w = binary_below l ps k form a b below.0 below.1 begun p state w
entries_below l ps k (two_branches c a b) below begun p state w = branch_below l ps k c a b below.0 below.1 below.2 begun p state w
entries_below l ps k (Many form xs) below begun p state w = many_below l ps k form xs below begun p state w

-- ---- from a part that is entered

pub record FromPart (l : ℕ) (ps : List Piece) (es : List Entry) (n : ℕ) (state : Bool) : Type 0 where
  pub part : ℕ
  pub had : Bool
  pub is_given : given es part had ≡ true
  pub reaches : Reaches l (piece_at ps part).flow had n state

eqb_refl : (n : ℕ) → eqb n n ≡ true
eqb_refl n = eq-eqb n n refl

part_from : (l : ℕ) (ps : List Piece) (es : List Entry) (n : ℕ) (state : Bool) → AnyFrom l ps n state es → FromPart l ps es n state
part_from l ps [] n state w = absurd w
part_from l ps (e ∷ es) n state w =
    elim w [
      | inl one ↦ record {
        part = e.part;
        had = one.had;
        is_given = or_left (eqb e.part e.part && e.states one.had) (given es e.part one.had) (and_from (eqb e.part e.part) (e.states one.had) (eqb_refl e.part) one.is_begun);
        reaches = one.reaches;
      }
      | inr more ↦
          let one = part_from l ps es n state more in
          record { part = one.part; had = one.had; is_given = or_right (eqb e.part one.part && e.states one.had) (given es one.part one.had) one.is_given; reaches = one.reaches }
    ]

part_any : (l : ℕ) (ps : List Piece) (es : List Entry) (n : ℕ) (state : Bool) (part : ℕ) (had : Bool) → given es part had ≡ true → Reaches l (piece_at ps part).flow had n state → AnyFrom l ps n state es
part_any l ps [] n state part had g w = absurd (false≢true g)
part_any l ps (e ∷ es) n state part had g w =
    elim (or_cases (eqb e.part part && e.states had) (given es part had) g) [
      | inl one ↦
          let both = and_parts (eqb e.part part) (e.states had) one in
          inl (record { had = had; is_begun = both.1; reaches = subst (λ p. Reaches l (piece_at ps p).flow had n state) (sym (eqb-true e.part part both.0)) w })
      | inr more ↦ inr (part_any l ps es n state part had more w)
    ]

-- ---- one more node

-- What the table has for the nodes from k on, and what is pending before them: from a node before k that is entered in
-- a state, a path reaches the node n.
pub data Known (l : ℕ) (known : ℕ → Bool → Bool) (ps : List Piece) (k n : ℕ) (state : Bool) : Type 0 where
  KnownState : k ≤ n → known n state ≡ true → Known l known ps k n state
  Waits : (m : ℕ) (had : Bool) → m < k → known m had ≡ true → Reaches l (piece_at ps m).flow had n state → Known l known ps k n state

module _ (l : ℕ) (types : List AbilitySet) (nodes : List CodeNode) (k : ℕ) (node : CodeNode) (stands : slice_get nodes k ≡ Some node) (below : IsBelow k node)
    (old new : ℕ → Bool → Bool) (gains : (n : ℕ) (state : Bool) → new n state ≡ (old n state || given (entries l (pieces types nodes) node (old k)) n state)) where
  abbrev all_pieces : List Piece
  all_pieces = pieces types nodes

  abbrev node_entries : List Entry
  node_entries = entries l all_pieces node (old k)

  abbrev inner : Flow
  inner = node_flow types all_pieces node

  flow_is : (piece_at all_pieces k).flow ≡ At k inner
  flow_is = own_flow types nodes k node stands below

  stays : (n : ℕ) (state : Bool) → old n state ≡ true → new n state ≡ true
  stays n state h = gains n state ∙ or_left (old n state) (given node_entries n state) h

  comes_in : (n : ℕ) (state : Bool) → given node_entries n state ≡ true → new n state ≡ true
  comes_in n state h = gains n state ∙ or_right (old n state) (given node_entries n state) h

  from_node : (n : ℕ) (state : Bool) → From l (old k) (At k inner) n state → Known l old all_pieces (k + 1) n state
  from_node n state w = Waits k w.had (omega arith) w.is_begun (subst (λ f. Reaches l f w.had n state) (sym flow_is) w.reaches)

  pub one_less : (n : ℕ) (state : Bool) → Known l new all_pieces k n state → Known l old all_pieces (k + 1) n state
  one_less n state (KnownState le t) =
      elim (or_cases (old n state) (given node_entries n state) (sym (gains n state) ∙ t)) [
        | inl was ↦ elim (cases_lt k n) [
          | inl more ↦ KnownState (omega arith) was
          | inr not_more ↦
              let same : k ≡ n = omega arith in
              from_node n state (at_here l (old k) k inner n state (record { index = same; is_begun = subst (λ m. old m state ≡ true) (sym same) was }))
        ]
        | inr is ↦ let low = entries_below l all_pieces k node below (old k) n state is in absurd (omega arith)
      ]
  one_less n state (Waits m had lt t w) =
      elim (or_cases (old m had) (given node_entries m had) (sym (gains m had) ∙ t)) [
        | inl was ↦ Waits m had (omega arith) was w
        | inr is ↦
            let any = part_any l all_pieces node_entries n state m had is w in
            from_node n state (at_inside l (old k) k inner n state (node_any l all_pieces n state (locals_of types nodes) (old k) types node any))
      ]

  pub one_more : (n : ℕ) (state : Bool) → Known l old all_pieces (k + 1) n state → Known l new all_pieces k n state
  one_more n state (KnownState le t) = KnownState (omega arith) (stays n state t)
  one_more n state (Waits m had lt t w) =
      elim (cases_lt m k) [
        | inl less ↦ Waits m had less (stays m had t) w
        | inr not_less ↦
            let same : m ≡ k = omega arith in
            let own : From l (old k) (At k inner) n state = record {
              had = had;
              is_begun = subst (λ j. old j had ≡ true) same t;
              reaches = subst (λ f. Reaches l f had n state) flow_is (subst (λ j. Reaches l (piece_at all_pieces j).flow had n state) same w);
            } in
            elim (at_to l (old k) k inner n state own) [
              | inl here ↦ KnownState (omega (arith, here.index)) (stays n state (subst (λ j. old j state ≡ true) here.index here.is_begun))
              | inr one ↦
                  let part = part_from l all_pieces node_entries n state (node_to l all_pieces n state (locals_of types nodes) (old k) types node one) in
                  Waits part.part part.had (entries_below l all_pieces k node below (old k) part.part part.had part.is_given) (comes_in part.part part.had part.is_given) part.reaches
            ]
      ]

-- ---- the whole

same_true : (a b : Bool) → same a b ≡ true → a ≡ b
same_true true true h = refl
same_true true false h = absurd (false≢true h)
same_true false true h = absurd (false≢true h)
same_true false false h = refl

same_refl : (b : Bool) → same b b ≡ true
same_refl true = refl
same_refl false = refl

module _ (body : BodyFacts) (l : ℕ) (known : ℕ → Bool → Bool)
    (begins : (n : ℕ) (state : Bool) → known n state ≡ (eqb (n + 1) (length body.nodes) && same (starts_with body l) state)) where
  abbrev body_pieces : List Piece
  body_pieces = pieces body.types body.nodes

  pub known_at_end : (n : ℕ) (state : Bool) → Known l known body_pieces (length body.nodes) n state → Comes body l n state
  known_at_end n state (KnownState le t) =
      let both = and_parts (eqb (n + 1) (length body.nodes)) (same (starts_with body l) state) (sym (begins n state) ∙ t) in
      absurd (omega (arith, eqb-true (n + 1) (length body.nodes) both.0))
  known_at_end n state (Waits m had lt t w) =
      let both = and_parts (eqb (m + 1) (length body.nodes)) (same (starts_with body l) had) (sym (begins m had) ∙ t) in
      let last : m ≡ length body.nodes - 1 = omega (arith, eqb-true (m + 1) (length body.nodes) both.0) in
      let start : had ≡ starts_with body l = sym (same_true (starts_with body l) had both.1) in
      record {
        events = w.events;
        path = subst (λ j. Goes (piece_at body_pieces j).flow w.events (Stopped n)) last w.path;
        has_is = subst (λ b. has_behind l b w.events ≡ state) start w.has_is;
      }

  pub at_end_known : (n : ℕ) (state : Bool) → Comes body l n state → Known l known body_pieces (length body.nodes) n state
  at_end_known n state w =
      elim (cases_lt 0 (length body.nodes)) [
        | inl some ↦
            let last = length body.nodes - 1 in
            let here : eqb (last + 1) (length body.nodes) ≡ true = eq-eqb (last + 1) (length body.nodes) (omega arith) in
            Waits last (starts_with body l) (omega arith)
            (begins last (starts_with body l) ∙ and_from (eqb (last + 1) (length body.nodes)) (same (starts_with body l) (starts_with body l)) here (same_refl (starts_with body l)))
            (record { events = w.events; path = w.path; has_is = w.has_is })
        | inr none ↦
            let path = subst (λ p. Goes p.flow w.events (Stopped n)) (nothing_past body.nodes body.types (length body.nodes - 1) (omega arith)) w.path in
            let e = path.1 in
            absurd (cc)
      ]

pub known_all : (l : ℕ) (known : ℕ → Bool → Bool) (ps : List Piece) (n : ℕ) (state : Bool) → Known l known ps 0 n state → known n state ≡ true
known_all l known ps n state (KnownState le t) = t
known_all l known ps n state (Waits m had lt t w) = absurd (omega arith)

-- ---- nodes

pub below_more : (k m : ℕ) (node : CodeNode) → k ≤ m → IsBelow k node → IsBelow m node
below_more k m (Leaf form) h below = tt
below_more k m (Unary form a) h below = omega arith
below_more k m (Binary form a b) h below = let x = below.0 in let y = below.1 in (omega arith, omega arith)
below_more k m (two_branches c a b) h below = let x = below.0 in let y = below.1 in let z = below.2 in (omega arith, omega arith, omega arith)
below_more k m (Many form xs) h below = λ j d l. let x = below j d l in omega arith
