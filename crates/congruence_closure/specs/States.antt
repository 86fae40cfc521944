-- The invariants of the congruence closure.
use Rattle.std.specs.Prelude.{◌≡◌, ◌≢◌, ℕ, ◌<◌, ◌⊎◌, List, [], ◌∷◌, ◌++◌, length, slice_get, slice_index_or, Contains, Option, Some}
use Rattle.term_pool.specs.declared.node.Node.{Node}
use Rattle.term_pool.specs.declared.node.Node.TheVariants.{Leaf as LeafNode, One as OneNode, Two as TwoNode, Three as ThreeNode}
use Rattle.congruence_closure.specs.Congruence.{IsWithin, AreTerms, Congruent}
use Rattle.congruence_closure.specs.Links.{Linked, AreAlikeAt, IsReason, AreShown}
use Rattle.congruence_closure.specs.Signatures.{class_in, signed, AreNamed, renamed}
use Rattle.congruence_closure.specs.declared.classes.link.Equation.{Equation}
use Rattle.congruence_closure.specs.declared.classes.link.Link.{Link}
use Rattle.congruence_closure.specs.declared.classes.link.Why.TheVariants.{Alike}

abbrev pub SameClass : (ℕ → ℕ) → ℕ → ℕ → Type 0
SameClass c i j = c i ≡ c j

-- the number is a part of the node
abbrev pub IsPart : ℕ → Node → Type 0
IsPart p (LeafNode h) = ⊥
IsPart p (OneNode h a) = p ≡ a
IsPart p (TwoNode h a b) = (p ≡ a) ⊎ (p ≡ b)
IsPart p (ThreeNode h a b c) = (p ≡ a) ⊎ ((p ≡ b) ⊎ (p ≡ c))

-- ---- pending edges

-- an edge between the numbers is pending
pub record IsWaiting (ws : List Link) (i j : ℕ) : Type 0 where
  pub position : ℕ
  pub link : Link
  pub found : slice_get ws position ≡ Some link
  pub left : link.left ≡ i
  pub right : link.right ≡ j

-- the numbers are of one class, or an edge between them is pending
abbrev pub IsNear : (ℕ → ℕ) → List Link → ℕ → ℕ → Type 0
IsNear c ws i j = SameClass c i j ⊎ IsWaiting ws i j

-- the justification of an edge, by the classes so far
pub record IsReasonable (ns : List Node) (es : List Equation) (c : ℕ → ℕ) (l : Link) : Type 0 where
  pub reason : IsReason ns es (SameClass c) l.left l.right l.why
  pub left : l.left < length ns
  pub right : l.right < length ns

-- ---- the table of signatures

-- a part of the signature is no longer a representative
pub record IsDead (c : ℕ → ℕ) (s : Node) : Type 0 where
  pub part : ℕ
  pub is_part : IsPart part s
  pub dead : c part ≢ part

-- an entry of the table has the signature of its node, or one that no node has any more
pub record IsEntry (ns : List Node) (c : ℕ → ℕ) (s : Node) (v : ℕ) : Type 0 where
  pub node : Node
  pub found : slice_get ns v ≡ Some node
  pub is : (signed c node ≡ s) ⊎ IsDead c s

pub record IsHonest (ns : List Node) (c : ℕ → ℕ) (T : Node → Option ℕ) : Type 0 where
  pub each : (s : Node) (v : ℕ) → T s ≡ Some v → IsEntry ns c s v

-- the table has the signature of the number's node, with a number of the same class or a pending edge to it
pub record IsTabled (ns : List Node) (c : ℕ → ℕ) (T : Node → Option ℕ) (ws : List Link) (i : ℕ) : Type 0 where
  pub node : Node
  pub found : slice_get ns i ≡ Some node
  pub holder : ℕ
  pub held : T (signed c node) ≡ Some holder
  pub near : IsNear c ws i holder

-- ---- a step of the work

abbrev pub AreParts : List Node → ℕ → Type 0
AreParts ns count = (i : ℕ) (n : Node) → slice_get ns i ≡ Some n → IsWithin count n

-- the edge joins two nodes that are congruent by the classes so far
pub record IsAlikeLink (ns : List Node) (c : ℕ → ℕ) (l : Link) : Type 0 where
  pub why : l.why ≡ Alike
  pub alike : AreAlikeAt ns (SameClass c) l.left l.right
  pub left : l.left < length ns
  pub right : l.right < length ns

-- entries and pending edges were added to the table and the list, and the old ones remain
pub record IsGrown (ns : List Node) (c : ℕ → ℕ) (T : Node → Option ℕ) (ws : List Link) (T2 : Node → Option ℕ) (ws2 : List Link) : Type 0 where
  pub honest : IsHonest ns c T2
  pub added : (k : ℕ) (l : Link) → slice_get ws2 k ≡ Some l → (slice_get ws k ≡ Some l) ⊎ IsAlikeLink ns c l
  pub near : (i j : ℕ) → IsNear c ws i j → IsNear c ws2 i j
  pub kept : (i : ℕ) → IsTabled ns c T ws i → IsTabled ns c T2 ws2 i

-- the numbers are of one class or an edge between them is pending, and the only new pending edge is one of them
pub record IsLinkedUp (c : ℕ → ℕ) (ws ws2 : List Link) (i j : ℕ) : Type 0 where
  pub near : IsNear c ws2 i j
  pub is : (ws2 ≡ ws) ⊎ (ws2 ≡ ws ++ record { left = i; right = j; why = Alike } ∷ [])

-- and these nodes are entered in the table
pub record AreEntered (ns : List Node) (c : ℕ → ℕ) (T : Node → Option ℕ) (ws : List Link) (T2 : Node → Option ℕ) (ws2 : List Link) (These : ℕ → Type 0) : Type 0 where
  pub grown : IsGrown ns c T ws T2 ws2
  pub tabled : (i : ℕ) → These i → IsTabled ns c T2 ws2 i

-- ---- lists of numbers

abbrev pub numbers_at : List (List ℕ) → ℕ → List ℕ
numbers_at xs i = slice_index_or xs i []

-- the members of each class
pub record AreMembers (c : ℕ → ℕ) (count : ℕ) (ms : List (List ℕ)) : Type 0 where
  pub one_each : length ms ≡ count
  pub all : (i : ℕ) → i < count → Contains (numbers_at ms (c i)) i
  pub within : (k i : ℕ) → Contains (numbers_at ms k) i → i < count

-- the use list of each number: the nodes of which it is a part
pub record AreUsers (ns : List Node) (us : List (List ℕ)) : Type 0 where
  pub one_each : length us ≡ length ns
  pub all : (i p : ℕ) (n : Node) → slice_get ns i ≡ Some n → IsPart p n → Contains (numbers_at us p) i
  pub within : (k i : ℕ) → Contains (numbers_at us k) i → i < length ns

-- a node of which one of these numbers is a part, by the use lists
abbrev pub IsUserOf : List (List ℕ) → List ℕ → ℕ → Type 0
IsUserOf us these i = (m : ℕ) × Contains these m × Contains (numbers_at us m) i

-- ---- the whole

-- the edges justify the classes so far, and each equation is satisfied, or an edge is pending
pub record IsSound (ns : List Node) (es : List Equation) (c : ℕ → ℕ) (ls ws : List Link) : Type 0 where
  pub terms : AreTerms ns es
  pub named : AreNamed (length ns) c
  pub linked : (i j : ℕ) → i < length ns → j < length ns → SameClass c i j → Linked ls i j
  pub shown : AreShown ns es ls
  pub reasons : (k : ℕ) (l : Link) → slice_get ws k ≡ Some l → IsReasonable ns es c l
  pub met : (k : ℕ) (e : Equation) → slice_get es k ≡ Some e → IsNear c ws e.left e.right

-- each node is in the table
pub record AreTabled (ns : List Node) (c : ℕ → ℕ) (T : Node → Option ℕ) (ws : List Link) : Type 0 where
  pub honest : IsHonest ns c T
  pub each : (i : ℕ) → i < length ns → IsTabled ns c T ws i

pub record IsKept (ns : List Node) (es : List Equation) (cs : List ℕ) (ms us : List (List ℕ)) (T : Node → Option ℕ) (ls ws : List Link) : Type 0 where
  pub one_each : length cs ≡ length ns
  pub sound : IsSound ns es (class_in cs) ls ws
  pub tabled : AreTabled ns (class_in cs) T ws
  pub members : AreMembers (class_in cs) (length ns) ms
  pub users : AreUsers ns us

-- ---- joining two classes

-- the classes are those of the ends of the edge
abbrev pub AreEnds : (ℕ → ℕ) → Link → ℕ → ℕ → Type 0
AreEnds c l from to = ((c l.left ≡ from) × (c l.right ≡ to)) ⊎ ((c l.left ≡ to) × (c l.right ≡ from))

-- the members of one class are moved to another
pub record AreMoved (ms ms2 : List (List ℕ)) (from to : ℕ) (moved : List ℕ) : Type 0 where
  pub long : length ms2 ≡ length ms
  pub are : moved ≡ numbers_at ms from
  pub gone : numbers_at ms2 from ≡ []
  pub at : numbers_at ms2 to ≡ numbers_at ms to ++ moved
  pub others : (k : ℕ) → k ≢ from → k ≢ to → numbers_at ms2 k ≡ numbers_at ms k

-- a class has another representative
pub record IsRenamed (cs cs2 : List ℕ) (from to : ℕ) : Type 0 where
  pub long : length cs2 ≡ length cs
  pub each : (i : ℕ) → class_in cs2 i ≡ renamed from to (class_in cs i)

-- the next edge that joins two classes; those that do not are dropped
pub record IsNext (c : ℕ → ℕ) (ws ws2 : List Link) (l : Link) : Type 0 where
  pub apart : c l.left ≢ c l.right
  pub near : (i j : ℕ) → IsNear c ws i j → IsNear c (ws2 ++ l ∷ []) i j
  pub among : (k : ℕ) (m : Link) → slice_get (ws2 ++ l ∷ []) k ≡ Some m → slice_get ws k ≡ Some m

-- none of the edges joins two classes
pub record IsDone (c : ℕ → ℕ) (ws ws2 : List Link) : Type 0 where
  pub none : ws2 ≡ []
  pub same : (i j : ℕ) → IsNear c ws i j → SameClass c i j

-- ---- adding a node

-- the number is added to the use lists of these numbers, and of no others
pub record AreUsersAdded (us us2 : List (List ℕ)) (number : ℕ) (These : ℕ → Type 0) : Type 0 where
  pub long : length us2 ≡ length us
  pub stay : (k i : ℕ) → Contains (numbers_at us k) i → Contains (numbers_at us2 k) i
  pub all : (p : ℕ) → These p → Contains (numbers_at us2 p) number
  pub only : (k i : ℕ) → Contains (numbers_at us2 k) i → Contains (numbers_at us k) i ⊎ (i ≡ number)

abbrev pub IsPartOf : Node → ℕ → Type 0
IsPartOf n p = IsPart p n

-- ---- the final property

-- nodes and equations, the representative of each number, and edges
pub record ClassesData : Type 0 where
  pub nodes : List Node
  pub equations : List Equation
  pub names : List ℕ
  pub links : List Link

-- the classes are exactly the least congruence, and the edges justify them
pub record AreClasses (ns : List Node) (es : List Equation) (cs : List ℕ) (ls : List Link) : Type 0 where
  pub one_each : length cs ≡ length ns
  pub terms : AreTerms ns es
  pub sound : (i j : ℕ) → i < length ns → j < length ns → SameClass (class_in cs) i j → Congruent ns es i j
  pub whole : (i j : ℕ) → Congruent ns es i j → SameClass (class_in cs) i j
  pub shown : AreShown ns es ls
  pub linked : (i j : ℕ) → i < length ns → j < length ns → SameClass (class_in cs) i j → Linked ls i j
