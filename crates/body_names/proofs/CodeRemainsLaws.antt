-- Lists whose items are added one after another: the added and the remaining items make up the whole.
use Rattle.std.proofs.Common.{◌≡◌, ℕ, ◌+◌, List, ◌++◌, length}
use Rattle.base.specs.declared.span.Span.{Span}
use Rattle.program.specs.Listed.{AreSound, inner_all, indices, nodes_from_all}
use Rattle.scopes.specs.declared.scope.InScope.{InScope}
use Rattle.body_names.specs.declared.code.building.Building.{Building}
use Rattle.body_names.specs.declared.code.loops.LoopScope.{LoopScope}
use Rattle.body_names.specs.CodeForms.{CodeTrees}

-- of the trees that are added from `old` on, the roots so far have the indices `parts`, and `rest` remains to be added
pub record Remains (trees rest : CodeTrees) (spans more : List Span) (names others : List (List ℕ)) (loops later : List LoopScope) (old now : Building) (parts : List ℕ) : Type 0 where
  pub sound : AreSound rest → AreSound trees
  pub needs : AreSound trees → AreSound rest
  pub parts_are : indices (length old.body.nodes) trees ≡ parts ++ indices (length now.body.nodes) rest
  pub count : length old.body.nodes + length (inner_all trees) ≡ length now.body.nodes + length (inner_all rest)
  pub nodes : old.body.nodes ++ nodes_from_all (length old.body.nodes) trees ≡ now.body.nodes ++ nodes_from_all (length now.body.nodes) rest
  pub spans_are : old.body.spans ++ spans ≡ now.body.spans ++ more
  pub locals : old.locals ++ names ≡ now.locals ++ others
  pub loops_are : old.loops.items ++ loops ≡ now.loops.items ++ later

-- what comes before an item: the names in scope, and the numbers of bound names and of nodes
pub record Before : Type 0 where
  pub scope : List InScope
  pub names : ℕ
  pub nodes : ℕ

-- a position in code where these names are in scope; each node has one span
abbrev pub before_of : List InScope → Building → Before
before_of scope b = record { scope = scope; names = length b.locals; nodes = length b.body.spans }

-- lists of items of one kind: their trees, given what comes before, their spans, their names and their loops
pub record Listing (X : Type 0) : Type 0 where
  pub trees : Before → List X → CodeTrees
  pub spans : List X → List Span
  pub names : List X → List (List ℕ)
  pub loops : Before → List X → List LoopScope

-- the remaining items of a list
abbrev pub RemainsOf : {X : Type 0} → Listing X → Before → Before → List X → List X → Building → Building → List ℕ → Type 0
RemainsOf l a b xs rest old now parts = Remains (l.trees a xs) (l.trees b rest) (l.spans xs) (l.spans rest) (l.names xs) (l.names rest) (l.loops a xs) (l.loops b rest) old now parts
