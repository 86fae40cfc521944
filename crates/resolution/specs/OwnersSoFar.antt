-- The owners of a module's spec blocks, after some of its members.
use Rattle.std.specs.Prelude.{◌≡◌, ℕ, ◌+◌, true, List, [], ◌∷◌, ◌++◌, length}
use Rattle.syntax_tree.specs.SourceData.{SourceMemberData}
use Rattle.syntax_tree.specs.declared.clause.Spec.{Spec as SpecTree}
use Rattle.scopes.specs.declared.member.NameOfKind.{NameOfKind}
use Rattle.body_names.specs.declared.spec.outer.OuterName.{OuterName}
use Rattle.resolution.specs.declared.clauses.Target.{Target}
use Rattle.resolution.specs.Clauses.{AddedClauses}
use Rattle.resolution.specs.declared.owners.Owner.{Owner}
use Rattle.resolution.specs.Items.{Here}
use Rattle.resolution.specs.Owners.{OwnerScope, blocks_among, if_number, member_numbers, owner_of, owner_scopes, settings_in, sources_in}

-- an owner without clauses
abbrev pub fresh : List OuterName → Target
fresh around = record { outer = around; clauses = [] }

-- the owner after these of its blocks
pub record IsOwnerAfter (w : OwnerScope) (blocks : List SpecTree) (owner : Owner) : Type 0 where
  pub parameters : owner.parameters.items ≡ w.scope.types.parameters
  pub clauses : AddedClauses w.scope (sources_in blocks) (fresh w.around) owner.target
  pub settings : owner.settings ≡ settings_in blocks

-- the context of an owner in this module
pub record StandsIn (w : Here) (owner : OwnerScope) : Type 0 where
  pub environment : owner.scope.types.environment ≡ w.environment
  pub is_spec : owner.scope.types.is_spec ≡ true
  pub schemas : owner.scope.schemas ≡ w.schemas

-- owners, the first of which has index n, each after the blocks of its index
abbrev pub AreOwnersFrom : (ℕ → List SpecTree) → ℕ → List OwnerScope → List Owner → Type 0
AreOwnersFrom blocks n [] [] = Unit {0}
AreOwnersFrom blocks n [] (o ∷ os) = ⊥
AreOwnersFrom blocks n (w ∷ ws) [] = ⊥
AreOwnersFrom blocks n (w ∷ ws) (o ∷ os) = IsOwnerAfter w (blocks n) o × AreOwnersFrom blocks (n + 1) ws os

-- the blocks among the first members of a module that belong to the owner with this index
abbrev pub blocks_before : Here → List SourceMemberData → ℕ → List SpecTree
blocks_before w first n = blocks_among (member_numbers w.members) (length w.members) n first

-- the same with one more block
abbrev pub blocks_with : Here → List SourceMemberData → SpecTree → ℕ → List SpecTree
blocks_with w first spec n =
    blocks_before w first n ++ if_number n (owner_of (member_numbers w.members) (length w.members) spec) spec

abbrev pub scopes_of : Here → List OwnerScope
scopes_of w = owner_scopes w.environment w.schemas w.members

-- all owners of a module, each after its blocks
pub record AreOwners (w : Here) (blocks : ℕ → List SpecTree) (owners : List Owner) : Type 0 where
  pub are : AreOwnersFrom blocks 0 (scopes_of w) owners

-- the indices of members by name
pub record AreNumbers (w : Here) (numbers : List (NameOfKind × ℕ)) : Type 0 where
  pub are : numbers ≡ member_numbers w.members
