-- Instances of schemas with their numbers.
use Rattle.std.specs.Prelude.{◌≡◌, ◌⊎◌, ℕ, List, [], ◌∷◌, ◌++◌, map, Some, slice_get}
use Rattle.type_constraints.specs.Blocks.{block_of}
use Rattle.term_pool.specs.Items.{TypesItem}
use Rattle.term_pool.specs.Pools.{IsItem}
use Rattle.term_pool.specs.declared.node.Node.{Node}
use Rattle.type_check.specs.ClausesInstances as I
use Rattle.type_check.specs.Judged.{instance_of}
use Rattle.type_check.specs.declared.clauses.instance.Instance.{Instance}
use Rattle.type_check.specs.declared.schemas.known.InstanceKey.{InstanceKey}
use Rattle.type_check.specs.declared.schemas.known.KnownInstances.{KnownInstances}

-- the instances, in order
abbrev pub listed : KnownInstances → List I.Instance
listed known = map (λ e. instance_of e.1) known.entries

-- the identity of an instance: its types are those of the list with this number
pub record IsKeyOf (pool : List Node) (key : InstanceKey) (i : I.Instance) : Type 0 where
  pub schema : key.schema ≡ i.schema
  pub block : block_of key.block ≡ i.block
  pub types : IsItem pool key.types (TypesItem i.types)

-- each instance has its key
abbrev pub IsKeyed : KnownInstances → Type 0
IsKeyed known = (n : ℕ) (e : InstanceKey × Instance) → slice_get known.entries n ≡ Some e → IsKeyOf known.pool e.0 (instance_of e.1)

-- the instance has this number, possibly as one more
pub record IsPut (old new : List I.Instance) (i : I.Instance) (number : ℕ) : Type 0 where
  pub there : slice_get new number ≡ Some i
  pub others : (new ≡ old) ⊎ (new ≡ old ++ i ∷ [])
