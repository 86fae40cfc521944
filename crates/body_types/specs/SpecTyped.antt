-- The meaning of the typing of a clause or a spec function.
use Rattle.std.specs.Prelude.{◌<◌, All, List, length, map}
use Rattle.typing_rules.specs.Answers.{System, IsUntypable, IsAmbiguous, IsTyped}
use Rattle.typing_rules.specs.Pools.{type_at, types}
use Rattle.typing_rules.specs.declared.type_pool.PoolType.{PoolType}
use Rattle.unification.specs.Choices.{AreTypes}
use Rattle.body_types.specs.declared.spec.typing.SpecTyping.{SpecTyping}
use Rattle.body_types.specs.declared.spec.typing.SpecTyping.TheVariants.{Untypable, Ambiguous, Typed}

abbrev pub SpecTypingSays : System → List PoolType → SpecTyping → Type 0
SpecTypingSays s pool Untypable = IsUntypable s
SpecTypingSays s pool (Ambiguous numbers) = IsAmbiguous s × AreTypes s pool numbers.items
SpecTypingSays s pool (Typed numbers) = IsTyped s (map (type_at (types pool)) numbers) × All (λ n. n < length pool) numbers
