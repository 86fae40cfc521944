-- The meaning of the typing of a function or a constant.
use Rattle.std.specs.Prelude.{◌<◌, List, length, map, All}
use Rattle.program.specs.CodeNodes.{CodeNode}
use Rattle.typing_rules.specs.Answers.{System, IsUntypable, IsAmbiguous, IsTyped}
use Rattle.typing_rules.specs.Pools.{type_at, types}
use Rattle.typing_rules.specs.declared.type_pool.PoolType.{PoolType}
use Rattle.unification.specs.Choices.{AreTypes}
use Rattle.body_types.specs.Judged.{JudgedOf}
use Rattle.body_types.specs.declared.code.typing.CodeTyping.{CodeTyping}
use Rattle.body_types.specs.declared.code.typing.CodeTyping.TheVariants.{Untypable, Ambiguous, Typed}

abbrev pub TypingSays : System → List CodeNode → List PoolType → CodeTyping → Type 0
TypingSays s nodes pool Untypable = IsUntypable s
TypingSays s nodes pool (Ambiguous numbers judged) = IsAmbiguous s × AreTypes s pool numbers.items × JudgedOf s nodes judged
TypingSays s nodes pool (Typed numbers judged) = IsTyped s (map (type_at (types pool)) numbers) × All (λ n. n < length pool) numbers × JudgedOf s nodes judged
