use Rattle.std.proofs.Common.{List, subst}
use Rattle.std.proofs.lemmas.List.{take_all}
use Rattle.axiom_strategy.specs.declared.typings.Typing.{Typing}
use Rattle.axiom_strategy.specs.Keyed.{AreListed}
use Rattle.axiom_strategy.specs.Vectors.{IsTypeFor}
use Rattle.axiom_strategy.proofs.KeyedLemmas.{no_pairs}
use Rattle.axiom_strategy.proofs.VectorLemmas.{no_types_for, type_taken}
use Rattle.axiom_strategy.proofs.vectors.types_by_term.Goals as goal

abbrev none : Typing
none = record { of = 0; term = 0 }

pub loop-typing-init : goal.loop-typing-init
loop-typing-init c = record {
  pairs = rw (c.new-types.ensures.lists, c.new-types.ensures.pairs) no_pairs;
  types = rw c.new-types.ensures.lists no_types_for;
}

pub add-requires : goal.add-requires
add-requires c = c.loop-typing.invariant.pairs

pub loop-typing-preserved : goal.loop-typing-preserved
loop-typing-preserved c = record {
  pairs = c.in_ok-add.ensures.pairs;
  types = type_taken c.args.typings.now c.loop-typing.typing-index none c.loop-typing-test.true c.loop-typing.invariant.types c.in_ok-add.ensures.more;
}

pub returns-clause-pairs : goal.returns-clause-pairs
returns-clause-pairs c = c.loop-typing.invariant.pairs

pub returns-clause-types : goal.returns-clause-types
returns-clause-types c =
    subst (λ (xs : List Typing). AreListed (IsTypeFor xs) c.loop-typing.types.lists) (take_all c.loop-typing.typing-index c.args.typings.now c.loop-typing-test.false) c.loop-typing.invariant.types
