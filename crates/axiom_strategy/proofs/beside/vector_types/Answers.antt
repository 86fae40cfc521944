use Rattle.std.proofs.Common.{List, sym, subst}
use Rattle.std.proofs.lemmas.List.{take_all}
use Rattle.axiom_strategy.specs.declared.typings.Typing.{Typing}
use Rattle.axiom_strategy.specs.Beside.{AreVectorTypes}
use Rattle.axiom_strategy.proofs.BesideLemmas.{none_seen, no_types, one_more_type, no_more_type}
use Rattle.axiom_strategy.proofs.beside.vector_types.Goals as goal

abbrev none : Typing
none = record { of = 0; term = 0 }

pub loop-typing-init : goal.loop-typing-init
loop-typing-init c = record {
  seen = rw (c.new-seen.ensures.empty, c.new-types.ensures.items) none_seen;
  are = rw c.new-types.ensures.items (no_types c.args.pool.now);
}

pub add_new-requires : goal.add_new-requires
add_new-requires c = c.loop-typing.invariant.seen

pub loop-typing-preserved-then-not-is_vector_type : goal.loop-typing-preserved-then-not-is_vector_type
loop-typing-preserved-then-not-is_vector_type c = record {
  seen = c.loop-typing.invariant.seen;
  are = no_more_type c.args.pool.now c.args.typings.now c.loop-typing.typing-index none c.loop-typing-test.true c.loop-typing.invariant.are (sym c.if-not-is_vector_type.ensures);
}

pub loop-typing-preserved : goal.loop-typing-preserved
loop-typing-preserved c = record {
  seen = c.in_ok-add_new.ensures.seen;
  are = one_more_type c.args.pool.now c.args.typings.now c.loop-typing.typing-index none c.loop-typing-test.true c.loop-typing.invariant.are (sym c.if-not-is_vector_type.ensures) c.in_ok-add_new.ensures.has;
}

pub returns : goal.returns
returns c =
    subst (λ (xs : List Typing). AreVectorTypes c.args.pool.now xs c.loop-typing.types.items) (take_all c.loop-typing.typing-index c.args.typings.now c.loop-typing-test.false) c.loop-typing.invariant.are
