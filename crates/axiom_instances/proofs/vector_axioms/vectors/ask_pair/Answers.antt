use Rattle.std.proofs.Common.{[], subst}
use Rattle.std.specs.Prelude.{MatchOption}
use Rattle.axiom_instances.specs.Numbers.{term_at, type_at}
use Rattle.axiom_instances.proofs.ListLemmas.{adds_none}
use Rattle.axiom_instances.specs.Fresh.{HasNoFresh, IsFresh}
use Rattle.axiom_instances.proofs.FreshLemmas.{pair_here, no_fresh, no_vectors}
use Rattle.axiom_instances.proofs.vector_axioms.vectors.ask_pair.Goals as goal

pub returns-in_default-clause-adds : goal.returns-in_default-clause-adds
returns-in_default-clause-adds c = record {
  instances = [];
  adds = adds_none _ _;
  exactly = no_vectors (term_at c.args.pool.now c.args.vector) (term_at c.args.pool.now c.args.other) c.in_default.ensures;
}

pub returns-in_default-2-clause-adds : goal.returns-in_default-2-clause-adds
returns-in_default-2-clause-adds c =
    let v = term_at c.args.pool.now c.args.vector in
    let u = term_at c.args.pool.now c.args.other in
    let none : HasNoFresh v u = subst (λ o. MatchOption o (HasNoFresh v u) (IsFresh v u)) c.in_default-2.is c.in_ok-position.ensures in
    record { instances = []; adds = adds_none _ _; exactly = no_fresh (type_at c.args.pool.now c.args.of) v u none }

pub returns-clause-adds : goal.returns-clause-adds
returns-clause-adds c =
    let v = term_at c.args.pool.now c.args.vector in
    let u = term_at c.args.pool.now c.args.other in
    let fresh : IsFresh v u c.in-Some-2.position = subst (λ o. MatchOption o (HasNoFresh v u) (IsFresh v u)) c.in-Some-2.is c.in_ok-position.ensures in
    record { instances = _; adds = c.in_ok-ask_same_items.ensures.adds; exactly = pair_here v u c.in-Some-2.position c.in-Some.ensures fresh.least fresh.is_variable }
