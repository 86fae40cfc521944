use Rattle.std.proofs.Common.{get_or, refl, sym, subst}
use Rattle.term_pool.specs.declared.node.Two.TheVariants.{Is as IsHead}
use Rattle.term_pool.specs.declared.node.Node.TheVariants.{Two as TwoNode}
use Rattle.tableau.specs.PoolBranches.{branch_in}
use Rattle.ematching.specs.Heads.{HasHead}
use Rattle.ematching.specs.Listed.{AreThose}
use Rattle.ematching.proofs.ListLemmas.{among_get_or}
use Rattle.ematching.proofs.TypeLemmas.{typings_begun, typings_skip, typings_push, typings_done}
use Rattle.ematching.proofs.types.typed_terms.Goals as goal

pub with_head-requires : goal.with_head-requires
with_head-requires c = record { nodes = c.args.pool.now; index = c.requires.index }

pub loop-formula-init : goal.loop-formula-init
loop-formula-init c = typings_begun c.args.pool.now (branch_in c.args.pool.now c.args.branch.now) c.args.type_number c.deref-formula-items.result.now c.args.found.now c.args.found.now refl

pub typed_by-requires : goal.typed_by-requires
typed_by-requires c =
    let those = subst (AreThose (HasHead c.args.pool.now (TwoNode IsHead c.args.type_number 0))) (sym c.deref-formula-items.ensures.value) (c.in_ok-formulas.ensures c.args.pool.now c.requires.index) in
    record { over = c.requires.over; head = (those.each (get_or c.deref-formula-items.result.now c.loop-formula.formula-index 0)).0 (among_get_or c.deref-formula-items.result.now c.loop-formula.formula-index 0 c.loop-formula-test.true) }

pub loop-formula-preserved-in_default : goal.loop-formula-preserved-in_default
loop-formula-preserved-in_default c = typings_skip c.args.pool.now (branch_in c.args.pool.now c.args.branch.now) c.args.type_number c.deref-formula-items.result.now c.args.found.now c.loop-formula.formula-index c.loop-formula-test.true c.loop-formula.found c.loop-formula.found c.loop-formula.invariant refl c.in_default.ensures

pub loop-formula-preserved : goal.loop-formula-preserved
loop-formula-preserved c = typings_push c.args.pool.now (branch_in c.args.pool.now c.args.branch.now) c.args.type_number c.deref-formula-items.result.now c.args.found.now c.loop-formula.formula-index c.loop-formula-test.true c.loop-formula.found c.insert.new.self c.loop-formula.invariant c.in-Some.term c.in-Some.ensures c.in_ok-insert.ensures

pub returns : goal.returns
returns c =
    let those = subst (AreThose (HasHead c.args.pool.now (TwoNode IsHead c.args.type_number 0))) (sym c.deref-formula-items.ensures.value) (c.in_ok-formulas.ensures c.args.pool.now c.requires.index) in
    typings_done c.args.pool.now c.one_number.ensures c.args.branch.now c.requires.over c.args.type_number c.requires.type_number c.deref-formula-items.result.now c.args.found.now c.loop-formula.found c.loop-formula.formula-index c.loop-formula-test.false those c.loop-formula.invariant
