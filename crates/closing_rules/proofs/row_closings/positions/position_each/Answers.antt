use Rattle.std.proofs.Common.{take, refl, sym, ◌∙◌, subst, arith}
use Rattle.std.proofs.lemmas.List.{length-set, take_all}
use Rattle.term_pool.proofs.GrowthLemmas.{extends_itself, extends_then}
use Rattle.tableau.specs.PoolBranches.{branch_in}
use Rattle.explanations.proofs.ChainLemmas.{keeps_itself}
use Rattle.explanations.specs.Replacing.{CanReplaceAt, CanBeginEach}
use Rattle.explanations.proofs.GrowthLemmas.{keeps_then}
use Rattle.explanations.proofs.RouteLemmas.{at_index}
use Rattle.closing_rules.specs.Rewritings.{ArePlacedBy}
use Rattle.closing_rules.proofs.PlacedLemmas.{ready_later, replaced_back, position_within, entry_within, none_placed, one_placed, placed_read}
use Rattle.closing_rules.proofs.row_closings.positions.position_each.Goals as goal

pub loop-rewriting-init : goal.loop-rewriting-init
loop-rewriting-init c = record {
  extends = extends_itself c.args.pool.now;
  has_positions = c.requires.positions;
  keeps = keeps_itself c.args.chain.now;
  chain = c.requires.chain;
  long = c.in_ok-positions.ensures.long ∙ c.len.ensures;
  placed = none_placed c.args.pool.now c.args.chain.now c.args.numbers.now c.args.rewritings.now c.args.pool.now c.args.chain.now c.in_ok-positions.positions.items c.in_ok-positions.ensures.none;
}

pub replace_each-requires-clause-replaced : goal.replace_each-requires-clause-replaced
replace_each-requires-clause-replaced c =
    let r = c.rewriting-item.result in
    let found = at_index c.args.rewritings.now c.loop-rewriting.rewriting-index c.rewriting-item.result c.rewriting-item.result c.loop-rewriting-test.true c.rewriting-item.is in
    let ready = ready_later c.args.pool.now c.loop-rewriting.pool c.loop-rewriting.invariant.extends (branch_in c.args.pool.now c.args.branch.now) c.args.chain.now c.loop-rewriting.chain c.loop-rewriting.invariant.keeps c.requires.chain c.args.numbers.now c.args.table.now r (c.requires.ready.each c.loop-rewriting.rewriting-index r found) in
    subst (CanReplaceAt c.loop-rewriting.pool c.loop-rewriting.chain c.args.numbers.now c.args.table.now r.entry) (sym c.as_slice-differences.ensures.value) ready.can

pub index_mut-requires : goal.index_mut-requires
index_mut-requires c =
    let r = c.rewriting-item.result in
    let found = at_index c.args.rewritings.now c.loop-rewriting.rewriting-index c.rewriting-item.result c.rewriting-item.result c.loop-rewriting-test.true c.rewriting-item.is in
    let w = entry_within c.args.pool.now c.args.chain.now c.args.numbers.now r.entry r.differences.items c.args.table.now (c.requires.ready.each c.loop-rewriting.rewriting-index r found).can in
    let l = c.loop-rewriting.invariant.long in
    omega (arith, w, l)

pub loop-rewriting-preserved : goal.loop-rewriting-preserved
loop-rewriting-preserved c =
    let r = c.rewriting-item.result in
    let found = at_index c.args.rewritings.now c.loop-rewriting.rewriting-index c.rewriting-item.result c.rewriting-item.result c.loop-rewriting-test.true c.rewriting-item.is in
    let b = branch_in c.args.pool.now c.args.branch.now in
    let before = c.requires.ready.each c.loop-rewriting.rewriting-index r found in
    let ready = ready_later c.args.pool.now c.loop-rewriting.pool c.loop-rewriting.invariant.extends (branch_in c.args.pool.now c.args.branch.now) c.args.chain.now c.loop-rewriting.chain c.loop-rewriting.invariant.keeps c.requires.chain c.args.numbers.now c.args.table.now r before in
    let w = entry_within c.args.pool.now c.args.chain.now c.args.numbers.now r.entry r.differences.items c.args.table.now before.can in
    let l = c.loop-rewriting.invariant.long in
    let is = replaced_back c.args.pool.now c.loop-rewriting.pool c.loop-rewriting.invariant.extends (branch_in c.args.pool.now c.args.branch.now) c.args.chain.now c.loop-rewriting.chain c.loop-rewriting.invariant.keeps c.requires.chain c.args.numbers.now c.replace_each.new.pool c.replace_each.new.chain r.entry c.in_ok-position.position c.as_slice-differences.result.now r.differences.items c.as_slice-differences.ensures.value (λ n d f. (before.can.each n d f).is) c.in_ok-position.ensures.at in
    let begin = subst (CanBeginEach c.loop-rewriting.pool (branch_in c.args.pool.now c.args.branch.now) c.loop-rewriting.chain c.args.numbers.now) (sym c.as_slice-differences.ensures.value) ready.begin in
    record {
      extends = extends_then c.loop-rewriting.invariant.extends c.replace_each.ensures.extends;
      has_positions = c.in_ok-position.ensures.positions;
      keeps = keeps_then c.args.chain.now c.loop-rewriting.chain c.replace_each.new.chain c.loop-rewriting.invariant.keeps c.in_ok-position.ensures.keeps;
      chain = c.in_ok-position.ensures.chain b c.loop-rewriting.invariant.chain begin;
      long = length-set c.loop-rewriting.positions.items r.entry _ ∙ l;
      placed = placed_read c.args.pool.now c.args.chain.now c.args.numbers.now c.args.rewritings.now c.loop-rewriting.rewriting-index r r c.replace_each.new.pool c.replace_each.new.chain _ _ c.loop-rewriting-test.true c.rewriting-item.is refl
          (one_placed c.args.pool.now c.args.chain.now c.args.numbers.now (take c.loop-rewriting.rewriting-index c.args.rewritings.now) c.loop-rewriting.pool c.replace_each.new.pool c.replace_each.ensures.extends b c.loop-rewriting.chain c.replace_each.new.chain c.in_ok-position.ensures.keeps c.loop-rewriting.invariant.chain c.loop-rewriting.positions.items c.loop-rewriting.invariant.placed r c.in_ok-position.position is
          (position_within c.args.pool.now c.args.chain.now c.args.numbers.now r.entry r.differences.items c.args.table.now c.replace_each.new.pool c.replace_each.new.chain c.in_ok-position.position before.can is)
          (omega (arith, w, l)));
    }

pub returns-clause-placed : goal.returns-clause-placed
returns-clause-placed c = subst (λ rs. ArePlacedBy c.args.pool.now c.args.chain.now c.args.numbers.now rs c.loop-rewriting.pool c.loop-rewriting.chain c.loop-rewriting.positions.items) (take_all c.loop-rewriting.rewriting-index c.args.rewritings.now c.loop-rewriting-test.false) c.loop-rewriting.invariant.placed
