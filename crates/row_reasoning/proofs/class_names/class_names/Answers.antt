use Rattle.std.proofs.Common.{◌+◌, get_or, set, sym, subst, arith}
use Rattle.tableau.specs.PoolBranches.{branch_in}
use Rattle.tableau.proofs.BranchLemmas.{known_term}
use Rattle.tableau.proofs.NearLemmas.{nth_term}
use Rattle.row_reasoning.proofs.ClassNamesNameLemmas.{AreFirstNames, names_more, named_done}
use Rattle.row_reasoning.proofs.class_names.class_names.Goals as goal

pub class-requires : goal.class-requires
class-requires c =
    let n = get_or c.args.terms.now c.loop-number.number-index 0 in
    known_term c.args.pool.now c.one_number.ensures c.args.branch.now c.requires.over c.args.classes.now c.requires.classes n (nth_term c.args.pool.now (branch_in c.args.pool.now c.args.branch.now) c.args.terms.now c.requires.terms c.loop-number.number-index c.loop-number-test.true)

pub index_mut-requires : goal.index_mut-requires
index_mut-requires c =
    let w = (nth_term c.args.pool.now (branch_in c.args.pool.now c.args.branch.now) c.args.terms.now c.requires.terms c.loop-number.number-index c.loop-number-test.true).number.within in
    let l = c.loop-number.invariant.long in
    omega (arith, w, l)

pub loop-number-preserved : goal.loop-number-preserved
loop-number-preserved c =
    let n = get_or c.args.terms.now c.loop-number.number-index 0 in
    let w = (nth_term c.args.pool.now (branch_in c.args.pool.now c.args.branch.now) c.args.terms.now c.requires.terms c.loop-number.number-index c.loop-number-test.true).number.within in
    subst (λ v. AreFirstNames c.args.pool.now c.args.classes.now c.args.terms.now (c.loop-number.number-index + 1) (set c.loop-number.names.items n v)) (sym c.class.ensures) (names_more c.args.pool.now c.args.classes.now c.args.terms.now c.loop-number.number-index c.loop-number.names.items c.loop-number-test.true w c.loop-number.invariant)

pub returns : goal.returns
returns c = named_done c.args.pool.now c.one_number.ensures c.args.branch.now c.requires.over c.args.classes.now c.requires.classes c.exact.ensures c.args.terms.now c.requires.terms c.loop-number.number-index c.loop-number.names.items c.loop-number-test.false c.loop-number.invariant
