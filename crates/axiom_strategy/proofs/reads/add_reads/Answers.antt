use Rattle.std.proofs.Common.{sym}
use Rattle.tableau.specs.PoolBranches.{branch_in}
use Rattle.tableau.proofs.BranchLemmas.{known_term}
use Rattle.axiom_strategy.proofs.ReadLemmas.{base_term}
use Rattle.axiom_strategy.proofs.ReadAskLemmas.{none_read, some_read}
use Rattle.axiom_strategy.proofs.reads.add_reads.Goals as goal

pub returns-in_default : goal.returns-in_default
returns-in_default c =
    none_read c.args.pool.now (branch_in c.args.pool.now c.args.branch.now) c.args.term c.term_form-form.result c.args.askers.now.items c.term_form-form.ensures (sym c.in_default.ensures)

pub keys-requires : goal.keys-requires
keys-requires c = known_term c.args.pool.now c.one_number.ensures c.args.branch.now c.requires.over c.args.classes.now c.requires.classes c.args.term c.requires.term

pub keys-requires-2 : goal.keys-requires-2
keys-requires-2 c =
    let ns = c.args.pool.now in
    known_term ns c.one_number.ensures c.args.branch.now c.requires.over c.args.classes.now c.requires.classes c.in-Some.base (base_term ns (branch_in ns c.args.branch.now) c.args.term c.term_form-form.result (c.in-Some.reading, c.in-Some.base) c.requires.term.stands c.term_form-form.ensures (sym c.in-Some.ensures))

pub returns : goal.returns
returns c =
    let own = rw (c.as_slice.ensures.value, c.in_ok-own.ensures) at c.in_ok-add_keys.ensures in
    let others = rw (c.as_slice-2.ensures.value, c.in_ok-others.ensures) at c.in_ok-add_keys-2.ensures in
    some_read c.args.pool.now c.one_number.ensures c.args.branch.now c.requires.over c.args.classes.now c.requires.classes c.exact.ensures c.args.index.now c.requires.index c.args.term c.requires.term c.term_form-form.result c.term_form-form.ensures c.in-Some.reading c.in-Some.base (sym c.in-Some.ensures) c.args.askers.now.items _ _ own others
