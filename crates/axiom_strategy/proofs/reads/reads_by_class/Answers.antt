use Rattle.std.proofs.Common.{ℕ, List, get_or, sym, subst}
use Rattle.std.proofs.lemmas.List.{take_all}
use Rattle.tableau.specs.PoolBranches.{branch_in}
use Rattle.tableau.proofs.BranchLemmas.{known_term}
use Rattle.tableau.proofs.NearLemmas.{nth_term}
use Rattle.axiom_strategy.specs.Keyed.{AreListed}
use Rattle.axiom_strategy.specs.Reads.{IsReadOf}
use Rattle.axiom_strategy.proofs.KeyedLemmas.{no_pairs}
use Rattle.axiom_strategy.proofs.ReadLemmas.{binary_terms, read_form, no_read_form}
use Rattle.axiom_strategy.proofs.ReadClassLemmas.{no_reads, read_passed, read_taken}
use Rattle.axiom_strategy.proofs.reads.reads_by_class.Goals as goal

pub loop-number-init : goal.loop-number-init
loop-number-init c = record {
  pairs = rw (c.new-sets.ensures.lists, c.new-sets.ensures.pairs) no_pairs;
  reads = rw c.new-sets.ensures.lists (no_reads c.args.pool.now c.args.classes.now c.args.reading);
}

pub class-of-requires : goal.class-of-requires
class-of-requires c =
    let ns = c.args.pool.now in
    let i = c.loop-number.number-index in
    let read = read_form ns (get_or c.args.terms.now i 0) c.args.reading c.term_form-form.result (c.in-Some.from, c.in-Some.position) c.term_form-form.ensures (sym c.in-Some.ensures) in
    known_term ns c.one_number.ensures c.args.branch.now c.requires.over c.args.classes.now c.requires.classes c.in-Some.from (binary_terms (nth_term ns (branch_in ns c.args.branch.now) c.args.terms.now c.requires.terms i c.loop-number-test.true) read).0

pub class-class-requires : goal.class-class-requires
class-class-requires c =
    let ns = c.args.pool.now in
    let i = c.loop-number.number-index in
    let read = read_form ns (get_or c.args.terms.now i 0) c.args.reading c.term_form-form.result (c.in-Some.from, c.in-Some.position) c.term_form-form.ensures (sym c.in-Some.ensures) in
    known_term ns c.one_number.ensures c.args.branch.now c.requires.over c.args.classes.now c.requires.classes c.in-Some.position (binary_terms (nth_term ns (branch_in ns c.args.branch.now) c.args.terms.now c.requires.terms i c.loop-number-test.true) read).1

pub add-requires : goal.add-requires
add-requires c = c.loop-number.invariant.pairs

pub loop-number-preserved-in_default : goal.loop-number-preserved-in_default
loop-number-preserved-in_default c = record {
  pairs = c.loop-number.invariant.pairs;
  reads =
      read_passed c.args.pool.now c.args.classes.now c.args.reading c.args.terms.now c.loop-number.number-index c.loop-number-test.true c.loop-number.invariant.reads
      (no_read_form c.args.pool.now c.one_number.ensures (get_or c.args.terms.now c.loop-number.number-index 0) c.args.reading c.term_form-form.result c.term_form-form.ensures (sym c.in_default.ensures));
}

pub loop-number-preserved : goal.loop-number-preserved
loop-number-preserved c =
    let ns = c.args.pool.now in
    let i = c.loop-number.number-index in
    let read = read_form ns (get_or c.args.terms.now i 0) c.args.reading c.term_form-form.result (c.in-Some.from, c.in-Some.position) c.term_form-form.ensures (sym c.in-Some.ensures) in
    record {
      pairs = c.in_ok-add.ensures.pairs;
      reads = read_taken ns c.args.classes.now c.args.reading c.args.terms.now i c.loop-number-test.true c.one_number.ensures c.in-Some.from c.in-Some.position c.class-of.ensures c.class-class.ensures read c.loop-number.invariant.reads c.in_ok-add.ensures.more;
    }

pub returns : goal.returns
returns c =
    subst (λ (xs : List ℕ). AreListed (IsReadOf c.args.pool.now c.args.classes.now c.args.reading xs) c.loop-number.sets.lists) (take_all c.loop-number.number-index c.args.terms.now c.loop-number-test.false) c.loop-number.invariant.reads
