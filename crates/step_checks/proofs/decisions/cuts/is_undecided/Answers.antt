use Rattle.tableau.proofs.BranchLemmas.{known_term}
use Rattle.step_checks.proofs.CutLemmas.{one_class, two_classes}
use Rattle.step_checks.proofs.decisions.cuts.is_undecided.Goals as goal

pub class-one-requires : goal.class-one-requires
class-one-requires c = known_term c.args.pool.now c.one_number.ensures c.args.branch.now c.requires.over c.args.classes.now c.requires.classes c.args.left c.requires.left

pub class-other-requires : goal.class-other-requires
class-other-requires c = known_term c.args.pool.now c.one_number.ensures c.args.branch.now c.requires.over c.args.classes.now c.requires.classes c.args.right c.requires.right

pub returns-then-one-other : goal.returns-then-one-other
returns-then-one-other c =
    one_class c.args.pool.now c.one_number.ensures c.args.branch.now c.requires.over c.args.classes.now c.requires.classes c.exact.ensures c.args.left c.args.right c.requires.left c.requires.right c.class-one.result c.class-other.result c.class-one.ensures c.class-other.ensures c.if-one-other.true

pub returns : goal.returns
returns c =
    two_classes c.args.pool.now c.one_number.ensures c.args.branch.now c.requires.over c.args.classes.now c.requires.classes c.exact.ensures c.args.left c.args.right c.requires.left c.requires.right c.class-one.result c.class-other.result c.class-one.ensures c.class-other.ensures c.if-one-other.false c.is_denied.result c.is_denied.ensures
