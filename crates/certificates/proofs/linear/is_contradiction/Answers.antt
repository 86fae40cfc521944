use Rattle.certificates.specs.Branch.{entries_of}
use Rattle.certificates.proofs.LinearLemmas.{last_test, positive_at}
use Rattle.certificates.proofs.linear.is_contradiction.Goals as goal

pub returns : goal.returns
returns c =
    last_test (entries_of c.args.branch.now) c.args.multiples.now _ _ _ c.may_all_count.ensures c.if-not-may_all_count.false (positive_at _ _ _ c.total.ensures c.is_positive.ensures) c.if-not-is_positive.false c.all_cancel.ensures
