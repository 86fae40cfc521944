use Rattle.std.proofs.Common.{pos}
use Rattle.certificates.specs.Branch.{entries_of}
use Rattle.certificates.specs.Linear.{MayCount}
use Rattle.certificates.specs.declared.certificate.Multiple.{Multiple}
use Rattle.certificates.proofs.LinearLemmas.{one_more, all_pass}
use Rattle.certificates.proofs.linear.may_all_count.Goals as goal

pub loop-multiple-preserved : goal.loop-multiple-preserved
loop-multiple-preserved c =
    let none : Multiple = record { entry = 0; multiplier = pos 0 } in
    one_more (MayCount (entries_of c.args.branch.now)) _ _ none _ c.loop-multiple-test.true c.may_count.ensures c.if-not-may_count.false c.loop-multiple.invariant

pub returns : goal.returns
returns c =
    all_pass (MayCount (entries_of c.args.branch.now)) _ _ c.loop-multiple-test.false c.loop-multiple.invariant
