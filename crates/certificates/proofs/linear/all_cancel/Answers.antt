use Rattle.std.proofs.Common.{pos}
use Rattle.certificates.specs.Branch.{entries_of}
use Rattle.certificates.specs.Unknowns.{Cancels}
use Rattle.certificates.specs.declared.certificate.Multiple.{Multiple}
use Rattle.certificates.proofs.LinearLemmas.{one_more, all_pass, gone_at}
use Rattle.certificates.proofs.linear.all_cancel.Goals as goal

pub loop-multiple-preserved : goal.loop-multiple-preserved
loop-multiple-preserved c =
    let none : Multiple = record { entry = 0; multiplier = pos 0 } in
    one_more (Cancels (entries_of c.args.branch.now) c.args.multiples.now) _ _ none _ c.loop-multiple-test.true (gone_at (entries_of c.args.branch.now) c.args.multiples.now _ _ _ c.row_at.ensures c.row_cancels.ensures) c.if-not-row_cancels.false c.loop-multiple.invariant

pub returns : goal.returns
returns c =
    all_pass (Cancels (entries_of c.args.branch.now) c.args.multiples.now) _ _ c.loop-multiple-test.false c.loop-multiple.invariant
