use Rattle.std.proofs.Common.{arith}
use Rattle.certificates.specs.CertData.{ClashClose}
use Rattle.closing_rules.proofs.ClosingLemmas.{too_long, clash_closes}
use Rattle.closing_rules.proofs.closings.closing.clash_closing.Goals as goal

pub returns-then-len-gt-MOST_ENTRIES : goal.returns-then-len-gt-MOST_ENTRIES
returns-then-len-gt-MOST_ENTRIES c = λ shapes ns b p is said denied. too_long shapes ns b c.args.chain.now is (ClashClose c.args.said c.args.denied) (clash_closes ns c.args.chain.now c.args.said c.args.denied p said denied) (omega (arith, c.len.ensures, c.if-len-gt-MOST_ENTRIES.true))

pub returns : goal.returns
returns c = λ shapes ns b p is said denied. c.closing.ensures shapes ns b is (clash_closes ns c.args.chain.now c.args.said c.args.denied p said denied)
