use Rattle.std.proofs.Common.{◌∙◌, arith}
use Rattle.certificates.specs.CertView.{close_of_node}
use Rattle.closing_rules.proofs.ClosingLemmas.{too_long, chain_closes}
use Rattle.closing_rules.proofs.closings.closing.closing.Goals as goal

pub returns-then-len-gt-MOST_ENTRIES : goal.returns-then-len-gt-MOST_ENTRIES
returns-then-len-gt-MOST_ENTRIES c = λ shapes ns b is closes. too_long shapes ns b c.args.chain.now is (close_of_node c.args.by) closes (omega (arith, c.len.ensures, c.if-len-gt-MOST_ENTRIES.true))

pub returns : goal.returns
returns c = λ shapes ns b is closes. chain_closes shapes ns b c.args.chain.now is (record { chain = c.in_ok-steps.steps; by = c.args.by }) (c.in_ok-steps.ensures ∙ c.steps.ensures) closes (omega (arith, c.len.ensures, c.if-len-gt-MOST_ENTRIES.false))
