use Rattle.std.proofs.Common.{map, length, arith}
use Rattle.certificates.specs.BranchesBranch.{formulas}
use Rattle.explanations.specs.Chains.{formula_at}
use Rattle.closing_rules.proofs.ClosingLemmas.{rows_too_long, few_positions}
use Rattle.closing_rules.proofs.closings.rows.rows_closing.Goals as goal

pub returns-then-len-gt-MOST_ENTRIES : goal.returns-then-len-gt-MOST_ENTRIES
returns-then-len-gt-MOST_ENTRIES c = λ shapes ns b class classes chosen rows chain are from contradiction placed.
    rows_too_long shapes ns b c.args.chain.now chain class classes chosen are rows c.args.origins.now from c.args.multipliers.now contradiction c.args.positions.now c.requires.one_each placed (omega (arith, c.len.ensures, c.if-len-gt-MOST_ENTRIES.true))

pub multiples-requires-clause-within : goal.multiples-requires-clause-within
multiples-requires-clause-within c = few_positions (length c.args.chain.now.formulas) c.args.positions.now c.requires.below (omega (arith, c.len.ensures, c.if-len-gt-MOST_ENTRIES.false))

pub returns : goal.returns
returns c = λ shapes ns b class classes chosen rows chain are from contradiction placed.
    c.closing.ensures shapes ns b chain (c.rows_close.ensures class classes chosen (formulas b) (map (formula_at ns) c.args.chain.now.formulas) rows c.args.origins.now c.args.multipliers.now c.in_ok-cited.cited.items are from contradiction (c.in_ok-cited.ensures class chosen (formulas b) (map (formula_at ns) c.args.chain.now.formulas) placed))
