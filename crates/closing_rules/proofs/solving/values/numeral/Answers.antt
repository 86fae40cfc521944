use Rattle.std.proofs.Common.{rules, FitsSigned, subst}
use Rattle.std.specs.Int.{w128}
use Rattle.std.proofs.lemmas.Int.{to_z-of_z}
use Rattle.term_pool.proofs.GrowthLemmas.{if_ok}
use Rattle.closing_rules.specs.Bounds.{IsNumeral}
use Rattle.closing_rules.proofs.BoundLemmas.{numeral_made}
use Rattle.closing_rules.proofs.solving.values.numeral.Goals as goal

pub returns-clause-is : goal.returns-clause-is
returns-clause-is c =
    let f : FitsSigned w128 c.args.value = search rules in
    if_ok c.insert.result (λ n made. subst (λ v. IsNumeral c.insert.new.self v n) (to_z-of_z w128 c.args.value f) (numeral_made c.insert.new.self _ n made)) c.insert.ensures.is
