use Rattle.std.proofs.Common.{◌≡◌, length, arith}
use Rattle.certificates.proofs.QuantifiedLemmas.{two_of, cut_test}
use Rattle.certificates.proofs.tableau.are_cut.Goals as goal

pub returns-in-len2 : goal.returns-in-len2
returns-in-len2 c =
    let cases = c.args.cases.now in
    let len : length cases ≡ 2 = omega (arith, c.in-len2.len_at_least, c.in-len2.len_below) in
    let two = two_of cases c.first-item.result c.second-item.result len c.first-item.is c.second-item.is in
    cut_test cases _ _ _ two c.is_negation.ensures
