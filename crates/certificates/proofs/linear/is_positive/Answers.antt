use Rattle.std.proofs.lemmas.Int.{to_z-of_z}
use mir.Val.{SFits}
use mir.Syntax.{w128}
use Rattle.std.proofs.Common.{rules}
use Rattle.certificates.proofs.LinearLemmas.{positive_some}
use Rattle.certificates.proofs.linear.is_positive.Goals as goal

pub returns-in-Some : goal.returns-in-Some
returns-in-Some c =
    let fits : SFits w128 c.in-Some.z = search rules in
    positive_some _ _ _ c.in-Some.is (simp to_z-of_z at c.is_above_zero.ensures)
