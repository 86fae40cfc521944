use Rattle.std.proofs.Common.{◌++◌, ap, ◌∙◌, List, ℤ, replicate, pos}
use Rattle.linear_arith.proofs.PackedLemmas.{spread_zeros}
use Rattle.linear_arith.proofs.packed.Packed.push_zeros.Goals as goal

pub returns : goal.returns
returns c =
    let inside = c.self.inside in
    spread_zeros inside.entries.items inside.zeros c.args.count ∙ ap (λ (xs : List ℤ). xs ++ replicate c.args.count (pos 0)) c.self.view_is
