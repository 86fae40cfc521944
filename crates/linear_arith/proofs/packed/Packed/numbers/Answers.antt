use Rattle.std.proofs.Common.{◌≡◌, length, pos, arith}
use Rattle.std.proofs.lemmas.List.{ext_get_or}
use Rattle.linear_arith.proofs.packed.Packed.numbers.Goals as goal

pub returns : goal.returns
returns c =
    let inv = c.loop.invariant in
    let numbers = c.loop.numbers.items in
    let len : length numbers ≡ c.args.count = omega arith in
    ext_get_or (pos 0) numbers c.args.self.now (omega (arith, len, c.requires)) (λ k l. inv.made k (omega (arith, len, l)))
