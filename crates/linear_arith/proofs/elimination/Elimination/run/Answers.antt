use Rattle.std.proofs.Common.{ap, ◌∙◌, ℕ, List, length, [], ◌∷◌, arith, length-append}
use Rattle.linear_arith.proofs.GrowthLemmas.{unknowns_within}
use Rattle.linear_arith.proofs.WholeLemmas.{all_stages}
use Rattle.linear_arith.proofs.elimination.Elimination.run.Goals as goal

pub loop-unknown-smaller : goal.loop-unknown-smaller
loop-unknown-smaller c =
    let system = c.args.system.now in
    let within = unknowns_within system.width system.rows.now c.eliminate.new.self c.in_ok-eliminate.ensures.caught_up in
    let len = ap (λ (us : List ℕ). length us) c.in_ok-eliminate.ensures.unknowns ∙ length-append c.loop-unknown.self.unknowns.items (c.in-Some.unknown ∷ []) in
    omega (arith, within, len)

pub returns-clause-stages : goal.returns-clause-stages
returns-clause-stages c =
    let system = c.args.system.now in
    let inv = c.loop-unknown.invariant in
    all_stages system.width system.rows.now c.loop-unknown.self inv.under_way inv.caught_up inv.stages c.in_default.ensures.none
