use Rattle.std.proofs.Common.{◌≡◌, true, false}
use Rattle.ematching.proofs.HeldLemmas.{if_ok, all_candidates, head_candidates}
use Rattle.ematching.proofs.rows.candidates.Goals as goal

pub returns-then-is_bound : goal.returns-then-is_bound
returns-then-is_bound c =
    if_ok c.terms.result (λ x h. all_candidates c.args.pool.now c.one_number.ensures c.args.branch.now c.requires.over c.args.bound.now c.args.pattern x.items h) c.terms.ensures

pub returns : goal.returns
returns c =
    if_ok c.held_with_head.result (λ x h. head_candidates c.args.pool.now c.one_number.ensures c.args.branch.now c.requires.over c.args.bound.now c.args.pattern c.in-Some.node c.requires.pattern c.in-Some.ensures (λ b. (let both : false ≡ true = c.if-is_bound.ensures.1 b in absurd (cc))) c.head_of.result c.head_of.ensures x.items h) c.held_with_head.ensures
