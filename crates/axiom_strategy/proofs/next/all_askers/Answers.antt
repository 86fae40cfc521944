use Rattle.std.proofs.Common.{◌++◌, ap, ◌∙◌}
use Rattle.axiom_strategy.proofs.FamilyLemmas.{types_ask}
use Rattle.axiom_strategy.proofs.NextLemmas.{everything}
use Rattle.axiom_strategy.proofs.next.all_askers.Goals as goal

pub returns : goal.returns
returns c =
    let ns = c.args.pool.now in
    let types = c.in_ok-add_by_types.ensures in
    let reads = c.in_ok-add_by_index.ensures.first in
    let items = c.in_ok-add_by_index.ensures.second in
    let pairs = c.in_ok-add_by_vectors.ensures in
    let two = types.is ∙ ap (λ xs. xs ++ types.more) c.in_ok-askers.ensures in
    let three = reads.is ∙ ap (λ xs. xs ++ reads.more) two in
    let four = items.is ∙ ap (λ xs. xs ++ items.more) three in
    everything ns c.one_number.ensures c.args.branch.now c.requires.over c.args.terms.now c.requires.terms c.args.typings.now c.requires.typings c.requires.room types.more reads.more items.more pairs.more
    (types_ask ns c.one_number.ensures c.args.branch.now c.requires.over c.args.terms.now c.requires.terms c.args.typings.now c.requires.typings types.more types.has)
    reads.has items.has pairs.has _ (pairs.is ∙ ap (λ xs. xs ++ pairs.more) four)
