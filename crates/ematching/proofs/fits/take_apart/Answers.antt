use Rattle.std.proofs.Common.{◌≡◌, true, false, refl, sym, ◌∙◌}
use Rattle.ematching.proofs.FitLemmas.{whole, by_parts, never, parts_later}
use Rattle.ematching.proofs.fits.take_apart.Goals as goal

pub returns-then-is_bound : goal.returns-then-is_bound
returns-then-is_bound c =
    whole c.args.pool.now c.args.bound.now c.args.pattern c.args.target c.requires c.in-Some.left c.in-Some-node.right c.in-Some.ensures c.in-Some-node.ensures (c.if-is_bound.ensures.0 refl) c.args.waiting.now.items c.args.waiting.now.items refl

pub returns-then-not-are_one : goal.returns-then-not-are_one
returns-then-not-are_one c =
    never c.args.pool.now c.args.bound.now c.args.pattern c.args.target c.requires c.one_number.ensures c.in-Some.left c.in-Some-node.right c.in-Some.ensures c.in-Some-node.ensures (λ b. (let both : false ≡ true = c.if-is_bound.ensures.1 b in absurd (cc))) (λ e h. (let both : false ≡ true = c.if-not-are_one.ensures.1 (c.refilled.ensures ∙ e) in absurd (cc)))

pub returns-then-not-clear : goal.returns-then-not-clear
returns-then-not-clear c =
    never c.args.pool.now c.args.bound.now c.args.pattern c.args.target c.requires c.one_number.ensures c.in-Some.left c.in-Some-node.right c.in-Some.ensures c.in-Some-node.ensures (λ b. (let both : false ≡ true = c.if-is_bound.ensures.1 b in absurd (cc))) (λ e h. (let both = c.in_ok-clear.ensures.1 h in let f = c.if-not-clear.true in absurd (cc)))

pub returns : goal.returns
returns c =
    by_parts c.args.pool.now c.args.bound.now c.args.pattern c.args.target c.requires c.in-Some.left c.in-Some-node.right c.in-Some.ensures c.in-Some-node.ensures (λ b. (let both : false ≡ true = c.if-is_bound.ensures.1 b in absurd (cc))) (sym c.refilled.ensures ∙ c.if-not-are_one.ensures.0 refl) (c.in_ok-clear.ensures.0 c.if-not-clear.false) c.args.waiting.now.items c.wait_for_pairs.new.waiting.items c.in_ok-wait_for_pairs.ensures

pub is_clear-requires : goal.is_clear-requires
is_clear-requires c = parts_later c.args.pool.now c.args.pattern c.in-Some.left c.requires.pattern_within c.in-Some.ensures.parts
