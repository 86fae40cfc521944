use Rattle.std.proofs.Common.{◌≡◌, ℕ, ◌+◌, ◌<◌, [], List, All, length, sym, ap, subst, ◌∙◌, arith, rules}
use Rattle.std.proofs.lemmas.List.{length_push}
use Rattle.std.proofs.lemmas.List.Elements.{All-push}
use Rattle.body_types.proofs.Running.{types_none, types_more}
use Rattle.body_types.proofs.code.runs.node_types.Goals as goal

pub loop-index-init : goal.loop-index-init
loop-index-init c =
    let none : c.new-types.result.items ≡ [] = search rules in
    let count : length c.new-types.result.items ≡ 0 = ap length none in
    record {
      count = count;
      within = λ k d lt. absurd (omega (arith, lt, count));
      are = λ s has inside. types_none s c.args.body.now.nodes c.new-types.result.items none;
    }

pub loop-index-preserved : goal.loop-index-preserved
loop-index-preserved c =
    let items = c.loop-index.types.items in
    let number = c.in_ok-number.number in
    let push = c.in_ok-push.ensures.items in
    record {
      count = ap length push ∙ length_push items number ∙ ap (λ (k : ℕ). k + 1) c.loop-index.invariant.count;
      within = subst (λ (xs : List ℕ). All (λ n. n < 5) xs) (sym push) (All-push (λ n. n < 5) items number c.loop-index.invariant.within c.in_ok-number.ensures.within);
      are = λ s has inside. types_more s c.args.body.now.nodes items c.push.new.self.items c.loop-index.index number c.loop-index.invariant.count push (c.loop-index.invariant.are s has inside)
          (c.in_ok-number.ensures.is s has (let lt = c.loop-index-test.true in omega (arith, lt, inside)));
    }
