use Rattle.std.proofs.Common.{get_or, take, nat_eq, sym, append-nil}
use Rattle.std.proofs.lemmas.List.{take_more}
use Rattle.axiom_strategy.proofs.PositionLemmas.{put_begun, put_more, all_more}
use Rattle.base.specs.Lists.{list_in}
use Rattle.axiom_strategy.proofs.decisions.positions.Positions.put.Goals as goal

pub loop-term-init : goal.loop-term-init
loop-term-init c = record {
  all = sym (append-nil c.args.self.now.all.items);
  by_group = λ k. put_begun (nat_eq k c.args.group) (list_in c.args.self.now.by_group k);
}

pub loop-term-preserved : goal.loop-term-preserved
loop-term-preserved c =
    let xs = c.args.terms.now in
    let i = c.loop-term.term-index in
    let more = take_more xs i 0 c.loop-term-test.true in
    record {
      all = all_more c.args.group c.loop-term.self.all.items c.push.new.self.items c.args.self.now.all.items (take i xs) _ (get_or xs i 0) c.loop-term.invariant.all c.in_ok-push.ensures.items more;
      by_group = λ k. put_more (nat_eq k c.args.group) (list_in c.loop-term.self.by_group k) (list_in c.add.new.self k) (list_in c.args.self.now.by_group k) (take i xs) _ (get_or xs i 0) (c.loop-term.invariant.by_group k) (c.in_ok-add.ensures k) more;
    }
