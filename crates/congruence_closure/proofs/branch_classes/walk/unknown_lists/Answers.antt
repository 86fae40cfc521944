use Rattle.std.proofs.Common.{◌≤◌, sym, subst, arith}
use Rattle.std.specs.Prelude.{All}
use Rattle.std.proofs.lemmas.List.Elements.{All-nil, All-push}
use Rattle.congruence_closure.specs.Numbers.{StandsIn, Itself}
use Rattle.congruence_closure.proofs.NumberLemmas.{stands_then}
use Rattle.congruence_closure.proofs.branch_classes.walk.unknown_lists.Goals as goal

pub loop-next-init : goal.loop-next-init
loop-next-init c = record {
  all = subst (All (λ it. it ≤ c.args.list)) (sym c.new-lists.ensures.items) (All-nil (λ it. it ≤ c.args.list));
  within = omega arith;
  all_inside = subst (All (λ it. StandsIn c.args.pool.now it c.args.list)) (sym c.new-lists.ensures.items) (All-nil (λ it. StandsIn c.args.pool.now it c.args.list));
  inside = Itself;
}

pub loop-next-preserved : goal.loop-next-preserved
loop-next-preserved c =
    let less = c.in-Some.ensures.less in
    let within = c.loop-next.invariant.within in
    record {
      all = subst (All (λ it. it ≤ c.args.list)) (sym c.in_ok-push.ensures.items) (All-push (λ it. it ≤ c.args.list) c.loop-next.lists.items c.loop-next.rest c.loop-next.invariant.all c.loop-next.invariant.within);
      within = omega (arith, less, within);
      all_inside = subst (All (λ it. StandsIn c.args.pool.now it c.args.list)) (sym c.in_ok-push.ensures.items) (All-push (λ it. StandsIn c.args.pool.now it c.args.list) c.loop-next.lists.items c.loop-next.rest c.loop-next.invariant.all_inside c.loop-next.invariant.inside);
      inside = stands_then c.in-Some.ensures.inside c.loop-next.invariant.inside;
    }
