use Rattle.std.proofs.Common.{◌≡◌, ◌+◌, [], refl, sym, append-nil, subst, arith}
use Rattle.search.specs.Ends.{Shows, ShowsEnd}
use Rattle.search.specs.declared.end.End.TheVariants.{Full}
use Rattle.search.proofs.EndLemmas.{left_within, outcome_of}
use Rattle.search.proofs.FirstLemmas.{full_at_once}
use Rattle.search.proofs.search.search.Goals as goal

pub loop-tree-init : goal.loop-tree-init
loop-tree-init g c = record {
  extends = record { more = []; is = sym (append-nil c.args.pool.now) };
  knows = c.requires.1.1.0;
  shapes = refl;
  going = record {
    spent = 0;
    sum = (let b = c.requires.1.1.1.1.1 in omega (arith, b));
    tree = c.in_ok-tree.ensures (g.D.Deciders.shapes c.args.deciders.now) g.sought.formula c.requires.1.1.1.1.0;
  };
  sum = refl;
}

pub returns-in-Some-clause-shown : goal.returns-in-Some-clause-shown
returns-in-Some-clause-shown g c =
    let before = g.D.Deciders.shapes c.args.deciders.now in
    let now = g.D.Deciders.shapes c.loop-tree.deciders in
    let left = c.move_on.new.left in
    let ns = c.move_on.new.pool in
    let tree = c.move_on.new.tree in
    let shown = subst (Shows now g.sought left ns tree) c.in-Some.is c.in_ok-end.ensures.shown in
    let ended = subst (λ shapes. ShowsEnd shapes g.sought left ns tree c.in-Some.end) c.loop-tree.invariant.shapes shown in
    let counted = c.in_ok-end.ensures.counted in
    let whole = c.loop-tree.invariant.sum in
    let budget = c.requires.1.1.1.1.1 in
    let sum : c.move_on.new.steps + left ≡ c.args.steps.now + g.sought.budget = omega (arith, counted, whole, budget) in
    outcome_of before g.sought left c.args.steps.now c.move_on.new.steps ns (record { end = c.in-Some.end; tree = tree }) sum (left_within before g.sought ns tree left c.in-Some.end ended) ended (λ e. (c.is_too_deep.ensures g.sought.formula c.requires.1.1.1.1.0).shallow (λ t. (let f = c.if-is_too_deep.false in absurd (cc))))

pub returns-then-is_too_deep-clause-shown : goal.returns-then-is_too_deep-clause-shown
returns-then-is_too_deep-clause-shown g c =
    let shapes = g.D.Deciders.shapes c.args.deciders.now in
    let ns = c.args.pool.now in
    let denied = c.requires.1.1.1.1.0 in
    let budget = c.requires.1.1.1.1.1 in
    let t = c.in_ok-tree.tree in
    let tree = c.in_ok-tree.ensures shapes g.sought.formula denied in
    let ended = full_at_once shapes g.sought ns t tree ((c.is_too_deep.ensures g.sought.formula denied).deep c.if-is_too_deep.true) in
    outcome_of shapes g.sought g.sought.budget c.args.steps.now c.args.steps.now ns (record { end = Full; tree = t }) refl (omega arith) ended (λ e. absurd (cc))
