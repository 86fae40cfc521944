use Rattle.std.proofs.Common.{◌++◌, ◌∷◌, [], get_or, length, ap, ◌∙◌}
use Rattle.certificates.specs.Branch.{entries_of}
use Rattle.certificates.specs.BranchesBranch.{formulas}
use Rattle.tableau.specs.PoolBranches.{branch_in}
use Rattle.explanations.specs.declared.chain.ChainStep.TheVariants.{Itself}
use Rattle.step_checks.proofs.LinkLemmas.{links_next, links_fail, line_more, formulas_more, longer_line, tree_at}
use Rattle.step_checks.proofs.closings.links.are_links.Goals as goal

pub returns-then-not-known-clause-exact : goal.returns-then-not-known-clause-exact
returns-then-not-known-clause-exact c = λ shapes. (
    let ns = c.args.pool.now in
    let b = branch_in ns c.args.branch.now in
    links_fail ns b (formulas b) c.args.steps.now (entries_of c.loop-i.line) c.loop-i.i (Itself 0) c.loop-i-test.true c.loop-i.invariant.links c.in_ok-known.known c.in_ok-known.ensures.exact c.if-not-known.true shapes)

pub loop-i-preserved : goal.loop-i-preserved
loop-i-preserved c =
    let ns = c.args.pool.now in
    let b = branch_in ns c.args.branch.now in
    let steps = c.args.steps.now in
    let i = c.loop-i.i in
    let s = get_or steps i (Itself 0) in
    let before = entries_of c.loop-i.line in
    let after = entries_of c.push.new.self in
    let w = c.loop-i-test.true in
    let tree = tree_at ns steps c.args.trees.now i (Itself 0) c.index-trees-i.result c.requires.trees w c.index-trees-i.is in
    let grown = c.push.ensures.entries ∙ ap (λ p. before ++ p ∷ []) tree in
    let xs = c.loop-i.added.items in
    let ys = c.push-in-loop-i.new.self.items in
    let more = c.in_ok-push.ensures.items in
    record {
      inside = c.in_ok-known.ensures.inside;
      counted = c.push.ensures.counted;
      longer = longer_line before after c.index-trees-i.result (length (entries_of c.args.line.now)) i c.loop-i.invariant.longer c.push.ensures.entries;
      line = line_more ns xs ys s c.number_of.result c.number_of.ensures more (formulas b) before after c.loop-i.invariant.line grown;
      added = formulas_more ns xs ys s c.number_of.result c.number_of.ensures more c.loop-i.invariant.added (c.requires.named.each i (Itself 0) w);
      links = links_next ns b (formulas b) steps before i (Itself 0) w c.loop-i.invariant.links after (c.in_ok-known.ensures.exact.0 c.if-not-known.false) grown;
    }
