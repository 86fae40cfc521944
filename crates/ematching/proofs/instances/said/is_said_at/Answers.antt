use Rattle.std.proofs.Common.{sym}
use Rattle.ematching.specs.Numbers.{triggers_at, formula_at}
use Rattle.ematching.specs.Bodies.{universal_at}
use Rattle.ematching.proofs.SaidLemmas.{no_entry, other_depth, no_inner, by_inner}
use Rattle.ematching.proofs.instances.said.is_said_at.Goals as goal

pub returns-in_default : goal.returns-in_default
returns-in_default c = no_entry c.args.pool.now c.args.branch.now c.requires.over c.args.i (universal_at c.args.pool.now c.args.universal) c.args.term.now (sym c.in_default.ensures)

pub depth-depth-requires : goal.depth-depth-requires
depth-depth-requires c = (c.requires.over.formulas c.args.i c.in-Some.entry (sym c.in-Some.ensures)).within

pub depth-of_made-requires : goal.depth-of_made-requires
depth-of_made-requires c = c.requires.made.number.within

pub returns-then-depth-of_made : goal.returns-then-depth-of_made
returns-then-depth-of_made c =
    let u = c.args.universal in
    other_depth c.args.pool.now c.args.branch.now c.requires.over c.args.i c.in-Some.entry (sym c.in-Some.ensures) u.is_denied u.variable (triggers_at c.args.pool.now u.triggers) (formula_at c.args.pool.now u.body) c.args.term.now c.args.made c.depth-depth.result c.depth-of_made.result c.requires.made c.depth-depth.ensures c.depth-of_made.ensures c.if-depth-of_made.true

pub inner_of-requires : goal.inner_of-requires
inner_of-requires c = c.requires.over.formulas c.args.i c.in-Some.entry (sym c.in-Some.ensures)

pub returns-in_default-inner_of : goal.returns-in_default-inner_of
returns-in_default-inner_of c =
    let u = c.args.universal in
    no_inner c.args.pool.now c.args.branch.now c.requires.over c.args.i c.in-Some.entry (sym c.in-Some.ensures) u.is_denied u.variable (triggers_at c.args.pool.now u.triggers) (formula_at c.args.pool.now u.body) c.args.term.now c.in_default-inner_of.ensures

pub returns : goal.returns
returns c =
    let u = c.args.universal in
    by_inner c.args.pool.now c.args.branch.now c.requires.over c.args.i c.in-Some.entry (sym c.in-Some.ensures) u.is_denied u.variable (triggers_at c.args.pool.now u.triggers) (formula_at c.args.pool.now u.body) c.args.term.now c.in-Some-inner_of.inner c.in-Some-inner_of.ensures c.args.body.now c.in_ok-found.found c.requires.body c.in_ok-found.ensures c.is_instance.result c.is_instance.ensures.exact
