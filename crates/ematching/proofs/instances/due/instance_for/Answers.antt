use Rattle.tableau.specs.PoolBranches.{branch_in}
use Rattle.ematching.specs.Numbers.{term_at}
use Rattle.ematching.proofs.StepLemmas.{still_over, made_still, free_still, made_deep, made_said, made_due, for_no_generation}
use Rattle.ematching.proofs.instances.due.instance_for.Goals as goal

pub returns-in_default-clause-due : goal.returns-in_default-clause-due
returns-in_default-clause-due c = for_no_generation c.args.pool.now (branch_in c.args.pool.now c.args.branch.now) c.args.quantified c.requires.quantified (term_at c.args.pool.now c.args.term) c.in_default.ensures

pub said_of-requires : goal.said_of-requires
said_of-requires c = record { body = c.requires.quantified.quantified.body; term = c.requires.term; free = c.requires.quantified.free }

pub depth-requires : goal.depth-requires
depth-requires c = c.in_ok-formula.ensures.is.number.within

pub returns-then-depth-gt-MOST_DEPTH-clause-due : goal.returns-then-depth-gt-MOST_DEPTH-clause-due
returns-then-depth-gt-MOST_DEPTH-clause-due c =
    made_deep c.args.pool.now c.said_of.new.pool c.said_of.ensures.extends c.args.branch.now c.requires.over c.args.quantified c.requires.quantified c.args.term c.requires.term c.in_ok-formula.formula c.in_ok-formula.ensures.is c.depth.result c.depth.ensures c.if-depth-gt-MOST_DEPTH.true

pub is_said-requires : goal.is_said-requires
is_said-requires c =
    let ns = c.args.pool.now in
    let ms = c.said_of.new.pool in
    let grown = c.said_of.ensures.extends in
    record {
      over = still_over ns ms grown c.args.branch.now c.requires.over;
      free = free_still ns ms grown c.args.branch.now c.requires.over c.args.quantified c.requires.quantified c.args.term c.requires.term c.in_ok-formula.formula c.in_ok-formula.ensures.is;
      made = made_still ns ms grown c.args.branch.now c.requires.over c.args.quantified c.requires.quantified c.args.term c.requires.term c.in_ok-formula.formula c.in_ok-formula.ensures.is;
    }

pub returns-then-said-clause-due : goal.returns-then-said-clause-due
returns-then-said-clause-due c =
    made_said c.args.pool.now c.said_of.new.pool c.said_of.ensures.extends c.args.branch.now c.requires.over c.args.quantified c.requires.quantified c.args.term c.requires.term c.in_ok-formula.formula c.in_ok-formula.ensures.is (c.in_ok-said.ensures.0 c.if-said.true)

pub returns-clause-due : goal.returns-clause-due
returns-clause-due c =
    made_due c.args.pool.now c.said_of.new.pool c.said_of.ensures.extends c.args.branch.now c.requires.over c.args.quantified c.requires.quantified c.args.term c.requires.term c.in_ok-formula.formula c.in_ok-formula.ensures.is c.requires.matched c.in-Some.generation c.in-Some.ensures c.depth.result c.depth.ensures c.if-depth-gt-MOST_DEPTH.false (λ has. (let yes = c.in_ok-said.ensures.1 has in let no = c.if-said.false in absurd (cc)))
