use Rattle.std.proofs.Common.{ap, ◌∙◌, arith}
use Rattle.type_constraints.specs.Seen.{seen_all}
use Rattle.type_constraints.specs.CodeSettings.{setting_of}
use Rattle.type_solver.specs.Equations.{reading_of}
use Rattle.type_solver.proofs.Steps.{goes_none, constraints_more, constraints_end}
use Rattle.type_solver.proofs.code_systems.nodes.read_nodes.Goals as goal

pub loop-variable-init : goal.loop-variable-init
loop-variable-init c = record {
  walk = goes_none (reading_of c.args.tables) c.args.variables c.args.slots.now.items c.args.before;
  fits = c.requires.fits;
  longer = c.requires.variables;
  first = c.in_ok-first.ensures;
}

pub loop-variable-preserved : goal.loop-variable-preserved
loop-variable-preserved c =
    let count = c.requires.count in
    let lt = c.loop-variable-test.true in
    record {
      walk = constraints_more (reading_of c.args.tables) c.args.variables c.args.slots.now.items c.loop-variable.slots.items c.read_step.new.slots.items c.args.before c.loop-variable.progress c.in_ok-progress.progress (setting_of c.args.setting) c.loop-variable.variable c.loop-variable.first (seen_all c.deref.result.now)
          (omega (arith, count, lt)) c.loop-variable.invariant.first c.loop-variable.invariant.walk (λ node is. ap seen_all c.deref.ensures.value ∙ c.in_ok-constraints.ensures node is) c.in_ok-progress.ensures.walk;
      fits = c.in_ok-progress.ensures.fits;
      longer = c.in_ok-progress.ensures.variables;
      first = c.in_ok-first-2.ensures;
    }

pub returns-clause-walk : goal.returns-clause-walk
returns-clause-walk c steps is = constraints_end (reading_of c.args.tables) c.args.variables c.loop-variable.slots.items c.loop-variable.progress (setting_of c.args.setting) c.loop-variable.variable c.args.count steps (omega arith) (c.loop-variable.invariant.walk steps is)
