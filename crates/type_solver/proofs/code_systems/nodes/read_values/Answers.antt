use Rattle.std.proofs.Common.{ap, ◌∙◌, arith}
use Rattle.type_constraints.specs.Seen.{seen_all}
use Rattle.type_constraints.specs.CodeSettings.{setting_of}
use Rattle.type_solver.specs.Equations.{reading_of}
use Rattle.type_solver.proofs.Steps.{goes_none, values_more, values_end}
use Rattle.type_solver.proofs.code_systems.nodes.read_values.Goals as goal

pub loop-index-init : goal.loop-index-init
loop-index-init c = record {
  walk = goes_none (reading_of c.args.tables) c.args.variables c.args.slots.now.items c.args.before;
  fits = c.requires.fits;
  longer = c.requires.variables;
  first = c.in_ok-first.ensures;
}

pub loop-index-preserved : goal.loop-index-preserved
loop-index-preserved c = record {
  walk = values_more (reading_of c.args.tables) c.args.variables c.args.slots.now.items c.loop-index.slots.items c.read_step.new.slots.items c.args.before c.loop-index.progress c.in_ok-progress.progress (setting_of c.args.setting) c.loop-index.index c.loop-index.first (seen_all c.deref.result.now)
      (omega arith) c.loop-index.invariant.first c.loop-index.invariant.walk (λ node is. ap seen_all c.deref.ensures.value ∙ c.in_ok-constraints.ensures node is) c.in_ok-progress.ensures.walk;
  fits = c.in_ok-progress.ensures.fits;
  longer = c.in_ok-progress.ensures.variables;
  first = c.in_ok-first-2.ensures;
}

pub returns-clause-walk : goal.returns-clause-walk
returns-clause-walk c steps is = values_end (reading_of c.args.tables) c.args.variables c.loop-index.slots.items c.loop-index.progress (setting_of c.args.setting) c.loop-index.index steps (omega arith) (c.loop-index.invariant.walk steps is)
