use Rattle.std.proofs.Common.{◌<◌, length, ap, ◌∙◌, arith}
use Rattle.std.specs.Prelude.{slice_index_or}
use Rattle.type_constraints.specs.Seen.{seen_all}
use Rattle.type_constraints.specs.SpecSettings.{setting_of}
use Rattle.type_solver.specs.Equations.{reading_of}
use Rattle.type_solver.proofs.Walks.{walk_end, walk_more, walk_start}
use Rattle.type_solver.proofs.spec_systems.steps.read_nodes.Goals as goal

pub loop-index-init : goal.loop-index-init
loop-index-init c = record {
  walk = walk_start (reading_of c.args.tables) c.args.variables c.args.slots.now.items c.args.before;
  fits = c.requires.fits;
  longer = c.requires.variables;
}

pub loop-index-preserved : goal.loop-index-preserved
loop-index-preserved c =
    let lt : c.loop-index.index < length c.args.setting.body.now.nodes = omega arith in
    let more = c.requires.len in
    let known : c.loop-index.index < length c.args.firsts.now = omega (arith, lt, more) in
    record {
      walk = walk_more (reading_of c.args.tables) c.args.variables c.args.slots.now.items c.loop-index.slots.items c.read_step.new.slots.items c.args.before c.loop-index.progress c.in_ok-progress.progress (setting_of c.args.setting) c.loop-index.index (slice_index_or c.args.firsts.now c.loop-index.index 0) (seen_all c.deref.result.now)
          lt (c.requires.firsts.each c.loop-index.index known) c.loop-index.invariant.walk
          (λ node is. ap seen_all c.deref.ensures.value ∙ c.in_ok-constraints.ensures node is) c.in_ok-progress.ensures.walk;
      fits = c.in_ok-progress.ensures.fits;
      longer = c.in_ok-progress.ensures.variables;
    }

pub returns-clause-walk : goal.returns-clause-walk
returns-clause-walk c steps is = walk_end (reading_of c.args.tables) c.args.variables c.loop-index.slots.items c.loop-index.progress (setting_of c.args.setting) c.loop-index.index steps (omega arith) (c.loop-index.invariant.walk steps is)
