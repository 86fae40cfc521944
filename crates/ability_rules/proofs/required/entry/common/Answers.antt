use Rattle.std.proofs.Common.{◌∙◌, if◌then◌else◌}
use Rattle.program.specs.Sets.{both}
use Rattle.ability_rules.specs.Entries.{judged_at}
use Rattle.ability_rules.proofs.Entries.{common_step}
use Rattle.ability_rules.proofs.required.entry.common.Goals as goal

pub loop-number-preserved : goal.loop-number-preserved
loop-number-preserved c =
    let found = c.loop-number.found in
    common_step (judged_at c.args.table.now) c.args.parameters.now c.loop-number.number c.args.parts.now found c.taken-found.result c.loop-number-test.true
    (c.taken-found.ensures ∙ (λ i. if c.is_phantom.ensures i then found else both found (c.of-known.ensures i).abilities))
    ∙ c.loop-number.invariant
