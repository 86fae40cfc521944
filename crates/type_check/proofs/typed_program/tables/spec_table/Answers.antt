use Rattle.std.proofs.Common.{subst}
use Rattle.body_types.specs.SpecTyped.{SpecTypingSays}
use Rattle.type_check.proofs.typed_program.tables.spec_table.Goals as goal

pub unreachable-requires : goal.unreachable-requires
unreachable-requires c =
    let w = c.requires in
    w.1.0 (subst (λ t. SpecTypingSays w.0 c.args.pool t) c.in-Untypable.is w.2)

pub unreachable-requires-in-Ambiguous : goal.unreachable-requires-in-Ambiguous
unreachable-requires-in-Ambiguous c =
    let w = c.requires in
    w.1.1 (subst (λ t. SpecTypingSays w.0 c.args.pool t) c.in-Ambiguous.is w.2).0

pub returns : goal.returns
returns c = λ s says. subst (λ t. SpecTypingSays s c.args.pool t) c.in-Typed.is says
