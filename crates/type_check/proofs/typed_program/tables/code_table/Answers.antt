use Rattle.std.proofs.Common.{subst}
use Rattle.body_types.specs.CodeTyped.{TypingSays}
use Rattle.type_check.proofs.typed_program.tables.code_table.Goals as goal

pub unreachable-requires : goal.unreachable-requires
unreachable-requires c =
    let w = c.requires in
    w.2.0 (subst (λ t. TypingSays w.0 w.1 c.args.pool t) c.in-Untypable.is w.3)

pub unreachable-requires-in-Ambiguous : goal.unreachable-requires-in-Ambiguous
unreachable-requires-in-Ambiguous c =
    let w = c.requires in
    w.2.1 (subst (λ t. TypingSays w.0 w.1 c.args.pool t) c.in-Ambiguous.is w.3).0

pub returns : goal.returns
returns c = λ s nodes says.
    let known = subst (λ t. TypingSays s nodes c.args.pool t) c.in-Typed.is says in
    (known.0, known.1)
