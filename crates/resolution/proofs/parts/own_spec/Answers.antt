use Rattle.std.proofs.Common.{length, take, ap, subst}
use Rattle.resolution.specs.Items.{HasUnknownInSpec}
use Rattle.resolution.specs.Owners.{member_numbers, owner_of}
use Rattle.resolution.specs.Parts.{here_of}
use Rattle.resolution.proofs.KnownLaws.{bare_schema_known}
use Rattle.resolution.proofs.PartLaws.{owners_nothing}
use Rattle.resolution.proofs.parts.own_spec.Goals as goal

pub returns-in_ok-own_schema-in-Schema-clause-added : goal.returns-in_ok-own_schema-in-Schema-clause-added
returns-in_ok-own_schema-in-Schema-clause-added c =
    let w = here_of c.args.context.now in
    owners_nothing w (take c.args.number w.members) c.args.spec.now c.args.owners.now.items (ap (owner_of (member_numbers w.members) (length w.members)) c.in-Schema.is) c.requires.owners

pub returns-in_ok-own_schema-in-Schema-clause-known : goal.returns-in_ok-own_schema-in-Schema-clause-known
returns-in_ok-own_schema-in-Schema-clause-known c = λ h.
    let w = here_of c.args.context.now in
    bare_schema_known w c.in-Schema.tree c.in_ok-own_schema-in-Schema.field-0.form c.in_ok-own_schema-in-Schema.ensures.resolved (subst (λ s. HasUnknownInSpec w (take c.args.number w.members) s) c.in-Schema.is h)

pub returns-in_ok-own_spec_function-in-Function-clause-added : goal.returns-in_ok-own_spec_function-in-Function-clause-added
returns-in_ok-own_spec_function-in-Function-clause-added c =
    let w = here_of c.args.context.now in
    owners_nothing w (take c.args.number w.members) c.args.spec.now c.args.owners.now.items (ap (owner_of (member_numbers w.members) (length w.members)) c.in-Function.is) c.requires.owners

pub returns-in-Loop-clause-added : goal.returns-in-Loop-clause-added
returns-in-Loop-clause-added c =
    let w = here_of c.args.context.now in
    owners_nothing w (take c.args.number w.members) c.args.spec.now c.args.owners.now.items (ap (owner_of (member_numbers w.members) (length w.members)) c.in-Loop.is) c.requires.owners
