use Rattle.std.proofs.Common.{sym, subst, ◌∙◌, ap}
use Rattle.std.specs.Option.{option_copied}
use Rattle.unification.specs.declared.type_variables.heads.StructSeen.{StructSeen}
use Rattle.type_solver.specs.Equations.{reading_of}
use Rattle.type_solver.specs.Owners.{StructSaid}
use Rattle.type_solver.proofs.Fielding.{field_open, field_other, field_absent, field_known}
use Rattle.type_solver.proofs.fields.field_in.Goals as goal

pub returns-in-Unknown-clause-emits : goal.returns-in-Unknown-clause-emits
returns-in-Unknown-clause-emits c old from owner s lt = field_open old c.args.slots.now.items c.args.variable from c.args.name.now owner (subst (λ (k : StructSeen). StructSaid old c.args.slots.now.items from owner k) c.in-Unknown.is s)

pub returns-in-Other-clause-emits : goal.returns-in-Other-clause-emits
returns-in-Other-clause-emits c old from owner s lt = field_other (reading_of c.args.tables) old c.args.slots.now.items c.args.variable from c.args.name.now owner (subst (λ (k : StructSeen). StructSaid old c.args.slots.now.items from owner k) c.in-Other.is s) lt

pub returns-in-None-clause-emits : goal.returns-in-None-clause-emits
returns-in-None-clause-emits c old from owner s lt =
    let id = c.in-Known.id.now in
    let said = subst (λ (k : StructSeen). StructSaid old c.args.slots.now.items from owner k) c.in-Known.is s in
    field_absent (reading_of c.args.tables) old c.args.slots.now.items c.args.variable from c.args.name.now owner id c.in-Known.base c.in-Known.count s.owner lt (λ t m. said.of t m)
    (sym c.field_type.ensures ∙ ap option_copied c.in-None.is)

pub returns-in_ok-term-in-Some-clause-emits : goal.returns-in_ok-term-in-Some-clause-emits
returns-in_ok-term-in-Some-clause-emits c old from owner s lt =
    let id = c.in-Known.id.now in
    let said = subst (λ (k : StructSeen). StructSaid old c.args.slots.now.items from owner k) c.in-Known.is s in
    field_known (reading_of c.args.tables) old c.args.slots.now.items c.field_term.new.slots.items c.args.variable from c.args.name.now owner c.in_ok-term-in-Some.term id c.in-Known.base c.in-Known.count c.in-Some.of.now s.owner lt c.requires.variable (λ t m. said.of t m)
    (sym c.field_type.ensures ∙ ap option_copied c.in-Some.is) c.in_ok-term-in-Some.ensures.said
