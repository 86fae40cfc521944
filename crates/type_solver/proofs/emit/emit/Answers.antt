use Rattle.std.proofs.Common.{sym, subst}
use Rattle.std.proofs.lemmas.Result.{IfOk-weaker}
use Rattle.type_constraints.specs.Seen.{seen}
use Rattle.type_constraints.specs.declared.constraint.Constraint.{Constraint}
use Rattle.typing_rules.specs.Constraint as D
use Rattle.std.proofs.Common.{length}
use Rattle.unification.specs.declared.type_variables.slots.Sort.{Sort}
use Rattle.unification.specs.declared.type_variables.slots.Wrap.{Wrap}
use Rattle.unification.specs.declared.type_variables.slots.Term.TheVariants.{Variable, Made}
use Rattle.type_solver.specs.Within.{ConstraintWithin}
use Rattle.type_solver.specs.declared.equation.Equation.TheVariants.{Equal, Sorted}
use Rattle.type_solver.specs.Equations.{Emits, reading_of}
use Rattle.type_solver.proofs.Emitting.{same_says, made_says, sort_says}
use Rattle.type_solver.proofs.emit.emit.Goals as goal

pub returns-in-Has-clause-emits : goal.returns-in-Has-clause-emits
returns-in-Has-clause-emits c = IfOk-weaker c.has.result _ _ (λ q h. subst (λ (d : Constraint). Emits (reading_of c.args.tables) c.args.slots.now.items c.has.new.slots.items (seen d) q) (sym c.in-Has.is) (h (reading_of c.args.tables))) c.has.ensures.emits

pub returns-in-TupleOf-clause-emits : goal.returns-in-TupleOf-clause-emits
returns-in-TupleOf-clause-emits c = IfOk-weaker c.tuple_of.result _ _ (λ q h. subst (λ (d : Constraint). Emits (reading_of c.args.tables) c.args.slots.now.items c.tuple_of.new.slots.items (seen d) q) (sym c.in-TupleOf.is) (h (reading_of c.args.tables))) c.tuple_of.ensures.emits

pub returns-in-Takes-clause-emits : goal.returns-in-Takes-clause-emits
returns-in-Takes-clause-emits c = IfOk-weaker c.takes.result _ _ (λ q h. subst (λ (d : Constraint). Emits (reading_of c.args.tables) c.args.slots.now.items c.takes.new.slots.items (seen d) q) (sym c.in-Takes.is) (h (reading_of c.args.tables))) c.takes.ensures.emits

pub returns-in-Returns-clause-emits : goal.returns-in-Returns-clause-emits
returns-in-Returns-clause-emits c = IfOk-weaker c.returns.result _ _ (λ q h. subst (λ (d : Constraint). Emits (reading_of c.args.tables) c.args.slots.now.items c.returns.new.slots.items (seen d) q) (sym c.in-Returns.is) (h (reading_of c.args.tables))) c.returns.ensures.emits

pub returns-in-FieldOf-clause-emits : goal.returns-in-FieldOf-clause-emits
returns-in-FieldOf-clause-emits c = IfOk-weaker c.field.result _ _ (λ q h. subst (λ (d : Constraint). Emits (reading_of c.args.tables) c.args.slots.now.items c.field.new.slots.items (seen d) q) (sym c.in-FieldOf.is) (h)) c.field.ensures.emits

pub returns-in-Alike-clause-emits : goal.returns-in-Alike-clause-emits
returns-in-Alike-clause-emits c = subst (λ (d : Constraint). Emits (reading_of c.args.tables) c.args.slots.now.items c.alike.new.slots.items (seen d) c.alike.result) (sym c.in-Alike.is) (c.alike.ensures.emits (reading_of c.args.tables))

pub returns-in-TargetOf-clause-emits : goal.returns-in-TargetOf-clause-emits
returns-in-TargetOf-clause-emits c = subst (λ (d : Constraint). Emits (reading_of c.args.tables) c.args.slots.now.items c.target_of.new.slots.items (seen d) c.target_of.result) (sym c.in-TargetOf.is) (c.target_of.ensures.emits (reading_of c.args.tables))

pub returns-in-Through-clause-emits : goal.returns-in-Through-clause-emits
returns-in-Through-clause-emits c = subst (λ (d : Constraint). Emits (reading_of c.args.tables) c.args.slots.now.items c.through.new.slots.items (seen d) c.through.result) (sym c.in-Through.is) (c.through.ensures.emits (reading_of c.args.tables))

pub returns-in-Behind-clause-emits : goal.returns-in-Behind-clause-emits
returns-in-Behind-clause-emits c = subst (λ (d : Constraint). Emits (reading_of c.args.tables) c.args.slots.now.items c.behind.new.slots.items (seen d) c.behind.result) (sym c.in-Behind.is) (c.behind.ensures.emits (reading_of c.args.tables))

pub returns-in-IsOf-clause-emits : goal.returns-in-IsOf-clause-emits
returns-in-IsOf-clause-emits c =
    let lt : ConstraintWithin (length c.args.slots.now.items) (D.IsOf c.in-IsOf.sort c.in-IsOf.variable) = (subst (λ (d : Constraint). ConstraintWithin (length c.args.slots.now.items) (seen d)) c.in-IsOf.is c.requires.within) in
    subst (λ (d : Constraint). Emits (reading_of c.args.tables) c.args.slots.now.items c.args.slots.now.items (seen d) (Sorted c.sort_word.result c.in-IsOf.variable)) (sym c.in-IsOf.is)
    (subst (λ (s : Sort). Emits (reading_of c.args.tables) c.args.slots.now.items c.args.slots.now.items (D.IsOf c.in-IsOf.sort c.in-IsOf.variable) (Sorted s c.in-IsOf.variable)) (sym c.sort_word.ensures) (sort_says (reading_of c.args.tables) c.args.slots.now.items c.in-IsOf.variable c.in-IsOf.sort lt))

pub returns-in-MadeOf-clause-emits : goal.returns-in-MadeOf-clause-emits
returns-in-MadeOf-clause-emits c =
    let lt : ConstraintWithin (length c.args.slots.now.items) (D.MadeOf c.in-MadeOf.variable c.in-MadeOf.wrap c.in-MadeOf.from) = (subst (λ (d : Constraint). ConstraintWithin (length c.args.slots.now.items) (seen d)) c.in-MadeOf.is c.requires.within) in
    subst (λ (d : Constraint). Emits (reading_of c.args.tables) c.args.slots.now.items c.args.slots.now.items (seen d) (Equal (Variable c.in-MadeOf.variable) (Made c.wrap_word.result c.in-MadeOf.from))) (sym c.in-MadeOf.is)
    (subst (λ (k : Wrap). Emits (reading_of c.args.tables) c.args.slots.now.items c.args.slots.now.items (D.MadeOf c.in-MadeOf.variable c.in-MadeOf.wrap c.in-MadeOf.from) (Equal (Variable c.in-MadeOf.variable) (Made k c.in-MadeOf.from))) (sym c.wrap_word.ensures) (made_says (reading_of c.args.tables) c.args.slots.now.items c.in-MadeOf.variable c.in-MadeOf.from c.in-MadeOf.wrap lt.0 lt.1))

pub returns-in-Same-clause-emits : goal.returns-in-Same-clause-emits
returns-in-Same-clause-emits c =
    let lt : ConstraintWithin (length c.args.slots.now.items) (D.Same c.in-Same.a c.in-Same.b) = (subst (λ (d : Constraint). ConstraintWithin (length c.args.slots.now.items) (seen d)) c.in-Same.is c.requires.within) in
    subst (λ (d : Constraint). Emits (reading_of c.args.tables) c.args.slots.now.items c.args.slots.now.items (seen d) (Equal (Variable c.in-Same.a) (Variable c.in-Same.b))) (sym c.in-Same.is) (same_says (reading_of c.args.tables) c.args.slots.now.items c.in-Same.a c.in-Same.b lt.0 lt.1)
