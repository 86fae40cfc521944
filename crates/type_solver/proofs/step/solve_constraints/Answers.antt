use Rattle.std.proofs.Common.{Bool, List, length, sym, subst}
use Rattle.std.proofs.lemmas.Result.{IfOk-weaker}
use Rattle.type_constraints.specs.Seen.{seen_all}
use Rattle.type_solver.specs.Equations.{EquationsWithin, reading_of}
use Rattle.type_solver.specs.Steps.{AllSay, ListSays}
use Rattle.type_solver.specs.declared.equation.Equation.{Equation}
use Rattle.type_solver.proofs.Stepping.{all_more, step_says}
use Rattle.type_solver.proofs.step.solve_constraints.Goals as goal

pub list_equations-requires-clause-within : goal.list_equations-requires-clause-within
list_equations-requires-clause-within c = all_more c.args.variables (length c.args.slots.now.items) (seen_all c.args.constraints.now) c.requires.variables (c.all_within.ensures c.if-not-all_within.false)

pub returns-then-not-branch : goal.returns-then-not-branch
returns-then-not-branch c = record { heads = (subst (λ (b : Bool). ListSays (reading_of c.args.tables) c.args.slots.now.items c.list_equations.new.slots.items (seen_all c.args.constraints.now) c.list_equations.new.equations.items b) c.if-not-branch.true c.in_ok-list_equations.ensures.says); grows = c.in_ok-list_equations.ensures.keeps }

pub settle-requires-clause-within : goal.settle-requires-clause-within
settle-requires-clause-within c = (let say : AllSay (reading_of c.args.tables) c.args.slots.now.items c.list_equations.new.slots.items (seen_all c.args.constraints.now) c.list_equations.new.equations.items = (subst (λ (b : Bool). ListSays (reading_of c.args.tables) c.args.slots.now.items c.list_equations.new.slots.items (seen_all c.args.constraints.now) c.list_equations.new.equations.items b) c.if-not-branch.false c.in_ok-list_equations.ensures.says) in subst (λ (es : List Equation). EquationsWithin (length c.list_equations.new.slots.items) es) (sym c.deref.ensures.value) say.within)

pub returns : goal.returns
returns c = IfOk-weaker c.settle.result _ _ (λ s h. step_says (reading_of c.args.tables) c.args.variables c.args.slots.now.items c.list_equations.new.slots.items c.settle.new.slots.items (seen_all c.args.constraints.now) c.deref.result.now s (c.all_within.ensures c.if-not-all_within.false) c.requires.variables c.in_ok-list_equations.ensures.keeps
    (subst (λ (es : List Equation). AllSay (reading_of c.args.tables) c.args.slots.now.items c.list_equations.new.slots.items (seen_all c.args.constraints.now) es) (sym c.deref.ensures.value) (subst (λ (b : Bool). ListSays (reading_of c.args.tables) c.args.slots.now.items c.list_equations.new.slots.items (seen_all c.args.constraints.now) c.list_equations.new.equations.items b) c.if-not-branch.false c.in_ok-list_equations.ensures.says)) h) c.settle.ensures
