use Rattle.std.proofs.Common.{◌≡◌, IsTrue, sym, subst}
use Rattle.std.specs.Prelude.{IfOk}
use Rattle.unification.specs.Slots.{value}
use Rattle.unification.specs.Grown.{Grows}
use Rattle.unification.specs.declared.type_variables.slots.Term.{Term}
use Rattle.unification.proofs.type_variables.variables.one.Goals as goal

pub returns-in-Variable : goal.returns-in-Variable
returns-in-Variable c = subst (λ (x : Term). IfOk c.has.result (λ answer. Grows c.args.slots.now.items (λ t. value t x ≡ value t c.args.right) c.has.new.slots.items (λ t. IsTrue answer))) (sym c.in-Variable.is) c.has.ensures
