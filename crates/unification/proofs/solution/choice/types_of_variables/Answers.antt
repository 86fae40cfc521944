use Rattle.std.proofs.Common.{ℕ, List, Option, Vec, length, sym, subst}
use Rattle.std.proofs.lemmas.Result.{IfOk-weaker}
use Rattle.base.specs.TypeData.{TypeData}
use Rattle.unification.specs.declared.type_variables.slots.Sort.TheVariants.{Any}
use Rattle.unification.specs.declared.type_variables.slots.Slot.{Slot}
use Rattle.unification.specs.Given.{Gives, IsDropped}
use Rattle.unification.specs.Numbers.{IsOrder, TableSays}
use Rattle.unification.proofs.Giving.{gives_ranking}
use Rattle.unification.proofs.Numbering.{is_order}
use Rattle.unification.proofs.Deciding.{types_say}
use Rattle.unification.proofs.solution.choice.types_of_variables.Goals as goal

pub table-requires-clause-order : goal.table-requires-clause-order
table-requires-clause-order c =
    subst (λ (ss : List Slot). IsOrder ss c.deref-3.result.now) (sym c.deref-2.ensures.value)
    (subst (λ (os : List ℕ). IsOrder c.with_units-given.result.items os) (sym c.deref-3.ensures.value)
    (is_order c.with_units-given.result.items c.args.defaulted.ranking.ranks.items c.args.defaulted.ranking.order.items
    (gives_ranking c.with_units-given.ensures c.args.defaulted.ranking.ranks.items c.args.defaulted.ranking.order.items c.requires.sound.ranking)))

pub returns-clause-says : goal.returns-clause-says
returns-clause-says c = IfOk-weaker c.table.result _ _
    (λ (numbers : Vec (Option ℕ) _) h. types_say c.args.defaulted c.with_units-given.result.items c.args.dropped.now c.args.variables c.table.new.pool numbers.items c.requires.sound c.requires.dropped
    (subst (λ (of : TypeData). Gives c.args.defaulted.slots.items c.with_units-given.result.items Any of (IsDropped c.args.defaulted.roots.items c.args.dropped.now (length c.args.dropped.now))) c.requires.unit
    (subst (λ (rs : List ℕ). Gives c.args.defaulted.slots.items c.with_units-given.result.items Any c.args.unit.now (IsDropped rs c.args.dropped.now (length c.args.dropped.now))) c.deref.ensures.value c.with_units-given.ensures))
    (subst (λ (ss : List Slot). TableSays ss c.args.variables c.table.new.pool numbers.items) c.deref-2.ensures.value h))
    c.table.ensures.says
