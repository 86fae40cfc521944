use Rattle.std.proofs.Common.{◌≡◌, Bool, IsTrue}
use Rattle.std.proofs.lemmas.Result.{IfOk-weaker}
use Rattle.std.proofs.Math.ListN.{set}
use Rattle.unification.specs.Slots.{value, Becomes}
use Rattle.unification.specs.Asks.{EachHas}
use Rattle.unification.specs.declared.type_variables.slots.Term.TheVariants.{Variable}
use Rattle.unification.specs.declared.type_variables.slots.Slot.TheVariants.{Bound}
use Rattle.unification.proofs.Becoming.{bound_in, beside, then}
use Rattle.unification.proofs.type_variables.joins.link_bound.Goals as goal

pub returns-clause-becomes : goal.returns-clause-becomes
returns-clause-becomes c = IfOk-weaker c.bind_root.result
    (λ (answer : Bool). Becomes (set c.args.slots.now c.args.high (Bound (Variable c.args.low))) (λ t. (t c.args.low ≡ value t c.args.term) × EachHas t c.args.asks.now.items) c.bind_root.new.slots (λ t. IsTrue answer × EachHas t c.bind_root.new.asks.items))
    (λ (answer : Bool). Becomes c.args.slots.now (λ t. (t c.args.low ≡ t c.args.high) × EachHas t c.args.asks.now.items) c.bind_root.new.slots (λ t. IsTrue answer × EachHas t c.bind_root.new.asks.items))
    (λ answer b. then (beside (λ t. EachHas t c.args.asks.now.items) (bound_in c.args.slots.now c.args.low c.args.high c.args.term c.requires.fits c.requires.below c.requires.within c.requires.bound)) b)
    c.bind_root.ensures.becomes
