use Rattle.std.proofs.Common.{◌≡◌, Bool, IsTrue, arith}
use Rattle.std.proofs.lemmas.Result.{IfOk-weaker}
use Rattle.std.proofs.Math.ListN.{set}
use Rattle.unification.specs.Slots.{value, Becomes}
use Rattle.unification.specs.Asks.{EachHas, Says}
use Rattle.unification.specs.declared.type_variables.slots.Term.TheVariants.{Closed}
use Rattle.unification.specs.declared.type_variables.slots.Slot.TheVariants.{Bound}
use Rattle.unification.proofs.Joining.{made_work, replaced_in}
use Rattle.unification.proofs.type_variables.joins.join_closed.Goals as goal

pub returns-in-Closed-clause-less : goal.returns-in-Closed-clause-less
returns-in-Closed-clause-less c = omega (arith, made_work c.args.term c.requires.made)

pub returns-in_default-clause-becomes : goal.returns-in_default-clause-becomes
returns-in_default-clause-becomes c = IfOk-weaker c.ask_parts.result
    (Says c.args.asks.now.items (λ t. value t c.args.term ≡ c.args.of.now) c.ask_parts.new.asks.items)
    (λ (answer : Bool). Becomes c.args.slots.now (λ t. (t c.args.at ≡ value t c.args.term) × EachHas t c.args.asks.now.items) (set c.args.slots.now c.args.at (Bound c.args.term)) (λ t. IsTrue answer × EachHas t c.ask_parts.new.asks.items))
    (λ answer says. replaced_in c.args.slots.now c.args.at (Closed c.args.of) c.args.term c.args.asks.now.items c.ask_parts.new.asks.items answer c.requires.fits c.requires.within c.requires.bound c.requires.term says)
    c.ask_parts.ensures.says
