use Rattle.std.proofs.Common.{◌≡◌, List, sym, subst}
use Rattle.unification.specs.Slots.{value}
use Rattle.unification.specs.Asks.{AsksWithin}
use Rattle.unification.specs.declared.type_variables.slots.Ask.{Ask}
use Rattle.unification.proofs.Asking.{adds_one, within_more}
use Rattle.unification.proofs.type_variables.parts.ask.Goals as goal

pub returns-clause-adds : goal.returns-clause-adds
returns-clause-adds c = adds_one c.args.asks.now.items c.push.new.self.items (λ t. t c.args.variable ≡ value t c.args.term) record { variable = c.args.variable; term = c.args.term } c.in_ok-push.ensures.items (λ t f. f) (λ t f. f)

pub returns-clause-within : goal.returns-clause-within
returns-clause-within c = subst (λ (asks : List Ask). AsksWithin c.args.variables asks) (sym c.in_ok-push.ensures.items)
    (within_more c.args.variables c.args.asks.now.items record { variable = c.args.variable; term = c.args.term } c.requires.within c.requires.variable c.requires.term)
