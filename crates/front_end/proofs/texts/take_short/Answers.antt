use Rattle.std.proofs.Common.{◌≡◌, rules, sym, subst}
use Rattle.std.specs.Vec.Iter.{into_iter_items}
use Rattle.front_end.specs.TextReading.{IsFirstLong}
use Rattle.front_end.specs.declared.fault.FileFault.TheVariants.{Passes}
use Rattle.front_end.specs.declared.fault.FileLimit.TheVariants.{Tokens}
use Rattle.front_end.proofs.TextLemmas.{taking_stop}
use Rattle.front_end.proofs.texts.take_short.Goals as goal

pub returns-in-Long : goal.returns-in-Long
returns-in-Long c =
    let number : c.loop-number.number-iterator.count ≡ c.in-Some.number = search rules in
    subst (λ k. IsFirstLong c.args.texts.items c.in-Some.number (Passes Tokens k)) (sym c.from.ensures)
    (subst (λ n. IsFirstLong c.args.texts.items n (Passes Tokens c.in-Long.count)) number
    (taking_stop c.in-Long.count (into_iter_items c.next.new.self.iter) c.loop-number.invariant (search rules)))
