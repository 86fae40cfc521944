use Rattle.std.proofs.Common.{◌∙◌, sym, ap, List, ℤ, pos, ◌≡◌, ◌<◌, ◌++◌, ℕ, replicate, length, get_or, rules, arith, FitsSigned}
use Rattle.std.specs.Int.{w128}
use Rattle.std.proofs.lemmas.Int.{ints}
use Rattle.linear_arith.specs.Combination.{number}
use Rattle.linear_arith.specs.Packed.{HasOne, spread}
use Rattle.linear_arith.specs.declared.packed.Entry.{Entry}
use Rattle.linear_arith.proofs.PackedLemmas.{spread_at, number_trailing}
use Rattle.linear_arith.proofs.ListLemmas.{get_or-any_default}
use Rattle.linear_arith.proofs.packed.Packed.has_one.Goals as goal

has_one : (entries : List Entry) (n i : ℕ) (entry : Entry) (whole : List ℤ) → spread entries ++ replicate n (pos 0) ≡ whole → i < length entries → entry ≡ get_or entries i entry → entry.number ≡ pos 1 → HasOne whole
has_one entries n i entry whole e l is one =
    let at = spread_at entries i entry l is in
    record { position = at.0; is_one = sym (ap (number at.0) e) ∙ number_trailing (spread entries) n at.0 ∙ at.1 ∙ one }

pub returns-then-entry-eq1 : goal.returns-then-entry-eq1
returns-then-entry-eq1 c = λ _.
    let items = c.deref-entry-items.result.now in
    let none : Entry = record { zeros = 0; number = pos 0 } in
    let i = c.loop-entry.entry-index in
    let entry = get_or items i none in
    let f : FitsSigned w128 entry.number = search rules in
    let one : entry.number ≡ pos 1 = omega (arith, ints) in
    let whole = ap (λ (es : List Entry). spread es ++ replicate c.self.inside.zeros (pos 0)) c.deref-entry-items.ensures.value ∙ c.self.view_is in
    has_one items c.self.inside.zeros i entry c.args.self.now whole c.loop-entry-test.true (get_or-any_default items i none entry c.loop-entry-test.true) one
