use Rattle.std.proofs.Common.{◌≡◌, ℕ, List, true, false, get_or, take, refl, sym, subst}
use Rattle.std.proofs.lemmas.List.{take_more, take_all}
use Rattle.std.proofs.lemmas.List.Elements.{Contains-get_or}
use Rattle.axiom_strategy.specs.Cuts.{NoneOpenWith}
use Rattle.axiom_strategy.proofs.OpenLemmas.{none_begun, none_more}
use Rattle.axiom_strategy.proofs.decisions.cuts.open_with.Goals as goal

pub loop-other-init : goal.loop-other-init
loop-other-init c = none_begun c.args.classes.now c.args.numbers.now c.args.denied.now c.args.left

pub is_open-requires-clause-right : goal.is_open-requires-clause-right
is_open-requires-clause-right c = c.requires.others c.loop-other.other-index 0 c.loop-other-test.true

pub returns-then-is_open : goal.returns-then-is_open
returns-then-is_open c = record { among = Contains-get_or c.args.others.now c.loop-other.other-index 0 c.loop-other-test.true; is_open = c.if-is_open.ensures.0 refl }

pub loop-other-preserved : goal.loop-other-preserved
loop-other-preserved c =
    subst (λ (xs : List ℕ). NoneOpenWith c.args.classes.now c.args.numbers.now c.args.denied.now c.args.left xs) (sym (take_more c.args.others.now c.loop-other.other-index 0 c.loop-other-test.true))
    (none_more c.args.classes.now c.args.numbers.now c.args.denied.now c.args.left (get_or c.args.others.now c.loop-other.other-index 0) (take c.loop-other.other-index c.args.others.now) c.loop-other.invariant (λ o. (let both : false ≡ true = c.if-is_open.ensures.1 o in absurd (cc))))

pub returns : goal.returns
returns c = subst (λ (xs : List ℕ). NoneOpenWith c.args.classes.now c.args.numbers.now c.args.denied.now c.args.left xs) (take_all c.loop-other.other-index c.args.others.now c.loop-other-test.false) c.loop-other.invariant
