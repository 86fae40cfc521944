use Rattle.std.proofs.Common.{◌≡◌, ℕ, List, [], true, false, get_or, take, refl, sym, subst}
use Rattle.std.proofs.lemmas.List.{take_more, take_all}
use Rattle.congruence_closure.specs.Known.{class_of}
use Rattle.axiom_strategy.specs.Cuts.{IsChoice}
use Rattle.axiom_strategy.proofs.ChoiceLemmas.{AreChosen, chosen_begun, chosen_deep, choice_made}
use Rattle.axiom_strategy.proofs.decisions.cuts.candidates.Goals as goal

pub loop-term-init : goal.loop-term-init
loop-term-init c =
    subst (λ (xs : List ℕ). AreChosen c.args.pool.now c.args.classes.now c.args.numbers.now [] xs c.new-seen.result) (sym c.new-found.ensures.items)
    (subst (AreChosen c.args.pool.now c.args.classes.now c.args.numbers.now [] []) (sym c.new-seen.ensures) (chosen_begun c.args.pool.now c.args.classes.now c.args.numbers.now))

pub is_shallow-requires : goal.is_shallow-requires
is_shallow-requires c = c.requires.within c.loop-term.term-index 0 c.loop-term-test.true

pub class-class-requires : goal.class-class-requires
class-class-requires c = c.requires.known c.loop-term.term-index 0 c.loop-term-test.true

pub loop-term-preserved-then-not-is_shallow : goal.loop-term-preserved-then-not-is_shallow
loop-term-preserved-then-not-is_shallow c =
    subst (λ (xs : List ℕ). AreChosen c.args.pool.now c.args.classes.now c.args.numbers.now xs c.loop-term.found.items c.loop-term.seen) (sym (take_more c.args.terms.now c.loop-term.term-index 0 c.loop-term-test.true))
    (chosen_deep c.args.pool.now c.args.classes.now c.args.numbers.now (take c.loop-term.term-index c.args.terms.now) c.loop-term.found.items c.loop-term.seen (get_or c.args.terms.now c.loop-term.term-index 0) c.loop-term.invariant (λ s. (let both : false ≡ true = c.if-not-is_shallow.ensures.1 s in absurd (cc))))

pub loop-term-preserved : goal.loop-term-preserved
loop-term-preserved c =
    let ns = c.args.pool.now in
    let d = c.args.classes.now in
    let marks = c.args.numbers.now in
    let terms = c.args.terms.now in
    let i = c.loop-term.term-index in
    let n = get_or c.args.terms.now c.loop-term.term-index 0 in
    let kind = c.kind_of-kind.result in
    let choice : IsChoice (class_of d n) kind n c.loop-term.found.items c.choose.new.found.items c.loop-term.seen c.choose.new.seen =
    subst (λ (k : ℕ). IsChoice k kind n c.loop-term.found.items c.choose.new.found.items c.loop-term.seen c.choose.new.seen) c.class-class.ensures c.in_ok-choose.ensures in
    subst (λ (xs : List ℕ). AreChosen ns d marks xs c.choose.new.found.items c.choose.new.seen) (sym (take_more terms i 0 c.loop-term-test.true))
    (choice_made ns d marks (take i terms) c.loop-term.found.items c.choose.new.found.items c.loop-term.seen c.choose.new.seen n kind c.loop-term.invariant c.kind_of-kind.ensures (c.if-not-is_shallow.ensures.0 refl) choice)

pub returns : goal.returns
returns c = (subst (λ (xs : List ℕ). AreChosen c.args.pool.now c.args.classes.now c.args.numbers.now xs c.loop-term.found.items c.loop-term.seen) (take_all c.loop-term.term-index c.args.terms.now c.loop-term-test.false) c.loop-term.invariant).candidates_are
