use Rattle.std.proofs.Common.{◌<◌, ℕ, List, length, get_or, take, refl, sym, subst, arith}
use Rattle.std.proofs.lemmas.List.{take_all}
use Rattle.step_checks.specs.Sets.{IsNumberSet}
use Rattle.step_checks.proofs.EliminationNumberLemmas.{AreDistinct, empty_set, set_with, numbers_more, distinct_more, not_distinct}
use Rattle.step_checks.proofs.elimination.number_set.number_set.Goals as goal

pub loop-number-init : goal.loop-number-init
loop-number-init c = record { set = empty_set c.new-set.result c.new-set.ensures.empty; distinct = λ i j d l m. absurd (omega (arith, m)) }

pub loop-number-preserved : goal.loop-number-preserved
loop-number-preserved c =
    let numbers = c.args.numbers.now in
    let i = c.loop-number.number-index in
    let n = get_or numbers i 0 in
    let inv = c.loop-number.invariant in
    let l : i < length numbers = omega arith in
    let more = numbers_more numbers i n l refl in
    let e = c.in_ok-insert.ensures in
    record {
      set = subst (λ (ns : List ℕ). IsNumberSet ns c.insert.new.self) (sym more) (set_with (take i numbers) c.loop-number.set c.insert.new.self n inv.set e.updates);
      distinct = subst (λ (ns : List ℕ). AreDistinct ns) (sym more) (distinct_more (take i numbers) c.loop-number.set n c.in_ok-insert.field-0 inv.set e.added c.if-not-branch.false inv.distinct);
    }

pub returns-then-not-branch-clause-none : goal.returns-then-not-branch-clause-none
returns-then-not-branch-clause-none c =
    let numbers = c.args.numbers.now in
    let i = c.loop-number.number-index in
    let l : i < length numbers = omega arith in
    not_distinct numbers c.loop-number.set i (get_or numbers i 0) c.in_ok-insert.field-0 l refl c.loop-number.invariant.set c.in_ok-insert.ensures.added c.if-not-branch.true

pub returns-clause-some : goal.returns-clause-some
returns-clause-some c = subst (λ (ns : List ℕ). IsNumberSet ns c.loop-number.set) (take_all c.loop-number.number-index c.args.numbers.now (omega arith)) c.loop-number.invariant.set

pub returns-clause-different : goal.returns-clause-different
returns-clause-different c = subst (λ (ns : List ℕ). AreDistinct ns) (take_all c.loop-number.number-index c.args.numbers.now (omega arith)) c.loop-number.invariant.distinct
