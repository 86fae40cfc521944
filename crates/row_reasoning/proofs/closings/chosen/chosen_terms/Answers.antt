use Rattle.std.proofs.Common.{◌≡◌, ℕ, List, true, false, take, get_or, nat_eq, refl, sym, ap, subst}
use Rattle.std.proofs.lemmas.List.{take_more, take_all}
use Rattle.std.specs.Map.{lookup}
use Rattle.indexmap.specs.IndexMap.{get}
use Rattle.row_reasoning.specs.Shallowest.{AreShallowest}
use Rattle.row_reasoning.proofs.ChosenLemmas.{none_chosen, passed, as_shallow, improved, chosen_within}
use Rattle.row_reasoning.proofs.closings.chosen.chosen_terms.Goals as goal
use Rattle.row_reasoning.proofs.closings.chosen.chosen_terms.Goals.{then-is_better+in_ok-note, else-is_better}

pub loop-term-init : goal.loop-term-init
loop-term-init c = none_chosen c.args.pool.now c.args.names.now (get nat_eq c.new-chosen.result) (λ k. ap (λ (es : List (ℕ × ℕ)). lookup (nat_eq k) es) c.new-chosen.ensures.empty)

pub is_no_sum-requires : goal.is_no_sum-requires
is_no_sum-requires c = c.requires.numbers c.loop-term.term-index 0 c.loop-term-test.true

pub is_better-requires-clause-chosen : goal.is_better-requires-clause-chosen
is_better-requires-clause-chosen c = chosen_within c.args.pool.now c.args.names.now c.args.terms.now c.loop-term.term-index (get nat_eq c.loop-term.chosen) c.requires.numbers c.loop-term.invariant

pub is_better-requires-clause-term : goal.is_better-requires-clause-term
is_better-requires-clause-term c = (c.requires.numbers c.loop-term.term-index 0 c.loop-term-test.true).within

pub loop-term-preserved-then-not-is_no_sum : goal.loop-term-preserved-then-not-is_no_sum
loop-term-preserved-then-not-is_no_sum c =
    let terms = c.args.terms.now in
    let i = c.loop-term.term-index in
    subst (λ (xs : List ℕ). AreShallowest c.args.pool.now c.args.names.now xs (get nat_eq c.loop-term.chosen)) (sym (take_more terms i 0 c.loop-term-test.true))
    (passed c.args.pool.now c.args.names.now (take i terms) (get_or terms i 0) (get nat_eq c.loop-term.chosen) (λ s. (let both : false ≡ true = c.if-not-is_no_sum.ensures.1 s in cc)) c.loop-term.invariant)

pub loop-term-preserved : goal.loop-term-preserved
loop-term-preserved c =
    let ns = c.args.pool.now in
    let names = c.args.names.now in
    let terms = c.args.terms.now in
    let i = c.loop-term.term-index in
    let n = get_or terms i 0 in
    elim c.if-is_better.branch [
      | then-is_better+in_ok-note w ↦
          subst (λ (xs : List ℕ). AreShallowest ns names xs (get nat_eq c.if-is_better.chosen)) (sym (take_more terms i 0 c.loop-term-test.true))
          (rw w.chosen-is (improved ns names (take i terms) n (get nat_eq c.loop-term.chosen) (get nat_eq w.note.new.table) (c.if-not-is_no_sum.ensures.0 refl) w.if-is_better.ensures w.in_ok-note.ensures c.loop-term.invariant))
      | else-is_better w ↦
          subst (λ (xs : List ℕ). AreShallowest ns names xs (get nat_eq c.if-is_better.chosen)) (sym (take_more terms i 0 c.loop-term-test.true))
          (rw w.chosen-is (as_shallow ns names (take i terms) n (get nat_eq c.loop-term.chosen) w.if-is_better.ensures c.loop-term.invariant))
    ]

pub returns : goal.returns
returns c = subst (λ (xs : List ℕ). AreShallowest c.args.pool.now c.args.names.now xs (get nat_eq c.loop-term.chosen)) (take_all c.loop-term.term-index c.args.terms.now c.loop-term-test.false) c.loop-term.invariant
