use Rattle.std.proofs.Common.{◌≡◌, true, false, get_or, refl, sym, ◌∙◌, subst}
use Rattle.std.specs.Prelude.{All}
use Rattle.std.proofs.lemmas.List.{take_all}
use Rattle.std.proofs.lemmas.List.Elements.{All-more, All-get_or}
use Rattle.term_pool.specs.Pools.{item_at}
use Rattle.substitution.specs.Free.{free_in}
use Rattle.ematching.specs.Numbers.{formula_at}
use Rattle.ematching.proofs.FreeLemmas.{formula_free}
use Rattle.ematching.proofs.node.are_free_of.Goals as goal

pub returns-in-Some : goal.returns-in-Some
returns-in-Some c = (
  λ e. absurd (cc),
  λ all. (
      let v = get_or c.args.variables.now c.loop-variable.variable-index 0 in
      let is : free_in v (formula_at c.args.pool.now c.args.formula) ≡ true = sym (formula_free v (item_at c.args.pool.now c.args.formula) c.requires.sort) ∙ (rw c.in-Some.is at c.in_ok-found.ensures).free in
      let not : free_in v (formula_at c.args.pool.now c.args.formula) ≡ false = All-get_or (λ n. free_in n (formula_at c.args.pool.now c.args.formula) ≡ false) c.args.variables.now c.loop-variable.variable-index 0 c.loop-variable-test.true all in
      absurd (cc)),
)

pub loop-variable-preserved : goal.loop-variable-preserved
loop-variable-preserved c =
    let v = get_or c.args.variables.now c.loop-variable.variable-index 0 in
    All-more (λ n. free_in n (formula_at c.args.pool.now c.args.formula) ≡ false) c.args.variables.now c.loop-variable.variable-index 0 c.loop-variable-test.true c.loop-variable.invariant (sym (formula_free v (item_at c.args.pool.now c.args.formula) c.requires.sort) ∙ rw c.in_default.is at c.in_ok-found.ensures)

pub returns : goal.returns
returns c = (
  λ e. subst (All (λ n. free_in n (formula_at c.args.pool.now c.args.formula) ≡ false)) (take_all c.loop-variable.variable-index c.args.variables.now c.loop-variable-test.false) c.loop-variable.invariant,
  λ all. refl,
)
