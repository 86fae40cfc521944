use Rattle.std.proofs.Common.{◌≡◌, true, false, refl, sym, ◌∙◌}
use Rattle.term_pool.proofs.GrowthLemmas.{extends_then}
use Rattle.certificates.specs.Due.{trichotomy_axiom}
use Rattle.tableau.specs.PoolBranches.{branch_in}
use Rattle.tableau.specs.Terms.{term_at}
use Rattle.tableau.proofs.BranchLemmas.{known_term}
use Rattle.axiom_strategy.proofs.GrownLemmas.{number_grown, over_grown, stands_before, stands_after}
use Rattle.axiom_strategy.proofs.OrderLemmas.{turned_stands, not_addable, addable_before, addable_after, number_before, joined_not, fresh_step}
use Rattle.axiom_strategy.proofs.decisions.orders.fresh_order.Goals as goal

pub class-one-requires : goal.class-one-requires
class-one-requires c = known_term c.args.pool.now c.one_number.ensures c.args.branch.now c.requires.over c.args.classes.now c.requires.classes c.args.left c.requires.left

pub class-other-requires : goal.class-other-requires
class-other-requires c = known_term c.args.pool.now c.one_number.ensures c.args.branch.now c.requires.over c.args.classes.now c.requires.classes c.args.right c.requires.right

pub returns-then-one-other-clause-due : goal.returns-then-one-other-clause-due
returns-then-one-other-clause-due c =
    joined_not c.args.pool.now c.one_number.ensures c.args.branch.now c.requires.over c.args.classes.now c.requires.classes c.exact.ensures c.args.left c.args.right c.requires.left c.requires.right (sym c.class-one.ensures ∙ c.if-one-other.true ∙ c.class-other.ensures)

pub stands-requires-clause-over : goal.stands-requires-clause-over
stands-requires-clause-over c = over_grown c.args.pool.now c.instance.new.pool c.instance.ensures.extends c.args.branch.now c.requires.over

pub returns-then-stands-clause-due : goal.returns-then-stands-clause-due
returns-then-stands-clause-due c =
    let ns = c.args.pool.now in
    let t = term_at ns c.args.left in
    let u = term_at ns c.args.right in
    turned_stands (branch_in ns c.args.branch.now) t u (stands_before ns c.instance.new.pool c.instance.ensures.extends c.args.branch.now c.requires.over (trichotomy_axiom u t) c.in_ok-turned.turned c.in_ok-turned.ensures.is (c.if-stands.ensures.0 refl))

pub instance-requires-2-clause-left : goal.instance-requires-2-clause-left
instance-requires-2-clause-left c = number_grown c.args.pool.now c.instance.new.pool c.instance.ensures.extends c.args.left c.requires.left.number

pub instance-requires-2-clause-right : goal.instance-requires-2-clause-right
instance-requires-2-clause-right c = number_grown c.args.pool.now c.instance.new.pool c.instance.ensures.extends c.args.right c.requires.right.number

pub is_addable-requires-clause-over : goal.is_addable-requires-clause-over
is_addable-requires-clause-over c = over_grown c.args.pool.now c.instance-2.new.pool (extends_then c.instance.ensures.extends c.instance-2.ensures.extends) c.args.branch.now c.requires.over

pub returns-then-is_addable-clause-due : goal.returns-then-is_addable-clause-due
returns-then-is_addable-clause-due c =
    let ns = c.args.pool.now in
    let m = c.instance.new.pool in
    let k = c.instance-2.new.pool in
    let d = c.args.branch.now in
    let t = term_at ns c.args.left in
    let u = term_at ns c.args.right in
    let number = number_before ns m c.instance.ensures.extends d c.requires.over c.args.left c.args.right c.in_ok-formula.formula k c.requires.left.number c.requires.right.number c.in_ok-formula.ensures.is in
    fresh_step ns k c.one_number.ensures d c.requires.over c.args.classes.now c.requires.classes c.exact.ensures c.args.left c.args.right c.generation-left_generation.result c.generation-right_generation.result c.in_ok-formula.formula c.requires.left c.requires.right
    (λ e. c.if-one-other.false (c.class-one.ensures ∙ e ∙ sym c.class-other.ensures))
    (λ z. (let both : false ≡ true = c.if-stands.ensures.1 (stands_after ns m c.instance.ensures.extends d c.requires.over (trichotomy_axiom u t) c.in_ok-turned.turned c.in_ok-turned.ensures.is z) in absurd (cc)))
    (addable_before ns k (extends_then c.instance.ensures.extends c.instance-2.ensures.extends) d c.requires.over (trichotomy_axiom t u) c.in_ok-formula.formula number (c.if-is_addable.ensures.0 refl))
    number c.generation-left_generation.ensures c.generation-right_generation.ensures c.max-generation.result c.max-generation.ensures

pub returns-clause-extends : goal.returns-clause-extends
returns-clause-extends c = extends_then c.instance.ensures.extends c.instance-2.ensures.extends

pub returns-clause-due : goal.returns-clause-due
returns-clause-due c =
    let ns = c.args.pool.now in
    let m = c.instance.new.pool in
    let k = c.instance-2.new.pool in
    let d = c.args.branch.now in
    let t = term_at ns c.args.left in
    let u = term_at ns c.args.right in
    let number = number_before ns m c.instance.ensures.extends d c.requires.over c.args.left c.args.right c.in_ok-formula.formula k c.requires.left.number c.requires.right.number c.in_ok-formula.ensures.is in
    not_addable (branch_in ns d) t u (λ a. (let both : false ≡ true = c.if-is_addable.ensures.1 (addable_after ns k (extends_then c.instance.ensures.extends c.instance-2.ensures.extends) d c.requires.over (trichotomy_axiom t u) c.in_ok-formula.formula number a) in absurd (cc)))
