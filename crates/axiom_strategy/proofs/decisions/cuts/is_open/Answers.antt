use Rattle.std.proofs.Common.{◌≡◌, ℕ, true, false, refl, sym, ◌∙◌, subst}
use Rattle.congruence_closure.specs.Known.{class_of}
use Rattle.axiom_strategy.specs.Cuts.{IsDeniedEither}
use Rattle.axiom_strategy.proofs.OpenLemmas.{open_answer}
use Rattle.axiom_strategy.proofs.decisions.cuts.is_open.Goals as goal

pub class-one-requires : goal.class-one-requires
class-one-requires c = c.requires.left.known

pub class-other-requires : goal.class-other-requires
class-other-requires c = c.requires.right.known

pub returns-then-one-other : goal.returns-then-one-other
returns-then-one-other c = (λ e. absurd (cc), λ o. absurd (o.apart (sym c.class-one.ensures ∙ c.if-one-other.true ∙ c.class-other.ensures)))

pub returns-then-is_denied : goal.returns-then-is_denied
returns-then-is_denied c = (
  λ e. absurd (cc),
  λ o. absurd (o.not_denied (
      subst (λ (k : ℕ). IsDeniedEither c.args.denied.now k (class_of c.args.classes.now c.args.right)) c.class-one.ensures
      (subst (IsDeniedEither c.args.denied.now c.class-one.result) c.class-other.ensures (c.if-is_denied.ensures.0 refl)))),
)

pub returns : goal.returns
returns c =
    open_answer c.args.classes.now c.args.numbers.now c.args.denied.now c.args.left c.args.right c.are_both.result
    (λ e. c.if-one-other.false (c.class-one.ensures ∙ e ∙ sym c.class-other.ensures))
    (λ h. (let both : false ≡ true = c.if-is_denied.ensures.1 (subst (λ (k : ℕ). IsDeniedEither c.args.denied.now k c.class-other.result) (sym c.class-one.ensures) (subst (IsDeniedEither c.args.denied.now (class_of c.args.classes.now c.args.left)) (sym c.class-other.ensures) h)) in absurd (cc)))
    c.are_both.ensures
