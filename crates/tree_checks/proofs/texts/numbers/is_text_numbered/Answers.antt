use Rattle.std.proofs.Common.{refl, subst}
use Rattle.std.specs.Prelude.{All}
use Rattle.std.proofs.lemmas.List.{take_all}
use Rattle.std.proofs.lemmas.List.Elements.{All-more}
use Rattle.tree_checks.specs.Numbers.{IsApplicationNumbered}
use Rattle.tree_checks.proofs.texts.numbers.is_text_numbered.Goals as goal

pub loop-application-preserved : goal.loop-application-preserved
loop-application-preserved c =
    All-more (IsApplicationNumbered c.args.pool.now) c.args.text.now c.loop-application.application-index c.application-item.result c.loop-application-test.true c.loop-application.invariant (subst (IsApplicationNumbered c.args.pool.now) c.application-item.is (c.if-not-is_application_numbered.ensures refl))

pub returns : goal.returns
returns c = λ e. subst (All (IsApplicationNumbered c.args.pool.now)) (take_all c.loop-application.application-index c.args.text.now c.loop-application-test.false) c.loop-application.invariant
