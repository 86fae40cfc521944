use Rattle.std.proofs.Common.{subst, ◌∙◌}
use Rattle.resolution.specs.Parts.{IsPartOf, finished}
use Rattle.resolution.proofs.FinishLaws.{part_entered}
use Rattle.resolution.proofs.tables.enter_part.Goals as goal

pub returns-in_ok-put_into-in-Some : goal.returns-in_ok-put_into-in-Some
returns-in_ok-put_into-in-Some c = λ w n m part after e.
    let d = c.in-Some.declared in
    part_entered w n m d c.finished-whole.result c.args.owner c.args.of_module c.args.program.now c.put_into.new.program
    (c.finished-whole.ensures ∙ (λ i. finished d.form (c.take_owned-owned.ensures.clauses i) (c.take_owned-owned.ensures.settings i) c.args.of_module))
    after e (subst (λ p. IsPartOf w n m p) c.in-Some.is part) c.in_ok-put_into-in-Some.ensures
