use Rattle.std.proofs.Common.{length}
use Rattle.program.proofs.Firsts.{first_of_both}
use Rattle.type_check.specs.declared.clauses.judged.ClauseRule.TheVariants.{Typing, Settling}
use Rattle.type_check.specs.Known.{listed}
use Rattle.type_check.specs.SpecFaults.{FunctionBreaksAt, StatedBreaks}
use Rattle.type_check.specs.Numbered.{AreNumbered}
use Rattle.type_check.proofs.FaultLaws.{first_again, first_stated, numbered_again, roots_shallow}
use Rattle.type_check.proofs.IncludedLaws.{included}
use Rattle.type_check.proofs.spec.first.judge_specifications.Goals as goal

pub broken_instances-requires-clause-shallow : goal.broken_instances-requires-clause-shallow
broken_instances-requires-clause-shallow c =
    roots_shallow c.args.program.now (length c.args.program.now.schemas) _ c.in_ok-judged.judged.items _ c.in_ok-judged.ensures
    (numbered_again _ _ _ _ c.deref.ensures.value c.in_ok-roots.ensures.numbered) c.requires.shallow

pub returns-clause-untyped : goal.returns-clause-untyped
returns-clause-untyped c =
    let program = c.args.program.now in
    let known = listed c.in_ok-roots.field-0.known in
    let roots = c.in_ok-roots.field-0.roots.items in
    let broken = c.in_ok-broken.broken.untyped.items in
    let numbered : AreNumbered known c.in_ok-judged.judged.items roots (length c.in_ok-judged.judged.items) = numbered_again known _ _ roots c.deref.ensures.value c.in_ok-roots.ensures.numbered in
    first_of_both (StatedBreaks program Typing) (FunctionBreaksAt program Typing) c.first_untyped-untyped.result c.in_ok-functions.functions.untyped c.earlier.result
    (first_stated program known Typing broken c.in_ok-broken.ensures.untyped c.in_ok-judged.judged.items roots c.in_ok-judged.ensures numbered c.first_untyped-untyped.result
    (first_again Typing _ broken _ roots c.first_untyped-untyped.result c.deref-3.ensures.value c.deref-2.ensures.value c.first_untyped-untyped.ensures))
    c.in_ok-functions.ensures.untyped c.earlier.ensures

pub returns-clause-unsettled : goal.returns-clause-unsettled
returns-clause-unsettled c =
    let program = c.args.program.now in
    let known = listed c.in_ok-roots.field-0.known in
    let roots = c.in_ok-roots.field-0.roots.items in
    let broken = c.in_ok-broken.broken.unsettled.items in
    let numbered : AreNumbered known c.in_ok-judged.judged.items roots (length c.in_ok-judged.judged.items) = numbered_again known _ _ roots c.deref.ensures.value c.in_ok-roots.ensures.numbered in
    first_of_both (StatedBreaks program Settling) (FunctionBreaksAt program Settling) c.first_unsettled-unsettled.result c.in_ok-functions.functions.unsettled c.earlier-2.result
    (first_stated program known Settling broken c.in_ok-broken.ensures.unsettled c.in_ok-judged.judged.items roots c.in_ok-judged.ensures numbered c.first_unsettled-unsettled.result
    (first_again Settling _ broken _ roots c.first_unsettled-unsettled.result c.deref-5.ensures.value c.deref-4.ensures.value c.first_unsettled-unsettled.ensures))
    c.in_ok-functions.ensures.unsettled c.earlier-2.ensures

pub returns-clause-instances : goal.returns-clause-instances
returns-clause-instances c =
    let known = listed c.in_ok-roots.field-0.known in
    let roots = c.in_ok-roots.field-0.roots.items in
    included c.args.program.now known c.in_ok-judged.judged.items roots c.in_ok-broken.broken.instances c.in_ok-judged.ensures
    (numbered_again known _ _ roots c.deref.ensures.value c.in_ok-roots.ensures.numbered) c.in_ok-broken.ensures.instances
