use Rattle.std.proofs.Common.{◌<◌, ◌≤◌, length, get_or, arith}
use Rattle.std.proofs.lemmas.List.{get_or_default}
use Rattle.certificate_text.specs.Applications.{IsApplicationAnew}
use Rattle.certificate_text.proofs.ListLemmas.{so_far_more, so_far_all}
use Rattle.certificate_text.proofs.pools.applications.renumber.Goals as goal

pub loop-application-preserved : goal.loop-application-preserved
loop-application-preserved c =
    let ys = c.loop-application.text in
    let i = c.loop-application.application-index in
    let x = get_or ys i c.application-item.result in
    let within : i < length ys = (let t = c.loop-application-test.true in let a = c.loop-application.auto.text in omega (arith, t, a)) in
    so_far_more (IsApplicationAnew c.args.numbers.now) i c.args.text.now ys x c.renumber_application.new.application c.loop-application.invariant within (get_or_default ys i c.application-item.result x within) c.renumber_application.ensures

pub returns : goal.returns
returns c =
    let ys = c.loop-application.text in
    let i = c.loop-application.application-index in
    let past : length ys ≤ i = (let t = c.loop-application-test.false in let a = c.loop-application.auto.text in omega (arith, t, a)) in
    so_far_all (IsApplicationAnew c.args.numbers.now) i c.args.text.now ys c.loop-application.invariant past
