use Rattle.std.proofs.Common.{◌≡◌, List, length, refl, sym, ap, ◌∙◌, subst}
use Rattle.std.specs.List.{AllZip}
use Rattle.std.specs.Vec.{with_items}
use Rattle.std.proofs.lemmas.List.{with_items_is}
use Rattle.search.specs.Applications.{IsApplicationOf}
use Rattle.search.specs.declared.trees.application.PoolApplication.{PoolApplication}
use Rattle.certificate_text.specs.Moves.{FitApplications}
use Rattle.certificate_text.proofs.prover.compacted.Goals as goal

pub returns : goal.returns
returns c =
    let old = c.args.search.outcome.tree.text in
    let new = c.compact.new.text in
    let before : c.as_mut_slice.result.now ≡ old.items = c.as_mut_slice.ensures.value in
    let after : (with_items old new).items ≡ new = with_items_is old new (c.compact.auto.text ∙ ap length before ∙ sym old.ok.0) in
    record {
      end = refl;
      applications = λ applications are. (
          let here = subst (λ (ts : List PoolApplication). AllZip (IsApplicationOf c.args.search.pool) ts applications) (sym before) are in
          subst (λ (ts : List PoolApplication). AllZip (IsApplicationOf c.in_ok-pool.pool) ts applications) (sym after) (c.in_ok-pool.ensures.applications applications here));
      fit = λ fits. subst FitApplications (sym after) (c.in_ok-pool.ensures.fit (subst FitApplications (sym before) fits));
    }
