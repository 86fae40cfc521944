use Rattle.std.proofs.Common.{sym, subst}
use Rattle.item_parser.specs.Reading.{HasNoForm, HasNoTree}
use Rattle.item_parser.proofs.FaultLemmas.{hands_on}
use Rattle.item_parser.proofs.SourceMemberLemmas.{no_form}
use Rattle.item_parser.proofs.source.module.read_form.Goals as goal

pub returns-in_err-read_spec-in-Spec : goal.returns-in_err-read_spec-in-Spec
returns-in_err-read_spec-in-Spec c = λ names same.
    hands_on c.from_residual.result _ _ (HasNoTree names c.in-Spec.block) _ c.from_residual.ensures.1
    (λ none. subst (HasNoForm names) (sym c.in-Spec.is) (no_form names c.in-Spec.block none)) (c.in_err-read_spec-in-Spec.ensures names same)
