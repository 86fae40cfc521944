use Rattle.type_check.proofs.Splits.{joined_open, split_open}
use Rattle.type_check.proofs.code.law.unsettled_in_code_or_spec.Goals as goal

pub returns : goal.returns
returns c = λ program span. (split_open program span, joined_open program span)
