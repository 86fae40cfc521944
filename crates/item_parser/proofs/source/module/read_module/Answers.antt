use Rattle.std.proofs.Common.{ap, subst, ◌∙◌}
use Rattle.syntax_tree.specs.FileData.{ModuleData}
use Rattle.syntax_tree.specs.FunctionNames.{function_names}
use Rattle.base.specs.Names.{IsSetOf}
use Rattle.item_parser.specs.SpecFault.{IfNoSpec}
use Rattle.item_parser.specs.Reading.{HaveNoMembers}
use Rattle.item_parser.proofs.FaultLemmas.{hands_on}
use Rattle.item_parser.proofs.source.module.read_module.Goals as goal

pub returns-in_err-members : goal.returns-in_err-members
returns-in_err-members c =
    hands_on c.from_residual-in_err-members.result _ _ (HaveNoMembers (function_names c.args.module.members) c.args.module.members) _ c.from_residual-in_err-members.ensures.1
    (λ none found s. none found.members s.members)
    (subst (λ members. IfNoSpec c.in_err-members.field-0.0 (HaveNoMembers (function_names c.args.module.members) members)) (ap (λ (m : ModuleData). m.members) c.module.view_is)
    (c.in_err-members.ensures (function_names c.args.module.members) (subst (λ members. IsSetOf c.in_ok-functions.functions (function_names members)) (c.as_slice.ensures.value ∙ ap (λ (m : ModuleData). m.members) c.module.view_is) c.in_ok-functions.ensures)))
