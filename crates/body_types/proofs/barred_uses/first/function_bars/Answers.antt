use Rattle.std.proofs.Common.{◌∙◌, subst}
use Rattle.std.proofs.lemmas.Result.{IfOk-weaker}
use Rattle.std.specs.Bool.{Decides}
use Rattle.program.specs.declared.program.ModuleId.{ModuleId}
use Rattle.typing_rules.specs.FieldBars.{BarsUse}
use Rattle.body_types.proofs.barred_uses.first.function_bars.Goals as goal

pub returns : goal.returns
returns c = IfOk-weaker c.bars_use.result _ _
    (λ bars h. subst (λ (own : ModuleId). Decides bars (BarsUse c.args.program.now own c.args.function.now)) (c.in_ok-own.ensures ∙ c.of_function.ensures) h) c.bars_use.ensures
