use Rattle.std.proofs.Common.{◌≡◌, ℕ, ◌+◌, List, Option, None, get_or, length, ◌∙◌, sym, ap, subst}
use Rattle.std.specs.Prelude.{slice_get, Some}
use Rattle.std.proofs.lemmas.List.{length_push}
use Rattle.base.specs.TypeData.{TypeData}
use Rattle.program.specs.Trees.{IsBelow}
use Rattle.typing_rules.specs.Pools.{type_of, types}
use Rattle.typing_rules.specs.declared.constant.ConstantValue.{ConstantValue}
use Rattle.typing_rules.specs.ConstantRuns.{node_value}
use Rattle.body_types.specs.KnownTypes.{TellsRuns, known_type}
use Rattle.body_types.proofs.Runs.{one_more}
use Rattle.body_types.proofs.constants.initialiser.values_of.Goals as goal

pub loop-index-preserved : goal.loop-index-preserved
loop-index-preserved c =
    let nodes = c.args.body.now.nodes in
    let known = known_type c.args.pool.now c.args.types.now in
    let values = c.loop-index.values.items in
    let n : length values ≡ c.loop-index.index = c.loop-index.invariant.len in
    let value = c.node_value-value.result in
    let push = c.in_ok-push.ensures.items in
    let valued : value ≡ node_value (λ (k : ℕ). get_or values k None) (known (length values)) c.node.result.now =
    c.node_value-value.ensures (types c.args.pool.now)
    ∙ ap (λ (xs : List (Option ConstantValue)). node_value (λ (k : ℕ). get_or xs k None) (type_of (types c.args.pool.now) c.entry-of.result.now) c.node.result.now) c.as_slice.ensures.value
    ∙ ap (λ (t : TypeData). node_value (λ (k : ℕ). get_or values k None) t c.node.result.now) (sym c.entry-of.ensures.one ∙ ap (λ (k : ℕ). known k) (sym n)) in
    let read : slice_get nodes (length values) ≡ Some c.node.result.now = ap (λ (k : ℕ). slice_get nodes k) n ∙ c.node.ensures.node in
    let below : IsBelow (length values) c.node.result.now = subst (λ (k : ℕ). IsBelow k c.node.result.now) (sym n) c.node.ensures.below in
    record {
      len = ap (λ (xs : List (Option ConstantValue)). length xs) push ∙ length_push values value ∙ ap (λ (k : ℕ). k + 1) n;
      runs = subst (λ (xs : List (Option ConstantValue)). TellsRuns xs nodes known) (sym push)
          (one_more nodes values known c.node.result.now value below read valued c.loop-index.invariant.runs);
    }
