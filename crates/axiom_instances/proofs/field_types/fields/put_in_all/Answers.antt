use Rattle.std.proofs.Common.{[], refl, sym, ap, ◌∙◌, subst}
use Rattle.term_pool.specs.Items.{TypeItem}
use Rattle.term_pool.specs.Pools.{item_at, IsItem}
use Rattle.term_pool.proofs.GrowthLemmas.{extends_itself, extends_then}
use Rattle.std.proofs.lemmas.List.{take_all}
use Rattle.axiom_instances.specs.Puts.{types_at}
use Rattle.axiom_instances.specs.FieldTypes.{ArePutResults, IsPutResult, NoResults}
use Rattle.axiom_instances.proofs.PutLemmas.{types_kept, types_stay}
use Rattle.axiom_instances.proofs.FieldTypesFieldLemmas.{result_of, results_stay, results_next}
use Rattle.axiom_instances.proofs.field_types.fields.put_in_all.Goals as goal

pub loop-field-init : goal.loop-field-init
loop-field-init c = record {
  extends = extends_itself c.args.pool.now;
  results = subst (ArePutResults c.args.pool.now (types_at c.args.pool.now c.args.args) []) (sym c.new-found.ensures.items) NoResults;
}

pub put_arguments-requires-clause-args : goal.put_arguments-requires-clause-args
put_arguments-requires-clause-args c =
    types_stay c.args.pool.now c.intern_type.new.pool c.args.args (extends_then c.loop-field.invariant.extends c.intern_type.ensures.extends) c.requires

pub loop-field-preserved : goal.loop-field-preserved
loop-field-preserved c =
    let ns = c.args.pool.now in
    let ms = c.intern_type.new.pool in
    let ks = c.put_arguments.new.pool in
    let list = c.args.args in
    let e = extends_then c.loop-field.invariant.extends c.intern_type.ensures.extends in
    let all = extends_then e c.put_arguments.ensures.extends in
    let result = result_of ks (types_at ms list) c.field-item.result (item_at ms c.in_ok-from.from) c.in_ok-put.put c.in_ok-from.ensures.is.is c.in_ok-put.ensures.is in
    let same = subst (λ ts. IsPutResult ks ts c.field-item.result c.in_ok-put.put) (types_kept ns ms list e c.requires) result in
    let before = results_stay (extends_then c.intern_type.ensures.extends c.put_arguments.ensures.extends) c.loop-field.invariant.results in
    record {
      extends = all;
      results = subst (ArePutResults ks (types_at ns list) _) (sym c.in_ok-push.ensures.items) (results_next (types_at ns list) c.args.fields.now c.loop-field.found.items c.in_ok-put.put c.loop-field.field-index c.field-item.result c.loop-field-test.true before (subst (λ f. IsPutResult ks (types_at ns list) f c.in_ok-put.put) c.field-item.is same));
    }
