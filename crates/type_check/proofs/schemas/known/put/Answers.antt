use Rattle.std.proofs.Common.{◌≡◌, ℕ, List, [], ◌∷◌, ◌++◌, map, Some, refl, sym, ◌∙◌, subst}
use Rattle.base.specs.TypeData.{TypeData, types_of}
use Rattle.term_pool.specs.Items.{TypesItem}
use Rattle.term_pool.specs.Pools.{IsItem}
use Rattle.type_check.specs.ClausesInstances as I
use Rattle.type_check.specs.Judged.{instance_of}
use Rattle.type_check.specs.declared.clauses.instance.Instance.{Instance}
use Rattle.type_check.specs.declared.schemas.known.InstanceKey.{InstanceKey}
use Rattle.std.specs.Prelude.{slice_get}
use Rattle.type_check.specs.Known.{IsKeyOf, IsPut}
use Rattle.type_check.proofs.KeyLaws.{keyed_new, keys_grown, none_there, put_found, put_new}
use Rattle.type_check.proofs.schemas.known.put.Goals as goal

pub push-requires : goal.push-requires
push-requires c = none_there c.args.known.now.entries _ (sym c.number.ensures ∙ c.in-None.is)

pub returns-in-Some-clause-keyed : goal.returns-in-Some-clause-keyed
returns-in-Some-clause-keyed c n e at = keys_grown c.args.known.now.pool c.intern_types.new.pool e.0 (instance_of e.1) c.in_ok-types.ensures.extends (c.requires n e at)

pub returns-in-Some-clause-put : goal.returns-in-Some-clause-put
returns-in-Some-clause-put c =
    put_found c.intern_types.new.pool c.args.known.now.entries (record { schema = c.in_ok-try_clone.field-0; types = c.in_ok-types.types; block = c.args.instance.now.block }) (instance_of c.args.instance.now) c.in-Some.number
    (λ n e at. keys_grown c.args.known.now.pool c.intern_types.new.pool e.0 (instance_of e.1) c.in_ok-types.ensures.extends (c.requires n e at))
    (record {
      schema = c.in_ok-try_clone.ensures;
      block = refl;
      types = subst (λ (ts : List TypeData). IsItem c.intern_types.new.pool c.in_ok-types.types (TypesItem (types_of ts))) c.deref.ensures.value c.in_ok-types.ensures.is;
    })
    (sym c.number.ensures ∙ c.in-Some.is)

pub returns-in_ok-push-in-None-clause-keyed : goal.returns-in_ok-push-in-None-clause-keyed
returns-in_ok-push-in-None-clause-keyed c =
    let pool = c.intern_types.new.pool in
    let entries = c.args.known.now.entries in
    let key : InstanceKey = record { schema = c.in_ok-try_clone.field-0; types = c.in_ok-types.types; block = c.args.instance.now.block } in
    let copy = c.in_ok-copy-in-None.copy in
    subst (λ (es : List (InstanceKey × Instance)). (n : ℕ) (e : InstanceKey × Instance) → slice_get es n ≡ Some e → IsKeyOf pool e.0 (instance_of e.1)) (sym c.in_ok-push-in-None.ensures.ok)
    (keyed_new pool entries key copy (λ n e at. keys_grown c.args.known.now.pool pool e.0 (instance_of e.1) c.in_ok-types.ensures.extends (c.requires n e at))
    (subst (λ (i : I.Instance). IsKeyOf pool key i) (sym c.in_ok-copy-in-None.ensures) (record {
      schema = c.in_ok-try_clone.ensures;
      block = refl;
      types = subst (λ (ts : List TypeData). IsItem pool c.in_ok-types.types (TypesItem (types_of ts))) c.deref.ensures.value c.in_ok-types.ensures.is;
    })))

pub returns-in_ok-push-in-None-clause-put : goal.returns-in_ok-push-in-None-clause-put
returns-in_ok-push-in-None-clause-put c =
    let entries = c.args.known.now.entries in
    let key : InstanceKey = record { schema = c.in_ok-try_clone.field-0; types = c.in_ok-types.types; block = c.args.instance.now.block } in
    let copy = c.in_ok-copy-in-None.copy in
    subst (λ (es : List (InstanceKey × Instance)). IsPut (map (λ e. instance_of e.1) entries) (map (λ e. instance_of e.1) es) (instance_of c.args.instance.now) c.len-number.result) (sym c.in_ok-push-in-None.ensures.ok)
    (subst (λ (n : ℕ). IsPut (map (λ e. instance_of e.1) entries) (map (λ e. instance_of e.1) (entries ++ (key, copy) ∷ [])) (instance_of c.args.instance.now) n) (sym c.len-number.ensures)
    (put_new entries key copy (instance_of c.args.instance.now) c.in_ok-copy-in-None.ensures))
