use Rattle.std.proofs.Common.{◌≡◌, List, None, Some, sym, ◌∙◌, subst}
use Rattle.base.specs.TypeData.{TypeData, types_of}
use Rattle.program.specs.declared.clause.Clause.{Clause}
use Rattle.program.specs.declared.declaration.Schema.{Schema}
use Rattle.type_constraints.specs.Blocks.{block_of}
use Rattle.typing_rules.specs.Clauses.{schema_names}
use Rattle.type_check.specs.Judged.{OwnerSays, instance_of}
use Rattle.type_check.proofs.Placing.{if_ok_map}
use Rattle.type_check.proofs.InstanceLaws.{instance_says}
use Rattle.type_check.proofs.SchemasLists.{some_inside}
use Rattle.type_check.proofs.schemas.closing.judge_instance.Goals as goal

pub returns-in-None-clause-owner : goal.returns-in-None-clause-owner
returns-in-None-clause-owner c = λ declared found. absurd (let e : None ≡ Some declared = c.in-None.ensures ∙ found in cc)

pub returns-in-Some-clause-owner : goal.returns-in-Some-clause-owner
returns-in-Some-clause-owner c =
    let program = c.args.program.now in
    let declared = c.in-Some.schema.now in
    let i = instance_of c.args.instance.now in
    let items = c.args.instance.now.types.items in
    if_ok_map c.judge_owner.result (λ judged owner other found.
    subst (λ (d : Schema). OwnerSays program (schema_names d i.types) i.block i.types d.clauses judged.items) (some_inside declared other (c.in-Some.ensures ∙ found))
    (subst (λ (cs : List Clause). OwnerSays program (schema_names declared (types_of items)) i.block (types_of items) cs judged.items) c.as_slice-clauses.ensures
    (subst (λ (ts : List TypeData). OwnerSays program (schema_names declared (types_of ts)) i.block (types_of ts) c.as_slice-clauses.result.now judged.items) c.deref.ensures.value owner)))
    c.judge_owner.ensures

pub returns-in-Some-clause-says : goal.returns-in-Some-clause-says
returns-in-Some-clause-says c =
    let program = c.args.program.now in
    let declared = c.in-Some.schema.now in
    let block = block_of c.args.instance.now.block in
    let items = c.args.instance.now.types.items in
    if_ok_map c.judge_owner.result (λ judged owner.
    instance_says program (instance_of c.args.instance.now) judged.items declared (sym c.in-Some.ensures)
    (subst (λ (cs : List Clause). OwnerSays program (schema_names declared (types_of items)) block (types_of items) cs judged.items) c.as_slice-clauses.ensures
    (subst (λ (ts : List TypeData). OwnerSays program (schema_names declared (types_of ts)) block (types_of ts) c.as_slice-clauses.result.now judged.items) c.deref.ensures.value owner)))
    c.judge_owner.ensures
