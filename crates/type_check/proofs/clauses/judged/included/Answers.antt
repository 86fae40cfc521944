use Rattle.std.proofs.Common.{ℕ, ◌+◌, Some, None, List, length, sym, ◌∙◌, ap, subst}
use Rattle.std.specs.Option.{option_map}
use Rattle.base.specs.TypeData.{types_of}
use Rattle.program.specs.declared.declaration.TypeParameter.{TypeParameter}
use Rattle.program.specs.declared.program.SchemaId.{SchemaId}
use Rattle.type_constraints.specs.Blocks.{block_of}
use Rattle.typing_rules.specs.Clauses.{clause_system}
use Rattle.type_check.specs.ClausesInstances.{Includes}
use Rattle.type_check.specs.Judged.{stated}
use Rattle.type_check.proofs.Including.{variables_are, typed, untyped, first_variable, known_arguments}
use Rattle.type_check.proofs.clauses.judged.included.Goals as goal

pub returns-in-None-2 : goal.returns-in-None-2
returns-in-None-2 c names types span says =
    let program = c.args.program.now in
    let at = stated names (block_of c.args.block) types c.args.clause.now span in
    let declared = c.in-Some.declared.now in
    untyped program at c.in-Include.schema c.in-Include.types c.in-Include.given declared c.in-Include.is (sym c.in-Some.ensures)
    (known_arguments program at declared _ _ None (ap (λ (ps : List TypeParameter). length ps) c.as_slice-count.ensures) (ap (option_map (λ terms. terms.items)) c.in-None-2.is)
    (c.in_ok-last_types-in-Some.ensures (clause_system program names (block_of c.args.block) types c.args.clause.now) (first_variable program at) says
    (variables_are program at c.in-Include.schema c.in-Include.types c.in-Include.given declared c.in-Include.is (sym c.in-Some.ensures) ∙ ap (λ (n : ℕ). first_variable program at + n) (sym (ap (λ (ps : List TypeParameter). length ps) c.as_slice-count.ensures)))))

pub returns-in_ok-try_clone-in-Some-2 : goal.returns-in_ok-try_clone-in-Some-2
returns-in_ok-try_clone-in-Some-2 c names types span says =
    let program = c.args.program.now in
    let at = stated names (block_of c.args.block) types c.args.clause.now span in
    let declared = c.in-Some.declared.now in
    subst (λ (s : SchemaId). Includes program at (record { schema = s; types = types_of c.in-Some-2.types.items; block = block_of c.args.block })) (sym c.in_ok-try_clone-in-Some-2.ensures)
    (typed program at c.in-Include.schema c.in-Include.types c.in-Include.given declared c.in-Some-2.types.items c.in-Include.is (sym c.in-Some.ensures)
    (known_arguments program at declared _ _ (Some c.in-Some-2.types.items) (ap (λ (ps : List TypeParameter). length ps) c.as_slice-count.ensures) (ap (option_map (λ terms. terms.items)) c.in-Some-2.is)
    (c.in_ok-last_types-in-Some.ensures (clause_system program names (block_of c.args.block) types c.args.clause.now) (first_variable program at) says
    (variables_are program at c.in-Include.schema c.in-Include.types c.in-Include.given declared c.in-Include.is (sym c.in-Some.ensures) ∙ ap (λ (n : ℕ). first_variable program at + n) (sym (ap (λ (ps : List TypeParameter). length ps) c.as_slice-count.ensures))))))
