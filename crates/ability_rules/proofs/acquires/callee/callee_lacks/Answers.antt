use Rattle.std.proofs.Common.{sym, ◌∙◌, subst, Bool}
use Rattle.std.specs.Prelude.{◌↔◌, IsTrue}
use Rattle.std.specs.Map.{lookup}
use Rattle.std.proofs.lemmas.Bool.{both_ways}
use Rattle.program.specs.Same.{same_function}
use Rattle.ability_rules.specs.Missing.{DeclaredLacks}
use Rattle.ability_rules.proofs.Looks.{callee_clear, callee_found, other_module, was_looked}
use Rattle.ability_rules.proofs.acquires.callee.callee_lacks.Goals as goal

pub returns-then-not-is_own : goal.returns-then-not-is_own
returns-then-not-is_own c =
    other_module c.args.look.program.now c.args.look.own.now c.args.look.listed.now c.args.seen.now c.args.callee.now
    (λ e. both_ways c.is_of_module-is_own.result c.if-not-is_own.true (c.is_of_module-is_own.ensures.1 e))

pub returns-then-is_seen : goal.returns-then-is_seen
returns-then-is_seen c =
    was_looked c.args.look.program.now c.args.look.own.now c.args.look.listed.now c.args.seen.now c.args.callee.now (sym c.has_function-is_seen.ensures ∙ c.if-is_seen.true)

pub returns-then-lacks : goal.returns-then-lacks
returns-then-lacks c =
    callee_found c.args.look.program.now c.args.look.own.now c.args.look.listed.now c.args.seen.now c.args.callee.now (c.is_of_module-is_own.ensures.0 c.if-not-is_own.false)
    (λ listed is. subst (λ (b : Bool). IsTrue b ↔ DeclaredLacks listed (lookup (same_function c.args.callee.now) c.args.look.program.now.functions)) c.if-lacks.true (c.declared_lacks-lacks.ensures listed is))

pub returns : goal.returns
returns c =
    callee_clear c.args.look.program.now c.args.look.own.now c.args.look.listed.now c.args.seen.now c.args.callee.now c.put.new.self c.in_ok-copy.copy c.in_ok-put.field-0
    (λ listed is. subst (λ (b : Bool). IsTrue b ↔ DeclaredLacks listed (lookup (same_function c.args.callee.now) c.args.look.program.now.functions)) c.if-lacks.false (c.declared_lacks-lacks.ensures listed is))
    c.in_ok-copy.ensures c.in_ok-put.ensures.new c.in_ok-put.ensures.put
