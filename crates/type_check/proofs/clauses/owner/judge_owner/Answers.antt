use Rattle.std.proofs.Common.{suc, ◌+◌, List, [], ◌∷◌, ◌++◌, length, Option, refl, sym, ◌∙◌, ap, subst, arith, add-one}
use Rattle.std.proofs.lemmas.List.{map-append}
use Rattle.std.proofs.lemmas.Option.{slice_get_read}
use Rattle.type_constraints.specs.SpecSettings.{let_of, lets_of, owner_names, owner_types}
use Rattle.type_constraints.specs.declared.spec.setting.LetType.{LetType}
use Rattle.type_constraints.specs.Blocks.{block_of}
use Rattle.type_check.specs.Judged.{ClauseKnown}
use Rattle.type_check.proofs.Owning.{all_said, first_more, none_said, said_again}
use Rattle.type_check.proofs.clauses.owner.judge_owner.Goals as goal

pub loop-clause-init : goal.loop-clause-init
loop-clause-init c =
    said_again c.args.program.now (owner_names c.args.owner) (block_of c.args.block) (owner_types c.args.owner) c.args.clauses.now [] (lets_of c.new-lets.result.items) [] c.new-judged.result.items 0 0
    (sym (ap lets_of c.new-lets.ensures.items)) (sym c.new-judged.ensures.items) refl
    (none_said c.args.program.now (owner_names c.args.owner) (block_of c.args.block) (owner_types c.args.owner) c.args.clauses.now)

pub loop-clause-preserved : goal.loop-clause-preserved
loop-clause-preserved c =
    let n = c.loop-clause.clause-index in
    let at = slice_get_read c.args.clauses.now (length c.args.clauses.now) n c.clause-item.result refl c.loop-clause-test.true c.clause-item.is in
    let lets = c.loop-clause.lets.items in
    said_again c.args.program.now (owner_names c.args.owner) (block_of c.args.block) (owner_types c.args.owner) c.args.clauses.now
    (lets_of lets ++ let_of c.in_ok-one.of ∷ []) (lets_of c.push-in-loop-clause.new.self.items) (c.loop-clause.judged.items ++ c.in_ok-one.one ∷ []) c.push.new.self.items (suc n) (n + 1)
    (sym (ap lets_of c.in_ok-push-2.ensures.items ∙ map-append let_of lets (c.in_ok-one.of ∷ []))) (sym c.in_ok-push.ensures.items) (sym (add-one n))
    (first_more c.args.program.now (owner_names c.args.owner) (block_of c.args.block) (owner_types c.args.owner) c.args.clauses.now (lets_of lets) c.loop-clause.judged.items n c.clause-item.result
    c.in_ok-one.of c.in_ok-one.one c.loop-clause.invariant at
    (subst (λ (ls : List (Option LetType)). ClauseKnown c.args.program.now (owner_names c.args.owner (lets_of ls)) (block_of c.args.block) (owner_types c.args.owner) c.clause-item.result c.in_ok-one.one c.in_ok-one.of)
    c.as_slice.ensures.value c.in_ok-one.ensures))

pub returns : goal.returns
returns c =
    let past = c.loop-clause-test.false in
    let bound = c.loop-clause.auto.clause-index-end in
    all_said c.args.program.now (owner_names c.args.owner) (block_of c.args.block) (owner_types c.args.owner) c.args.clauses.now (lets_of c.loop-clause.lets.items) c.loop-clause.judged.items
    c.loop-clause.clause-index (omega (arith, past, bound)) c.loop-clause.invariant
