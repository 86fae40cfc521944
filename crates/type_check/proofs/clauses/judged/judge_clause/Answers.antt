use Rattle.std.proofs.Common.{refl}
use Rattle.type_constraints.specs.SpecSettings.{names_of, owner_types}
use Rattle.type_constraints.specs.Blocks.{block_of}
use Rattle.typing_rules.specs.Clauses.{clause_system}
use Rattle.type_check.proofs.Judging.{or_untyped}
use Rattle.type_check.proofs.clauses.judged.judge_clause.Goals as goal

pub returns : goal.returns
returns c =
    let program = c.args.program.now in
    let names = names_of c.args.names in
    let types = owner_types c.args.names.owner in
    let s = clause_system program names (block_of c.args.block) types c.args.clause.now in
    let says = c.in_ok-typing.ensures.says in
    record {
      says = λ span. record {
        untyped = or_untyped s program c.args.clause.now.form _ _ (c.is_untypable.ensures s _ says) c.includes_improper-is_improper.ensures;
        unsettled = c.is_ambiguous.ensures s _ says;
        included = c.in_ok-included.ensures names types span says;
        typing = says;
      };
      span_is = refl;
      of_let = c.in_ok-of.ensures s says;
    }
