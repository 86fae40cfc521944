use Rattle.std.proofs.Common.{◌≡◌, Some, refl, sym, ◌∙◌, rules}
use Rattle.sum_module.specs.Parameters.{parameters_at}
use Rattle.sum_module.proofs.member.read_spec_member.Goals as goal

pub returns-then-knows_clauses : goal.returns-then-knows_clauses
returns-then-knows_clauses c = λ members table.
    let found : parameters_at c.args.parameters.now.table c.in_ok-spec.spec.target ≡ Some c.in-Some.names.now = search rules in
    record {
      spec = c.in_ok-spec.spec;
      found_is = refl;
      read = c.in_ok-spec.ensures;
      parameters = c.in-Some.names.now;
      target = sym (table c.in_ok-spec.spec.target) ∙ found;
      known = search rules;
    }
