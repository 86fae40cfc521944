use Rattle.std.proofs.Common.{ℕ, List, Option, subst}
use Rattle.unification.specs.Numbers.{AreParts, PartsSay}
use Rattle.unification.proofs.Numbering.{grouped_term}
use Rattle.unification.proofs.solution.numbers.add_parts.Goals as goal

pub returns-in_ok-add_group-in-Some-clause-says : goal.returns-in_ok-add_group-in-Some-clause-says
returns-in_ok-add_group-in-Some-clause-says c =
    let are : AreParts c.args.numbers.now c.args.first c.args.count c.in-Some.parts =
    subst (λ (found : Option (List ℕ)). PartsSay c.args.numbers.now c.args.first c.args.count found) c.in-Some.is c.in_ok-part_numbers.ensures in
    grouped_term c.args.numbers.now c.args.pool.now c.add_group.new.pool c.args.group c.args.first c.args.count c.in-Some.parts c.in_ok-add_group-in-Some.field-0 are
    c.in_ok-add_group-in-Some.ensures.within c.in_ok-add_group-in-Some.ensures.is
