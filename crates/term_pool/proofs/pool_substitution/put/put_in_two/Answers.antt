use Rattle.std.proofs.Common.{nat_eq, sym}
use Rattle.std.specs.HashMap.{get}
use Rattle.term_pool.proofs.PoolSubstitutionItemLemmas.{two_value, two_value_parts}
use Rattle.term_pool.proofs.pool_substitution.put.put_in_two.Goals as goal

pub insert-requires : goal.insert-requires
insert-requires c =
    two_value_parts c.args.pool.now c.args.put (get nat_eq c.args.values.now) c.requires.values c.args.head c.args.a c.args.b c.in-Some.first c.in-Some-value.second (sym c.in-Some.ensures) (sym c.in-Some-value.ensures) c.requires.parts

pub returns-clause-is : goal.returns-clause-is
returns-clause-is c =
    two_value c.args.pool.now c.insert.new.self c.args.put (get nat_eq c.args.values.now) c.insert.ensures.extends c.requires.values c.args.head c.args.a c.args.b c.in-Some.first c.in-Some-value.second c.in_ok-number.number (sym c.in-Some.ensures) (sym c.in-Some-value.ensures) c.requires.free c.requires.parts c.in_ok-number.ensures.is
