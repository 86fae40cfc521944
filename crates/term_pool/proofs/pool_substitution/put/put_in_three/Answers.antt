use Rattle.std.proofs.Common.{nat_eq, sym}
use Rattle.std.specs.HashMap.{get}
use Rattle.term_pool.proofs.PoolSubstitutionItemLemmas.{three_value, three_value_parts}
use Rattle.term_pool.proofs.pool_substitution.put.put_in_three.Goals as goal

pub insert-requires : goal.insert-requires
insert-requires c =
    three_value_parts c.args.pool.now c.args.put (get nat_eq c.args.values.now) c.requires.values c.args.head c.args.a c.args.b c.args.c c.in-Some.first c.in-Some-value.second c.in-Some-value-2.third (sym c.in-Some.ensures) (sym c.in-Some-value.ensures) (sym c.in-Some-value-2.ensures) c.requires.parts

pub returns-clause-is : goal.returns-clause-is
returns-clause-is c =
    three_value c.args.pool.now c.insert.new.self c.args.put (get nat_eq c.args.values.now) c.insert.ensures.extends c.requires.values c.args.head c.args.a c.args.b c.args.c c.in-Some.first c.in-Some-value.second c.in-Some-value-2.third c.in_ok-number.number (sym c.in-Some.ensures) (sym c.in-Some-value.ensures) (sym c.in-Some-value-2.ensures) c.requires.parts c.in_ok-number.ensures.is
