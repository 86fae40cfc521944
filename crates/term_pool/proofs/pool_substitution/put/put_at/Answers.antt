use Rattle.std.proofs.Common.{nat_eq}
use Rattle.std.specs.HashMap.{get}
use Rattle.term_pool.proofs.PoolSubstitutionItemLemmas.{one_turn, two_turn, three_turn}
use Rattle.term_pool.proofs.pool_substitution.put.put_at.Goals as goal

pub returns-in-Some-One-clause-is : goal.returns-in-Some-One-clause-is
returns-in-Some-One-clause-is c =
    one_turn c.args.pool.now c.put_in_one.new.pool c.args.put (get nat_eq c.args.values.now) c.put_in_one.ensures.extends c.args.number c.in-Some-One.head c.in-Some-One.a c.requires.within (rw c.in-Some-One.field-0-is at c.in-Some-One.ensures) c.put_in_one.result c.put_in_one.ensures.is

pub returns-else-binds-clause-is : goal.returns-else-binds-clause-is
returns-else-binds-clause-is c =
    two_turn c.args.pool.now c.put_in_two.new.pool c.args.put (get nat_eq c.args.values.now) c.put_in_two.ensures.extends c.args.number c.in-Some-Two.head c.in-Some-Two.a c.in-Some-Two.b c.requires.within (rw c.in-Some-Two.field-0-is at c.in-Some-Two.ensures) c.put_in_two.result c.put_in_two.ensures.is

pub returns-in-Some-Three-clause-is : goal.returns-in-Some-Three-clause-is
returns-in-Some-Three-clause-is c =
    three_turn c.args.pool.now c.put_in_three.new.pool c.args.put (get nat_eq c.args.values.now) c.put_in_three.ensures.extends c.args.number c.in-Some-Three.head c.in-Some-Three.a c.in-Some-Three.b c.in-Some-Three.c c.requires.within (rw c.in-Some-Three.field-0-is at c.in-Some-Three.ensures) c.put_in_three.result c.put_in_three.ensures.is
