use Rattle.std.proofs.Common.{◌<◌, length, ap, arith, length-append}
use Rattle.term_pool.proofs.GrowthLemmas.{extends_then}
use Rattle.axiom_instances.specs.Puts.{types_at}
use Rattle.axiom_instances.proofs.PutLemmas.{node_one_none, node_first_none, node_second_none, node_third_none, node_one_put, node_two_put, node_three_put, node_three_parts, two_parts_put, put_stays, none_before, put_before, types_stay}
use Rattle.axiom_instances.proofs.field_types.put.+put_arguments.Goals as goal

pub returns-in_default-clause-is : goal.returns-in_default-clause-is
returns-in_default-clause-is t c =
    let m = rw c.in-Some-One.field-0-is at c.in-Some-One.ensures in
    let none = rw c.in_default.is at c.in_ok-one-in-Some-One.ensures.is in
    node_one_none (types_at c.args.pool.now c.args.args) c.args.pool.now c.args.from c.in-Some-One.head c.in-Some-One.a m none

pub returns-in_ok-made-in-Some-One-clause-is : goal.returns-in_ok-made-in-Some-One-clause-is
returns-in_ok-made-in-Some-One-clause-is t c =
    let m = rw c.in-Some-One.field-0-is at c.in-Some-One.ensures in
    let put = rw c.in-Some.is at c.in_ok-one-in-Some-One.ensures.is in
    node_one_put (types_at c.args.pool.now c.args.args) c.args.pool.now c.args.from c.put_arguments.new.pool c.insert.new.self c.insert.ensures.extends c.in_ok-made-in-Some-One.made c.in-Some-One.head c.in-Some-One.a c.in-Some.one m put c.in_ok-made-in-Some-One.ensures.is

pub returns-in_default-2-clause-is : goal.returns-in_default-2-clause-is
returns-in_default-2-clause-is t c =
    let m = rw c.in-Some-Two.field-0-is at c.in-Some-Two.ensures in
    let none = rw c.in_default-2.is at c.in_ok-first-in-Some-Two.ensures.is in
    node_first_none (types_at c.args.pool.now c.args.args) c.args.pool.now c.args.from c.in-Some-Two.head c.in-Some-Two.a c.in-Some-Two.b m none

pub put_arguments-requires-in-Some-Two-2 : goal.put_arguments-requires-in-Some-Two-2
put_arguments-requires-in-Some-Two-2 t c =
    let m = rw c.in-Some-Two.field-0-is at c.in-Some-Two.ensures in
    let less = m.parts.1.earlier in
    let e = c.put_arguments-in-Some-Two.ensures.extends in
    let longer = ap length e.is in
    (omega (arith, c.decreases, less), (types_stay c.args.pool.now c.put_arguments-in-Some-Two.new.pool c.args.args e c.requires.args, omega (arith, less, c.requires.from, longer, length-append c.args.pool.now e.more)))

pub returns-in_default-3-clause-is : goal.returns-in_default-3-clause-is
returns-in_default-3-clause-is t c =
    let m = rw c.in-Some-Two.field-0-is at c.in-Some-Two.ensures in
    let less = m.parts.1.earlier in
    let w : c.in-Some-Two.b < length c.args.pool.now = omega (arith, less, c.requires.from) in
    let none = rw c.in_default-3.is at c.in_ok-second-in-Some-Two.ensures.is in
    node_second_none (types_at c.args.pool.now c.args.args) c.args.pool.now c.args.from c.in-Some-Two.head c.in-Some-Two.a c.in-Some-Two.b m (none_before c.args.pool.now c.put_arguments-in-Some-Two.new.pool c.args.args c.in-Some-Two.b c.put_arguments-in-Some-Two.ensures.extends c.requires.args w none)

pub insert-requires-in-Some-Two : goal.insert-requires-in-Some-Two
insert-requires-in-Some-Two t c =
    let ns = c.args.pool.now in
    let ms = c.put_arguments-in-Some-Two.new.pool in
    let ls = c.put_arguments-in-Some-Two-2.new.pool in
    let m = rw c.in-Some-Two.field-0-is at c.in-Some-Two.ensures in
    let less = m.parts.1.earlier in
    let w : c.in-Some-Two.b < length ns = omega (arith, less, c.requires.from) in
    let first = rw c.in-Some-2.is at c.in_ok-first-in-Some-Two.ensures.is in
    let second = rw c.in-Some-3.is at c.in_ok-second-in-Some-Two.ensures.is in
    two_parts_put (types_at ns c.args.args) ls c.in-Some-Two.head _ _ c.in-Some-2.first c.in-Some-3.second m.parts.0.sort m.parts.1.sort (put_stays (types_at ns c.args.args) ms ls c.put_arguments-in-Some-Two-2.ensures.extends _ c.in-Some-2.first first) (put_before ns ms c.args.args c.in-Some-Two.b c.put_arguments-in-Some-Two.ensures.extends c.requires.args w ls c.in-Some-3.second second)

pub returns-in_ok-made-in-Some-Two-clause-is : goal.returns-in_ok-made-in-Some-Two-clause-is
returns-in_ok-made-in-Some-Two-clause-is t c =
    let ns = c.args.pool.now in
    let ms = c.put_arguments-in-Some-Two.new.pool in
    let ls = c.put_arguments-in-Some-Two-2.new.pool in
    let m = rw c.in-Some-Two.field-0-is at c.in-Some-Two.ensures in
    let less = m.parts.1.earlier in
    let w : c.in-Some-Two.b < length ns = omega (arith, less, c.requires.from) in
    let first = rw c.in-Some-2.is at c.in_ok-first-in-Some-Two.ensures.is in
    let second = rw c.in-Some-3.is at c.in_ok-second-in-Some-Two.ensures.is in
    node_two_put (types_at ns c.args.args) ns c.args.from ls c.insert-in-Some-Two.new.self c.insert-in-Some-Two.ensures.extends c.in_ok-made-in-Some-Two.made c.in-Some-Two.head c.in-Some-Two.a c.in-Some-Two.b c.in-Some-2.first c.in-Some-3.second m (put_stays (types_at ns c.args.args) ms ls c.put_arguments-in-Some-Two-2.ensures.extends _ c.in-Some-2.first first) (put_before ns ms c.args.args c.in-Some-Two.b c.put_arguments-in-Some-Two.ensures.extends c.requires.args w ls c.in-Some-3.second second) c.in_ok-made-in-Some-Two.ensures.is

pub returns-in_default-4-clause-is : goal.returns-in_default-4-clause-is
returns-in_default-4-clause-is t c =
    let m = rw c.in-Some-Three.field-0-is at c.in-Some-Three.ensures in
    let none = rw c.in_default-4.is at c.in_ok-third-in-Some-Three.ensures.is in
    node_third_none (types_at c.args.pool.now c.args.args) c.args.pool.now c.args.from c.in-Some-Three.head c.in-Some-Three.a c.in-Some-Three.b c.in-Some-Three.c m none

pub insert-requires-in-Some-Three : goal.insert-requires-in-Some-Three
insert-requires-in-Some-Three t c =
    let m = rw c.in-Some-Three.field-0-is at c.in-Some-Three.ensures in
    let put = rw c.in-Some-4.is at c.in_ok-third-in-Some-Three.ensures.is in
    node_three_parts (types_at c.args.pool.now c.args.args) c.args.pool.now c.args.from c.put_arguments-in-Some-Three.new.pool c.in-Some-Three.head c.in-Some-Three.a c.in-Some-Three.b c.in-Some-Three.c c.in-Some-4.third c.put_arguments-in-Some-Three.ensures.extends c.requires.from m put

pub returns-in_ok-made-in-Some-Three-clause-is : goal.returns-in_ok-made-in-Some-Three-clause-is
returns-in_ok-made-in-Some-Three-clause-is t c =
    let m = rw c.in-Some-Three.field-0-is at c.in-Some-Three.ensures in
    let put = rw c.in-Some-4.is at c.in_ok-third-in-Some-Three.ensures.is in
    node_three_put (types_at c.args.pool.now c.args.args) c.args.pool.now c.args.from c.put_arguments-in-Some-Three.new.pool c.insert-in-Some-Three.new.self c.insert-in-Some-Three.ensures.extends c.in_ok-made-in-Some-Three.made c.in-Some-Three.head c.in-Some-Three.a c.in-Some-Three.b c.in-Some-Three.c c.in-Some-4.third c.put_arguments-in-Some-Three.ensures.extends c.requires.from m put c.in_ok-made-in-Some-Three.ensures.is
