use Rattle.std.proofs.Common.{ℕ, None, get_or, refl}
use Rattle.typing_rules.specs.Pools.{type_of}
use Rattle.body_types.proofs.constants.initialiser.node_value.Goals as goal

pub returns-in-Leaf : goal.returns-in-Leaf
returns-in-Leaf c = λ ts. rw c.in-Leaf.is (c.leaf_value.ensures (λ (n : ℕ). get_or c.args.values.now n None) ts)

pub returns-in-Unary : goal.returns-in-Unary
returns-in-Unary c = λ ts. rw c.in-Unary.is (c.unary_value.ensures (λ (n : ℕ). get_or c.args.values.now n None) (type_of ts c.args.of.now) c.in-Unary.part refl)
