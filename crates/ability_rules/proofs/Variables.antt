-- The type arguments of a node are type variables of the code.
use Rattle.std.proofs.Common.{◌≡◌, ℕ, ◌+◌, ◌≤◌, length, get_or, Some, ap, arith}
use Rattle.std.specs.Prelude.{slice_get}
use Rattle.std.proofs.lemmas.Option.{slice_get_within, get_or_from_slice_get}
use Rattle.std.proofs.lemmas.List.Sums.{sum_by_more, sum_by-take-le}
use Rattle.program.specs.CodeNodes.{CodeNode}
use Rattle.typing_rules.specs.Settings.{CodeSetting, first_argument, variable_count, node_arity}

pub next_argument : (s : CodeSetting) (n : ℕ) (node : CodeNode) → slice_get s.nodes n ≡ Some node → first_argument s (n + 1) ≡ first_argument s n + node_arity s.program node
next_argument s n node at =
    let b = slice_get_within s.nodes n node at in
    let more = sum_by_more (node_arity s.program) s.nodes n node b in
    let read : node_arity s.program (get_or s.nodes n node) ≡ node_arity s.program node = ap (node_arity s.program) (get_or_from_slice_get s.nodes n node node at) in
    omega (arith, more, read)

pub arguments_within : (s : CodeSetting) (n : ℕ) (node : CodeNode) → slice_get s.nodes n ≡ Some node → first_argument s n + node_arity s.program node ≤ variable_count s
arguments_within s n node at =
    let next = next_argument s n node at in
    let le = sum_by-take-le (node_arity s.program) s.nodes (n + 1) in
    omega (arith, next, le)

pub first_within : (s : CodeSetting) → length s.nodes + s.locals ≤ variable_count s
first_within s = omega arith
