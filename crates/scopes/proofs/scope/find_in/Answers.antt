use Rattle.std.proofs.Common.{◌≡◌, suc, ◌-◌, ℕ, true, None, get_or, drop, arith, sym}
use Rattle.base.specs.Names.{same_name}
use Rattle.scopes.specs.Scopes.{innermost}
use Rattle.scopes.proofs.InnermostLaws.{innermost-found}
use Rattle.scopes.proofs.scope.find_in.Goals as goal

pub returns-then-eq : goal.returns-then-eq
returns-then-eq c =
    let k : ℕ = c.loop-count.count - 1 in
    let next : c.loop-count.count ≡ suc k = omega arith in
    let read = c.index-names-count.is in
    let compared = c.eq.ensures in
    let equal = c.if-eq.true in
    let same : same_name (get_or c.args.names.now k c.index-names-count.result).name c.args.name.now ≡ true = cc in
    let none : innermost (drop (suc k) c.args.names.now) c.args.name.now ≡ None = rw next at c.loop-count.invariant.none in
    sym (innermost-found c.args.names.now c.args.name.now k c.index-names-count.result c.index-names-count-then-eq.result (omega arith) same none)
