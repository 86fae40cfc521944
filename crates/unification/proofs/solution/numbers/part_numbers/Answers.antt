use Rattle.std.proofs.Common.{ℕ, List, sym, subst}
use Rattle.unification.specs.Numbers.{AreParts}
use Rattle.unification.proofs.Numbering.{parts_none}
use Rattle.unification.proofs.solution.numbers.part_numbers.Goals as goal

pub loop-i-init : goal.loop-i-init
loop-i-init c = subst (λ (parts : List ℕ). AreParts c.args.numbers.now c.args.first 0 parts) (sym c.new-parts.ensures) (parts_none c.args.numbers.now c.args.first)
