use Rattle.std.proofs.Common.{◌≡◌, ◌+◌, ◌-◌, length, refl, ◌∙◌, arith}
use Rattle.tableau.proofs.StateLemmas.{state_marked}
use Rattle.tableau.proofs.state.BranchState.set_marks.Goals as goal

pub returns-then-count-gt0-clause-state : goal.returns-then-count-gt0-clause-state
returns-then-count-gt0-clause-state c =
    let some = c.if-count-gt0.true in
    let last : c.len-count.result - 1 + 1 ≡ length c.args.self.now.marks.items = omega (arith, c.len-count.ensures ∙ c.args.self.now.marks.ok.0, some) in
    λ ns d h follows are. state_marked ns c.args.self.now _ d (c.len-count.result - 1) c.args.marks last refl refl refl refl refl h follows are
