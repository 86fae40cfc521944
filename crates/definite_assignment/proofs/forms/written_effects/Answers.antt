use Rattle.std.proofs.Common.{◌≡◌, ℕ, Option, Some, subst}
use Rattle.typing_rules.specs.Pieces.{written_flow}
use Rattle.definite_assignment.specs.Shown.{Shows}
use Rattle.definite_assignment.proofs.forms.written_effects.Goals as goal

pub returns-in-Some : goal.returns-in-Some
returns-in-Some c = λ n piece s.
    let e : Some c.in-Some.local ≡ piece.local = cc in
    subst (λ (o : Option ℕ). Shows c.args.base c.overwritten.result (written_flow n piece.flow o)) e (record { shown = c.overwritten.ensures.shown })
