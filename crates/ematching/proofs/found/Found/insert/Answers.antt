use Rattle.std.proofs.Common.{◌≡◌, ◌⊎◌, ℕ, List, subst}
use Rattle.std.specs.Prelude.{◌↔◌}
use Rattle.ematching.specs.Numbers.{IsAmong}
use Rattle.ematching.proofs.FoundLemmas.{inserted}
use Rattle.ematching.proofs.found.Found.insert.Goals as goal

pub returns : goal.returns
returns c =
    subst (λ (xs : List ℕ). (n : ℕ) → IsAmong n c.insert.new.self.keys ↔ (IsAmong n xs ⊎ (n ≡ c.args.number))) c.self.view_is (inserted c.self.inside.numbers.keys c.insert.new.self.keys c.args.number c.in_ok-insert.ensures.keys)
