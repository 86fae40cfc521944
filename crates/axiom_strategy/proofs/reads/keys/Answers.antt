use Rattle.std.proofs.Common.{ℕ, ap, ◌∙◌}
use Rattle.std.specs.List.{flat_map}
use Rattle.base.specs.Lists.{list_in}
use Rattle.tableau.proofs.GraphLemmas.{ok_map}
use Rattle.axiom_strategy.specs.Reads.{reads_in}
use Rattle.axiom_strategy.proofs.reads.keys.Goals as goal

pub returns : goal.returns
returns c =
    let index = c.args.index.now in
    ok_map c.terms_of.result (λ terms e. e ∙ ap (flat_map (list_in index.members)) (c.positions-positions.ensures ∙ ap (λ (k : ℕ). list_in (reads_in index c.args.reading) k) c.class-class.ensures)) c.terms_of.ensures
