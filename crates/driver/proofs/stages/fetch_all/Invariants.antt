use Rattle.std.proofs.Common.{◌≡◌, take}
use Rattle.report.specs.Provided.{AreProvided}
use Rattle.driver.specs.Stages.{HaveBytes}
use Rattle.driver.proofs.stages.fetch_all.Given as goal

abbrev pub invariant-loop-number : goal.invariant-loop-number
invariant-loop-number g l =
    (g.S.Sources.holds l.sources ≡ g.S.Sources.holds l.initial.sources) × (g.S.Sources.faults l.sources ≡ g.S.Sources.faults l.initial.sources) × HaveBytes (g.S.Sources.holds l.initial.sources) (take l.number l.names) l.files.items
    × AreProvided (g.S.Sources.provided l.initial.sources) (g.S.Sources.provided l.sources) (take l.number l.names) l.files.items
