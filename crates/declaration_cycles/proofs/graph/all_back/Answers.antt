use Rattle.std.proofs.Common.{◌↔◌, ℕ, Vec}
use Rattle.std.specs.Prelude.{Contains}
use Rattle.std.proofs.lemmas.Result.{IfOk-weaker}
use Rattle.base.specs.GraphReachability.{IsOnCycle}
use Rattle.declaration_cycles.specs.Leading.{LeadsBack}
use Rattle.declaration_cycles.proofs.MadeGraphs.{same_back}
use Rattle.declaration_cycles.proofs.graph.all_back.Goals as goal

pub returns : goal.returns
returns c = IfOk-weaker c.all_on_cycle.result
    (λ (found : Vec ℕ _). (i : ℕ) → Contains found.items i ↔ IsOnCycle c.in_ok-graph.graph i)
    (λ (found : Vec ℕ _). (i : ℕ) → Contains found.items i ↔ LeadsBack c.args.edges.now i)
    (λ found h. same_back c.in_ok-graph.graph c.args.edges.now c.in_ok-graph.ensures.edges found.items h)
    c.all_on_cycle.ensures
