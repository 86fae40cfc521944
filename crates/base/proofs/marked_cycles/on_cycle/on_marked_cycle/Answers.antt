use Rattle.std.proofs.Common.{◌≡◌, ◌<◌, ◌↔◌, ℕ, Bool, false, Vec, length, get_or}
use Rattle.std.specs.Bool.{IsTrue}
use Rattle.std.proofs.lemmas.Result.{IfOk-weaker}
use Rattle.base.specs.MarkedCycles.{IsOnMarkedCycle}
use Rattle.base.proofs.Components.{known_found}
use Rattle.base.proofs.marked_cycles.on_cycle.on_marked_cycle.Goals as goal

pub returns-clause-found : goal.returns-clause-found
returns-clause-found c =
    IfOk-weaker c.of_roots.result
    (λ (found : Vec Bool _). (i : ℕ) → i < length c.as_slice-2.result.now → get_or found.items i false ≡ get_or c.as_slice-3.result.now (get_or c.as_slice-2.result.now i 0) false)
    (λ (found : Vec Bool _). (i : ℕ) → i < c.args.count → IsTrue (get_or found.items i false) ↔ IsOnMarkedCycle c.args.edges.now i)
    (λ found h. known_found c.in_ok-graph.graph c.args.edges.now c.in_ok-roots.roots.items c.as_slice.result.now c.as_slice-2.result.now c.in_ok-marks.marks.items c.as_slice-3.result.now c.in_ok-graph.ensures.edges c.in_ok-roots.ensures c.args.count c.in_ok-graph.ensures.count c.requires c.as_slice.ensures.value c.as_slice-2.ensures.value c.as_slice-3.ensures.value c.in_ok-marks.ensures.marked found.items h)
    c.of_roots.ensures.found
