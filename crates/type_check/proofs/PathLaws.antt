-- Edges between numbers are includes between instances.
use Rattle.std.proofs.Common.{◌≡◌, ℕ, ◌<◌, Bool, List, length, Some, sym, ◌∙◌, subst, arith}
use Rattle.std.specs.Prelude.{◌↔◌, slice_get}
use Rattle.std.proofs.lemmas.Option.{slice_get_within}
use Rattle.program.specs.declared.program.Program.{Program}
use Rattle.base.specs.declared.marked_cycles.edge.MarkedEdge.{MarkedEdge}
use Rattle.type_check.specs.ClausesInstances.{Instance}
use Rattle.type_check.specs.declared.clauses.judged.ClauseRule.{ClauseRule}
use Rattle.type_check.specs.Closing.{AreJudged, AreLinked}
use Rattle.type_check.specs.Including.{Leads, Reaches, InstanceBreaks, ReachesBroken}
use Rattle.type_check.specs.Including as I
use Rattle.type_check.specs.Leading.{Path, End, Along, LeadsToMark}
use Rattle.type_check.proofs.LeadingLaws.{inside}
use Rattle.type_check.proofs.SchemasLists.{some_at, some_inside}

module _ (program : Program) (known : List Instance) (edges : List MarkedEdge) (linked : AreLinked program known edges (length known)) where
  -- a path between numbers
  pub reached : (n m : ℕ) (i j : Instance) → slice_get known n ≡ Some i → slice_get known m ≡ Some j → Path edges n m → Reaches program i j
  reached n m i j at there End = subst (λ (k : Instance). Reaches program i k) (some_inside i j (sym at ∙ there)) I.Here
  reached n m i j at there (Along {j = k} e p) =
      let w = linked.sound n k e in
      let first : w.first ≡ i = some_inside w.first i (sym w.first_is ∙ at) in
      I.Over (subst (λ (x : Instance). Leads program x w.next) first w.leads) (reached k m w.next j w.next_is there p)

  pub path_of : (n : ℕ) (i j : Instance) → slice_get known n ≡ Some i → Reaches program i j → (m : ℕ) × ((slice_get known m ≡ Some j) × Path edges n m)
  path_of n i j at I.Here = (n, (at, End))
  path_of n i j at (I.Over {j = k} leads rest) =
      let w = linked.closed n i k (slice_get_within known n i at) at leads in
      let r = path_of w.0 k j w.1.0 rest in
      (r.0, (r.1.0, Along w.1.1 r.1.1))

  pub tells : (rule : ClauseRule) (marks : List Bool) → AreJudged program rule known marks (length known) → (n : ℕ) (i : Instance) → slice_get known n ≡ Some i
      → LeadsToMark edges marks n ↔ ReachesBroken program rule i
  tells rule marks judged n i at = (
    (λ w.
        let lt : w.last < length known = (let size = judged.size in let below = inside marks w.last w.marked in omega (arith, size, below)) in
        let x = some_at known w.last lt in
        record { last = x.0; reaches = reached n w.last i x.0 at x.1 w.within; breaks = (judged.each w.last x.0 lt x.1).0 w.marked }),
    (λ b.
        let r = path_of n i b.last at b.reaches in
        record { last = r.0; within = r.1.1; marked = (judged.each r.0 b.last (slice_get_within known r.0 b.last r.1.0) r.1.0).1 b.breaks }),
  )
