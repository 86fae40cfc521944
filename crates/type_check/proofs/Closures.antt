-- The invariants of the functions that add instances.
use Rattle.std.proofs.Common.{◌≡◌, ℕ, suc, ◌+◌, ◌-◌, ◌<◌, Bool, List, [], length, get_or, true, false, Some, None, ◌∙◌, ap, subst, arith}
use Rattle.std.specs.Prelude.{◌↔◌, All, IsTrue, slice_get, slice_index_or}
use Rattle.std.specs.Global.{Vec}
use Rattle.std.specs.Option.{option_map}
use Rattle.std.proofs.lemmas.List.{length-map}
use Rattle.std.proofs.lemmas.List.Elements.{Contains-get_or}
use Rattle.std.proofs.lemmas.Option.{slice_get-map, slice_get_within}
use Rattle.program.specs.declared.program.Program.{Program}
use Rattle.base.specs.declared.marked_cycles.edge.MarkedEdge.{MarkedEdge}
use Rattle.base.specs.MarkedCycles.{IsEdge, IsWithin}
use Rattle.type_check.specs.ClausesInstances as I
use Rattle.type_check.specs.Judged.{instance_of}
use Rattle.type_check.specs.declared.clauses.instance.Instance.{Instance}
use Rattle.type_check.specs.declared.clauses.judged.ClauseRule.{ClauseRule}
use Rattle.type_check.specs.declared.clauses.judged.JudgedClause.{JudgedClause}
use Rattle.type_check.specs.Closed.{IsClosedTo}
use Rattle.type_check.specs.Closing.{AreJudged, AreLinked, AreReached, Grows, TellBroken}
use Rattle.type_check.specs.SchemasInstances.{AreInstances}
use Rattle.type_check.specs.Known.{IsKeyed, listed}
use Rattle.type_check.specs.Leading.{LeadsToMark}
use Rattle.type_check.specs.declared.schemas.closing.Closure.{Closure}
use Rattle.type_check.specs.declared.schemas.known.InstanceKey.{InstanceKey}
use Rattle.type_check.specs.declared.schemas.known.KnownInstances.{KnownInstances}
use Rattle.type_check.proofs.SchemasLists.{at_contained, contained_at, get_grown, some_at}
use Rattle.type_check.proofs.PathLaws.{tells}

pub listed_at : (known : KnownInstances) (n : ℕ) (e : InstanceKey × Instance) → slice_get known.entries n ≡ Some e → slice_get (listed known) n ≡ Some (instance_of e.1)
listed_at known n e at = slice_get-map (λ (x : InstanceKey × Instance). instance_of x.1) known.entries n ∙ ap (option_map (λ (x : InstanceKey × Instance). instance_of x.1)) at

pub not_listed : (known : KnownInstances) (n : ℕ) → n < length (listed known) → None ≡ slice_get known.entries n → ⊥
not_listed known n lt none =
    let size = length-map known.entries (λ (x : InstanceKey × Instance). instance_of x.1) in
    let at = some_at known.entries n (omega (arith, lt, size)) in
    let e : None ≡ Some at.0 = none ∙ at.1 in
    cc

pub closed_begins : (program : Program) (c : Closure) → IsKeyed c.known → c.untyped.items ≡ [] → c.unsettled.items ≡ [] → c.edges.items ≡ [] → c.judged.items ≡ [] → IsClosedTo program c 0
closed_begins program c keyed untyped unsettled edges judged = record {
  keyed = keyed;
  within = omega arith;
  untyped = record { size = ap (λ (xs : List Bool). length xs) untyped; each = λ n i lt at. absurd (omega (arith, lt)) };
  unsettled = record { size = ap (λ (xs : List Bool). length xs) unsettled; each = λ n i lt at. absurd (omega (arith, lt)) };
  linked = record {
    unmarked = λ i j e. none i j true e;
    sound = λ n m e. absurd (none n m false e);
    closed = λ n i j lt at l. absurd (omega (arith, lt));
  };
  owners = record { size = ap (λ (xs : List (Vec JudgedClause)). length xs) judged; each = λ n i of lt at there. absurd (omega (arith, lt)) };
}
  where
    none : (i j : ℕ) (marked : Bool) → IsEdge c.edges.items i j marked → ⊥
    none i j marked e = let there = subst (λ (es : List MarkedEdge). IsEdge es i j marked) edges e in let b = there.1 in omega arith

pub depth_next : (total counter : ℕ) → counter < total → total - counter ≡ suc (total - (counter + 1))
depth_next total counter lt = omega (arith, lt)

-- ---- exactly those that reach one that breaks the rule

pub edges_within : (program : Program) (known : List I.Instance) (edges : List MarkedEdge) (done : ℕ) → AreLinked program known edges done → All (IsWithin (length known)) edges
edges_within program known edges done linked = λ k d lt.
    let e : MarkedEdge = get_or edges k d in
    edge_within e e.is_marked (Contains-get_or edges k d lt)
  where
    edge_within : (e : MarkedEdge) (marked : Bool) → IsEdge edges e.from e.to marked → IsWithin (length known) e
    edge_within e true c = absurd (linked.unmarked e.from e.to c)
    edge_within e false c = (let w = linked.sound e.from e.to c in record {
      begins = slice_get_within known e.from w.first w.first_is;
      ends = slice_get_within known e.to w.next w.next_is;
    })

pub known_broken : (program : Program) (rule : ClauseRule) (old new : List I.Instance) (edges : List MarkedEdge) (marks found : List Bool) → Grows old new → AreLinked program new edges (length new)
    → AreJudged program rule new marks (length new) → ((n : ℕ) → n < length marks → IsTrue (slice_index_or found n false) ↔ LeadsToMark edges marks n) → TellBroken program rule old found
known_broken program rule old new edges marks found grows linked judged leads n i at =
    let there = get_grown old new grows.0 n i grows.1 at in
    let lt : n < length marks = (let within = slice_get_within new n i there in let size = judged.size in omega (arith, within, size)) in
    let first = leads n lt in
    let second = tells program new edges linked rule marks judged n i there in
    ((λ h. second.0 (first.0 h)), (λ h. first.1 (second.1 h)))

-- the same for equal lists
pub leads_again : (edges edges2 : List MarkedEdge) (marks marks2 found : List Bool) → edges ≡ edges2 → marks ≡ marks2
    → ((n : ℕ) → n < length marks → IsTrue (slice_index_or found n false) ↔ LeadsToMark edges marks n) → (n : ℕ) → n < length marks2 → IsTrue (slice_index_or found n false) ↔ LeadsToMark edges2 marks2 n
leads_again edges edges2 marks marks2 found e f leads =
    subst (λ (es : List MarkedEdge). (n : ℕ) → n < length marks2 → IsTrue (slice_index_or found n false) ↔ LeadsToMark es marks2 n) e
    (subst (λ (ms : List Bool). (n : ℕ) → n < length ms → IsTrue (slice_index_or found n false) ↔ LeadsToMark edges ms n) f leads)

-- all instances that the first ones reach
pub instances_of : (program : Program) (first : List I.Instance) (c : Closure) → Grows first (listed c.known) → AreReached program first (listed c.known) → IsClosedTo program c (length (listed c.known))
    → AreInstances program first (record { known = c.known; judged = c.judged })
instances_of program first c grows reached closed = record {
  keyed = closed.keyed;
  grows = grows;
  reached = reached;
  closed = λ i j there leads.
      let at = contained_at (listed c.known) i there in
      let w = closed.linked.closed at.0 i j (slice_get_within (listed c.known) at.0 i at.1) at.1 leads in
      at_contained (listed c.known) w.0 j w.1.0;
  owners = closed.owners;
}
