use Rattle.std.proofs.Common.{ℕ, Bool, List, true, length, sym, ◌∙◌, ap, subst}
use Rattle.std.specs.Prelude.{All}
use Rattle.base.specs.declared.marked_cycles.edge.MarkedEdge.{MarkedEdge}
use Rattle.base.specs.MarkedCycles.{IsEdge, IsWithin}
use Rattle.type_check.specs.declared.clauses.judged.ClauseRule.TheVariants.{Typing, Settling}
use Rattle.type_check.specs.Known.{listed}
use Rattle.type_check.proofs.Closures.{edges_within, instances_of, leads_again, known_broken}
use Rattle.type_check.proofs.schemas.broken.broken_instances.Goals as goal

pub leading_to-requires-clause-within : goal.leading_to-requires-clause-within
leading_to-requires-clause-within c =
    let closed = c.in_ok-closure.ensures.closed in
    let size = sym closed.untyped.size ∙ ap (λ (xs : List Bool). length xs) (sym c.deref-2.ensures.value) in
    subst (λ (n : ℕ). All (IsWithin n) c.deref.result.now) size
    (subst (λ (es : List MarkedEdge). All (IsWithin (length (listed c.in_ok-closure.closure.known))) es) (sym c.deref.ensures.value) (edges_within c.args.program.now _ _ _ closed.linked))

pub leading_to-requires-clause-unmarked : goal.leading_to-requires-clause-unmarked
leading_to-requires-clause-unmarked c i j e =
    c.in_ok-closure.ensures.closed.linked.unmarked i j (subst (λ (es : List MarkedEdge). IsEdge es i j true) c.deref.ensures.value e)

pub leading_to-requires-2-clause-within : goal.leading_to-requires-2-clause-within
leading_to-requires-2-clause-within c =
    let closed = c.in_ok-closure.ensures.closed in
    let size = sym closed.unsettled.size ∙ ap (λ (xs : List Bool). length xs) (sym c.deref-4.ensures.value) in
    subst (λ (n : ℕ). All (IsWithin n) c.deref-3.result.now) size
    (subst (λ (es : List MarkedEdge). All (IsWithin (length (listed c.in_ok-closure.closure.known))) es) (sym c.deref-3.ensures.value) (edges_within c.args.program.now _ _ _ closed.linked))

pub leading_to-requires-2-clause-unmarked : goal.leading_to-requires-2-clause-unmarked
leading_to-requires-2-clause-unmarked c i j e =
    c.in_ok-closure.ensures.closed.linked.unmarked i j (subst (λ (es : List MarkedEdge). IsEdge es i j true) c.deref-3.ensures.value e)

pub returns-clause-untyped : goal.returns-clause-untyped
returns-clause-untyped c =
    let closed = c.in_ok-closure.ensures.closed in
    known_broken c.args.program.now Typing (listed c.args.known) (listed c.in_ok-closure.closure.known) c.in_ok-closure.closure.edges.items c.in_ok-closure.closure.untyped.items _
    c.in_ok-closure.ensures.grows closed.linked closed.untyped
    (leads_again _ _ _ _ _ c.deref.ensures.value c.deref-2.ensures.value c.in_ok-untyped.ensures)

pub returns-clause-unsettled : goal.returns-clause-unsettled
returns-clause-unsettled c =
    let closed = c.in_ok-closure.ensures.closed in
    known_broken c.args.program.now Settling (listed c.args.known) (listed c.in_ok-closure.closure.known) c.in_ok-closure.closure.edges.items c.in_ok-closure.closure.unsettled.items _
    c.in_ok-closure.ensures.grows closed.linked closed.unsettled
    (leads_again _ _ _ _ _ c.deref-3.ensures.value c.deref-4.ensures.value c.in_ok-unsettled.ensures)

pub returns-clause-instances : goal.returns-clause-instances
returns-clause-instances c = instances_of c.args.program.now (listed c.args.known) c.in_ok-closure.closure c.in_ok-closure.ensures.grows c.in_ok-closure.ensures.reached c.in_ok-closure.ensures.closed
