use Rattle.std.proofs.Common.{◌≡◌, List, Some, sym, ◌∙◌, ap, subst}
use Rattle.std.specs.Prelude.{◌↔◌, IsTrue, slice_get}
use Rattle.type_check.specs.ClausesInstances as I
use Rattle.type_check.specs.Judged.{instance_of}
use Rattle.type_check.specs.declared.clauses.judged.JudgedClause.{JudgedClause}
use Rattle.type_check.specs.Closed.{InstanceSays, IsAny, IsClosedNext, IsClosedTo}
use Rattle.type_check.specs.SchemasInstances.{OwnerOf}
use Rattle.type_check.specs.Known.{listed}
use Rattle.type_check.specs.declared.schemas.closing.Closure.{Closure}
use Rattle.type_check.proofs.Closures.{listed_at, not_listed}
use Rattle.type_check.proofs.LevelLaws.{next_closed}
use Rattle.type_check.proofs.schemas.closing.close_next.Goals as goal
use Rattle.type_check.proofs.schemas.closing.close_next.Goals.{in-None, in-Some+in_ok-judged-in-Some}

pub returns : goal.returns
returns c = elim c.match-entry.branch [
  | in-None w ↦ absurd (not_listed c.args.closure.now.known c.args.number c.requires.within w.in-None.ensures)
  | in-Some+in_ok-judged-in-Some w ↦
      let old = c.args.closure.now in
      let mid = c.match-entry.closure in
      let new : Closure = record { known = c.link.new.known; untyped = c.push.new.self; unsettled = c.push-2.new.self; edges = c.link.new.edges; judged = c.push-3.new.self } in
      let i : I.Instance = instance_of w.in-Some.instance.now in
      let at : slice_get (listed mid.known) c.args.number ≡ Some i =
      subst (λ (k : Closure). slice_get (listed k.known) c.args.number ≡ Some i) (sym w.closure-is) (listed_at old.known c.args.number _ (sym w.in-Some.ensures)) in
      let closed : IsClosedTo c.args.program.now mid c.args.number = subst (λ (k : Closure). IsClosedTo c.args.program.now k c.args.number) (sym w.closure-is) c.requires.closed in
      let items : w.in_ok-judged-in-Some.judged.items ≡ c.match-entry.judged.items = ap (λ v. v.items) (sym w.judged-is) in
      let given : w.in_ok-judged-in-Some.judged.items ≡ c.deref-3.result.now = items ∙ sym c.deref-3.ensures.value in
      let says : InstanceSays c.args.program.now i c.deref-3.result.now = subst (λ (js : List JudgedClause). InstanceSays c.args.program.now i js) given w.in_ok-judged-in-Some.ensures.says in
      let owner : OwnerOf c.args.program.now i c.match-entry.judged.items = subst (λ (js : List JudgedClause). OwnerOf c.args.program.now i js) items w.in_ok-judged-in-Some.ensures.owner in
      let same : c.deref.result.now ≡ c.deref-3.result.now = c.deref.ensures.value ∙ sym c.deref-3.ensures.value in
      let same2 : c.deref-2.result.now ≡ c.deref-3.result.now = c.deref-2.ensures.value ∙ sym c.deref-3.ensures.value in
      subst (λ (k : Closure). IsClosedNext c.args.program.now k new c.args.number) w.closure-is
      (next_closed c.args.program.now mid new c.args.number i c.deref-3.result.now c.match-entry.judged
      c.is_any_untyped.result c.is_any_unsettled.result closed at says
      (subst (λ (js : List JudgedClause). IsTrue c.is_any_untyped.result ↔ IsAny (λ one. IsTrue one.is_untyped) js) same c.is_any_untyped.ensures)
      (subst (λ (js : List JudgedClause). IsTrue c.is_any_unsettled.result ↔ IsAny (λ one. IsTrue one.is_unsettled) js) same2 c.is_any_unsettled.ensures)
      c.in_ok-push.ensures.items c.in_ok-push-2.ensures.items owner c.in_ok-push-3.ensures.items c.in_ok-link.ensures.keyed c.in_ok-link.ensures.links)
]
