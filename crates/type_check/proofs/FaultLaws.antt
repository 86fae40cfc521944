-- The span of a specification breaks a rule if and only if a clause of a declaration there does, or reaches one that
-- does.
use Rattle.std.proofs.Common.{◌≡◌, ℕ, ◌<◌, inl, inr, Bool, false, List, length, Option, Some, None, sym, ◌∙◌, subst, arith}
use Rattle.std.specs.Prelude.{◌↔◌, IsTrue, slice_index_or}
use Rattle.std.specs.Map.{lookup}
use Rattle.std.proofs.lemmas.Option.{slice_get_within}
use Rattle.base.specs.declared.span.Span.{Span}
use Rattle.program.specs.declared.declaration.Schema.{Schema}
use Rattle.program.specs.declared.program.Program.{Program}
use Rattle.program.specs.declared.program.SchemaId.{SchemaId}
use Rattle.program.specs.Order.{IsFirstOrNone}
use Rattle.program.specs.Same.{same_schema}
use Rattle.program.proofs.Firsts.{first_renamed}
use Rattle.typing_rules.specs.Faults.{Stated}
use Rattle.type_check.specs.ClausesInstances as I
use Rattle.type_check.specs.Judged.{ClauseBreaks, ClauseSays, IncludedSays, instance_of}
use Rattle.type_check.specs.Reached.{IsRoot}
use Rattle.type_check.specs.declared.clauses.instance.Instance.{Instance}
use Rattle.type_check.specs.declared.clauses.judged.ClauseRule.{ClauseRule}
use Rattle.type_check.specs.declared.clauses.judged.ClauseRule.TheVariants.{Typing, Settling}
use Rattle.type_check.specs.declared.clauses.judged.JudgedClause.{JudgedClause}
use Rattle.type_check.proofs.Moved.{root_stands}
use Rattle.type_check.proofs.Unique.{one_instance}
use Rattle.type_check.specs.Closing.{AreShallow, TellBroken}
use Rattle.type_check.specs.Including.{IsShallow, ReachesBroken}
use Rattle.type_check.proofs.SchemasLists.{at_contained, contained_at, some_at}
use Rattle.type_check.proofs.PresentLaws.{broken_root, broken_stands}
use Rattle.type_check.specs.SpecFaults.{StatedBreaks}
use Rattle.type_check.specs.Numbered.{AreNumbered, BreaksAmong, IsRootOf, StandsAt, is_so_itself}
use Rattle.type_check.specs.Roots.{TellsOf}
use Rattle.type_check.specs.declared.spec.first.RootClause.{RootClause}

-- the judgment of a clause, by its rule
itself : (program : Program) (known : List I.Instance) (rule : ClauseRule) (c : Stated) (one : JudgedClause) (root : RootClause) → IsRootOf known one root → ClauseSays program c one
    → IsTrue (is_so_itself rule root) ↔ ClauseBreaks program rule c
itself program known Typing c one root is says = subst (λ (b : Bool). IsTrue b ↔ ClauseBreaks program Typing c) (sym is.untyped) says.untyped
itself program known Settling c one root is says = subst (λ (b : Bool). IsTrue b ↔ ClauseBreaks program Settling c) (sym is.unsettled) says.unsettled

some_number : (n m : ℕ) → Some n ≡ Some m → n ≡ m
some_number n m e = cc

module _ (program : Program) (known : List I.Instance) (rule : ClauseRule) (broken : List Bool) (tells : TellBroken program rule known broken) where
  -- the number of the included instance determines whether it reaches one that breaks the rule
  leads_broken : (c : Stated) (included : Option Instance) (number : Option ℕ) → StandsAt known included number → IncludedSays program c included
      → ((n : ℕ) × ((number ≡ Some n) × IsTrue (slice_index_or broken n false))) ↔ ((i : I.Instance) × (I.Includes program c i × ReachesBroken program rule i))
  leads_broken c None number stands says = (
    (λ w. absurd (let e : None ≡ Some w.0 = sym stands ∙ w.1.0 in cc)),
    (λ w. absurd (says w.0 w.1.0)),
  )
  leads_broken c (Some k) number stands says = (
    (λ w.
        let same : w.0 ≡ stands.0 = some_number w.0 stands.0 (sym w.1.0 ∙ stands.1.0) in
        (instance_of k, (says, (tells stands.0 (instance_of k) stands.1.1).0 (subst (λ (n : ℕ). IsTrue (slice_index_or broken n false)) same w.1.1)))),
    (λ w.
        let same : w.0 ≡ instance_of k = one_instance program c w.0 (instance_of k) w.1.0 says in
        (stands.0, (stands.1.0, (tells stands.0 (instance_of k) stands.1.1).1 (subst (λ (i : I.Instance). ReachesBroken program rule i) same w.1.1)))),
  )

  module _ (judged : List JudgedClause) (roots : List RootClause) (given : TellsOf program (IsRoot program) judged) (numbered : AreNumbered known judged roots (length judged)) where
    there : (span : Span) → BreaksAmong rule broken roots span → StatedBreaks program rule span
    there span h =
        let at = contained_at roots h.0 h.1 in
        let lt : at.0 < length judged = (let within = slice_get_within roots at.0 h.0 at.1 in let size = numbered.same_length in omega (arith, within, size)) in
        let one = some_at judged at.0 lt in
        let is = numbered.each at.0 one.0 h.0 lt one.1 at.1 in
        let w = given.sound one.0 (at_contained judged at.0 one.0 one.1) in
        let placed : w.0.span ≡ span = w.1.1 ∙ sym is.span ∙ h.2 in
        elim h.3 [
          | inl so ↦ (w.0, (root_stands program w.0 w.1.0, placed, (itself program known rule w.0 one.0 h.0 is w.1.2).0 so))
          | inr over ↦
              let b = (leads_broken w.0 one.0.included h.0.included is.included w.1.2.included).0 over in
              let s = broken_stands program rule w.0 b.0 w.1.0 b.1.0 b.1.1 in
              (s.0, (s.1.0, s.1.1 ∙ placed, s.1.2))
        ]

    back : (span : Span) → StatedBreaks program rule span → BreaksAmong rule broken roots span
    back span h =
        let r = broken_root program rule h.0 h.1.0 h.1.2 in
        let w = given.all r.0 r.1.0 in
        let at = contained_at judged w.0 w.1.0 in
        let lt : at.0 < length judged = slice_get_within judged at.0 w.0 at.1 in
        let root = some_at roots at.0 (let size = numbered.same_length in omega (arith, lt, size)) in
        let is = numbered.each at.0 w.0 root.0 lt at.1 root.1 in
        let placed : root.0.span ≡ span = is.span ∙ sym w.1.1 ∙ sym r.1.1 ∙ h.1.1 in (
          root.0,
          at_contained roots at.0 root.0 root.1,
          placed,
          elim r.1.2 [
            | inl so ↦ inl ((itself program known rule r.0 w.0 root.0 is w.1.2).1 so)
            | inr over ↦ inr ((leads_broken r.0 w.0.included root.0.included is.included w.1.2.included).1 over)
          ],
        )

    pub first_stated : (found : Option Span) → IsFirstOrNone (BreaksAmong rule broken roots) found → IsFirstOrNone (StatedBreaks program rule) found
    first_stated found first = first_renamed (BreaksAmong rule broken roots) (StatedBreaks program rule) found there back first

-- the schemas that clauses of declarations include are declared, so chains from there end
pub roots_shallow : (program : Program) (depth : ℕ) (known : List I.Instance) (judged : List JudgedClause) (roots : List RootClause) → TellsOf program (IsRoot program) judged
    → AreNumbered known judged roots (length judged) → ((s : SchemaId) (d : Schema) → lookup (same_schema s) program.schemas ≡ Some d → IsShallow program depth s) → AreShallow program depth known 0
roots_shallow program depth known judged roots given numbered shallow = λ n i le at.
    let w = numbered.only n i at in
    let c = given.sound w.0 w.1.1.0 in
    let includes : I.Includes program c.0 (instance_of w.1.0) = subst (λ (o : Option Instance). IncludedSays program c.0 o) w.1.1.1 c.1.2.included in
    subst (λ (x : I.Instance). IsShallow program depth x.schema) w.1.1.2 (shallow w.1.0.schema includes.declared includes.lookup_is)

-- the same for equal lists
pub numbered_again : (known : List I.Instance) (judged judged2 : List JudgedClause) (roots : List RootClause) → judged ≡ judged2 → AreNumbered known judged roots (length judged) → AreNumbered known judged2 roots (length judged2)
numbered_again known judged judged2 roots e numbered = subst (λ (js : List JudgedClause). AreNumbered known js roots (length js)) e numbered

pub first_again : (rule : ClauseRule) (broken broken2 : List Bool) (roots roots2 : List RootClause) (found : Option Span) → broken ≡ broken2 → roots ≡ roots2
    → IsFirstOrNone (BreaksAmong rule broken roots) found → IsFirstOrNone (BreaksAmong rule broken2 roots2) found
first_again rule broken broken2 roots roots2 found e f first =
    subst (λ (rs : List RootClause). IsFirstOrNone (BreaksAmong rule broken2 rs) found) f (subst (λ (bs : List Bool). IsFirstOrNone (BreaksAmong rule bs roots) found) e first)
