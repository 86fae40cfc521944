-- The included schemas are those that clauses of declarations include, and those that these reach.
use Rattle.std.proofs.Common.{◌≡◌, ℕ, ◌<◌, List, length, Option, Some, None, sym, subst, inl, inr, arith}
use Rattle.std.specs.Prelude.{Contains, slice_get}
use Rattle.std.proofs.lemmas.Option.{slice_get_within}
use Rattle.std.proofs.lemmas.List.Elements.{Contains-append_left}
use Rattle.program.specs.declared.program.Program.{Program}
use Rattle.typing_rules.specs.Faults.{Stated, IsStated}
use Rattle.type_check.specs.ClausesInstances as I
use Rattle.type_check.specs.Judged.{IncludedSays, instance_of}
use Rattle.type_check.specs.Reached.{IsRoot}
use Rattle.type_check.specs.declared.clauses.instance.Instance.{Instance}
use Rattle.type_check.specs.declared.clauses.judged.JudgedClause.{JudgedClause}
use Rattle.type_check.proofs.Moved.{root_of, root_stands}
use Rattle.type_check.proofs.Unique.{one_instance}
use Rattle.type_check.specs.Including.{Here, Leads, Over, Reaches}
use Rattle.type_check.specs.SchemasInstances.{AreInstances}
use Rattle.type_check.specs.Known.{listed}
use Rattle.type_check.specs.declared.schemas.broken.JudgedInstances.{JudgedInstances}
use Rattle.type_check.proofs.SchemasLists.{at_contained, contained_at, some_at}
use Rattle.type_check.proofs.PresentLaws.{found, included_there}
use Rattle.type_check.specs.Included.{AreIncluded}
use Rattle.type_check.specs.Numbered.{AreNumbered, StandsAt}
use Rattle.type_check.specs.Roots.{TellsOf}
use Rattle.type_check.specs.declared.spec.first.RootClause.{RootClause}

module _ (program : Program) (known : List I.Instance) (judged : List JudgedClause) (roots : List RootClause) (instances : JudgedInstances) (given : TellsOf program (IsRoot program) judged)
    (numbered : AreNumbered known judged roots (length judged)) (are : AreInstances program known instances) where
  -- an included instance is among those with numbers
  stands : (c : Stated) (i : I.Instance) (one : Option Instance) (number : Option ℕ) → StandsAt known one number → IncludedSays program c one → I.Includes program c i → Contains known i
  stands c i None number at says includes = absurd (says i includes)
  stands c i (Some k) number at says includes = at_contained known at.0 i (subst (λ (j : I.Instance). slice_get known at.0 ≡ Some j) (one_instance program c (instance_of k) i says includes) at.1.1)

  of_root : (r : Stated) (i : I.Instance) → IsRoot program r → I.Includes program r i → Contains (listed instances.known) i
  of_root r i root includes =
      let w = given.all r root in
      let at = contained_at judged w.0 w.1.0 in
      let lt : at.0 < length judged = slice_get_within judged at.0 w.0 at.1 in
      let size = numbered.same_length in
      let of = some_at roots at.0 (omega (arith, lt, size)) in
      let is = numbered.each at.0 w.0 of.0 lt at.1 of.1 in
      let there : Contains known i = stands r i w.0.included of.0.included is.included w.1.2.included includes in
      subst (λ (xs : List I.Instance). Contains xs i) (sym are.grows.1) (Contains-append_left known are.grows.0 i there)

  reached_too : (i j : I.Instance) → Reaches program i j → Contains (listed instances.known) i → Contains (listed instances.known) j
  reached_too i j Here there = there
  reached_too i k (Over {j = j} leads rest) there = reached_too j k rest (are.closed i j there leads)

  all : (c : Stated) (i : I.Instance) → IsStated program c → I.Includes program c i → Contains (listed instances.known) i
  all c i stated includes =
      let w = root_of program c stated in
      elim (found program w.0 c w.1.1) [
        | inl same ↦ of_root w.0 i w.1.0 (subst (λ (x : Stated). I.Includes program x i) same includes)
        | inr f ↦
            let leads : Leads program f.last i = record { span = w.0.span; clause = c; is_of = f.is_of; includes = includes } in
            are.closed f.last i (reached_too f.first f.last f.reaches (of_root w.0 f.first w.1.0 f.includes)) leads
      ]

  only : (i : I.Instance) → Contains (listed instances.known) i → (c : Stated) × IsStated program c × I.Includes program c i
  only j there =
      let r = are.reached j there in
      let at = contained_at known r.0 r.1 in
      let w = numbered.only at.0 r.0 at.1 in
      let c = given.sound w.0 w.1.1.0 in
      let includes : I.Includes program c.0 (instance_of w.1.0) = subst (λ (o : Option Instance). IncludedSays program c.0 o) w.1.1.1 c.1.2.included in
      included_there program c.0 r.0 j (root_stands program c.0 c.1.0) (subst (λ (i : I.Instance). I.Includes program c.0 i) w.1.1.2 includes) r.2

  pub included : AreIncluded program instances
  included = record { keyed = are.keyed; all = all; only = only; owners = are.owners }
