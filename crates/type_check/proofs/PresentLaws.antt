-- A clause of a program is one of a declaration, or one of a schema that such a clause reaches.
use Rattle.std.proofs.Common.{◌≡◌, ◌⊎◌, inl, inr, refl, sym, ap, subst}
use Rattle.base.specs.declared.span.Span.{Span}
use Rattle.program.specs.declared.program.Program.{Program}
use Rattle.typing_rules.specs.Faults.{Stated, IsStated, OfSchema}
use Rattle.type_check.specs.ClausesInstances.{Instance, Includes, IsOfInstance}
use Rattle.type_check.specs.Judged.{ClauseBreaks}
use Rattle.type_check.specs.Reached.{IsRoot, IsReached}
use Rattle.type_check.specs.Reached as R
use Rattle.type_check.specs.declared.clauses.judged.ClauseRule.{ClauseRule}
use Rattle.type_check.proofs.Moved.{included_instance, instance_included, moved, moved_breaks, moved_includes, moved_of, root_of, root_stands}
use Rattle.type_check.specs.Including.{Leads, Reaches, InstanceBreaks, ReachesBroken}
use Rattle.type_check.specs.Including as I

module _ (program : Program) where
  pub reaches_more : (i j k : Instance) → Reaches program i j → Leads program j k → Reaches program i k
  reaches_more i j k I.Here l = I.Over l I.Here
  reaches_more i j k (I.Over {j = m} first rest) l = I.Over first (reaches_more m j k rest l)

  -- a clause that is reached is the first one, or one of an instance that it reaches
  pub record Found (r c : Stated) : Type 0 where
    pub first : Instance
    pub includes : Includes program r first
    pub last : Instance
    pub reaches : Reaches program first last
    pub is_of : IsOfInstance program last r.span c

  pub found : (r c : Stated) → IsReached program r c → (c ≡ r) ⊎ Found r c
  found r c R.Here = inl refl
  found r e (R.Over c d reached included) =
      let w = instance_included program c d included in
      elim (found r c reached) [
        | inl same ↦ inr (record {
          first = w.0;
          includes = subst (λ (x : Stated). Includes program x w.0) same w.1.0;
          last = w.0;
          reaches = I.Here;
          is_of = subst (λ (x : Stated). IsOfInstance program w.0 x.span d) same w.1.1;
        })
        | inr f ↦ inr (record {
          first = f.first;
          includes = f.includes;
          last = w.0;
          reaches = reaches_more f.first f.last w.0 f.reaches (record { span = r.span; clause = c; is_of = f.is_of; includes = w.1.0 });
          is_of = subst (λ (p : Span). IsOfInstance program w.0 p d) f.is_of.span_is w.1.1;
        })
      ]

  pub broken_root : (rule : ClauseRule) (c : Stated) → IsStated program c → ClauseBreaks program rule c
      → (r : Stated) × (IsRoot program r × (c.span ≡ r.span) × (ClauseBreaks program rule r ⊎ ((i : Instance) × (Includes program r i × ReachesBroken program rule i))))
  broken_root rule c stands breaks =
      let w = root_of program c stands in
      let r = w.0 in
      elim (found r c w.1.1) [
        | inl same ↦ (r, (w.1.0, ap (λ (x : Stated). x.span) same, inl (subst (λ (x : Stated). ClauseBreaks program rule x) same breaks)))
        | inr f ↦ (
          r,
          (
            w.1.0,
            f.is_of.span_is,
            inr (
              f.first,
              (
                f.includes,
                record {
                  last = f.last;
                  reaches = f.reaches;
                  breaks = record { span = r.span; clause = c; is_of = f.is_of; breaks = breaks };
                },
              ),
            ),
          ),
        )
      ]

  -- the clauses of an instance that a clause reaches are clauses of the program, with its span
  stands_there : (from : Stated) (i j : Instance) (q : Span) (c : Stated) → IsStated program from → Includes program from i → Reaches program i j → IsOfInstance program j q c
      → (d : Stated) × (IsStated program d × (d ≡ moved c from.span))
  stands_there from i j q c stands includes I.Here of =
      let d = moved c from.span in
      (d, (OfSchema from d stands (included_instance program from d i includes (moved_of program i q from.span c of)), refl))
  stands_there from i k q c stands includes (I.Over {j = j} l rest) of =
      let d = moved l.clause from.span in
      let there : IsStated program d = OfSchema from d stands (included_instance program from d i includes (moved_of program i l.span from.span l.clause l.is_of)) in
      stands_there d j k q c there (moved_includes program j from.span l.clause l.includes) rest of

  -- an instance that such a clause reaches is included by a clause of the program
  pub included_there : (from : Stated) (i j : Instance) → IsStated program from → Includes program from i → Reaches program i j → (c : Stated) × IsStated program c × Includes program c j
  included_there from i j stands includes I.Here = (from, stands, includes)
  included_there from i k stands includes (I.Over {j = j} l rest) =
      let d = moved l.clause from.span in
      let there : IsStated program d = OfSchema from d stands (included_instance program from d i includes (moved_of program i l.span from.span l.clause l.is_of)) in
      included_there d j k there (moved_includes program j from.span l.clause l.includes) rest

  pub broken_stands : (rule : ClauseRule) (r : Stated) (i : Instance) → IsRoot program r → Includes program r i → ReachesBroken program rule i
      → (c : Stated) × (IsStated program c × (c.span ≡ r.span) × ClauseBreaks program rule c)
  broken_stands rule r i root includes b =
      let w = stands_there r i b.last b.breaks.span b.breaks.clause (root_stands program r root) includes b.reaches b.breaks.is_of in (
        w.0,
        (
          w.1.0,
          ap (λ (x : Stated). x.span) w.1.1,
          subst (λ (x : Stated). ClauseBreaks program rule x) (sym w.1.1) (moved_breaks program rule r.span b.breaks.clause b.breaks.breaks),
        ),
      )
