use Rattle.std.proofs.Common.{◌≡◌, ◌<◌, ◌+◌, ◌-◌, ℕ, [], pos, length, get_or, take, refl, sym, ap, ◌∙◌, subst, arith}
use Rattle.std.specs.Prelude.{Contains}
use Rattle.std.proofs.lemmas.Bool.{false≢true}
use Rattle.std.proofs.lemmas.Bool.Decides.{Decides-eqb}
use Rattle.linear_arith.specs.declared.rows.Fraction.{Fraction}
use Rattle.linear_arith.specs.Values.{IsChosen, AreValues}
use Rattle.step_checks.proofs.CheckLemmas.{refused, decided_false}
use Rattle.step_checks.proofs.ValueLemmas.{IsChoosing, positive_of, none_present, present_ends, stands_idle, stands_next, step_of, not_chosen, not_idle, at_position}
use Rattle.step_checks.proofs.elimination.values.are_values.Goals as goal
use Rattle.step_checks.proofs.elimination.values.are_values.Goals.{then-left-gt0+then-unknowns-left+in_ok-is_chosen+else-not-branch, else-left-gt0+else-not-is_zero+else-contains, else-left-gt0-via-then-left-gt0+else-unknowns-left, else-left-gt0-via-else-left-gt0, then-not-is_zero-via-then-not-is_zero, then-not-is_zero-via-else-not-is_zero+then-contains}

pub loop-i-init : goal.loop-i-init
loop-i-init c = none_present c.args.rows.now c.args.unknowns.now c.args.values.now (length c.args.unknowns.now) refl

pub is_chosen-requires : goal.is_chosen-requires
is_chosen-requires c = positive_of c.args.rows.now c.args.unknowns.now _ _ c.loop-i.invariant.are_values

pub loop-i-preserved : goal.loop-i-preserved
loop-i-preserved c =
    let rows = c.args.rows.now in
    let unknowns = c.args.unknowns.now in
    let values = c.args.values.now in
    let i = c.loop-i.i in
    let left = c.loop-i.left in
    let blank : Fraction = record { unknown = 0; numerator = pos 0; denominator = pos 0 } in
    let value : Fraction = get_or values i blank in
    let l : i < length values = omega arith in
    let is = at_position values i blank l in
    elim c.if-left-gt0.branch [
      | then-left-gt0+then-unknowns-left+in_ok-is_chosen+else-not-branch w ↦
          let less : (left - 1) + 1 ≡ left = omega arith in
          subst (λ (n : ℕ). IsChoosing rows unknowns values (i + 1) n) (sym w.left-is) (stands_next rows unknowns values i (left - 1) left value l is c.requires.different less w.if-unknowns-left.true (w.in_ok-is_chosen.ensures.0 w.if-not-branch.false) c.loop-i.invariant)
      | else-left-gt0+else-not-is_zero+else-contains w ↦
          let zero = w.is_zero.ensures.0 w.if-not-is_zero.false in
          let absent : Contains unknowns value.unknown → ⊥ = λ h. false≢true (sym w.if-contains.false ∙ w.contains.ensures ∙ (c.requires.set.has value.unknown).1 h) in
          subst (λ (n : ℕ). IsChoosing rows unknowns values (i + 1) n) (sym w.left-is) (stands_idle rows unknowns values i left value l is c.requires.different absent zero.0 zero.1 c.loop-i.invariant)
    ]

pub returns : goal.returns
returns c = present_ends c.args.rows.now c.args.unknowns.now c.args.values.now c.loop-i.i c.loop-i.left _ (omega arith) (Decides-eqb c.loop-i.left 0) c.loop-i.invariant

pub returns-then-not-branch : goal.returns-then-not-branch
returns-then-not-branch c =
    let rows = c.args.rows.now in
    let unknowns = c.args.unknowns.now in
    let values = c.args.values.now in
    let i = c.loop-i.i in
    let left = c.loop-i.left in
    let blank : Fraction = record { unknown = 0; numerator = pos 0; denominator = pos 0 } in
    let value : Fraction = get_or values i blank in
    let l : i < length values = omega arith in
    let less : (left - 1) + 1 ≡ left = omega arith in
    decided_false (AreValues rows unknowns [] values) (λ all.
    not_chosen rows unknowns left (left - 1) (take i values) value less c.loop-i.invariant.within c.if-unknowns-left.true (λ h. refused c.in_ok-is_chosen.field-0 (IsChosen rows (take (left - 1) unknowns) (take i values) value) c.if-not-branch.true c.in_ok-is_chosen.ensures h) (step_of rows unknowns [] values i left value l (at_position values i blank l) c.loop-i.invariant all))

pub returns-then-not-is_zero : goal.returns-then-not-is_zero
returns-then-not-is_zero c =
    let rows = c.args.rows.now in
    let unknowns = c.args.unknowns.now in
    let values = c.args.values.now in
    let i = c.loop-i.i in
    let left = c.loop-i.left in
    let blank : Fraction = record { unknown = 0; numerator = pos 0; denominator = pos 0 } in
    let value : Fraction = get_or values i blank in
    let l : i < length values = omega arith in
    let not_last : (less : ℕ) → less + 1 ≡ left → get_or unknowns less 0 ≡ value.unknown → ⊥ = λ less e same. elim c.else-left-gt0.branch [
      | else-left-gt0-via-then-left-gt0+else-unknowns-left w ↦ w.if-unknowns-left.false (ap (λ (n : ℕ). get_or unknowns n 0) (let f : left - 1 ≡ less = omega (arith, e) in f) ∙ same)
      | else-left-gt0-via-else-left-gt0 w ↦ omega (arith, e)
    ] in
    let refuses : (Contains unknowns value.unknown → ⊥) → value.numerator ≡ pos 0 → value.denominator ≡ pos 1 → ⊥ = λ absent nothing one. elim c.then-not-is_zero.branch [
      | then-not-is_zero-via-then-not-is_zero w ↦ refused c.is_zero.result ((value.numerator ≡ pos 0) × (value.denominator ≡ pos 1)) w.if-not-is_zero.true c.is_zero.ensures (nothing, one)
      | then-not-is_zero-via-else-not-is_zero+then-contains w ↦ absent ((c.requires.set.has value.unknown).0 (sym w.contains.ensures ∙ w.if-contains.true))
    ] in
    decided_false (AreValues rows unknowns [] values) (λ all. not_idle rows unknowns left (take i values) value not_last refuses (step_of rows unknowns [] values i left value l (at_position values i blank l) c.loop-i.invariant all))
