use Rattle.std.proofs.Common.{◌+◌, take, sym, ◌∙◌, ap, subst, arith}
use Rattle.std.specs.Option.{option_map}
use Rattle.std.specs.Map.Iter.{deref_pair}
use Rattle.program.specs.declared.declaration.Constant.{Constant}
use Rattle.program.specs.declared.program.ConstantId.{ConstantId}
use Rattle.type_check.specs.Split.{ConstantBreaks, ConstantIsOpen}
use Rattle.type_check.specs.declared.code.faults.CodeFaults.{CodeFaults}
use Rattle.type_check.proofs.CodeFirsts.{nothing_there}
use Rattle.type_check.proofs.Groups.{AreFaultsOf, all_in, next_in, none_in}
use Rattle.type_check.proofs.code.faults.constant_faults.Goals as goal
use Rattle.type_check.proofs.code.faults.constant_faults.Goals.{in-Some+in_ok-broken, in_default}

pub loop-number-init : goal.loop-number-init
loop-number-init c =
    let program = c.args.program.now in
    none_in (λ (d : ConstantId × Constant). d.1.span) (λ d. ConstantBreaks program d.1) (λ d. ConstantIsOpen program d.1) c.no_faults-faults.result c.no_faults-faults.ensures.untyped c.no_faults-faults.ensures.unsettled

pub loop-number-preserved : goal.loop-number-preserved
loop-number-preserved c =
    let program = c.args.program.now in
    let n = c.loop-number.number in
    elim c.match-entry.branch [
      | in-Some+in_ok-broken w ↦
          subst (λ (o : CodeFaults). AreFaultsOf (λ (d : ConstantId × Constant). d.1.span) (λ d. ConstantBreaks program d.1) (λ d. ConstantIsOpen program d.1) (take (n + 1) program.constants) o) (sym w.faults-is)
          (next_in (λ (d : ConstantId × Constant). d.1.span) (λ d. ConstantBreaks program d.1) (λ d. ConstantIsOpen program d.1) program.constants n (_, w.in-Some.constant.now)
          w.in_ok-broken.broken c.loop-number.faults w.faults_at-found.result w.both-faults.result (sym w.in-Some.ensures)
          w.in_ok-broken.ensures.untyped w.in_ok-broken.ensures.unsettled
          w.faults_at-found.ensures.untyped w.faults_at-found.ensures.unsettled c.loop-number.invariant w.both-faults.ensures)
      | in_default w ↦ absurd (nothing_there program.constants n (omega arith) (sym (ap (option_map deref_pair) w.in_default.is) ∙ c.entry.ensures))
    ]

pub returns : goal.returns
returns c =
    let program = c.args.program.now in
    all_in (λ (d : ConstantId × Constant). d.1.span) (λ d. ConstantBreaks program d.1) (λ d. ConstantIsOpen program d.1) program.constants c.loop-number.number c.loop-number.faults
    (omega arith) c.loop-number.invariant
