use Rattle.std.proofs.Common.{sym, ap, ◌∙◌}
use Rattle.fol.specs.FormulaData.{NotFormula}
use Rattle.search.specs.Ends.{Claim}
use Rattle.certificate_text.proofs.ProverLemmas.{denial_number, denied, readable}
use Rattle.certificate_text.proofs.prover.prove.Goals as goal

pub search-requires : goal.search-requires
search-requires g c = λ κs lives. (
    let ns = c.intern_formula.new.pool in
    let ms = c.insert.new.self in
    let p = c.args.formula.now in
    let n = c.in_ok-number.number in
    let d = c.in_ok-denial.denial in
    let grown = c.insert.ensures.extends in
    let same = c.requires.1.1.0 in (
      lives.0,
      (
        lives.1,
        (
          c.requires.1.1.1.each ms,
          (
            denial_number ns ms grown p n d c.in_ok-number.ensures.is c.in_ok-denial.ensures.is,
            (
              denied ns ms grown p n d c.in_ok-number.ensures.is c.in_ok-denial.ensures.is ∙ ap (λ (s : Claim). NotFormula s.formula) (sym same),
              ap (λ (s : Claim). s.budget) (sym same),
            ),
          ),
        ),
      ),
    ))

pub answer_of-requires : goal.answer_of-requires
answer_of-requires g c =
    readable c.numbers_fit.ensures (g.D.Deciders.shapes c.args.deciders.now) g.sought c.args.steps.now c.search.new.steps (record { pool = c.search.new.pool; outcome = c.in_ok-outcome.outcome }) c.in_ok-outcome.ensures.shown
