use Rattle.std.proofs.Common.{◌≡◌, true, false, refl, sym, ◌∙◌}
use Rattle.tableau.specs.PoolBranches.{branch_in}
use Rattle.ematching.specs.Numbers.{term_at, formula_at}
use Rattle.step_checks.proofs.SaidLemmas.{no_body, stands_so, unsaid_given, one_says, body_read, said_read}
use Rattle.step_checks.proofs.applications.said.is_fresh.Goals as goal

pub returns-then-not-is_body : goal.returns-then-not-is_body
returns-then-not-is_body c =
    let ns = c.args.pool.now in
    let known = body_read (formula_at ns c.args.formula) c.in_ok-is_body.is_body c.in_ok-value.value (term_at ns c.args.term) c.in_ok-whole.whole (formula_at ns c.args.of) c.in_ok-value.ensures c.in_ok-whole.ensures c.in_ok-is_body.ensures in
    no_body (branch_in ns c.args.branch.now) (formula_at ns c.args.of) (term_at ns c.args.term) (formula_at ns c.args.formula) c.in_ok-is_body.is_body c.if-not-is_body.true known

pub returns-then-stands : goal.returns-then-stands
returns-then-stands c =
    let ns = c.args.pool.now in
    let known = body_read (formula_at ns c.args.formula) c.in_ok-is_body.is_body c.in_ok-value.value (term_at ns c.args.term) c.in_ok-whole.whole (formula_at ns c.args.of) c.in_ok-value.ensures c.in_ok-whole.ensures c.in_ok-is_body.ensures in
    stands_so (branch_in ns c.args.branch.now) (formula_at ns c.args.of) (term_at ns c.args.term) (formula_at ns c.args.formula) (known.0 c.if-not-is_body.false) (c.if-stands.ensures.0 refl)

pub returns-then-is_free : goal.returns-then-is_free
returns-then-is_free c =
    let ns = c.args.pool.now in
    let known = body_read (formula_at ns c.args.formula) c.in_ok-is_body.is_body c.in_ok-value.value (term_at ns c.args.term) c.in_ok-whole.whole (formula_at ns c.args.of) c.in_ok-value.ensures c.in_ok-whole.ensures c.in_ok-is_body.ensures in
    one_says ns (branch_in ns c.args.branch.now) (formula_at ns c.args.of) (term_at ns c.args.term) (formula_at ns c.args.formula) c.args.universal c.requires.universal (sym c.requires.free ∙ c.if-is_free.true) (known.0 c.if-not-is_body.false) (λ s. (let both : false ≡ true = c.if-stands.ensures.1 s in absurd (cc)))

pub returns : goal.returns
returns c =
    let ns = c.args.pool.now in
    let b = branch_in ns c.args.branch.now in
    let known = body_read (formula_at ns c.args.formula) c.in_ok-is_body.is_body c.in_ok-value.value (term_at ns c.args.term) c.in_ok-whole.whole (formula_at ns c.args.of) c.in_ok-value.ensures c.in_ok-whole.ensures c.in_ok-is_body.ensures in
    unsaid_given b (formula_at ns c.args.of) (term_at ns c.args.term) (formula_at ns c.args.formula) (known.0 c.if-not-is_body.false) c.in_ok-said.said c.is_false.result
    (said_read b c.in_ok-said.said c.in_ok-value.value (term_at ns c.args.term) c.in_ok-whole.whole (formula_at ns c.args.of) c.in_ok-value.ensures c.in_ok-whole.ensures c.in_ok-said.ensures)
    c.is_false.ensures
