use Rattle.std.proofs.Common.{◌≡◌, true, false, refl, sym, ◌∙◌}
use Rattle.tableau.specs.PoolBranches.{branch_in}
use Rattle.ematching.specs.Numbers.{term_at, triggers_at, formula_at}
use Rattle.ematching.proofs.SaidLemmas.{made_stands, only_made}
use Rattle.ematching.proofs.instances.said.is_said.Goals as goal

pub stands-requires : goal.stands-requires
stands-requires c = record { over = c.requires.over; formula = c.requires.made.number }

pub returns-then-stands : goal.returns-then-stands
returns-then-stands c =
    let u = c.args.universal in
    (λ t. made_stands c.args.pool.now (branch_in c.args.pool.now c.args.branch.now) u.is_denied u.variable (triggers_at c.args.pool.now u.triggers) (formula_at c.args.pool.now u.body) (term_at c.args.pool.now c.args.term) c.args.made c.requires.made (c.if-stands.ensures.0 refl), λ h. refl)

pub returns-then-is_free : goal.returns-then-is_free
returns-then-is_free c =
    let u = c.args.universal in (
      λ t. absurd (cc),
      λ h. (let yes : false ≡ true = c.if-stands.ensures.1 (only_made c.args.pool.now (branch_in c.args.pool.now c.args.branch.now) u.is_denied u.variable (triggers_at c.args.pool.now u.triggers) (formula_at c.args.pool.now u.body) (term_at c.args.pool.now c.args.term) c.args.made c.requires.made (sym c.requires.free ∙ c.if-is_free.true) h) in absurd (cc)),
    )
