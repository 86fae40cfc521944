use Rattle.std.proofs.Common.{◌≡◌, true, false, refl}
use Rattle.tableau.specs.PoolBranches.{branch_in}
use Rattle.tableau.proofs.TermLemmas.{branch_term}
use Rattle.tableau.proofs.aliasing.terms.is_term.Goals as goal

pub returns-then-not-is_term : goal.returns-then-not-is_term
returns-then-not-is_term c = (λ t. absurd (cc), λ h. (let both : false ≡ true = c.if-not-is_term.ensures.1 (record { earlier = h.number.within; sort = h.number.sort }) in absurd (cc)))

pub generation-requires : goal.generation-requires
generation-requires c = (let part = c.if-not-is_term.ensures.0 refl in record { over = c.requires; term = record { within = part.earlier; sort = part.sort } })

pub returns-in-Some : goal.returns-in-Some
returns-in-Some c = (λ t. branch_term c.args.pool.now (branch_in c.args.pool.now c.args.branch.now) c.args.number c.in-Some.field-0 (c.if-not-is_term.ensures.0 refl) c.in-Some.ensures, λ h. refl)

pub returns-in-None : goal.returns-in-None
returns-in-None c = (λ t. absurd (cc), λ h. absurd (c.in-None.ensures.none h.stands))
