use Rattle.std.proofs.Common.{◌≡◌, true, false, refl, sym, ◌∙◌}
use Rattle.tableau.specs.PoolBranches.{branch_in}
use Rattle.ematching.proofs.TypeLemmas.{never_none, typing_made, typing_number, no_typing, is_typing}
use Rattle.ematching.proofs.types.typed_by.Goals as goal

pub returns-in_default-typing_of : goal.returns-in_default-typing_of
returns-in_default-typing_of c = absurd (never_none c.args.pool.now (branch_in c.args.pool.now c.args.branch.now) c.args.type_number c.args.formula c.requires.head c.in-Some.node c.in-Some.ensures (sym c.typing_of.ensures ∙ c.in_default-typing_of.is))

pub stands-requires : goal.stands-requires
stands-requires c = record { over = c.requires.over; formula = typing_number c.args.pool.now c.args.formula c.args.type_number c.in-Some-typing_of.term (typing_made c.args.pool.now (branch_in c.args.pool.now c.args.branch.now) c.args.type_number c.args.formula c.requires.head c.in-Some.node c.in-Some.ensures _ (sym c.typing_of.ensures ∙ c.in-Some-typing_of.is)) }

pub returns-then-stands : goal.returns-then-stands
returns-then-stands c = is_typing c.args.pool.now (branch_in c.args.pool.now c.args.branch.now) c.args.type_number c.args.formula c.requires.head c.in-Some.node c.in-Some.ensures _ (sym c.typing_of.ensures ∙ c.in-Some-typing_of.is) (c.if-stands.ensures.0 refl)

pub returns : goal.returns
returns c = no_typing c.args.pool.now (branch_in c.args.pool.now c.args.branch.now) c.args.type_number c.args.formula c.requires.head c.in-Some.node c.in-Some.ensures _ (sym c.typing_of.ensures ∙ c.in-Some-typing_of.is) (λ h. (let both : false ≡ true = c.if-stands.ensures.1 h in absurd (cc)))
