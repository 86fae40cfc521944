use Rattle.std.proofs.Common.{◌≡◌, true, false, refl}
use Rattle.tableau.specs.PoolBranches.{branch_in}
use Rattle.ematching.proofs.JoinLemmas.{on_ok}
use Rattle.ematching.proofs.TypeLemmas.{term_not_given, term_nowhere, term_given, typing_number, typing_stands}
use Rattle.ematching.proofs.types.typed_term.Goals as goal

pub returns-in_default : goal.returns-in_default
returns-in_default c = term_nowhere c.args.pool.now c.one_number.ensures c.args.branch.now c.requires.over c.args.type_number c.args.term c.requires.type_number c.requires.term c.args.found.now c.args.found.now refl c.in_default.ensures.nowhere

pub stands-requires : goal.stands-requires
stands-requires c = record { over = c.requires.over; formula = typing_number c.args.pool.now c.in-Some.formula c.args.type_number c.args.term c.in-Some.ensures }

pub returns-then-not-stands : goal.returns-then-not-stands
returns-then-not-stands c = term_not_given c.args.pool.now c.one_number.ensures c.args.branch.now c.requires.over c.args.type_number c.args.term c.requires.type_number c.requires.term c.args.found.now c.args.found.now refl (λ g. (let both : false ≡ true = c.if-not-stands.ensures.1 ((typing_stands c.args.pool.now (branch_in c.args.pool.now c.args.branch.now) c.in-Some.formula c.args.type_number c.args.term c.in-Some.ensures).1 g) in absurd (cc)))

pub returns : goal.returns
returns c = on_ok c.insert.result (λ h. term_given c.args.pool.now c.one_number.ensures c.args.branch.now c.requires.over c.args.type_number c.args.term c.requires.type_number c.requires.term c.args.found.now c.insert.new.self h ((typing_stands c.args.pool.now (branch_in c.args.pool.now c.args.branch.now) c.in-Some.formula c.args.type_number c.args.term c.in-Some.ensures).0 (c.if-not-stands.ensures.0 refl))) c.insert.ensures
