use Rattle.std.proofs.Common.{◌≡◌, true, false, refl, sym, arith}
use Rattle.std.proofs.lemmas.Option.{slice_get_within}
use Rattle.tableau.proofs.UnnamedLemmas.{no_existential, too_deep, is_unnamed}
use Rattle.tableau.proofs.names.existentials.unnamed_at.Goals as goal

pub existential_of-requires : goal.existential_of-requires
existential_of-requires c = c.requires.over.formulas c.args.i c.in-Some.entry (sym c.in-Some.ensures)

pub returns-in_default-existential_of : goal.returns-in_default-existential_of
returns-in_default-existential_of c =
    no_existential c.args.pool.now c.args.branch.now c.args.i c.in-Some.entry (sym c.in-Some.ensures) c.in_default-existential_of.ensures

pub is_named-requires : goal.is_named-requires
is_named-requires c =
    let within = slice_get_within c.args.branch.now.entries c.args.i c.in-Some.entry (sym c.in-Some.ensures) in
    omega (arith, within, c.requires.all)

pub returns-then-is_shallow : goal.returns-then-is_shallow
returns-then-is_shallow c =
    is_unnamed c.args.pool.now c.args.branch.now c.args.i c.in-Some.entry (sym c.in-Some.ensures) c.in-Some-existential_of.existential c.in-Some-existential_of.ensures
    (λ named. (let both : false ≡ true = (c.if-is_named.ensures c.args.pool.now c.args.branch.now.entries c.requires.above c.requires.all).1 named in absurd (cc)))
    (c.if-is_shallow.ensures.0 refl)

pub returns : goal.returns
returns c =
    too_deep c.args.pool.now c.args.branch.now c.args.i c.in-Some.entry (sym c.in-Some.ensures) c.in-Some-existential_of.existential c.in-Some-existential_of.ensures
    (λ shallow. (let both : false ≡ true = c.if-is_shallow.ensures.1 shallow in absurd (cc)))
