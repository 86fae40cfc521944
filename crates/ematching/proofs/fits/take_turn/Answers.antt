use Rattle.std.proofs.Common.{Some, refl, sym, ap, ◌∙◌, inl, inr, subst}
use Rattle.ematching.specs.Fits.{IsApartOrNot}
use Rattle.ematching.proofs.FitLemmas.{refused_value}
use Rattle.ematching.proofs.fits.take_turn.Goals as goal

pub returns-then-value-target : goal.returns-then-value-target
returns-then-value-target c = inl (record { has = sym c.in-Some.ensures ∙ ap Some c.if-value-target.true; same = refl; waiting = refl })

pub returns-in-Some : goal.returns-in-Some
returns-in-Some c =
    refused_value c.args.pool.now c.args.bound.now c.args.pattern c.args.target c.requires.pair c.one_number.ensures c.args.values.now c.args.values.now c.in-Some.value refl c.requires.targets (sym c.in-Some.ensures) c.if-value-target.false

pub returns-then-not-apart : goal.returns-then-not-apart
returns-then-not-apart c =
    let never = subst (λ b. IsApartOrNot b c.args.pool.now c.args.bound.now c.args.pattern c.args.target c.args.waiting.now.items c.take_apart.new.waiting.items) c.if-not-apart.true c.in_ok-apart.ensures in
    record { same = refl; none = λ at m f. never.none at f }

pub returns : goal.returns
returns c =
    inr (record { new = sym c.in_default.ensures; apart = subst (λ b. IsApartOrNot b c.args.pool.now c.args.bound.now c.args.pattern c.args.target c.args.waiting.now.items c.take_apart.new.waiting.items) c.if-not-apart.false c.in_ok-apart.ensures; is = c.in_ok-write.ensures })
