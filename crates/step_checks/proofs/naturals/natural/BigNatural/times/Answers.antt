use Rattle.std.proofs.Common.{◌≡◌, ℕ, ◌*◌, ap, arith}
use Rattle.step_checks.specs.Digits.{number_of}
use Rattle.step_checks.proofs.DigitLemmas.{times_parts}
use Rattle.step_checks.proofs.naturals.natural.BigNatural.times.Goals as goal

pub returns : goal.returns
returns c =
    let v = c.self.view_is in
    let parts = times_parts (number_of c.self.inside.digits.items) c.args.factor in
    let e : number_of c.in_ok-digits.digits.items ≡ number_of c.self.inside.digits.items * c.args.factor = rw (c.in_ok-digits.ensures, c.as_slice-4.ensures.value, c.as_slice-5.ensures.value, c.in_ok-product.ensures, c.in_ok-moved.ensures, c.as_slice-3.ensures.value, c.in_ok-more.ensures, c.as_slice.ensures.value, c.as_slice-2.ensures.value) parts in
    let f = ap (λ (n : ℕ). n * c.args.factor) v in
    omega (arith, e, f)
