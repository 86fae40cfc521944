use Rattle.std.proofs.Common.{rules, ◌≡◌, ℕ, neg_ℤ, FitsSigned, arith, subst}
use Rattle.std.specs.Prelude.{unsigned_abs}
use Rattle.std.specs.Int.{w128}
use Rattle.std.proofs.lemmas.Int.{ints, to_z-of_z}
use Rattle.linear_arith.specs.Floor.{IsFloor}
use Rattle.linear_arith.proofs.ListLemmas.{if_some, if_none}
use Rattle.linear_arith.proofs.BoundLemmas.{lowers_met, lowers_least}
use Rattle.linear_arith.proofs.bounds.least_whole.Goals as goal

pub returns-in-Some-clause-met : goal.returns-in-Some-clause-met
returns-in-Some-clause-met c =
    let bounds = c.args.bounds.now in
    let lower = c.in-Some.lower in
    let f = c.floor_quotient.result in
    let ff : FitsSigned w128 f = search rules in
    let fc : FitsSigned w128 lower.coefficient = search rules in
    let fb : FitsSigned w128 lower.bound = search rules in
    let size : c.unsigned_abs.result ≡ unsigned_abs lower.coefficient = simp to_z-of_z at c.unsigned_abs.ensures.value in
    let floored : IsFloor lower.bound c.unsigned_abs.result f = simp to_z-of_z at c.floor_quotient.ensures in
    let floor : IsFloor lower.bound (unsigned_abs lower.coefficient) f = subst (λ (m : ℕ). IsFloor lower.bound m f) size floored in
    let n = simp to_z-of_z at c.checked_neg.ensures in
    if_some c.checked_neg.result _ (neg_ℤ f) _ n (λ z le. lowers_met bounds lower f z c.in-Some.ensures.some floor le)

pub returns-in-Some-clause-least : goal.returns-in-Some-clause-least
returns-in-Some-clause-least c =
    let bounds = c.args.bounds.now in
    let lower = c.in-Some.lower in
    let f = c.floor_quotient.result in
    let ff : FitsSigned w128 f = search rules in
    let fc : FitsSigned w128 lower.coefficient = search rules in
    let fb : FitsSigned w128 lower.bound = search rules in
    let size : c.unsigned_abs.result ≡ unsigned_abs lower.coefficient = simp to_z-of_z at c.unsigned_abs.ensures.value in
    let floored : IsFloor lower.bound c.unsigned_abs.result f = simp to_z-of_z at c.floor_quotient.ensures in
    let floor : IsFloor lower.bound (unsigned_abs lower.coefficient) f = subst (λ (m : ℕ). IsFloor lower.bound m f) size floored in
    let n = simp to_z-of_z at c.checked_neg.ensures in
    if_some c.checked_neg.result _ (neg_ℤ f) _ n (λ z fits met. lowers_least bounds lower f z c.in-Some.ensures.some floor met)

pub returns-in-Some-clause-none : goal.returns-in-Some-clause-none
returns-in-Some-clause-none c =
    let bounds = c.args.bounds.now in
    let lower = c.in-Some.lower in
    let f = c.floor_quotient.result in
    let ff : FitsSigned w128 f = search rules in
    let fc : FitsSigned w128 lower.coefficient = search rules in
    let fb : FitsSigned w128 lower.bound = search rules in
    let size : c.unsigned_abs.result ≡ unsigned_abs lower.coefficient = simp to_z-of_z at c.unsigned_abs.ensures.value in
    let floored : IsFloor lower.bound c.unsigned_abs.result f = simp to_z-of_z at c.floor_quotient.ensures in
    let floor : IsFloor lower.bound (unsigned_abs lower.coefficient) f = subst (λ (m : ℕ). IsFloor lower.bound m f) size floored in
    let n = simp to_z-of_z at c.checked_neg.ensures in
    if_none c.checked_neg.result _ (neg_ℤ f) _ n (λ wide z fits met. wide (let le = lowers_least bounds lower f z c.in-Some.ensures.some floor met in omega (arith, ints, le)))
