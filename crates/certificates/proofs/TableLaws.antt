-- Each row of the table is an instance of its axiom.
use Rattle.std.specs.Prelude.{List, refl}
use Rattle.base.specs.TypeData.{AddressType}
use Rattle.fol.specs.declared.shapes.Shape.{Shape}
use Rattle.fol.specs.FormulaData.{TermData, FormulaData, MaxTerm}
use Rattle.axioms.specs.declared.axiom.Axiom.{Axiom}
use Rattle.axioms.specs.Axioms.{IsAxiom}
use Rattle.certificates.specs.BranchesBranch.{Branch}
use Rattle.certificates.specs.Table.{Asks, OfStore, OfStoreRead, OfBlank, OfLen, OfEmpty, OfPush, OfPushed, OfPushRead, OfPop, OfPopRead, OfSet, OfSetAt, OfSetRead, OfVectors, OfPack, OfSetField, OfOtherField, OfStructTyped, OfPackTyped, OfFieldTyped, OfRange, OfSigner, OfWhole, OfItem, OfVector, OfEmptyTyped, OfSetTyped, OfPushTyped, OfPopTyped, OfNothing, OfBool, AlwaysDiffer, OfQuotient, OfRemainder, OfZeroDivisor, OfMax, OfIf, OfBits, OfShl, OfShr, AlwaysTrue, AlwaysFalse, AlwaysNothing, OfProduct, OfProductOne, OfProductZero}

pub triggered : (shapes : List Shape) (b : Branch) {name : Axiom} {ts : List TermData} {p : FormulaData} → Asks shapes b name ts p → IsAxiom shapes name p
triggered shapes b (OfStore m a v h) = (_, _, (m, a, v, refl, refl), refl)
triggered shapes b (OfStoreRead m a v k h j r) = (_, _, _, (m, a, k, v, refl, refl, refl), refl)
triggered shapes b (OfBlank a h) = (_, _, (a, refl, refl), refl)
triggered shapes b (OfLen v h) = (v, refl)
triggered shapes b (OfEmpty h) = (_, _, (refl, refl), refl)
triggered shapes b (OfPush v x h) = (_, _, (v, x, refl, refl), refl)
triggered shapes b (OfPushed v x h) = (_, _, (v, x, refl, refl), refl)
triggered shapes b (OfPushRead v x i h j r) = (_, _, _, (v, x, i, refl, refl, refl), refl)
triggered shapes b (OfPop v h) = (_, _, _, (v, refl, refl, refl), refl)
triggered shapes b (OfPopRead v i h j r) = (_, _, _, (v, i, refl, refl, refl), refl)
triggered shapes b (OfSet v i x h) = (_, _, (v, i, x, refl, refl), refl)
triggered shapes b (OfSetAt v i x h) = (_, (v, i, x, refl), refl)
triggered shapes b (OfSetRead v i x j h k r) = (_, _, _, (v, i, j, x, refl, refl, refl), refl)
triggered shapes b (OfVectors a v u i d h k f) = (_, (a, v, u, i, f.not_left, f.not_right, refl), refl)
triggered shapes b (OfPack s k us t h f e) = (s, k, us, t, f, e, refl)
triggered shapes b (OfSetField s k t v h f) = (s, k, t, v, f, refl)
triggered shapes b (OfOtherField s j k t v h f g d) = (s, j, k, t, v, f, g, d, refl)
triggered shapes b (OfStructTyped s us t h f g) = (s, us, t, f, g, refl)
triggered shapes b (OfPackTyped s us ps h f) = (s, us, ps, f, refl)
triggered shapes b (OfFieldTyped s k t a h f) = (s, k, t, a, f, refl)
triggered shapes b (OfRange a t most h e) = (_, _, (a, t, most, e, refl, refl), refl)
triggered shapes b (OfSigner t h) = (_, _, (AddressType, t, MaxTerm, refl, refl, refl), refl)
triggered shapes b (OfWhole t h e) = (t, e, refl)
triggered shapes b (OfItem a v i h j r) = (_, _, (a, v, i, refl, refl), refl)
triggered shapes b (OfVector a v h) = (_, _, (a, v, refl, refl), refl)
triggered shapes b (OfEmptyTyped a h k) = (a, refl)
triggered shapes b (OfSetTyped a v i x h k) = (_, _, (a, v, i, x, refl, refl), refl)
triggered shapes b (OfPushTyped a v x h k) = (_, _, (a, v, x, refl, refl), refl)
triggered shapes b (OfPopTyped a v h k) = (_, _, (a, v, refl, refl), refl)
triggered shapes b (OfNothing a h) = (a, refl)
triggered shapes b (OfBool t h) = (_, _, (t, refl, refl), refl)
triggered shapes b (AlwaysDiffer) = refl
triggered shapes b (OfQuotient c t h e) = (c, t, e, refl)
triggered shapes b (OfRemainder t u h) = (_, _, (t, u, refl, refl), refl)
triggered shapes b (OfZeroDivisor t h) = (_, _, (t, refl, refl), refl)
triggered shapes b (OfMax h) = refl
triggered shapes b (OfIf q t u h) = (_, (q, t, u, refl), refl)
triggered shapes b (OfBits w o x y h e) = (_, _, (w, o, x, y, e, refl, refl), refl)
triggered shapes b (OfShl w x i h) = (w, x, i, refl)
triggered shapes b (OfShr w x i h) = (_, _, (w, x, i, refl, refl), refl)
triggered shapes b (AlwaysTrue) = refl
triggered shapes b (AlwaysFalse) = refl
triggered shapes b (AlwaysNothing) = refl
triggered shapes b (OfProduct t u h e) = (_, _, (t, u, refl, refl), refl)
triggered shapes b (OfProductOne t u h e) = (_, _, (t, refl, refl), refl)
triggered shapes b (OfProductZero t u h e) = (_, _, (t, refl, refl), refl)
