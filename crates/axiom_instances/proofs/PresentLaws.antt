-- The table by triggers agrees with the table of the branch.
use Rattle.std.proofs.Common.{List}
use Rattle.fol.specs.declared.shapes.Shape.{Shape}
use Rattle.fol.specs.FormulaData.{TermData, FormulaData}
use Rattle.axioms.specs.declared.axiom.Axiom.{Axiom}
use Rattle.certificates.specs.BranchesBranch.{Branch}
use Rattle.certificates.specs.Table.{Asks, OfStore, OfStoreRead, OfBlank, OfLen, OfEmpty, OfPush, OfPushed, OfPushRead, OfPop, OfPopRead, OfSet, OfSetAt, OfSetRead, OfVectors as OfTheVectors, OfPack, OfSetField, OfOtherField, OfStructTyped, OfPackTyped, OfFieldTyped, OfRange, OfSigner, OfWhole, OfItem as OfTheItem, OfVector, OfEmptyTyped, OfSetTyped, OfPushTyped, OfPopTyped, OfNothing, OfBool, AlwaysDiffer, OfQuotient, OfRemainder, OfZeroDivisor, OfMax, OfIf, OfBits, OfShl, OfShr, AlwaysTrue, AlwaysFalse, AlwaysNothing, OfProduct, OfProductOne, OfProductZero}
use Rattle.axiom_instances.specs.Asks.{TruthsDiffering, TrueHolding, FalseFailing, NothingFailing, ByStore, ByBlank, ByLen, ByEmpty, ByPush, ByPushed, ByPop, BySet, BySetAt, ByPack, BySetField, ByOtherField, ByWhole, ByQuotient, ByRemainder, ByZeroDivisor, ByMax, ByIf, ByBits, ByShl, ByShr, ByProduct, ByProductOne, ByProductZero, ByStructTyped, ByPackTyped, ByFieldTyped, ByRange, BySigner, ByVector, ByBool, ByNothing, ByEmptyTyped, BySetTyped, ByPushTyped, ByPopTyped, ByStoreRead, ByPushRead, ByPopRead, BySetRead, ByItem, ByVectors}
use Rattle.axiom_instances.specs.Present.{IsTriggeredOn, Always, OfTerm, OfType, OfTypeAlone, OfTypeBeside, OfRead, OfItem, OfVectors, StoreRead, PushRead, PopRead, SetRead}

module _ (shapes : List Shape) (b : Branch) where
  pub stands : {name : Axiom} {ts : List TermData} {p : FormulaData} → Asks shapes b name ts p → IsTriggeredOn shapes b name ts p
  stands (OfStore m a v h) = OfTerm _ h (ByStore m a v)
  stands (OfBlank a h) = OfTerm _ h (ByBlank a)
  stands (OfLen v h) = OfTerm _ h (ByLen v)
  stands (OfEmpty h) = OfTerm _ h ByEmpty
  stands (OfPush v x h) = OfTerm _ h (ByPush v x)
  stands (OfPushed v x h) = OfTerm _ h (ByPushed v x)
  stands (OfPop v h) = OfTerm _ h (ByPop v)
  stands (OfSet v i x h) = OfTerm _ h (BySet v i x)
  stands (OfSetAt v i x h) = OfTerm _ h (BySetAt v i x)
  stands (OfPack s k us t h e f) = OfTerm _ h (ByPack s k us t e f)
  stands (OfSetField s k t v h e) = OfTerm _ h (BySetField s k t v e)
  stands (OfOtherField s j k t v h e f g) = OfTerm _ h (ByOtherField s j k t v e f g)
  stands (OfWhole t h e) = OfTerm _ h (ByWhole t e)
  stands (OfQuotient c t h e) = OfTerm _ h (ByQuotient c t e)
  stands (OfRemainder t u h) = OfTerm _ h (ByRemainder t u)
  stands (OfZeroDivisor t h) = OfTerm _ h (ByZeroDivisor t)
  stands (OfMax h) = OfTerm _ h ByMax
  stands (OfIf q t u h) = OfTerm _ h (ByIf q t u)
  stands (OfBits w o x y h e) = OfTerm _ h (ByBits w o x y e)
  stands (OfShl w x i h) = OfTerm _ h (ByShl w x i)
  stands (OfShr w x i h) = OfTerm _ h (ByShr w x i)
  stands (OfProduct t u h e) = OfTerm _ h (ByProduct t u e)
  stands (OfProductOne t u h e) = OfTerm _ h (ByProductOne t u e)
  stands (OfProductZero t u h e) = OfTerm _ h (ByProductZero t u e)
  stands (OfStructTyped s us t h e f) = OfType _ _ h (ByStructTyped s us t e f)
  stands (OfPackTyped s us ps h e) = OfType _ _ h (ByPackTyped s us ps e)
  stands (OfFieldTyped s k t a h e) = OfType _ _ h (ByFieldTyped s k t a e)
  stands (OfRange a t most h e) = OfType _ _ h (ByRange a t most e)
  stands (OfSigner t h) = OfType _ _ h (BySigner t)
  stands (OfVector a v h) = OfType _ _ h (ByVector a v)
  stands (OfBool t h) = OfType _ _ h (ByBool t)
  stands (OfNothing a h) = OfTypeAlone _ h (ByNothing a)
  stands (OfEmptyTyped a h k) = OfTypeBeside _ _ k h (ByEmptyTyped a)
  stands (OfSetTyped a v i x h k) = OfTypeBeside _ _ k h (BySetTyped a v i x)
  stands (OfPushTyped a v x h k) = OfTypeBeside _ _ k h (ByPushTyped a v x)
  stands (OfPopTyped a v h k) = OfTypeBeside _ _ k h (ByPopTyped a v)
  stands (OfStoreRead m a v k h l r) = OfRead _ _ h l (StoreRead m a v k r) (ByStoreRead m a v k)
  stands (OfPushRead v x i h l r) = OfRead _ _ h l (PushRead v x i r) (ByPushRead v x i)
  stands (OfPopRead v i h l r) = OfRead _ _ h l (PopRead v i r) (ByPopRead v i)
  stands (OfSetRead v i x j h l r) = OfRead _ _ h l (SetRead v i x j r) (BySetRead v i x j)
  stands (OfTheItem a v i h l r) = OfItem _ _ _ h l r (ByItem a v i)
  stands (OfTheVectors a v u i d h l f) = OfVectors _ _ _ d h l (ByVectors a v u i f)
  stands AlwaysDiffer = Always TruthsDiffering
  stands AlwaysTrue = Always TrueHolding
  stands AlwaysFalse = Always FalseFailing
  stands AlwaysNothing = Always NothingFailing

  pub triggered : {name : Axiom} {ts : List TermData} {p : FormulaData} → IsTriggeredOn shapes b name ts p → Asks shapes b name ts p
  triggered (OfTerm _ h (ByStore m a v)) = OfStore m a v h
  triggered (OfTerm _ h (ByBlank a)) = OfBlank a h
  triggered (OfTerm _ h (ByLen v)) = OfLen v h
  triggered (OfTerm _ h ByEmpty) = OfEmpty h
  triggered (OfTerm _ h (ByPush v x)) = OfPush v x h
  triggered (OfTerm _ h (ByPushed v x)) = OfPushed v x h
  triggered (OfTerm _ h (ByPop v)) = OfPop v h
  triggered (OfTerm _ h (BySet v i x)) = OfSet v i x h
  triggered (OfTerm _ h (BySetAt v i x)) = OfSetAt v i x h
  triggered (OfTerm _ h (ByPack s k us t e f)) = OfPack s k us t h e f
  triggered (OfTerm _ h (BySetField s k t v e)) = OfSetField s k t v h e
  triggered (OfTerm _ h (ByOtherField s j k t v e f g)) = OfOtherField s j k t v h e f g
  triggered (OfTerm _ h (ByWhole t e)) = OfWhole t h e
  triggered (OfTerm _ h (ByQuotient c t e)) = OfQuotient c t h e
  triggered (OfTerm _ h (ByRemainder t u)) = OfRemainder t u h
  triggered (OfTerm _ h (ByZeroDivisor t)) = OfZeroDivisor t h
  triggered (OfTerm _ h ByMax) = OfMax h
  triggered (OfTerm _ h (ByIf q t u)) = OfIf q t u h
  triggered (OfTerm _ h (ByBits w o x y e)) = OfBits w o x y h e
  triggered (OfTerm _ h (ByShl w x i)) = OfShl w x i h
  triggered (OfTerm _ h (ByShr w x i)) = OfShr w x i h
  triggered (OfTerm _ h (ByProduct t u e)) = OfProduct t u h e
  triggered (OfTerm _ h (ByProductOne t u e)) = OfProductOne t u h e
  triggered (OfTerm _ h (ByProductZero t u e)) = OfProductZero t u h e
  triggered (OfType _ _ h (ByStructTyped s us t e f)) = OfStructTyped s us t h e f
  triggered (OfType _ _ h (ByPackTyped s us ps e)) = OfPackTyped s us ps h e
  triggered (OfType _ _ h (ByFieldTyped s k t a e)) = OfFieldTyped s k t a h e
  triggered (OfType _ _ h (ByRange a t most e)) = OfRange a t most h e
  triggered (OfType _ _ h (BySigner t)) = OfSigner t h
  triggered (OfType _ _ h (ByVector a v)) = OfVector a v h
  triggered (OfType _ _ h (ByBool t)) = OfBool t h
  triggered (OfTypeAlone _ h (ByNothing a)) = OfNothing a h
  triggered (OfTypeBeside _ _ k h (ByEmptyTyped a)) = OfEmptyTyped a h k
  triggered (OfTypeBeside _ _ k h (BySetTyped a v i x)) = OfSetTyped a v i x h k
  triggered (OfTypeBeside _ _ k h (ByPushTyped a v x)) = OfPushTyped a v x h k
  triggered (OfTypeBeside _ _ k h (ByPopTyped a v)) = OfPopTyped a v h k
  triggered (OfRead _ _ h l (StoreRead m a v k r) (ByStoreRead _ _ _ _)) = OfStoreRead m a v k h l r
  triggered (OfRead _ _ h l (PushRead v x i r) (ByPushRead _ _ _)) = OfPushRead v x i h l r
  triggered (OfRead _ _ h l (PopRead v i r) (ByPopRead _ _)) = OfPopRead v i h l r
  triggered (OfRead _ _ h l (SetRead v i x j r) (BySetRead _ _ _ _)) = OfSetRead v i x j h l r
  triggered (OfItem _ _ _ h l r (ByItem a v i)) = OfTheItem a v i h l r
  triggered (OfVectors _ _ _ d h l (ByVectors a v u i f)) = OfTheVectors a v u i d h l f
  triggered (Always TruthsDiffering) = AlwaysDiffer
  triggered (Always TrueHolding) = AlwaysTrue
  triggered (Always FalseFailing) = AlwaysFalse
  triggered (Always NothingFailing) = AlwaysNothing
