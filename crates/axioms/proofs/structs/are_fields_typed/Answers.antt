use Rattle.std.proofs.Common.{arith}
use Rattle.axioms.proofs.FieldLists.{typed_more, untyped}
use Rattle.axioms.proofs.structs.are_fields_typed.Goals as goal

pub returns-then-not-is_typed_by : goal.returns-then-not-is_typed_by
returns-then-not-is_typed_by c =
    untyped _ _ _ _ c.loop-i.i _ _ _ (omega arith) c.index-fields-i.is c.index-terms-i.is c.index-parts-i.is c.is_typed_by.result c.is_typed_by.ensures c.if-not-is_typed_by.true

pub loop-i-preserved : goal.loop-i-preserved
loop-i-preserved c =
    typed_more _ _ _ _ c.loop-i.i _ _ _ (omega arith) (omega arith) (omega arith) c.index-fields-i.is c.index-terms-i.is c.index-parts-i.is c.is_typed_by.result c.is_typed_by.ensures c.if-not-is_typed_by.false c.loop-i.invariant
