use Rattle.std.proofs.Common.{◌<◌, ℕ, List, length, sym, subst, arith}
use Rattle.std.specs.Prelude.{slice_index_or}
use Rattle.unification.proofs.Pooling.{keeps_then, all_below, all_push, types_more}
use Rattle.unification.proofs.solution.pooled.+add_type.Goals as goal

pub add_types-loop-part-preserved : goal.add_types-loop-part-preserved
add_types-loop-part-preserved t c = record {
  keeps = keeps_then c.loop-part.invariant.keeps c.in_ok-number.ensures.keeps;
  within = subst (λ (ns : List ℕ). (k d : ℕ) → k < length ns → slice_index_or ns k d < length c.add_type.new.pool) (sym c.in_ok-push.ensures.ok)
      (all_push (length c.add_type.new.pool) c.loop-part.numbers c.in_ok-number.number
      (all_below (length c.loop-part.pool) (length c.add_type.new.pool) c.loop-part.numbers c.in_ok-number.ensures.keeps.longer c.loop-part.invariant.within) c.in_ok-number.ensures.within);
  are = types_more c.loop-part.pool c.add_type.new.pool c.loop-part.numbers c.push.new.self c.in_ok-number.number c.loop-part.part-index c.args.parts.now c.part-item.result
      c.in_ok-number.ensures.keeps c.loop-part.invariant.within c.in_ok-push.ensures.ok (omega (arith, c.loop-part-test.true)) c.part-item.is c.loop-part.invariant.are c.in_ok-number.ensures.is;
}
