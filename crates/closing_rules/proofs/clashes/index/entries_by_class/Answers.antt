use Rattle.std.proofs.Common.{◌≡◌, ℕ, List, Some, cond, nat_eq, sym, ap, subst, arith}
use Rattle.std.specs.Map.{lookup}
use Rattle.indexmap.specs.IndexMap.{get}
use Rattle.closing_rules.proofs.IndexLemmas.{entries_begun, entries_same, entries_more, entries_done}
use Rattle.closing_rules.proofs.clashes.index.entries_by_class.Goals as goal

pub loop-i-init : goal.loop-i-init
loop-i-init c = entries_begun c.args.branch.now c.args.classes.now (get nat_eq c.new-by_class.result) (λ k. ap (λ (es : List (ℕ × ℕ)). lookup (nat_eq k) es) c.new-by_class.ensures.empty)

pub class-class-requires : goal.class-class-requires
class-class-requires c = c.requires.each c.loop-i.i c.in-Some.entry (sym c.in-Some.ensures)

pub loop-i-preserved-in_default : goal.loop-i-preserved-in_default
loop-i-preserved-in_default c = entries_same c.args.branch.now c.args.classes.now c.loop-i.i (get nat_eq c.loop-i.by_class) (sym c.in_default.ensures) c.loop-i.invariant

pub loop-i-preserved : goal.loop-i-preserved
loop-i-preserved c =
    let e = c.in-Some.entry in
    entries_more c.args.branch.now c.args.classes.now c.loop-i.i (get nat_eq c.loop-i.by_class) (get nat_eq c.note.new.table) e (sym c.in-Some.ensures) (subst (λ (n : ℕ). (k : ℕ) → get nat_eq c.note.new.table k ≡ cond (nat_eq n k) (Some c.loop-i.i) (get nat_eq c.loop-i.by_class k)) c.class-class.ensures c.in_ok-note.ensures) c.loop-i.invariant

pub returns : goal.returns
returns c = entries_done c.args.branch.now c.args.classes.now c.loop-i.i (get nat_eq c.loop-i.by_class) (omega (arith, c.len-i-end.ensures, c.loop-i-test.false)) c.loop-i.invariant
