use Rattle.std.proofs.Common.{◌≡◌, ◌+◌, ◌*◌, ◌^◌, vec_len}
use Rattle.term_pool.specs.Pools.{Extends}
use Rattle.search.specs.Ends.{IsGoing}
use Rattle.search.proofs.search.search.Given as goal

abbrev pub ghost-move_on : goal.ghost-move_on
ghost-move_on g a = g.sought

abbrev pub invariant-loop-tree : goal.invariant-loop-tree
invariant-loop-tree g l = record {
  extends : Extends l.fn.pool l.pool;
  knows : g.D.Deciders.knows l.deciders l.pool;
  shapes : g.D.Deciders.shapes l.deciders ≡ g.D.Deciders.shapes l.fn.deciders;
  going : IsGoing (g.D.Deciders.shapes l.fn.deciders) g.sought l.left l.pool l.tree;
  sum : l.steps + l.left ≡ l.fn.steps + l.budget;
}

abbrev pub decreases-loop-tree : goal.decreases-loop-tree
decreases-loop-tree g l = l.left * 2 ^ 64 + vec_len l.tree.waiting
