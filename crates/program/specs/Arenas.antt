-- Arenas, as contracts see them.
use Rattle.std.specs.Prelude.{List}
use Rattle.base.specs.declared.span.Span.{Span}
use Rattle.program.specs.declared.arena.Node.{Node}

-- nodes in order, with their spans
pub record ArenaData (L U B M : Type 0) : Type 0 where
  pub nodes : List (Node L U B M)
  pub spans : List Span
