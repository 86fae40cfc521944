-- The control flow of code, with the events of locals. Source: The Move Book, "Conditionals and Loops", "Abort and
-- Assert", "Functions", on return.
use Rattle.std.specs.Prelude.{ℕ, List, []}
use Rattle.typing_rules.specs.Events.{Event}

-- how a path exits a piece of code: at its end, or by `break`, `continue` or `return`
pub data Way : Type 0 where
  Onward : Way
  Broken : Way
  Continued : Way
  Returned : Way

pub data Flow : Type 0 where
  -- these events, one after another
  Happens : List Event → Flow
  Jump : Way → Flow
  Aborts : Flow
  Then : Flow → Flow → Flow
  Either : Flow → Flow → Flow
  -- a loop: each iteration runs the first and then the second, whose `break` and `continue` belong to this loop
  Turns : Flow → Flow → Flow
  -- a block, at whose end these locals end
  Scope : List ℕ → Flow → Flow
  -- the code of the node with this number
  At : ℕ → Flow → Flow

-- nothing happens
abbrev pub quiet : Flow
quiet = Happens []
