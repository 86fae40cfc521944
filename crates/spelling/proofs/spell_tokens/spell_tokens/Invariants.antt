use Rattle.std.proofs.Common.{◌≡◌, ◌++◌, take, map}
use Rattle.syntax_tree.specs.SpecTokenSpelling.{kept}
use Rattle.spelling.proofs.spell_tokens.spell_tokens.Given as goal

abbrev pub invariant-loop-token : goal.invariant-loop-token
invariant-loop-token l = l.into ≡ l.initial.into ++ map kept (take l.token-index l.tokens)
