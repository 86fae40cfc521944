use Rattle.std.proofs.Common.{take}
use Rattle.syntax_tree.specs.FunctionNames.{function_names}
use Rattle.base.specs.Names.{IsSetOf}
use Rattle.item_parser.proofs.source.functions.function_names.Given as goal

abbrev pub invariant-loop-member : goal.invariant-loop-member
invariant-loop-member l = IsSetOf l.names (function_names (take l.member-index l.members))
