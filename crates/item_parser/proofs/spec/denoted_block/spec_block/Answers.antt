use Rattle.std.proofs.Common.{refl, subst, rules}
use Rattle.item_parser.specs.DenotedBlocks.{IsCause}
use Rattle.syntax_tree.specs.DenotedClauses.{IsSpecBlockOf}
use Rattle.item_parser.proofs.DenotedBlockLemmas.{read_is_spec_block, cause_is_known}
use Rattle.item_parser.proofs.spec.denoted_block.spec_block.Goals as goal

pub returns-in-Ok-clause-denoted : goal.returns-in-Ok-clause-denoted
returns-in-Ok-clause-denoted c = subst (IsSpecBlockOf c.args.slot c.in-Ok.block) (search rules) (read_is_spec_block _ _ _ _ c.in-Ok.ensures)

pub returns-in-Err-clause-refused : goal.returns-in-Err-clause-refused
returns-in-Err-clause-refused c = subst (λ ts. IsCause c.args.slot ts c.explain.result) (search rules) (cause_is_known _ _ _ _ _ refl c.in-Err.ensures c.explain.ensures)
