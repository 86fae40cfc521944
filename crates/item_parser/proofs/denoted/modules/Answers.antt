use Rattle.std.proofs.Common.{refl, subst, rules}
use Rattle.item_parser.specs.Denoted.{IsCause}
use Rattle.syntax_tree.specs.DenotedFiles.{IsFileOf}
use Rattle.item_parser.proofs.DenotedLemmas.{read_is_file, cause_is_known}
use Rattle.item_parser.proofs.denoted.modules.Goals as goal

pub returns-in-Ok-clause-denoted : goal.returns-in-Ok-clause-denoted
returns-in-Ok-clause-denoted c = subst (IsFileOf c.in-Ok.file) (search rules) (read_is_file _ _ _ c.in-Ok.ensures)

pub returns-in-Err-clause-refused : goal.returns-in-Err-clause-refused
returns-in-Err-clause-refused c = subst (λ ts. IsCause ts c.explain.result) (search rules) (cause_is_known _ _ _ _ refl c.in-Err.ensures c.explain.ensures)
