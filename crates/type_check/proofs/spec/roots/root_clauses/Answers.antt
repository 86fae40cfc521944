use Rattle.std.proofs.Common.{List, ◌++◌, ◌∙◌, ap}
use Rattle.type_check.specs.declared.clauses.judged.JudgedClause.{JudgedClause}
use Rattle.type_check.proofs.RootLaws.{all_roots}
use Rattle.type_check.proofs.spec.roots.root_clauses.Goals as goal

pub returns : goal.returns
returns c =
    all_roots c.args.program.now c.in_ok-roots.roots.items c.in_ok-of_structs.of_structs.items c.in_ok-of_modules.of_modules.items _ c.in_ok-roots.ensures c.in_ok-of_structs.ensures c.in_ok-of_modules.ensures
    (c.in_ok-append-2.ensures.items ∙ ap (λ (js : List JudgedClause). js ++ c.in_ok-of_modules.of_modules.items) c.in_ok-append.ensures.items)
