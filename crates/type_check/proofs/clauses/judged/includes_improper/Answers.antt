use Rattle.std.proofs.Common.{sym, ◌∙◌, ap, List}
use Rattle.std.specs.List.{list_all}
use Rattle.program.specs.declared.declaration.TypedName.{TypedName}
use Rattle.typing_rules.specs.ProperTypes.{is_proper_single}
use Rattle.type_check.proofs.Judging.{improper_if, not_improper}
use Rattle.type_check.proofs.clauses.judged.includes_improper.Goals as goal

pub returns-in-Some : goal.returns-in-Some
returns-in-Some c =
    improper_if c.args.program.now c.args.form.now c.in-Include.schema c.in-Include.types c.in-Include.given c.in-Some.declared.now c.are_proper.result c.in-Include.is c.in-Some.ensures
    (c.are_proper.ensures ∙ ap (λ (vs : List TypedName). list_all (λ v. is_proper_single c.args.program.now.structs v.annotation) vs) c.as_slice.ensures)

pub returns-in-None : goal.returns-in-None
returns-in-None c = not_improper c.args.program.now c.args.form.now c.in-Include.schema c.in-Include.types c.in-Include.given c.in-Include.is (sym c.in-None.ensures)
