use Rattle.std.proofs.Common.{◌≡◌, None, Some, cond, ap, ◌∙◌, rules}
use Rattle.std.specs.Option.{option_or}
use Rattle.base.specs.Names.{same_name}
use Rattle.sum_module.specs.Parameters.{parameters_at, names_of}
use Rattle.sum_module.proofs.TableLemmas.{is_added}
use Rattle.sum_module.proofs.parameters.add_function.Goals as goal

pub returns-in_ok-insert-in-None : goal.returns-in_ok-insert-in-None
returns-in_ok-insert-in-None c = λ name.
    let old = parameters_at c.args.table.now name in
    let key : c.in_ok-try_clone-in-None.field-0 ≡ c.args.function.now.name.text = search rules in
    let names : c.in_ok-names-in-None.names ≡ names_of c.args.function.now.inputs.items = search rules in
    let none : parameters_at c.args.table.now c.args.function.now.name.text ≡ None = search rules in
    is_added c.args.table.now c.insert.new.self c.in_ok-try_clone-in-None.field-0 c.in_ok-names-in-None.names (ap (parameters_at c.args.table.now) key ∙ none) c.in_ok-insert-in-None.ensures.updates.0 name
    ∙ ap (λ k. option_or old (cond (same_name name k) (Some c.in_ok-names-in-None.names) None)) key
    ∙ ap (λ ns. option_or old (cond (same_name name c.args.function.now.name.text) (Some ns) None)) names
