use Rattle.ematching.proofs.JoinLemmas.{on_ok, added_value, no_value}
use Rattle.ematching.proofs.joins.add_value.Goals as goal

pub returns-in-Some : goal.returns-in-Some
returns-in-Some c = on_ok c.insert.result (λ h. added_value c.args.values.now c.args.wanted.number c.in-Some.value c.args.found.now c.insert.new.self c.in-Some.ensures h) c.insert.ensures

pub returns-in-None : goal.returns-in-None
returns-in-None c = no_value c.args.values.now c.args.wanted.number c.args.found.now c.args.found.now c.in-None.ensures
