use Rattle.std.proofs.Common.{List, sym, ap, ◌∙◌, ◌++◌, ◌∷◌, [], subst}
use Rattle.tableau.specs.Logs.{change_of}
use Rattle.tableau.specs.declared.log.Change.{Change}
use Rattle.ematching.specs.Matches.{IsBegun, IsTermGiven}
use Rattle.ematching.proofs.TriggerLemmas.{begun_none, begun_some}
use Rattle.ematching.proofs.matches.begun.Goals as goal

pub returns-in_default : goal.returns-in_default
returns-in_default c = subst (λ g. IsBegun c.args.pool.now c.args.bound.now c.args.wanted.variable g c.new-values.result) (sym c.in_default.is) (begun_none c.args.pool.now c.args.bound.now c.args.wanted c.new-values.result c.new-values.ensures)

pub returns : goal.returns
returns c =
    let number = subst (IsTermGiven c.args.pool.now) c.in-Some.is c.requires.given in
    let log = c.in_ok-write.ensures ∙ ap (λ (vs : List Change). vs ++ change_of vs c.args.wanted.number c.in-Some.term ∷ []) c.new-values.ensures in
    subst (λ g. IsBegun c.args.pool.now c.args.bound.now c.args.wanted.variable g c.write.new.self) (sym c.in-Some.is) (begun_some c.args.pool.now c.args.bound.now c.args.wanted c.one_number.ensures c.requires.wanted c.in-Some.term number c.in-Some-node.field-0 c.in-Some-node.ensures c.write.new.self log)
