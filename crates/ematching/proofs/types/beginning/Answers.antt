use Rattle.std.proofs.Common.{Some, sym, ap, ◌∙◌}
use Rattle.ematching.proofs.TypeLemmas.{lead_none, lead_formula, lead_list, lead_or}
use Rattle.ematching.proofs.types.beginning.Goals as goal

pub returns-in_default-lead_of : goal.returns-in_default-lead_of
returns-in_default-lead_of c = lead_none c.args.pool.now c.args.body c.in-Some.node c.in-Some.ensures c.requires (sym c.lead_of.ensures ∙ c.in_default-lead_of.is)

pub returns-in-Formula : goal.returns-in-Formula
returns-in-Formula c = lead_formula c.args.pool.now c.args.body c.in-Some.node c.in-Some.ensures c.in-Formula.first (sym c.lead_of.ensures ∙ c.in-Some-lead_of.is ∙ ap Some c.in-Formula.is)

pub first_or-requires : goal.first_or-requires
first_or-requires c = (lead_list c.args.pool.now c.args.body c.in-Some.node c.in-Some.ensures c.in-Listed.list (sym c.lead_of.ensures ∙ c.in-Some-lead_of.is ∙ ap Some c.in-Listed.is)).list

pub returns-in-Listed : goal.returns-in-Listed
returns-in-Listed c = lead_or c.args.pool.now c.args.body c.in-Some.node c.in-Some.ensures c.in-Listed.list c.first_or.result c.requires (sym c.lead_of.ensures ∙ c.in-Some-lead_of.is ∙ ap Some c.in-Listed.is) c.first_or.ensures
