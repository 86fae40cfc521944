use Rattle.std.proofs.Common.{sym, ◌∙◌}
use Rattle.axiom_instances.proofs.ListLemmas.{adds_then, adds_as}
use Rattle.axiom_instances.proofs.NumberLemmas.{number_stays, term_number, whole_is}
use Rattle.axiom_instances.proofs.terms.ask_binary.Goals as goal

pub ask_whole-requires : goal.ask_whole-requires
ask_whole-requires c = number_stays c.ask_operator.ensures.extends (term_number c.requires.whole)

pub returns-in_ok-ask_whole-clause-adds : goal.returns-in_ok-ask_whole-clause-adds
returns-in_ok-ask_whole-clause-adds c =
    adds_then c.in_ok-ask_operator.ensures.adds (adds_as (whole_is c.ask_operator.ensures.extends c.requires (sym c.gives_whole.ensures ∙ c.if-gives_whole.true)) c.in_ok-ask_whole.ensures.adds)
