use Rattle.body_types.proofs.Steps.{a_typing, no_typing, says_none, says_some}
use Rattle.body_types.proofs.barred_uses.known.is_known.Goals as goal

pub returns-in-None : goal.returns-in-None
returns-in-None c s says = no_typing s (says_none s _ c.in-None.is says)

pub returns-in-Some : goal.returns-in-Some
returns-in-Some c s says = a_typing s _ (says_some s _ _ c.in-Some.is says)
