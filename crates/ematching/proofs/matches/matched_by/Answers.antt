use Rattle.std.proofs.Common.{◌≡◌, false, sym, ◌∙◌, subst}
use Rattle.std.specs.Prelude.{MatchOption}
use Rattle.term_pool.specs.Pools.{item_at}
use Rattle.tableau.specs.PoolBranches.{branch_in}
use Rattle.ematching.specs.Walks.{free_in_item, IsFreeAt}
use Rattle.ematching.proofs.JoinLemmas.{on_ok}
use Rattle.ematching.proofs.TriggerLemmas.{triggers_free, matched_by_trigger, matched_by_type}
use Rattle.ematching.proofs.matches.matched_by.Goals as goal

pub returns-in-Some : goal.returns-in-Some
returns-in-Some c = on_ok c.triggered.result (λ h. matched_by_trigger c.args.pool.now (branch_in c.args.pool.now c.args.branch.now) c.args.universal c.args.given c.args.found.now c.triggered.new.found (sym (triggers_free c.args.universal.variable (item_at c.args.pool.now c.args.universal.triggers) c.requires.triggers.sort) ∙ (subst (λ o. MatchOption o (free_in_item c.args.universal.variable (item_at c.args.pool.now c.args.universal.triggers) ≡ false) (IsFreeAt c.args.pool.now c.args.universal.variable c.args.universal.triggers)) c.in-Some.is c.in_ok-position.ensures).free) h) c.triggered.ensures

pub returns-in-None : goal.returns-in-None
returns-in-None c = on_ok c.typed.result (λ h. matched_by_type c.args.pool.now (branch_in c.args.pool.now c.args.branch.now) c.args.universal c.args.given c.args.found.now c.typed.new.found (sym (triggers_free c.args.universal.variable (item_at c.args.pool.now c.args.universal.triggers) c.requires.triggers.sort) ∙ (subst (λ o. MatchOption o (free_in_item c.args.universal.variable (item_at c.args.pool.now c.args.universal.triggers) ≡ false) (IsFreeAt c.args.pool.now c.args.universal.variable c.args.universal.triggers)) c.in-None.is c.in_ok-position.ensures)) h) c.typed.ensures
