use Rattle.std.proofs.Common.{◌≡◌, false, inr, sym, ap, ◌∙◌, subst, refl}
use Rattle.std.specs.Prelude.{MatchOption}
use Rattle.term_pool.specs.Pools.{item_at}
use Rattle.tableau.specs.PoolBranches.{branch_in}
use Rattle.ematching.specs.Numbers.{AreAll, terms_at}
use Rattle.ematching.specs.Walks.{free_in_item, IsFreeAt}
use Rattle.ematching.specs.Rows.{IsRow, patterns_in}
use Rattle.ematching.proofs.FreeLemmas.{terms_free}
use Rattle.ematching.proofs.RowLemmas.{all_numbered}
use Rattle.ematching.proofs.JoinLemmas.{on_ok}
use Rattle.ematching.proofs.TriggerLemmas.{not_free, by_join, ready_terms}
use Rattle.ematching.proofs.matches.triggered_by.Goals as goal

pub returns-in_default : goal.returns-in_default
returns-in_default c = not_free c.args.pool.now (branch_in c.args.pool.now c.args.branch.now) c.args.bound.now c.args.variable c.args.given (terms_at c.args.pool.now c.args.trigger) (sym (terms_free c.args.variable (item_at c.args.pool.now c.args.trigger) c.requires.trigger.sort) ∙ (subst (λ o. MatchOption o (free_in_item c.args.variable (item_at c.args.pool.now c.args.trigger) ≡ false) (IsFreeAt c.args.pool.now c.args.variable c.args.trigger)) c.in_default.is c.in_ok-position.ensures)) c.args.found.now c.args.found.now refl

pub begun-requires : goal.begun-requires
begun-requires c = record { wanted = record { number = (subst (λ o. MatchOption o (free_in_item c.args.variable (item_at c.args.pool.now c.args.trigger) ≡ false) (IsFreeAt c.args.pool.now c.args.variable c.args.trigger)) c.in-Some.is c.in_ok-position.ensures).is; is_bound = c.requires.bound }; given = c.requires.given }

pub join-requires : goal.join-requires
join-requires c = record {
  wanted = record { number = (subst (λ o. MatchOption o (free_in_item c.args.variable (item_at c.args.pool.now c.args.trigger) ≡ false) (IsFreeAt c.args.pool.now c.args.variable c.args.trigger)) c.in-Some.is c.in_ok-position.ensures).is; is_bound = c.requires.bound };
  rows = all_numbered c.args.pool.now (branch_in c.args.pool.now c.args.branch.now) c.args.bound.now c.as_slice.result.now (subst (AreAll (IsRow c.args.pool.now (branch_in c.args.pool.now c.args.branch.now) c.args.bound.now)) (sym c.as_slice.ensures.value) c.in_ok-rows.ensures.each);
  filling = c.in_ok-values.ensures.filling;
  ready = inr (ready_terms c.args.pool.now (branch_in c.args.pool.now c.args.branch.now) c.args.bound.now c.args.variable c.args.given (terms_at c.args.pool.now c.args.trigger) (patterns_in c.args.pool.now c.as_slice.result.now) (ap (patterns_in c.args.pool.now) c.as_slice.ensures.value ∙ c.in_ok-rows.ensures.are) (sym (terms_free c.args.variable (item_at c.args.pool.now c.args.trigger) c.requires.trigger.sort) ∙ (subst (λ o. MatchOption o (free_in_item c.args.variable (item_at c.args.pool.now c.args.trigger) ≡ false) (IsFreeAt c.args.pool.now c.args.variable c.args.trigger)) c.in-Some.is c.in_ok-position.ensures).free));
}

pub returns : goal.returns
returns c = on_ok c.join.result (λ h. by_join c.args.pool.now (branch_in c.args.pool.now c.args.branch.now) c.args.bound.now c.args.variable c.args.given (terms_at c.args.pool.now c.args.trigger) (sym (terms_free c.args.variable (item_at c.args.pool.now c.args.trigger) c.requires.trigger.sort) ∙ (subst (λ o. MatchOption o (free_in_item c.args.variable (item_at c.args.pool.now c.args.trigger) ≡ false) (IsFreeAt c.args.pool.now c.args.variable c.args.trigger)) c.in-Some.is c.in_ok-position.ensures).free) c.in_ok-values.values c.in_ok-values.ensures (patterns_in c.args.pool.now c.as_slice.result.now) (ap (patterns_in c.args.pool.now) c.as_slice.ensures.value ∙ c.in_ok-rows.ensures.are) c.args.found.now c.join.new.found (h (branch_in c.args.pool.now c.args.branch.now) (subst (AreAll (IsRow c.args.pool.now (branch_in c.args.pool.now c.args.branch.now) c.args.bound.now)) (sym c.as_slice.ensures.value) c.in_ok-rows.ensures.each))) c.join.ensures.joined
