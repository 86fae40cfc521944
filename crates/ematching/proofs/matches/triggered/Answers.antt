use Rattle.std.proofs.Common.{ℕ, List, ◌∷◌, inl, refl, sym, subst}
use Rattle.std.specs.Prelude.{Contains}
use Rattle.tableau.specs.PoolBranches.{branch_in}
use Rattle.certificates.specs.Match.{IsTriggered, bound_in}
use Rattle.ematching.specs.Numbers.{term_at, terms_at, formula_at}
use Rattle.ematching.specs.Matches.{AreAdded}
use Rattle.ematching.proofs.ListLemmas.{contains_among}
use Rattle.ematching.proofs.TriggerLemmas.{triggers_begun, triggers_more, triggers_done}
use Rattle.ematching.proofs.matches.triggered.Goals as goal

pub loop-trigger-init : goal.loop-trigger-init
loop-trigger-init c = triggers_begun c.args.pool.now (branch_in c.args.pool.now c.args.branch.now) c.in_ok-bound.bound.items c.args.universal.variable c.args.given c.args.universal.triggers c.args.found.now c.args.found.now refl c.requires.triggers

pub loop-trigger-smaller : goal.loop-trigger-smaller
loop-trigger-smaller c = c.in-Some.ensures.earlier

pub triggered_by-requires : goal.triggered_by-requires
triggered_by-requires c =
    let all = c.args.universal.variable ∷ bound_in (formula_at c.args.pool.now c.args.universal.body) in
    let has : Contains all c.args.universal.variable = contains_among all c.args.universal.variable (inl refl) in
    record {
      over = c.requires.over;
      index = c.requires.index;
      bound = subst (λ (xs : List ℕ). Contains xs c.args.universal.variable) (sym c.as_slice.ensures.value) ((c.in_ok-bound.ensures.all c.args.universal.variable).1 has);
      trigger = c.in-Some.ensures.first;
      given = c.requires.given;
    }

pub loop-trigger-preserved : goal.loop-trigger-preserved
loop-trigger-preserved c = triggers_more c.args.pool.now (branch_in c.args.pool.now c.args.branch.now) c.in_ok-bound.bound.items c.args.universal.variable c.args.given c.args.universal.triggers c.args.found.now c.loop-trigger.triggers c.loop-trigger.found c.triggered_by.new.found (c.in-Some.trigger, c.in-Some.rest) c.loop-trigger.invariant c.in-Some.ensures (subst (λ (xs : List ℕ). AreAdded c.args.pool.now c.args.given (λ v. IsTriggered (branch_in c.args.pool.now c.args.branch.now) xs c.args.universal.variable (term_at c.args.pool.now v) (terms_at c.args.pool.now c.in-Some.trigger)) c.loop-trigger.found c.triggered_by.new.found) c.as_slice.ensures.value c.in_ok-triggered_by.ensures)

pub returns : goal.returns
returns c = triggers_done c.args.pool.now (branch_in c.args.pool.now c.args.branch.now) c.in_ok-bound.bound.items c.args.universal.variable c.args.universal.body c.args.given c.args.universal.triggers c.args.found.now c.loop-trigger.triggers c.loop-trigger.found c.in_ok-bound.ensures c.loop-trigger.invariant c.in_default.ensures
