use Rattle.std.proofs.Common.{refl, sym, ap, ◌∙◌, subst, ℕ, List, ◌∷◌, ◌++◌, []}
use Rattle.std.specs.Global.{Vec}
use Rattle.linear_arith.specs.Stages.{AreParted, AreWhole, unknowns_of}
use Rattle.linear_arith.specs.declared.elimination.Stage.{Stage}
use Rattle.linear_arith.proofs.WholeLemmas.{stages_next}
use Rattle.linear_arith.proofs.GrowthLemmas.{HaveSums, caught_up_next, stage_left}
use Rattle.linear_arith.proofs.StageLemmas.{under_way_kept}
use Rattle.linear_arith.proofs.elimination.Elimination.eliminate.Goals as goal

pub add_sums-requires-clause-under_way : goal.add_sums-requires-clause-under_way
add_sums-requires-clause-under_way c = c.in_ok-stage.ensures.under_way c.args.system.now.width c.args.system.now.rows.now c.requires.under_way

pub add_sums-requires-clause-before : goal.add_sums-requires-clause-before
add_sums-requires-clause-before c =
    let system = c.args.system.now in
    let e = c.in_ok-stage.ensures in
    let u = c.requires.under_way in
    stage_left system.width system.rows.now c.args.unknown c.in_ok-stage.stage c.args.self.now c.split.new.self u c.requires.caught_up (e.under_way system.width system.rows.now u) (e.stage system.width system.rows.now u) e.unknown e.parted e.found e.unknowns

pub returns-clause-ok : goal.returns-clause-ok
returns-clause-ok c =
    let system = c.args.system.now in
    let stage = c.in_ok-stage.ensures.stage system.width system.rows.now c.requires.under_way in
    under_way_kept system.width system.rows.now c.args.self.now.unknowns.items c.in_ok-stage.stage c.add_sums.new.self _ c.in_ok-add_sums.ensures.ok stage refl refl refl refl c.in_ok-push.ensures.items

pub returns-clause-caught_up : goal.returns-clause-caught_up
returns-clause-caught_up c =
    let system = c.args.system.now in
    let stage = c.in_ok-stage.stage in
    let e = c.in_ok-stage.ensures in
    let new = c.add_sums.new.self in
    let sums : HaveSums new.found c.args.unknown stage.upper.items stage.lower.items = subst (λ (n : ℕ). HaveSums new.found n stage.upper.items stage.lower.items) e.unknown c.in_ok-add_sums.ensures.sums in
    let done = caught_up_next system.width system.rows.now c.args.unknown stage.upper.items stage.lower.items c.args.self.now c.split.new.self new c.requires.under_way c.requires.caught_up c.requires.below c.requires.left e.parted e.found e.unknowns c.in_ok-add_sums.ensures.grown sums in
    record { begins = done.begins; keeps = done.keeps; closed = done.closed; below = done.below; different = done.different }

pub returns-clause-unknowns : goal.returns-clause-unknowns
returns-clause-unknowns c = c.in_ok-add_sums.ensures.grown.unknowns ∙ c.in_ok-stage.ensures.unknowns

pub returns-clause-stages : goal.returns-clause-stages
returns-clause-stages c =
    let system = c.args.system.now in
    let stage = c.in_ok-stage.stage in
    let e = c.in_ok-stage.ensures in
    let new = c.add_sums.new.self in
    let grown = c.in_ok-add_sums.ensures.grown in
    let stages = grown.stages ∙ ap (λ (ss : Vec Stage). ss.items) e.stages in
    let parted = subst (λ (n : ℕ). AreParted n c.args.self.now.live.items stage.upper.items stage.lower.items c.split.new.self.live.items) (sym e.unknown) e.parted in
    let unknowns = e.unknowns ∙ ap (λ (n : ℕ). c.args.self.now.unknowns.items ++ n ∷ []) (sym e.unknown) in
    let done = stages_next system.width system.rows.now stage c.args.self.now c.split.new.self new c.requires.under_way c.requires.caught_up c.requires.stages parted e.found unknowns stages grown c.in_ok-add_sums.ensures.sums in
    record {
      whole = subst (λ (ss : List Stage). AreWhole new.found ss) (sym c.in_ok-push.ensures.items) done.0;
      unknowns = ap unknowns_of c.in_ok-push.ensures.items ∙ done.1;
    }
