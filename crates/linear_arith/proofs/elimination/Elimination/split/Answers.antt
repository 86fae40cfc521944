use Rattle.std.proofs.Common.{rules, refl, ◌≡◌, pos, ◌<ℤ◌, ap, sym, ◌∙◌, FitsSigned, subst, arith, ℕ, ℤ, ◌∷◌, ◌++◌, []}
use Rattle.std.specs.Int.{w128}
use Rattle.std.proofs.lemmas.Int.{ints}
use Rattle.std.specs.Global.{Vec}
use Rattle.linear_arith.specs.declared.elimination.Stage.{Stage}
use Rattle.linear_arith.specs.Inequality.{coefficient}
use Rattle.linear_arith.proofs.StageLemmas.{head_derived, tail_derived, stage_with_upper, stage_with_lower, kept_derived, live_with, under_way_next}
use Rattle.linear_arith.specs.declared.elimination.Derived.{Derived}
use Rattle.linear_arith.proofs.ClosureLemmas.{not_zero_above, not_zero_below, not_both}
use Rattle.linear_arith.proofs.GrowthLemmas.{moved, not_moved, all_moved, from_with, first_from, rest_from}
use Rattle.linear_arith.proofs.elimination.Elimination.split.Goals as goal

pub loop-made-preserved-in-Continue-branch-2 : goal.loop-made-preserved-in-Continue-branch-2
loop-made-preserved-in-Continue-branch-2 c =
    let inv = c.loop-made.invariant in
    let us = c.args.self.now.unknowns.items in
    let made = c.in-Some.made in
    let live = c.args.self.now.live.items in
    let s = c.in-Some.ensures.steps.0 in
    let f : FitsSigned w128 c.coefficient-coefficient.result = search rules in
    let sign : pos 0 <ℤ c.coefficient-coefficient.result = omega (arith, ints) in
    let at : pos 0 <ℤ coefficient c.args.unknown made.total = subst (λ (z : ℤ). pos 0 <ℤ z) c.coefficient-coefficient.ensures sign in
    record {
      unknown = inv.unknown;
      unknowns = inv.unknowns;
      found = inv.found;
      keys = inv.keys;
      stages = inv.stages;
      rest = λ width rows u. tail_derived width rows us _ _ made (inv.rest width rows u) s;
      stage = λ width rows u. stage_with_upper width rows us c.loop-made.stage _ made (inv.stage width rows u) (head_derived width rows us _ _ made (inv.rest width rows u) s) (subst (λ (n : ℕ). pos 0 <ℤ coefficient n made.total) (sym inv.unknown) at) refl c.in_ok-push-2.ensures.items refl;
      live = inv.live;
      upper = λ x h a. moved _ _ _ _ made x s c.in_ok-push-2.ensures.items (inv.upper x h a);
      lower = λ x h a. not_moved _ _ _ made x s (λ e. not_both (coefficient c.args.unknown made.total) at (subst (λ (m : Derived). coefficient c.args.unknown m.total <ℤ pos 0) (sym e) a)) (inv.lower x h a);
      other = λ x h a. not_moved _ _ _ made x s (λ e. not_zero_above (coefficient c.args.unknown made.total) (ap (λ (m : Derived). coefficient c.args.unknown m.total) e ∙ a) at) (inv.other x h a);
      rest_from = rest_from live _ _ made s inv.rest_from;
      upper_from = from_with live _ _ made c.in_ok-push-2.ensures.items inv.upper_from (first_from live _ _ made s inv.rest_from);
      lower_from = inv.lower_from;
      other_from = inv.other_from;
    }

pub loop-made-preserved-in-Continue-branch-3 : goal.loop-made-preserved-in-Continue-branch-3
loop-made-preserved-in-Continue-branch-3 c =
    let inv = c.loop-made.invariant in
    let us = c.args.self.now.unknowns.items in
    let made = c.in-Some.made in
    let live = c.args.self.now.live.items in
    let s = c.in-Some.ensures.steps.0 in
    let f : FitsSigned w128 c.coefficient-coefficient.result = search rules in
    let sign : c.coefficient-coefficient.result <ℤ pos 0 = omega (arith, ints) in
    let at : coefficient c.args.unknown made.total <ℤ pos 0 = subst (λ (z : ℤ). z <ℤ pos 0) c.coefficient-coefficient.ensures sign in
    record {
      unknown = inv.unknown;
      unknowns = inv.unknowns;
      found = inv.found;
      keys = inv.keys;
      stages = inv.stages;
      rest = λ width rows u. tail_derived width rows us _ _ made (inv.rest width rows u) s;
      stage = λ width rows u. stage_with_lower width rows us c.loop-made.stage _ made (inv.stage width rows u) (head_derived width rows us _ _ made (inv.rest width rows u) s) (subst (λ (n : ℕ). coefficient n made.total <ℤ pos 0) (sym inv.unknown) at) refl refl c.in_ok-push-3.ensures.items;
      live = inv.live;
      upper = λ x h a. not_moved _ _ _ made x s (λ e. not_both (coefficient c.args.unknown made.total) (subst (λ (m : Derived). pos 0 <ℤ coefficient c.args.unknown m.total) (sym e) a) at) (inv.upper x h a);
      lower = λ x h a. moved _ _ _ _ made x s c.in_ok-push-3.ensures.items (inv.lower x h a);
      other = λ x h a. not_moved _ _ _ made x s (λ e. not_zero_below (coefficient c.args.unknown made.total) (ap (λ (m : Derived). coefficient c.args.unknown m.total) e ∙ a) at) (inv.other x h a);
      rest_from = rest_from live _ _ made s inv.rest_from;
      upper_from = inv.upper_from;
      lower_from = from_with live _ _ made c.in_ok-push-3.ensures.items inv.lower_from (first_from live _ _ made s inv.rest_from);
      other_from = inv.other_from;
    }

pub loop-made-preserved : goal.loop-made-preserved
loop-made-preserved c =
    let inv = c.loop-made.invariant in
    let us = c.args.self.now.unknowns.items in
    let made = c.in-Some.made in
    let live = c.args.self.now.live.items in
    let s = c.in-Some.ensures.steps.0 in
    let f : FitsSigned w128 c.coefficient-coefficient.result = search rules in
    let none : c.coefficient-coefficient.result ≡ pos 0 = omega (arith, ints) in
    let at : coefficient c.args.unknown made.total ≡ pos 0 = sym c.coefficient-coefficient.ensures ∙ none in
    record {
      unknown = inv.unknown;
      unknowns = inv.unknowns;
      found = inv.found;
      keys = inv.keys;
      stages = inv.stages;
      rest = λ width rows u. tail_derived width rows us _ _ made (inv.rest width rows u) s;
      stage = inv.stage;
      live = λ width rows u. live_with width rows (us ++ c.args.unknown ∷ []) _ _ made (inv.live width rows u) (kept_derived width rows us c.args.unknown made (head_derived width rows us _ _ made (inv.rest width rows u) s) (sym c.coefficient-coefficient.ensures ∙ none)) c.in_ok-push-4.ensures.items;
      upper = λ x h a. not_moved _ _ _ made x s (λ e. not_zero_above (coefficient c.args.unknown x.total) (ap (λ (m : Derived). coefficient c.args.unknown m.total) (sym e) ∙ at) a) (inv.upper x h a);
      lower = λ x h a. not_moved _ _ _ made x s (λ e. not_zero_below (coefficient c.args.unknown x.total) (ap (λ (m : Derived). coefficient c.args.unknown m.total) (sym e) ∙ at) a) (inv.lower x h a);
      other = λ x h a. moved _ _ _ _ made x s c.in_ok-push-4.ensures.items (inv.other x h a);
      rest_from = rest_from live _ _ made s inv.rest_from;
      upper_from = inv.upper_from;
      lower_from = inv.lower_from;
      other_from = from_with live _ _ made c.in_ok-push-4.ensures.items inv.other_from (first_from live _ _ made s inv.rest_from);
    }

pub returns-clause-under_way : goal.returns-clause-under_way
returns-clause-under_way c = λ width rows u.
    let inv = c.loop-made.invariant in
    under_way_next width rows c.args.unknown c.args.self.now c.loop-made.self u inv.unknowns inv.found inv.keys (ap (λ (ss : Vec Stage). ss.items) inv.stages) (inv.live width rows u) inv.other_from

pub returns-clause-parted : goal.returns-clause-parted
returns-clause-parted c =
    let inv = c.loop-made.invariant in
    let empty = sym c.loop-made.made-iterator.rest.ok.0 ∙ c.in-None.ensures.steps.0 in
    record {
      upper = λ x h a. all_moved _ _ x empty (inv.upper x h a);
      lower = λ x h a. all_moved _ _ x empty (inv.lower x h a);
      other = λ x h a. all_moved _ _ x empty (inv.other x h a);
      upper_from = inv.upper_from;
      lower_from = inv.lower_from;
    }
