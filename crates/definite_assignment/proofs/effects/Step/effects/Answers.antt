use Rattle.std.proofs.Common.{Bool, true, false, not, ◌&&◌, refl, sym, ap, ◌∙◌}
use Rattle.typing_rules.specs.Events.{Unassigned, Undropped}
use Rattle.typing_rules.specs.Flows.{Onward, Broken, Continued, Returned}
use Rattle.definite_assignment.specs.Sets.{has}
use Rattle.definite_assignment.proofs.StateLaws.{same_false, same_with_true, not_not}
use Rattle.definite_assignment.proofs.effects.Step.effects.Goals as goal

pub returns-clause-ends : goal.returns-clause-ends
returns-clause-ends c i false Onward false h = c.without.ensures i h ∙ ap (λ (x : Bool). x && not (has c.args.self.gains i)) (c.all-all.ensures i h) ∙ sym (same_false (has c.args.self.gains i))
returns-clause-ends c i false Onward true h = sym (same_with_true (has c.args.self.gains i))
returns-clause-ends c i true Onward false h = not_not (has c.args.self.loses i) ∙ sym (same_false (not (has c.args.self.loses i)))
returns-clause-ends c i true Onward true h = c.without-2.ensures i h ∙ ap (λ (x : Bool). x && not (has c.args.self.loses i)) (c.all-all.ensures i h) ∙ sym (same_with_true (not (has c.args.self.loses i)))
returns-clause-ends c i false Broken state h = c.none-none.ensures.ends i Broken state
returns-clause-ends c i false Continued state h = c.none-none.ensures.ends i Continued state
returns-clause-ends c i false Returned state h = c.none-none.ensures.ends i Returned state
returns-clause-ends c i true Broken state h = c.none-none.ensures.ends i Broken state
returns-clause-ends c i true Continued state h = c.none-none.ensures.ends i Continued state
returns-clause-ends c i true Returned state h = c.none-none.ensures.ends i Returned state

pub returns-clause-broken : goal.returns-clause-broken
returns-clause-broken c i false Unassigned h = refl
returns-clause-broken c i false Undropped h = c.none-none.ensures.broken i Undropped
returns-clause-broken c i true Unassigned h = c.none-none.ensures.broken i Unassigned
returns-clause-broken c i true Undropped h = refl
