-- The effect of code on one local, over all paths through it: the states in which the local may be at its exits, and
-- the rules that it may break, by whether the local has a value before it.
use Rattle.std.specs.Prelude.{ℕ, Bool, true, false, not, ◌&&◌, ◌||◌, eqb, List, [], ◌∷◌}
use Rattle.typing_rules.specs.Events.{Event, Rule, Unassigned, Undropped, has_behind, is_broken}
use Rattle.typing_rules.specs.Flows.{Way, Onward, Broken, Continued, Returned, Flow, Happens, Jump, Aborts, Then, Either, Turns, Scope, At}

pub record LocalEffect : Type 0 where
  -- some path on which the local has a value before, or none, exits the code in this way, and then the local has a
  -- value, or none
  pub ends : Bool → Way → Bool → Bool
  pub broken : Rule → Bool → Bool

abbrev pub same : Bool → Bool → Bool
same true b = b
same false b = not b

abbrev pub is_onward : Way → Bool
is_onward Onward = true
is_onward Broken = false
is_onward Continued = false
is_onward Returned = false

abbrev pub same_way : Way → Way → Bool
same_way Onward Onward = true
same_way Broken Broken = true
same_way Continued Continued = true
same_way Returned Returned = true
same_way _ _ = false

abbrev pub is_undropped : Rule → Bool
is_undropped Unassigned = false
is_undropped Undropped = true

abbrev pub is_among : ℕ → List ℕ → Bool
is_among l [] = false
is_among l (m ∷ ms) = eqb m l || is_among l ms

-- a property of some state in which the local may be
abbrev pub at_some : (Bool → Bool) → (Bool → Bool) → Bool
at_some may holds = (may false && holds false) || (may true && holds true)

-- ---- effects

abbrev pub happens_of : ℕ → List Event → LocalEffect
happens_of l es = record {
  ends = λ had way has. is_onward way && same (has_behind l had es) has;
  broken = λ rule had. is_broken rule l had es;
}

-- One step: whether the local gets a value, loses its value, must have one, or has its value left behind.

abbrev pub stepped : Bool → Bool → Bool → Bool
stepped gains loses false = gains
stepped gains loses true = not loses

abbrev pub step_broken : Bool → Bool → Rule → Bool → Bool
step_broken needs leaves Unassigned had = not had && needs
step_broken needs leaves Undropped had = had && leaves

abbrev pub step_of : Bool → Bool → Bool → Bool → LocalEffect
step_of gains loses needs leaves = record {
  ends = λ had way has. is_onward way && same (stepped gains loses had) has;
  broken = step_broken needs leaves;
}

abbrev pub jump_of : Way → LocalEffect
jump_of way = record { ends = λ had w has. same_way way w && same had has; broken = λ rule had. false }

abbrev pub over : LocalEffect
over = record { ends = λ had way has. false; broken = λ rule had. false }

abbrev pub then_of : LocalEffect → LocalEffect → LocalEffect
then_of e f = record {
  ends = λ had way has. (not (is_onward way) && e.ends had way has) || at_some (e.ends had Onward) (λ state. f.ends state way has);
  broken = λ rule had. e.broken rule had || at_some (e.ends had Onward) (f.broken rule);
}

abbrev pub either_of : LocalEffect → LocalEffect → LocalEffect
either_of e f = record {
  ends = λ had way has. e.ends had way has || f.ends had way has;
  broken = λ rule had. e.broken rule had || f.broken rule had;
}

abbrev pub to_next_of : LocalEffect → LocalEffect
to_next_of e = record {
  ends = λ had way has. is_onward way && (e.ends had Onward has || e.ends had Continued has);
  broken = e.broken;
}

abbrev pub out_ends : LocalEffect → Bool → Way → Bool → Bool
out_ends e had Onward has = e.ends had Broken has
out_ends e had Broken has = false
out_ends e had Continued has = false
out_ends e had Returned has = e.ends had Returned has

abbrev pub to_out_of : LocalEffect → LocalEffect
to_out_of e = record { ends = out_ends e; broken = e.broken }

-- the states at the start of an iteration: that before the loop, and those after one iteration, which suffice as there
-- are just two
abbrev pub reached : LocalEffect → LocalEffect → Bool → Bool → Bool
reached e f had state = same had state || (then_of e (to_next_of f)).ends had Onward state

abbrev pub turns_of : LocalEffect → LocalEffect → LocalEffect
turns_of e f = record {
  ends = λ had way has. at_some (reached e f had) (λ state. (then_of e (to_out_of f)).ends state way has);
  broken = λ rule had. at_some (reached e f had) ((then_of e (to_out_of f)).broken rule);
}

-- some path exits the code with a value
abbrev pub may_keep : LocalEffect → Bool → Bool
may_keep e had = (e.ends had Onward true || e.ends had Broken true) || (e.ends had Continued true || e.ends had Returned true)

-- the local ends with the code
abbrev pub scope_of : Bool → LocalEffect → LocalEffect
scope_of member e = record {
  ends = λ had way has. at_some (e.ends had way) (λ state. same (state && not member) has);
  broken = λ rule had. e.broken rule had || (is_undropped rule && (member && may_keep e had));
}

abbrev pub effect_of : ℕ → Flow → LocalEffect
effect_of l (Happens es) = happens_of l es
effect_of l (Jump way) = jump_of way
effect_of l Aborts = over
effect_of l (Then f g) = then_of (effect_of l f) (effect_of l g)
effect_of l (Either f g) = either_of (effect_of l f) (effect_of l g)
effect_of l (Turns f g) = turns_of (effect_of l f) (effect_of l g)
effect_of l (Scope locals f) = scope_of (is_among l locals) (effect_of l f)
effect_of l (At n f) = effect_of l f
