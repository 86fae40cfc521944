-- The effect of code on a local is that of the paths through the code.
use Rattle.std.proofs.Common.{ℕ}
use Rattle.typing_rules.specs.Flows.{Flow, Happens, Jump, Aborts, Then, Either, Turns, Scope, At}
use Rattle.typing_rules.specs.Paths.{Goes}
use Rattle.definite_assignment.specs.LocalEffects.{effect_of}
use Rattle.definite_assignment.proofs.Fitting.{Ends, Breaks, ends_then, breaks_then}
use Rattle.definite_assignment.proofs.Fitted.{ends_happens, breaks_happens, ends_jump, breaks_jump, ends_over, breaks_over, ends_either, breaks_either, ends_node, breaks_node, ends_scope, breaks_scope}
use Rattle.definite_assignment.proofs.Turning.{ends_turns, breaks_turns}

pub record Fits (l : ℕ) (flow : Flow) : Type 0 where
  pub ends : Ends l (effect_of l flow) (Goes flow)
  pub breaks : Breaks l (effect_of l flow) (Goes flow)

pub fits : (l : ℕ) (flow : Flow) → Fits l flow
fits l (Happens es) = record { ends = ends_happens l es; breaks = breaks_happens l es }
fits l (Jump way) = record { ends = ends_jump l way; breaks = breaks_jump l way }
fits l Aborts = record { ends = ends_over l; breaks = breaks_over l }
fits l (Then f g) =
    let p = fits l f in
    let q = fits l g in
    record {
      ends = ends_then l (effect_of l f) (effect_of l g) (Goes f) (Goes g) p.ends q.ends;
      breaks = breaks_then l (effect_of l f) (effect_of l g) (Goes f) (Goes g) p.ends p.breaks q.breaks;
    }
fits l (Either f g) =
    let p = fits l f in
    let q = fits l g in
    record {
      ends = ends_either l (effect_of l f) (effect_of l g) (Goes f) (Goes g) p.ends q.ends;
      breaks = breaks_either l (effect_of l f) (effect_of l g) (Goes f) (Goes g) p.breaks q.breaks;
    }
fits l (Turns f g) =
    let p = fits l f in
    let q = fits l g in
    record {
      ends = ends_turns l (effect_of l f) (effect_of l g) (Goes f) (Goes g) p.ends p.breaks q.ends q.breaks;
      breaks = breaks_turns l (effect_of l f) (effect_of l g) (Goes f) (Goes g) p.ends p.breaks q.ends q.breaks;
    }
fits l (Scope locals f) =
    let p = fits l f in
    record {
      ends = ends_scope l locals (effect_of l f) (Goes f) p.ends;
      breaks = breaks_scope l locals (effect_of l f) (Goes f) p.ends p.breaks;
    }
fits l (At n f) =
    let p = fits l f in
    record {
      ends = ends_node l n (effect_of l f) (Goes f) p.ends;
      breaks = breaks_node l n (effect_of l f) (Goes f) p.breaks;
    }
