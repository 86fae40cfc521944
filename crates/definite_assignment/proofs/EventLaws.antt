-- The effect of events on a local, as one step.
use Rattle.std.proofs.Common.{◌≡◌, ℕ, ◌<◌, Bool, true, false, not, ◌&&◌, ◌||◌, eqb, List, [], ◌∷◌, ◌++◌, map, refl, sym, ap, ◌∙◌}
use Rattle.typing_rules.specs.Events.{Event, Declared, Assigned, Used, Moved, Overwritten, Rule, Unassigned, Undropped, has_behind, is_broken}
use Rattle.typing_rules.specs.Flows.{Way}
use Rattle.definite_assignment.specs.declared.sets.LocalSet.{LocalSet}
use Rattle.definite_assignment.specs.declared.effects.Effects.{Effects}
use Rattle.definite_assignment.specs.LocalEffects.{same, is_onward, is_among, happens_of, stepped, step_broken, step_of}
use Rattle.definite_assignment.specs.Sets.{has}
use Rattle.definite_assignment.specs.Views.{may, outcome_of, view, wrong}
use Rattle.definite_assignment.proofs.StateLaws.{effect_same}
use Rattle.definite_assignment.proofs.Fitting.{behind_append, broken_append}

pub or_false : (b : Bool) → (b || false) ≡ b
or_false true = refl
or_false false = refl

-- events that change and break the same as a step
step_from : (l : ℕ) (es : List Event) (g s n d : Bool) → ((had : Bool) → has_behind l had es ≡ stepped g s had) → ((rule : Rule) (had : Bool) → is_broken rule l had es ≡ step_broken n d rule had) → happens_of l es ≡ step_of g s n d
step_from l es g s n d h k = effect_same (happens_of l es) (step_of g s n d) (λ had way has. ap (λ b. is_onward way && same b has) (h had)) (λ had rule. k rule had)

kept : (had : Bool) → had ≡ stepped false false had
kept true = refl
kept false = refl

lost : (had e : Bool) → (had && not e) ≡ stepped false e had
lost true e = refl
lost false e = refl

given : (had e : Bool) → (had || e) ≡ stepped e false had
given true e = refl
given false e = refl

renewed : (had e : Bool) → ((had && not e) || e) ≡ stepped e false had
renewed true true = refl
renewed true false = refl
renewed false e = refl

never : (rule : Rule) (had : Bool) → false ≡ step_broken false false rule had
never Unassigned true = refl
never Unassigned false = refl
never Undropped true = refl
never Undropped false = refl

needed : (l m : ℕ) (rule : Rule) (had : Bool) → is_broken rule l had (Used m ∷ []) ≡ step_broken (eqb m l) false rule had
needed l m Unassigned true = refl
needed l m Unassigned false = or_false (eqb m l)
needed l m Undropped true = refl
needed l m Undropped false = refl

taken : (l m : ℕ) (rule : Rule) (had : Bool) → is_broken rule l had (Moved m ∷ []) ≡ step_broken (eqb m l) false rule had
taken l m Unassigned true = refl
taken l m Unassigned false = or_false (eqb m l)
taken l m Undropped true = refl
taken l m Undropped false = refl

replaced : (l m : ℕ) (rule : Rule) (had : Bool) → is_broken rule l had (Overwritten m ∷ Assigned m ∷ []) ≡ step_broken false (eqb m l) rule had
replaced l m Unassigned true = refl
replaced l m Unassigned false = refl
replaced l m Undropped true = or_false (eqb m l)
replaced l m Undropped false = refl

pub quiet_step : (l : ℕ) → happens_of l [] ≡ step_of false false false false
quiet_step l = step_from l [] false false false false kept never

pub used_step : (l m : ℕ) → happens_of l (Used m ∷ []) ≡ step_of false false (eqb m l) false
used_step l m = step_from l (Used m ∷ []) false false (eqb m l) false kept (needed l m)

pub moved_step : (l m : ℕ) → happens_of l (Moved m ∷ []) ≡ step_of false (eqb m l) (eqb m l) false
moved_step l m = step_from l (Moved m ∷ []) false (eqb m l) (eqb m l) false (λ had. lost had (eqb m l)) (taken l m)

pub overwritten_step : (l m : ℕ) → happens_of l (Overwritten m ∷ Assigned m ∷ []) ≡ step_of (eqb m l) false false (eqb m l)
overwritten_step l m = step_from l (Overwritten m ∷ Assigned m ∷ []) (eqb m l) false false (eqb m l) (λ had. given had (eqb m l)) (replaced l m)

not_both : (s a b : Bool) → ((s && not a) && not b) ≡ (s && not (a || b))
not_both true true b = refl
not_both true false b = refl
not_both false a b = refl

or_assoc : (x y z : Bool) → ((x || y) || z) ≡ (x || (y || z))
or_assoc true y z = refl
or_assoc false y z = refl

has_declared : (l : ℕ) (had : Bool) (ls : List ℕ) → has_behind l had (map Declared ls) ≡ (had && not (is_among l ls))
has_declared l true [] = refl
has_declared l false [] = refl
has_declared l had (m ∷ ls) = has_declared l (had && not (eqb m l)) ls ∙ not_both had (eqb m l) (is_among l ls)

has_assigned : (l : ℕ) (had : Bool) (ls : List ℕ) → has_behind l had (map Assigned ls) ≡ (had || is_among l ls)
has_assigned l had [] = sym (or_false had)
has_assigned l had (m ∷ ls) = has_assigned l (had || eqb m l) ls ∙ or_assoc had (eqb m l) (is_among l ls)

fine_declared : (rule : Rule) (l : ℕ) (had : Bool) (ls : List ℕ) → is_broken rule l had (map Declared ls) ≡ false
fine_declared rule l had [] = refl
fine_declared Unassigned l had (m ∷ ls) = fine_declared Unassigned l (had && not (eqb m l)) ls
fine_declared Undropped l had (m ∷ ls) = fine_declared Undropped l (had && not (eqb m l)) ls

fine_assigned : (rule : Rule) (l : ℕ) (had : Bool) (ls : List ℕ) → is_broken rule l had (map Assigned ls) ≡ false
fine_assigned rule l had [] = refl
fine_assigned Unassigned l had (m ∷ ls) = fine_assigned Unassigned l (had || eqb m l) ls
fine_assigned Undropped l had (m ∷ ls) = fine_assigned Undropped l (had || eqb m l) ls

pub declared_step : (l : ℕ) (ls : List ℕ) → happens_of l (map Declared ls) ≡ step_of false (is_among l ls) false false
declared_step l ls = step_from l (map Declared ls) false (is_among l ls) false false (λ had. has_declared l had ls ∙ lost had (is_among l ls)) (λ rule had. fine_declared rule l had ls ∙ never rule had)

fine_bound : (rule : Rule) (l : ℕ) (had : Bool) (ls : List ℕ) → is_broken rule l had (map Declared ls ++ map Assigned ls) ≡ false
fine_bound rule l had ls =
    broken_append rule l had (map Declared ls) (map Assigned ls)
    ∙ ap (λ b. b || is_broken rule l (has_behind l had (map Declared ls)) (map Assigned ls)) (fine_declared rule l had ls)
    ∙ fine_assigned rule l (has_behind l had (map Declared ls)) ls

pub bound_step : (l : ℕ) (ls : List ℕ) → happens_of l (map Declared ls ++ map Assigned ls) ≡ step_of (is_among l ls) false false false
bound_step l ls = step_from l (map Declared ls ++ map Assigned ls) (is_among l ls) false false false
    (λ had. behind_append l had (map Declared ls) (map Assigned ls) ∙ has_assigned l (has_behind l had (map Declared ls)) ls ∙ ap (λ b. b || is_among l ls) (has_declared l had ls) ∙ renewed had (is_among l ls))
    (λ rule had. fine_bound rule l had ls ∙ never rule had)

-- the meaning of a step of sets
pub step_shown : (e : Effects) (g s n d : LocalSet)
    → ((i : ℕ) (had : Bool) (way : Way) (state : Bool) → i < 64 → may (outcome_of e had) way state i ≡ (is_onward way && same (stepped (has g i) (has s i) had) state))
    → ((i : ℕ) (had : Bool) (rule : Rule) → i < 64 → wrong (outcome_of e had) rule i ≡ step_broken (has n i) (has d i) rule had)
    → (i : ℕ) → i < 64 → (a b c k : Bool) → has g i ≡ a → has s i ≡ b → has n i ≡ c → has d i ≡ k → view e i ≡ step_of a b c k
step_shown e g s n d ends broken i h a b c k p q r t =
    effect_same (view e i) (step_of (has g i) (has s i) (has n i) (has d i)) (λ had way state. ends i had way state h) (λ had rule. broken i had rule h)
    ∙ (λ j. step_of (p j) (q j) (r j) (t j))
