-- Variables that a context binds, frame by frame.
use Rattle.std.proofs.Common.{◌≡◌, ℕ, zero, suc, ◌+◌, ◌<◌, Bool, true, false, get_or, List, [], ◌∷◌, length, take, Option, Some, None, refl, sym, ap, ◌∙◌, subst, arith}
use Rattle.std.specs.Prelude.{◌||◌, ◌==◌}
use Rattle.std.proofs.lemmas.Bool.{or_left, or_right}
use Rattle.std.proofs.lemmas.List.{take_more}
use Rattle.term_pool.specs.Items.{Item}
use Rattle.term_pool.specs.declared.node.Two.{Two}
use Rattle.term_pool.specs.declared.node.Two.TheVariants.{Quantify}
use Rattle.term_pool.specs.Free.{free_in_item}
use Rattle.congruence_closure.specs.Trees.{among}
use Rattle.congruence_closure.proofs.TreeLemmas.{itself, same_number}
use Rattle.explanations.specs.Frames.{bound_in, bound_below, bound_after, bound_on}
use Rattle.explanations.specs.declared.frame.Frame.{Frame}
use Rattle.explanations.specs.declared.frame.Frame.TheVariants.{Only, FirstOfTwo, SecondOfTwo, FirstOfThree, SecondOfThree, ThirdOfThree}
use Rattle.explanations.specs.BoundNodes.{IsCaptured, IsUncaptured, variable_of, variable_below}
use Rattle.explanations.proofs.PositionLemmas.{bound_push}

abbrev with_variable : Option ℕ → List ℕ → List ℕ
with_variable None ks = ks
with_variable (Some n) ks = n ∷ ks

head_binds : (h : Two) (ks : List ℕ) → bound_in h ks ≡ with_variable (variable_of h) ks
head_binds (Quantify o n) ks = refl
head_binds h ks = refl

frame_binds : (f : Frame) (ks : List ℕ) → bound_below f ks ≡ with_variable (variable_below f) ks
frame_binds (FirstOfTwo h b) ks = head_binds h ks
frame_binds (SecondOfTwo h a) ks = head_binds h ks
frame_binds (Only h) ks = refl
frame_binds (FirstOfThree h b c) ks = refl
frame_binds (SecondOfThree h a c) ks = refl
frame_binds (ThirdOfThree h a b) ks = refl

-- a bound variable remains bound further down
among_more : (v : ℕ) (o : Option ℕ) (ks : List ℕ) → among v ks ≡ true → among v (with_variable o ks) ≡ true
among_more v None ks e = e
among_more v (Some n) ks e = or_right (v == n) (among v ks) e

among_after : (v : ℕ) (way : List Frame) (ks : List ℕ) → among v ks ≡ true → among v (bound_after ks way) ≡ true
among_after v [] ks e = e
among_after v (f ∷ way) ks e = among_after v way (bound_below f ks) (ap (among v) (frame_binds f ks) ∙ among_more v (variable_below f) ks e)

among_there : (way : List Frame) (n : ℕ) (d : Frame) (v : ℕ) (ks : List ℕ) → n < length way → variable_below (get_or way n d) ≡ Some v → among v (bound_after ks way) ≡ true
among_there [] n d v ks w e = absurd (omega arith)
among_there (f ∷ way) zero d v ks w e = among_after v way (bound_below f ks) (ap (among v) (frame_binds f ks ∙ ap (λ o. with_variable o ks) e) ∙ or_left (v == v) (among v ks) (itself v))
among_there (f ∷ way) (suc n) d v ks w e = among_there way n d v (bound_below f ks) (omega arith) e

-- ---- along the context

nothing_bound : (way : List Frame) → bound_on (take zero way) ≡ []
nothing_bound [] = refl
nothing_bound (f ∷ way) = refl

pub uncaptured_begun : (way : List Frame) (x : Item) → IsUncaptured (bound_on (take zero way)) x
uncaptured_begun way x = subst (λ bound. IsUncaptured bound x) (sym (nothing_bound way)) (record { each = λ n e. absurd (cc) })

bound_next : (way : List Frame) (n : ℕ) (d : Frame) → n < length way → bound_on (take (n + 1) way) ≡ with_variable (variable_below (get_or way n d)) (bound_on (take n way))
bound_next way n d w = ap bound_on (take_more way n d w) ∙ bound_push [] (take n way) (get_or way n d) ∙ frame_binds (get_or way n d) (bound_on (take n way))

-- a head symbol that binds no variable
pub uncaptured_past : (way : List Frame) (n : ℕ) (d : Frame) (x : Item) → n < length way → variable_below (get_or way n d) ≡ None → IsUncaptured (bound_on (take n way)) x → IsUncaptured (bound_on (take (n + 1) way)) x
uncaptured_past way n d x w e u = subst (λ bound. IsUncaptured bound x) (sym (bound_next way n d w ∙ ap (λ o. with_variable o (bound_on (take n way))) e)) u

-- a head symbol that binds a variable that is not free
more_uncaptured : (v : ℕ) (bound : List ℕ) (x : Item) → free_in_item v x ≡ false → IsUncaptured bound x → IsUncaptured (v ∷ bound) x
more_uncaptured v bound x f u = record { each = λ n e. go n (n == v) refl e }
  where
    go : (n : ℕ) (b : Bool) → (n == v) ≡ b → ((n == v) || among n bound) ≡ true → free_in_item n x ≡ false
    go n true s e = ap (λ m. free_in_item m x) (same_number n v s) ∙ f
    go n false s e = u.each n (sym (ap (λ c. c || among n bound) s) ∙ e)

pub uncaptured_next : (way : List Frame) (n : ℕ) (d : Frame) (v : ℕ) (b : Bool) (x : Item) → n < length way → variable_below (get_or way n d) ≡ Some v → b ≡ free_in_item v x → b ≡ false → IsUncaptured (bound_on (take n way)) x → IsUncaptured (bound_on (take (n + 1) way)) x
uncaptured_next way n d v b x w e is f u = subst (λ bound. IsUncaptured bound x) (sym (bound_next way n d w ∙ ap (λ o. with_variable o (bound_on (take n way))) e)) (more_uncaptured v (bound_on (take n way)) x (sym is ∙ f) u)

-- a head symbol that binds a variable that is free
pub captured_there : (way : List Frame) (n : ℕ) (d : Frame) (v : ℕ) (b : Bool) (x : Item) → n < length way → variable_below (get_or way n d) ≡ Some v → b ≡ free_in_item v x → b ≡ true → IsCaptured (bound_on way) x
captured_there way n d v b x w e is f = record { variable = v; bound_there = among_there way n d v [] w e; free = sym is ∙ f }
