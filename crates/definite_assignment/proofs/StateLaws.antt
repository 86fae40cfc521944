-- Laws of states and effects.
use Rattle.std.proofs.Common.{◌≡◌, Bool, true, false, not, ◌&&◌, ◌||◌, refl}
use Rattle.typing_rules.specs.Events.{Rule}
use Rattle.typing_rules.specs.Flows.{Way}
use Rattle.definite_assignment.specs.LocalEffects.{LocalEffect, same, at_some}

pub same_false : (b : Bool) → same b false ≡ not b
same_false true = refl
same_false false = refl

pub same_with_true : (b : Bool) → same b true ≡ b
same_with_true true = refl
same_with_true false = refl

pub not_not : (b : Bool) → b ≡ not (not b)
not_not true = refl
not_not false = refl

pub some_same : (f g h k : Bool → Bool) → f false ≡ g false → f true ≡ g true → ((s : Bool) → h s ≡ k s) → at_some f h ≡ at_some g k
some_same f g h k a b e = λ i. (a i && e false i) || (b i && e true i)

-- two effects that agree on each state are equal
pub effect_same : (e f : LocalEffect) → ((had : Bool) (way : Way) (has : Bool) → e.ends had way has ≡ f.ends had way has) → ((had : Bool) (rule : Rule) → e.broken rule had ≡ f.broken rule had) → e ≡ f
effect_same e f h k = λ i. record { ends = λ had way has. h had way has i; broken = λ rule had. k had rule i }
