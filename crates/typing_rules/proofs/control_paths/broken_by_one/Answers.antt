use Rattle.std.proofs.Common.{◌≡◌, ℕ, Bool, true, List, [], ◌∷◌, ◌++◌, inl, inr, refl, sym, ap, subst}
use Rattle.std.proofs.lemmas.Bool.{or_cases, or_left, or_right, false≢true}
use Rattle.typing_rules.specs.Events.{Event, Rule, has_after, has_behind, breaks, is_broken}
use Rattle.typing_rules.specs.Splits.{IsBrokenBy}
use Rattle.typing_rules.proofs.control_paths.broken_by_one.Goals as goal

forth : (r : Rule) (l : ℕ) (had : Bool) (es : List Event) → is_broken r l had es ≡ true → IsBrokenBy r l had es
forth r l had [] h = absurd (false≢true h)
forth r l had (e ∷ es) h =
    elim (or_cases (breaks r l had e) (is_broken r l (has_after l had e) es) h) [
      | inl here ↦ record { before = []; event = e; behind = es; split = refl; broken = here }
      | inr later ↦ let rest = forth r l (has_after l had e) es later in
          record { before = e ∷ rest.before; event = rest.event; behind = rest.behind; split = ap (λ xs. e ∷ xs) rest.split; broken = rest.broken }
    ]

back : (r : Rule) (l : ℕ) (had : Bool) (before : List Event) (e : Event) (behind : List Event) → breaks r l (has_behind l had before) e ≡ true → is_broken r l had (before ++ e ∷ behind) ≡ true
back r l had [] e behind h = or_left (breaks r l had e) (is_broken r l (has_after l had e) behind) h
back r l had (x ∷ before) e behind h = or_right (breaks r l had x) (is_broken r l (has_after l had x) (before ++ e ∷ behind)) (back r l (has_after l had x) before e behind h)

pub returns : goal.returns
returns c = λ r l had es. (forth r l had es, λ b. subst (λ xs. is_broken r l had xs ≡ true) (sym b.split) (back r l had b.before b.event b.behind b.broken))
