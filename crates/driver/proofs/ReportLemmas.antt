-- The facts about the files that the stages of a run pass on.
use Rattle.std.proofs.Common.{◌≡◌, ℕ, zero, suc, ◌<◌, ◌≤◌, List, [], ◌∷◌, length, get_or, Option, refl, ap, sym, subst, arith}
use Rattle.std.specs.List.{AllByRecursion}
use Rattle.report.specs.Outside.{Files}
use Rattle.driver.specs.Stages.{HaveBytes}

pub as_many : (holds : Option Files) (names files : List (List ℕ)) → HaveBytes holds names files → length files ≡ length names
as_many holds [] [] h = refl
as_many holds [] (bytes ∷ files) h = absurd h
as_many holds (name ∷ names) [] h = absurd h
as_many holds (name ∷ names) (bytes ∷ files) h = ap suc (as_many holds names files h.1)

pub few_files : (holds : Option Files) (names files : List (List ℕ)) (limit : ℕ) → HaveBytes holds names files → length names ≤ limit → length files ≤ limit
few_files holds names files limit h few = subst (λ n. n ≤ limit) (sym (as_many holds names files h)) few

pub all_short : (holds : Option Files) (names files : List (List ℕ)) → HaveBytes holds names files → AllByRecursion (λ bytes. length bytes ≤ 1048576) files
all_short holds [] [] h = tt
all_short holds [] (bytes ∷ files) h = absurd h
all_short holds (name ∷ names) [] h = absurd h
all_short holds (name ∷ names) (bytes ∷ files) h = (h.0.short, all_short holds names files h.1)

pub each_short : (files : List (List ℕ)) → AllByRecursion (λ bytes. length bytes ≤ 1048576) files → (k : ℕ) (d : List ℕ) → k < length files → length (get_or files k d) ≤ 1048576
each_short [] h k d l = absurd (omega (arith, l))
each_short (bytes ∷ files) h zero d l = h.0
each_short (bytes ∷ files) h (suc k) d l = each_short files h.1 k d (omega (arith, l))
