-- The open branches after a change of the current one.
use Rattle.std.proofs.Common.{◌≡◌, ℕ, zero, suc, ◌+◌, ◌<◌, ◌≤◌, Bool, true, false, cond, List, [], ◌∷◌, ◌++◌, length, map, take, get_or, refl, sym, ap, ◌∙◌, subst, arith, length-append}
use Rattle.std.specs.Prelude.{All}
use Rattle.std.proofs.lemmas.List.{take-append-le, take-take, take_all, length-take-le}
use Rattle.fol.specs.FormulaData.{FormulaData}
use Rattle.certificates.specs.Closes.{OpenData, IsShort}
use Rattle.certificates.specs.Waiting.{CaseData, case_at, AreStacked}
use Rattle.certificates.specs.Open.{branch_with, branches_of}

-- ---- pending cases

pub stacked_higher : (m n : ℕ) (cs : List CaseData) → m ≤ n → AreStacked m cs → AreStacked n cs
stacked_higher m n [] within stacked = tt
stacked_higher m n (c ∷ cs) within stacked = (omega (arith, stacked.0), stacked.1)

pub stacked_longer : (b fs d : List FormulaData) (cs : List CaseData) → d ≡ b ++ fs → AreStacked (length b) cs → AreStacked (length d) cs
stacked_longer b fs d cs e stacked =
    stacked_higher (length b) (length d) cs (omega (arith, ap length e, length-append b fs)) stacked

pub branches_longer : (b fs d : List FormulaData) (n : ℕ) (cs : List CaseData) → d ≡ b ++ fs → n ≤ length b → AreStacked n cs → branches_of d cs ≡ branches_of b cs
branches_longer b fs d n [] e within stacked = refl
branches_longer b fs d n (c ∷ cs) e within stacked =
    let first : take c.mark d ≡ take c.mark b = ap (take c.mark) e ∙ take-append-le c.mark b fs (omega (arith, stacked.0)) in
    let later : branches_of d cs ≡ branches_of b cs = branches_longer b fs d c.mark cs e (omega (arith, stacked.0)) stacked.1 in
    λ i. (first i ++ c.formula ∷ []) ∷ later i

branches_shorter : (b : List FormulaData) (m n : ℕ) (cs : List CaseData) → m ≤ n → AreStacked m cs → branches_of (take n b) cs ≡ branches_of b cs
branches_shorter b m n [] within stacked = refl
branches_shorter b m n (c ∷ cs) within stacked =
    let first : take c.mark (take n b) ≡ take c.mark b = take-take c.mark n b (omega (arith, stacked.0)) in
    let later : branches_of (take n b) cs ≡ branches_of b cs = branches_shorter b c.mark n cs (omega (arith, stacked.0)) stacked.1 in
    λ i. (first i ++ c.formula ∷ []) ∷ later i

-- ---- the next case

-- the case becomes the current branch, and the others are unchanged
pub record IsResumed (b : List FormulaData) (c : CaseData) (cs : List CaseData) (d : List FormulaData) : Type 0 where
  pub long : length d ≡ c.mark + 1
  pub stacked : AreStacked (length d) cs
  pub branches : d ∷ branches_of d cs ≡ branches_of b (c ∷ cs)

pub resumed : (b k d : List FormulaData) (c : CaseData) (cs ws : List CaseData) → ws ≡ c ∷ cs → k ≡ take c.mark b → d ≡ k ++ c.formula ∷ [] → AreStacked (length b) ws → IsResumed b c cs d
resumed b k d c cs ws w cut e halted =
    let stacked : AreStacked (length b) (c ∷ cs) = subst (AreStacked (length b)) w halted in
    let whole : d ≡ take c.mark b ++ c.formula ∷ [] = e ∙ ap (λ xs. xs ++ c.formula ∷ []) cut in
    let short : length (take c.mark b) ≡ c.mark = length-take-le c.mark b stacked.0 in
    let long : length d ≡ c.mark + 1 = omega (arith, short, ap length whole, length-append (take c.mark b) (c.formula ∷ [])) in
    let others : branches_of d cs ≡ branches_of b cs =
    branches_longer (take c.mark b) (c.formula ∷ []) d c.mark cs whole (omega (arith, short)) stacked.1 ∙ branches_shorter b c.mark c.mark cs (omega arith) stacked.1 in
    record {
      long = long;
      stacked = stacked_higher c.mark (length d) cs (omega (arith, long)) stacked.1;
      branches = (λ i. whole i ∷ others i);
    }

-- ---- forks

pub stacked_cases : (b : List FormulaData) (m : ℕ) (ps : List FormulaData) (cs ws : List CaseData) → m ≡ length b → ws ≡ map (case_at m) ps ++ cs → AreStacked (length b) cs → AreStacked (length b) ws
stacked_cases b m ps cs ws here w stacked = subst (AreStacked (length b)) (sym w) (go ps)
  where
    go : (qs : List FormulaData) → AreStacked (length b) (map (case_at m) qs ++ cs)
    go [] = stacked
    go (q ∷ qs) = (omega (arith, here), stacked_higher (length b) m (map (case_at m) qs ++ cs) (omega (arith, here)) (go qs))

pub branches_cases : (b : List FormulaData) (m : ℕ) (ps : List FormulaData) (cs ws : List CaseData) → m ≡ length b → ws ≡ map (case_at m) ps ++ cs → branches_of b ws ≡ map (λ p. b ++ p ∷ []) ps ++ branches_of b cs
branches_cases b m ps cs ws here w = ap (branches_of b) w ∙ go ps
  where
    whole : take m b ≡ b
    whole = take_all m b (omega (arith, here))

    go : (qs : List FormulaData) → branches_of b (map (case_at m) qs ++ cs) ≡ map (λ p. b ++ p ∷ []) qs ++ branches_of b cs
    go [] = refl
    go (q ∷ qs) = λ i. (whole i ++ q ∷ []) ∷ go qs i

pub all_short : (b ps : List FormulaData) → length b < 4000 → All IsShort (map (λ p. b ++ p ∷ []) ps)
all_short b [] h k d l = absurd (omega (arith, l))
all_short b (p ∷ ps) h zero d l = omega (arith, length-append b (p ∷ []))
all_short b (p ∷ ps) h (suc k) d l = all_short b ps h k d (omega (arith, l))

pub one_long : (b ps : List FormulaData) → 0 < length ps → 4000 ≤ length b → All IsShort (map (λ p. b ++ p ∷ []) ps) → ⊥
one_long b [] h e all = absurd (omega (arith, h))
one_long b (p ∷ ps) h e all = (let first : length (b ++ p ∷ []) ≤ 4000 = all 0 b (omega arith) in omega (arith, e, first, length-append b (p ∷ [])))

-- ---- the current branch

pub on_open : (n : Bool) (bs : OpenData) → n ≡ false → cond n [] bs ≡ bs
on_open n bs e = ap (λ b. cond b [] bs) e
