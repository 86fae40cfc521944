-- Due rule applications are moves of a certificate.
use Rattle.std.proofs.Common.{◌≡◌, ℕ, zero, suc, ◌+◌, ◌≤◌, max, List, [], ◌∷◌, ◌++◌, length, map, Some, refl, sym, ap, ◌∙◌, subst, arith, length-append}
use Rattle.std.specs.Prelude.{All, slice_get, pos, ◌+ℤ◌}
use Rattle.std.proofs.lemmas.List.{map-append, length-map}
use Rattle.std.proofs.lemmas.List.Elements.{All-nil, All-cons, All-head, All-tail}
use Rattle.fol.specs.Depth.{term_depth, formula_depth}
use Rattle.fol.specs.declared.shapes.Shape.{Shape}
use Rattle.fol.specs.FormulaData.{TermData, NumTerm, FormulaData, EqFormula, LeFormula}
use Rattle.axioms.specs.declared.axiom.Axiom.{Axiom}
use Rattle.axioms.specs.Axioms.{IsAxiom}
use Rattle.axioms.specs.Forms.{DifferFormula}
use Rattle.certificates.specs.CertData.{StepData, PartsStep, AxiomStep, InstanceStep, NameStep, CloseData, MoveData, StraightMove, ForkedMove, ClosedMove}
use Rattle.certificates.specs.declared.certificate.Cause.TheVariants.{Split, Cut, Bound}
use Rattle.certificates.specs.Closes.{most_entries, most_deep, IsWithin, IsEntry, IsMove, IsShort, IsClose, Closes, Certifies, OpenData, added, left_of as left_of_move}
use Rattle.certificates.specs.BranchesBranch.{Branch, Entry, formula_of, formulas, Says}
use Rattle.certificates.specs.Due.{PartsDue, SplitDue, NameDue, InstanceDue, AxiomDue, CutDue, AsksAxiom, ByTable, AsDecision}
use Rattle.certificates.specs.ProofTraces.{Application, PartsApplication, NameApplication, InstanceApplication, AxiomApplication, SplitApplication, CutApplication, BoundApplication, CloseApplication, entry_with, left_of, BoundDue, AreLinks, after_links, ClosesBranch, OpenBranches, after_applications, IsShortBranch, AreDue, begun, IsProof}
use Rattle.certificates.specs.declared.branches.origin.Origin.{Origin}
use Rattle.certificates.specs.Moves.{all_moves}
use Rattle.certificates.proofs.TableLaws.{triggered}

-- ---- entries

entry_at : (b : Branch) (i : ℕ) (e : Entry) → slice_get b i ≡ Some e → slice_get (formulas b) i ≡ Some e.formula
entry_at [] i e h = absurd (cc)
entry_at (d ∷ b) zero e h = let same : d ≡ e = cc in ap (λ (x : Entry). Some x.formula) same
entry_at (d ∷ b) (suc i) e h = entry_at b i e h

says_entry : (b : Branch) (i : ℕ) (p : FormulaData) → Says b i p → IsEntry (formulas b) i p
says_entry b i p s = entry_at b i s.entry s.found ∙ ap Some s.is

formulas_with : (generation : ℕ) (origin : Origin) (ps : List FormulaData) → map formula_of (map (entry_with generation origin) ps) ≡ ps
formulas_with generation origin [] = refl
formulas_with generation origin (p ∷ ps) = ap (λ qs. p ∷ qs) (formulas_with generation origin ps)

-- ---- the remaining branches

all_added : (b : Branch) (generation : ℕ) (origin : Origin) (ps : List FormulaData) → formulas b ++ ps ≡ formulas (b ++ map (entry_with generation origin) ps)
all_added b generation origin ps =
    ap (λ qs. formulas b ++ qs) (sym (formulas_with generation origin ps)) ∙ sym (map-append formula_of b (map (entry_with generation origin) ps))

straight : (b : Branch) (generation : ℕ) (origin : Origin) (ps : List FormulaData) → (formulas b ++ ps) ∷ [] ≡ map formulas ((b ++ map (entry_with generation origin) ps) ∷ [])
straight b generation origin ps = ap (λ qs. qs ∷ []) (all_added b generation origin ps)

forked : (b : Branch) (generation : ℕ) (origin : Origin) (ps : List FormulaData) → map (λ p. formulas b ++ p ∷ []) ps ≡ map formulas (map (λ p. b ++ entry_with generation origin p ∷ []) ps)
forked b generation origin [] = refl
forked b generation origin (p ∷ ps) =
    let first : formulas b ++ p ∷ [] ≡ formulas (b ++ entry_with generation origin p ∷ []) = all_added b generation origin (p ∷ []) in
    λ i. first i ∷ forked b generation origin ps i

all_short : (bs : List Branch) → All IsShortBranch bs → All IsShort (map formulas bs)
all_short [] h = All-nil IsShort
all_short (b ∷ bs) h =
    All-cons IsShort (formulas b) (map formulas bs) (let l = length-map b formula_of in let k = All-head IsShortBranch b bs h in omega (arith, l, k)) (all_short bs (All-tail IsShortBranch b bs h))

-- ---- moves

axiom_of : (shapes : List Shape) (b : Branch) {name : Axiom} {ts : List TermData} {p : FormulaData} → AsksAxiom shapes b name ts p → IsAxiom shapes name p
axiom_of shapes b (ByTable name ts p h) = triggered shapes b h
axiom_of shapes b (AsDecision t u d a n) = (_, (t, u, refl), refl)

one : (P : FormulaData → Type 0) (p : FormulaData) → P p → All P (p ∷ [])
one P p h = All-cons P p [] h (All-nil P)

two : (P : FormulaData → Type 0) (p q : FormulaData) → P p → P q → All P (p ∷ q ∷ [])
two P p q h k = All-cons P p (q ∷ []) h (one P q k)

denial_deeper : (t u : TermData) → formula_depth (DifferFormula t u) ≤ most_deep → formula_depth (EqFormula t u) ≤ most_deep + 1
denial_deeper t u h = omega (arith, h)

turned_depth : (d : ℕ) → 1 + max 1 d ≤ 2000 → 1 + max d 1 ≤ 2001
turned_depth d h = omega (arith, h)

longer : (n : ℕ) → n ≤ 2000 → n ≤ 2001
longer n h = omega (arith, h)

module _ (shapes : List Shape) where
  -- an application that is one move
  by_move : (b : Branch) (bs : OpenBranches) (application : Application) (m : MoveData) (moves : List MoveData) → IsMove shapes (formulas b) m → left_of_move (formulas b) m ≡ map formulas (left_of b application) → All IsShortBranch (left_of b application) → Closes shapes (map formulas (left_of b application ++ bs)) moves → Closes shapes (formulas b ∷ map formulas bs) (m ∷ moves)
  by_move b bs application m moves is_move left short rest = (
    (is_move, subst (All IsShort) (sym left) (all_short (left_of b application) short)),
    subst (λ xs. Closes shapes (xs ++ map formulas bs) moves) (sym left) (subst (λ xs. Closes shapes xs moves) (map-append formulas (left_of b application) bs) rest),
  )

  links_longer : (ps : List FormulaData) (ss : List StepData) → length ps ≤ length (after_links ps ss)
  links_longer ps [] = omega arith
  links_longer ps (s ∷ ss) = (let l = length-append ps (added s) in let k = links_longer (ps ++ added s) ss in omega (arith, l, k))

  by_chain : (b : Branch) (ps : List FormulaData) (others : OpenData) (ss : List StepData) (by : CloseData) (moves : List MoveData) → AreLinks shapes b ps ss → length (after_links ps ss) ≤ most_entries → IsClose (after_links ps ss) by → Closes shapes others moves → Closes shapes (ps ∷ others) ((map StraightMove ss ++ ClosedMove by ∷ []) ++ moves)
  by_chain b ps others [] by moves links short closes rest = ((closes, All-nil IsShort), rest)
  by_chain b ps others (s ∷ ss) by moves links short closes rest = (
    (links.1, All-cons IsShort (ps ++ added s) [] (let k = links_longer (ps ++ added s) ss in omega (arith, k, short)) (All-nil IsShort)),
    by_chain b (ps ++ added s) others ss by moves links.2 short closes rest,
  )

  closes : (applications : List Application) (bs : OpenBranches) → AreDue shapes bs applications → after_applications bs applications ≡ [] → Closes shapes (map formulas bs) (all_moves applications)
  closes [] bs due e = ap (map formulas) e
  closes (application ∷ applications) [] due e = absurd due.0
  closes (PartsApplication i ps ∷ applications) (b ∷ bs) due e =
      let d : PartsDue b i ps = due.0.0 in
      by_move b bs (PartsApplication i ps) (StraightMove (PartsStep i ps)) (all_moves applications)
      (record { shallow = d.shallow; names = tt; allowed = (d.entry, says_entry b i d.entry d.says, d.are_parts) })
      (straight b _ _ ps) due.0.1 (closes applications _ due.1 e)
  closes (NameApplication i v p ∷ applications) (b ∷ bs) due e =
      let d : NameDue b i v p = due.0.0 in
      by_move b bs (NameApplication i v p) (StraightMove (NameStep i v p)) (all_moves applications)
      (record { shallow = one (IsWithin most_deep) p d.shallow; names = tt; allowed = ((d.entry, says_entry b i d.entry d.says, d.is_body), d.is_new) })
      (straight b _ _ (p ∷ [])) due.0.1 (closes applications _ due.1 e)
  closes (InstanceApplication i t p g ∷ applications) (b ∷ bs) due e =
      let d : InstanceDue b i t p g = due.0.0 in
      by_move b bs (InstanceApplication i t p g) (StraightMove (InstanceStep i t p)) (all_moves applications)
      (record { shallow = one (IsWithin most_deep) p d.shallow; names = d.shallow_term; allowed = (d.entry.formula, entry_at b i d.entry d.found, d.is_body) })
      (straight b _ _ (p ∷ [])) due.0.1 (closes applications _ due.1 e)
  closes (AxiomApplication name p g ∷ applications) (b ∷ bs) due e =
      let d : AxiomDue shapes b name p g = due.0.0 in
      by_move b bs (AxiomApplication name p g) (StraightMove (AxiomStep name p)) (all_moves applications)
      (record { shallow = one (IsWithin most_deep) p d.shallow; names = tt; allowed = axiom_of shapes b d.triggered })
      (straight b _ _ (p ∷ [])) due.0.1 (closes applications _ due.1 e)
  closes (SplitApplication i ps ∷ applications) (b ∷ bs) due e =
      let d : SplitDue b i ps = due.0.0.0 in
      by_move b bs (SplitApplication i ps) (ForkedMove (Split i) ps) (all_moves applications)
      (record { shallow = d.shallow; allowed = (d.entry, says_entry b i d.entry d.says, d.are_cases) })
      (forked b _ _ ps) due.0.1 (closes applications _ due.1 e)
  closes (CutApplication t u g ∷ applications) (b ∷ bs) due e =
      let d : CutDue b t u = due.0.0.0 in
      by_move b bs (CutApplication t u g) (ForkedMove Cut (EqFormula t u ∷ DifferFormula t u ∷ [])) (all_moves applications)
      (record { shallow = two (IsWithin (most_deep + 1)) (EqFormula t u) (DifferFormula t u) (denial_deeper t u d.shallow) (longer _ d.shallow); allowed = (EqFormula t u, refl) })
      (forked b _ _ (EqFormula t u ∷ DifferFormula t u ∷ [])) due.0.1 (closes applications _ due.1 e)
  closes (BoundApplication i t k ∷ applications) (b ∷ bs) due e =
      let d : BoundDue shapes b i t k = due.0.0 in
      by_move b bs (BoundApplication i t k) (ForkedMove (Bound i) (LeFormula t (NumTerm k) ∷ LeFormula (NumTerm (k +ℤ pos 1)) t ∷ [])) (all_moves applications)
      (record { shallow = two (IsWithin (most_deep + 1)) (LeFormula t (NumTerm k)) (LeFormula (NumTerm (k +ℤ pos 1)) t) (turned_depth (term_depth t) d.shallow) (longer _ d.shallow); allowed = (t, says_entry b i _ d.says, (k, refl)) })
      (forked b _ _ (LeFormula t (NumTerm k) ∷ LeFormula (NumTerm (k +ℤ pos 1)) t ∷ [])) due.0.1 (closes applications _ due.1 e)
  closes (CloseApplication chain by ∷ applications) (b ∷ bs) due e =
      let d : ClosesBranch shapes b chain by = due.0.0 in
      by_chain b (formulas b) (map formulas bs) chain by (all_moves applications) d.links d.short d.closes (closes applications bs due.1 e)

  pub certified : (p : FormulaData) (applications : List Application) → IsProof shapes p applications → Certifies shapes (all_moves applications) p
  certified p applications proof = closes applications (begun p) proof.due proof.closed
