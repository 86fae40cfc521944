-- What an application leaves of a branch, by what it adds.
use Rattle.std.proofs.Common.{◌≡◌, ℕ, pos, ◌+ℤ◌, Bool, true, false, List, [], ◌∷◌, ◌++◌, map, refl, sym, ap, ◌∙◌}
use Rattle.std.proofs.lemmas.List.{map-append}
use Rattle.fol.specs.FormulaData.{NumTerm, FormulaData, LeFormula}
use Rattle.term_pool.specs.declared.node.Node.{Node}
use Rattle.certificates.specs.BranchesBranch.{Branch, Entry}
use Rattle.certificates.specs.ProofTraces.{Application, OpenBranches, entry_with, left_of}
use Rattle.certificates.specs.declared.branches.origin.Origin.{Origin}
use Rattle.certificates.specs.declared.branches.origin.Origin.TheVariants.{Name as FromName, Other}
use Rattle.tableau.specs.PoolBranches.{entry_in}
use Rattle.tableau.specs.declared.entry.PoolEntry.{PoolEntry}
use Rattle.tableau.specs.Numbers.{formula_at}
use Rattle.search.specs.Applications.{is_fork, origin_of, entry_of, IsGenerationFrom, IsAddedFor, AsParts, AsName, AsInstance, AsAxiom, AsSplit, AsCut, AsBound, term_at, formulas_of}
use Rattle.search.specs.Trees.{branch_of, entries_of}
use Rattle.search.specs.declared.trees.application.Extension.{Extension}
use Rattle.search.specs.declared.trees.application.Reason.{Reason}
use Rattle.search.proofs.TextLemmas.{size_of}

-- the branches that continue with these entries: one with all of them, or one with each
abbrev pub lefts : Bool → Branch → List Entry → OpenBranches
lefts false b es = (b ++ es) ∷ []
lefts true b es = map (λ (e : Entry). b ++ e ∷ []) es

split_map : (b : Branch) (f : FormulaData → Entry) (ps : List FormulaData) → map (λ (p : FormulaData). b ++ f p ∷ []) ps ≡ map (λ (e : Entry). b ++ e ∷ []) (map f ps)
split_map b f [] = refl
split_map b f (p ∷ ps) = (let rest = split_map b f ps in λ i. (b ++ f p ∷ []) ∷ rest i)

pub left_is : (ns : List Node) (ps : List FormulaData) (b : Branch) (r : Reason) (g : ℕ) (application : Application) → IsAddedFor ns ps r g application → IsGenerationFrom b (entry_of r) g → left_of b application ≡ lefts (is_fork r) b (map (entry_with g (origin_of r)) ps)
left_is ns ps b r g application (AsParts i k) e = ap (λ n. (b ++ map (entry_with n Other) ps) ∷ []) (sym e)
left_is ns ps b r g application (AsName i v k p is) e = ap (λ n. (b ++ entry_with n (FromName i) p ∷ []) ∷ []) (sym e) ∙ ap (λ qs. (b ++ map (entry_with g (FromName i)) qs) ∷ []) (sym is)
left_is ns ps b r g application (AsInstance i t k p is) e = ap (λ qs. (b ++ map (entry_with g Other) qs) ∷ []) (sym is)
left_is ns ps b r g application (AsAxiom name k p is) e = ap (λ qs. (b ++ map (entry_with g Other) qs) ∷ []) (sym is)
left_is ns ps b r g application (AsSplit i k) e = ap (λ n. map (λ (p : FormulaData). b ++ entry_with n Other p ∷ []) ps) (sym e) ∙ split_map b (entry_with g Other) ps
left_is ns ps b r g application (AsCut t u k is) e = ap (λ qs. map (λ (x : Entry). b ++ x ∷ []) (map (entry_with g Other) qs)) (sym is)
left_is ns ps b r g application (AsBound i t k z is) e =
    ap (λ n. map (λ (p : FormulaData). b ++ entry_with n Other p ∷ []) (LeFormula (term_at ns t) (NumTerm z) ∷ LeFormula (NumTerm (z +ℤ pos 1)) (term_at ns t) ∷ [])) (sym e)
    ∙ ap (λ qs. map (λ (x : Entry). b ++ x ∷ []) (map (entry_with g Other) qs)) (sym is)

pub added_size : (ns : List Node) (ps : List FormulaData) (r : Reason) (g : ℕ) (application : Application) → IsAddedFor ns ps r g application → size_of application ≡ 1
added_size ns ps r g application (AsParts i k) = refl
added_size ns ps r g application (AsName i v k p is) = refl
added_size ns ps r g application (AsInstance i t k p is) = refl
added_size ns ps r g application (AsAxiom name k p is) = refl
added_size ns ps r g application (AsSplit i k) = refl
added_size ns ps r g application (AsCut t u k is) = refl
added_size ns ps r g application (AsBound i t k z is) = refl

-- ---- the entries by number

entries_map : (ns : List Node) (g : ℕ) (o : Origin) (ks : List ℕ) → branch_of ns (map (λ k. record { formula = k; generation = g; origin = o }) ks) ≡ map (entry_with g o) (map (formula_at ns) ks)
entries_map ns g o [] = refl
entries_map ns g o (k ∷ ks) = (let rest = entries_map ns g o ks in λ i. entry_with g o (formula_at ns k) ∷ rest i)

pub entries_are : (ns : List Node) (g : Extension) → branch_of ns (entries_of g) ≡ map (entry_with g.generation (origin_of g.reason)) (formulas_of ns g)
entries_are ns g = entries_map ns g.generation (origin_of g.reason) g.formulas.items

pub branch_append : (ns : List Node) (es ds : List PoolEntry) → branch_of ns (es ++ ds) ≡ branch_of ns es ++ branch_of ns ds
branch_append ns es ds = map-append (entry_in ns) es ds

pub branches_append : (ns : List Node) (es ds : List PoolEntry) → map (λ (d : PoolEntry). branch_of ns (es ++ d ∷ [])) ds ≡ map (λ (e : Entry). branch_of ns es ++ e ∷ []) (branch_of ns ds)
branches_append ns es [] = refl
branches_append ns es (d ∷ ds) =
    let first : branch_of ns (es ++ d ∷ []) ≡ branch_of ns es ++ entry_in ns d ∷ [] = branch_append ns es (d ∷ []) in
    let rest = branches_append ns es ds in
    λ i. first i ∷ rest i
