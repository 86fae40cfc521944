-- What applications leave open.
use Rattle.std.proofs.Common.{◌≡◌, ℕ, Bool, true, false, List, [], ◌∷◌, ◌++◌, map, refl, sym, ap, ◌∙◌, subst}
use Rattle.std.specs.Prelude.{All}
use Rattle.std.proofs.lemmas.List.Elements.{All-nil, All-cons, All-head, All-tail, All-append, All-map, All-weaker}
use Rattle.fol.specs.declared.shapes.Shape.{Shape}
use Rattle.fol.specs.FormulaData.{FormulaData}
use Rattle.term_pool.specs.declared.node.Node.{Node}
use Rattle.certificates.specs.BranchesBranch.{Branch, Entry}
use Rattle.certificates.specs.ProofTraces.{OpenBranches, entry_with, left_of, IsShortBranch}
use Rattle.certificates.specs.declared.branches.origin.Origin.{Origin}
use Rattle.certificates.specs.declared.branches.origin.Origin.TheVariants.{Other}
use Rattle.tableau.specs.PoolBranches.{IsFormulaNumber}
use Rattle.tableau.specs.declared.entry.PoolEntry.{PoolEntry}
use Rattle.tableau.specs.Numbers.{formula_at, AreFormulas}
use Rattle.search.specs.Applications.{is_fork, origin_of, formulas_of}
use Rattle.search.specs.Trees.{branch_of, entries_of}
use Rattle.search.specs.declared.trees.application.Extension.{Extension}
use Rattle.search.proofs.AddedLemmas.{lefts, left_is, entries_are}
use Rattle.tree_checks.specs.Steps.{first_branch, IsGrowing}
use Rattle.tree_checks.proofs.CaseLemmas.{lefts_are}
use Rattle.tree_checks.specs.Timely.{IsDueBy}
use Rattle.tree_checks.specs.Partial.{IsNumbered, IsGrownBy, IsTakenBy}
use Rattle.tree_checks.specs.Walks.{branches_by}
use Rattle.tree_checks.specs.declared.partial.applications.GivenExtension.{GivenExtension}
use Rattle.tree_checks.specs.declared.partial.applications.GivenApplication.{GivenApplication}
use Rattle.tree_checks.specs.declared.partial.applications.GivenApplication.TheVariants.{Grown, Closed}
use Rattle.tree_checks.proofs.StayLemmas.{IsIn}

-- the entries that an extension adds
abbrev pub added_by : List FormulaData → Extension → List Entry
added_by ps g = map (entry_with g.generation (origin_of g.reason)) ps

-- the branches that an extension leaves, by the formulas that it adds
abbrev pub after : List FormulaData → Branch → Extension → OpenBranches
after ps b g = lefts (is_fork g.reason) b (added_by ps g)

module _ (ns : List Node) where
  pub after_growing : (shapes : List Shape) (b : Branch) (g : Extension) (h : IsGrowing shapes ns b g) → left_of b h.application ≡ after (formulas_of ns g) b g
  after_growing shapes b g h = left_is ns (formulas_of ns g) b g.reason g.generation h.application h.is.added h.from

  pub after_entries : (es : List PoolEntry) (g : Extension) → after (formulas_of ns g) (branch_of ns es) g ≡ branches_by ns es g
  after_entries es g = ap (λ ds. lefts (is_fork g.reason) (branch_of ns es) ds) (sym (entries_are ns g)) ∙ lefts_are (is_fork g.reason) ns es (entries_of g)

-- the extension is due on the branch, and these branches are open after it
pub record Grows (shapes : List Shape) (ns : List Node) (given : GivenExtension) (b : Branch) (rest cs : OpenBranches) : Type 0 where
  pub due : IsDueBy shapes ns b given
  pub short : All IsShortBranch (after (formulas_of ns given.extension) b given.extension)
  pub left : cs ≡ after (formulas_of ns given.extension) b given.extension ++ rest

module _ (shapes : List Shape) (ns : List Node) where
  pub grows_of : (given : GivenExtension) (b : Branch) (rest cs : OpenBranches) → IsGrownBy shapes ns (b ∷ rest) given cs → Grows shapes ns given b rest cs
  grows_of given b rest cs h =
      let e = after_growing ns shapes h.b given.extension h.due.growing in
      let there : Grows shapes ns given h.b h.rest cs = record { due = h.due; short = subst (All IsShortBranch) e h.short; left = h.left ∙ ap (λ os. os ++ h.rest) e } in
      let is : b ∷ rest ≡ h.b ∷ h.rest = h.is in
      let first : b ≡ h.b = cc in
      let others : rest ≡ h.rest = cc in
      subst (λ x. Grows shapes ns given x rest cs) (sym first) (subst (λ xs. Grows shapes ns given h.b xs cs) (sym others) there)

  pub grown_of : (given : GivenExtension) (b : Branch) (rest cs : OpenBranches) → Grows shapes ns given b rest cs → IsGrownBy shapes ns (b ∷ rest) given cs
  grown_of given b rest cs h =
      let e = after_growing ns shapes b given.extension h.due.growing in
      record { b = b; rest = rest; is = refl; due = h.due; short = subst (All IsShortBranch) (sym e) h.short; left = h.left ∙ ap (λ os. os ++ rest) (sym e) }

  grown_once : (given : GivenExtension) (bs cs ds : OpenBranches) → IsGrownBy shapes ns bs given cs → IsGrownBy shapes ns bs given ds → cs ≡ ds
  grown_once given bs cs ds h k =
      let first = grows_of given h.b h.rest cs (subst (λ os. IsGrownBy shapes ns os given cs) h.is h) in
      let second = grows_of given h.b h.rest ds (subst (λ os. IsGrownBy shapes ns os given ds) h.is k) in
      first.left ∙ sym second.left

  -- the branches open after an application are determined by those open before
  pub taken_once : (application : GivenApplication) (bs cs ds : OpenBranches) → IsTakenBy shapes ns bs application cs → IsTakenBy shapes ns bs application ds → cs ≡ ds
  taken_once (Grown given) bs cs ds h k = grown_once given bs cs ds h k
  taken_once (Closed closing) bs cs ds h k = (let both : h.b ∷ cs ≡ k.b ∷ ds = sym h.is ∙ k.is in cc)

-- ---- the formulas of open branches have numbers

abbrev pub AreIn : List Node → OpenBranches → Type 0
AreIn ns bs = All (All (IsIn ns)) bs

module _ (ns : List Node) where
  formulas_in : (g : ℕ) (o : Origin) (xs : List ℕ) → All (IsFormulaNumber ns) xs → All (IsIn ns) (map (entry_with g o) (map (formula_at ns) xs))
  formulas_in g o [] h = All-nil (IsIn ns)
  formulas_in g o (x ∷ xs) h =
      All-cons (IsIn ns) (entry_with g o (formula_at ns x)) (map (entry_with g o) (map (formula_at ns) xs)) (record { number = x; of = record { number = All-head (IsFormulaNumber ns) x xs h; is = refl } }) (formulas_in g o xs (All-tail (IsFormulaNumber ns) x xs h))

  lefts_in : (f : Bool) (b : Branch) (es : List Entry) → All (IsIn ns) b → All (IsIn ns) es → AreIn ns (lefts f b es)
  lefts_in false b es h k = All-cons (All (IsIn ns)) (b ++ es) [] (All-append (IsIn ns) b es h k) (All-nil (All (IsIn ns)))
  lefts_in true b es h k =
      All-map (All (IsIn ns)) (λ (e : Entry). b ++ e ∷ []) es
      (All-weaker (IsIn ns) (λ (e : Entry). All (IsIn ns) (b ++ e ∷ [])) (λ e one. All-append (IsIn ns) b (e ∷ []) h (All-cons (IsIn ns) e [] one (All-nil (IsIn ns)))) es k)

  grown_in : (shapes : List Shape) (given : GivenExtension) (b : Branch) (rest cs : OpenBranches) → AreFormulas ns given.extension.formulas.items → Grows shapes ns given b rest cs → AreIn ns (b ∷ rest) → AreIn ns cs
  grown_in shapes given b rest cs numbers h inside =
      let g = given.extension in
      let added = lefts_in (is_fork g.reason) b (added_by (formulas_of ns g) g) (All-head (All (IsIn ns)) b rest inside) (formulas_in g.generation (origin_of g.reason) g.formulas.items numbers.each) in
      subst (AreIn ns) (sym h.left) (All-append (All (IsIn ns)) (after (formulas_of ns g) b g) rest added (All-tail (All (IsIn ns)) b rest inside))

  pub taken_in : (shapes : List Shape) (application : GivenApplication) (bs cs : OpenBranches) → IsNumbered ns application → IsTakenBy shapes ns bs application cs → AreIn ns bs → AreIn ns cs
  taken_in shapes (Grown given) bs cs numbers h inside =
      grown_in shapes given h.b h.rest cs numbers.formulas (grows_of shapes ns given h.b h.rest cs (subst (λ os. IsGrownBy shapes ns os given cs) h.is h)) (subst (AreIn ns) h.is inside)
  taken_in shapes (Closed closing) bs cs numbers h inside = All-tail (All (IsIn ns)) h.b cs (subst (AreIn ns) h.is inside)

  pub first_in : (n : ℕ) → IsFormulaNumber ns n → AreIn ns (first_branch ns n ∷ [])
  first_in n h =
      All-cons (All (IsIn ns)) (first_branch ns n) []
      (All-cons (IsIn ns) (entry_with 0 Other (formula_at ns n)) [] (record { number = n; of = record { number = h; is = refl } }) (All-nil (IsIn ns)))
      (All-nil (All (IsIn ns)))
