-- The result for rows without a solution.
use Rattle.std.proofs.Common.{◌≡◌, ℕ, zero, suc, ◌<◌, ℤ, List, [], ◌∷◌, ◌++◌, length, map, Option, Some, refl, sym, ap, ◌∙◌, subst, arith}
use Rattle.std.specs.Prelude.{slice_get}
use Rattle.std.specs.List.{AllZip}
use Rattle.std.specs.Option.{option_map}
use Rattle.std.proofs.lemmas.Option.{slice_get-map, slice_get_within}
use Rattle.fol.specs.declared.shapes.Shape.{Shape}
use Rattle.fol.specs.FormulaData.{TermData, FormulaData}
use Rattle.linear_arith.specs.Inequality.{Inequality}
use Rattle.term_pool.specs.Items.{FormulaSort, formula_in}
use Rattle.term_pool.specs.Pools.{item_at, HasPart}
use Rattle.term_pool.specs.declared.node.Node.{Node}
use Rattle.congruence_closure.specs.declared.classes.link.Link.{Link}
use Rattle.certificates.specs.BranchesBranch.{Branch, formula_of, formulas}
use Rattle.certificates.specs.Rows.{over, comparison_with}
use Rattle.certificates.specs.ProofTraces.{IsFull, Deep}
use Rattle.tableau.specs.PoolBranches.{BranchData, entry_in, branch_in}
use Rattle.tableau.specs.declared.entry.PoolEntry.{PoolEntry}
use Rattle.row_reasoning.specs.Rows.{IsRowFrom}
use Rattle.row_reasoning.specs.declared.rows.RowOrigin.{RowOrigin}
use Rattle.row_reasoning.specs.declared.rows.BranchRows.{BranchRows}
use Rattle.congruence_closure.specs.Known.{BranchClassesData, AreEntriesOf}
use Rattle.tableau.specs.Terms.{formula_number}
use Rattle.explanations.specs.Chains.{formula_at, ChainData, IsAt, IsChain, AreEntries}
use Rattle.explanations.specs.Graphs.{IsGraph}
use Rattle.explanations.specs.Replacing.{after_all}
use Rattle.explanations.specs.BranchGraphs.{HasEntries}
use Rattle.explanations.specs.Derivations.{AreSaid, CanBeginAny}
use Rattle.explanations.specs.Formulas.{AreInSource}
use Rattle.explanations.proofs.BranchLemmas.{a_graph, said, begins}
use Rattle.row_reasoning.specs.Chosen.{with_chosen}
use Rattle.row_reasoning.specs.Cited.{position_at, IsPlaced, ArePlaced}
use Rattle.closing_rules.specs.Positions.{AreBelow as AreBelowLimit}
use Rattle.closing_rules.specs.Rewritings.{AreBelow, IsRewriting, AreRewritingsOf, CoverRows, AreSources, ArePlacedBy}
use Rattle.closing_rules.specs.Depths.{HasDeep}
use Rattle.closing_rules.specs.Settings.{IsBase, IsSetting}
use Rattle.closing_rules.specs.declared.row_closings.rewriting.Rewriting.{Rewriting}
use Rattle.closing_rules.proofs.RowClosingsDepthLemmas.{number_at_position}
use Rattle.closing_rules.proofs.SettingLemmas.{entry_formula}

pub full_by_deep : (shapes : List Shape) (b : Branch) → HasDeep b → IsFull shapes b
full_by_deep shapes b h = Deep h.position h.formula h.says h.deep.deep

-- ---- the explanation over the entries

pub map_push : {X Y : Type 0} (f : X → Y) (xs : List X) (y : X) → map f (xs ++ y ∷ []) ≡ map f xs ++ f y ∷ []
map_push f [] y = refl
map_push f (x ∷ xs) y = ap (λ ys. f x ∷ ys) (map_push f xs y)

formulas_are : (ns : List Node) (es : List PoolEntry) → map formula_of (map (entry_in ns) es) ≡ map (formula_at ns) (map formula_number es)
formulas_are ns [] = refl
formulas_are ns (e ∷ es) = ap (λ ps. formula_at ns e.formula ∷ ps) (formulas_are ns es)

module _ (ns : List Node) (d : BranchData) (c : BranchClassesData) (h : IsBase ns d c) where
  pub entries_are : (read numbers : List ℕ) → read ≡ numbers → numbers ≡ map formula_number d.entries → AreEntries ns read (branch_in ns d)
  entries_are read numbers same is = subst (λ ks. AreEntries ns ks (branch_in ns d)) (sym (same ∙ is)) (record {
    numbers = λ position k f. (let at = number_at_position ns d h.over position k f in subst (λ n. HasPart ns (length ns) n FormulaSort) at.same (record { earlier = (h.over.formulas position at.entry at.found).within; sort = (h.over.formulas position at.entry at.found).sort }));
    are = sym (formulas_are ns d.entries);
  })

  pub begins_with : (read numbers : List ℕ) (chain : ChainData) → chain.formulas ≡ read → read ≡ numbers → numbers ≡ map formula_number d.entries → HasEntries chain c.entries
  begins_with read numbers chain e same is = record { each = λ position number f. ap (λ ks. slice_get ks position) (e ∙ same ∙ is ∙ sym h.classes.entries) ∙ f }

  pub graph : IsGraph ns c.classes.nodes c.classes.links c.numbers
  graph = a_graph ns c h.classes.over h.shown h.inside h.low

  pub all_said : (chain : ChainData) → HasEntries chain c.entries → AreSaid ns chain c.classes.links c.numbers
  all_said chain has = said ns c h.classes.over h.shown chain has

  of_branch : AreEntriesOf ns c (branch_in ns d)
  of_branch = record { over = h.classes.over; formulas = formulas_are ns d.entries ∙ ap (map (formula_at ns)) (sym h.classes.entries) }

  pub all_begin : (chain : ChainData) → HasEntries chain c.entries → IsChain ns (branch_in ns d) chain → CanBeginAny ns c.classes.nodes (branch_in ns d) chain c.numbers
  all_begin chain has is = record { each = λ i w t. begins ns c h.classes.over (branch_in ns d) chain h.inside h.low of_branch has is i w t }

  -- the index of an entry in the explanation is its own number
  own_position : (chain : ChainData) → HasEntries chain c.entries → (i : ℕ) (e : PoolEntry) → slice_get d.entries i ≡ Some e → slice_get chain.formulas i ≡ Some e.formula
  own_position chain has i e f = has.each i e.formula (ap (λ ks. slice_get ks i) h.classes.entries ∙ slice_get-map formula_number d.entries i ∙ ap (option_map formula_number) f)

  pub all_sources : (names : List ℕ) (find : ℕ → Option ℕ) (chain : ChainData) (rs : List Rewriting) → HasEntries chain c.entries → AreRewritingsOf ns d c names find rs → AreSources ns c.classes.nodes c.classes.links c.numbers chain rs
  all_sources names find chain rs has are = record { each = λ k r f. of_one r (are.each k r f) }
    where
      of_one : (r : Rewriting) → IsRewriting ns d c names find r → AreInSource ns c.classes.nodes c.classes.links c.numbers chain r.entry r.differences.items
      of_one r it = record {
        number = it.entry.formula;
        found = own_position chain has r.entry it.entry it.found;
        inside = (h.over.formulas r.entry it.entry it.found).within;
        in_turn = it.makes.in_turn;
        each = it.makes.each;
      }

-- the parts of the graph as they were read
pub as_read : (P : List Node → List Link → List ℕ → Type 0) (nodes more_nodes : List Node) (links more_links : List Link) (numbers more_numbers : List ℕ) → more_nodes ≡ nodes → more_links ≡ links → more_numbers ≡ numbers → P nodes links numbers → P more_nodes more_links more_numbers
as_read P nodes more_nodes links more_links numbers more_numbers e f g h = subst (λ ns. P ns more_links more_numbers) (sym e) (subst (λ ls. P nodes ls more_numbers) (sym f) (subst (P nodes links) (sym g) h))

-- ---- the rows

zip_length : {X Y : Type 0} (R : X → Y → Type 0) (xs : List X) (ys : List Y) → AllZip R xs ys → length xs ≡ length ys
zip_length R [] [] h = refl
zip_length R [] (y ∷ ys) h = absurd h
zip_length R (x ∷ xs) [] h = absurd h
zip_length R (x ∷ xs) (y ∷ ys) h = ap suc (zip_length R xs ys h.1)

record HasRow (class : TermData → ℕ) (ps : List FormulaData) (classes : List ℕ) (origin : RowOrigin) : Type 0 where
  row : Inequality
  is : IsRowFrom class ps classes row origin

zip_at : (class : TermData → ℕ) (ps : List FormulaData) (classes : List ℕ) (rows : List Inequality) (origins : List RowOrigin) → AllZip (IsRowFrom class ps classes) rows origins → (i : ℕ) (o : RowOrigin) → slice_get origins i ≡ Some o → HasRow class ps classes o
zip_at class ps classes [] [] h i o f = absurd (cc)
zip_at class ps classes [] (y ∷ ys) h i o f = absurd h
zip_at class ps classes (x ∷ xs) [] h i o f = absurd (cc)
zip_at class ps classes (x ∷ xs) (y ∷ ys) h zero o f = let same : y ≡ o = cc in record { row = x; is = subst (IsRowFrom class ps classes x) same h.0 }
zip_at class ps classes (x ∷ xs) (y ∷ ys) h (suc i) o f = zip_at class ps classes xs ys h.1 i o f

many_formulas : (ns : List Node) (es : List PoolEntry) → length (map formula_of (map (entry_in ns) es)) ≡ length es
many_formulas ns [] = refl
many_formulas ns (e ∷ es) = ap suc (many_formulas ns es)

module _ (ns : List Node) (d : BranchData) (c : BranchClassesData) (names : List ℕ) (find : ℕ → Option ℕ) (rows : BranchRows) (zs : List ℤ) (v : ℕ) (h : IsSetting ns d c names find rows zs v) where
  pub one_each : (read : List RowOrigin) → read ≡ rows.origins.items → length zs ≡ length read
  one_each read same = h.contradiction.one_each ∙ zip_length (IsRowFrom h.class (formulas (branch_in ns d)) rows.classes.keys) rows.rows rows.origins.items h.origins ∙ ap length (sym same)

  pub all_below : (read : List RowOrigin) (count : ℕ) → read ≡ rows.origins.items → count ≡ length d.entries → AreBelow read count
  all_below read count same long = subst (λ os. AreBelow os count) (sym same) (record { each = each })
    where
      each : (i : ℕ) (o : RowOrigin) → slice_get rows.origins.items i ≡ Some o → o.entry < count
      each i o f =
          let it = zip_at h.class (formulas (branch_in ns d)) rows.classes.keys rows.rows rows.origins.items h.origins i o f in
          let w = slice_get_within (formulas (branch_in ns d)) o.entry it.is.formula it.is.found in
          let l = many_formulas ns d.entries in
          omega (arith, w, l, long)

  -- ---- the entries at their indexes

  module _ (rs : List Rewriting) (are : AreRewritingsOf ns d c names find rs) (chain : ChainData) (has : HasEntries chain c.entries) (ms : List Node) (e : ChainData) (positions : List (Option ℕ)) (placed : ArePlacedBy ns chain c.numbers rs ms e positions) where
    at_found : (position : ℕ) (p : FormulaData) → IsAt ms e position p → slice_get (map (formula_at ms) e.formulas) position ≡ Some p
    at_found position p at = slice_get-map (formula_at ms) e.formulas position ∙ ap (option_map (formula_at ms)) at.found ∙ ap Some at.is

    one_placed : (origin : RowOrigin) (k : ℕ) (r : Rewriting) → slice_get rs k ≡ Some r → r.entry ≡ origin.entry → IsPlaced h.class h.chosen (formulas (branch_in ns d)) (map (formula_at ms) e.formulas) positions origin
    one_placed origin k r f same =
        let it = placed.each k r f in
        let other : Rewriting = it.has.rewriting in
        let re = are.each it.has.position it.has.rewriting it.has.found in
        let found : slice_get d.entries r.entry ≡ Some re.entry = subst (λ n. slice_get d.entries n ≡ Some re.entry) it.has.same re.found in
        let at : IsAt ms e it.position (formula_in (after_all ns c.numbers (item_at ns re.entry.formula) it.has.rewriting.differences.items)) = it.at.at re.entry.formula (own_position ns d c h.base chain has r.entry re.entry found) in
        let ends : formula_in (after_all ns c.numbers (item_at ns re.entry.formula) it.has.rewriting.differences.items) ≡ comparison_with (with_chosen h.chosen) (comparison_with (over h.class) (formula_at ns re.entry.formula)) = re.makes.ends h.class h.chosen (h.over_classes r.entry re.entry found) in
        record {
          position = it.position;
          found = ap (position_at positions) (sym same) ∙ it.found;
          stands = record {
            formula = formula_at ns re.entry.formula;
            found = ap (slice_get (formulas (branch_in ns d))) (sym same) ∙ entry_formula ns d r.entry re.entry found;
            stands = at_found it.position (comparison_with (with_chosen h.chosen) (comparison_with (over h.class) (formula_at ns re.entry.formula))) (subst (IsAt ms e it.position) ends at);
          };
        }

    pub all_placed : (read : List RowOrigin) (table : List (Option ℕ)) → read ≡ rows.origins.items → table ≡ positions → CoverRows rows.origins.items zs rs → ArePlaced h.class h.chosen (formulas (branch_in ns d)) (map (formula_at ms) e.formulas) read zs table
    all_placed read table same kept cover =
        subst (λ os. ArePlaced h.class h.chosen (formulas (branch_in ns d)) (map (formula_at ms) e.formulas) os zs table) (sym same)
        (subst (ArePlaced h.class h.chosen (formulas (branch_in ns d)) (map (formula_at ms) e.formulas) rows.origins.items zs) (sym kept) (record {
          each = λ i origin m f g other. (let k = cover.each i origin m f g other in one_placed origin k.position k.rewriting k.found k.same);
        }))

pub positions_below : (ns : List Node) (d : ChainData) (numbers : List ℕ) (rs : List Rewriting) (ms : List Node) (e : ChainData) (positions read : List (Option ℕ)) → read ≡ positions → ArePlacedBy ns d numbers rs ms e positions → AreBelowLimit (length e.formulas) read
positions_below ns d numbers rs ms e positions read same h = subst (AreBelowLimit (length e.formulas)) (sym same) (record { below = h.below })
