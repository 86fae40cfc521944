-- The state of a branch, as it is extended and truncated.
use Rattle.std.proofs.Common.{◌≡◌, ◌⊎◌, inl, inr, ℕ, zero, suc, ◌+◌, ◌-◌, ◌<◌, ◌≤◌, List, [], ◌∷◌, ◌++◌, length, map, take, set, get_or, Some, None, refl, sym, ap, ◌∙◌, subst, arith}
use Rattle.std.specs.Prelude.{slice_get, slice_index_or}
use Rattle.std.proofs.lemmas.Option.{slice_get_within, slice_get-get_or}
use Rattle.std.proofs.lemmas.List.{take_all, map_push, map_more, length_push, length-take-le}
use Rattle.term_pool.specs.Pools.{Extends}
use Rattle.term_pool.specs.declared.node.Node.{Node}
use Rattle.certificates.specs.BranchesBranch.{formulas}
use Rattle.certificates.specs.Names.{above_all}
use Rattle.tableau.specs.PoolBranches.{BranchData, entry_in, branch_in, IsFormulaNumber}
use Rattle.tableau.specs.declared.entry.PoolEntry.{PoolEntry}
use Rattle.tableau.specs.Numbers.{formula_at}
use Rattle.tableau.proofs.NumberLemmas.{number_stays, formula_stays}
use Rattle.tableau.specs.Variables.{AreAbove, AreEntriesAbove}
use Rattle.tableau.proofs.NamesListLemmas.{take_found, past_end}
use Rattle.tableau.proofs.VariablesLemmas.{nodes_grown, above_longer}
use Rattle.congruence_closure.specs.Known.{IsOver, AreInEntries}
use Rattle.congruence_closure.proofs.OverLemmas.{still_over, inside_more}
use Rattle.tableau.specs.Terms.{formula_number, AreClassesOf}
use Rattle.tableau.specs.States.{HaveNumbers, IsState, Follows, AreMarks, AreAllMarks, no_marks, last_of}
use Rattle.tableau.specs.declared.state.marks.Marks.{Marks}
use Rattle.tableau.specs.declared.state.BranchState.{BranchState}
use Rattle.tableau.proofs.StateMarkLemmas.{last_are, all_of_none, all_push, all_cut, all_set}

-- ---- lists

module _ {X : Type 0} where
  found_in_first : (count : ℕ) (xs : List X) (i : ℕ) (x : X) → slice_get (take count xs) i ≡ Some x → slice_get xs i ≡ Some x
  found_in_first zero xs i x e = absurd (none i e)
    where
      none : (k : ℕ) → slice_get [] k ≡ Some x → ⊥
      none k f = cc
  found_in_first (suc count) [] i x e = e
  found_in_first (suc count) (y ∷ ys) zero x e = e
  found_in_first (suc count) (y ∷ ys) (suc i) x e = found_in_first count ys i x e

  -- an item of an extended list is one of the first items, or the last one
  found_in_more : (xs : List X) (x : X) (i : ℕ) (y : X) → slice_get (xs ++ x ∷ []) i ≡ Some y → (slice_get xs i ≡ Some y) ⊎ (x ≡ y)
  found_in_more [] x zero y e = inr (cc)
  found_in_more [] x (suc i) y e = absurd (cc)
  found_in_more (z ∷ zs) x zero y e = inl e
  found_in_more (z ∷ zs) x (suc i) y e = found_in_more zs x i y e

  -- the common prefix extended by one item
  pub same_more : (xs ys : List X) (k : ℕ) (x : X) → take k xs ≡ take k ys → slice_get xs k ≡ Some x → slice_get ys k ≡ Some x → take (k + 1) xs ≡ take (k + 1) ys
  same_more xs ys k x front here there = take_found xs k x here ∙ (λ i. front i ++ x ∷ []) ∙ sym (take_found ys k x there)

  pub shared_more : (xs ys : List X) (k : ℕ) (d : X) → k < length xs → take k xs ≡ take k ys → slice_get ys k ≡ Some (get_or xs k d) → take (k + 1) xs ≡ take (k + 1) ys
  shared_more xs ys k d w front there = same_more xs ys k (get_or xs k d) front (slice_get-get_or xs k d w) there

  -- one more item decreases the number of the remaining ones
  pub nearer : (xs ys zs : List X) (x : X) → slice_get ys (length xs) ≡ Some x → zs ≡ xs ++ x ∷ [] → length ys - length zs < length ys - length xs
  nearer xs ys zs x found is =
      let within = slice_get_within ys (length xs) x found in
      let longer : length zs ≡ length xs + 1 = ap length is ∙ length_push xs x in
      omega (arith, within, longer)

  -- a prefix that has no next item is the whole list
  pub all_taken : (xs ys : List X) → xs ≡ take (length xs) ys → None ≡ slice_get ys (length xs) → xs ≡ ys
  all_taken xs ys e none = e ∙ take_all (length xs) ys (past_end ys (length xs) none)

  pub taken_more : (xs ys zs : List X) (x : X) → xs ≡ take (length xs) ys → slice_get ys (length xs) ≡ Some x → zs ≡ xs ++ x ∷ [] → zs ≡ take (length zs) ys
  taken_more xs ys zs x e here is =
      let longer : length zs ≡ length xs + 1 = ap length is ∙ length_push xs x in
      is ∙ (λ i. e i ++ x ∷ []) ∙ sym (take_found ys (length xs) x here) ∙ ap (λ k. take k ys) (sym longer)

  pub shared_taken : (xs ys zs : List X) (k : ℕ) → k ≤ length xs → take k xs ≡ take k ys → zs ≡ take k xs → zs ≡ take (length zs) ys
  shared_taken xs ys zs k within same is =
      let many : length zs ≡ k = ap length is ∙ length-take-le k xs within in
      is ∙ same ∙ ap (λ n. take n ys) (sym many)

-- ---- entries

pub no_numbers : (ns : List Node) → HaveNumbers ns []
no_numbers ns = record { each = λ i e found. absurd (cc) }

-- one more entry is added
pub put_more : (es : List PoolEntry) (i : ℕ) (d : PoolEntry) (before after : List ℕ) → i < length es → before ≡ map formula_number (take i es) → after ≡ before ++ (get_or es i d).formula ∷ [] → after ≡ map formula_number (take (i + 1) es)
put_more es i d before after w front more = more ∙ (λ k. front k ++ (get_or es i d).formula ∷ []) ∙ sym (map_more formula_number es i d w)

module _ (ns : List Node) where
  pub numbers_cut : (count : ℕ) (es : List PoolEntry) → HaveNumbers ns es → HaveNumbers ns (take count es)
  numbers_cut count es h = record { each = λ i e found. h.each i e (found_in_first count es i e found) }

  pub numbers_more : (es : List PoolEntry) (e : PoolEntry) → HaveNumbers ns es → IsFormulaNumber ns e.formula → HaveNumbers ns (es ++ e ∷ [])
  numbers_more es e h number = record { each = λ i x found. at i x (found_in_more es e i x found) }
    where
      at : (i : ℕ) (x : PoolEntry) → (slice_get es i ≡ Some x) ⊎ (e ≡ x) → IsFormulaNumber ns x.formula
      at i x (inl found) = h.each i x found
      at i x (inr same) = subst (λ y. IsFormulaNumber ns y.formula) same number

  pub number_at : (es : List PoolEntry) (i : ℕ) (e : PoolEntry) → HaveNumbers ns es → slice_get es i ≡ Some e → IsFormulaNumber ns e.formula
  number_at es i e h found = h.each i e found

  pub number_in : (es : List PoolEntry) (i : ℕ) (d : PoolEntry) → HaveNumbers ns es → i < length es → IsFormulaNumber ns (get_or es i d).formula
  number_in es i d h w = h.each i (get_or es i d) (slice_get-get_or es i d w)

  -- ---- the invariants

  -- the state before any entry
  pub state_begun : (s : BranchState) → s.entries.items ≡ [] → s.marks.items ≡ [] → AreAbove ns [] s.variables → IsOver ns s.classes → AreInEntries ns s.classes → s.classed.items ≡ [] → s.classes.entries ≡ [] → IsState ns s
  state_begun s entries marks variables classes inside classed none = record {
    numbers = subst (HaveNumbers ns) (sym entries) (no_numbers ns);
    variables = subst (λ es. AreAbove ns es s.variables) (sym entries) variables;
    classed_numbers = subst (HaveNumbers ns) (sym classed) (no_numbers ns);
    classes = classes;
    inside = inside;
    classed = none ∙ ap (map formula_number) (sym classed);
    marks = subst (λ es. AreAllMarks ns es s.marks.items) (sym entries) (subst (AreAllMarks ns []) (sym marks) (all_of_none ns));
  }

  -- the state after entries are removed
  pub state_cut : (s t : BranchState) (count : ℕ) → IsState ns s → t.entries.items ≡ take count s.entries.items → AreAbove ns (take count s.entries.items) t.variables → t.classes ≡ s.classes → t.classed ≡ s.classed → t.marks.items ≡ take count s.marks.items → IsState ns t
  state_cut s t count h entries variables classes classed marks = record {
    numbers = subst (HaveNumbers ns) (sym entries) (numbers_cut count s.entries.items h.numbers);
    variables = subst (λ es. AreAbove ns es t.variables) (sym entries) variables;
    classed_numbers = subst (λ v. HaveNumbers ns v.items) (sym classed) h.classed_numbers;
    classes = subst (IsOver ns) (sym classes) h.classes;
    inside = subst (AreInEntries ns) (sym classes) h.inside;
    classed = ap (λ x. x.entries) classes ∙ h.classed ∙ ap (λ v. map formula_number v.items) (sym classed);
    marks = subst (λ es. AreAllMarks ns es t.marks.items) (sym entries) (subst (AreAllMarks ns (take count s.entries.items)) (sym marks) (all_cut ns s.entries.items s.marks.items count h.marks));
  }

  -- the state after one more entry is added
  pub state_more : (s t : BranchState) (e : PoolEntry) → IsState ns s → IsFormulaNumber ns e.formula → t.entries.items ≡ s.entries.items ++ e ∷ [] → t.variables ≡ s.variables → t.classes ≡ s.classes → t.classed ≡ s.classed → t.marks.items ≡ s.marks.items ++ last_of s.marks.items ∷ [] → IsState ns t
  state_more s t e h number entries variables classes classed marks = record {
    numbers = subst (HaveNumbers ns) (sym entries) (numbers_more s.entries.items e h.numbers number);
    variables = subst (λ v. AreAbove ns t.entries.items v) (sym variables) (subst (λ es. AreAbove ns es s.variables) (sym entries) (above_longer ns s.entries.items (e ∷ []) s.variables h.variables));
    classed_numbers = subst (λ v. HaveNumbers ns v.items) (sym classed) h.classed_numbers;
    classes = subst (IsOver ns) (sym classes) h.classes;
    inside = subst (AreInEntries ns) (sym classes) h.inside;
    classed = ap (λ x. x.entries) classes ∙ h.classed ∙ ap (λ v. map formula_number v.items) (sym classed);
    marks = subst (λ es. AreAllMarks ns es t.marks.items) (sym entries) (subst (AreAllMarks ns (s.entries.items ++ e ∷ [])) (sym marks) (all_push ns s.entries.items s.marks.items e h.marks));
  }

  -- the state with other classes
  pub state_classed : (s t : BranchState) → IsState ns s → t.entries ≡ s.entries → t.variables ≡ s.variables → t.marks ≡ s.marks → HaveNumbers ns t.classed.items → IsOver ns t.classes → AreInEntries ns t.classes → t.classes.entries ≡ map formula_number t.classed.items → IsState ns t
  state_classed s t h entries variables marks numbers classes inside classed = record {
    numbers = subst (λ v. HaveNumbers ns v.items) (sym entries) h.numbers;
    variables = subst (λ v. AreAbove ns t.entries.items v) (sym variables) (subst (λ v. AreAbove ns v.items s.variables) (sym entries) h.variables);
    classed_numbers = numbers;
    classes = classes;
    inside = inside;
    classed = classed;
    marks = subst (λ v. AreAllMarks ns v.items t.marks.items) (sym entries) (subst (λ v. AreAllMarks ns s.entries.items v.items) (sym marks) h.marks);
  }

  -- one more formula among those that were added to the classes
  pub classed_more : (before after : List ℕ) (es fs : List PoolEntry) (e : PoolEntry) → before ≡ map formula_number es → after ≡ before ++ e.formula ∷ [] → fs ≡ es ++ e ∷ [] → after ≡ map formula_number fs
  classed_more before after es fs e front same more = same ∙ (λ i. front i ++ e.formula ∷ []) ∙ sym (map_push formula_number es e) ∙ ap (map formula_number) (sym more)

  -- the marks of the last entry are those of the branch
  pub marks_followed : (d : BranchData) (s : BranchState) → IsState ns s → Follows d s → AreMarks (branch_in ns d) (last_of s.marks.items)
  marks_followed d s h follows = subst (λ es. AreMarks (map (entry_in ns) es) (last_of s.marks.items)) follows.entries (last_are ns s.entries.items s.marks.items h.marks)

  -- the state with other marks
  pub state_marked : (s t : BranchState) (d : BranchData) (last : ℕ) (m : Marks) → last + 1 ≡ length s.marks.items → t.entries ≡ s.entries → t.variables ≡ s.variables → t.classes ≡ s.classes → t.classed ≡ s.classed → t.marks.items ≡ set s.marks.items last m → IsState ns s → Follows d s → AreMarks (branch_in ns d) m → IsState ns t
  state_marked s t d last m e entries variables classes classed marks h follows are =
      let es : t.entries.items ≡ s.entries.items = ap (λ x. x.items) entries in
      record {
        numbers = subst (HaveNumbers ns) (sym es) h.numbers;
        variables = subst (λ v. AreAbove ns t.entries.items v) (sym variables) (subst (λ xs. AreAbove ns xs s.variables) (sym es) h.variables);
        classed_numbers = subst (λ v. HaveNumbers ns v.items) (sym classed) h.classed_numbers;
        classes = subst (IsOver ns) (sym classes) h.classes;
        inside = subst (AreInEntries ns) (sym classes) h.inside;
        classed = ap (λ x. x.entries) classes ∙ h.classed ∙ ap (λ v. map formula_number v.items) (sym classed);
        marks = subst (λ xs. AreAllMarks ns xs t.marks.items) (sym es) (subst (AreAllMarks ns s.entries.items) (sym marks) (all_set ns s.entries.items s.marks.items last m e h.marks (subst (λ xs. AreMarks (map (entry_in ns) xs) m) (sym follows.entries) are)));
      }

  pub classes_followed : (d : BranchData) (s : BranchState) → IsState ns s → s.classed.items ≡ d.entries → AreClassesOf ns d s.classes
  classes_followed d s h same = record { over = h.classes; entries = h.classed ∙ ap (map formula_number) same }

module _ (ns ms : List Node) (grown : Extends ns ms) where
  same_entries : (k : ℕ) (es : List PoolEntry) → HaveNumbers ns es → map (entry_in ms) (take k es) ≡ map (entry_in ns) (take k es)
  same_entries zero es h = refl
  same_entries (suc k) [] h = refl
  same_entries (suc k) (e ∷ es) h =
      let first : formula_at ms e.formula ≡ formula_at ns e.formula = formula_stays ns ms grown e.formula (h.each 0 e refl) in
      let rest : map (entry_in ms) (take k es) ≡ map (entry_in ns) (take k es) = same_entries k es (record { each = λ i x f. h.each (suc i) x f }) in
      λ i. record { formula = first i; generation = e.generation; origin = e.origin } ∷ rest i

  above_stays : (es : List PoolEntry) → HaveNumbers ns es → (xs : List ℕ) → AreEntriesAbove ns es xs → AreEntriesAbove ms es xs
  above_stays es numbers xs h = record {
    few = h.few;
    each = λ i w. h.each i w ∙ ap (λ b. above_all (formulas b)) (sym (same_entries (i + 1) es numbers));
  }

  pub numbers_stay : (es : List PoolEntry) → HaveNumbers ns es → HaveNumbers ms es
  numbers_stay es h = record { each = λ i e found. number_stays ns ms grown e.formula (h.each i e found) }

  pub state_stays : (s : BranchState) → IsState ns s → IsState ms s
  state_stays s h = record {
    numbers = numbers_stay s.entries.items h.numbers;
    variables = record {
      nodes = nodes_grown ns ms grown s.variables.nodes h.variables.nodes;
      entries = above_stays s.entries.items h.numbers s.variables.entries h.variables.entries;
      names = h.variables.names;
    };
    classed_numbers = numbers_stay s.classed.items h.classed_numbers;
    classes = still_over ns ms s.classes grown h.classes;
    inside = inside_more ns ms s.classes grown h.inside;
    classed = h.classed;
    marks = record {
      one_each = h.marks.one_each;
      each = λ k w. subst (λ b. AreMarks b (slice_index_or s.marks.items k no_marks)) (sym (same_entries (k + 1) s.entries.items h.numbers)) (h.marks.each k w);
    };
  }
