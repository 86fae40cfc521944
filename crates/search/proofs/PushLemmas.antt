-- The entries of an extension, while they are added to the branch or become pending.
use Rattle.std.proofs.Common.{◌≡◌, ℕ, zero, suc, ◌+◌, ◌<◌, ◌≤◌, List, [], ◌∷◌, ◌++◌, length, take, drop, map, get_or, reverse, refl, sym, ap, ◌∙◌, subst, arith, append_assoc}
use Rattle.std.proofs.lemmas.List.{map_push, take_more, take_all, length-map, reverse-append}
use Rattle.term_pool.specs.declared.node.Node.{Node}
use Rattle.certificates.specs.declared.branches.origin.Origin.{Origin}
use Rattle.tableau.specs.PoolBranches.{BranchData, IsOver}
use Rattle.tableau.specs.declared.entry.PoolEntry.{PoolEntry}
use Rattle.search.specs.Applications.{origin_of}
use Rattle.search.specs.Trees.{frames, entries_of}
use Rattle.search.specs.declared.trees.application.Extension.{Extension}
use Rattle.search.specs.declared.trees.tree.Waiting.{Waiting}

abbrev pub entry_with : ℕ → ℕ → Origin → PoolEntry
entry_with n g o = record { formula = n; generation = g; origin = o }

abbrev pub entry_for : Extension → ℕ → PoolEntry
entry_for g n = entry_with n g.generation (origin_of g.reason)

-- the first entries are added to the branch
pub record IsPushing (ns : List Node) (es : List PoolEntry) (g : Extension) (count : ℕ) (d : BranchData) : Type 0 where
  pub over : IsOver ns d
  pub entries : d.entries ≡ es ++ map (entry_for g) (take count g.formulas.items)

pub pushed_more : (es : List PoolEntry) (g : Extension) (count : ℕ) (ds : List PoolEntry) → count < length g.formulas.items → ds ≡ es ++ map (entry_for g) (take count g.formulas.items) → ds ++ entry_for g (get_or g.formulas.items count 0) ∷ [] ≡ es ++ map (entry_for g) (take (count + 1) g.formulas.items)
pushed_more es g count ds w e =
    ap (λ xs. xs ++ entry_for g (get_or g.formulas.items count 0) ∷ []) e
    ∙ append_assoc es (map (entry_for g) (take count g.formulas.items)) (entry_for g (get_or g.formulas.items count 0) ∷ [])
    ∙ ap (λ xs. es ++ xs) (sym (map_push (entry_for g) (take count g.formulas.items) (get_or g.formulas.items count 0)) ∙ ap (map (entry_for g)) (sym (take_more g.formulas.items count 0 w)))

pub pushed_all : (es : List PoolEntry) (g : Extension) (count : ℕ) → length g.formulas.items ≤ count → es ++ map (entry_for g) (take count g.formulas.items) ≡ es ++ entries_of g
pushed_all es g count w = ap (λ xs. es ++ map (entry_for g) xs) (take_all count g.formulas.items w)

-- ---- pending entries

drop_less : {X : Type 0} (xs : List X) (k : ℕ) (d : X) → k < length xs → drop k xs ≡ get_or xs k d ∷ drop (suc k) xs
drop_less [] k d w = absurd (omega (arith, w))
drop_less (x ∷ xs) zero d w = refl
drop_less (x ∷ xs) (suc k) d w = drop_less xs k d (omega (arith, w))

mapped_at : (g : Extension) (xs : List ℕ) (k : ℕ) (d : PoolEntry) → k < length xs → get_or (map (entry_for g) xs) k d ≡ entry_for g (get_or xs k 0)
mapped_at g [] k d w = absurd (omega (arith, w))
mapped_at g (x ∷ xs) zero d w = refl
mapped_at g (x ∷ xs) (suc k) d w = mapped_at g xs k d (omega (arith, w))

-- the branches of the entries from this one on are pending
pub record AreLeftWaiting (mark : ℕ) (g : Extension) (before : List Waiting) (count : ℕ) (ws : List Waiting) : Type 0 where
  pub some : 0 < count
  pub within : count ≤ length g.formulas.items
  pub waiting : reverse ws ≡ frames mark (drop count (entries_of g)) ++ reverse before

drop_past : {X : Type 0} (xs : List X) → drop (length xs) xs ≡ []
drop_past [] = refl
drop_past (x ∷ xs) = drop_past xs

pub waiting_begun : (mark : ℕ) (g : Extension) (ws : List Waiting) → 0 < length g.formulas.items → AreLeftWaiting mark g ws (length g.formulas.items) ws
waiting_begun mark g ws some = record {
  some = some;
  within = omega arith;
  waiting = (
      let l : length (entries_of g) ≡ length g.formulas.items = length-map g.formulas.items (entry_for g) in
      let none : drop (length g.formulas.items) (entries_of g) ≡ [] = ap (λ k. drop k (entries_of g)) (sym l) ∙ drop_past (entries_of g) in
      sym (ap (λ ds. frames mark ds ++ reverse ws) none));
}

waiting_more : (mark : ℕ) (g : Extension) (before : List Waiting) (count : ℕ) (ws : List Waiting) → AreLeftWaiting mark g before (suc count) ws → 0 < count → AreLeftWaiting mark g before count (ws ++ record { mark = mark; entry = entry_for g (get_or g.formulas.items count 0) } ∷ [])
waiting_more mark g before count ws h some = record {
  some = some;
  within = (let w = h.within in omega (arith, w));
  waiting = (
      let w = h.within in
      let l : length (entries_of g) ≡ length g.formulas.items = length-map g.formulas.items (entry_for g) in
      let here : drop count (entries_of g) ≡ get_or (entries_of g) count (entry_for g 0) ∷ drop (suc count) (entries_of g) = drop_less (entries_of g) count (entry_for g 0) (omega (arith, w, l)) in
      let one : get_or (entries_of g) count (entry_for g 0) ≡ entry_for g (get_or g.formulas.items count 0) = mapped_at g g.formulas.items count (entry_for g 0) (omega (arith, w)) in
      let new : Waiting = record { mark = mark; entry = entry_for g (get_or g.formulas.items count 0) } in
      reverse-append ws (new ∷ []) ∙ ap (λ xs. new ∷ xs) h.waiting ∙ sym (ap (λ ds. frames mark ds ++ reverse before) (here ∙ ap (λ x. x ∷ drop (suc count) (entries_of g)) one)));
}

pub waiting_pushed : (mark : ℕ) (g : Extension) (before : List Waiting) (n k : ℕ) (ws vs : List Waiting) (e : PoolEntry) → n ≡ suc k → 0 < k → e ≡ entry_for g (get_or g.formulas.items k 0) → vs ≡ ws ++ record { mark = mark; entry = e } ∷ [] → AreLeftWaiting mark g before n ws → AreLeftWaiting mark g before k vs
waiting_pushed mark g before n k ws vs e is some one pushed h =
    subst (AreLeftWaiting mark g before k) (sym (pushed ∙ ap (λ x. ws ++ record { mark = mark; entry = x } ∷ []) one)) (waiting_more mark g before k ws (subst (λ m. AreLeftWaiting mark g before m ws) is h) some)

-- the branches of all entries but the first are pending
pub waiting_done : (mark : ℕ) (g : Extension) (before : List Waiting) (count : ℕ) (ws : List Waiting) → count ≤ 1 → AreLeftWaiting mark g before count ws → reverse ws ≡ frames mark (drop 1 (entries_of g)) ++ reverse before
waiting_done mark g before count ws w h = (
    let some = h.some in
    let one : count ≡ 1 = omega (arith, w, some) in
    h.waiting ∙ ap (λ k. frames mark (drop k (entries_of g)) ++ reverse before) one)
