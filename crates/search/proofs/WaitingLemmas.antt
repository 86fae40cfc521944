-- Pending branches, while the current one gets longer and shorter.
use Rattle.std.proofs.Common.{◌≡◌, ℕ, ◌≤◌, List, [], ◌∷◌, ◌++◌, length, take, map, refl, ◌∙◌, arith, length-append}
use Rattle.std.proofs.lemmas.List.{take-append-le, take-take, take_all, length-take-le}
use Rattle.term_pool.specs.declared.node.Node.{Node}
use Rattle.tableau.specs.declared.entry.PoolEntry.{PoolEntry}
use Rattle.search.specs.Trees.{branch_of, waiting_in, AreStacked, frames}
use Rattle.search.specs.declared.trees.tree.Waiting.{Waiting}

module _ (ns : List Node) where
  pub waiting_longer : (es ds : List PoolEntry) (n : ℕ) (ws : List Waiting) → n ≤ length es → AreStacked n ws → waiting_in ns (es ++ ds) ws ≡ waiting_in ns es ws
  waiting_longer es ds n [] within stacked = refl
  waiting_longer es ds n (w ∷ ws) within stacked =
      let m = stacked.0 in
      let first : take w.mark (es ++ ds) ≡ take w.mark es = take-append-le w.mark es ds (omega (arith, m, within)) in
      let later : waiting_in ns (es ++ ds) ws ≡ waiting_in ns es ws = waiting_longer es ds w.mark ws (omega (arith, m, within)) stacked.1 in
      λ i. branch_of ns (first i ++ w.entry ∷ []) ∷ later i

  pub waiting_shorter : (es : List PoolEntry) (m n : ℕ) (ws : List Waiting) → m ≤ n → AreStacked m ws → waiting_in ns (take n es) ws ≡ waiting_in ns es ws
  waiting_shorter es m n [] within stacked = refl
  waiting_shorter es m n (w ∷ ws) within stacked =
      let k = stacked.0 in
      let first : take w.mark (take n es) ≡ take w.mark es = take-take w.mark n es (omega (arith, k, within)) in
      let later : waiting_in ns (take n es) ws ≡ waiting_in ns es ws = waiting_shorter es w.mark n ws (omega (arith, k, within)) stacked.1 in
      λ i. branch_of ns (first i ++ w.entry ∷ []) ∷ later i

  pub waiting_frames : (es ds : List PoolEntry) (ws : List Waiting) → waiting_in ns es (frames (length es) ds ++ ws) ≡ map (λ (d : PoolEntry). branch_of ns (es ++ d ∷ [])) ds ++ waiting_in ns es ws
  waiting_frames es [] ws = refl
  waiting_frames es (d ∷ ds) ws =
      let whole : take (length es) es ≡ es = take_all (length es) es (omega arith) in
      let rest = waiting_frames es ds ws in
      λ i. branch_of ns (whole i ++ d ∷ []) ∷ rest i

  -- a pending branch becomes the current one
  pub waiting_resumed : (es : List PoolEntry) (w : Waiting) (ws : List Waiting) → w.mark ≤ length es → AreStacked w.mark ws → waiting_in ns (take w.mark es ++ w.entry ∷ []) ws ≡ waiting_in ns es ws
  waiting_resumed es w ws within stacked =
      let short : length (take w.mark es) ≡ w.mark = length-take-le w.mark es within in
      waiting_longer (take w.mark es) (w.entry ∷ []) w.mark ws (omega (arith, short)) stacked ∙ waiting_shorter es w.mark w.mark ws (omega arith) stacked

pub stacked_higher : (m n : ℕ) (ws : List Waiting) → m ≤ n → AreStacked m ws → AreStacked n ws
stacked_higher m n [] within stacked = tt
stacked_higher m n (w ∷ ws) within stacked = (let k = stacked.0 in omega (arith, k, within), stacked.1)

pub stacked_frames : (n : ℕ) (ds : List PoolEntry) (ws : List Waiting) → AreStacked n ws → AreStacked n (frames n ds ++ ws)
stacked_frames n [] ws stacked = stacked
stacked_frames n (d ∷ ds) ws stacked = (omega arith, stacked_frames n ds ws stacked)

pub stacked_resumed : (es : List PoolEntry) (w : Waiting) (ws : List Waiting) → w.mark ≤ length es → AreStacked w.mark ws → AreStacked (length (take w.mark es ++ w.entry ∷ [])) ws
stacked_resumed es w ws within stacked =
    let short : length (take w.mark es) ≡ w.mark = length-take-le w.mark es within in
    let whole = length-append (take w.mark es) (w.entry ∷ []) in
    stacked_higher w.mark (length (take w.mark es ++ w.entry ∷ [])) ws (omega (arith, short, whole)) stacked
