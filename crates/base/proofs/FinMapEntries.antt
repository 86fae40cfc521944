-- A `BTreeMap` over names, as the finite map of its entries.
use Rattle.std.proofs.Common.{◌≡◌, ℕ, List, [], ◌∷◌, cond, Some, refl, sym, ap, ◌∙◌}
use Rattle.std.specs.Ordering.{nat_cmp, eq_by_cmp}
use Rattle.std.specs.Cmp.Lexicographic.{slice_cmp, nat_list_cmp_total}
use Rattle.std.specs.Cmp.{eq_by_cmp_equiv}
use Rattle.std.specs.Map.{lookup}
use Rattle.std.specs.BTreeMap.{BTreeMap, is_at}
use Rattle.std.specs.BTreeMap as tree
use Rattle.std.specs.FinMap.{from_entries, find, get, insert, get-from_entries, get-insert, same_map, slice_cmp-IsAntisymmetric, nat_cmp-IsAntisymmetric}

module _ {X : Type 0} where
  lookup-find : (q : List ℕ) (es : List (List ℕ × X)) → lookup (is_at (slice_cmp nat_cmp q)) es ≡ find (slice_cmp nat_cmp) q es
  lookup-find q [] = refl
  lookup-find q (e ∷ es) = ap (cond (eq_by_cmp (slice_cmp nat_cmp) q e.0) (Some e.1)) (lookup-find q es)

  -- the tree finds at a name what the finite map has there
  pub get-tree : (m : BTreeMap (List ℕ) X) (q : List ℕ) → tree.get (slice_cmp nat_cmp) m q ≡ get (from_entries {R = slice_cmp nat_cmp} m.entries) q
  get-tree m q = lookup-find q m.entries ∙ sym (get-from_entries nat_list_cmp_total m.entries q)

  -- a tree after an insertion is the finite map after it
  pub from_entries-updates : (m n : BTreeMap (List ℕ) X) (k : List ℕ) (v : X) → tree.Updates (slice_cmp nat_cmp) m n k (Some v) → from_entries {R = slice_cmp nat_cmp} n.entries ≡ insert (from_entries m.entries) k v
  from_entries-updates m n k v u = same_map nat_list_cmp_total (slice_cmp-IsAntisymmetric nat_cmp-IsAntisymmetric) _ _
      (λ q. sym (get-tree n q) ∙ u.0 q
      ∙ ap (λ b. cond b (Some v) (tree.get (slice_cmp nat_cmp) m q)) ((eq_by_cmp_equiv nat_list_cmp_total).symm k q)
      ∙ ap (cond (eq_by_cmp (slice_cmp nat_cmp) q k) (Some v)) (get-tree m q)
      ∙ sym (get-insert nat_list_cmp_total (from_entries m.entries) k v q))
