-- A total order on the trees of numbers by which the logic codes pure data, which gives a total order of all data with
-- such a code.
use base.Stored.{Gv, gnil, gnum, gcons}
use Rattle.std.specs.Prelude.{◌≡◌, Bool, true, refl}
use Rattle.std.specs.declared.cmp.Ordering.{Ordering}
use Rattle.std.specs.declared.cmp.Ordering.TheVariants.{Less, Equal, Greater}
use Rattle.std.specs.Ordering.{nat_cmp, ordering_then, ordering_reverse, is_eq}
use Rattle.std.specs.Cmp.{IsTotalOrder, nat_cmp_total, then_flip, tied_itself, Equal-is}
use Rattle.std.specs.FinMap.{nat_cmp-IsAntisymmetric}
use Rattle.std.proofs.Common.{ap, ◌∙◌, sym, subst}

abbrev pub compare_trees : Gv → Gv → Ordering
compare_trees gnil gnil = Equal
compare_trees gnil (gnum n) = Less
compare_trees gnil (gcons c d) = Less
compare_trees (gnum m) gnil = Greater
compare_trees (gnum m) (gnum n) = nat_cmp m n
compare_trees (gnum m) (gcons c d) = Less
compare_trees (gcons a b) gnil = Greater
compare_trees (gcons a b) (gnum n) = Greater
compare_trees (gcons a b) (gcons c d) = ordering_then (compare_trees a c) (compare_trees b d)

abbrev pub same_tree : Gv → Gv → Bool
same_tree a b = is_eq (compare_trees a b)

-- an ordering and its tie-break are both `Equal` where their combination is
then_equal : (o p : Ordering) → ordering_then o p ≡ Equal → (o ≡ Equal) × (p ≡ Equal)
then_equal Less p e = absurd (cc)
then_equal Equal p e = (refl, e)
then_equal Greater p e = absurd (cc)

-- trees that compare as `Equal` are equal
pub equal_trees : (a b : Gv) → compare_trees a b ≡ Equal → a ≡ b
equal_trees gnil gnil e = refl
equal_trees gnil (gnum n) e = absurd (cc)
equal_trees gnil (gcons c d) e = absurd (cc)
equal_trees (gnum m) gnil e = absurd (cc)
equal_trees (gnum m) (gnum n) e = ap gnum (nat_cmp-IsAntisymmetric m n e)
equal_trees (gnum m) (gcons c d) e = absurd (cc)
equal_trees (gcons a b) gnil e = absurd (cc)
equal_trees (gcons a b) (gnum n) e = absurd (cc)
equal_trees (gcons a b) (gcons c d) e =
    let both = then_equal (compare_trees a c) (compare_trees b d) e in
    let left : a ≡ c = equal_trees a c both.0 in
    let right : b ≡ d = equal_trees b d both.1 in
    λ i. gcons (left i) (right i)

antisymm : (a b : Gv) → compare_trees a b ≡ ordering_reverse (compare_trees b a)
antisymm gnil gnil = refl
antisymm gnil (gnum n) = refl
antisymm gnil (gcons c d) = refl
antisymm (gnum m) gnil = refl
antisymm (gnum m) (gnum n) = nat_cmp_total.antisymm m n
antisymm (gnum m) (gcons c d) = refl
antisymm (gcons a b) gnil = refl
antisymm (gcons a b) (gnum n) = refl
antisymm (gcons a b) (gcons c d) =
    (λ i. ordering_then (antisymm a c i) (antisymm b d i)) ∙ then_flip (compare_trees c a) (compare_trees d b)

-- the same for pairs, from their components
pairs_trans : (a b c d e f : Gv) → (compare_trees a c ≡ Less → compare_trees c e ≡ Less → compare_trees a e ≡ Less) → (compare_trees b d ≡ Less → compare_trees d f ≡ Less → compare_trees b f ≡ Less) → (o p : Ordering) → compare_trees a c ≡ o → compare_trees c e ≡ p → ordering_then o (compare_trees b d) ≡ Less → ordering_then p (compare_trees d f) ≡ Less → ordering_then (compare_trees a e) (compare_trees b f) ≡ Less
pairs_trans a b c d e f left right Less Less x y h k = ap (λ o. ordering_then o (compare_trees b f)) (left x y)
pairs_trans a b c d e f left right Less Equal x y h k =
    ap (λ o. ordering_then o (compare_trees b f)) (subst (λ t. compare_trees a t ≡ Less) (equal_trees c e y) x)
pairs_trans a b c d e f left right Less Greater x y h k = absurd (cc)
pairs_trans a b c d e f left right Equal Less x y h k =
    ap (λ o. ordering_then o (compare_trees b f)) (subst (λ t. compare_trees t e ≡ Less) (sym (equal_trees a c x)) y)
pairs_trans a b c d e f left right Equal Equal x y h k =
    ap (λ o. ordering_then o (compare_trees b f)) (subst (λ t. compare_trees t e ≡ Equal) (sym (equal_trees a c x)) y) ∙ right h k
pairs_trans a b c d e f left right Equal Greater x y h k = absurd (cc)
pairs_trans a b c d e f left right Greater p x y h k = absurd (cc)

trans : (a b c : Gv) → compare_trees a b ≡ Less → compare_trees b c ≡ Less → compare_trees a c ≡ Less
trans gnil gnil c h k = absurd (cc)
trans gnil (gnum n) gnil h k = absurd (cc)
trans gnil (gnum n) (gnum l) h k = refl
trans gnil (gnum n) (gcons e f) h k = refl
trans gnil (gcons c d) gnil h k = absurd (cc)
trans gnil (gcons c d) (gnum l) h k = refl
trans gnil (gcons c d) (gcons e f) h k = refl
trans (gnum m) gnil c h k = absurd (cc)
trans (gnum m) (gnum n) gnil h k = absurd (cc)
trans (gnum m) (gnum n) (gnum l) h k = nat_cmp_total.trans m n l h k
trans (gnum m) (gnum n) (gcons e f) h k = refl
trans (gnum m) (gcons c d) gnil h k = absurd (cc)
trans (gnum m) (gcons c d) (gnum l) h k = absurd (cc)
trans (gnum m) (gcons c d) (gcons e f) h k = refl
trans (gcons a b) gnil c h k = absurd (cc)
trans (gcons a b) (gnum n) c h k = absurd (cc)
trans (gcons a b) (gcons c d) gnil h k = absurd (cc)
trans (gcons a b) (gcons c d) (gnum l) h k = absurd (cc)
trans (gcons a b) (gcons c d) (gcons e f) h k =
    pairs_trans a b c d e f (trans a c e) (trans b d f) (compare_trees a c) (compare_trees c e) refl refl h k

-- the laws of a total order
pub tree_total : IsTotalOrder compare_trees
tree_total = record { antisymm = antisymm; trans = trans; congr = λ a b c e. ap (λ t. compare_trees t c) (equal_trees a b e) }

-- the test is true of equal trees alone
pub same_tree-equal : (a b : Gv) → same_tree a b ≡ true → a ≡ b
same_tree-equal a b e = equal_trees a b ((Equal-is (compare_trees a b)).0 e)

pub same_tree_itself : (a : Gv) → same_tree a a ≡ true
same_tree_itself a = (Equal-is (compare_trees a a)).1 (tied_itself tree_total a)
