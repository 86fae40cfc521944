-- The tests of combinations by the checker agree with their definition.
use Rattle.std.proofs.Common.{◌≡◌, ◌↔◌, ◌⊎◌, inl, inr, ℕ, zero, suc, ◌+◌, ◌<◌, ◌≤◌, ℤ, pos, negsuc, ◌+ℤ◌, ◌-ℤ◌, ◌*ℤ◌, ◌<ℤ◌, List, [], ◌∷◌, length, get_or, take, drop, Option, Some, None, Bool, true, false, cond, slice_get, refl, sym, ap, ◌∙◌, subst, arith, add-one, drop-cons}
use Rattle.std.specs.Prelude.{IsTrue, All}
use Rattle.std.proofs.lemmas.Int.{ints}
use Rattle.std.proofs.lemmas.List.Elements.{All-nil, All-cons, All-head, All-tail, All-get_or, All-more}
use lib.IntN.{*ℤ-zero}
use Rattle.std.proofs.lemmas.List.{take_all}
use Rattle.base.proofs.TruthValues.{true_is, not_true}
use Rattle.fol.specs.declared.operators.Binary.TheVariants.{Add, Mul, Sub}
use Rattle.fol.specs.declared.operators.Constant.TheVariants.{Num}
use Rattle.fol.specs.FormulaData.{TermData, MulTerm, FormulaData, BinaryTerm, ConstantTerm}
use Rattle.certificates.specs.declared.certificate.Multiple.{Multiple}
use Rattle.certificates.specs.Linear.{kept, kept_of, same_term, numeral_of, Part, unknown_weight, product_weight, weight, Row, row_of_entry, row_weight, combined, total, MayMultiply, MayCount, IsContradiction}
use Rattle.certificates.specs.Unknowns.{EachUnknown, EachOfProduct, IsGone, RowGone, Cancels}
use Rattle.certificates.proofs.Sums.{same_term-equal, same_term_itself}

-- ---- a positive number

pub positive_some : (o : Option ℤ) (z : ℤ) (b : Bool) → o ≡ Some z → IsTrue b ↔ (pos 0 <ℤ z) → IsTrue b ↔ ((n : ℕ) × (o ≡ Some (pos (suc n))))
positive_some o (pos zero) b e t =
    (λ h. absurd (omega (arith, ints, t.0 h)), λ p. let same : Some (pos zero) ≡ Some (pos (suc p.0)) = sym e ∙ p.1 in absurd (cc))
positive_some o (pos (suc n)) b e t = (λ h. (n, e), λ p. t.1 (omega (arith, ints)))
positive_some o (negsuc n) b e t =
    (λ h. absurd (omega (arith, ints, t.0 h)), λ p. let same : Some (negsuc n) ≡ Some (pos (suc p.0)) = sym e ∙ p.1 in absurd (cc))

-- ---- the weight of an unknown

by_same : (b : Bool) (x y z : Option ℤ) → b ≡ true → x ≡ y → x ≡ cond b y z
by_same true x y z e f = f
by_same false x y z e f = absurd (cc)

by_other : (b : Bool) (x y z : Option ℤ) → b ≡ false → x ≡ z → x ≡ cond b y z
by_other true x y z e f = absurd (cc)
by_other false x y z e f = f

other_terms : (t u : TermData) → (t ≡ u → ⊥) → (b : Bool) → same_term t u ≡ b → same_term t u ≡ false
other_terms t u differ true e = absurd (differ (same_term-equal t u e))
other_terms t u differ false e = e

pub weight_same : (part : Part) (t u : TermData) (b : Bool) → part ≡ Some u → IsTrue b ↔ (t ≡ u) → b ≡ true → Some (pos 1) ≡ unknown_weight part t
weight_same part t u b e test h =
    let same : t ≡ u = test.0 (true_is b h) in
    let equal : same_term t u ≡ true = subst (λ v. same_term t v ≡ true) same (same_term_itself t) in
    subst (λ p. Some (pos 1) ≡ unknown_weight p t) (sym e) (by_same (same_term t u) (Some (pos 1)) (Some (pos 1)) (Some (pos 0)) equal refl)

pub weight_other : (part : Part) (t u : TermData) (b : Bool) → part ≡ Some u → IsTrue b ↔ (t ≡ u) → b ≡ false → Some (pos 0) ≡ unknown_weight part t
weight_other part t u b e test h =
    let other : same_term t u ≡ false = other_terms t u (λ same. not_true b h (test.1 same)) (same_term t u) refl in
    subst (λ p. Some (pos 0) ≡ unknown_weight p t) (sym e) (by_other (same_term t u) (Some (pos 0)) (Some (pos 1)) (Some (pos 0)) other refl)

-- ---- a sum, one more entry at a time

pub combined-drop : (part : Part) (entries : List FormulaData) (sum : Option ℤ) (ms : List Multiple) (i : ℕ) (m : Multiple) → i < length ms → m ≡ get_or ms i m → combined part entries sum (drop i ms) ≡ combined part entries (kept_of ◌+ℤ◌ sum (kept_of ◌*ℤ◌ (Some m.multiplier) (row_weight part (row_of_entry (slice_get entries m.entry))))) (drop (i + 1) ms)
combined-drop part entries sum ms i m h e =
    let here : drop i ms ≡ get_or ms i m ∷ drop (i + 1) ms = rw add-one (drop-cons ms i m h) in
    let first : drop i ms ≡ m ∷ drop (i + 1) ms = here ∙ ap (λ x. x ∷ drop (i + 1) ms) (sym e) in
    ap (combined part entries sum) first

-- ---- unknowns that cancel

-- an unknown has no weight in a term, or is one of its unknowns
sum_cases : (P : Type 0) (op : ℤ → ℤ → ℤ) (x y : Option ℤ) → op (pos 0) (pos 0) ≡ pos 0 → (x ≡ Some (pos 0)) ⊎ P → (y ≡ Some (pos 0)) ⊎ P → (kept_of op x y ≡ Some (pos 0)) ⊎ P
sum_cases P op x y z (inl e) (inl f) = inl ((λ i. kept_of op (e i) (f i)) ∙ ap kept z)
sum_cases P op x y z (inl e) (inr p) = inr p
sum_cases P op x y z (inr p) f = inr p

times_cases : (P : Type 0) (m : ℤ) (x : Option ℤ) → (x ≡ Some (pos 0)) ⊎ P → (kept_of ◌*ℤ◌ (Some m) x ≡ Some (pos 0)) ⊎ P
times_cases P m x (inl e) = inl (ap (kept_of ◌*ℤ◌ (Some m)) e ∙ ap kept (*ℤ-zero m))
times_cases P m x (inr p) = inr p

product_cases : (P : Type 0) (l r x y z : Option ℤ) (L R W : Type 0) → (L → (x ≡ Some (pos 0)) ⊎ P) → (R → (y ≡ Some (pos 0)) ⊎ P) → (W → (z ≡ Some (pos 0)) ⊎ P) → EachOfProduct l r L R W → (product_weight l r x y z ≡ Some (pos 0)) ⊎ P
product_cases P (Some m) r x y z L R W f g h e = times_cases P m y (g e)
product_cases P None (Some m) x y z L R W f g h e = times_cases P m x (f e)
product_cases P None None x y z L R W f g h e = h e

module _ (P : TermData → Type 0) (x : TermData) where
  leaf_cases : (t : TermData) → P t → (b : Bool) → same_term t x ≡ b → (cond b (Some (pos 1)) (Some (pos 0)) ≡ Some (pos 0)) ⊎ P x
  leaf_cases t p true e = inr (subst P (same_term-equal t x e) p)
  leaf_cases t p false e = inl refl

  pub term_cases : (t : TermData) → EachUnknown P t → (weight (Some x) t ≡ Some (pos 0)) ⊎ P x
  term_cases (ConstantTerm (Num i)) h = inl refl
  term_cases (BinaryTerm Add t u) h =
      sum_cases (P x) ◌+ℤ◌ (weight (Some x) t) (weight (Some x) u) refl (term_cases t h.0) (term_cases u h.1)
  term_cases (BinaryTerm Sub t u) h =
      sum_cases (P x) ◌-ℤ◌ (weight (Some x) t) (weight (Some x) u) refl (term_cases t h.0) (term_cases u h.1)
  term_cases (BinaryTerm Mul t u) h =
      product_cases (P x) (numeral_of t) (numeral_of u) (weight (Some x) t) (weight (Some x) u) (unknown_weight (Some x) (MulTerm t u)) _ _ _ (term_cases t) (term_cases u) (λ p. leaf_cases (MulTerm t u) p (same_term (MulTerm t u) x) refl) h
  term_cases t h = leaf_cases t h (same_term t x) refl

module _ (entries : List FormulaData) (ms : List Multiple) (x : TermData) where
  row_cases : (r : Option Row) → RowGone entries ms r → (row_weight (Some x) r ≡ Some (pos 0)) ⊎ IsGone entries ms x
  row_cases None h = absurd h
  row_cases (Some row) h =
      sum_cases (IsGone entries ms x) ◌+ℤ◌ _ (Some (pos 0)) refl (sum_cases (IsGone entries ms x) ◌-ℤ◌ _ _ refl (term_cases (IsGone entries ms) x row.lesser h.0) (term_cases (IsGone entries ms) x row.greater h.1)) (inl refl)

  -- each entry of a list has a row whose unknowns cancel
  abbrev EachCancels : List Multiple → Type 0
  EachCancels [] = Unit {0}
  EachCancels (k ∷ ks) = Cancels entries ms k × EachCancels ks

  combined_cases : (ks : List Multiple) → EachCancels ks → (combined (Some x) entries (Some (pos 0)) ks ≡ Some (pos 0)) ⊎ IsGone entries ms x
  combined_cases [] h = inl refl
  combined_cases (k ∷ ks) h = go _ (sum_cases (IsGone entries ms x) ◌+ℤ◌ (Some (pos 0)) _ refl (inl refl) (times_cases (IsGone entries ms x) k.multiplier _ (row_cases (row_of_entry (slice_get entries k.entry)) h.0))) (combined_cases ks h.1)
    where
      go : (sum : Option ℤ) → (sum ≡ Some (pos 0)) ⊎ IsGone entries ms x → (combined (Some x) entries (Some (pos 0)) ks ≡ Some (pos 0)) ⊎ IsGone entries ms x → (combined (Some x) entries sum ks ≡ Some (pos 0)) ⊎ IsGone entries ms x
      go sum (inl e) (inl f) = inl (ap (λ z. combined (Some x) entries z ks) e ∙ f)
      go sum (inl e) (inr p) = inr p
      go sum (inr p) f = inr p

  gone_by : (combined (Some x) entries (Some (pos 0)) ms ≡ Some (pos 0)) ⊎ IsGone entries ms x → IsGone entries ms x
  gone_by (inl e) = e
  gone_by (inr p) = p

  each_of : (ks : List Multiple) → All (Cancels entries ms) ks → EachCancels ks
  each_of [] h = tt
  each_of (k ∷ ks) h = (All-head (Cancels entries ms) k ks h, each_of ks (All-tail (Cancels entries ms) k ks h))

  -- if the unknowns of each row cancel, each unknown does
  pub is_gone : All (Cancels entries ms) ms → IsGone entries ms x
  is_gone h = gone_by (combined_cases ms (each_of ms h))

-- ---- the converse

each_of_product : (l r : Option ℤ) (L R W : Type 0) → L → R → W → EachOfProduct l r L R W
each_of_product (Some c) r L R W f g h = g
each_of_product None (Some c) L R W f g h = f
each_of_product None None L R W f g h = h

each_unknown : (P : TermData → Type 0) → ((u : TermData) → P u) → (t : TermData) → EachUnknown P t
each_unknown P h (ConstantTerm (Num i)) = tt
each_unknown P h (BinaryTerm Add t u) = (each_unknown P h t, each_unknown P h u)
each_unknown P h (BinaryTerm Sub t u) = (each_unknown P h t, each_unknown P h u)
each_unknown P h (BinaryTerm Mul t u) =
    each_of_product (numeral_of t) (numeral_of u) _ _ _ (each_unknown P h t) (each_unknown P h u) (h (MulTerm t u))
each_unknown P h t = h t

row_gone : (entries : List FormulaData) (ms : List Multiple) → ((u : TermData) → IsGone entries ms u) → (r : Option Row) (m : ℤ) → MayMultiply r m → RowGone entries ms r
row_gone entries ms h None m may = absurd may
row_gone entries ms h (Some row) m may =
    (each_unknown (IsGone entries ms) h row.lesser, each_unknown (IsGone entries ms) h row.greater)

-- if each unknown cancels, those of each row do
pub all_cancel : (entries : List FormulaData) (ms : List Multiple) → ((u : TermData) → IsGone entries ms u) → (ks : List Multiple) → All (MayCount entries) ks → All (Cancels entries ms) ks
all_cancel entries ms h [] may = All-nil (Cancels entries ms)
all_cancel entries ms h (k ∷ ks) may =
    All-cons (Cancels entries ms) k ks (row_gone entries ms h (row_of_entry (slice_get entries k.entry)) k.multiplier (All-head (MayCount entries) k ks may)) (all_cancel entries ms h ks (All-tail (MayCount entries) k ks may))

-- the conjunction of the three tests
pub tests_are : (entries : List FormulaData) (ms : List Multiple) → All (MayCount entries) ms → ((n : ℕ) × (total None entries ms ≡ Some (pos (suc n)))) → All (Cancels entries ms) ms → IsContradiction entries ms
tests_are entries ms rows positive gone =
    record { rows = rows; cancelled = λ x. is_gone entries ms x gone; positive = positive }

-- ---- tests of each entry

pub all_upto : {A : Type 0} (P : A → Type 0) (xs : List A) (i : ℕ) → length xs ≤ i → All P (take i xs) → All P xs
all_upto P xs i h all = subst (All P) (take_all i xs h) all

-- a test of each entry that failed at one
pub one_fails : {A : Type 0} (P : A → Type 0) (xs : List A) (i : ℕ) (x : A) (b : Bool) → i < length xs → IsTrue b ↔ P (get_or xs i x) → b ≡ false → IsTrue false ↔ All P xs
one_fails P xs i x b h test e =
    (λ f. absurd (not_true false refl f), λ all. absurd (not_true b e (test.1 (All-get_or P xs i x h all))))

pub one_more : {A : Type 0} (P : A → Type 0) (xs : List A) (i : ℕ) (x : A) (b : Bool) → i < length xs → IsTrue b ↔ P (get_or xs i x) → b ≡ true → All P (take i xs) → All P (take (i + 1) xs)
one_more P xs i x b h test e all = All-more P xs i x h all (test.0 (true_is b e))

pub all_pass : {A : Type 0} (P : A → Type 0) (xs : List A) (i : ℕ) → length xs ≤ i → All P (take i xs) → IsTrue true ↔ All P xs
all_pass P xs i h all = (λ t. all_upto P xs i h all, λ t. true_is true refl)

pub fails : (P Q : Type 0) (b : Bool) → IsTrue b ↔ P → b ≡ false → (Q → P) → IsTrue false ↔ Q
fails P Q b test e part = (λ f. absurd (not_true false refl f), λ q. absurd (not_true b e (test.1 (part q))))

pub last_test : (entries : List FormulaData) (ms : List Multiple) (a b c : Bool) → IsTrue a ↔ All (MayCount entries) ms → a ≡ true → IsTrue b ↔ ((n : ℕ) × (total None entries ms ≡ Some (pos (suc n)))) → b ≡ true → IsTrue c ↔ All (Cancels entries ms) ms → IsTrue c ↔ IsContradiction entries ms
last_test entries ms a b c first e second f third = (
  λ t. tests_are entries ms (first.0 (true_is a e)) (second.0 (true_is b f)) (third.0 t),
  λ h. third.1 (all_cancel entries ms h.cancelled ms h.rows),
)

pub gone_at : (entries : List FormulaData) (ms : List Multiple) (o r : Option Row) (b : Bool) → o ≡ r → IsTrue b ↔ RowGone entries ms o → IsTrue b ↔ RowGone entries ms r
gone_at entries ms o r b e test = subst (λ x. IsTrue b ↔ RowGone entries ms x) e test

pub positive_at : (o r : Option ℤ) (b : Bool) → o ≡ r → IsTrue b ↔ ((n : ℕ) × (o ≡ Some (pos (suc n)))) → IsTrue b ↔ ((n : ℕ) × (r ≡ Some (pos (suc n))))
positive_at o r b e test = subst (λ x. IsTrue b ↔ ((n : ℕ) × (x ≡ Some (pos (suc n))))) e test
