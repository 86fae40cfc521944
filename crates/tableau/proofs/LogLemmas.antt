-- Logs that get longer and shorter.
use Rattle.std.proofs.Common.{◌≡◌, ◌≢◌, ℕ, zero, suc, ◌+◌, ◌-◌, ◌<◌, ◌≤◌, ◌⊎◌, inl, inr, Bool, true, false, cond, List, [], ◌∷◌, ◌++◌, length, get_or, set, take, Option, Some, None, refl, sym, ap, ◌∙◌, subst, arith}
use Rattle.std.specs.Prelude.{slice_get, nat_eq}
use Rattle.std.proofs.Math.ListN.{replicate}
use Rattle.std.proofs.lemmas.Bool.{cases_eq, cases_lt, eq-eqb, ne_eqb}
use Rattle.std.proofs.lemmas.List.{length-append, length-set, length_push, length-replicate, get_or-set_same, get_or-set_other, get_or_append_left, get_or-append_right, get_or-replicate, get_or_past, get_or_read, take_all, take-append-le, take_at, take-take}
use Rattle.std.proofs.lemmas.Option.{slice_get_within}
use Rattle.tableau.specs.Logs.{value_after, value_in, change_of, IsIndexed, IsWider}
use Rattle.tableau.specs.declared.log.Change.{Change}
use Rattle.tableau.proofs.ListLemmas.{push_new, push_cases, push_kept}

-- ---- the value after one more change

after_more : (v : Option ℕ) (cs : List Change) (c : Change) (n : ℕ) → value_after v (cs ++ c ∷ []) n ≡ cond (nat_eq c.number n) (Some c.value) (value_after v cs n)
after_more v [] c n = refl
after_more v (d ∷ cs) c n = after_more (cond (nat_eq d.number n) (Some d.value) v) cs c n

pub value_written : (cs : List Change) (c : Change) → value_in (cs ++ c ∷ []) c.number ≡ Some c.value
value_written cs c = after_more None cs c c.number ∙ ap (λ b. cond b (Some c.value) (value_in cs c.number)) (eq-eqb c.number c.number refl)

pub value_other : (cs : List Change) (c : Change) (n : ℕ) → c.number ≢ n → value_in (cs ++ c ∷ []) n ≡ value_in cs n
value_other cs c n h = after_more None cs c n ∙ ap (λ b. cond b (Some c.value) (value_in cs n)) (ne_eqb c.number n h)

-- ---- properties of the index

pub indexed_new : IsIndexed [] []
indexed_new = record { values = λ n. refl; within = λ k c e. absurd (cc); before = λ k c e. absurd (cc) }

-- more indices
pub wider_itself : (vs ws : List (Option ℕ)) → ws ≡ vs → IsWider vs ws
wider_itself vs ws e = record { longer = (let l = ap length e in omega (arith, l)); same = λ n. ap (λ us. get_or us n None) e }

none : (d : Option ℕ) (count n : ℕ) → get_or (replicate count d) n d ≡ d
none d count n = go (cases_lt n count)
  where
    go : (n < count) ⊎ (count ≤ n) → get_or (replicate count d) n d ≡ d
    go (inl w) = get_or-replicate count n d d w
    go (inr w) = get_or_past (replicate count d) n d (omega (arith, w, length-replicate count d))

pub wider : (vs ws : List (Option ℕ)) (limit n : ℕ) → n ≡ length vs → n < limit → ws ≡ take limit vs ++ replicate (limit - n) None → IsWider vs ws
wider vs ws limit n count more is = subst (IsWider vs) (sym same) (record {
  longer = omega (arith, length-append vs (replicate (limit - n) None));
  same = λ k. at k (cases_lt k (length vs));
})
  where
    same : ws ≡ vs ++ replicate (limit - n) None
    same = is ∙ ap (λ us. us ++ replicate (limit - n) None) (take_all limit vs (omega (arith, count, more)))

    at : (k : ℕ) → (k < length vs) ⊎ (length vs ≤ k) → get_or (vs ++ replicate (limit - n) None) k None ≡ get_or vs k None
    at k (inl w) = get_or_append_left vs (replicate (limit - n) None) None k w
    at k (inr w) = get_or-append_right vs (replicate (limit - n) None) (length vs) k None refl w ∙ none None (limit - n) (k - length vs) ∙ sym (get_or_past vs k None w)

pub indexed_wide : (cs ds : List Change) (vs ws : List (Option ℕ)) → ds ≡ cs → IsWider vs ws → IsIndexed cs vs → IsIndexed ds ws
indexed_wide cs ds vs ws e w h = subst (λ xs. IsIndexed xs ws) (sym e) (record {
  values = λ n. w.same n ∙ h.values n;
  within = λ k c f. (let old = h.within k c f in omega (arith, old, w.longer));
  before = h.before;
})

-- one more change
pub indexed_more : (cs : List Change) (vs : List (Option ℕ)) (n v : ℕ) → n < length vs → IsIndexed cs vs → IsIndexed (cs ++ change_of cs n v ∷ []) (set vs n (Some v))
indexed_more cs vs n v w h = record {
  values = λ m. at m (cases_eq m n);
  within = λ k c e. within k c (push_cases cs _ k c e);
  before = λ k c e. before k c (push_cases cs _ k c e);
}
  where
    at : (m : ℕ) → (m ≡ n) ⊎ (m ≢ n) → get_or (set vs n (Some v)) m None ≡ value_in (cs ++ change_of cs n v ∷ []) m
    at m (inl e) =
        ap (λ k. get_or (set vs n (Some v)) k None) e
        ∙ get_or-set_same vs n (Some v) None w
        ∙ sym (value_written cs (change_of cs n v))
        ∙ ap (value_in (cs ++ change_of cs n v ∷ [])) (sym e)
    at m (inr e) =
        get_or-set_other vs n m (Some v) None e
        ∙ h.values m
        ∙ sym (value_other cs (change_of cs n v) m (λ f. e (sym f)))

    within : (k : ℕ) (c : Change) → (slice_get cs k ≡ Some c) ⊎ ((k ≡ length cs) × (c ≡ change_of cs n v)) → c.number < length (set vs n (Some v))
    within k c (inl f) = let old = h.within k c f in omega (arith, old, length-set vs n (Some v))
    within k c (inr f) = let is : c.number ≡ n = ap (λ (d : Change). d.number) f.1 in omega (arith, is, w, length-set vs n (Some v))

    before : (k : ℕ) (c : Change) → (slice_get cs k ≡ Some c) ⊎ ((k ≡ length cs) × (c ≡ change_of cs n v)) → c.before ≡ value_in (take k (cs ++ change_of cs n v ∷ [])) c.number
    before k c (inl f) =
        let inside : k ≤ length cs = (let s = slice_get_within cs k c f in omega (arith, s)) in
        h.before k c f ∙ ap (λ ds. value_in ds c.number) (sym (take-append-le k cs (change_of cs n v ∷ []) inside))
    before k c (inr f) =
        ap (λ (d : Change). d.before) f.1
        ∙ ap (value_in cs) (sym (ap (λ (d : Change). d.number) f.1))
        ∙ ap (λ ds. value_in ds c.number) (sym (take_at cs (change_of cs n v ∷ []) k (sym f.0)))

-- the last change undone
pub indexed_less : (cs ds : List Change) (vs : List (Option ℕ)) (c : Change) → cs ≡ ds ++ c ∷ [] → IsIndexed cs vs → IsIndexed ds (set vs c.number c.before)
indexed_less cs ds vs c is whole = record {
  values = λ m. at m (cases_eq m c.number);
  within = λ k d e. (let old = h.within k d (push_kept ds c k d e) in omega (arith, old, length-set vs c.number c.before));
  before = λ k d e. h.before k d (push_kept ds c k d e) ∙ ap (λ es. value_in es d.number) (take-append-le k ds (c ∷ []) (let s = slice_get_within ds k d e in omega (arith, s)));
}
  where
    h : IsIndexed (ds ++ c ∷ []) vs
    h = subst (λ xs. IsIndexed xs vs) is whole

    was : c.before ≡ value_in ds c.number
    was = h.before (length ds) c (push_new ds c) ∙ ap (λ es. value_in es c.number) (take_at ds (c ∷ []) (length ds) refl)

    at : (m : ℕ) → (m ≡ c.number) ⊎ (m ≢ c.number) → get_or (set vs c.number c.before) m None ≡ value_in ds m
    at m (inl e) =
        ap (λ k. get_or (set vs c.number c.before) k None) e
        ∙ get_or-set_same vs c.number c.before None (h.within (length ds) c (push_new ds c))
        ∙ was
        ∙ ap (value_in ds) (sym e)
    at m (inr e) =
        get_or-set_other vs c.number m c.before None e
        ∙ h.values m
        ∙ value_other ds c m (λ f. e (sym f))

pub before_is : (cs : List Change) (ws : List (Option ℕ)) (n limit : ℕ) (b : Option ℕ) → n < limit → limit ≤ length ws → IsIndexed cs ws → b ≡ get_or ws n b → b ≡ value_in cs n
before_is cs ws n limit b below long h read = get_or_read ws n b (omega (arith, below, long)) read None ∙ h.values n

-- a change in the form of the code
pub indexed_written : (cs ds : List Change) (vs ws : List (Option ℕ)) (n v limit : ℕ) (b : Option ℕ) → n < limit → limit ≤ length ws → IsWider vs ws → IsIndexed cs vs → b ≡ get_or ws n b → ds ≡ cs ++ record { number = n; value = v; before = b } ∷ [] → IsIndexed ds (set ws n (Some v))
indexed_written cs ds vs ws n v limit b below long w h read e =
    let wide : IsIndexed cs ws = indexed_wide cs cs vs ws refl w h in
    subst (λ xs. IsIndexed xs (set ws n (Some v))) (sym (e ∙ ap (λ (o : Option ℕ). cs ++ record { number = n; value = v; before = o } ∷ []) (before_is cs ws n limit b below long wide read))) (indexed_more cs ws n v (omega (arith, below, long)) wide)

pub shorter : (cs ds : List Change) (c : Change) (k n : ℕ) → cs ≡ ds ++ c ∷ [] → n ≡ length cs → k < n → (all : List Change) → take k cs ≡ take k all → take k ds ≡ take k all
shorter cs ds c k n is count more all e =
    let l : length cs ≡ length ds + 1 = ap length is ∙ length_push ds c in
    sym (take-append-le k ds (c ∷ []) (omega (arith, l, count, more))) ∙ ap (take k) (sym is) ∙ e
