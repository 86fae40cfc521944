-- Indexes of classes, and numbers at them.
use Rattle.std.proofs.Common.{◌≡◌, ◌≢◌, ◌⊎◌, inl, inr, ℕ, zero, suc, ◌+◌, ◌<◌, ◌≤◌, ℤ, pos, Bool, true, false, cond, nat_eq, List, [], ◌∷◌, ◌++◌, length, get_or, set, Some, None, refl, sym, ap, ◌∙◌, subst, arith, append_assoc, append-nil}
use Rattle.std.specs.Prelude.{slice_get}
use Rattle.std.specs.List.{IsDistinct, list_any}
use Rattle.std.proofs.lemmas.Bool.{cases_eq, cases_lt, eq-eqb, eqb-true}
use Rattle.std.proofs.lemmas.List.{length-append, length-set, length_push, get_or-set_same, get_or-set_other, get_or_append_left, get_or_push, get_or_past}
use Rattle.std.proofs.lemmas.Option.{slice_get_within}
use Rattle.std.proofs.lemmas.Map.Keys.{apart_from_distinct}
use Rattle.indexmap.specs.IndexSet.{insert_key}
use Rattle.tableau.proofs.ListLemmas.{push_new}
use Rattle.std.specs.Map.{keys_of}
use Rattle.linear_arith.specs.Fits.{Fits}
use Rattle.fol.specs.FormulaData.{VarTerm}
use Rattle.row_reasoning.specs.Sums.{coefficient_in, Has, IsAmong, signed, IsKept}
use Rattle.row_reasoning.specs.Rows.{IsLonger, AreDifferent, IsPut}
use Rattle.row_reasoning.proofs.CoefficientLemmas.{has_or, absent, last_same, last_other, last_has, last_keeps, last_cases, coefficient_at}
use Rattle.row_reasoning.proofs.KeptLemmas.{fits_kept}
use Rattle.row_reasoning.specs.declared.sum.LinearSum.{LinearSum}

-- ---- indexes

pub at_position : {X : Type 0} (xs : List X) (k : ℕ) (x d : X) → slice_get xs k ≡ Some x → get_or xs k d ≡ x
at_position [] k x d e = absurd (cc)
at_position (y ∷ xs) zero x d e = (let same : y ≡ x = cc in same)
at_position (y ∷ xs) (suc k) x d e = at_position xs k x d e

pub all_different : (ks : List ℕ) → IsDistinct nat_eq ks → AreDifferent ks
all_different ks h i j d l m e = (let no = apart_from_distinct nat_eq ks i j d h l m in let yes : nat_eq (get_or ks i d) (get_or ks j d) ≡ true = eq-eqb _ _ e in absurd (cc))

-- a class has one index
pub one_position : (ks : List ℕ) → AreDifferent ks → (i j n : ℕ) → slice_get ks i ≡ Some n → slice_get ks j ≡ Some n → i ≡ j
one_position ks h i j n e f = go (cases_eq i j) (cases_lt i j)
  where
    same : get_or ks i 0 ≡ get_or ks j 0
    same = at_position ks i n 0 e ∙ sym (at_position ks j n 0 f)

    go : (i ≡ j) ⊎ (i ≢ j) → (i < j) ⊎ (j ≤ i) → i ≡ j
    go (inl s) o = s
    go (inr s) (inl l) = absurd (h i j 0 l (slice_get_within ks j n f) same)
    go (inr s) (inr l) =
        let less : j < i = omega (arith, s, l) in
        absurd (h j i 0 less (slice_get_within ks i n e) (sym same))

-- ---- longer lists

pub longer_itself : (ks ls : List ℕ) → ls ≡ ks → IsLonger ks ls
longer_itself ks ls e = record { more = []; is = e ∙ sym (append-nil ks) }

pub longer_twice : (ks ls ms : List ℕ) → IsLonger ks ls → IsLonger ls ms → IsLonger ks ms
longer_twice ks ls ms f g = record { more = f.more ++ g.more; is = g.is ∙ ap (λ xs. xs ++ g.more) f.is ∙ append_assoc ks f.more g.more }

kept_position : (ks ms : List ℕ) (k n : ℕ) → slice_get ks k ≡ Some n → slice_get (ks ++ ms) k ≡ Some n
kept_position [] ms k n e = absurd (cc)
kept_position (x ∷ ks) ms zero n e = e
kept_position (x ∷ ks) ms (suc k) n e = kept_position ks ms k n e

old_position : (ks ms : List ℕ) (k n : ℕ) → k < length ks → slice_get (ks ++ ms) k ≡ Some n → slice_get ks k ≡ Some n
old_position [] ms k n l e = absurd (omega (arith, l))
old_position (x ∷ ks) ms zero n l e = e
old_position (x ∷ ks) ms (suc k) n l e = old_position ks ms k n (omega (arith, l)) e

pub longer_keeps : (ks ls : List ℕ) → IsLonger ks ls → (k n : ℕ) → slice_get ks k ≡ Some n → slice_get ls k ≡ Some n
longer_keeps ks ls h k n e = subst (λ xs. slice_get xs k ≡ Some n) (sym h.is) (kept_position ks h.more k n e)

pub longer_had : (ks ls : List ℕ) → IsLonger ks ls → (k n : ℕ) → k < length ks → slice_get ls k ≡ Some n → slice_get ks k ≡ Some n
longer_had ks ls h k n l e = old_position ks h.more k n l (subst (λ xs. slice_get xs k ≡ Some n) h.is e)

pub longer_length : (ks ls : List ℕ) → IsLonger ks ls → length ks ≤ length ls
longer_length ks ls h = (let e = ap length h.is in omega (arith, e, length-append ks h.more))

pub among_longer : (ks ls : List ℕ) → IsLonger ks ls → (n : ℕ) → IsAmong ks n → IsAmong ls n
among_longer ks ls h n a = record { position = a.position; found = longer_keeps ks ls h a.position n a.found }

-- a class of the list extended by one
pub last_among : (ks : List ℕ) (class n : ℕ) → IsAmong (ks ++ class ∷ []) n → IsAmong ks n ⊎ (n ≡ class)
last_among ks class n a = elim (cases_lt a.position (length ks)) [
  | inl l ↦ inl (record { position = a.position; found = old_position ks (class ∷ []) a.position n l a.found })
  | inr l ↦ (
      let within = slice_get_within (ks ++ class ∷ []) a.position n a.found in
      let long = length_push ks class in
      let last : a.position ≡ length ks = omega (arith, within, long, l) in
      let both : Some n ≡ Some class = sym a.found ∙ ap (slice_get (ks ++ class ∷ [])) last ∙ push_new ks class in
      let same : n ≡ class = cc in
      inr same)
]

-- ---- a class that gets a number

pub insert_cases : (ks : List ℕ) (class : ℕ) → (insert_key nat_eq ks class ≡ ks) ⊎ (insert_key nat_eq ks class ≡ ks ++ class ∷ [])
insert_cases ks class = go (list_any (nat_eq class) ks)
  where
    go : (b : Bool) → (cond b ks (ks ++ class ∷ []) ≡ ks) ⊎ (cond b ks (ks ++ class ∷ []) ≡ ks ++ class ∷ [])
    go true = inl refl
    go false = inr refl

module _ (ks ls : List ℕ) (cs ds : List ℤ) (class position : ℕ) (number : ℤ) (keys : ls ≡ insert_key nat_eq ks class) (distinct : IsDistinct nat_eq ls) (key : ℕ) (stored : slice_get ls position ≡ Some key) (same_key : nat_eq class key ≡ true) (long : length cs ≡ length ks) where
  found : slice_get ls position ≡ Some class
  found = stored ∙ ap Some (sym (eqb-true class key same_key))

  inside : position < length ls
  inside = slice_get_within ls position class found

  different : AreDifferent ls
  different = all_different ls distinct

  grown : (insert_key nat_eq ks class ≡ ks) ⊎ (insert_key nat_eq ks class ≡ ks ++ class ∷ []) → (ls ≡ ks) ⊎ (ls ≡ ks ++ class ∷ [])
  grown (inl e) = inl (keys ∙ e)
  grown (inr e) = inr (keys ∙ e)

  longer : (ls ≡ ks) ⊎ (ls ≡ ks ++ class ∷ []) → IsLonger ks ls
  longer (inl e) = longer_itself ks ls e
  longer (inr e) = record { more = class ∷ []; is = e }

  among_cases : (ls ≡ ks) ⊎ (ls ≡ ks ++ class ∷ []) → (n : ℕ) → IsAmong ls n → IsAmong ks n ⊎ (n ≡ class)
  among_cases (inl e) n a = inl (subst (λ xs. IsAmong xs n) e a)
  among_cases (inr e) n a = last_among ks class n (subst (λ xs. IsAmong xs n) e a)

  -- an index within the old ones is that of an old class
  old_length : position < length cs → (ls ≡ ks) ⊎ (ls ≡ ks ++ class ∷ []) → length ls ≡ length ks
  old_length l (inl e) = ap length e
  old_length l (inr e) =
      let last : slice_get ls (length ks) ≡ Some class = subst (λ xs. slice_get xs (length ks) ≡ Some class) (sym e) (push_new ks class) in
      let same : position ≡ length ks = one_position ls different position (length ks) class found last in
      absurd (omega (arith, same, long, l))

  pub put_there : position < length cs → ds ≡ set cs position number → IsPut ks cs class number ls ds
  put_there l is = record {
    longer = longer (grown (insert_cases ks class));
    different = different;
    long = ap length is ∙ length-set cs position number ∙ long ∙ sym (old_length l (grown (insert_cases ks class)));
    among = record { position = position; found = found };
    from = among_cases (grown (insert_cases ks class));
    here = λ k e. (let at : k ≡ position = one_position ls different k position class e found in
        ap (λ i. get_or ds i (pos 0)) at ∙ ap (λ xs. get_or xs position (pos 0)) is ∙ get_or-set_same cs position number (pos 0) l);
    others = λ k n e d. (let other : k ≢ position = λ s. (let both : Some n ≡ Some class = sym e ∙ ap (slice_get ls) s ∙ found in let same : n ≡ class = cc in d same) in
        ap (λ xs. get_or xs k (pos 0)) is ∙ get_or-set_other cs position k number (pos 0) other);
  }

  new_length : length cs ≤ position → (ls ≡ ks) ⊎ (ls ≡ ks ++ class ∷ []) → length ls ≡ length ks + 1
  new_length l (inl e) = (let s = ap length e in absurd (omega (arith, s, inside, l, long)))
  new_length l (inr e) = ap length e ∙ length_push ks class

  pub put_behind : length cs ≤ position → ds ≡ cs ++ number ∷ [] → IsPut ks cs class number ls ds
  put_behind l is = record {
    longer = longer (grown (insert_cases ks class));
    different = different;
    long = (let s = ap length is ∙ length_push cs number in let t = new_length l (grown (insert_cases ks class)) in omega (arith, s, t, long));
    among = record { position = position; found = found };
    from = among_cases (grown (insert_cases ks class));
    here = λ k e. (let at : k ≡ position = one_position ls different k position class e found in
        ap (λ i. get_or ds i (pos 0)) (at ∙ last) ∙ ap (λ xs. get_or xs (length cs) (pos 0)) is ∙ get_or_push cs number (pos 0) (length cs) refl);
    others = λ k n e d. (let other : k ≢ position = λ s. (let both : Some n ≡ Some class = sym e ∙ ap (slice_get ls) s ∙ found in let same : n ≡ class = cc in d same) in
        let within = slice_get_within ls k n e in
        let t = new_length l (grown (insert_cases ks class)) in
        let less : k < length cs = omega (arith, within, t, other, last, long) in
        ap (λ xs. get_or xs k (pos 0)) is ∙ get_or_append_left cs (number ∷ []) (pos 0) k less);
  }
    where
      last : position ≡ length cs
      last = (let t = new_length l (grown (insert_cases ks class)) in omega (arith, t, inside, l, long))

-- ---- a row while it is written

-- the numbers of the classes so far are at their indexes
pub record IsWriting (ks : List ℕ) (negated : Bool) (es : List (ℕ × ℤ)) (ls : List ℕ) (cs : List ℤ) : Type 0 where
  pub longer : IsLonger ks ls
  pub different : AreDifferent ls
  pub long : length cs ≡ length ls
  pub known : (n : ℕ) → Has es n → IsAmong ls n
  pub from : (n : ℕ) → IsAmong ls n → IsAmong ks n ⊎ Has es n
  pub numbers : (k n : ℕ) → slice_get ls k ≡ Some n → get_or cs k (pos 0) ≡ signed negated (coefficient_in es n)

signed_zero : (negated : Bool) → pos 0 ≡ signed negated (pos 0)
signed_zero true = refl
signed_zero false = refl

pub writing_begun : (ks : List ℕ) (negated : Bool) (cs : List ℤ) → IsDistinct nat_eq ks → length cs ≡ length ks → ((k : ℕ) → get_or cs k (pos 0) ≡ pos 0) → IsWriting ks negated [] ks cs
writing_begun ks negated cs d l z = record {
  longer = longer_itself ks ks refl;
  different = all_different ks d;
  long = l;
  known = λ n h. absurd h;
  from = λ n a. inl a;
  numbers = λ k n e. z k ∙ signed_zero negated;
}

module _ (ks : List ℕ) (negated : Bool) (es : List (ℕ × ℤ)) (ls ms : List ℕ) (cs ds : List ℤ) (e : ℕ × ℤ) (before : IsWriting ks negated es ls cs) (new : Has es e.0 → ⊥) (put : IsPut ls cs e.0 (signed negated e.1) ms ds) where
  pub writing_more : IsWriting ks negated (es ++ e ∷ []) ms ds
  writing_more = record {
    longer = longer_twice ks ls ms before.longer put.longer;
    different = put.different;
    long = put.long;
    known = λ n h. known n (last_cases e es n h);
    from = λ n a. from n (put.from n a);
    numbers = λ k n f. numbers k n f (cases_eq n e.0);
  }
    where
      known : (n : ℕ) → Has es n ⊎ (n ≡ e.0) → IsAmong ms n
      known n (inl h) = among_longer ls ms put.longer n (before.known n h)
      known n (inr s) = subst (IsAmong ms) (sym s) put.among

      from : (n : ℕ) → IsAmong ls n ⊎ (n ≡ e.0) → IsAmong ks n ⊎ Has (es ++ e ∷ []) n
      from n (inl a) = elim (before.from n a) [ inl b ↦ inl b | inr b ↦ inr (last_keeps e es n b) ]
      from n (inr s) = inr (subst (Has (es ++ e ∷ [])) (sym s) (last_has e es))

      -- a class with a new index had no number
      at : (k n : ℕ) → slice_get ms k ≡ Some n → (k < length ls) ⊎ (length ls ≤ k) → Has es n ⊎ (Has es n → ⊥) → get_or cs k (pos 0) ≡ signed negated (coefficient_in es n)
      at k n f (inl l) h = before.numbers k n (longer_had ls ms put.longer k n l f)
      at k n f (inr l) (inl h) =
          let a = before.known n h in
          let within = slice_get_within ls a.position n a.found in
          let same : a.position ≡ k = one_position ms put.different a.position k n (longer_keeps ls ms put.longer a.position n a.found) f in
          absurd (omega (arith, within, same, l))
      at k n f (inr l) (inr h) = get_or_past cs k (pos 0) (let s = before.long in omega (arith, s, l)) ∙ signed_zero negated ∙ ap (signed negated) (sym (absent es n h))

      numbers : (k n : ℕ) → slice_get ms k ≡ Some n → (n ≡ e.0) ⊎ (n ≢ e.0) → get_or ds k (pos 0) ≡ signed negated (coefficient_in (es ++ e ∷ []) n)
      numbers k n f (inl s) =
          put.here k (f ∙ ap Some s)
          ∙ ap (signed negated) (sym (last_same e es new))
          ∙ ap (λ m. signed negated (coefficient_in (es ++ e ∷ []) m)) (sym s)
      numbers k n f (inr s) = put.others k n f s ∙ at k n f (cases_lt k (length ls)) (has_or es n) ∙ ap (signed negated) (sym (last_other e es n s))

-- ---- numbers of a sum fit

pub constant_fits : (s : LinearSum) → IsKept s → Fits s.constant
constant_fits s k = fits_kept s.constant s.constant (k.fits None)

pub entry_fits : (s : LinearSum) → IsKept s → (k : ℕ) (e : ℕ × ℤ) → IsDistinct nat_eq (keys_of s.coefficients.entries) → slice_get s.coefficients.entries k ≡ Some e → Fits e.1
entry_fits s kept_s k e distinct found =
    let is : coefficient_in s.coefficients.entries e.0 ≡ e.1 = coefficient_at s.coefficients.entries k e distinct found in
    subst (λ (z : ℤ). Fits z) is (fits_kept _ _ (kept_s.fits (Some (VarTerm e.0))))
