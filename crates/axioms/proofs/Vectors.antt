-- The values of the operators of vectors at lists of items.
use Rattle.std.proofs.Common.{◌≡◌, ℕ, ◌+◌, ◌-◌, ◌<◌, ◌≤◌, pos, negsuc, ◌+ℤ◌, ◌-ℤ◌, List, [], ◌∷◌, ◌++◌, length, take, get_or, set, refl, sym, ap, ◌∙◌, arith, inl, inr}
use Rattle.std.proofs.lemmas.Int.{ints}
use Rattle.std.proofs.lemmas.List.{length-append, length-take-le, get_or_append_left, get_or_past, get_or_push, get_or-set_same, get_or-set_other, get_or-take, ext_get_or}
use Rattle.std.proofs.lemmas.Bool.{cases_lt}
use Rattle.fol.specs.Val.{Val, NumberValue, TruthValue, NothingValue, VectorValue, StructValue, MemoryValue, Vals, values_of, list_of_values, list_of_values-values_of, values_of-list_of_values}
use Rattle.fol.specs.Operators.{items_of, vector_of, at_value}

-- the items of a vector
pub items_of_vector : (xs : List Val) → items_of (vector_of xs) ≡ xs
items_of_vector xs = list_of_values-values_of xs

-- ---- lengths

pub len_push : (xs : List Val) (x : Val) → pos (length (items_of (vector_of (xs ++ x ∷ [])))) ≡ pos (length xs) +ℤ pos 1
len_push xs x =
    ap (λ (ys : List Val). pos (length ys)) (items_of_vector (xs ++ x ∷ [])) ∙ (let e : length (xs ++ x ∷ []) ≡ length xs + 1 = length-append xs (x ∷ []) in let f : pos (length (xs ++ x ∷ [])) ≡ pos (length xs) +ℤ pos 1 = omega (arith, ints) in f)

pub len_pop : (xs : List Val) → 0 < length xs → pos (length (items_of (vector_of (take (length xs - 1) xs)))) ≡ pos (length xs) -ℤ pos 1
len_pop xs h =
    ap (λ (ys : List Val). pos (length ys)) (items_of_vector (take (length xs - 1) xs)) ∙ (let e : length (take (length xs - 1) xs) ≡ length xs - 1 = length-take-le (length xs - 1) xs (omega arith) in let f : pos (length (take (length xs - 1) xs)) ≡ pos (length xs) -ℤ pos 1 = omega (arith, ints) in f)

-- ---- items

-- the item at an index beyond the end, or at a value that is no number, is Nothing
pub at_items : (xs ys : List Val) (i : Val) → ((n : ℕ) → i ≡ NumberValue (pos n) → get_or xs n NothingValue ≡ get_or ys n NothingValue) → at_value (vector_of xs) i ≡ at_value (vector_of ys) i
at_items xs ys (NumberValue (pos n)) h =
    ap (λ (zs : List Val). get_or zs n NothingValue) (items_of_vector xs) ∙ h n refl ∙ sym (ap (λ (zs : List Val). get_or zs n NothingValue) (items_of_vector ys))
at_items xs ys (NumberValue (negsuc n)) h = refl
at_items xs ys (TruthValue b) h = refl
at_items xs ys NothingValue h = refl
at_items xs ys (VectorValue vs) h = refl
at_items xs ys (StructValue t vs) h = refl
at_items xs ys (MemoryValue es) h = refl

-- the item at an index depends on the items alone
pub at_vector : (v i : Val) → at_value (vector_of (items_of v)) i ≡ at_value v i
at_vector v (NumberValue (pos n)) = ap (λ (zs : List Val). get_or zs n NothingValue) (items_of_vector (items_of v))
at_vector v (NumberValue (negsuc n)) = refl
at_vector v (TruthValue b) = refl
at_vector v NothingValue = refl
at_vector v (VectorValue vs) = refl
at_vector v (StructValue t vs) = refl
at_vector v (MemoryValue es) = refl

pub at_pushed : (xs : List Val) (x : Val) → at_value (vector_of (xs ++ x ∷ [])) (NumberValue (pos (length xs))) ≡ x
at_pushed xs x =
    ap (λ (zs : List Val). get_or zs (length xs) NothingValue) (items_of_vector (xs ++ x ∷ [])) ∙ get_or_push xs x NothingValue (length xs) refl

-- the items before the one that was pushed at the end
pub at_other_pushed : (xs : List Val) (x i : Val) → (i ≡ NumberValue (pos (length xs)) → ⊥) → at_value (vector_of (xs ++ x ∷ [])) i ≡ at_value (vector_of xs) i
at_other_pushed xs x i other = at_items (xs ++ x ∷ []) xs i (λ n e. go n (λ f. other (e ∙ ap (λ k. NumberValue (pos k)) f)))
  where
    go : (n : ℕ) → (n ≡ length xs → ⊥) → get_or (xs ++ x ∷ []) n NothingValue ≡ get_or xs n NothingValue
    go n apart = elim (cases_lt n (length xs)) [
      | inl h ↦ get_or_append_left xs (x ∷ []) NothingValue n h
      | inr h ↦ (let long : length (xs ++ x ∷ []) ≤ n = (let e : length (xs ++ x ∷ []) ≡ length xs + 1 = length-append xs (x ∷ []) in omega arith) in get_or_past (xs ++ x ∷ []) n NothingValue long ∙ sym (get_or_past xs n NothingValue h))
    ]

-- the items before the one that was popped from the end
pub at_popped : (xs : List Val) (i : Val) → ((n : ℕ) → i ≡ NumberValue (pos n) → n + 1 < length xs) → at_value (vector_of (take (length xs - 1) xs)) i ≡ at_value (vector_of xs) i
at_popped xs i within =
    at_items (take (length xs - 1) xs) xs i (λ n e. let h : n + 1 < length xs = within n e in get_or-take (length xs - 1) xs n NothingValue (omega arith))

-- the item that was written at an index, and the others
pub at_set : (xs : List Val) (x : Val) (n : ℕ) → n < length xs → at_value (vector_of (set xs n x)) (NumberValue (pos n)) ≡ x
at_set xs x n h =
    ap (λ (zs : List Val). get_or zs n NothingValue) (items_of_vector (set xs n x)) ∙ get_or-set_same xs n x NothingValue h

pub at_other_set : (xs : List Val) (x : Val) (n : ℕ) (j : Val) → (j ≡ NumberValue (pos n) → ⊥) → at_value (vector_of (set xs n x)) j ≡ at_value (vector_of xs) j
at_other_set xs x n j other =
    at_items (set xs n x) xs j (λ k e. get_or-set_other xs n k x NothingValue (λ f. other (e ∙ ap (λ (l : ℕ). NumberValue (pos l)) f)))

-- ---- vectors with the same items

pub same_vectors : (vs ws : Vals) → length (list_of_values vs) ≡ length (list_of_values ws) → ((n : ℕ) → n < length (list_of_values vs) → at_value (VectorValue vs) (NumberValue (pos n)) ≡ at_value (VectorValue ws) (NumberValue (pos n))) → vs ≡ ws
same_vectors vs ws e h =
    sym (values_of-list_of_values vs) ∙ ap values_of (ext_get_or NothingValue (list_of_values vs) (list_of_values ws) e h) ∙ values_of-list_of_values ws
