-- Pairing is extended with its lists.
use Rattle.std.proofs.Common.{◌≡◌, ℕ, ◌+◌, ◌<◌, ◌≤◌, List, [], ◌∷◌, ◌++◌, length, take, map, get_or, sym, ap, subst, ◌∙◌}
use Rattle.std.proofs.lemmas.List.{append_assoc, append-nil, take_all, take_more}
use Rattle.base.proofs.PairLaws.{paired_append}
use Rattle.base.specs.Pairs.{Paired}
use Rattle.driver.specs.Pairs.{ArePutBehind}

pub paired_both : {A B : Type 0} (R : A → B → Type 0) (xs : List A) (ys : List B) (zs : List A) (ws : List B) → Paired R xs ys → Paired R zs ws → Paired R (xs ++ zs) (ys ++ ws)
paired_both R [] [] zs ws p q = q
paired_both R [] (w ∷ ys) zs ws p q = absurd p
paired_both R (v ∷ xs) [] zs ws p q = absurd p
paired_both R (v ∷ xs) (w ∷ ys) zs ws p q = (p.0, paired_both R xs ys zs ws p.1 q)

-- one more item, as in an iteration of a loop over the first list
pub paired_more : {A B : Type 0} (R : A → B → Type 0) (xs : List A) (i : ℕ) (d : A) (ys : List B) (y : B) → i < length xs → Paired R (take i xs) ys → R (get_or xs i d) y → Paired R (take (i + 1) xs) (ys ++ y ∷ [])
paired_more R xs i d ys y h p r =
    subst (λ zs. Paired R zs (ys ++ y ∷ [])) (sym (take_more xs i d h)) (paired_append R (take i xs) ys (get_or xs i d) y p r)

-- the first items of pairs
pub paired_map : {A B C : Type 0} (R : C → B → Type 0) (f : A → C) (xs : List A) (ys : List B) → Paired (λ x y. R (f x) y) xs ys → Paired R (map f xs) ys
paired_map R f [] [] p = tt
paired_map R f [] (y ∷ ys) p = absurd p
paired_map R f (x ∷ xs) [] p = absurd p
paired_map R f (x ∷ xs) (y ∷ ys) p = (p.0, paired_map R f xs ys p.1)

-- ---- lists extended after the earlier items

pub none_behind : {A B : Type 0} (R : A → B → Type 0) (before : List B) → ArePutBehind R [] before before
none_behind R before = record { found = []; after_is = sym (append-nil before); paired = tt }

pub one_behind : {A B : Type 0} (R : A → B → Type 0) (xs : List A) (i : ℕ) (d : A) (y : B) (before after new : List B) → i < length xs → new ≡ after ++ y ∷ [] → R (get_or xs i d) y → ArePutBehind R (take i xs) before after → ArePutBehind R (take (i + 1) xs) before new
one_behind R xs i d y before after new h added r p = record {
  found = p.found ++ y ∷ [];
  after_is = added ∙ ap (λ zs. zs ++ y ∷ []) p.after_is ∙ append_assoc before p.found (y ∷ []);
  paired = paired_more R xs i d p.found y h p.paired r;
}

pub all_behind : {A B : Type 0} (R : A → B → Type 0) (xs : List A) (i : ℕ) (before after : List B) → length xs ≤ i → ArePutBehind R (take i xs) before after → ArePutBehind R xs before after
all_behind R xs i before after over p = subst (λ zs. ArePutBehind R zs before after) (take_all i xs over) p
