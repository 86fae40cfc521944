-- Sets of rows, by the keys of the rows.
use Rattle.std.proofs.Common.{◌≡◌, ◌≢◌, Bool, true, false, cond, not, ℕ, ◌+◌, ◌<◌, List, [], ◌∷◌, ◌++◌, length, take, get_or, ℤ, refl, sym, ap, ◌∙◌, subst, inl, inr}
use Rattle.std.specs.Prelude.{Contains}
use Rattle.std.specs.Bool.{Decides}
use Rattle.std.specs.BTreeMap.{is_at}
use Rattle.std.specs.BTreeSet.{BTreeSet, contains, contains_by, Updates}
use Rattle.std.specs.Ordering.{int_cmp}
use Rattle.std.specs.Cmp.Lexicographic.{slice_cmp}
use Rattle.std.specs.Global.{Vec}
use Rattle.std.proofs.lemmas.Bool.{false≢true}
use Rattle.std.proofs.lemmas.List.{take_more}
use Rattle.std.proofs.lemmas.List.Elements.{Contains-get_or, Contains-push_cases}
use Rattle.std.proofs.lemmas.List.Quantifiers.{all_pairs_push}
use Rattle.linear_arith.specs.Inequality.{Inequality}
use Rattle.linear_arith.specs.Elimination.{AreDifferent}
use Rattle.linear_arith.specs.Stages.{HasKey, key_cmp}
use Rattle.linear_arith.proofs.KeyLemmas.{no_other_with}
use Rattle.step_checks.specs.Sets.{IsSetOf}
use Rattle.step_checks.specs.declared.elimination.row_set.RowSet.{RowSet}

same_key : (keys : BTreeSet (Vec ℤ)) (p q : Vec ℤ) → p.items ≡ q.items → contains key_cmp keys p ≡ contains key_cmp keys q
same_key keys p q e = ap (λ (xs : List ℤ). contains_by (λ (k : Vec ℤ). slice_cmp int_cmp xs k.items) keys) e

-- a row is in the set exactly if its key is
pub set_has : (rows : List Inequality) (set : RowSet) (key : Vec ℤ) (row : Inequality) (b : Bool) → IsSetOf rows set → key.items ≡ row.bound ∷ row.coefficients → b ≡ contains key_cmp set.keys key → Decides b (Contains rows row)
set_has rows set key row b s numbers e = (
  λ t. s.only row (record { key = key; numbers = numbers; stands = sym e ∙ t }),
  λ h. let k = s.has row h in e ∙ same_key set.keys key k.key (numbers ∙ sym k.numbers) ∙ k.stands,
)

cond_same : (b : Bool) → cond b true true ≡ true
cond_same true = refl
cond_same false = refl

stays : (old new : BTreeSet (Vec ℤ)) (key : Vec ℤ) → Updates key_cmp old new key true → (row : Inequality) → HasKey old row → HasKey new row
stays old new key updates row has = record {
  key = has.key;
  numbers = has.numbers;
  stands = updates.0 has.key ∙ ap (λ (b : Bool). cond (is_at (key_cmp key) has.key) true b) has.stands ∙ cond_same (is_at (key_cmp key) has.key);
}

-- with one more key it has one more row
pub set_grown : (rows : List Inequality) (old new : RowSet) (key : Vec ℤ) (row : Inequality) → IsSetOf rows old → key.items ≡ row.bound ∷ row.coefficients → Updates key_cmp old.keys new.keys key true → IsSetOf (rows ++ row ∷ []) new
set_grown rows old new key row s numbers updates = record {
  has = λ other h. elim (Contains-push_cases rows row other h) [
    | inl o ↦ stays old.keys new.keys key updates other (s.has other o)
    | inr e ↦ subst (λ (r : Inequality). HasKey new.keys r) e (record { key = key; numbers = numbers; stands = updates.1 })
  ];
  only = no_other_with old.keys new.keys rows row key numbers updates s.only;
}

not_decides : (b fresh : Bool) (P : Type 0) → fresh ≡ not b → Decides b P → Decides fresh (P → ⊥)
not_decides true fresh P e d = (λ t. absurd (false≢true (sym e ∙ t)), λ n. absurd (n (d.0 refl)))
not_decides false fresh P e d = (λ t p. false≢true (d.1 p), λ n. e)

pub set_fresh : (rows : List Inequality) (set : RowSet) (key : Vec ℤ) (row : Inequality) (fresh : Bool) → IsSetOf rows set → key.items ≡ row.bound ∷ row.coefficients → fresh ≡ not (contains key_cmp set.keys key) → Decides fresh (Contains rows row → ⊥)
set_fresh rows set key row fresh s numbers e = not_decides (contains key_cmp set.keys key) fresh (Contains rows row) e (set_has rows set key row (contains key_cmp set.keys key) s numbers refl)

-- the first rows, with one more
pub rows_more : (rows : List Inequality) (i : ℕ) (row : Inequality) → i < length rows → row ≡ get_or rows i row → take (i + 1) rows ≡ take i rows ++ row ∷ []
rows_more rows i row l is = take_more rows i row l ∙ ap (λ (r : Inequality). take i rows ++ r ∷ []) (sym is)

pub different_more : (rows : List Inequality) (row : Inequality) → AreDifferent rows → (Contains rows row → ⊥) → AreDifferent (rows ++ row ∷ [])
different_more rows row d n = all_pairs_push (λ (a b : Inequality). a ≢ b) rows row d (λ k e l same. n (subst (λ (r : Inequality). Contains rows r) same (Contains-get_or rows k e l)))
