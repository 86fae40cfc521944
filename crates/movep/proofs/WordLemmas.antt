-- What is read of a command line, word by word.
use Rattle.std.proofs.Common.{◌≡◌, ℕ, zero, suc, ◌+◌, ◌≤◌, List, [], ◌∷◌, ◌++◌, length, take, drop, Option, Some, None, sym, ap, ◌∙◌, subst, refl, arith}
use Rattle.std.specs.Prelude.{slice_get, IfSome}
use Rattle.std.proofs.Math.Seq.{take-append_seam}
use Rattle.movep.specs.CommandLines.{IsWordAt}

-- the front of a buffer that was copied is the word
pub word_copied : (words : Option (List (List ℕ))) (number : ℕ) (piece word : List ℕ) → word ≡ piece → IfSome words (λ ws. slice_get ws number ≡ Some piece) → IfSome words (λ ws. slice_get ws number ≡ Some word)
word_copied words number piece word same found = subst (λ x. IfSome words (λ ws. slice_get ws number ≡ Some x)) (sym same) found

-- the words before this one but the first
abbrev pub AreWordsTo : Option (List (List ℕ)) → ℕ → List (List ℕ) → Type 0
AreWordsTo words number found = IfSome words (λ ws. found ≡ drop 1 (take number ws))

-- none before the second
pub none_before : (words : Option (List (List ℕ))) → AreWordsTo words 1 []
none_before None = tt
none_before (Some []) = refl
none_before (Some (w ∷ ws)) = refl

take_next : {X : Type 0} (xs : List X) (k : ℕ) (x : X) → slice_get xs k ≡ Some x → take (suc k) xs ≡ take k xs ++ x ∷ []
take_next [] k x e = absurd (cc)
take_next (y ∷ xs) zero x e = (let same : y ≡ x = cc in ap (λ z. z ∷ []) same)
take_next (y ∷ xs) (suc k) x e = ap (λ zs. y ∷ zs) (take_next xs k x e)

-- one word more
pub word_more : (words : Option (List (List ℕ))) (number : ℕ) (found new : List (List ℕ)) (word : List ℕ) → 1 ≤ number → AreWordsTo words number found → IfSome words (λ ws. IsWordAt ws number (Some word)) → new ≡ found ++ word ∷ [] → AreWordsTo words (number + 1) new
word_more None number found new word l are is e = tt
word_more (Some []) number found new word l are is e = absurd (cc)
word_more (Some (w ∷ ws)) zero found new word l are is e = elim l [ ]
word_more (Some (w ∷ ws)) (suc k) found new word l are is e =
    let next : suc k + 1 ≡ suc (suc k) = omega arith in
    subst (λ n. new ≡ drop 1 (take n (w ∷ ws))) (sym next) (e ∙ ap (λ xs. xs ++ word ∷ []) are ∙ sym (take_next ws k word is))

take_all : {X : Type 0} (xs : List X) (k : ℕ) → length xs ≤ k → take k xs ≡ xs
take_all [] zero l = refl
take_all [] (suc k) l = refl
take_all (x ∷ xs) zero l = absurd (omega (arith, l))
take_all (x ∷ xs) (suc k) l = ap (λ ys. x ∷ ys) (take_all xs k (omega (arith, l)))

-- no word is left
pub words_end : (words : Option (List (List ℕ))) (number : ℕ) (found : List (List ℕ)) → AreWordsTo words number found → IfSome words (λ ws. IsWordAt ws number None) → IfSome words (λ ws. found ≡ drop 1 ws)
words_end None number found are is = tt
words_end (Some ws) number found are is = are ∙ ap (λ xs. drop 1 xs) (take_all ws number is)

-- the front of a buffer that was written from its start on is the front of what was written
pub front_written : (count size : ℕ) (front rest : List ℕ) → length front ≡ size → take count (take size (front ++ rest)) ≡ take count front
front_written count size front rest e = ap (λ xs. take count xs) (ap (λ n. take n (front ++ rest)) (sym e) ∙ take-append_seam front rest)
