-- Names with consecutive numbers.
use Rattle.std.proofs.Common.{◌≡◌, ℕ, zero, suc, ◌+◌, ◌<◌, List, [], ◌∷◌, ◌++◌, length, get_or, take, sym, ap, ◌∙◌, append_assoc, arith}
use Rattle.program.specs.declared.spec.SpecName.{SpecName}
use Rattle.body_names.specs.declared.spec.outer.OuterName.{OuterName}
use Rattle.resolution.specs.declared.clauses.around.NameKind.{NameKind}
use Rattle.resolution.specs.Around.{meaning_of, numbered}

-- one more name
pub numbered_next : (kind : NameKind) (n : ℕ) (names : List (List ℕ)) (i : ℕ) (d : List ℕ) → i < length names → numbered kind n (take (suc i) names) ≡ numbered kind n (take i names) ++ record { name = get_or names i d; meaning = meaning_of kind (n + i) } ∷ []
numbered_next kind n [] i d h = absurd (omega (arith, h))
numbered_next kind n (x ∷ xs) zero d h = let e : n ≡ n + 0 = omega arith in ap (λ k. record { name = x; meaning = meaning_of kind k } ∷ []) e
numbered_next kind n (x ∷ xs) (suc i) d h =
    let e : (1 + n) + i ≡ n + suc i = omega arith in
    rw (← e) (ap (λ os. record { name = x; meaning = meaning_of kind n } ∷ os) (numbered_next kind (1 + n) xs i d (omega (arith, h))))

-- one more name is appended
pub numbered_more : (kind : NameKind) (old now new : List OuterName) (names : List (List ℕ)) (i : ℕ) (x n : List ℕ) (m : SpecName) → i < length names → x ≡ get_or names i x → n ≡ x → m ≡ meaning_of kind i → now ≡ old ++ numbered kind 0 (take i names) → new ≡ now ++ record { name = n; meaning = m } ∷ [] → new ≡ old ++ numbered kind 0 (take (i + 1) names)
numbered_more kind old now new names i x n m h e same means done one =
    let k : i + 1 ≡ suc i = omega arith in
    let z : i ≡ 0 + i = omega arith in
    let name : n ≡ get_or names i x = same ∙ e in
    let meaning : m ≡ meaning_of kind (0 + i) = means ∙ ap (meaning_of kind) z in
    one ∙ (λ j. done j ++ record { name = name j; meaning = meaning j } ∷ [])
    ∙ append_assoc old (numbered kind 0 (take i names)) (record { name = get_or names i x; meaning = meaning_of kind (0 + i) } ∷ [])
    ∙ ap (λ os. old ++ os) (sym (numbered_next kind 0 names i x h))
    ∙ ap (λ l. old ++ numbered kind 0 (take l names)) (sym k)
