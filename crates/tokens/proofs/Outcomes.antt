-- The answers of a scan.
use Rattle.std.proofs.Common.{◌≡◌, ℕ, ◌<◌, ◌≤◌, Bool, List, length, sym, ap, subst, ◌∙◌, inl, arith, Err}
use Rattle.std.proofs.lemmas.List.{take_all}
use Rattle.tokens.specs.declared.token.Token.{Token}
use Rattle.tokens.specs.declared.token.TokenFault.TheVariants.{BadToken}
use Rattle.tokens.specs.Spelling.{Spells, IsBadAt, IsUnspelled, Gives}
use Rattle.tokens.proofs.Rows.{spelled_once, bad_unspelled, bad_once, Progress, progress_spells}

-- a bad token
pub bad_says : (file at : ℕ) (bytes : List ℕ) → IsBadAt at bytes → (offset : ℕ) → at ≡ offset → IsBadAt offset bytes × IsUnspelled file bytes
bad_says file at bytes bad offset e =
    let P : ℕ → Type 0 = λ n. IsBadAt n bytes in
    (subst P e bad, bad_unspelled file at bytes bad)

pub bad_only : (file at : ℕ) (bytes : List ℕ) → IsBadAt at bytes → (offset : ℕ) → IsBadAt offset bytes → Gives (Err (BadToken at)) (Err (BadToken offset))
bad_only file at bytes bad offset other = inl (ap (λ n. Err (BadToken n)) (bad_once at offset bytes bad other))

-- the end, with too many tokens
pub many_says : (file : ℕ) (bytes : List ℕ) (found : List Token) (count at : ℕ) (touching : Bool) → Progress file bytes found count at touching → length bytes ≤ at → 200000 < count → (n : ℕ) → count ≡ n → (ts : List Token) × Spells file ts bytes × (length ts ≡ n) × (200000 < n)
many_says file bytes found count at touching so end many n e =
    (so.tokens, progress_spells file bytes found count at touching so end, sym so.counted ∙ e, omega arith)

pub many_only : (file : ℕ) (bytes : List ℕ) (found : List Token) (count at : ℕ) (touching : Bool) → Progress file bytes found count at touching → length bytes ≤ at → (ts : List Token) → Spells file ts bytes → count ≡ length ts
many_only file bytes found count at touching so end ts spelled =
    so.counted ∙ ap length (spelled_once file bytes so.tokens ts (progress_spells file bytes found count at touching so end) spelled)

-- the end, with few enough tokens
pub all_kept : (file : ℕ) (bytes : List ℕ) (found : List Token) (count at : ℕ) (touching : Bool) → (so : Progress file bytes found count at touching) → count ≤ 200000 → found ≡ so.tokens
all_kept file bytes found count at touching so few = so.kept ∙ take_all 200000 so.tokens (omega (arith, so.counted))

pub few_says : (file : ℕ) (bytes : List ℕ) (found : List Token) (count at : ℕ) (touching : Bool) → Progress file bytes found count at touching → length bytes ≤ at → count ≤ 200000 → Spells file found bytes × (length found ≤ 200000)
few_says file bytes found count at touching so end few =
    let all = all_kept file bytes found count at touching so few in
    let P : List Token → Type 0 = λ ts. Spells file ts bytes in
    (subst P (sym all) (progress_spells file bytes found count at touching so end), omega (arith, ap length all, so.counted))
