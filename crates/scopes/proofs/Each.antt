-- What holds of each element so far, and the conditions that decide the visibility of a function.
use Rattle.std.proofs.Common.{◌≡◌, ℕ, ◌+◌, ◌<◌, ◌≤◌, List, [], ◌∷◌, length, take, Bool, false, Option, Some, None, sym, subst, arith, get_or}
use Rattle.std.specs.Prelude.{◌↔◌, IsTrue, All, IsSomeAnd, slice_get}
use Rattle.std.specs.Map.{lookup}
use Rattle.std.proofs.lemmas.List.{take_all}
use Rattle.std.proofs.lemmas.Option.{slice_get_within, get_or_from_slice_get, slice_get-get_or}
use Rattle.std.proofs.lemmas.List.Elements.{All-more}
use Rattle.base.specs.declared.types.FunctionId.{FunctionId}
use Rattle.program.specs.declared.declaration.Function.{Function}
use Rattle.program.specs.declared.program.ModuleId.{ModuleId}
use Rattle.program.specs.declared.program.Program.{Program}
use Rattle.scopes.specs.Visibility.{MayCall}
use Rattle.program.specs.Homes.{function_home}
use Rattle.program.specs.Same.{same_function}
use Rattle.scopes.specs.Visible.{FunctionIsVisible, friends_of}

pub next : {A : Type 0} (P : A → Type 0) (xs : List A) (n : ℕ) (x : A) → slice_get xs n ≡ Some x
    → All P (take n xs) → P x → All P (take (n + 1) xs)
next P xs n x e h p =
    All-more P xs n x (slice_get_within xs n x e) h (subst P (sym (get_or_from_slice_get xs n x x e)) p)

pub next_item : {A : Type 0} (P : A → Type 0) (xs : List A) (n : ℕ) (x : A) → n < length xs → x ≡ get_or xs n x
    → All P (take n xs) → P x → All P (take (n + 1) xs)
next_item P xs n x b e h p = All-more P xs n x b h (subst P e p)

pub every : {A : Type 0} (P : A → Type 0) (xs : List A) (n : ℕ) → length xs ≤ n → All P (take n xs) → All P xs
every P xs n b h = subst (λ ys. All P ys) (take_all n xs b) h

pub not_declared : (o : Option Function) (Q : Function → Type 0) → None ≡ o → IsTrue false ↔ IsSomeAnd o Q
not_declared None Q e = (λ h. absurd (cc), λ h. absurd h)
not_declared (Some d) Q e = absurd (cc)

pub declared : (p : Program) (own : ModuleId) (f : FunctionId) (d : Function) (owner : ModuleId) (given : List ModuleId) (r : Bool)
    → Some d ≡ lookup (same_function f) p.functions → owner ≡ function_home f → given ≡ friends_of p owner
    → (IsTrue r ↔ MayCall own owner d.visibility given) → IsTrue r ↔ FunctionIsVisible p own f
declared p own f d owner given r e o g h =
    let may : IsTrue r ↔ MayCall own (function_home f) d.visibility (friends_of p (function_home f)) =
    subst (λ (m : ModuleId). IsTrue r ↔ MayCall own m d.visibility (friends_of p m)) o
    (subst (λ (fs : List ModuleId). IsTrue r ↔ MayCall own owner d.visibility fs) g h) in
    subst (λ (x : Option Function). IsTrue r ↔ IsSomeAnd x (λ d. MayCall own (function_home f) d.visibility (friends_of p (function_home f)))) e may

-- each index below the length has an item
pub nothing_there : {A : Type 0} (xs : List A) (n : ℕ) → n < length xs → None ≡ slice_get xs n → ⊥
nothing_there [] n b h = omega arith
nothing_there (x ∷ xs) n b h = let e = slice_get-get_or (x ∷ xs) n x b in cc
