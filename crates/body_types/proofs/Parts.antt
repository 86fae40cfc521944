-- The numbers of the parts of a type, and the types that they are.
use Rattle.std.proofs.Common.{◌≡◌, ℕ, zero, suc, ◌+◌, ◌<◌, ◌≤◌, max, List, [], ◌∷◌, ◌++◌, length, map, take, get_or, All, sym, ap, subst, ◌∙◌, arith}
use Rattle.std.specs.Prelude.{slice_index}
use Rattle.std.proofs.Math.Nat.{le-max_left, le-max_right, max-le}
use Rattle.std.proofs.Math.Seq.{take-length}
use Rattle.std.proofs.lemmas.List.{map-append, take_more}
use Rattle.std.proofs.lemmas.List.Elements.{All-head, All-tail}
use Rattle.base.specs.TypeData.{TypeData}
use Rattle.typing_rules.specs.declared.type_pool.PoolType.{PoolType}
use Rattle.typing_rules.specs.declared.type_pool.PoolType.TheVariants.{Made, Struct, Tuple}
use Rattle.typing_rules.specs.Pools.{IsBelow}
use Rattle.base.specs.declared.types.StructId.{StructId}
use Rattle.typing_rules.specs.declared.sort.Wrap.{Wrap}

-- the least number above all of these
abbrev pub above : List ℕ → ℕ
above [] = 0
above (n ∷ ns) = max (n + 1) (above ns)

pub below_above : (ns : List ℕ) (i : ℕ) → i < length ns → slice_index ns i < above ns
below_above [] i lt = absurd (omega (arith, lt))
below_above (n ∷ ns) zero lt = let h = le-max_left (n + 1) (above ns) in omega (arith, h)
below_above (n ∷ ns) (suc i) lt =
    let inside : i < length ns = omega (arith, lt) in
    let one = below_above ns i inside in
    let h = le-max_right (n + 1) (above ns) in omega (arith, h, one)

pub above_least : (n : ℕ) (ns : List ℕ) → All (λ m. m < n) ns → above ns ≤ n
above_least n [] all = omega arith
above_least n (m ∷ ns) all =
    let first = All-head (λ (x : ℕ). x < n) m ns all in
    max-le {a = m + 1} {b = above ns} {k = n} (omega (arith, first)) (above_least n ns (All-tail (λ (x : ℕ). x < n) m ns all))

pub all_below : (a b : ℕ) (ns : List ℕ) → a ≤ b → All (λ m. m < a) ns → All (λ m. m < b) ns
all_below a b ns le each k d lt = let h = each k d lt in omega (arith, h, le)

-- ---- parts of an entry

pub made_below : (n m : ℕ) (wrap : Wrap) (e : PoolType) → e ≡ Made wrap m → IsBelow n e → m < n
made_below n m wrap e is h = let below : IsBelow n (Made wrap m) = subst (λ (x : PoolType). IsBelow n x) is h in below

pub arguments_below : (n : ℕ) (id : StructId) (ns : List ℕ) (e : PoolType) → e ≡ Struct id ns → IsBelow n e → All (λ m. m < n) ns
arguments_below n id ns e is h = let below : IsBelow n (Struct id ns) = subst (λ (x : PoolType). IsBelow n x) is h in below

pub parts_below : (n : ℕ) (ns : List ℕ) (e : PoolType) → e ≡ Tuple ns → IsBelow n e → All (λ m. m < n) ns
parts_below n ns e is h = let below : IsBelow n (Tuple ns) = subst (λ (x : PoolType). IsBelow n x) is h in below

-- ---- one type after another

pub one_more : (f : ℕ → TypeData) (numbers : List ℕ) (i n : ℕ) (items more : List TypeData) (of : TypeData) → i < length numbers → n ≡ get_or numbers i n → of ≡ f n → more ≡ items ++ of ∷ [] →
    items ≡ map f (take i numbers) → more ≡ map f (take (i + 1) numbers)
one_more f numbers i n items more of lt at is e before =
    e ∙ ap (λ (ts : List TypeData). ts ++ of ∷ []) before ∙ ap (λ (t : TypeData). map f (take i numbers) ++ t ∷ []) is
    ∙ sym (map-append f (take i numbers) (n ∷ []))
    ∙ ap (λ (m : ℕ). map f (take i numbers ++ m ∷ [])) at ∙ ap (map f) (sym (take_more numbers i n lt))

pub all_taken : (f : ℕ → TypeData) (numbers : List ℕ) (i : ℕ) (items : List TypeData) → i ≡ length numbers → items ≡ map f (take i numbers) → items ≡ map f numbers
all_taken f numbers i items e before = before ∙ ap (λ (n : ℕ). map f (take n numbers)) e ∙ ap (map f) (take-length numbers)
