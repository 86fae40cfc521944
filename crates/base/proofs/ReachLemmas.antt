-- Paths: concatenation and reversal.
use Rattle.std.proofs.Common.{◌≡◌, ℕ, ◌<◌, List, [], ◌∷◌, ◌++◌, length, get_or, reverse, sym, ◌∙◌, ap, arith}
use Rattle.std.proofs.lemmas.List.{get_or_read, reverse-append}
use Rattle.base.specs.GraphReachability.{IsEdge, Reaches, Here, Along, AreMirrored, IsWithin}

pub reach_push : {graph : List (List ℕ)} {i j k : ℕ} → Reaches graph i j → IsEdge graph j k → Reaches graph i k
reach_push Here e = Along e Here
reach_push (Along f p) e = Along f (reach_push p e)

pub reach_join : {graph : List (List ℕ)} {i j k : ℕ} → Reaches graph i j → Reaches graph j k → Reaches graph i k
reach_join Here q = q
reach_join (Along e p) q = Along e (reach_join p q)

pub reach_reversed : {graph sources : List (List ℕ)} {i j : ℕ} → AreMirrored graph sources → Reaches sources i j → Reaches graph j i
reach_reversed m Here = Here
reach_reversed m (Along e p) = reach_push (reach_reversed m p) (m.back _ _ e)

-- the targets that are read, and the next one
pub targets_are : (graph : List (List ℕ)) (node : ℕ) (read slice : List ℕ) → node < length graph → read ≡ get_or graph node read → slice ≡ read → slice ≡ get_or graph node []
targets_are graph node read slice b is e = e ∙ get_or_read graph node read b is []

pub target_within : (graph : List (List ℕ)) (node next : ℕ) (slice : List ℕ) (size : ℕ) → IsWithin graph → slice ≡ get_or graph node [] → next < length slice → size ≡ length graph → get_or slice next 0 < size
target_within graph node next slice size w e l long =
    let q = ap (λ (xs : List ℕ). length xs) e in
    let b : next < length (get_or graph node []) = omega arith in
    let r = w node (get_or slice next 0) (next, b, ap (λ (xs : List ℕ). get_or xs next 0) (sym e)) in
    omega arith

pub reverse_push : {X : Type 0} → (xs after : List X) (x : X) → after ≡ xs ++ x ∷ [] → reverse after ≡ x ∷ reverse xs
reverse_push xs after x e = ap reverse e ∙ reverse-append xs (x ∷ [])
