-- Concatenation of trees.
use Rattle.std.proofs.Common.{◌≡◌, ℕ, ◌+◌, ◌<◌, ◌∷◌, [], ◌++◌, length, All, refl, sym, ap, ◌∙◌, arith, length-append, append_assoc}
use Rattle.std.proofs.lemmas.List.Elements.{All-weaker, All-nil, All-cons}
use Rattle.program.specs.Trees.{Tree, Trees, NoTrees, MoreTrees}
use Rattle.program.specs.Listed.{AreSound, inner, inner_all, before, indices, nodes_from, nodes_from_all}
use Rattle.scopes.specs.declared.fault.NameFault.{NameFault}
use Rattle.scopes.specs.declared.fault.NameFault.TheVariants.{Unknown, NoMemory}
use Rattle.scopes.specs.Meanings.{IfUnknown}
use Rattle.body_names.specs.Joined.{joined}

pub joined-none : {L U B M : Type 0} (ts : Trees L U B M) → joined ts NoTrees ≡ ts
joined-none NoTrees = refl
joined-none (MoreTrees t ts) = ap (MoreTrees t) (joined-none ts)

pub size_more : {L U B M : Type 0} (t : Tree L U B M) (ts : Trees L U B M) → length (inner_all (MoreTrees t ts)) ≡ (before t + 1) + length (inner_all ts)
size_more t ts = omega (arith, length-append (inner t ++ t ∷ []) (inner_all ts), length-append (inner t) (t ∷ []))

pub joined-nodes : {L U B M : Type 0} (n : ℕ) (ts us : Trees L U B M) → nodes_from_all n (joined ts us) ≡ nodes_from_all n ts ++ nodes_from_all (n + length (inner_all ts)) us
joined-nodes n NoTrees us = let e : n ≡ n + 0 = omega arith in ap (λ k. nodes_from_all k us) e
joined-nodes n (MoreTrees t ts) us =
    let m : ℕ = n + (before t + 1) in
    let e : m + length (inner_all ts) ≡ n + length (inner_all (MoreTrees t ts)) = omega (arith, size_more t ts) in
    ap (λ xs. nodes_from n t ++ xs) (joined-nodes m ts us) ∙ sym (append_assoc (nodes_from n t) (nodes_from_all m ts) (nodes_from_all (m + length (inner_all ts)) us)) ∙ ap (λ k. (nodes_from n t ++ nodes_from_all m ts) ++ nodes_from_all k us) e

pub joined-indices : {L U B M : Type 0} (n : ℕ) (ts us : Trees L U B M) → indices n (joined ts us) ≡ indices n ts ++ indices (n + length (inner_all ts)) us
joined-indices n NoTrees us = let e : n ≡ n + 0 = omega arith in ap (λ k. indices k us) e
joined-indices n (MoreTrees t ts) us =
    let m : ℕ = n + (before t + 1) in
    let e : m + length (inner_all ts) ≡ n + length (inner_all (MoreTrees t ts)) = omega (arith, size_more t ts) in
    ap (λ xs. (n + before t) ∷ xs) (joined-indices m ts us) ∙ ap (λ k. ((n + before t) ∷ indices m ts) ++ indices k us) e

pub joined-size : {L U B M : Type 0} (ts us : Trees L U B M) → length (inner_all (joined ts us)) ≡ length (inner_all ts) + length (inner_all us)
joined-size NoTrees us = omega arith
joined-size (MoreTrees t ts) us = omega (arith, size_more t (joined ts us), size_more t ts, joined-size ts us)

pub joined-sound : {L U B M : Type 0} (ts us : Trees L U B M) → AreSound ts → AreSound us → AreSound (joined ts us)
joined-sound NoTrees us h k = k
joined-sound (MoreTrees t ts) us h k = (h.0, joined-sound ts us h.1 k)

pub first-sound : {L U B M : Type 0} (ts us : Trees L U B M) → AreSound (joined ts us) → AreSound ts
first-sound NoTrees us h = tt
first-sound (MoreTrees t ts) us h = (h.0, first-sound ts us h.1)

pub second-sound : {L U B M : Type 0} (ts us : Trees L U B M) → AreSound (joined ts us) → AreSound us
second-sound NoTrees us h = h
second-sound (MoreTrees t ts) us h = second-sound ts us h.1

-- ---- children come before their parent

pub indices-below : {L U B M : Type 0} (n : ℕ) (ts : Trees L U B M) → All (λ x. x < n + length (inner_all ts)) (indices n ts)
indices-below n NoTrees = All-nil (λ x. x < n + 0)
indices-below n (MoreTrees t ts) =
    let size = length-append (inner t ++ t ∷ []) (inner_all ts) in
    let one = length-append (inner t) (t ∷ []) in
    let others = indices-below (n + (before t + 1)) ts in
    All-cons (λ x. x < n + length (inner_all (MoreTrees t ts))) (n + before t) (indices (n + (before t + 1)) ts) (omega (arith, size, one)) (All-weaker (λ x. x < (n + (before t + 1)) + length (inner_all ts)) (λ x. x < n + length (inner_all (MoreTrees t ts))) (λ x h. omega (arith, size, one)) (indices (n + (before t + 1)) ts) others)

-- ---- faults

pub unknown-more : (fault : NameFault) {P Q : Type 0} → (P → Q) → IfUnknown fault P → IfUnknown fault Q
unknown-more Unknown f h = f h
unknown-more NoMemory f h = tt

pub first-needed : {L U B M : Type 0} (ts us : Trees L U B M) → (AreSound ts → ⊥) → AreSound (joined ts us) → ⊥
first-needed ts us f h = f (first-sound ts us h)

pub second-needed : {L U B M : Type 0} (ts us : Trees L U B M) → (AreSound us → ⊥) → AreSound (joined ts us) → ⊥
second-needed ts us f h = f (second-sound ts us h)
