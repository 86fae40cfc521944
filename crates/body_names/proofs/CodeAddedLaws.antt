-- The effect of adding the children of a tree, and then its root.
use Rattle.std.proofs.Common.{◌≡◌, ℕ, ◌+◌, ◌<◌, List, [], ◌∷◌, ◌++◌, length, All, sym, ap, subst, ◌∙◌, arith, length-append, append_assoc, append-nil}
use Rattle.base.specs.declared.span.Span.{Span}
use Rattle.program.specs.declared.arena.Node.TheVariants.{Many}
use Rattle.program.specs.declared.code.CodeMany.{CodeMany}
use Rattle.program.specs.Trees.{ManyTree, NoTrees, MoreTrees}
use Rattle.program.specs.Listed.{inner, inner_all, before, indices, nodes_from, nodes_from_all}
use Rattle.body_names.proofs.JoinedLaws.{indices-below}
use Rattle.body_names.specs.declared.code.building.Building.{Building}
use Rattle.body_names.specs.declared.code.loops.LoopScope.{LoopScope}
use Rattle.body_names.specs.CodeForms.{CodeTree, CodeTrees}
use Rattle.body_names.specs.CodeAdded.{Stepped, Added, AddedAll, IsParenthesized}
use Rattle.body_names.specs.PatternTrees.{parenthesized}

-- ---- trees with one more node

pub added-many : {m : CodeMany} {ts : CodeTrees} {s : Span} {ss : List Span} {ns : List (List ℕ)} {ls : List LoopScope} {old mid new : Building} {parts : List ℕ} {r : ℕ} → AddedAll ts ss ns ls old mid parts → Stepped (Many m parts) s mid new r → Added (ManyTree m ts) (ss ++ s ∷ []) ns ls old new r
added-many {m} {ts} {s} {ss} {ns} {ls} {old} {mid} {new} {parts} {r} all step =
    let n : ℕ = length old.body.nodes in
    let here : parts ≡ indices n ts = all.parts_are in
    record {
      sound = all.sound;
      index_is = omega (arith, step.index_is, all.count);
      last = omega (arith, step.index_is, ap length step.nodes, length-append mid.body.nodes (Many m parts ∷ []));
      nodes = step.nodes ∙ (λ i. all.nodes i ++ Many m (here i) ∷ []) ∙ append_assoc old.body.nodes (nodes_from_all n ts) (Many m (indices n ts) ∷ []);
      spans_are = step.spans ∙ (λ i. all.spans_are i ++ s ∷ []) ∙ append_assoc old.body.spans ss (s ∷ []);
      locals = step.locals ∙ all.locals;
      loops_are = step.loops ∙ all.loops_are;
    }

-- ---- children come before their parent

pub parts-below : {ts : CodeTrees} {ss : List Span} {ns : List (List ℕ)} {ls : List LoopScope} {old mid : Building} {parts : List ℕ} → AddedAll ts ss ns ls old mid parts → All (λ x. x < length mid.body.nodes) parts
parts-below {ts} {ss} {ns} {ls} {old} {mid} {parts} all =
    let n : ℕ = length old.body.nodes in
    let P : ℕ → List ℕ → Type 0 = λ k xs. All (λ x. x < k) xs in
    let e : n + length (inner_all ts) ≡ length mid.body.nodes = sym all.count in
    let f : indices n ts ≡ parts = sym all.parts_are in
    rw (← e, ← f) (indices-below n ts)

-- the span of items in parentheses, unless there is just one
abbrev pub own : Span → CodeTrees → List Span
own s NoTrees = s ∷ []
own s (MoreTrees t NoTrees) = []
own s (MoreTrees t (MoreTrees u us)) = s ∷ []

parenthesized-step : (m : CodeMany) (s : Span) (old new : Building) (r : ℕ) {parts parts' : List ℕ} → parts ≡ parts' → IsParenthesized m parts s old new r → IsParenthesized m parts' s old new r
parenthesized-step m s old new r e step = let P : List ℕ → Type 0 = λ ps. IsParenthesized m ps s old new r in subst P e step

many-step : {m : CodeMany} {s : Span} {old new : Building} {r : ℕ} {parts parts' : List ℕ} → parts ≡ parts' → Stepped (Many m parts') s old new r → Stepped (Many m parts) s old new r
many-step {m} {s} {old} {new} {r} e step = let P : List ℕ → Type 0 = λ ps. Stepped (Many m ps) s old new r in subst P (sym e) step

-- a single tree is added unchanged
one-added : {t : CodeTree} {ss : List Span} {ns : List (List ℕ)} {ls : List LoopScope} {old mid new : Building} {parts : List ℕ} {r : ℕ} → AddedAll (MoreTrees t NoTrees) ss ns ls old mid parts → r ≡ length old.body.nodes + before t → new ≡ mid → Added t (ss ++ []) ns ls old new r
one-added {t} {ss} {ns} {ls} {old} {mid} {new} {parts} {r} all index same =
    let n : ℕ = length old.body.nodes in
    let P : Building → Type 0 = λ b. Added t (ss ++ []) ns ls old b r in
    subst P (sym same) record {
      sound = all.sound.0;
      index_is = index;
      last = omega (arith, all.count, index, length-append (inner t ++ t ∷ []) [], length-append (inner t) (t ∷ []));
      nodes = all.nodes ∙ ap (λ xs. old.body.nodes ++ xs) (append-nil (nodes_from n t));
      spans_are = all.spans_are ∙ ap (λ xs. old.body.spans ++ xs) (sym (append-nil ss));
      locals = all.locals;
      loops_are = all.loops_are;
    }

pub added-parenthesized : (m : CodeMany) (ts : CodeTrees) (s : Span) {ss : List Span} {ns : List (List ℕ)} {ls : List LoopScope} {old : Building} (mid new : Building) (parts : List ℕ) (r : ℕ) → AddedAll ts ss ns ls old mid parts → IsParenthesized m parts s mid new r → Added (parenthesized m ts) (ss ++ own s ts) ns ls old new r
added-parenthesized m NoTrees s mid new parts r all step =
    added-many all (many-step all.parts_are (parenthesized-step m s mid new r all.parts_are step))
added-parenthesized m (MoreTrees t NoTrees) s mid new parts r all step =
    let same = parenthesized-step m s mid new r all.parts_are step in
    one-added all same.0 same.1
added-parenthesized m (MoreTrees t (MoreTrees u us)) s mid new parts r all step =
    added-many all (many-step all.parts_are (parenthesized-step m s mid new r all.parts_are step))
