-- Code whose trees are added one after another.
use Rattle.std.proofs.Common.{◌≡◌, ℕ, ◌+◌, List, [], ◌∷◌, ◌++◌, length, sym, ap, subst, ◌∙◌, arith, length-append, append_assoc, append-nil}
use Rattle.base.specs.declared.span.Span.{Span}
use Rattle.syntax_tree.specs.ExpressionData.{ExpressionData}
use Rattle.program.specs.Trees.{NoTrees, MoreTrees}
use Rattle.program.specs.Listed.{inner_all, before, nodes_from, nodes_from_all}
use Rattle.scopes.specs.declared.scope.InScope.{InScope}
use Rattle.scopes.specs.TypeMeanings.{TypeScope}
use Rattle.body_names.specs.declared.code.building.Building.{Building}
use Rattle.body_names.specs.declared.code.loops.LoopScope.{LoopScope}
use Rattle.body_names.specs.CodeForms.{CodeTree, CodeTrees}
use Rattle.body_names.specs.CodeTrees.{code_tree}
use Rattle.body_names.specs.Joined.{joined}
use Rattle.body_names.proofs.JoinedLaws.{joined-none, joined-nodes, joined-indices, joined-size, joined-sound, size_more}
use Rattle.body_names.specs.CodeAdded.{Added, AddedAll}

-- ---- extensions

-- nothing more
pub added-no_more : {ts : CodeTrees} {ss : List Span} {ns : List (List ℕ)} {ls : List LoopScope} {old now : Building} {parts : List ℕ} → AddedAll ts ss ns ls old now parts → AddedAll (joined ts NoTrees) (ss ++ []) (ns ++ []) (ls ++ []) old now parts
added-no_more {ts} {ss} {ns} {ls} {old} {now} {parts} all =
    let P : CodeTrees → Type 0 = λ us. AddedAll us (ss ++ []) (ns ++ []) (ls ++ []) old now parts in
    subst P (sym (joined-none ts)) record {
      sound = all.sound;
      parts_are = all.parts_are;
      count = all.count;
      nodes = all.nodes;
      spans_are = all.spans_are ∙ ap (λ xs. old.body.spans ++ xs) (sym (append-nil ss));
      locals = all.locals ∙ ap (λ xs. old.locals ++ xs) (sym (append-nil ns));
      loops_are = all.loops_are ∙ ap (λ xs. old.loops.items ++ xs) (sym (append-nil ls));
    }

-- one more
pub added-one_more : {ts : CodeTrees} {t : CodeTree} {ss s : List Span} {ns k : List (List ℕ)} {ls l : List LoopScope} {old now next : Building} {parts : List ℕ} {p : ℕ} → AddedAll ts ss ns ls old now parts → Added t s k l now next p → AddedAll (joined ts (MoreTrees t NoTrees)) (ss ++ s) (ns ++ k) (ls ++ l) old next (parts ++ p ∷ [])
added-one_more {ts} {t} {ss} {s} {ns} {k} {ls} {l} {old} {now} {next} {parts} {p} all one =
    let n : ℕ = length old.body.nodes in
    let behind : length now.body.nodes ≡ n + length (inner_all ts) = all.count in
    let here : p ≡ (n + length (inner_all ts)) + before t = omega (arith, one.index_is, all.count) in
    record {
      sound = joined-sound ts (MoreTrees t NoTrees) all.sound (one.sound, tt);
      parts_are = (λ i. all.parts_are i ++ here i ∷ []) ∙ sym (joined-indices n ts (MoreTrees t NoTrees));
      count = omega (arith, one.last, one.index_is, all.count, joined-size ts (MoreTrees t NoTrees), size_more t NoTrees);
      nodes = one.nodes ∙ (λ i. all.nodes i ++ nodes_from (behind i) t) ∙ ap (λ xs. (old.body.nodes ++ nodes_from_all n ts) ++ xs) (sym (append-nil (nodes_from (n + length (inner_all ts)) t))) ∙ append_assoc old.body.nodes (nodes_from_all n ts) (nodes_from_all (n + length (inner_all ts)) (MoreTrees t NoTrees)) ∙ ap (λ xs. old.body.nodes ++ xs) (sym (joined-nodes n ts (MoreTrees t NoTrees)));
      spans_are = one.spans_are ∙ (λ i. all.spans_are i ++ s) ∙ append_assoc old.body.spans ss s;
      locals = one.locals ∙ (λ i. all.locals i ++ k) ∙ append_assoc old.locals ns k;
      loops_are = one.loops_are ∙ (λ i. all.loops_are i ++ l) ∙ append_assoc old.loops.items ls l;
    }

-- ---- an expression after bound names

pub bound-count : (old now : Building) (names : List (List ℕ)) → now.locals ≡ old.locals ++ names → length now.locals ≡ length old.locals + length names
bound-count old now names e = ap length e ∙ length-append old.locals names

pub same-code : (w : TypeScope) {s s' : List InScope} {n n' : ℕ} (x : ExpressionData) → s ≡ s' → n ≡ n' → code_tree w s n x ≡ code_tree w s' n' x
same-code w x e f = λ i. code_tree w (e i) (f i) x
