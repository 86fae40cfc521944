-- The law of passes: where operations, passed points and tests keep a relation, whole code keeps it, for every number of turns.
use Rattle.std.proofs.Common.{◌≡◌, ℕ, zero, suc, Bool, List, [], ◌∷◌, ◌++◌, Option, Some, None, refl, sym, ◌∙◌, ap, subst}
use Rattle.std.proofs.lemmas.List.{append-nil}
use Rattle.program.specs.Trees.{Tree, LeafTree, UnaryTree, BinaryTree, IfTree, ManyTree, BadTree, Trees, NoTrees, MoreTrees}
use Rattle.code_tree.specs.declared.code.Jump.{Jump}
use Rattle.code_tree.specs.declared.code.At.{At}
use Rattle.code_tree.specs.declared.code.CodeUnary.{CodeUnary}
use Rattle.code_tree.specs.declared.code.CodeUnary.TheVariants.{Passes, Leaves, Catches}
use Rattle.code_tree.specs.declared.code.CodeMany.{CodeMany}
use Rattle.code_tree.specs.declared.code.CodeMany.TheVariants.{Joins, Does}
use Rattle.code_tree.specs.Outcomes.{Outcome, Done, Left, Aborted, Unfinished, Stuck, RunOf, gives, leaves, unfinished, after, then_run, chosen, loops}
use Rattle.code_tree.specs.Codes.{Code, Codes, CodeRuns, Meaning, operation_run, many_run, loop_run, level, levels, runs}
use Rattle.code_tree.specs.Passes.{Pass, behind, behind_all, behind_none, applied, applied_many, applied_all, Flow, Exit, Exits, no_exits, with_exit, turn_exits, LeavesTo, Flows, FlowsMany, FlowsAll, AllAlike, AtExit, Alike}
use Rattle.code_tree.specs.PassLaws.{chain_run, Signatures, CallsAlike, Keeps, BodiesFlow, RunsAlike, WholeAlike}
use Rattle.code_tree.proofs.Combined.{appended, after_both, in_exits, caught_both, turned_both, chosen_both}

-- ---- sequences

module _ {I S : Type 0} where
  pub after_gives : (o : Outcome I S) → after o gives ≡ o
  after_gives (Done vs s) = refl
  after_gives (Left j vs s) = refl
  after_gives (Aborted c) = refl
  after_gives Unfinished = refl
  after_gives Stuck = refl

  pub after_after : (o : Outcome I S) (f g : List I → RunOf I S) → after (after o f) g ≡ after o (λ vs. then_run (f vs) g)
  after_after (Done vs s) f g = refl
  after_after (Left j vs s) f g = refl
  after_after (Aborted c) f g = refl
  after_after Unfinished f g = refl
  after_after Stuck f g = refl

  -- the items of one part alone
  pub after_single : (o : Outcome I S) (f : List I → RunOf I S) → after (after o (λ vs. gives (vs ++ []))) f ≡ after o f
  after_single (Done vs s) f = ap (λ us. f us s) (append-nil vs)
  after_single (Left j vs s) f = refl
  after_single (Aborted c) f = refl
  after_single Unfinished f = refl
  after_single Stuck f = refl

-- ---- runs of operations behind code

module _ {N Q K J T : Type 0} (L : Meaning N Q J T) (D : N → Code Q K) (g : CodeRuns Q K J T) where
  abbrev pub calls_of : N → RunOf J T
  calls_of f = g (D f)

  -- what comes behind code is run on the items that it gives
  pub behind_runs : (n : ℕ) (os : List Q) (c : Code Q K) (t : T) → level L D g (behind n os c) t ≡ after (level L D g c t) (chain_run L calls_of os)
  behind_runs n [] c t = sym (after_gives (level L D g c t))
  behind_runs n (o ∷ os) c t =
      behind_runs n os (ManyTree (Does (record { point = n; op = o })) (MoreTrees c NoTrees)) t
      ∙ ap (λ x. after x (chain_run L calls_of os)) (after_single (level L D g c t) (L.operate calls_of o))
      ∙ after_after (level L D g c t) (L.operate calls_of o) (chain_run L calls_of os)

  pub behind_all_runs : (n : ℕ) (os : List Q) (cs : Codes Q K) (t : T) → level L D g (behind_all n os cs) t ≡ after (levels L D g cs t) (chain_run L calls_of os)
  behind_all_runs n [] cs t = refl
  behind_all_runs n (o ∷ os) cs t =
      behind_runs n os (ManyTree (Does (record { point = n; op = o })) cs) t ∙ after_after (levels L D g cs t) (L.operate calls_of o) (chain_run L calls_of os)

  pub behind_none_runs : (n : ℕ) (os : List Q) (t : T) → level L D g (behind_none n os) t ≡ chain_run L calls_of os [] t
  behind_none_runs n [] t = refl
  behind_none_runs n (o ∷ os) t = behind_runs n os (LeafTree (record { point = n; op = o })) t

-- ---- the law

module _ {N C P A O H Q K I J S T : Type 0} (V : C → A → I → J → Type 0) (R : C → P → S → T → Type 0) (F : Flow O H P A) (G : Signatures N P A) (M : Meaning N O I S) (L : Meaning N Q J T) (pass : Pass O H Q K)
    (law : Keeps V R F G M L pass) (B : N → Code O H) (bodies : BodiesFlow F G B)
  where
    abbrev pub D : N → Code Q K
    D f = applied pass (B f)

    abbrev pub RunsKeep : CodeRuns O H I S → CodeRuns Q K J T → Type 0
    RunsKeep f g =
        (c : C) (a : Code O H) (exits : Exits P A) (p q : P) (kinds : List A) (s : S) (t : T) → Flows F exits p a q kinds → R c p s t
        → Alike (V c) (R c) exits q kinds (f a s) (g (applied pass a) t)

    to_exit : (c : C) (m : P) (kinds : List A) (e : Option (Exit P A)) (vs : List I) (ws : List J) (s : S) (t : T) → LeavesTo F m kinds e → AllAlike (V c) kinds vs ws → R c m s t → AtExit (V c) (R c) e vs s ws t
    to_exit c m kinds None vs ws s t w h r = absurd w
    to_exit c m kinds (Some e) vs ws s t w h r = (subst (λ ks. AllAlike (V c) ks vs ws) w.1 h, law.less c m e.point s t w.0 r)

    module _ (f : CodeRuns O H I S) (g : CodeRuns Q K J T) (h : RunsKeep f g) where
      abbrev source_calls : N → RunOf I S
      source_calls i = f (B i)

      abbrev result_calls : N → RunOf J T
      result_calls i = g (D i)

      calls_alike : CallsAlike V R G source_calls result_calls
      calls_alike d i s t r = h d (B i) no_exits (G.begins i) (G.finishes i) (G.results i) s t (bodies i) r

      operation_keeps : (c : C) (at : At O) (exits : Exits P A) (p q : P) (kinds given : List A) (vs : List I) (ws : List J) (s : S) (t : T) → F.op at.point p kinds at.op q given → AllAlike (V c) kinds vs ws → R c p s t
          → Alike (V c) (R c) exits q given (operation_run M B f at vs s) (chain_run L result_calls (pass.op at.point at.op) ws t)
      operation_keeps c at exits p q kinds given vs ws s t w x r =
          in_exits (V c) (R c) exits q given (operation_run M B f at vs s) (chain_run L result_calls (pass.op at.point at.op) ws t) (law.op c at.point at.op p q kinds given vs ws s t w x r source_calls result_calls calls_alike)

      abbrev result_many : CodeMany O → List J → RunOf J T
      result_many Joins = gives
      result_many (Does at) = chain_run L result_calls (pass.op at.point at.op)

      many_runs : (o : CodeMany O) (cs : Codes Q K) (t : T) → level L D g (applied_many pass o cs) t ≡ after (levels L D g cs t) (result_many o)
      many_runs Joins cs t = refl
      many_runs (Does at) cs t = behind_all_runs L D g at.point (pass.op at.point at.op) cs t

      many_keeps : (c : C) (o : CodeMany O) (exits : Exits P A) (p q : P) (kinds given : List A) (vs : List I) (ws : List J) (s : S) (t : T) → FlowsMany F p kinds o q given → AllAlike (V c) kinds vs ws → R c p s t
          → Alike (V c) (R c) exits q given (many_run M B f o vs s) (result_many o ws t)
      many_keeps c Joins exits p q kinds given vs ws s t w x r = (subst (λ ks. AllAlike (V c) ks vs ws) (sym w.1) x, law.less c p q s t w.0 r)
      many_keeps c (Does at) exits p q kinds given vs ws s t w x r = operation_keeps c at exits p q kinds given vs ws s t w x r

      loop_keeps : (c : C) (hd : H) (a b : Code O H) (exits : Exits P A) (p q : P) (kinds : List A) (s : S) (t : T) (m l : P) (k : A) (turn_kinds : List A)
          → F.less p m → F.head m hd → Flows F exits m a l (k ∷ []) → F.test k → Flows F (turn_exits m q exits) l b m turn_kinds → F.less l q → kinds ≡ [] → R c p s t
          → Alike (V c) (R c) exits q kinds (loop_run M B f hd a b s) (loop_run L D g (pass.head hd) (applied pass a) (applied pass b) t)
      loop_keeps c hd a b exits p q kinds s t m l k turn_kinds to_head at_head condition test body onward none r =
          let again : Code O H = BinaryTree hd a b in
          subst (λ ks. Alike (V c) (R c) exits q ks (loop_run M B f hd a b s) (loop_run L D g (pass.head hd) (applied pass a) (applied pass b) t)) (sym none) (
          after_both (V c) (R c) exits l q (k ∷ []) [] (f a s) (g (applied pass a) t)
          (chosen M.truth (loops (f b) (f again)) (gives [])) (chosen L.truth (loops (g (applied pass b)) (g (applied pass again))) (gives []))
          (h c a exits m l (k ∷ []) s t condition (law.less c p m s t to_head r))
          (λ vs ws u v x y. chosen_both (V c) (R c) exits q k [] M.truth L.truth vs ws u v (loops (f b) (f again)) (gives []) (loops (g (applied pass b)) (g (applied pass again))) (gives [])
          (λ i j z. law.test c k i j test z) x
          (turned_both (V c) (R c) exits m q turn_kinds (f b u) (g (applied pass b) v) (f again) (g (applied pass again)) (h c b (turn_exits m q exits) l m turn_kinds u v body y)
          (λ i j z. h c again exits m q [] i j (m, l, k, turn_kinds, law.less_itself m, at_head, condition, test, body, onward, refl) z))
          (tt, law.less c l q u v onward y)))

      mutual
        pub level_keeps : (c : C) (a : Tree (At O) CodeUnary H (CodeMany O)) (exits : Exits P A) (p q : P) (kinds : List A) (s : S) (t : T) → Flows F exits p a q kinds → R c p s t
            → Alike (V c) (R c) exits q kinds (level M B f a s) (level L D g (applied pass a) t)
        level_keeps c (LeafTree at) exits p q kinds s t w r =
            subst (λ z. Alike (V c) (R c) exits q kinds (operation_run M B f at [] s) z) (sym (behind_none_runs L D g at.point (pass.op at.point at.op) t)) (operation_keeps c at exits p q [] kinds [] [] s t w tt r)
        level_keeps c (UnaryTree (Passes n way) a) exits p q kinds s t w r =
            let m = w.0 in
            subst (λ z. Alike (V c) (R c) exits q kinds z (level L D g (behind n (pass.way n way) (applied pass a)) t)) (after_gives (level M B f a s)) (
            subst (λ z. Alike (V c) (R c) exits q kinds (after (level M B f a s) gives) z) (sym (behind_runs L D g n (pass.way n way) (applied pass a) t)) (
            after_both (V c) (R c) exits m q kinds kinds (level M B f a s) (level L D g (applied pass a) t) gives (chain_run L result_calls (pass.way n way)) (level_keeps c a exits p m kinds s t w.1 r)
            (λ vs ws u v x y. in_exits (V c) (R c) exits q kinds (Done vs u) (chain_run L result_calls (pass.way n way) ws v) (law.way c n way m q kinds vs ws u v w.2 x y source_calls result_calls calls_alike))))
        level_keeps c (UnaryTree (Leaves j) a) exits p q kinds s t w r =
            after_both (V c) (R c) exits w.0 q w.1 kinds (level M B f a s) (level L D g (applied pass a) t) (leaves j) (leaves j) (level_keeps c a exits p w.0 w.1 s t w.2 r)
            (λ vs ws u v x y. (refl, to_exit c w.0 w.1 (exits j) vs ws u v w.3 x y))
        level_keeps c (UnaryTree (Catches j) a) exits p q kinds s t w r =
            caught_both (V c) (R c) exits q kinds j (level M B f a s) (level L D g (applied pass a) t) (level_keeps c a (with_exit j q kinds exits) p q kinds s t w r)
        level_keeps c (BinaryTree hd a b) exits p q kinds s t w r =
            loop_keeps c hd a b exits p q kinds s t w.0 w.1 w.2 w.3 w.4 w.5 w.6 w.7 w.8 w.9 w.10 r
        level_keeps c (IfTree a b d) exits p q kinds s t w r =
            after_both (V c) (R c) exits w.0 q (w.1 ∷ []) kinds (level M B f a s) (level L D g (applied pass a) t)
            (chosen M.truth (level M B f b) (level M B f d)) (chosen L.truth (level L D g (applied pass b)) (level L D g (applied pass d)))
            (level_keeps c a exits p w.0 (w.1 ∷ []) s t w.2 r)
            (λ vs ws u v x y. chosen_both (V c) (R c) exits q w.1 kinds M.truth L.truth vs ws u v (level M B f b) (level M B f d) (level L D g (applied pass b)) (level L D g (applied pass d))
            (λ i j k. law.test c w.1 i j w.3 k) x (level_keeps c b exits w.0 q kinds u v w.4 y) (level_keeps c d exits w.0 q kinds u v w.5 y))
        level_keeps c (ManyTree o ts) exits p q kinds s t w r =
            subst (λ z. Alike (V c) (R c) exits q kinds (after (levels M B f ts s) (many_run M B f o)) z) (sym (many_runs o (applied_all pass ts) t)) (
            after_both (V c) (R c) exits w.0 q w.1 kinds (levels M B f ts s) (levels L D g (applied_all pass ts) t) (many_run M B f o) (result_many o) (levels_keep c ts exits p w.0 w.1 s t w.2 r)
            (λ vs ws u v x y. many_keeps c o exits w.0 q w.1 kinds vs ws u v w.3 x y))
        level_keeps c BadTree exits p q kinds s t w r = absurd w

        pub levels_keep : (c : C) (ts : Trees (At O) CodeUnary H (CodeMany O)) (exits : Exits P A) (p q : P) (kinds : List A) (s : S) (t : T) → FlowsAll F exits p ts q kinds → R c p s t
            → Alike (V c) (R c) exits q kinds (levels M B f ts s) (levels L D g (applied_all pass ts) t)
        levels_keep c NoTrees exits p q kinds s t w r = (subst (λ ks. AllAlike (V c) ks [] []) (sym w.1) tt, law.less c p q s t w.0 r)
        levels_keep c (MoreTrees a ts) exits p q kinds s t w r =
            after_both (V c) (R c) exits w.0 q w.1 kinds (level M B f a s) (level L D g (applied pass a) t)
            (λ vs. then_run (levels M B f ts) (λ us. gives (vs ++ us))) (λ ws. then_run (levels L D g (applied_all pass ts)) (λ zs. gives (ws ++ zs)))
            (level_keeps c a exits p w.0 w.1 s t w.3 r)
            (λ vs ws u v x y.
            after_both (V c) (R c) exits q q w.2 kinds (levels M B f ts u) (levels L D g (applied_all pass ts) v) (λ us. gives (vs ++ us)) (λ zs. gives (ws ++ zs)) (levels_keep c ts exits w.0 q w.2 u v w.4 y)
            (λ us zs i j k l. (subst (λ ks. AllAlike (V c) ks (vs ++ us) (ws ++ zs)) (sym w.5) (appended (V c) w.1 w.2 vs us ws zs x k), l)))

    pub runs_keep : (n : ℕ) → RunsKeep (runs M B n) (runs L D n)
    runs_keep zero = level_keeps (λ c. unfinished) (λ c. unfinished) (λ c a exits p q kinds s t w r. tt)
    runs_keep (suc n) = level_keeps (runs M B n) (runs L D n) (runs_keep n)

    pub runs_alike : RunsAlike V R F M L pass B
    runs_alike = runs_keep

pub whole_alike : {N C P A O H Q K I J S T : Type 0} (V : C → A → I → J → Type 0) (R : C → P → S → T → Type 0) (F : Flow O H P A) (G : Signatures N P A) (M : Meaning N O I S) (L : Meaning N Q J T) (pass : Pass O H Q K)
    → Keeps V R F G M L pass → (source : Code O H) (result : Code Q K) → result ≡ applied pass source → WholeAlike V R F G M L pass source result
whole_alike V R F G M L pass law source result e =
    subst (WholeAlike V R F G M L pass source) (sym e) (λ bodies flow n c. runs_alike V R F G M L pass law bodies flow n c source)
