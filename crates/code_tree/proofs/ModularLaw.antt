-- The law of passes for modular runs, on either side: where operations, passed points, tests and heads meet, whole code meets.
use Rattle.std.proofs.Common.{◌≡◌, ℕ, zero, suc, Bool, List, [], ◌∷◌, ◌++◌, Option, Some, None, refl, sym, subst}
use Rattle.program.specs.Trees.{Tree, LeafTree, UnaryTree, BinaryTree, IfTree, ManyTree, BadTree, Trees, NoTrees, MoreTrees}
use Rattle.code_tree.specs.declared.code.Jump.{Jump}
use Rattle.code_tree.specs.declared.code.At.{At}
use Rattle.code_tree.specs.declared.code.CodeUnary.{CodeUnary}
use Rattle.code_tree.specs.declared.code.CodeUnary.TheVariants.{Passes, Leaves, Catches}
use Rattle.code_tree.specs.declared.code.CodeMany.{CodeMany}
use Rattle.code_tree.specs.declared.code.CodeMany.TheVariants.{Joins, Does}
use Rattle.code_tree.specs.Codes.{Code, Codes}
use Rattle.code_tree.specs.Passes.{Pass, behind, applied, applied_many, applied_all, Flow, Exit, Exits, no_exits, with_exit, turn_exits, LeavesTo, Flows, FlowsMany, FlowsAll, AllAlike, AtExit}
use Rattle.code_tree.specs.PassLaws.{Signatures, BodiesFlow}
use Rattle.code_tree.specs.Ends.{End, Goes, Jumps, EndsOf, Ending, Just, ThenEnds, ChoiceEnds, JumpEnds, HeadEnds, TurnEnds}
use Rattle.code_tree.specs.ModularRuns.{Modular, CodeEnds, OperationEnds, ManyEnds, MayLevel, MayLevels, MayRun}
use Rattle.code_tree.specs.Matching.{Side, Forth, Back, Meets}
use Rattle.code_tree.specs.ModularLaws.{ChainEnds, CallsMeet, KeepsModular, ModularRunsMeet}
use Rattle.code_tree.proofs.Combined.{appended}
use Rattle.code_tree.proofs.MatchCombined.{just_meets, then_meets, meets_in_exits, caught_meets, choice_meets, head_meets, turns_meet}
use Rattle.code_tree.proofs.SameEnds.{turned_round, hands_on, then_hands_on, behind_ends, behind_all_ends, behind_none_ends, meets_same, same_meets}

module _ {N C P A O H Q K I J S T : Type 0} (d : Side) (V : C → A → I → J → Type 0) (R : C → P → S → T → Type 0) (F : Flow O H P A) (G : Signatures N P A) (M : Modular N O H I S) (L : Modular N Q K J T) (pass : Pass O H Q K)
    (law : KeepsModular d V R F G M L pass) (B : N → Code O H) (bodies : BodiesFlow F G B)
  where
    abbrev pub D : N → Code Q K
    D f = applied pass (B f)

    abbrev pub EndsKeep : CodeEnds O H I S → CodeEnds Q K J T → Type 0
    EndsKeep f g =
        (c : C) (a : Code O H) (exits : Exits P A) (p q : P) (kinds : List A) (s : S) (t : T) → Flows F exits p a q kinds → R c p s t
        → Meets (V c) (R c) d exits q kinds (f a s) (g (applied pass a) t)

    to_exit : (c : C) (m : P) (kinds : List A) (e : Option (Exit P A)) (vs : List I) (ws : List J) (s : S) (t : T) → LeavesTo F m kinds e → AllAlike (V c) kinds vs ws → R c m s t → AtExit (V c) (R c) e vs s ws t
    to_exit c m kinds None vs ws s t w h r = absurd w
    to_exit c m kinds (Some e) vs ws s t w h r = (subst (λ ks. AllAlike (V c) ks vs ws) w.1 h, law.less c m e.point s t w.0 r)

    module _ (f : CodeEnds O H I S) (g : CodeEnds Q K J T) (h : EndsKeep f g) where
      abbrev source_calls : N → Ending I S
      source_calls i = f (B i)

      abbrev result_calls : N → Ending J T
      result_calls i = g (D i)

      calls_meet : CallsMeet d V R G source_calls result_calls
      calls_meet e i s t r = h e (B i) no_exits (G.begins i) (G.finishes i) (G.results i) s t (bodies i) r

      operation_meets : (c : C) (at : At O) (exits : Exits P A) (p q : P) (kinds given : List A) (vs : List I) (ws : List J) (s : S) (t : T) → F.op at.point p kinds at.op q given → AllAlike (V c) kinds vs ws → R c p s t
          → Meets (V c) (R c) d exits q given (OperationEnds M B f at vs s) (ChainEnds L result_calls (pass.op at.point at.op) ws t)
      operation_meets c at exits p q kinds given vs ws s t w x r =
          meets_in_exits (V c) (R c) d exits q given (OperationEnds M B f at vs s) (ChainEnds L result_calls (pass.op at.point at.op) ws t) (law.op c at.point at.op p q kinds given vs ws s t w x r source_calls result_calls calls_meet)

      abbrev result_many : CodeMany O → List J → Ending J T
      result_many Joins ws t end = end ≡ Goes ws t
      result_many (Does at) ws t end = ChainEnds L result_calls (pass.op at.point at.op) ws t end

      many_ends : (c : C) (o : CodeMany O) (cs : Codes Q K) (exits : Exits P A) (q : P) (kinds : List A) (X : EndsOf I S) (t : T)
          → Meets (V c) (R c) d exits q kinds X (ThenEnds (MayLevels L D g cs t) (result_many o)) → Meets (V c) (R c) d exits q kinds X (MayLevel L D g (applied_many pass o cs) t)
      many_ends c Joins cs exits q kinds X t h = h
      many_ends c (Does at) cs exits q kinds X t h =
          meets_same (V c) (R c) d exits q kinds X (ThenEnds (MayLevels L D g cs t) (ChainEnds L result_calls (pass.op at.point at.op))) (MayLevel L D g (applied_many pass (Does at) cs) t) (behind_all_ends L D g at.point (pass.op at.point at.op) cs t) h

      many_meets : (c : C) (o : CodeMany O) (exits : Exits P A) (p q : P) (kinds given : List A) (vs : List I) (ws : List J) (s : S) (t : T) → FlowsMany F p kinds o q given → AllAlike (V c) kinds vs ws → R c p s t
          → Meets (V c) (R c) d exits q given (ManyEnds M B f o vs s) (result_many o ws t)
      many_meets c Joins exits p q kinds given vs ws s t w x r =
          just_meets (V c) (R c) d exits q given (Goes vs s) (Goes ws t) (subst (λ ks. AllAlike (V c) ks vs ws) (sym w.1) x, law.less c p q s t w.0 r)
      many_meets c (Does at) exits p q kinds given vs ws s t w x r = operation_meets c at exits p q kinds given vs ws s t w x r

      mutual
        pub level_meets : (c : C) (a : Tree (At O) CodeUnary H (CodeMany O)) (exits : Exits P A) (p q : P) (kinds : List A) (s : S) (t : T) → Flows F exits p a q kinds → R c p s t
            → Meets (V c) (R c) d exits q kinds (MayLevel M B f a s) (MayLevel L D g (applied pass a) t)
        level_meets c (LeafTree at) exits p q kinds s t w r =
            meets_same (V c) (R c) d exits q kinds (OperationEnds M B f at [] s) (ChainEnds L result_calls (pass.op at.point at.op) [] t) (MayLevel L D g (applied pass (LeafTree at)) t)
            (behind_none_ends L D g at.point (pass.op at.point at.op) t) (operation_meets c at exits p q [] kinds [] [] s t w tt r)
        level_meets c (UnaryTree (Passes n way) a) exits p q kinds s t w r =
            let m = w.0 in
            same_meets (V c) (R c) d exits q kinds (ThenEnds (MayLevel M B f a s) hands_on) (MayLevel M B f a s) (MayLevel L D g (behind n (pass.way n way) (applied pass a)) t)
            (turned_round (ThenEnds (MayLevel M B f a s) hands_on) (MayLevel M B f a s) (then_hands_on (MayLevel M B f a s))) (
            meets_same (V c) (R c) d exits q kinds (ThenEnds (MayLevel M B f a s) hands_on) (ThenEnds (MayLevel L D g (applied pass a) t) (ChainEnds L result_calls (pass.way n way))) (MayLevel L D g (behind n (pass.way n way) (applied pass a)) t)
            (behind_ends L D g n (pass.way n way) (applied pass a) t) (
            then_meets (V c) (R c) d exits m q kinds kinds (MayLevel M B f a s) (MayLevel L D g (applied pass a) t) hands_on (ChainEnds L result_calls (pass.way n way)) (level_meets c a exits p m kinds s t w.1 r)
            (λ vs ws u v x y. meets_in_exits (V c) (R c) d exits q kinds (Just (Goes vs u)) (ChainEnds L result_calls (pass.way n way) ws v) (law.way c n way m q kinds vs ws u v w.2 x y source_calls result_calls calls_meet))))
        level_meets c (UnaryTree (Leaves j) a) exits p q kinds s t w r =
            then_meets (V c) (R c) d exits w.0 q w.1 kinds (MayLevel M B f a s) (MayLevel L D g (applied pass a) t) (JumpEnds j) (JumpEnds j) (level_meets c a exits p w.0 w.1 s t w.2 r)
            (λ vs ws u v x y. just_meets (V c) (R c) d exits q kinds (Jumps j vs u) (Jumps j ws v) (refl, to_exit c w.0 w.1 (exits j) vs ws u v w.3 x y))
        level_meets c (UnaryTree (Catches j) a) exits p q kinds s t w r =
            caught_meets (V c) (R c) d exits q kinds j (MayLevel M B f a s) (MayLevel L D g (applied pass a) t) (level_meets c a (with_exit j q kinds exits) p q kinds s t w r)
        level_meets c (BinaryTree hd a b) exits p q kinds s t w r =
            let m = w.0 in
            let l = w.1 in
            let at_head = law.less c p m s t w.4 r in
            let same : (u : S) (v : T) → R c m u v → M.judged hd u ≡ L.judged (pass.head hd) v = λ u v. law.judged c hd m u v w.5 in
            subst (λ ks. Meets (V c) (R c) d exits q ks (MayLevel M B f (BinaryTree hd a b) s) (MayLevel L D g (BinaryTree (pass.head hd) (applied pass a) (applied pass b)) t)) (sym w.10) (
            then_meets (V c) (R c) d exits m q [] [] (HeadEnds (M.judged hd) (M.differs hd) s) (HeadEnds (L.judged (pass.head hd)) (L.differs (pass.head hd)) t)
            (λ none u. ThenEnds (MayLevel M B f a u) (ChoiceEnds M.truth (λ v. TurnEnds (M.judged hd) (MayLevel M B f b v)) (λ v. Just (Goes [] v))))
            (λ none u. ThenEnds (MayLevel L D g (applied pass a) u) (ChoiceEnds L.truth (λ v. TurnEnds (L.judged (pass.head hd)) (MayLevel L D g (applied pass b) v)) (λ v. Just (Goes [] v))))
            (head_meets (V c) (R c) d exits m (M.judged hd) (L.judged (pass.head hd)) (M.differs hd) (L.differs (pass.head hd)) s t same at_head (law.differs c hd m s t w.5 at_head))
            (λ none nothing u v x y.
            then_meets (V c) (R c) d exits l q (w.2 ∷ []) [] (MayLevel M B f a u) (MayLevel L D g (applied pass a) v)
            (ChoiceEnds M.truth (λ z. TurnEnds (M.judged hd) (MayLevel M B f b z)) (λ z. Just (Goes [] z))) (ChoiceEnds L.truth (λ z. TurnEnds (L.judged (pass.head hd)) (MayLevel L D g (applied pass b) z)) (λ z. Just (Goes [] z)))
            (level_meets c a exits m l (w.2 ∷ []) u v w.6 y)
            (λ vs ws i j k z.
            choice_meets (V c) (R c) d exits q w.2 [] M.truth L.truth vs ws i j (λ z. TurnEnds (M.judged hd) (MayLevel M B f b z)) (λ z. Just (Goes [] z)) (λ z. TurnEnds (L.judged (pass.head hd)) (MayLevel L D g (applied pass b) z)) (λ z. Just (Goes [] z))
            (λ e e2 e3. law.test c w.2 e e2 w.7 e3) k
            (turns_meet (V c) (R c) d exits m q w.3 (M.judged hd) (L.judged (pass.head hd)) (MayLevel M B f b i) (MayLevel L D g (applied pass b) j) same (level_meets c b (turn_exits m q exits) l m w.3 i j w.8 z))
            (just_meets (V c) (R c) d exits q [] (Goes [] i) (Goes [] j) (tt, law.less c l q i j w.9 z)))))
        level_meets c (IfTree a b e) exits p q kinds s t w r =
            then_meets (V c) (R c) d exits w.0 q (w.1 ∷ []) kinds (MayLevel M B f a s) (MayLevel L D g (applied pass a) t)
            (ChoiceEnds M.truth (MayLevel M B f b) (MayLevel M B f e)) (ChoiceEnds L.truth (MayLevel L D g (applied pass b)) (MayLevel L D g (applied pass e)))
            (level_meets c a exits p w.0 (w.1 ∷ []) s t w.2 r)
            (λ vs ws u v x y. choice_meets (V c) (R c) d exits q w.1 kinds M.truth L.truth vs ws u v (MayLevel M B f b) (MayLevel M B f e) (MayLevel L D g (applied pass b)) (MayLevel L D g (applied pass e))
            (λ i j k. law.test c w.1 i j w.3 k) x (level_meets c b exits w.0 q kinds u v w.4 y) (level_meets c e exits w.0 q kinds u v w.5 y))
        level_meets c (ManyTree o ts) exits p q kinds s t w r =
            many_ends c o (applied_all pass ts) exits q kinds (MayLevel M B f (ManyTree o ts) s) t (
            then_meets (V c) (R c) d exits w.0 q w.1 kinds (MayLevels M B f ts s) (MayLevels L D g (applied_all pass ts) t) (ManyEnds M B f o) (result_many o) (levels_meet c ts exits p w.0 w.1 s t w.2 r)
            (λ vs ws u v x y. many_meets c o exits w.0 q w.1 kinds vs ws u v w.3 x y))
        level_meets c BadTree exits p q kinds s t w r = absurd w

        pub levels_meet : (c : C) (ts : Trees (At O) CodeUnary H (CodeMany O)) (exits : Exits P A) (p q : P) (kinds : List A) (s : S) (t : T) → FlowsAll F exits p ts q kinds → R c p s t
            → Meets (V c) (R c) d exits q kinds (MayLevels M B f ts s) (MayLevels L D g (applied_all pass ts) t)
        levels_meet c NoTrees exits p q kinds s t w r = just_meets (V c) (R c) d exits q kinds (Goes [] s) (Goes [] t) (subst (λ ks. AllAlike (V c) ks [] []) (sym w.1) tt, law.less c p q s t w.0 r)
        levels_meet c (MoreTrees a ts) exits p q kinds s t w r =
            then_meets (V c) (R c) d exits w.0 q w.1 kinds (MayLevel M B f a s) (MayLevel L D g (applied pass a) t)
            (λ vs u. ThenEnds (MayLevels M B f ts u) (λ us v. Just (Goes (vs ++ us) v))) (λ ws u. ThenEnds (MayLevels L D g (applied_all pass ts) u) (λ zs v. Just (Goes (ws ++ zs) v)))
            (level_meets c a exits p w.0 w.1 s t w.3 r)
            (λ vs ws u v x y.
            then_meets (V c) (R c) d exits q q w.2 kinds (MayLevels M B f ts u) (MayLevels L D g (applied_all pass ts) v) (λ us i. Just (Goes (vs ++ us) i)) (λ zs i. Just (Goes (ws ++ zs) i)) (levels_meet c ts exits w.0 q w.2 u v w.4 y)
            (λ us zs i j k l. just_meets (V c) (R c) d exits q kinds (Goes (vs ++ us) i) (Goes (ws ++ zs) j) (subst (λ ks. AllAlike (V c) ks (vs ++ us) (ws ++ zs)) (sym w.5) (appended (V c) w.1 w.2 vs us ws zs x k), l)))

    none_meet : (e : Side) (c : C) (exits : Exits P A) (q : P) (kinds : List A) → Meets (V c) (R c) e exits q kinds (λ o. ⊥) (λ u. ⊥)
    none_meet Forth c exits q kinds = λ o w. absurd w
    none_meet Back c exits q kinds = λ u w. absurd w

    pub runs_meet : (n : ℕ) → EndsKeep (MayRun M B n) (MayRun L D n)
    runs_meet zero = level_meets (λ a s o. ⊥) (λ a s o. ⊥) (λ c a exits p q kinds s t w r. none_meet d c exits q kinds)
    runs_meet (suc n) = level_meets (MayRun M B n) (MayRun L D n) (runs_meet n)

    pub modular_runs_meet : ModularRunsMeet d V R F M L pass B
    modular_runs_meet = runs_meet
