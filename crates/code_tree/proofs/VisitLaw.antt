-- A pass that keeps a relation keeps it at every numbered point that code comes to.
use Rattle.std.proofs.Common.{◌≡◌, ℕ, zero, suc, Bool, true, false, List, [], ◌∷◌, ◌++◌, Option, Some, None, refl}
use Rattle.program.specs.Trees.{Tree, LeafTree, UnaryTree, BinaryTree, IfTree, ManyTree, BadTree, Trees, NoTrees, MoreTrees}
use Rattle.code_tree.specs.declared.code.Jump.{Jump}
use Rattle.code_tree.specs.declared.code.Jump.TheVariants.{Break, Continue, Return}
use Rattle.code_tree.specs.declared.code.At.{At}
use Rattle.code_tree.specs.declared.code.CodeUnary.{CodeUnary}
use Rattle.code_tree.specs.declared.code.CodeUnary.TheVariants.{Passes, Leaves, Catches}
use Rattle.code_tree.specs.declared.code.CodeMany.{CodeMany}
use Rattle.code_tree.specs.declared.code.CodeMany.TheVariants.{Joins, Does}
use Rattle.code_tree.specs.Outcomes.{Outcome, Done, Left, Aborted, Unfinished, Stuck, unfinished}
use Rattle.code_tree.specs.Codes.{Code, CodeRuns, Meaning, level, levels, runs}
use Rattle.code_tree.specs.Passes.{Pass, applied, applied_all, Flow, Exits, with_exit, turn_exits, Flows, FlowsMany, FlowsAll, AllAlike, AtExit, Alike}
use Rattle.code_tree.specs.PassLaws.{Signatures, Keeps, BodiesFlow, KeepsAtPoints, VisitsKept}
use Rattle.code_tree.specs.Visits.{Visits, visits_after, visits_turned, visits_of_two, visits_chosen, many_visits, unary_visits, visits_level, visits_levels, running, visits, made_running, made_visits, VisitsAlike}
use Rattle.code_tree.proofs.PassLaw.{RunsKeep, level_keeps, levels_keep, runs_keep}

module _ {S T : Type 0} (K : ℕ → S → T → Type 0) where
  joined_visits : (xs zs : Visits S) (ys us : Visits T) → VisitsAlike K xs ys → VisitsAlike K zs us → VisitsAlike K (xs ++ zs) (ys ++ us)
  joined_visits [] zs [] us h k = k
  joined_visits [] zs (y ∷ ys) us h k = absurd h
  joined_visits (x ∷ xs) zs [] us h k = absurd h
  joined_visits (x ∷ xs) zs (y ∷ ys) us h k = (h.0, h.1, joined_visits xs zs ys us h.2 k)

module _ {P A I J S T : Type 0} (K : ℕ → S → T → Type 0) (V : A → I → J → Type 0) (R : P → S → T → Type 0) where
  visits_behind : (exits : Exits P A) (m : P) (ks : List A) (o : Outcome I S) (u : Outcome J T) (f : List I → S → Visits S) (g : List J → T → Visits T) → Alike V R exits m ks o u
      → ((vs : List I) (ws : List J) (s : S) (t : T) → AllAlike V ks vs ws → R m s t → VisitsAlike K (f vs s) (g ws t)) → VisitsAlike K (visits_after o f) (visits_after u g)
  visits_behind exits m ks (Done vs s) (Done ws t) f g h k = k vs ws s t h.0 h.1
  visits_behind exits m ks (Done vs s) (Left j ws t) f g h k = absurd h
  visits_behind exits m ks (Done vs s) (Aborted d) f g h k = absurd h
  visits_behind exits m ks (Done vs s) Unfinished f g h k = absurd h
  visits_behind exits m ks (Done vs s) Stuck f g h k = absurd h
  visits_behind exits m ks (Left i vs s) (Done ws t) f g h k = absurd h
  visits_behind exits m ks (Left i vs s) (Left j ws t) f g h k = tt
  visits_behind exits m ks (Left i vs s) (Aborted d) f g h k = absurd h
  visits_behind exits m ks (Left i vs s) Unfinished f g h k = absurd h
  visits_behind exits m ks (Left i vs s) Stuck f g h k = absurd h
  visits_behind exits m ks (Aborted c) (Done ws t) f g h k = absurd h
  visits_behind exits m ks (Aborted c) (Left j ws t) f g h k = absurd h
  visits_behind exits m ks (Aborted c) (Aborted d) f g h k = tt
  visits_behind exits m ks (Aborted c) Unfinished f g h k = absurd h
  visits_behind exits m ks (Aborted c) Stuck f g h k = absurd h
  visits_behind exits m ks Unfinished (Done ws t) f g h k = absurd h
  visits_behind exits m ks Unfinished (Left j ws t) f g h k = absurd h
  visits_behind exits m ks Unfinished (Aborted d) f g h k = absurd h
  visits_behind exits m ks Unfinished Unfinished f g h k = tt
  visits_behind exits m ks Unfinished Stuck f g h k = absurd h
  visits_behind exits m ks Stuck u f g h k = absurd h

  left_turn : (exits : Exits P A) (m q : P) (i j : Jump) (vs : List I) (ws : List J) (s : S) (t : T) (f : S → Visits S) (g : T → Visits T) → i ≡ j → AtExit V R (turn_exits m q exits i) vs s ws t
      → ((s : S) (t : T) → R m s t → VisitsAlike K (f s) (g t)) → VisitsAlike K (visits_turned (Left i vs s) f) (visits_turned (Left j ws t) g)
  left_turn exits m q Break Break vs ws s t f g e h k = tt
  left_turn exits m q Continue Continue vs ws s t f g e h k = k s t h.1
  left_turn exits m q Return Return vs ws s t f g e h k = tt
  left_turn exits m q Break Continue vs ws s t f g e h k = absurd (cc)
  left_turn exits m q Break Return vs ws s t f g e h k = absurd (cc)
  left_turn exits m q Continue Break vs ws s t f g e h k = absurd (cc)
  left_turn exits m q Continue Return vs ws s t f g e h k = absurd (cc)
  left_turn exits m q Return Break vs ws s t f g e h k = absurd (cc)
  left_turn exits m q Return Continue vs ws s t f g e h k = absurd (cc)

  visits_behind_turn : (exits : Exits P A) (m q : P) (ks : List A) (o : Outcome I S) (u : Outcome J T) (f : S → Visits S) (g : T → Visits T) → Alike V R (turn_exits m q exits) m ks o u
      → ((s : S) (t : T) → R m s t → VisitsAlike K (f s) (g t)) → VisitsAlike K (visits_turned o f) (visits_turned u g)
  visits_behind_turn exits m q ks (Done vs s) (Done ws t) f g h k = k s t h.1
  visits_behind_turn exits m q ks (Done vs s) (Left j ws t) f g h k = absurd h
  visits_behind_turn exits m q ks (Done vs s) (Aborted d) f g h k = absurd h
  visits_behind_turn exits m q ks (Done vs s) Unfinished f g h k = absurd h
  visits_behind_turn exits m q ks (Done vs s) Stuck f g h k = absurd h
  visits_behind_turn exits m q ks (Left i vs s) (Done ws t) f g h k = absurd h
  visits_behind_turn exits m q ks (Left i vs s) (Left j ws t) f g h k = left_turn exits m q i j vs ws s t f g h.0 h.1 k
  visits_behind_turn exits m q ks (Left i vs s) (Aborted d) f g h k = absurd h
  visits_behind_turn exits m q ks (Left i vs s) Unfinished f g h k = absurd h
  visits_behind_turn exits m q ks (Left i vs s) Stuck f g h k = absurd h
  visits_behind_turn exits m q ks (Aborted c) (Done ws t) f g h k = absurd h
  visits_behind_turn exits m q ks (Aborted c) (Left j ws t) f g h k = absurd h
  visits_behind_turn exits m q ks (Aborted c) (Aborted d) f g h k = tt
  visits_behind_turn exits m q ks (Aborted c) Unfinished f g h k = absurd h
  visits_behind_turn exits m q ks (Aborted c) Stuck f g h k = absurd h
  visits_behind_turn exits m q ks Unfinished (Done ws t) f g h k = absurd h
  visits_behind_turn exits m q ks Unfinished (Left j ws t) f g h k = absurd h
  visits_behind_turn exits m q ks Unfinished (Aborted d) f g h k = absurd h
  visits_behind_turn exits m q ks Unfinished Unfinished f g h k = tt
  visits_behind_turn exits m q ks Unfinished Stuck f g h k = absurd h
  visits_behind_turn exits m q ks Stuck u f g h k = absurd h

  visits_of_choice : (k : A) (truth : I → Option Bool) (other : J → Option Bool) (vs : List I) (ws : List J) (s : S) (t : T) (a b : S → Visits S) (d e : T → Visits T)
      → ((x : I) (y : J) → V k x y → (b : Bool) × (truth x ≡ Some b) × (other y ≡ Some b)) → AllAlike V (k ∷ []) vs ws
      → VisitsAlike K (a s) (d t) → VisitsAlike K (b s) (e t) → VisitsAlike K (visits_chosen truth a b vs s) (visits_chosen other d e ws t)
  visits_of_choice k truth other [] ws s t a b d e same h f g = absurd h
  visits_of_choice k truth other (x ∷ vs) [] s t a b d e same h f g = absurd h
  visits_of_choice k truth other (x ∷ x2 ∷ vs) (y ∷ ws) s t a b d e same h f g = absurd h.1
  visits_of_choice k truth other (x ∷ []) (y ∷ y2 ∷ ws) s t a b d e same h f g = absurd h.1
  visits_of_choice k truth other (x ∷ []) (y ∷ []) s t a b d e same h f g = go (truth x) (other y) (same x y h.0)
    where
      go : (u v : Option Bool) → ((z : Bool) × (u ≡ Some z) × (v ≡ Some z)) → VisitsAlike K (visits_of_two u (a s) (b s)) (visits_of_two v (d t) (e t))
      go None v w = absurd (let e = w.1 in cc)
      go (Some true) None w = absurd (let e = w.2 in cc)
      go (Some false) None w = absurd (let e = w.2 in cc)
      go (Some true) (Some true) w = f
      go (Some false) (Some false) w = g
      go (Some true) (Some false) w = absurd (let e = w.1 in let d = w.2 in cc)
      go (Some false) (Some true) w = absurd (let e = w.1 in let d = w.2 in cc)

module _ {N C P A O H Q Y I J S T : Type 0} (V : C → A → I → J → Type 0) (R : C → P → S → T → Type 0) (F : Flow O H P A) (G : Signatures N P A) (M : Meaning N O I S) (L : Meaning N Q J T) (pass : Pass O H Q Y)
    (law : Keeps V R F G M L pass) (B : N → Code O H) (bodies : BodiesFlow F G B) (number : H → ℕ) (K : ℕ → S → T → Type 0) (points : KeepsAtPoints R F number K)
  where
    abbrev D : N → Code Q Y
    D f = applied pass (B f)

    abbrev VisitsKeep : (Code O H → S → Visits S) → (Code O H → T → Visits T) → Type 0
    VisitsKeep f g = (c : C) (a : Code O H) (exits : Exits P A) (p q : P) (kinds : List A) (s : S) (t : T) → Flows F exits p a q kinds → R c p s t → VisitsAlike K (f a s) (g a t)

    module _ (f : CodeRuns O H I S) (g : CodeRuns Q Y J T) (h : RunsKeep V R F G M L pass law B bodies f g) (v : Code O H → S → Visits S) (w : Code O H → T → Visits T) (k : VisitsKeep v w) where
      abbrev now : Code O H → S → Visits S
      now = visits_level number (running number M B f) v

      abbrev then_now : Code O H → T → Visits T
      then_now = visits_level number (made_running number pass L D g) w

      abbrev all_now : Trees (At O) CodeUnary H (CodeMany O) → S → Visits S
      all_now = visits_levels number (running number M B f) v

      abbrev then_all_now : Trees (At O) CodeUnary H (CodeMany O) → T → Visits T
      then_all_now = visits_levels number (made_running number pass L D g) w

      form_visits : (c : C) (o : CodeMany O) (p q : P) (kinds given : List A) (vs : List I) (ws : List J) (s : S) (t : T) → FlowsMany F p kinds o q given → R c p s t
          → VisitsAlike K (many_visits number (running number M B f) v o vs s) (many_visits number (made_running number pass L D g) w o ws t)
      form_visits c Joins p q kinds given vs ws s t x r = tt
      form_visits c (Does at) p q kinds given vs ws s t x r = (refl, points.op c at.point at.op p q kinds given s t x r, tt)

      mutual
        level_visits : VisitsKeep now then_now
        level_visits c (LeafTree at) exits p q kinds s t x r = (refl, points.op c at.point at.op p q [] kinds s t x r, tt)
        level_visits c (UnaryTree (Passes n way) a) exits p q kinds s t x r =
            joined_visits K (now a s) (visits_after (level M B f a s) (unary_visits number (running number M B f) v (Passes n way))) (then_now a t) (visits_after (level L D g (applied pass a) t) (unary_visits number (made_running number pass L D g) w (Passes n way)))
            (level_visits c a exits p x.0 kinds s t x.1 r)
            (visits_behind K (V c) (R c) exits x.0 kinds (level M B f a s) (level L D g (applied pass a) t) (unary_visits number (running number M B f) v (Passes n way)) (unary_visits number (made_running number pass L D g) w (Passes n way))
            (level_keeps V R F G M L pass law B bodies f g h c a exits p x.0 kinds s t x.1 r)
            (λ vs ws y z i j. (refl, points.way c n way x.0 q y z x.2 j, tt)))
        level_visits c (UnaryTree (Leaves j) a) exits p q kinds s t x r =
            joined_visits K (now a s) (visits_after (level M B f a s) (unary_visits number (running number M B f) v (Leaves j))) (then_now a t) (visits_after (level L D g (applied pass a) t) (unary_visits number (made_running number pass L D g) w (Leaves j)))
            (level_visits c a exits p x.0 x.1 s t x.2 r)
            (visits_behind K (V c) (R c) exits x.0 x.1 (level M B f a s) (level L D g (applied pass a) t) (unary_visits number (running number M B f) v (Leaves j)) (unary_visits number (made_running number pass L D g) w (Leaves j))
            (level_keeps V R F G M L pass law B bodies f g h c a exits p x.0 x.1 s t x.2 r)
            (λ vs ws y z i j. tt))
        level_visits c (UnaryTree (Catches j) a) exits p q kinds s t x r =
            joined_visits K (now a s) (visits_after (level M B f a s) (unary_visits number (running number M B f) v (Catches j))) (then_now a t) (visits_after (level L D g (applied pass a) t) (unary_visits number (made_running number pass L D g) w (Catches j)))
            (level_visits c a (with_exit j q kinds exits) p q kinds s t x r)
            (visits_behind K (V c) (R c) (with_exit j q kinds exits) q kinds (level M B f a s) (level L D g (applied pass a) t) (unary_visits number (running number M B f) v (Catches j)) (unary_visits number (made_running number pass L D g) w (Catches j))
            (level_keeps V R F G M L pass law B bodies f g h c a (with_exit j q kinds exits) p q kinds s t x r)
            (λ vs ws y z i j. tt))
        level_visits c (BinaryTree hd a b) exits p q kinds s t x r =
            let m = x.0 in
            let at_head = law.less c p m s t x.4 r in (
              refl,
              points.head c hd m s t x.5 at_head,
              joined_visits K (v a s) (visits_after (f a s) (visits_chosen M.truth (λ y. v b y ++ visits_turned (f b y) (v (BinaryTree hd a b))) (λ y. [])))
                  (w a t) (visits_after (g (applied pass a) t) (visits_chosen L.truth (λ z. w b z ++ visits_turned (g (applied pass b) z) (w (BinaryTree hd a b))) (λ z. [])))
                  (k c a exits m x.1 (x.2 ∷ []) s t x.6 at_head)
                  (visits_behind K (V c) (R c) exits x.1 (x.2 ∷ []) (f a s) (g (applied pass a) t)
                  (visits_chosen M.truth (λ y. v b y ++ visits_turned (f b y) (v (BinaryTree hd a b))) (λ y. [])) (visits_chosen L.truth (λ z. w b z ++ visits_turned (g (applied pass b) z) (w (BinaryTree hd a b))) (λ z. []))
                  (h c a exits m x.1 (x.2 ∷ []) s t x.6 at_head)
                  (λ vs ws y z i j. visits_of_choice K (V c) (R c) x.2 M.truth L.truth vs ws y z (λ y. v b y ++ visits_turned (f b y) (v (BinaryTree hd a b))) (λ y. []) (λ z. w b z ++ visits_turned (g (applied pass b) z) (w (BinaryTree hd a b))) (λ z. [])
                  (λ d e l. law.test c x.2 d e x.7 l) i
                  (joined_visits K (v b y) (visits_turned (f b y) (v (BinaryTree hd a b))) (w b z) (visits_turned (g (applied pass b) z) (w (BinaryTree hd a b)))
                  (k c b (turn_exits m q exits) x.1 m x.3 y z x.8 j)
                  (visits_behind_turn K (V c) (R c) exits m q x.3 (f b y) (g (applied pass b) z) (v (BinaryTree hd a b)) (w (BinaryTree hd a b)) (h c b (turn_exits m q exits) x.1 m x.3 y z x.8 j)
                  (λ d e l. k c (BinaryTree hd a b) exits m q [] d e (m, x.1, x.2, x.3, law.less_itself m, x.5, x.6, x.7, x.8, x.9, refl) l)))
                  tt)),
            )
        level_visits c (IfTree a b d) exits p q kinds s t x r =
            joined_visits K (now a s) (visits_after (level M B f a s) (visits_chosen M.truth (now b) (now d))) (then_now a t) (visits_after (level L D g (applied pass a) t) (visits_chosen L.truth (then_now b) (then_now d)))
            (level_visits c a exits p x.0 (x.1 ∷ []) s t x.2 r)
            (visits_behind K (V c) (R c) exits x.0 (x.1 ∷ []) (level M B f a s) (level L D g (applied pass a) t) (visits_chosen M.truth (now b) (now d)) (visits_chosen L.truth (then_now b) (then_now d))
            (level_keeps V R F G M L pass law B bodies f g h c a exits p x.0 (x.1 ∷ []) s t x.2 r)
            (λ vs ws y z i j. visits_of_choice K (V c) (R c) x.1 M.truth L.truth vs ws y z (now b) (now d) (then_now b) (then_now d) (λ e l u. law.test c x.1 e l x.3 u) i
            (level_visits c b exits x.0 q kinds y z x.4 j) (level_visits c d exits x.0 q kinds y z x.5 j)))
        level_visits c (ManyTree o ts) exits p q kinds s t x r =
            joined_visits K (all_now ts s) (visits_after (levels M B f ts s) (many_visits number (running number M B f) v o)) (then_all_now ts t) (visits_after (levels L D g (applied_all pass ts) t) (many_visits number (made_running number pass L D g) w o))
            (all_visits c ts exits p x.0 x.1 s t x.2 r)
            (visits_behind K (V c) (R c) exits x.0 x.1 (levels M B f ts s) (levels L D g (applied_all pass ts) t) (many_visits number (running number M B f) v o) (many_visits number (made_running number pass L D g) w o)
            (levels_keep V R F G M L pass law B bodies f g h c ts exits p x.0 x.1 s t x.2 r)
            (λ vs ws y z i j. form_visits c o x.0 q x.1 kinds vs ws y z x.3 j))
        level_visits c BadTree exits p q kinds s t x r = absurd x

        all_visits : (c : C) (ts : Trees (At O) CodeUnary H (CodeMany O)) (exits : Exits P A) (p q : P) (kinds : List A) (s : S) (t : T) → FlowsAll F exits p ts q kinds → R c p s t → VisitsAlike K (all_now ts s) (then_all_now ts t)
        all_visits c NoTrees exits p q kinds s t x r = tt
        all_visits c (MoreTrees a ts) exits p q kinds s t x r =
            joined_visits K (now a s) (visits_after (level M B f a s) (λ vs. all_now ts)) (then_now a t) (visits_after (level L D g (applied pass a) t) (λ ws. then_all_now ts))
            (level_visits c a exits p x.0 x.1 s t x.3 r)
            (visits_behind K (V c) (R c) exits x.0 x.1 (level M B f a s) (level L D g (applied pass a) t) (λ vs. all_now ts) (λ ws. then_all_now ts)
            (level_keeps V R F G M L pass law B bodies f g h c a exits p x.0 x.1 s t x.3 r)
            (λ vs ws y z i j. all_visits c ts exits x.0 q x.2 y z x.4 j))

    pub visits_keep : (n : ℕ) → VisitsKeep (visits number M B n) (made_visits number pass L D n)
    visits_keep zero = level_visits (λ c. unfinished) (λ c. unfinished) (λ c a exits p q kinds s t x r. tt) (λ c s. []) (λ c t. []) (λ c a exits p q kinds s t x r. tt)
    visits_keep (suc n) = level_visits (runs M B n) (runs L D n) (runs_keep V R F G M L pass law B bodies n) (visits number M B n) (made_visits number pass L D n) (visits_keep n)

    pub visits_kept : VisitsKept V R F M L pass B number K
    visits_kept = visits_keep
