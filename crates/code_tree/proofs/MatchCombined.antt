-- How sets of ends that match go on and combine, on either side.
use Rattle.std.proofs.Common.{◌≡◌, ◌⊎◌, ℕ, Bool, true, false, if◌then◌else◌, List, [], ◌∷◌, Option, Some, None, inl, inr, refl, sym, ◌∙◌, subst}
use Rattle.code_tree.specs.declared.code.Jump.{Jump}
use Rattle.code_tree.specs.declared.code.Jump.TheVariants.{Break, Continue, Return}
use Rattle.code_tree.specs.Outcomes.{same_jump}
use Rattle.code_tree.specs.Passes.{Exit, Exits, no_exits, with_exit, turn_exits, AllAlike, AtExit}
use Rattle.code_tree.specs.Ends.{Failure, AtEntry, AtStep, Broken, End, Goes, Jumps, Aborts, Fails, EndsOf, Ending, Just, Onward, ThenEnds, TruthEnds, ChoiceEnds, caught_end, CaughtEnds, Judged, SomeFails, AllHold, HeadEnds, TurnEnd, TurnEnds}
use Rattle.code_tree.specs.Matching.{Side, Forth, Back, Match, Meets}
use Rattle.code_tree.specs.ModularLaws.{StatesMeet}

module _ {P A I J S T : Type 0} (V : A → I → J → Type 0) (R : P → S → T → Type 0) where
  -- one end on each side
  pub just_meets : (d : Side) (exits : Exits P A) (q : P) (ks : List A) (e : End I S) (u : End J T) → Match V R exits q ks e u → Meets V R d exits q ks (Just e) (Just u)
  just_meets Forth exits q ks e u h = λ o w. (u, refl, subst (λ z. Match V R exits q ks z u) (sym w) h)
  just_meets Back exits q ks e u h = λ o w. (e, refl, subst (λ z. Match V R exits q ks e z) (sym w) h)

  -- what comes behind ends that match
  onward : (d : Side) (exits : Exits P A) (m q : P) (ks ls : List A) (e : End I S) (u : End J T) (f : List I → Ending I S) (g : List J → Ending J T) → Match V R exits m ks e u
      → ((vs : List I) (ws : List J) (s : S) (t : T) → AllAlike V ks vs ws → R m s t → Meets V R d exits q ls (f vs s) (g ws t)) → Meets V R d exits q ls (Onward e f) (Onward u g)
  onward d exits m q ks ls (Goes vs s) (Goes ws t) f g h n = n vs ws s t h.0 h.1
  onward d exits m q ks ls (Goes vs s) (Jumps j ws t) f g h n = absurd h
  onward d exits m q ks ls (Goes vs s) (Aborts b) f g h n = absurd h
  onward d exits m q ks ls (Goes vs s) (Fails l) f g h n = absurd h
  onward d exits m q ks ls (Jumps i vs s) (Goes ws t) f g h n = absurd h
  onward d exits m q ks ls (Jumps i vs s) (Jumps j ws t) f g h n = just_meets d exits q ls (Jumps i vs s) (Jumps j ws t) h
  onward d exits m q ks ls (Jumps i vs s) (Aborts b) f g h n = absurd h
  onward d exits m q ks ls (Jumps i vs s) (Fails l) f g h n = absurd h
  onward d exits m q ks ls (Aborts c) (Goes ws t) f g h n = absurd h
  onward d exits m q ks ls (Aborts c) (Jumps j ws t) f g h n = absurd h
  onward d exits m q ks ls (Aborts c) (Aborts b) f g h n = just_meets d exits q ls (Aborts c) (Aborts b) h
  onward d exits m q ks ls (Aborts c) (Fails l) f g h n = absurd h
  onward d exits m q ks ls (Fails k) (Goes ws t) f g h n = absurd h
  onward d exits m q ks ls (Fails k) (Jumps j ws t) f g h n = absurd h
  onward d exits m q ks ls (Fails k) (Aborts b) f g h n = absurd h
  onward d exits m q ks ls (Fails k) (Fails l) f g h n = just_meets d exits q ls (Fails k) (Fails l) h

  pub then_meets : (d : Side) (exits : Exits P A) (m q : P) (ks ls : List A) (X : EndsOf I S) (Y : EndsOf J T) (f : List I → Ending I S) (g : List J → Ending J T) → Meets V R d exits m ks X Y
      → ((vs : List I) (ws : List J) (s : S) (t : T) → AllAlike V ks vs ws → R m s t → Meets V R d exits q ls (f vs s) (g ws t)) → Meets V R d exits q ls (ThenEnds X f) (ThenEnds Y g)
  then_meets Forth exits m q ks ls X Y f g h n = λ o w. let x = h w.0 w.1 in let y = onward Forth exits m q ks ls w.0 x.0 f g x.2 n o w.2 in (y.0, (x.0, x.1, y.1), y.2)
  then_meets Back exits m q ks ls X Y f g h n = λ u w. let x = h w.0 w.1 in let y = onward Back exits m q ks ls x.0 w.0 f g x.2 n u w.2 in (y.0, (x.0, x.1, y.1), y.2)

  -- ends of what is not left stand in any exits
  match_exits : (exits : Exits P A) (q : P) (ks : List A) (e : End I S) (u : End J T) → Match V R no_exits q ks e u → Match V R exits q ks e u
  match_exits exits q ks (Goes vs s) (Goes ws t) h = h
  match_exits exits q ks (Goes vs s) (Jumps j ws t) h = absurd h
  match_exits exits q ks (Goes vs s) (Aborts b) h = absurd h
  match_exits exits q ks (Goes vs s) (Fails l) h = absurd h
  match_exits exits q ks (Jumps i vs s) (Goes ws t) h = absurd h
  match_exits exits q ks (Jumps i vs s) (Jumps j ws t) h = absurd h.1
  match_exits exits q ks (Jumps i vs s) (Aborts b) h = absurd h
  match_exits exits q ks (Jumps i vs s) (Fails l) h = absurd h
  match_exits exits q ks (Aborts c) (Goes ws t) h = absurd h
  match_exits exits q ks (Aborts c) (Jumps j ws t) h = absurd h
  match_exits exits q ks (Aborts c) (Aborts b) h = h
  match_exits exits q ks (Aborts c) (Fails l) h = absurd h
  match_exits exits q ks (Fails k) (Goes ws t) h = absurd h
  match_exits exits q ks (Fails k) (Jumps j ws t) h = absurd h
  match_exits exits q ks (Fails k) (Aborts b) h = absurd h
  match_exits exits q ks (Fails k) (Fails l) h = h

  pub meets_in_exits : (d : Side) (exits : Exits P A) (q : P) (ks : List A) (X : EndsOf I S) (Y : EndsOf J T) → Meets V R d no_exits q ks X Y → Meets V R d exits q ks X Y
  meets_in_exits Forth exits q ks X Y h = λ o w. let x = h o w in (x.0, x.1, match_exits exits q ks o x.0 x.2)
  meets_in_exits Back exits q ks X Y h = λ u w. let x = h u w in (x.0, x.1, match_exits exits q ks x.0 u x.2)

  -- ---- jumps

  caught_jump : (exits : Exits P A) (q : P) (ks : List A) (i : Jump) (vs : List I) (ws : List J) (s : S) (t : T) (b : Bool)
      → AtExit V R (if b then Some (record { point = q; kinds = ks }) else exits i) vs s ws t
      → Match V R exits q ks (if b then Goes vs s else Jumps i vs s) (if b then Goes ws t else Jumps i ws t)
  caught_jump exits q ks i vs ws s t true h = h
  caught_jump exits q ks i vs ws s t false h = (refl, h)

  caught_match : (exits : Exits P A) (q : P) (ks : List A) (o : Jump) (e : End I S) (u : End J T) → Match V R (with_exit o q ks exits) q ks e u → Match V R exits q ks (caught_end o e) (caught_end o u)
  caught_match exits q ks o (Goes vs s) (Goes ws t) h = h
  caught_match exits q ks o (Goes vs s) (Jumps j ws t) h = absurd h
  caught_match exits q ks o (Goes vs s) (Aborts b) h = absurd h
  caught_match exits q ks o (Goes vs s) (Fails l) h = absurd h
  caught_match exits q ks o (Jumps i vs s) (Goes ws t) h = absurd h
  caught_match exits q ks o (Jumps i vs s) (Jumps j ws t) h = subst (λ z. Match V R exits q ks (caught_end o (Jumps i vs s)) (caught_end o (Jumps z ws t))) h.0 (caught_jump exits q ks i vs ws s t (same_jump o i) h.1)
  caught_match exits q ks o (Jumps i vs s) (Aborts b) h = absurd h
  caught_match exits q ks o (Jumps i vs s) (Fails l) h = absurd h
  caught_match exits q ks o (Aborts c) (Goes ws t) h = absurd h
  caught_match exits q ks o (Aborts c) (Jumps j ws t) h = absurd h
  caught_match exits q ks o (Aborts c) (Aborts b) h = h
  caught_match exits q ks o (Aborts c) (Fails l) h = absurd h
  caught_match exits q ks o (Fails k) (Goes ws t) h = absurd h
  caught_match exits q ks o (Fails k) (Jumps j ws t) h = absurd h
  caught_match exits q ks o (Fails k) (Aborts b) h = absurd h
  caught_match exits q ks o (Fails k) (Fails l) h = h

  pub caught_meets : (d : Side) (exits : Exits P A) (q : P) (ks : List A) (j : Jump) (X : EndsOf I S) (Y : EndsOf J T) → Meets V R d (with_exit j q ks exits) q ks X Y → Meets V R d exits q ks (CaughtEnds j X) (CaughtEnds j Y)
  caught_meets Forth exits q ks j X Y h = λ o w. let x = h w.0 w.1 in (caught_end j x.0, (x.0, x.1, refl), subst (λ z. Match V R exits q ks z (caught_end j x.0)) (sym w.2) (caught_match exits q ks j w.0 x.0 x.2))
  caught_meets Back exits q ks j X Y h = λ u w. let x = h w.0 w.1 in (caught_end j x.0, (x.0, x.1, refl), subst (λ z. Match V R exits q ks (caught_end j x.0) z) (sym w.2) (caught_match exits q ks j x.0 w.0 x.2))

  -- ---- choice

  pub choice_meets : (d : Side) (exits : Exits P A) (q : P) (k : A) (ls : List A) (truth : I → Option Bool) (other : J → Option Bool) (vs : List I) (ws : List J) (s : S) (t : T) (a b : Ending I S) (x y : Ending J T)
      → ((i : I) (j : J) → V k i j → (b : Bool) × (truth i ≡ Some b) × (other j ≡ Some b)) → AllAlike V (k ∷ []) vs ws
      → Meets V R d exits q ls (a s) (x t) → Meets V R d exits q ls (b s) (y t) → Meets V R d exits q ls (ChoiceEnds truth a b vs s) (ChoiceEnds other x y ws t)
  choice_meets d exits q k ls truth other [] ws s t a b x y same h f g = absurd h
  choice_meets d exits q k ls truth other (i ∷ vs) [] s t a b x y same h f g = absurd h
  choice_meets d exits q k ls truth other (i ∷ i2 ∷ vs) (j ∷ ws) s t a b x y same h f g = absurd h.1
  choice_meets d exits q k ls truth other (i ∷ []) (j ∷ j2 ∷ ws) s t a b x y same h f g = absurd h.1
  choice_meets d exits q k ls truth other (i ∷ []) (j ∷ []) s t a b x y same h f g = go (truth i) (other j) (same i j h.0)
    where
      go : (u v : Option Bool) → ((z : Bool) × (u ≡ Some z) × (v ≡ Some z)) → Meets V R d exits q ls (TruthEnds u a b s) (TruthEnds v x y t)
      go None v w = absurd (let e = w.1 in cc)
      go (Some true) None w = absurd (let e = w.2 in cc)
      go (Some false) None w = absurd (let e = w.2 in cc)
      go (Some true) (Some true) w = f
      go (Some false) (Some false) w = g
      go (Some true) (Some false) w = absurd (let e = w.1 in let d = w.2 in cc)
      go (Some false) (Some true) w = absurd (let e = w.1 in let d = w.2 in cc)

  -- ---- loops

  -- an invariant that fails on both
  fails_meet : (d : Side) (exits : Exits P A) (q : P) (ks : List A) (kind : ℕ → Failure) (x y : List Judged) → x ≡ y
      → Meets V R d exits q ks (λ o. (k : ℕ) × SomeFails x k × (o ≡ Fails (kind k))) (λ u. (k : ℕ) × SomeFails y k × (u ≡ Fails (kind k)))
  fails_meet Forth exits q ks kind x y e = λ o w. (Fails (kind w.0), (w.0, subst (λ z. SomeFails z w.0) e w.1, refl), subst (λ z. Match V R exits q ks z (Fails (kind w.0))) (sym w.2) refl)
  fails_meet Back exits q ks kind x y e = λ u w. (Fails (kind w.0), (w.0, subst (λ z. SomeFails z w.0) (sym e) w.1, refl), subst (λ z. Match V R exits q ks (Fails (kind w.0)) z) (sym w.2) refl)

  both_meet : (d : Side) (exits : Exits P A) (q : P) (ks : List A) (X Z : EndsOf I S) (Y W : EndsOf J T) → Meets V R d exits q ks X Y → Meets V R d exits q ks Z W → Meets V R d exits q ks (λ o. X o ⊎ Z o) (λ u. Y u ⊎ W u)
  both_meet Forth exits q ks X Z Y W h k = λ o w. go o w
    where
      go : (o : End I S) → X o ⊎ Z o → (u : End J T) × (Y u ⊎ W u) × Match V R exits q ks o u
      go o (inl w) = let x = h o w in (x.0, inl x.1, x.2)
      go o (inr w) = let x = k o w in (x.0, inr x.1, x.2)
  both_meet Back exits q ks X Z Y W h k = λ u w. go u w
    where
      go : (u : End J T) → Y u ⊎ W u → (o : End I S) × (X o ⊎ Z o) × Match V R exits q ks o u
      go u (inl w) = let x = h u w in (x.0, inl x.1, x.2)
      go u (inr w) = let x = k u w in (x.0, inr x.1, x.2)

  stands_meet : (d : Side) (exits : Exits P A) (q : P) (x : S → List Judged) (y : T → List Judged) (X : S → Type 0) (Y : T → Type 0) → ((s : S) (t : T) → R q s t → x s ≡ y t) → StatesMeet d (R q) X Y
      → Meets V R d exits q [] (λ o. (s : S) × X s × AllHold (x s) × (o ≡ Goes [] s)) (λ u. (t : T) × Y t × AllHold (y t) × (u ≡ Goes [] t))
  stands_meet Forth exits q x y X Y same h = λ o w. let z = h w.0 w.1 in (Goes [] z.0, (z.0, z.1, subst AllHold (same w.0 z.0 z.2) w.2, refl), subst (λ i. Match V R exits q [] i (Goes [] z.0)) (sym w.3) (tt, z.2))
  stands_meet Back exits q x y X Y same h = λ u w. let z = h w.0 w.1 in (Goes [] z.0, (z.0, z.1, subst AllHold (sym (same z.0 w.0 z.2)) w.2, refl), subst (λ i. Match V R exits q [] (Goes [] z.0) i) (sym w.3) (tt, z.2))

  pub head_meets : (d : Side) (exits : Exits P A) (q : P) (x : S → List Judged) (y : T → List Judged) (X : S → S → Type 0) (Y : T → T → Type 0) (s : S) (t : T) → ((s : S) (t : T) → R q s t → x s ≡ y t) → R q s t → StatesMeet d (R q) (X s) (Y t)
      → Meets V R d exits q [] (HeadEnds x X s) (HeadEnds y Y t)
  head_meets d exits q x y X Y s t same r h =
      both_meet d exits q [] (λ o. (k : ℕ) × SomeFails (x s) k × (o ≡ Fails (AtEntry k))) (λ o. (u : S) × X s u × AllHold (x u) × (o ≡ Goes [] u)) (λ o. (k : ℕ) × SomeFails (y t) k × (o ≡ Fails (AtEntry k))) (λ o. (u : T) × Y t u × AllHold (y u) × (o ≡ Goes [] u))
      (fails_meet d exits q [] AtEntry (x s) (y t) (same s t r)) (stands_meet d exits q x y (X s) (Y t) same h)

  jump_turns : (d : Side) (exits : Exits P A) (m q : P) (x : S → List Judged) (y : T → List Judged) (i : Jump) (vs : List I) (ws : List J) (s : S) (t : T) → ((s : S) (t : T) → R m s t → x s ≡ y t) → AtExit V R (turn_exits m q exits i) vs s ws t
      → Meets V R d exits q [] (TurnEnd x (Jumps i vs s)) (TurnEnd y (Jumps i ws t))
  jump_turns d exits m q x y Break vs ws s t same h = just_meets d exits q [] (Goes [] s) (Goes [] t) (tt, h.1)
  jump_turns d exits m q x y Continue vs ws s t same h = fails_meet d exits q [] AtStep (x s) (y t) (same s t h.1)
  jump_turns d exits m q x y Return vs ws s t same h = just_meets d exits q [] (Jumps Return vs s) (Jumps Return ws t) (refl, h)

  turn_meets : (d : Side) (exits : Exits P A) (m q : P) (ks : List A) (x : S → List Judged) (y : T → List Judged) (e : End I S) (u : End J T) → ((s : S) (t : T) → R m s t → x s ≡ y t) → Match V R (turn_exits m q exits) m ks e u
      → Meets V R d exits q [] (TurnEnd x e) (TurnEnd y u)
  turn_meets d exits m q ks x y (Goes vs s) (Goes ws t) n h = fails_meet d exits q [] AtStep (x s) (y t) (n s t h.1)
  turn_meets d exits m q ks x y (Goes vs s) (Jumps j ws t) n h = absurd h
  turn_meets d exits m q ks x y (Goes vs s) (Aborts b) n h = absurd h
  turn_meets d exits m q ks x y (Goes vs s) (Fails l) n h = absurd h
  turn_meets d exits m q ks x y (Jumps i vs s) (Goes ws t) n h = absurd h
  turn_meets d exits m q ks x y (Jumps i vs s) (Jumps j ws t) n h = subst (λ z. Meets V R d exits q [] (TurnEnd x (Jumps i vs s)) (TurnEnd y (Jumps z ws t))) h.0 (jump_turns d exits m q x y i vs ws s t n h.1)
  turn_meets d exits m q ks x y (Jumps i vs s) (Aborts b) n h = absurd h
  turn_meets d exits m q ks x y (Jumps i vs s) (Fails l) n h = absurd h
  turn_meets d exits m q ks x y (Aborts c) (Goes ws t) n h = absurd h
  turn_meets d exits m q ks x y (Aborts c) (Jumps j ws t) n h = absurd h
  turn_meets d exits m q ks x y (Aborts c) (Aborts b) n h = just_meets d exits q [] (Aborts c) (Aborts b) h
  turn_meets d exits m q ks x y (Aborts c) (Fails l) n h = absurd h
  turn_meets d exits m q ks x y (Fails k) (Goes ws t) n h = absurd h
  turn_meets d exits m q ks x y (Fails k) (Jumps j ws t) n h = absurd h
  turn_meets d exits m q ks x y (Fails k) (Aborts b) n h = absurd h
  turn_meets d exits m q ks x y (Fails k) (Fails l) n h = just_meets d exits q [] (Fails k) (Fails l) h

  pub turns_meet : (d : Side) (exits : Exits P A) (m q : P) (ks : List A) (x : S → List Judged) (y : T → List Judged) (X : EndsOf I S) (Y : EndsOf J T) → ((s : S) (t : T) → R m s t → x s ≡ y t) → Meets V R d (turn_exits m q exits) m ks X Y
      → Meets V R d exits q [] (TurnEnds x X) (TurnEnds y Y)
  turns_meet Forth exits m q ks x y X Y n h = λ o w. let z = h w.0 w.1 in let i = turn_meets Forth exits m q ks x y w.0 z.0 n z.2 o w.2 in (i.0, (z.0, z.1, i.1), i.2)
  turns_meet Back exits m q ks x y X Y n h = λ u w. let z = h w.0 w.1 in let i = turn_meets Back exits m q ks x y z.0 w.0 n z.2 u w.2 in (i.0, (z.0, z.1, i.1), i.2)
