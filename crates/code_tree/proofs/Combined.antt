-- How outcomes that correspond go on and combine.
use Rattle.std.proofs.Common.{◌≡◌, ℕ, Bool, true, false, if◌then◌else◌, List, [], ◌∷◌, ◌++◌, Option, Some, None, refl, sym, ◌∙◌, ap, subst}
use Rattle.code_tree.specs.declared.code.Jump.{Jump}
use Rattle.code_tree.specs.declared.code.Jump.TheVariants.{Break, Continue, Return}
use Rattle.code_tree.specs.Outcomes.{Outcome, Done, Left, Aborted, Unfinished, Stuck, RunOf, gives, stuck, leaves, after, then_run, with_some, on_one, chosen, turned, loops, same_jump, caught}
use Rattle.code_tree.specs.Passes.{Exit, Exits, no_exits, with_exit, turn_exits, AllAlike, AtExit, Alike}

pub appended : {A I J : Type 0} (V : A → I → J → Type 0) (ks ls : List A) (vs us : List I) (ws zs : List J) → AllAlike V ks vs ws → AllAlike V ls us zs → AllAlike V (ks ++ ls) (vs ++ us) (ws ++ zs)
appended V [] ls [] us [] zs h k = k
appended V [] ls [] us (y ∷ ws) zs h k = absurd h
appended V [] ls (x ∷ vs) us ws zs h k = absurd h
appended V (a ∷ ks) ls [] us ws zs h k = absurd h
appended V (a ∷ ks) ls (x ∷ vs) us [] zs h k = absurd h
appended V (a ∷ ks) ls (x ∷ vs) us (y ∷ ws) zs h k = (h.0, appended V ks ls vs us ws zs h.1 k)

module _ {P A I J S T : Type 0} (V : A → I → J → Type 0) (R : P → S → T → Type 0) where
  -- what comes behind both
  pub after_both : (exits : Exits P A) (m q : P) (ks ls : List A) (o : Outcome I S) (u : Outcome J T) (f : List I → RunOf I S) (g : List J → RunOf J T) → Alike V R exits m ks o u
      → ((vs : List I) (ws : List J) (s : S) (t : T) → AllAlike V ks vs ws → R m s t → Alike V R exits q ls (f vs s) (g ws t)) → Alike V R exits q ls (after o f) (after u g)
  after_both exits m q ks ls (Done vs s) (Done ws t) f g h k = k vs ws s t h.0 h.1
  after_both exits m q ks ls (Done vs s) (Left j ws t) f g h k = absurd h
  after_both exits m q ks ls (Done vs s) (Aborted d) f g h k = absurd h
  after_both exits m q ks ls (Done vs s) Unfinished f g h k = absurd h
  after_both exits m q ks ls (Done vs s) Stuck f g h k = absurd h
  after_both exits m q ks ls (Left i vs s) (Done ws t) f g h k = absurd h
  after_both exits m q ks ls (Left i vs s) (Left j ws t) f g h k = h
  after_both exits m q ks ls (Left i vs s) (Aborted d) f g h k = absurd h
  after_both exits m q ks ls (Left i vs s) Unfinished f g h k = absurd h
  after_both exits m q ks ls (Left i vs s) Stuck f g h k = absurd h
  after_both exits m q ks ls (Aborted c) (Done ws t) f g h k = absurd h
  after_both exits m q ks ls (Aborted c) (Left j ws t) f g h k = absurd h
  after_both exits m q ks ls (Aborted c) (Aborted d) f g h k = h
  after_both exits m q ks ls (Aborted c) Unfinished f g h k = absurd h
  after_both exits m q ks ls (Aborted c) Stuck f g h k = absurd h
  after_both exits m q ks ls Unfinished (Done ws t) f g h k = absurd h
  after_both exits m q ks ls Unfinished (Left j ws t) f g h k = absurd h
  after_both exits m q ks ls Unfinished (Aborted d) f g h k = absurd h
  after_both exits m q ks ls Unfinished Unfinished f g h k = h
  after_both exits m q ks ls Unfinished Stuck f g h k = absurd h
  after_both exits m q ks ls Stuck u f g h k = absurd h

  -- what is not left stands in any exits
  pub in_exits : (exits : Exits P A) (q : P) (ks : List A) (o : Outcome I S) (u : Outcome J T) → Alike V R no_exits q ks o u → Alike V R exits q ks o u
  in_exits exits q ks (Done vs s) (Done ws t) h = h
  in_exits exits q ks (Done vs s) (Left j ws t) h = absurd h
  in_exits exits q ks (Done vs s) (Aborted d) h = absurd h
  in_exits exits q ks (Done vs s) Unfinished h = absurd h
  in_exits exits q ks (Done vs s) Stuck h = absurd h
  in_exits exits q ks (Left i vs s) (Done ws t) h = absurd h
  in_exits exits q ks (Left i vs s) (Left j ws t) h = absurd h.1
  in_exits exits q ks (Left i vs s) (Aborted d) h = absurd h
  in_exits exits q ks (Left i vs s) Unfinished h = absurd h
  in_exits exits q ks (Left i vs s) Stuck h = absurd h
  in_exits exits q ks (Aborted c) (Done ws t) h = absurd h
  in_exits exits q ks (Aborted c) (Left j ws t) h = absurd h
  in_exits exits q ks (Aborted c) (Aborted d) h = h
  in_exits exits q ks (Aborted c) Unfinished h = absurd h
  in_exits exits q ks (Aborted c) Stuck h = absurd h
  in_exits exits q ks Unfinished (Done ws t) h = absurd h
  in_exits exits q ks Unfinished (Left j ws t) h = absurd h
  in_exits exits q ks Unfinished (Aborted d) h = absurd h
  in_exits exits q ks Unfinished Unfinished h = h
  in_exits exits q ks Unfinished Stuck h = absurd h
  in_exits exits q ks Stuck u h = absurd h

  caught_left : (exits : Exits P A) (q : P) (ks : List A) (j i : Jump) (vs : List I) (ws : List J) (s : S) (t : T) (b : Bool)
      → AtExit V R (if b then Some (record { point = q; kinds = ks }) else exits i) vs s ws t
      → Alike V R exits q ks (if b then Done vs s else Left i vs s) (if b then Done ws t else Left i ws t)
  caught_left exits q ks j i vs ws s t true h = h
  caught_left exits q ks j i vs ws s t false h = (refl, h)

  pub caught_both : (exits : Exits P A) (q : P) (ks : List A) (j : Jump) (o : Outcome I S) (u : Outcome J T) → Alike V R (with_exit j q ks exits) q ks o u → Alike V R exits q ks (caught j o) (caught j u)
  caught_both exits q ks j (Done vs s) (Done ws t) h = h
  caught_both exits q ks j (Done vs s) (Left i ws t) h = absurd h
  caught_both exits q ks j (Done vs s) (Aborted d) h = absurd h
  caught_both exits q ks j (Done vs s) Unfinished h = absurd h
  caught_both exits q ks j (Done vs s) Stuck h = absurd h
  caught_both exits q ks j (Left i vs s) (Done ws t) h = absurd h
  caught_both exits q ks j (Left i vs s) (Left l ws t) h =
      subst (λ z. Alike V R exits q ks (caught j (Left i vs s)) (caught j (Left z ws t))) h.0 (caught_left exits q ks j i vs ws s t (same_jump j i) h.1)
  caught_both exits q ks j (Left i vs s) (Aborted d) h = absurd h
  caught_both exits q ks j (Left i vs s) Unfinished h = absurd h
  caught_both exits q ks j (Left i vs s) Stuck h = absurd h
  caught_both exits q ks j (Aborted c) (Done ws t) h = absurd h
  caught_both exits q ks j (Aborted c) (Left i ws t) h = absurd h
  caught_both exits q ks j (Aborted c) (Aborted d) h = h
  caught_both exits q ks j (Aborted c) Unfinished h = absurd h
  caught_both exits q ks j (Aborted c) Stuck h = absurd h
  caught_both exits q ks j Unfinished (Done ws t) h = absurd h
  caught_both exits q ks j Unfinished (Left i ws t) h = absurd h
  caught_both exits q ks j Unfinished (Aborted d) h = absurd h
  caught_both exits q ks j Unfinished Unfinished h = h
  caught_both exits q ks j Unfinished Stuck h = absurd h
  caught_both exits q ks j Stuck u h = absurd h

  turned_left : (exits : Exits P A) (m q : P) (i j : Jump) (vs : List I) (ws : List J) (s : S) (t : T) (f : RunOf I S) (g : RunOf J T) → i ≡ j → AtExit V R (turn_exits m q exits i) vs s ws t
      → ((s : S) (t : T) → R m s t → Alike V R exits q [] (f s) (g t)) → Alike V R exits q [] (turned (Left i vs s) f) (turned (Left j ws t) g)
  turned_left exits m q Break j vs ws s t f g e h k = subst (λ z. Alike V R exits q [] (Done [] s) (turned (Left z ws t) g)) e (tt, h.1)
  turned_left exits m q Continue j vs ws s t f g e h k = subst (λ z. Alike V R exits q [] (f s) (turned (Left z ws t) g)) e (k s t h.1)
  turned_left exits m q Return j vs ws s t f g e h k = subst (λ z. Alike V R exits q [] (Left Return vs s) (turned (Left z ws t) g)) e (refl, h)

  -- behind a turn of a loop
  pub turned_both : (exits : Exits P A) (m q : P) (ks : List A) (o : Outcome I S) (u : Outcome J T) (f : RunOf I S) (g : RunOf J T) → Alike V R (turn_exits m q exits) m ks o u
      → ((s : S) (t : T) → R m s t → Alike V R exits q [] (f s) (g t)) → Alike V R exits q [] (turned o f) (turned u g)
  turned_both exits m q ks (Done vs s) (Done ws t) f g h k = k s t h.1
  turned_both exits m q ks (Done vs s) (Left j ws t) f g h k = absurd h
  turned_both exits m q ks (Done vs s) (Aborted d) f g h k = absurd h
  turned_both exits m q ks (Done vs s) Unfinished f g h k = absurd h
  turned_both exits m q ks (Done vs s) Stuck f g h k = absurd h
  turned_both exits m q ks (Left i vs s) (Done ws t) f g h k = absurd h
  turned_both exits m q ks (Left i vs s) (Left j ws t) f g h k = turned_left exits m q i j vs ws s t f g h.0 h.1 k
  turned_both exits m q ks (Left i vs s) (Aborted d) f g h k = absurd h
  turned_both exits m q ks (Left i vs s) Unfinished f g h k = absurd h
  turned_both exits m q ks (Left i vs s) Stuck f g h k = absurd h
  turned_both exits m q ks (Aborted c) (Done ws t) f g h k = absurd h
  turned_both exits m q ks (Aborted c) (Left j ws t) f g h k = absurd h
  turned_both exits m q ks (Aborted c) (Aborted d) f g h k = h
  turned_both exits m q ks (Aborted c) Unfinished f g h k = absurd h
  turned_both exits m q ks (Aborted c) Stuck f g h k = absurd h
  turned_both exits m q ks Unfinished (Done ws t) f g h k = absurd h
  turned_both exits m q ks Unfinished (Left j ws t) f g h k = absurd h
  turned_both exits m q ks Unfinished (Aborted d) f g h k = absurd h
  turned_both exits m q ks Unfinished Unfinished f g h k = h
  turned_both exits m q ks Unfinished Stuck f g h k = absurd h
  turned_both exits m q ks Stuck u f g h k = absurd h

  -- one of two, by an item that has one truth on both sides
  pub chosen_both : (exits : Exits P A) (q : P) (k : A) (ls : List A) (truth : I → Option Bool) (other : J → Option Bool) (vs : List I) (ws : List J) (s : S) (t : T) (a b : RunOf I S) (d e : RunOf J T)
      → ((x : I) (y : J) → V k x y → (b : Bool) × (truth x ≡ Some b) × (other y ≡ Some b)) → AllAlike V (k ∷ []) vs ws
      → Alike V R exits q ls (a s) (d t) → Alike V R exits q ls (b s) (e t) → Alike V R exits q ls (chosen truth a b vs s) (chosen other d e ws t)
  chosen_both exits q k ls truth other [] ws s t a b d e same h f g = absurd h
  chosen_both exits q k ls truth other (x ∷ vs) [] s t a b d e same h f g = absurd h
  chosen_both exits q k ls truth other (x ∷ x2 ∷ vs) (y ∷ ws) s t a b d e same h f g = absurd h.1
  chosen_both exits q k ls truth other (x ∷ []) (y ∷ y2 ∷ ws) s t a b d e same h f g = absurd h.1
  chosen_both exits q k ls truth other (x ∷ []) (y ∷ []) s t a b d e same h f g = go (truth x) (other y) (same x y h.0)
    where
      go : (u v : Option Bool) → ((z : Bool) × (u ≡ Some z) × (v ≡ Some z)) → Alike V R exits q ls (with_some u (λ z. if z then a else b) s) (with_some v (λ z. if z then d else e) t)
      go None v w = absurd (let e = w.1 in cc)
      go (Some true) None w = absurd (let e = w.2 in cc)
      go (Some false) None w = absurd (let e = w.2 in cc)
      go (Some true) (Some true) w = f
      go (Some false) (Some false) w = g
      go (Some true) (Some false) w = absurd (let e = w.1 in let d = w.2 in cc)
      go (Some false) (Some true) w = absurd (let e = w.1 in let d = w.2 in cc)
