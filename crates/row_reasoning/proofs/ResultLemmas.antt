-- Facts about a result, if there is one.
use Rattle.std.proofs.Common.{Option, Some, None, Result, Ok, Err}
use Rattle.std.specs.Prelude.{IfOk, OnOk, IfSome, MatchOption}

module _ {T E : Type 0} where
  pub match_map : (A C : Type 0) (B D : T → Type 0) → (A → C) → ((t : T) → B t → D t) → (r : Result (Option T) E) → IfOk r (λ m. MatchOption m A B) → IfOk r (λ m. MatchOption m C D)
  match_map A C B D f g (Ok None) h = f h
  match_map A C B D f g (Ok (Some t)) h = g t h
  match_map A C B D f g (Err e) h = tt

  pub some_map : (A : Type 0) (B D : T → Type 0) → ((t : T) → B t → D t) → (r : Result (Option T) E) → IfOk r (λ m. MatchOption m A B) → IfOk r (λ m. IfSome m D)
  some_map A B D g (Ok None) h = tt
  some_map A B D g (Ok (Some t)) h = g t h
  some_map A B D g (Err e) h = tt

  pub ok_map : (B D : T → Type 0) → ((t : T) → B t → D t) → (r : Result T E) → IfOk r B → IfOk r D
  ok_map B D g (Ok t) h = g t h
  ok_map B D g (Err e) h = tt

pub option_map_match : {T : Type 0} (A C : Type 0) (B D : T → Type 0) → (A → C) → ((t : T) → B t → D t) → (m : Option T) → MatchOption m A B → MatchOption m C D
option_map_match A C B D f g None h = f h
option_map_match A C B D f g (Some t) h = g t h

pub some_of : {T : Type 0} (A : Type 0) (B : T → Type 0) (m : Option T) → MatchOption m A B → IfSome m B
some_of A B None h = tt
some_of A B (Some t) h = h

pub on_ok_map : {T E P Q : Type 0} → (P → Q) → (r : Result T E) → OnOk r P → OnOk r Q
on_ok_map f (Ok t) h = f h
on_ok_map f (Err e) h = tt
