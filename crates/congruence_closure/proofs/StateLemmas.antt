-- Replacement of a representative by a list of numbers, moved members, extended use lists, and the next edge.
use Rattle.std.proofs.Common.{◌≡◌, ◌≢◌, ◌⊎◌, inl, inr, ⊎_elim, ℕ, ◌+◌, ◌<◌, ◌≤◌, List, [], ◌∷◌, ◌++◌, length, get_or, set, Some, refl, sym, ap, ◌∙◌, subst, arith}
use Rattle.std.specs.Prelude.{slice_get, Contains}
use Rattle.std.proofs.lemmas.Bool.{cases_eq, cases_lt}
use Rattle.std.proofs.lemmas.List.{get_or-set_same, get_or-set_other, length-set, get_or_past}
use Rattle.std.proofs.lemmas.List.Elements.{Contains-append_left, Contains-push, Contains-push_cases}
use Rattle.congruence_closure.specs.Signatures.{class_in, renamed}
use Rattle.congruence_closure.specs.States.{SameClass, IsNear, numbers_at, AreMoved, IsRenamed, IsNext, IsDone, AreUsersAdded}
use Rattle.congruence_closure.specs.declared.classes.link.Link.{Link}
use Rattle.congruence_closure.proofs.ListLemmas.{push_kept, push_cases}
use Rattle.congruence_closure.proofs.SignedLemmas.{renamed_at, renamed_other}
use Rattle.congruence_closure.proofs.TableLemmas.{IsAmongFirst, first_cases, among_all}

-- ---- another representative, number by number

pub record IsRenaming (cs ds xs : List ℕ) (n from to : ℕ) : Type 0 where
  pub long : length ds ≡ length cs
  pub changed : (i : ℕ) → (class_in ds i ≡ class_in cs i) ⊎ ((class_in cs i ≡ from) × (class_in ds i ≡ to))
  pub done : (i : ℕ) → IsAmongFirst xs n i → class_in ds i ≢ from

pub renaming_start : (cs xs : List ℕ) (from to : ℕ) → IsRenaming cs cs xs 0 from to
renaming_start cs xs from to = record { long = refl; changed = λ i. inl refl; done = λ i h. absurd (let w = h.1 in omega (arith, w)) }

pub renaming_turn : (cs ds xs : List ℕ) (n from to x y : ℕ) → from ≢ to → n < length xs → x ≡ get_or xs n 0 → x < length ds → y ≡ renamed from to (class_in ds x) → IsRenaming cs ds xs n from to → IsRenaming cs (set ds x y) xs (n + 1) from to
renaming_turn cs ds xs n from to x y apart within is inside new r = record {
  long = length-set ds x y ∙ r.long;
  changed = λ i. change i (cases_eq i x) (cases_eq (class_in ds i) from);
  done = λ i h. finish i (first_cases xs n x i within is h) (cases_eq i x);
}
  where
    here : class_in (set ds x y) x ≡ y
    here = get_or-set_same ds x y x inside

    there : (i : ℕ) → i ≢ x → class_in (set ds x y) i ≡ class_in ds i
    there i n = get_or-set_other ds x i y i n

    change : (i : ℕ) → (i ≡ x) ⊎ (i ≢ x) → (class_in ds i ≡ from) ⊎ (class_in ds i ≢ from) → (class_in (set ds x y) i ≡ class_in cs i) ⊎ ((class_in cs i ≡ from) × (class_in (set ds x y) i ≡ to))
    change i (inr n) _ = ⊎_elim (λ e. inl (there i n ∙ e)) (λ p. inr (p.0, there i n ∙ p.1)) (r.changed i)
    change i (inl e) (inr other) =
        let same : class_in (set ds x y) i ≡ class_in ds i = ap (class_in (set ds x y)) e ∙ here ∙ new ∙ ap (λ k. renamed from to (class_in ds k)) (sym e) ∙ renamed_other from to (class_in ds i) other in
        ⊎_elim (λ f. inl (same ∙ f)) (λ p. inr (p.0, same ∙ p.1)) (r.changed i)
    change i (inl e) (inl old) =
        let now : class_in (set ds x y) i ≡ to = ap (class_in (set ds x y)) e ∙ here ∙ new ∙ ap (λ k. renamed from to (class_in ds k)) (sym e) ∙ renamed_at from to (class_in ds i) old in
        ⊎_elim (λ f. inr (sym f ∙ old, now)) (λ p. inr (p.0, now)) (r.changed i)

    gone : renamed from to (class_in ds x) ≢ from
    gone = go (cases_eq (class_in ds x) from)
      where
        go : (class_in ds x ≡ from) ⊎ (class_in ds x ≢ from) → renamed from to (class_in ds x) ≢ from
        go (inl e) h = apart (sym h ∙ renamed_at from to (class_in ds x) e)
        go (inr n) h = n (sym (renamed_other from to (class_in ds x) n) ∙ h)

    finish : (i : ℕ) → IsAmongFirst xs n i ⊎ (i ≡ x) → (i ≡ x) ⊎ (i ≢ x) → class_in (set ds x y) i ≢ from
    finish i _ (inl e) h = gone (sym (ap (class_in (set ds x y)) e ∙ here ∙ new) ∙ h)
    finish i (inl a) (inr n) h = r.done i a (sym (there i n) ∙ h)
    finish i (inr e) (inr n) h = n e

pub renaming_end : (cs ds xs : List ℕ) (n from to : ℕ) → length xs ≤ n → from < length cs → ((i : ℕ) → i < length cs → class_in cs i ≡ from → Contains xs i) → IsRenaming cs ds xs n from to → IsRenamed cs ds from to
renaming_end cs ds xs n from to all wf members r = record { long = r.long; each = λ i. go i (r.changed i) (cases_eq (class_in cs i) from) (cases_lt i (length cs)) }
  where
    go : (i : ℕ) → (class_in ds i ≡ class_in cs i) ⊎ ((class_in cs i ≡ from) × (class_in ds i ≡ to)) → (class_in cs i ≡ from) ⊎ (class_in cs i ≢ from) → (i < length cs) ⊎ (length cs ≤ i) → class_in ds i ≡ renamed from to (class_in cs i)
    go i (inl e) (inr other) _ = e ∙ sym (renamed_other from to (class_in cs i) other)
    go i (inl e) (inl old) (inl w) = absurd (r.done i (among_all xs n i all (members i w old)) (e ∙ old))
    go i (inl e) (inl old) (inr w) = let alone = get_or_past cs i i w in absurd (omega (arith, alone, old, wf, w))
    go i (inr p) _ _ = p.1 ∙ sym (renamed_at from to (class_in cs i) p.0)

-- ---- members

pub are_moved : (ms : List (List ℕ)) (from to : ℕ) (moved rest appended : List ℕ) → from ≢ to → from < length ms → to < length ms → moved ≡ numbers_at ms from → appended ≡ numbers_at ms to ++ moved → rest ≡ [] → AreMoved ms (set (set ms from rest) to appended) from to moved
are_moved ms from to moved rest appended apart wf wt is app none = record {
  long = length-set (set ms from rest) to appended ∙ length-set ms from rest;
  are = is;
  gone = get_or-set_other (set ms from rest) to from appended [] apart ∙ get_or-set_same ms from rest [] wf ∙ none;
  at = get_or-set_same (set ms from rest) to appended [] (let l = length-set ms from rest in omega (arith, l, wt)) ∙ app;
  others = λ k n m. get_or-set_other (set ms from rest) to k appended [] m ∙ get_or-set_other ms from k rest [] n;
}

-- ---- use lists

pub one_added : (us : List (List ℕ)) (part number : ℕ) (new : List ℕ) → part < length us → new ≡ numbers_at us part ++ number ∷ [] → AreUsersAdded us (set us part new) number (λ p. p ≡ part)
one_added us part number new within is = record {
  long = length-set us part new;
  stay = λ k i h. stay k i h (cases_eq k part);
  all = λ p e. subst (λ k. Contains (numbers_at (set us part new) k) number) (sym e) (subst (λ xs. Contains xs number) (sym here) (Contains-push (numbers_at us part) number));
  only = λ k i h. only k i h (cases_eq k part);
}
  where
    here : numbers_at (set us part new) part ≡ numbers_at us part ++ number ∷ []
    here = get_or-set_same us part new [] within ∙ is

    there : (k : ℕ) → k ≢ part → numbers_at (set us part new) k ≡ numbers_at us k
    there k n = get_or-set_other us part k new [] n

    stay : (k i : ℕ) → Contains (numbers_at us k) i → (k ≡ part) ⊎ (k ≢ part) → Contains (numbers_at (set us part new) k) i
    stay k i h (inl e) = subst (λ m. Contains (numbers_at (set us part new) m) i) (sym e) (subst (λ xs. Contains xs i) (sym here) (Contains-append_left (numbers_at us part) (number ∷ []) i (subst (λ m. Contains (numbers_at us m) i) e h)))
    stay k i h (inr n) = subst (λ xs. Contains xs i) (sym (there k n)) h

    only : (k i : ℕ) → Contains (numbers_at (set us part new) k) i → (k ≡ part) ⊎ (k ≢ part) → Contains (numbers_at us k) i ⊎ (i ≡ number)
    only k i h (inl e) =
        ⊎_elim (λ a. inl (subst (λ m. Contains (numbers_at us m) i) (sym e) a)) (λ a. inr (sym a))
        (Contains-push_cases (numbers_at us part) number i (subst (λ xs. Contains xs i) here (subst (λ m. Contains (numbers_at (set us part new) m) i) e h)))
    only k i h (inr n) = inl (subst (λ xs. Contains xs i) (there k n) h)

pub none_added : (us : List (List ℕ)) (number : ℕ) (These : ℕ → Type 0) → ((p : ℕ) → These p → ⊥) → AreUsersAdded us us number These
none_added us number These none = record { long = refl; stay = λ k i h. h; all = λ p h. absurd (none p h); only = λ k i h. inl h }

pub added_chained : (us us2 us3 : List (List ℕ)) (number : ℕ) (These Those All : ℕ → Type 0) → AreUsersAdded us us2 number These → AreUsersAdded us2 us3 number Those → ((p : ℕ) → All p → These p ⊎ Those p) → AreUsersAdded us us3 number All
added_chained us us2 us3 number These Those All a b cases = record {
  long = b.long ∙ a.long;
  stay = λ k i h. b.stay k i (a.stay k i h);
  all = λ p h. go p (cases p h);
  only = λ k i h. ⊎_elim (λ x. a.only k i x) (λ e. inr e) (b.only k i h);
}
  where
    go : (p : ℕ) → These p ⊎ Those p → Contains (numbers_at us3 p) number
    go p (inl h) = b.stay p number (a.all p h)
    go p (inr h) = b.all p h

-- ---- the next edge

pub record IsAhead (c : ℕ → ℕ) (ws vs : List Link) : Type 0 where
  pub near : (i j : ℕ) → IsNear c ws i j → IsNear c vs i j
  pub among : (k : ℕ) (m : Link) → slice_get vs k ≡ Some m → slice_get ws k ≡ Some m

pub ahead_start : (c : ℕ → ℕ) (ws : List Link) → IsAhead c ws ws
ahead_start c ws = record { near = λ i j h. h; among = λ k m e. e }

-- an edge that joins no two classes is dropped
pub ahead_turn : (c : ℕ → ℕ) (ws vs us : List Link) (l : Link) → IsAhead c ws vs → vs ≡ us ++ l ∷ [] → c l.left ≡ c l.right → IsAhead c ws us
ahead_turn c ws vs us l ahead is same = record {
  near = λ i j h. go i j (subst (λ xs. IsNear c xs i j) is (ahead.near i j h));
  among = λ k m e. ahead.among k m (subst (λ xs. slice_get xs k ≡ Some m) (sym is) (push_kept us l k m e));
}
  where
    go : (i j : ℕ) → IsNear c (us ++ l ∷ []) i j → IsNear c us i j
    go i j (inl e) = inl e
    go i j (inr w) = at (push_cases us l w.position w.link w.found)
      where
        at : (slice_get us w.position ≡ Some w.link) ⊎ ((w.position ≡ length us) × (w.link ≡ l)) → IsNear c us i j
        at (inl h) = inr (record { position = w.position; link = w.link; found = h; left = w.left; right = w.right })
        at (inr h) =
            let left : l.left ≡ i = ap (λ (m : Link). m.left) (sym h.1) ∙ w.left in
            let right : l.right ≡ j = ap (λ (m : Link). m.right) (sym h.1) ∙ w.right in
            inl (ap c (sym left) ∙ same ∙ ap c right)

pub ahead_next : (c : ℕ → ℕ) (ws vs us : List Link) (l : Link) → IsAhead c ws vs → vs ≡ us ++ l ∷ [] → c l.left ≢ c l.right → IsNext c ws us l
ahead_next c ws vs us l ahead is apart = record {
  apart = apart;
  near = λ i j h. subst (λ xs. IsNear c xs i j) is (ahead.near i j h);
  among = λ k m e. ahead.among k m (subst (λ xs. slice_get xs k ≡ Some m) (sym is) e);
}

pub ahead_done : (c : ℕ → ℕ) (ws vs us : List Link) → IsAhead c ws vs → vs ≡ [] → us ≡ [] → IsDone c ws us
ahead_done c ws vs us ahead none over = record { none = over; same = λ i j h. go i j (subst (λ xs. IsNear c xs i j) none (ahead.near i j h)) }
  where
    nothing : (k : ℕ) (l : Link) → slice_get {X = Link} [] k ≡ Some l → ⊥
    nothing k l e = absurd (cc)

    go : (i j : ℕ) → IsNear c [] i j → SameClass c i j
    go i j (inl e) = e
    go i j (inr w) = absurd (nothing w.position w.link w.found)
