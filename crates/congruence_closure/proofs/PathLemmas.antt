-- The walk along a path: the path so far, and the remaining tasks, whose measure decreases.
use Rattle.std.proofs.Common.{◌≡◌, ◌⊎◌, inl, inr, ℕ, zero, suc, ◌+◌, ◌*◌, ◌<◌, ◌≤◌, List, [], ◌∷◌, ◌++◌, take, Option, Some, None, refl, sym, ap, ◌∙◌, subst, arith}
use Rattle.std.specs.Prelude.{slice_get, MatchOption}
use Rattle.std.proofs.lemmas.List.{same_from_push}
use Rattle.congruence_closure.specs.Links.{Linked, ByLink, Itself, Turned, Chained}
use Rattle.congruence_closure.specs.declared.classes.link.Link.{Link}
use Rattle.congruence_closure.specs.Histories.{IsJoin, AreNotLinked}
use Rattle.congruence_closure.specs.declared.proof_forest.Join.{Join}
use Rattle.congruence_closure.specs.Paths.{IsPassage, IsPath, Stays, Passes, IsSplit, span_of, crossing, CanTake, IsCrossedBy, IsTurn}
use Rattle.congruence_closure.specs.declared.forest_paths.Span.{Span}
use Rattle.congruence_closure.specs.declared.forest_paths.Task.{Task}
use Rattle.congruence_closure.specs.declared.forest_paths.Task.TheVariants.{Cross, Pass}

-- ---- edges of a longer list

nothing_taken : {X : Type 0} (xs : List X) (i : ℕ) → slice_get (take zero xs) i ≡ None
nothing_taken [] i = refl
nothing_taken (y ∷ ys) i = refl

take_kept : {X : Type 0} (xs : List X) (k n i : ℕ) (x : X) → k ≤ n → slice_get (take k xs) i ≡ Some x → slice_get (take n xs) i ≡ Some x
take_kept xs zero n i x h e = absurd (let both : None ≡ Some x = sym (nothing_taken xs i) ∙ e in (cc))
take_kept xs (suc k) zero i x h e = absurd (omega arith)
take_kept [] (suc k) (suc n) i x h e = e
take_kept (y ∷ xs) (suc k) (suc n) zero x h e = e
take_kept (y ∷ xs) (suc k) (suc n) (suc i) x h e = take_kept xs k n i x (omega arith) e

linked_later : (ls : List Link) (k n i j : ℕ) → k ≤ n → Linked (take k ls) i j → Linked (take n ls) i j
linked_later ls k n _ _ h (ByLink m l e) = ByLink m l (take_kept ls k n m l h e)
linked_later ls k n _ _ h (Itself i) = Itself i
linked_later ls k n _ _ h (Turned i j l) = Turned i j (linked_later ls k n i j h l)
linked_later ls k n _ _ h (Chained i j m l r) = Chained i j m (linked_later ls k n i j h l) (linked_later ls k n j m h r)

from_taken : {X : Type 0} (xs : List X) (k i : ℕ) (x : X) → slice_get (take k xs) i ≡ Some x → slice_get xs i ≡ Some x
from_taken [] zero i x e = e
from_taken [] (suc k) i x e = e
from_taken (y ∷ xs) zero i x e = absurd (let both : None ≡ Some x = e in (cc))
from_taken (y ∷ xs) (suc k) zero x e = e
from_taken (y ∷ xs) (suc k) (suc i) x e = from_taken xs k i x e

pub taken_all : (ls : List Link) (k i j : ℕ) → Linked (take k ls) i j → Linked ls i j
taken_all ls k _ _ (ByLink m l e) = ByLink m l (from_taken ls k m l e)
taken_all ls k _ _ (Itself i) = Itself i
taken_all ls k _ _ (Turned i j l) = Turned i j (taken_all ls k i j l)
taken_all ls k _ _ (Chained i j m l r) = Chained i j m (taken_all ls k i j l) (taken_all ls k j m r)

-- ---- the edge that joined the ends of a span

less_or : (m n : ℕ) → (m < n) ⊎ (n ≤ m)
less_or m zero = inr (omega arith)
less_or zero (suc n) = inl (omega arith)
less_or (suc m) (suc n) = elim (less_or m n) [ inl h ↦ inl (omega arith) | inr h ↦ inr (omega arith) ]

pub split_by : (ls : List Link) (span : Span) (join : Join) → Linked (take span.before ls) span.from span.to → IsJoin ls span.from span.to join → IsSplit ls span join
split_by ls span join linked is = record {
  passage = record {
    link = is.link;
    found = is.found;
    early = elim (less_or join.link span.before) [ inl h ↦ h | inr h ↦ absurd (is.apart (linked_later ls span.before join.link span.from span.to h linked)) ];
    ends = is.ends;
  };
  near = is.near;
  far = is.far;
}

pub split_of : (ls : List Link) (span : Span) (r : Option Join) → Linked (take span.before ls) span.from span.to → MatchOption r (AreNotLinked ls span.from span.to) (IsJoin ls span.from span.to) → MatchOption r (span.from ≡ span.to) (IsSplit ls span)
split_of ls span None linked m = absurd (m.none (taken_all ls span.before span.from span.to linked))
split_of ls span (Some join) linked m = split_by ls span join linked m

-- ---- paths

passage_later : (ls : List Link) (k n : ℕ) (join : Join) → k ≤ n → IsPassage ls k join → IsPassage ls n join
passage_later ls k n join h p = record { link = p.link; found = p.found; early = (let e = p.early in omega arith); ends = p.ends }

path_then : (ls : List Link) (before i j : ℕ) (path : List Join) (join : Join) → IsPath ls before i path j → j ≡ join.near → IsPassage ls before join → IsPath ls before i (path ++ join ∷ []) join.far
path_then ls before _ _ _ join (Stays i) e p = Passes join [] i join.far e p (Stays join.far)
path_then ls before _ _ _ join (Passes first rest i j f q way) e p = Passes first (rest ++ join ∷ []) i join.far f q (path_then ls before first.far j rest join way e p)

-- ---- the remaining tasks

pub data AreLeft (ls : List Link) (before : ℕ) : ℕ → List Task → ℕ → Type 0 where
  NoneLeft : (i : ℕ) → AreLeft ls before i [] i
  CrossLeft : (span : Span) (tasks : List Task) (j : ℕ) → span.before ≤ before → Linked (take span.before ls) span.from span.to → AreLeft ls before span.to tasks j → AreLeft ls before span.from (tasks ++ Cross span ∷ []) j
  PassLeft : (join : Join) (tasks : List Task) (j : ℕ) → IsPassage ls before join → AreLeft ls before join.far tasks j → AreLeft ls before join.near (tasks ++ Pass join ∷ []) j

nil_push : (ts : List Task) (t : Task) → [] ≡ ts ++ t ∷ [] → ⊥
nil_push [] t e = absurd (cc)
nil_push (u ∷ ts) t e = absurd (cc)

module _ (ls : List Link) (before : ℕ) where
  -- the last task, and the remaining ones after it
  abbrev pub IsNext : ℕ → List Task → Task → ℕ → Type 0
  IsNext i tasks (Cross span) j = (i ≡ span.from) × (span.before ≤ before) × Linked (take span.before ls) span.from span.to × AreLeft ls before span.to tasks j
  IsNext i tasks (Pass join) j = (i ≡ join.near) × IsPassage ls before join × AreLeft ls before join.far tasks j

  pub next : (i j : ℕ) (all : List Task) → AreLeft ls before i all j → (tasks : List Task) (t : Task) → all ≡ tasks ++ t ∷ [] → IsNext i tasks t j
  next _ _ _ (NoneLeft i) tasks t e = absurd (nil_push tasks t e)
  next _ _ _ (CrossLeft span us j h l r) tasks t e =
      let same = same_from_push us tasks (Cross span) t e in
      subst (λ u. IsNext span.from tasks u j) same.1 (refl, h, l, subst (λ ws. AreLeft ls before span.to ws j) same.0 r)
  next _ _ _ (PassLeft join us j p r) tasks t e =
      let same = same_from_push us tasks (Pass join) t e in
      subst (λ u. IsNext join.near tasks u j) same.1 (refl, p, subst (λ ws. AreLeft ls before join.far ws j) same.0 r)

  pub nothing_left : (i j : ℕ) (all : List Task) → AreLeft ls before i all j → all ≡ [] → i ≡ j
  nothing_left _ _ _ (NoneLeft i) e = refl
  nothing_left _ _ _ (CrossLeft span us j h l r) e = absurd (nil_push us (Cross span) (sym e))
  nothing_left _ _ _ (PassLeft join us j p r) e = absurd (nil_push us (Pass join) (sym e))

  -- the path so far, from its start to a number from which the tasks lead on
  pub record IsWalked (from to : ℕ) (path : List Join) (tasks : List Task) : Type 0 where
    pub at : ℕ
    pub done : IsPath ls before from path at
    pub left : AreLeft ls before at tasks to

  pub walk_passed : (from to : ℕ) (path more : List Join) (all tasks : List Task) (join : Join) → IsWalked from to path all → all ≡ tasks ++ Pass join ∷ [] → more ≡ path ++ join ∷ [] → IsWalked from to more tasks
  walk_passed from to path more all tasks join w e m =
      let n : IsNext w.at tasks (Pass join) to = next w.at to all w.left tasks (Pass join) e in
      record { at = join.far; done = subst (λ p. IsPath ls before from p join.far) (sym m) (path_then ls before from w.at path join w.done n.0 n.1); left = n.2 }

  pub walk_crossed : (from to : ℕ) (path : List Join) (all tasks : List Task) (span : Span) → IsWalked from to path all → all ≡ tasks ++ Cross span ∷ [] → span.from ≡ span.to → IsWalked from to path tasks
  walk_crossed from to path all tasks span w e same =
      let n : IsNext w.at tasks (Cross span) to = next w.at to all w.left tasks (Cross span) e in
      record { at = span.to; done = subst (IsPath ls before from path) (n.0 ∙ same) w.done; left = n.3 }

  pub is_linked : (from to : ℕ) (path : List Join) (all tasks : List Task) (span : Span) → IsWalked from to path all → all ≡ tasks ++ Cross span ∷ [] → Linked (take span.before ls) span.from span.to
  is_linked from to path all tasks span w e = (next w.at to all w.left tasks (Cross span) e).2

  pub walk_split : (from to : ℕ) (path : List Join) (all tasks more : List Task) (span : Span) (join : Join) → IsWalked from to path all → all ≡ tasks ++ Cross span ∷ [] → IsSplit ls span join → more ≡ tasks ++ crossing span join → IsWalked from to path more
  walk_split from to path all tasks more span join w e s m =
      let n : IsNext w.at tasks (Cross span) to = next w.at to all w.left tasks (Cross span) e in
      let low : join.link ≤ before = (let a = s.passage.early in let c = n.1 in omega arith) in
      let first : Task = Cross (span_of join.far span.to join.link) in
      let last : Task = Cross (span_of span.from join.near join.link) in
      let left_far : AreLeft ls before join.far (tasks ++ first ∷ []) to = CrossLeft (span_of join.far span.to join.link) tasks to low s.far n.3 in
      let left_pass : AreLeft ls before join.near ((tasks ++ first ∷ []) ++ Pass join ∷ []) to = PassLeft join (tasks ++ first ∷ []) to (passage_later ls span.before before join n.1 s.passage) left_far in
      let left_near : AreLeft ls before span.from (((tasks ++ first ∷ []) ++ Pass join ∷ []) ++ last ∷ []) to = CrossLeft (span_of span.from join.near join.link) ((tasks ++ first ∷ []) ++ Pass join ∷ []) to low s.near left_pass in
      record {
        at = span.from;
        done = subst (IsPath ls before from path) n.0 w.done;
        left = subst (λ ts. AreLeft ls before span.from ts to) (append_three tasks first (Pass join) last ∙ sym m) left_near;
      }
    where
      append_three : (ts : List Task) (a b c : Task) → ((ts ++ a ∷ []) ++ b ∷ []) ++ c ∷ [] ≡ ts ++ a ∷ b ∷ c ∷ []
      append_three [] a b c = refl
      append_three (t ∷ ts) a b c = ap (λ us. t ∷ us) (append_three ts a b c)

  pub walk_taken : (from to : ℕ) (path : List Join) (all tasks : List Task) (t : Task) → IsWalked from to path all → all ≡ tasks ++ t ∷ [] → CanTake ls t
  walk_taken from to path all tasks (Cross span) w e = is_linked from to path all tasks span w e
  walk_taken from to path all tasks (Pass join) w e = tt

  crossed_or_split : (from to : ℕ) (path path2 : List Join) (all tasks tasks2 : List Task) (span : Span) → IsWalked from to path all → all ≡ tasks ++ Cross span ∷ [] → path2 ≡ path → ((span.from ≡ span.to) × (tasks2 ≡ tasks)) ⊎ IsCrossedBy ls span tasks tasks2 → IsWalked from to path2 tasks2
  crossed_or_split from to path path2 all tasks tasks2 span w e p (inl h) =
      subst (λ q. IsWalked from to q tasks2) (sym p) (subst (IsWalked from to path) (sym h.1) (walk_crossed from to path all tasks span w e h.0))
  crossed_or_split from to path path2 all tasks tasks2 span w e p (inr h) =
      subst (λ q. IsWalked from to q tasks2) (sym p) (walk_split from to path all tasks tasks2 span h.join w e h.split h.tasks)

  pub walk_next : (from to : ℕ) (path path2 : List Join) (all tasks tasks2 : List Task) (t : Task) → IsWalked from to path all → all ≡ tasks ++ t ∷ [] → IsTurn ls t path tasks path2 tasks2 → IsWalked from to path2 tasks2
  walk_next from to path path2 all tasks tasks2 (Pass join) w e turn =
      subst (IsWalked from to path2) (sym turn.1) (walk_passed from to path path2 all tasks join w e turn.0)
  walk_next from to path path2 all tasks tasks2 (Cross span) w e turn = crossed_or_split from to path path2 all tasks tasks2 span w e turn.0 turn.1

  pub walk_begun : (from to : ℕ) (tasks : List Task) → Linked (take before ls) from to → tasks ≡ Cross (span_of from to before) ∷ [] → IsWalked from to [] tasks
  walk_begun from to tasks l e = record {
    at = from;
    done = Stays from;
    left = subst (λ ts. AreLeft ls before from ts to) (sym e) (CrossLeft (span_of from to before) [] to (omega arith) l (NoneLeft to));
  }

  pub walk_done : (from to : ℕ) (path : List Join) (tasks : List Task) → IsWalked from to path tasks → tasks ≡ [] → IsPath ls before from path to
  walk_done from to path tasks w e = subst (IsPath ls before from path) (nothing_left w.at to tasks w.left e) w.done

-- ---- the measure

-- the weight triples for each further edge
abbrev pub weight_of_span : ℕ → ℕ
weight_of_span zero = 2
weight_of_span (suc k) = 3 * weight_of_span k

abbrev pub weight_of : Task → ℕ
weight_of (Cross span) = weight_of_span span.before
weight_of (Pass join) = 1

abbrev pub weight : List Task → ℕ
weight [] = 0
weight (t ∷ ts) = weight_of t + weight ts

weight_append : (ts us : List Task) → weight (ts ++ us) ≡ weight ts + weight us
weight_append [] us = omega arith
weight_append (t ∷ ts) us = let e : weight (ts ++ us) ≡ weight ts + weight us = weight_append ts us in omega arith

some_weight : (k : ℕ) → 2 ≤ weight_of_span k
some_weight zero = omega arith
some_weight (suc k) = let h : 2 ≤ weight_of_span k = some_weight k in omega arith

heavier : (k n : ℕ) → k < n → 3 * weight_of_span k ≤ weight_of_span n
heavier k zero h = absurd (omega arith)
heavier zero (suc zero) h = omega arith
heavier zero (suc (suc n)) h = let r : 3 * weight_of_span zero ≤ weight_of_span (suc n) = heavier zero (suc n) (omega arith) in omega arith
heavier (suc k) (suc n) h = let r : 3 * weight_of_span k ≤ weight_of_span n = heavier k n (omega arith) in omega arith

pub falls_passed : (all tasks : List Task) (t : Task) → all ≡ tasks ++ t ∷ [] → weight tasks < weight all
falls_passed all tasks t e =
    let a : weight all ≡ weight tasks + weight (t ∷ []) = ap weight e ∙ weight_append tasks (t ∷ []) in
    let p : 0 < weight_of t = positive t in
    let w : weight (t ∷ []) ≡ weight_of t + 0 = refl in
    omega arith
  where
    positive : (t : Task) → 0 < weight_of t
    positive (Cross span) = let h : 2 ≤ weight_of_span span.before = some_weight span.before in omega arith
    positive (Pass join) = omega arith

pub falls_split : (ls : List Link) (all tasks more : List Task) (span : Span) (join : Join) → all ≡ tasks ++ Cross span ∷ [] → IsSplit ls span join → more ≡ tasks ++ crossing span join → weight more < weight all
falls_split ls all tasks more span join e s m =
    let a : weight all ≡ weight tasks + (weight_of_span span.before + 0) = ap weight e ∙ weight_append tasks (Cross span ∷ []) in
    let c : weight more ≡ weight tasks + (weight_of_span join.link + (1 + (weight_of_span join.link + 0))) = ap weight m ∙ weight_append tasks (crossing span join) in
    let h : 3 * weight_of_span join.link ≤ weight_of_span span.before = heavier join.link span.before s.passage.early in
    let g : 2 ≤ weight_of_span join.link = some_weight join.link in
    omega arith

pub walk_falls : (ls : List Link) (path path2 : List Join) (all tasks tasks2 : List Task) (t : Task) → all ≡ tasks ++ t ∷ [] → IsTurn ls t path tasks path2 tasks2 → weight tasks2 < weight all
walk_falls ls path path2 all tasks tasks2 (Pass join) e turn = subst (λ ts. weight ts < weight all) (sym turn.1) (falls_passed all tasks (Pass join) e)
walk_falls ls path path2 all tasks tasks2 (Cross span) e turn = go turn.1
  where
    go : ((span.from ≡ span.to) × (tasks2 ≡ tasks)) ⊎ IsCrossedBy ls span tasks tasks2 → weight tasks2 < weight all
    go (inl h) = subst (λ ts. weight ts < weight all) (sym h.1) (falls_passed all tasks (Cross span) e)
    go (inr h) = falls_split ls all tasks tasks2 span h.join e h.split h.tasks
