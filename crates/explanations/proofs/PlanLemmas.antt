-- Marks, and the edges that an edge needs.
use Rattle.std.proofs.Common.{◌≡◌, ◌≢◌, ◌⊎◌, inl, inr, ℕ, zero, suc, ◌+◌, ◌<◌, Bool, true, false, List, [], ◌∷◌, ◌++◌, length, take, get_or, set, Some, refl, sym, ap, ◌∙◌, subst, arith}
use Rattle.std.specs.Prelude.{slice_get}
use Rattle.std.proofs.lemmas.List.{take_more, get_or-set_same, get_or-set_other}
use Rattle.std.proofs.lemmas.Bool.{cases_eq}
use Rattle.std.proofs.lemmas.Option.{slice_get-get_or}
use Rattle.std.proofs.lemmas.List.{length_push}
use Rattle.std.proofs.lemmas.Option.{slice_get_within}
use Rattle.term_pool.specs.declared.node.Node.{Node}
use Rattle.congruence_closure.specs.Links.{Linked, ByLink, Itself, Turned, Chained}
use Rattle.congruence_closure.specs.declared.classes.link.Link.{Link}
use Rattle.congruence_closure.specs.declared.classes.link.Why.{Why}
use Rattle.congruence_closure.specs.declared.classes.link.Why.TheVariants.{Given, Alike}
use Rattle.congruence_closure.specs.Histories.{AreEnds}
use Rattle.congruence_closure.specs.declared.proof_forest.Join.{Join}
use Rattle.congruence_closure.specs.Paths.{IsPassage, IsPath, Stays, Passes}
use Rattle.explanations.specs.Graphs.{IsTermNode, IsGraph}
use Rattle.explanations.specs.Positions.{IsDifference}
use Rattle.explanations.specs.declared.derived.plan.Plan.{Plan}
use Rattle.explanations.proofs.LinkedLemmas.{term_linked}
use Rattle.explanations.proofs.ChainLemmas.{push_kept, push_new}
use Rattle.explanations.specs.Plans.{is_needed, IsOn, IsOnAny, IsThis, CanMark, AreMarked, IsPlan, HasTermEnds, AreNeeded, IsNextPlan, IsPlanOf, ArePlans}
use Rattle.explanations.specs.declared.derived.replacing.Difference.{Difference}

push_cases : {X : Type 0} (xs : List X) (y x : X) (i : ℕ) → slice_get (xs ++ y ∷ []) i ≡ Some x → (slice_get xs i ≡ Some x) ⊎ (y ≡ x)
push_cases [] y x zero e = inr (cc)
push_cases [] y x (suc i) e = absurd (cc)
push_cases (z ∷ xs) y x zero e = inl e
push_cases (z ∷ xs) y x (suc i) e = push_cases xs y x i e

-- ---- edges of a longer list

none_taken : {X : Type 0} (xs : List X) (i : ℕ) (x : X) → slice_get (take zero xs) i ≡ Some x → ⊥
none_taken [] i x e = absurd (cc)
none_taken (y ∷ ys) i x e = absurd (cc)

on_push : (route : List Join) (join : Join) (k : ℕ) → IsOn (route ++ join ∷ []) k → IsOn route k ⊎ IsThis join.link k
on_push route join k o = elim (push_cases route join o.join o.position o.found) [ inl f ↦ inl (record { position = o.position; join = o.join; found = f; is = o.is }) | inr e ↦ inr (ap (λ (j : Join). j.link) e ∙ o.is) ]

on_pushed : (route : List Join) (join : Join) (k : ℕ) → IsOn route k ⊎ IsThis join.link k → IsOn (route ++ join ∷ []) k
on_pushed route join k (inl o) = record { position = o.position; join = o.join; found = push_kept route join o.join o.position o.found; is = o.is }
on_pushed route join k (inr e) = record { position = length route; join = join; found = push_new route join; is = e }

any_push : (ds : List Difference) (d : Difference) (k : ℕ) → IsOnAny (ds ++ d ∷ []) k → IsOnAny ds k ⊎ IsOn d.route.items k
any_push ds d k o = elim (push_cases ds d o.difference o.position o.found) [ inl f ↦ inl (record { position = o.position; difference = o.difference; found = f; on = o.on }) | inr e ↦ inr (subst (λ (c : Difference). IsOn c.route.items k) (sym e) o.on) ]

any_pushed : (ds : List Difference) (d : Difference) (k : ℕ) → IsOnAny ds k ⊎ IsOn d.route.items k → IsOnAny (ds ++ d ∷ []) k
any_pushed ds d k (inl o) = record { position = o.position; difference = o.difference; found = push_kept ds d o.difference o.position o.found; on = o.on }
any_pushed ds d k (inr o) = record { position = length ds; difference = d; found = push_new ds d; on = o }

-- ---- marks

pub marks_none : (These : ℕ → Type 0) (xs : List Bool) → ((k : ℕ) → These k → ⊥) → AreMarked These xs xs
marks_none These xs none = record { long = refl; stays = λ k e. e; marked = λ k t. absurd (none k t); only = λ k e. inl e }

pub marks_then : (A B C : ℕ → Type 0) (old cur new : List Bool) → ((k : ℕ) → A k ⊎ B k → C k) → ((k : ℕ) → C k → A k ⊎ B k) → AreMarked A old cur → AreMarked B cur new → AreMarked C old new
marks_then A B C old cur new to from a b = record {
  long = b.long ∙ a.long;
  stays = λ k e. b.stays k (a.stays k e);
  marked = λ k c. elim (from k c) [ inl h ↦ b.stays k (a.marked k h) | inr h ↦ b.marked k h ];
  only = λ k e. elim (b.only k e) [ inl h ↦ elim (a.only k h) [ inl o ↦ inl o | inr t ↦ inr (to k (inl t)) ] | inr t ↦ inr (to k (inr t)) ];
}

pub this_marked : (xs ys : List Bool) (link : ℕ) → link < length xs → ys ≡ set xs link true → length ys ≡ length xs → AreMarked (IsThis link) xs ys
this_marked xs ys link w e long = record {
  long = long;
  stays = λ k h. elim (cases_eq k link) [ inl s ↦ here k s | inr d ↦ other k d ∙ h ];
  marked = λ k s. here k (sym s);
  only = λ k h. elim (cases_eq k link) [ inl s ↦ inr (sym s) | inr d ↦ inl (sym (other k d) ∙ h) ];
}
  where
    here : (k : ℕ) → k ≡ link → is_needed ys k ≡ true
    here k s = ap (λ i. get_or ys i false) s ∙ ap (λ zs. get_or zs link false) e ∙ get_or-set_same xs link true false w

    other : (k : ℕ) → k ≢ link → is_needed ys k ≡ is_needed xs k
    other k d = ap (λ zs. get_or zs k false) e ∙ get_or-set_other xs link k true false d

pub route_begun : (route : List Join) (xs : List Bool) → AreMarked (IsOn (take zero route)) xs xs
route_begun route xs = marks_none (IsOn (take zero route)) xs (λ k o. none_taken route o.position o.join o.found)

pub route_next : (route : List Join) (n : ℕ) (d : Join) (old cur new : List Bool) → n < length route → AreMarked (IsOn (take n route)) old cur → AreMarked (IsThis (get_or route n d).link) cur new → AreMarked (IsOn (take (n + 1) route)) old new
route_next route n d old cur new w a b =
    let join : Join = get_or route n d in
    subst (λ r. AreMarked (IsOn r) old new) (sym (take_more route n d w))
    (marks_then (IsOn (take n route)) (IsThis (get_or route n d).link) (IsOn (take n route ++ get_or route n d ∷ [])) old cur new (on_pushed (take n route) (get_or route n d)) (on_push (take n route) (get_or route n d)) a b)

pub route_link : (route : List Join) (n count more : ℕ) (d : Join) → n < length route → more ≡ count → CanMark count (IsOn route) → (get_or route n d).link < more
route_link route n count more d w same can = subst (λ c. (get_or route n d).link < c) (sym same) (can.each (get_or route n d).link (record { position = n; join = get_or route n d; found = slice_get-get_or route n d w; is = refl }))

pub all_begun : (ds : List Difference) (xs : List Bool) → AreMarked (IsOnAny (take zero ds)) xs xs
all_begun ds xs = marks_none (IsOnAny (take zero ds)) xs (λ k o. none_taken ds o.position o.difference o.found)

pub all_next : (ds : List Difference) (n : ℕ) (d e : Difference) (route : List Join) (old cur new : List Bool) → n < length ds → d ≡ get_or ds n e → route ≡ d.route.items → AreMarked (IsOnAny (take n ds)) old cur → AreMarked (IsOn route) cur new → AreMarked (IsOnAny (take (n + 1) ds)) old new
all_next ds n d e route old cur new w is r a b =
    subst (λ c. AreMarked (IsOnAny c) old new) (ap (λ x. take n ds ++ x ∷ []) is ∙ sym (take_more ds n e w))
    (marks_then (IsOnAny (take n ds)) (IsOn d.route.items) (IsOnAny (take n ds ++ d ∷ [])) old cur new (any_pushed (take n ds) d) (any_push (take n ds) d) a (subst (λ x. AreMarked (IsOn x) cur new) r b))

pub all_links : (ds : List Difference) (n count more : ℕ) (d e : Difference) (route : List Join) → n < length ds → d ≡ get_or ds n e → route ≡ d.route.items → more ≡ count → CanMark count (IsOnAny ds) → CanMark more (IsOn route)
all_links ds n count more d e route w is r same can = record {
  each = λ k o. subst (λ c. k < c) (sym same) (can.each k (record { position = n; difference = d; found = slice_get-get_or ds n e w ∙ ap Some (sym is); on = subst (λ x. IsOn x k) r o }));
}

-- ---- needed edges

take_found : {X : Type 0} (xs : List X) (n k : ℕ) (x : X) → k < n → slice_get xs k ≡ Some x → slice_get (take n xs) k ≡ Some x
take_found xs zero k x h e = absurd (omega arith)
take_found [] (suc n) k x h e = absurd (cc)
take_found (y ∷ xs) (suc n) zero x h e = e
take_found (y ∷ xs) (suc n) (suc k) x h e = take_found xs n k x (omega arith) e

link_linked : (ls : List Link) (before : ℕ) (join : Join) → IsPassage ls before join → Linked (take before ls) join.near join.far
link_linked ls before join p = go p.ends (ByLink join.link p.link (take_found ls before join.link p.link p.early p.found))
  where
    go : AreEnds p.link join.near join.far → Linked (take before ls) p.link.left p.link.right → Linked (take before ls) join.near join.far
    go (inl e) l = subst (λ i. Linked (take before ls) i join.far) e.0 (subst (Linked (take before ls) p.link.left) e.1 l)
    go (inr e) l = Turned join.far join.near (subst (λ i. Linked (take before ls) i join.near) e.0 (subst (Linked (take before ls) p.link.left) e.1 l))

-- an edge of a path, and the connection of its near end with the start of the path
record IsPassed (ls : List Link) (before from : ℕ) (join : Join) : Type 0 where
  passage : IsPassage ls before join
  linked : Linked (take before ls) from join.near

path_passed : (ls : List Link) (before i j : ℕ) (route : List Join) → IsPath ls before i route j → (n : ℕ) (join : Join) → slice_get route n ≡ Some join → IsPassed ls before i join
path_passed ls before _ _ _ (Stays i) n join f = absurd (cc)
path_passed ls before _ _ _ (Passes first rest i j e p way) zero join f =
    let same : first ≡ join = cc in
    subst (IsPassed ls before i) same (record { passage = p; linked = subst (Linked (take before ls) i) e (Itself i) })
path_passed ls before _ _ _ (Passes first rest i j e p way) (suc n) join f =
    let later = path_passed ls before first.far j rest way n join f in
    record { passage = later.passage; linked = Chained i first.far join.near (subst (λ k. Linked (take before ls) k first.far) (sym e) (link_linked ls before first p)) later.linked }

module _ (pool ns : List Node) (ls : List Link) (numbers : List ℕ) (g : IsGraph pool ns ls numbers) where
  passed_ends : (before from : ℕ) (join : Join) → IsTermNode pool ns numbers from → IsPassed ls before from join → HasTermEnds pool ns ls numbers join.link
  passed_ends before from join t q = go q.passage.ends
    where
      within : (q.passage.link.left < length ns) × (q.passage.link.right < length ns)
      within = g.among join.link q.passage.link q.passage.found

      near : join.near < length ns → IsTermNode pool ns numbers join.near
      near w = term_linked pool ns ls numbers g before from join.near w q.linked t

      far : join.near < length ns → join.far < length ns → IsTermNode pool ns numbers join.far
      far w v = term_linked pool ns ls numbers g before join.near join.far v (link_linked ls before join q.passage) (near w)

      go : AreEnds q.passage.link join.near join.far → HasTermEnds pool ns ls numbers join.link
      go (inl e) =
          let w : join.near < length ns = subst (λ i. i < length ns) e.0 within.0 in
          let v : join.far < length ns = subst (λ i. i < length ns) e.1 within.1 in
          record { link = q.passage.link; is_link = q.passage.found; left = subst (IsTermNode pool ns numbers) (sym e.0) (near w); right = subst (IsTermNode pool ns numbers) (sym e.1) (far w v) }
      go (inr e) =
          let v : join.far < length ns = subst (λ i. i < length ns) e.0 within.0 in
          let w : join.near < length ns = subst (λ i. i < length ns) e.1 within.1 in
          record { link = q.passage.link; is_link = q.passage.found; left = subst (IsTermNode pool ns numbers) (sym e.0) (far w v); right = subst (IsTermNode pool ns numbers) (sym e.1) (near w) }

  -- a route from a term has edges before its number, and their ends are terms
  pub route_ends : (before from to : ℕ) (route : List Join) → IsTermNode pool ns numbers from → IsPath ls before from route to → (c : ℕ) → IsOn route c → (c < before) × HasTermEnds pool ns ls numbers c
  route_ends before from to route t path c o =
      let q : IsPassed ls before from o.join = path_passed ls before from to route path o.position o.join o.found in
      (subst (λ i. i < before) o.is q.passage.early, subst (HasTermEnds pool ns ls numbers) o.is (passed_ends before from o.join t q))

  pub plan_each : (k : ℕ) (ds : List Difference) → IsPlan pool ns ls numbers k ds → (n : ℕ) (d : Difference) → slice_get ds n ≡ Some d → IsDifference pool ns ls numbers k d
  plan_each k ds p n d f = go p.link.why refl
    where
      go : (why : Why) → p.link.why ≡ why → IsDifference pool ns ls numbers k d
      go (Given q) e = absurd (let no : slice_get [] n ≡ Some d = subst (λ cs. slice_get cs n ≡ Some d) (p.none q e) f in (cc))
      go Alike e = let found = p.found e in found.each n d (subst (λ cs. slice_get cs n ≡ Some d) found.more f)

  plan_ends : (k : ℕ) (ds : List Difference) → IsPlan pool ns ls numbers k ds → (c : ℕ) → IsOnAny ds c → (c < k) × HasTermEnds pool ns ls numbers c
  plan_ends k ds p c o =
      let d = plan_each k ds p o.position o.difference o.found in
      route_ends k o.difference.from o.difference.to o.difference.route.items d.term d.path c o.on

  pub can_mark : (k : ℕ) (needed : List Bool) (ds : List Difference) → AreNeeded pool ns ls numbers needed → IsPlan pool ns ls numbers k ds → CanMark (length needed) (IsOnAny ds)
  can_mark k needed ds h p = record { each = λ c o. (let e = plan_ends k ds p c o in subst (λ n. c < n) (sym h.long) (slice_get_within ls c e.1.link e.1.is_link)) }

  pub needed_next : (k : ℕ) (old new : List Bool) (ds : List Difference) → AreNeeded pool ns ls numbers old → IsPlan pool ns ls numbers k ds → AreMarked (IsOnAny ds) old new → AreNeeded pool ns ls numbers new
  needed_next k old new ds h p m = record {
    long = m.long ∙ h.long;
    ends = λ c e. elim (m.only c e) [ inl o ↦ h.ends c o | inr o ↦ (plan_ends k ds p c o).1 ];
  }

  pub next_found : (k : ℕ) (old new : List Bool) (plan : Plan) → IsPlan pool ns ls numbers k plan.found.items → AreMarked (IsOnAny plan.found.items) old new → IsNextPlan pool ns ls numbers k old new plan
  next_found k old new plan p m = record {
    stays = m.stays;
    only = λ c e. elim (m.only c e) [ inl o ↦ inl o | inr o ↦ inr (plan_ends k plan.found.items p c o).0 ];
    plan = λ e. p;
    taken = λ c e o. ((plan_ends k plan.found.items p c o).0, m.marked c o);
  }

  pub next_none : (k : ℕ) (needed : List Bool) (plan : Plan) (b : Bool) → b ≡ is_needed needed k → b ≡ false → IsNextPlan pool ns ls numbers k needed needed plan
  next_none k needed plan b e f = record {
    stays = λ c h. h;
    only = λ c h. inl h;
    plan = λ h. absurd (no h);
    taken = λ c h o. absurd (no h);
  }
    where
      no : is_needed needed k ≡ true → ⊥
      no h = let both : false ≡ true = sym f ∙ e ∙ h in absurd (cc)

  -- ---- the plans, one edge after another

  pub plans_begun : (needed : List Bool) (plans : List Plan) (n : ℕ) → AreNeeded pool ns ls numbers needed → plans ≡ [] → n ≡ length ls → ArePlans pool ns ls numbers needed plans n
  plans_begun needed plans n h e same = record {
    needed_ends = h;
    one_each = (let l : length plans ≡ 0 = ap length e in omega (arith, l, same));
    each = λ k m p s f. absurd (let no : slice_get [] m ≡ Some p = subst (λ ps. slice_get ps m ≡ Some p) e f in (cc));
  }

  push_at : {X : Type 0} (xs : List X) (y x : X) (m : ℕ) → slice_get (xs ++ y ∷ []) m ≡ Some x → ((m < length xs) × (slice_get xs m ≡ Some x)) ⊎ ((m ≡ length xs) × (y ≡ x))
  push_at [] y x zero e = inr (refl, (cc))
  push_at [] y x (suc m) e = absurd (cc)
  push_at (z ∷ xs) y x zero e = inl ((omega arith), e)
  push_at (z ∷ xs) y x (suc m) e = elim (push_at xs y x m e) [ inl h ↦ inl ((let w = h.0 in omega arith), h.1) | inr h ↦ inr (ap suc h.0, h.1) ]

  pub plans_next : (rest next : ℕ) (old new : List Bool) (plans more : List Plan) (plan : Plan) → rest ≡ suc next → ArePlans pool ns ls numbers old plans rest → AreNeeded pool ns ls numbers new → IsNextPlan pool ns ls numbers next old new plan → more ≡ plans ++ plan ∷ [] → ArePlans pool ns ls numbers new more next
  plans_next rest next old new plans more plan down a h q is = record {
    needed_ends = h;
    one_each = (let l : length more ≡ length (plans ++ plan ∷ []) = ap length is in let m : length (plans ++ plan ∷ []) + next ≡ length ls = longer in omega (arith, l, m));
    each = λ k m p s f. go k m p s (push_at plans plan p m (subst (λ ps. slice_get ps m ≡ Some p) is f));
  }
    where
      longer : length (plans ++ plan ∷ []) + next ≡ length ls
      longer = let l : length (plans ++ plan ∷ []) ≡ length plans + 1 = length_push plans plan in let o = a.one_each in omega (arith, l, o, down)

      old_is : (k : ℕ) → next < k → is_needed new k ≡ true → is_needed old k ≡ true
      old_is k w e = elim (q.only k e) [ inl o ↦ o | inr l ↦ absurd (omega arith) ]

      last : (k : ℕ) (p : Plan) → k ≡ next → plan ≡ p → IsPlanOf pool ns ls numbers new k p
      last k p e s = subst (λ i. IsPlanOf pool ns ls numbers new i p) (sym e) (subst (IsPlanOf pool ns ls numbers new next) s (record {
        plan = λ n. q.plan (was n);
        taken = λ c n o. q.taken c (was n) o;
      }))
        where
          was : is_needed new next ≡ true → is_needed old next ≡ true
          was n = elim (q.only next n) [ inl o ↦ o | inr l ↦ absurd (omega arith) ]

      go : (k m : ℕ) (p : Plan) → m + suc k ≡ length ls → ((m < length plans) × (slice_get plans m ≡ Some p)) ⊎ ((m ≡ length plans) × (plan ≡ p)) → IsPlanOf pool ns ls numbers new k p
      go k m p s (inl f) =
          let before = a.each k m p s f.1 in
          let one = a.one_each in
          let less = f.0 in
          let above : next < k = omega (arith, one, less, down, s) in
          record { plan = λ n. before.plan (old_is k above n); taken = λ c n o. (let t = before.taken c (old_is k above n) o in (t.0, q.stays c t.1)) }
      go k m p s (inr f) =
          let one = a.one_each in
          let at = f.0 in
          last k p (omega (arith, one, at, down, s)) f.1
