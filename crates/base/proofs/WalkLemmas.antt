-- The steps of the traversal: a number is opened, an edge is followed, a number is finished.
use Rattle.std.proofs.Common.{◌≡◌, ◌≢◌, ℕ, zero, suc, ◌<◌, ◌≤◌, ◌+◌, ◌⊎◌, inl, inr, List, [], ◌∷◌, ◌++◌, length, get_or, set, replicate, refl, sym, ◌∙◌, ap, subst, arith}
use Rattle.std.proofs.lemmas.List.{get_or-set_other, get_or_past, length-set, get_or_append_left, get_or_push, length_push, length-replicate, get_or-replicate}
use Rattle.std.proofs.lemmas.Grind.{get_or-set_at}
use Rattle.std.proofs.lemmas.Bool.{cases_eq, cases_lt}
use Rattle.base.specs.declared.cycles.walk.Mark.{Mark}
use Rattle.base.specs.declared.cycles.walk.Mark.TheVariants.{Unseen, Open, Finished}
use Rattle.base.specs.declared.cycles.walk.Visit.{Visit}
use Rattle.base.specs.GraphReachability.{IsEdge, Reaches, Here, Along}
use Rattle.base.specs.Walking.{mark, IsSeen, KeepsSeen, IsOn, LeadTo, IsPath, IsBefore, IsWalk, steps_unseen, left_unseen, left}
use Rattle.base.proofs.ReachLemmas.{reach_push}

pub mark_cases : (m : Mark) → (m ≡ Unseen) ⊎ ((m ≡ Open) ⊎ ((k : ℕ) × (m ≡ Finished k)))
mark_cases Unseen = inl refl
mark_cases Open = inr (inl refl)
mark_cases (Finished k) = inr (inr (k, refl))

pub mark_same : (marks : List Mark) (i j : ℕ) (m : Mark) → j ≡ i → i < length marks → mark (set marks i m) j ≡ m
mark_same marks i j m e h = get_or-set_at marks i j m Unseen e h

pub mark_other : (marks : List Mark) (i j : ℕ) (m : Mark) → j ≢ i → mark (set marks i m) j ≡ mark marks j
mark_other marks i j m n = get_or-set_other marks i j m Unseen n

pub seen_within : (marks : List Mark) (i : ℕ) → IsSeen marks i → i < length marks
seen_within marks i s = elim (cases_lt i (length marks)) [
  | inl h ↦ h
  | inr h ↦ absurd (s (get_or_past marks i Unseen h))
]

pub open_seen : (marks : List Mark) (i : ℕ) → mark marks i ≡ Open → IsSeen marks i
open_seen marks i h u = cc

pub seen_set : (marks : List Mark) (i : ℕ) (m : Mark) → m ≢ Unseen → KeepsSeen marks (set marks i m)
seen_set marks i m n j s = elim (cases_eq j i) [
  | inl e ↦ (λ u. let h : j < length marks = seen_within marks j s in n (sym (mark_same marks i j m e (omega arith)) ∙ u))
  | inr d ↦ (λ u. s (sym (mark_other marks i j m d) ∙ u))
]

pub on_open : (graph : List (List ℕ)) (marks : List Mark) (i : ℕ) (path : List Visit) → IsPath graph marks path → IsOn i path → mark marks i ≡ Open
on_open graph marks i [] h o = absurd o
on_open graph marks i (v ∷ path) h o = elim o [
  | inl e ↦ ap (λ (x : ℕ). mark marks x) e ∙ h.0
  | inr p ↦ on_open graph marks i path h.3 p
]

pub lead_off : (graph : List (List ℕ)) (u : ℕ) (path : List Visit) → LeadTo graph u path → IsOn u path → ⊥
lead_off graph u [] h o = o
lead_off graph u (v ∷ path) h o = elim o [ inl e ↦ h.0 (sym e) | inr p ↦ lead_off graph u path h.2 p ]

pub lead_on : (graph : List (List ℕ)) (u w : ℕ) (path : List Visit) → LeadTo graph u path → IsOn w path → Reaches graph w u
lead_on graph u w [] h o = absurd o
lead_on graph u w (v ∷ path) h o = elim o [
  | inl e ↦ subst (λ (x : ℕ). Reaches graph x u) (sym e) h.1
  | inr p ↦ lead_on graph u w path h.2 p
]

pub lead_more : (graph : List (List ℕ)) (u w : ℕ) (path : List Visit) → IsEdge graph u w → (IsOn w path → ⊥) → LeadTo graph u path → LeadTo graph w path
lead_more graph u w [] e off h = tt
lead_more graph u w (v ∷ path) e off h =
    ((λ q. off (inl (sym q))), reach_push h.1 e, lead_more graph u w path e (λ o. off (inr o)) h.2)

pub path_kept : (graph : List (List ℕ)) (marks : List Mark) (i : ℕ) (m : Mark) (path : List Visit) → m ≢ Unseen → (IsOn i path → ⊥) → IsPath graph marks path → IsPath graph (set marks i m) path
path_kept graph marks i m [] n off h = tt
path_kept graph marks i m (v ∷ path) n off h = (
  mark_other marks i v.node m (λ e. off (inl (sym e))) ∙ h.0,
  h.1,
  (λ k a b. seen_set marks i m n _ (h.2 k a b)),
  path_kept graph marks i m path n (λ o. off (inr o)) h.3,
)

pub path_advance : (graph : List (List ℕ)) (marks : List Mark) (u next : ℕ) (path : List Visit) → IsPath graph marks (record { node = u; next = next } ∷ path) → IsSeen marks (get_or (get_or graph u []) next 0) → IsPath graph marks (record { node = u; next = next + 1 } ∷ path)
path_advance graph marks u next path h s = (
  h.0,
  h.1,
  (λ k a b. elim (cases_lt k next) [
    | inl l ↦ h.2 k l b
    | inr g ↦ (let e : next ≡ k = omega arith in subst (λ (x : ℕ). IsSeen marks (get_or (get_or graph u []) x 0)) e s)
  ]),
  h.3,
)

-- ---- a number is opened

module _ (graph : List (List ℕ)) (marks : List Mark) (order : List ℕ) (path : List Visit) (v : ℕ) (within : v < length marks) (fresh : mark marks v ≡ Unseen) (walk : IsWalk graph marks order path) where
  not_on : IsOn v path → ⊥
  not_on o = let h = on_open graph marks v path walk.on_path o in cc

  other : (i : ℕ) (m : Mark) → mark (set marks v Open) i ≡ m → m ≢ Open → (i ≢ v) × (mark marks i ≡ m)
  other i m h n =
      let d : i ≢ v = (λ e. n (sym h ∙ mark_same marks v i Open e within)) in
      (d, sym (mark_other marks v i Open d) ∙ h)

  pub walk_opened : (after : List Visit) → IsPath graph (set marks v Open) after → ((i : ℕ) → (i ≡ v) ⊎ IsOn i path → IsOn i after) → IsWalk graph (set marks v Open) order after
  walk_opened after p on = record {
    long = length-set marks v Open ∙ walk.long;
    on_path = p;
    opened = λ i h. elim (cases_eq i v) [
      | inl e ↦ on i (inl e)
      | inr d ↦ on i (inr (walk.opened i (sym (mark_other marks v i Open d) ∙ h)))
    ];
    placed = λ i k h. walk.placed i k (other i (Finished k) h (λ e. cc)).1;
    ordered = λ k b. let f = walk.ordered k b in mark_other marks v (get_or order k 0) Open (λ e. let g = ap (λ (x : ℕ). mark marks x) e in cc) ∙ f;
    followed = λ i k j h e. seen_set marks v Open (λ q. cc) j (walk.followed i k j (other i (Finished k) h (λ q. cc)).1 e);
    reaching = λ x y w a c h e f l. elim (walk.reaching x y w a c (other x (Finished a) h (λ q. cc)).1 e (other w (Finished c) f (λ q. cc)).1 l) [
      | inl b ↦ inl (b.0, mark_other marks v y Open (λ q. let g = ap (λ (z : ℕ). mark marks z) q in let b1 = b.1 in cc) ∙ b.1, b.2)
      | inr r ↦ inr r
    ];
  }

-- ---- a number is finished

module _ (graph : List (List ℕ)) (marks : List Mark) (order : List ℕ) (u next : ℕ) (path : List Visit) (walk : IsWalk graph marks order (record { node = u; next = next } ∷ path)) (all : length (get_or graph u []) ≤ next) where
  is_open : mark marks u ≡ Open
  is_open = walk.on_path.0

  inside : u < length marks
  inside = seen_within marks u (open_seen marks u is_open)

  -- a number that was finished before
  old : (i k : ℕ) → i ≢ u → mark (set marks u (Finished (length order))) i ≡ Finished k → mark marks i ≡ Finished k
  old i k d h = sym (mark_other marks u i (Finished (length order)) d) ∙ h

  -- the number that is finished now
  now : (i k : ℕ) → i ≡ u → mark (set marks u (Finished (length order))) i ≡ Finished k → k ≡ length order
  now i k e h = let g = mark_same marks u i (Finished (length order)) e inside in cc

  -- a number that was finished before is another one, and keeps its mark
  stays : (i k : ℕ) → mark marks i ≡ Finished k → mark (set marks u (Finished (length order))) i ≡ Finished k
  stays i k h = mark_other marks u i (Finished (length order)) (λ e. let g = ap (λ (x : ℕ). mark marks x) e in let o = is_open in cc) ∙ h

  -- where an edge leads from a number that is finished now or before
  was_seen : (x v a : ℕ) → mark (set marks u (Finished (length order))) x ≡ Finished a → IsEdge graph x v → IsSeen marks v
  was_seen x v a h e = elim (cases_eq x u) [
    | inl q ↦ (let f : IsEdge graph u v = subst (λ (y : ℕ). IsEdge graph y v) q e in
        subst (λ (y : ℕ). IsSeen marks y) f.2 (walk.on_path.2 f.0 (let b = f.1 in omega arith) f.1))
    | inr d ↦ walk.followed x a v (old x a d h) e
  ]

  to_last : (v : ℕ) → IsSeen marks v → IsBefore (set marks u (Finished (length order))) v (length order) ⊎ Reaches graph v u
  to_last v s = elim (mark_cases (mark marks v)) [
    | inl h ↦ absurd (s h)
    | inr r ↦ elim r [
      | inl o ↦ elim (walk.opened v o) [
        | inl e ↦ inr (subst (λ (x : ℕ). Reaches graph x u) (sym e) Here)
        | inr p ↦ inr (lead_on graph u v path walk.on_path.1 p)
      ]
      | inr f ↦ inl (f.0, stays v f.0 f.1, (walk.placed v f.0 f.1).0)
    ]
  ]

  last_reaching : (x v w a c : ℕ) → mark (set marks u (Finished (length order))) x ≡ Finished a → IsEdge graph x v → mark (set marks u (Finished (length order))) w ≡ Finished c → a ≤ c → IsBefore (set marks u (Finished (length order))) v c ⊎ Reaches graph v w
  last_reaching x v w a c h e f l = elim (cases_eq w u) [
    | inl q ↦ (let n = now w c q f in
        elim (to_last v (was_seen x v a h e)) [
          | inl b ↦ inl (b.0, b.1, (let b2 = b.2 in omega arith))
          | inr r ↦ inr (subst (λ (y : ℕ). Reaches graph v y) (sym q) r)
        ])
    | inr d ↦ (let fw = old w c d f in
        let lt = (walk.placed w c fw).0 in
        elim (cases_eq x u) [
          | inl q ↦ (let n = now x a q h in absurd (omega arith))
          | inr g ↦ elim (walk.reaching x v w a c (old x a g h) e fw l) [
            | inl b ↦ inl (b.0, stays v b.0 b.1, b.2)
            | inr r ↦ inr r
          ]
        ])
  ]

  pub walk_finished : IsWalk graph (set marks u (Finished (length order))) (order ++ u ∷ []) path
  walk_finished = record {
    long = length-set marks u (Finished (length order)) ∙ walk.long;
    on_path = path_kept graph marks u (Finished (length order)) path (λ e. cc) (lead_off graph u path walk.on_path.1) walk.on_path.3;
    opened = λ i h. elim (cases_eq i u) [
      | inl e ↦ (let g = mark_same marks u i (Finished (length order)) e inside in absurd (cc))
      | inr d ↦ elim (walk.opened i (sym (mark_other marks u i (Finished (length order)) d) ∙ h)) [
        | inl e ↦ absurd (d e)
        | inr o ↦ o
      ]
    ];
    placed = λ i k h. elim (cases_eq i u) [
      | inl e ↦ (let n = now i k e h in
          ((let g = length_push order u in omega arith), get_or_push order u 0 k (sym n) ∙ sym e))
      | inr d ↦ (let p = walk.placed i k (old i k d h) in
          ((let g = length_push order u in let b = p.0 in omega arith), get_or_append_left order (u ∷ []) 0 k p.0 ∙ p.1))
    ];
    ordered = λ k b. elim (cases_lt k (length order)) [
      | inl l ↦ ap (λ (x : ℕ). mark (set marks u (Finished (length order))) x) (get_or_append_left order (u ∷ []) 0 k l) ∙ stays (get_or order k 0) k (walk.ordered k l)
      | inr g ↦ (let n : length order ≡ k = (let q = length_push order u in omega arith) in
          mark_same marks u (get_or (order ++ u ∷ []) k 0) (Finished (length order)) (get_or_push order u 0 k n) inside ∙ ap Finished n)
    ];
    followed = λ i k j h e. seen_set marks u (Finished (length order)) (λ q. cc) j (was_seen i j k h e);
    reaching = last_reaching;
  }

-- ---- the measure

pub left_set : (graph : List (List ℕ)) (marks : List Mark) (i : ℕ) (m : Mark) → length marks ≡ length graph → i < length marks → left_unseen graph (set marks i m) + steps_unseen (mark marks i) (get_or graph i []) ≡ left_unseen graph marks + steps_unseen m (get_or graph i [])
left_set [] marks i m e h = absurd (omega arith)
left_set (t ∷ graph) [] i m e h = absurd (omega arith)
left_set (t ∷ graph) (n ∷ marks) zero m e h = omega arith
left_set (t ∷ graph) (n ∷ marks) (suc i) m e h = omega (arith, left_set graph marks i m (omega arith) (omega arith))

-- ---- the steps, as the code takes them

pub walk_begin : (graph : List (List ℕ)) → IsWalk graph (replicate (length graph) Unseen) [] []
walk_begin graph =
    let none : (i : ℕ) → mark (replicate (length graph) Unseen) i ≡ Unseen = (λ i. elim (cases_lt i (length graph)) [
      | inl h ↦ get_or-replicate (length graph) i Unseen Unseen h
      | inr h ↦ get_or_past (replicate (length graph) Unseen) i Unseen (let q = length-replicate (length graph) Unseen in omega arith)
    ]) in
    record {
      long = length-replicate (length graph) Unseen;
      on_path = tt;
      opened = λ i h. let n = none i in absurd (cc);
      placed = λ i k h. let n = none i in absurd (cc);
      ordered = λ k b. absurd (omega arith);
      followed = λ i k j h e. let n = none i in absurd (cc);
      reaching = λ x v w a c h e f l. let n = none x in absurd (cc);
    }

pub walk_root : (graph : List (List ℕ)) (marks : List Mark) (order : List ℕ) (root : ℕ) (path : List Visit) → root < length graph → mark marks root ≡ Unseen → IsWalk graph marks order [] → path ≡ record { node = root; next = 0 } ∷ [] → IsWalk graph (set marks root Open) order path
walk_root graph marks order root path b fresh walk e =
    let w = walk.long in
    let within : root < length marks = omega arith in
    subst (λ (p : List Visit). IsWalk graph (set marks root Open) order p) (sym e)
    (walk_opened graph marks order [] root within fresh walk (record { node = root; next = 0 } ∷ [])
    (mark_same marks root root Open refl within, tt, (λ k a b. absurd (omega arith)), tt)
    (λ i o. o))

module _ (graph : List (List ℕ)) (marks : List Mark) (order : List ℕ) (visit : Visit) (path : List Visit) (walk : IsWalk graph marks order (visit ∷ path)) where
  pub step_within : visit.node < length marks
  step_within = seen_within marks visit.node (open_seen marks visit.node walk.on_path.0)

  pub finish_walk : (n : ℕ) (after : List ℕ) → length (get_or graph visit.node []) ≤ visit.next → n ≡ length order → after ≡ order ++ visit.node ∷ [] → IsWalk graph (set marks visit.node (Finished n)) after path
  finish_walk n after all e f =
      subst (λ (m : ℕ). IsWalk graph (set marks visit.node (Finished m)) after path) (sym e)
      (subst (λ (o : List ℕ). IsWalk graph (set marks visit.node (Finished (length order))) o path) (sym f)
      (walk_finished graph marks order visit.node visit.next path walk all))

  pub finish_less : (n : ℕ) → left graph (set marks visit.node (Finished n)) path < left graph marks (visit ∷ path)
  finish_less n =
      let w = walk.long in
      let b = step_within in
      let none = ap (λ (m : Mark). steps_unseen m (get_or graph visit.node [])) walk.on_path.0 in
      omega (arith, left_set graph marks visit.node (Finished n) walk.long step_within, none)

  pub advance_walk : (after : List Visit) → IsSeen marks (get_or (get_or graph visit.node []) visit.next 0) → after ≡ record { node = visit.node; next = visit.next + 1 } ∷ path → IsWalk graph marks order after
  advance_walk after s e =
      subst (λ (p : List Visit). IsWalk graph marks order p) (sym e) (record {
        long = walk.long;
        on_path = path_advance graph marks visit.node visit.next path walk.on_path s;
        opened = walk.opened;
        placed = walk.placed;
        ordered = walk.ordered;
        followed = walk.followed;
        reaching = walk.reaching;
      })

  pub advance_less : (after : List Visit) → visit.next < length (get_or graph visit.node []) → after ≡ record { node = visit.node; next = visit.next + 1 } ∷ path → left graph marks after < left graph marks (visit ∷ path)
  advance_less after l e = subst (λ (p : List Visit). left graph marks p < left graph marks (visit ∷ path)) (sym e) (omega arith)

  pub enter_walk : (target : ℕ) (after : List Visit) → visit.next < length (get_or graph visit.node []) → get_or (get_or graph visit.node []) visit.next 0 ≡ target → target < length marks → mark marks target ≡ Unseen → after ≡ record { node = target; next = 0 } ∷ record { node = visit.node; next = visit.next + 1 } ∷ path → IsWalk graph (set marks target Open) order after
  enter_walk target after l t within fresh e =
      let edge : IsEdge graph visit.node target = (visit.next, l, t) in
      let off : IsOn target (visit ∷ path) → ⊥ = not_on graph marks order (visit ∷ path) target within fresh walk in
      let same = mark_same marks target target Open refl within in
      let kept : IsPath graph (set marks target Open) (visit ∷ path) = path_kept graph marks target Open (visit ∷ path) (λ q. cc) off walk.on_path in
      let s : IsSeen (set marks target Open) (get_or (get_or graph visit.node []) visit.next 0) = subst (λ (x : ℕ). IsSeen (set marks target Open) x) (sym t) (open_seen (set marks target Open) target same) in
      subst (λ (p : List Visit). IsWalk graph (set marks target Open) order p) (sym e)
      (walk_opened graph marks order (visit ∷ path) target within fresh walk (record { node = target; next = 0 } ∷ record { node = visit.node; next = visit.next + 1 } ∷ path) (
        same,
        ((λ q. off (inl (sym q))), Along edge Here, lead_more graph visit.node target path edge (λ o. off (inr o)) walk.on_path.1),
        (λ k a b. absurd (omega arith)),
        path_advance graph (set marks target Open) visit.node visit.next path kept s,
      )
      (λ i o. o))

  pub enter_less : (target : ℕ) (after : List Visit) → visit.next < length (get_or graph visit.node []) → target < length marks → mark marks target ≡ Unseen → after ≡ record { node = target; next = 0 } ∷ record { node = visit.node; next = visit.next + 1 } ∷ path → left graph (set marks target Open) after < left graph marks (visit ∷ path)
  enter_less target after l within fresh e =
      let steps = ap (λ (m : Mark). steps_unseen m (get_or graph target [])) fresh in
      subst (λ (p : List Visit). left graph (set marks target Open) p < left graph marks (visit ∷ path)) (sym e)
      (omega (arith, left_set graph marks target Open walk.long within, steps))
