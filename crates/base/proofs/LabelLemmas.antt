-- The steps of the labelling.
use Rattle.std.proofs.Common.{◌≡◌, ◌≢◌, ℕ, zero, suc, ◌<◌, ◌≤◌, ◌+◌, inl, inr, List, [], ◌∷◌, ◌++◌, length, get_or, set, replicate, true, false, Option, Some, None, refl, sym, ◌∙◌, ap, subst, arith}
use Rattle.std.proofs.lemmas.List.{get_or-set_other, get_or_past, length-set, length_push, length-replicate, get_or-replicate}
use Rattle.std.specs.Option.{is_some}
use Rattle.std.proofs.lemmas.Grind.{get_or-set_at}
use Rattle.std.proofs.lemmas.Bool.{cases_eq, cases_lt}
use Rattle.base.specs.GraphReachability.{IsEdge, Reaches, Here}
use Rattle.base.specs.Labelling.{label, IsAtLeast, NoneIsOpen, IsFrom, IsLabelling, unlabelled, waiting}
use Rattle.base.proofs.ReachLemmas.{reach_push}

pub label_same : (labels : List (Option ℕ)) (i j l : ℕ) → j ≡ i → i < length labels → label (set labels i (Some l)) j ≡ Some l
label_same labels i j l e h = get_or-set_at labels i j (Some l) None e h

pub label_other : (labels : List (Option ℕ)) (i j l : ℕ) → j ≢ i → label (set labels i (Some l)) j ≡ label labels j
label_other labels i j l n = get_or-set_other labels i j (Some l) None n

pub labelled_within : (labels : List (Option ℕ)) (i l : ℕ) → label labels i ≡ Some l → i < length labels
labelled_within labels i l h = elim (cases_lt i (length labels)) [
  | inl b ↦ b
  | inr b ↦ (let n = get_or_past labels i None b in absurd (cc))
]

-- a number keeps its label while another one gets its own
pub label_kept : (labels : List (Option ℕ)) (i j l m : ℕ) → label labels i ≡ None → label labels j ≡ Some m → label (set labels i (Some l)) j ≡ Some m
label_kept labels i j l m fresh h = label_other labels i j l (λ e. let g = ap (λ (x : ℕ). label labels x) e in cc) ∙ h

pub at_least_kept : (labels : List (Option ℕ)) (i j l least : ℕ) → label labels i ≡ None → IsAtLeast least (label labels j) → IsAtLeast least (label (set labels i (Some l)) j)
at_least_kept labels i j l least fresh h = (h.0, label_kept labels i j l h.0 fresh h.1, h.2)

-- ---- no labels

pub label_begin : (sources : List (List ℕ)) (order : List ℕ) → IsLabelling sources order (length order) (replicate (length sources) None) [] NoneIsOpen
label_begin sources order =
    let none : (i : ℕ) → label (replicate (length sources) None) i ≡ None = (λ i. elim (cases_lt i (length sources)) [
      | inl h ↦ get_or-replicate (length sources) i None None h
      | inr h ↦ get_or_past (replicate (length sources) None) i None (let q = length-replicate {A = Option ℕ} (length sources) None in omega arith)
    ]) in
    record {
      long = length-replicate (length sources) None;
      led = λ x l h. let n = none x in absurd (cc);
      pending = λ y i. absurd i;
      closed = λ y k l h b. let n = none y in absurd (cc);
      above = λ k a b. absurd (omega arith);
    }

-- ---- the number at the next index of the order

module _ (sources : List (List ℕ)) (order : List ℕ) (position : ℕ) (labels : List (Option ℕ)) (within : position < length order) (labelling : IsLabelling sources order (position + 1) labels [] NoneIsOpen) where
  pub label_skip : (l : ℕ) → label labels (get_or order position 0) ≡ Some l → IsLabelling sources order position labels [] NoneIsOpen
  label_skip l h = record {
    long = labelling.long;
    led = λ x m e. let p = labelling.led x m e in let p0 = p.0 in (omega arith, p.1, p.2);
    pending = λ y i. absurd i;
    closed = labelling.closed;
    above = λ k a b. elim (cases_eq k position) [
      | inl e ↦ (let p0 = (labelling.led (get_or order position 0) l h).0 in (l, ap (λ (x : ℕ). label labels (get_or order x 0)) e ∙ h, omega arith))
      | inr d ↦ labelling.above k (omega arith) b
    ];
  }

  pub label_root : get_or order position 0 < length sources → label labels (get_or order position 0) ≡ None → IsLabelling sources order position (set labels (get_or order position 0) (Some position)) (get_or order position 0 ∷ []) NoneIsOpen
  label_root n fresh =
      let root = get_or order position 0 in
      let long = labelling.long in
      let inside : get_or order position 0 < length labels = omega arith in
      let other : (x l : ℕ) → x ≢ get_or order position 0 → label (set labels (get_or order position 0) (Some position)) x ≡ Some l → label labels x ≡ Some l = (λ x l d h. sym (label_other labels (get_or order position 0) x position d) ∙ h) in
      record {
        long = length-set labels root (Some position) ∙ labelling.long;
        led = λ x l h. elim (cases_eq x root) [
          | inl e ↦ (let g = label_same labels root x position e inside in
              let s : l ≡ position = cc in
              (omega arith, omega arith, subst (λ (y : ℕ). Reaches sources (get_or order l 0) y) (ap (λ (y : ℕ). get_or order y 0) s ∙ sym e) Here))
          | inr d ↦ (let p = labelling.led x l (other x l d h) in let p0 = p.0 in (omega arith, p.1, p.2))
        ];
        pending = λ y i. elim i [ inl e ↦ label_same labels root y position e inside | inr o ↦ absurd o ];
        closed = λ y k l h b. elim (cases_eq y root) [
          | inl e ↦ inr (inl (inl e))
          | inr d ↦ elim (labelling.closed y k l (other y l d h) b) [
            | inl a ↦ inl (at_least_kept labels root _ position l fresh a)
            | inr o ↦ elim o [ inl i ↦ absurd i | inr i ↦ absurd i ]
          ]
        ];
        above = λ k a b. elim (cases_eq k position) [
          | inl e ↦ (position, label_same labels root (get_or order k 0) position (ap (λ (x : ℕ). get_or order x 0) e) inside, omega arith)
          | inr d ↦ at_least_kept labels root (get_or order k 0) position k fresh (labelling.above k (omega arith) b)
        ];
      }

-- ---- a number whose sources are labelled

module _ (sources : List (List ℕ)) (order : List ℕ) (position : ℕ) (labels : List (Option ℕ)) (node : ℕ) (work : List ℕ) where
  pub label_open : IsLabelling sources order position labels (node ∷ work) NoneIsOpen → IsLabelling sources order position labels work (IsFrom node 0)
  label_open labelling = record {
    long = labelling.long;
    led = labelling.led;
    pending = λ y i. labelling.pending y (inr i);
    closed = λ y k l h b. elim (labelling.closed y k l h b) [
      | inl a ↦ inl a
      | inr o ↦ elim o [
        | inl i ↦ elim i [ inl e ↦ inr (inr (e, omega arith)) | inr j ↦ inr (inl j) ]
        | inr n ↦ absurd n
      ]
    ];
    above = labelling.above;
  }

  pub label_close : (next : ℕ) → length (get_or sources node []) ≤ next → IsLabelling sources order position labels work (IsFrom node next) → IsLabelling sources order position labels work NoneIsOpen
  label_close next all labelling = record {
    long = labelling.long;
    led = labelling.led;
    pending = labelling.pending;
    closed = λ y k l h b. elim (labelling.closed y k l h b) [
      | inl a ↦ inl a
      | inr o ↦ elim o [
        | inl i ↦ inr (inl i)
        | inr n ↦ (let q = ap (λ (x : ℕ). length (get_or sources x [])) n.0 in let m = n.1 in absurd (omega arith))
      ]
    ];
    above = labelling.above;
  }

  pub label_pass : (next l : ℕ) → label labels node ≡ Some position → label labels (get_or (get_or sources node []) next 0) ≡ Some l → IsLabelling sources order position labels work (IsFrom node next) → IsLabelling sources order position labels work (IsFrom node (next + 1))
  label_pass next l own h labelling = record {
    long = labelling.long;
    led = labelling.led;
    pending = labelling.pending;
    closed = λ y k m g b. elim (labelling.closed y k m g b) [
      | inl a ↦ inl a
      | inr o ↦ elim o [
        | inl i ↦ inr (inl i)
        | inr n ↦ elim (cases_eq k next) [
          | inl e ↦ (let q = ap (λ (x : ℕ). label labels x) n.0 in
              let s : m ≡ position = cc in
              let p = (labelling.led _ l h).0 in
              inl (l, ap (λ (x : ℕ). label labels (get_or (get_or sources x []) k 0)) n.0 ∙ ap (λ (x : ℕ). label labels (get_or (get_or sources node []) x 0)) e ∙ h, omega arith))
          | inr d ↦ (let n1 = n.1 in inr (inr (n.0, omega arith)))
        ]
      ]
    ];
    above = labelling.above;
  }

  pub label_source : (next source : ℕ) → label labels node ≡ Some position → next < length (get_or sources node []) → get_or (get_or sources node []) next 0 ≡ source → source < length labels → label labels source ≡ None → IsLabelling sources order position labels work (IsFrom node next) → IsLabelling sources order position (set labels source (Some position)) (source ∷ work) (IsFrom node (next + 1))
  label_source next source own l is inside fresh labelling =
      let other : (x l : ℕ) → x ≢ source → label (set labels source (Some position)) x ≡ Some l → label labels x ≡ Some l = (λ x l d h. sym (label_other labels source x position d) ∙ h) in
      let mine = labelling.led node position own in
      let edge : IsEdge sources node source = (next, l, is) in
      record {
        long = length-set labels source (Some position) ∙ labelling.long;
        led = λ x l h. elim (cases_eq x source) [
          | inl e ↦ (let g = label_same labels source x position e inside in
              let s : l ≡ position = cc in
              let m1 = mine.1 in
              (omega arith, omega arith, subst (λ (y : ℕ). Reaches sources (get_or order l 0) y) (sym e) (subst (λ (y : ℕ). Reaches sources (get_or order y 0) source) (sym s) (reach_push mine.2 edge))))
          | inr d ↦ labelling.led x l (other x l d h)
        ];
        pending = λ y i. elim i [
          | inl e ↦ label_same labels source y position e inside
          | inr o ↦ label_kept labels source y position position fresh (labelling.pending y o)
        ];
        closed = λ y k m h b. elim (cases_eq y source) [
          | inl e ↦ inr (inl (inl e))
          | inr d ↦ elim (labelling.closed y k m (other y m d h) b) [
            | inl a ↦ inl (at_least_kept labels source _ position m fresh a)
            | inr o ↦ elim o [
              | inl i ↦ inr (inl (inr i))
              | inr n ↦ elim (cases_eq k next) [
                | inl e ↦ (let q = ap (λ (x : ℕ). label labels x) n.0 in
                    let g = other y m d h in
                    let s : m ≡ position = cc in
                    let at : get_or (get_or sources y []) k 0 ≡ source = ap (λ (x : ℕ). get_or (get_or sources x []) k 0) n.0 ∙ ap (λ (x : ℕ). get_or (get_or sources node []) x 0) e ∙ is in
                    inl (position, label_same labels source (get_or (get_or sources y []) k 0) position at inside, omega arith))
                | inr c ↦ (let n1 = n.1 in inr (inr (n.0, omega arith)))
              ]
            ]
          ]
        ];
        above = λ k a b. at_least_kept labels source (get_or order k 0) position k fresh (labelling.above k a b);
      }

-- ---- the measure

pub unlabelled_set : (labels : List (Option ℕ)) (i l : ℕ) → i < length labels → label labels i ≡ None → unlabelled (set labels i (Some l)) + 1 ≡ unlabelled labels
unlabelled_set [] i l h n = absurd (omega arith)
unlabelled_set (None ∷ labels) zero l h n = refl
unlabelled_set (Some m ∷ labels) zero l h n = absurd (cc)
unlabelled_set (None ∷ labels) (suc i) l h n = omega (arith, unlabelled_set labels i l (omega arith) n)
unlabelled_set (Some m ∷ labels) (suc i) l h n = unlabelled_set labels i l (omega arith) n

pub waiting_set : (labels : List (Option ℕ)) (work after : List ℕ) (i l : ℕ) → i < length labels → label labels i ≡ None → after ≡ work ++ i ∷ [] → waiting (set labels i (Some l)) after ≤ waiting labels work
waiting_set labels work after i l h n e =
    let p = length_push work i in
    let q = ap (λ (xs : List ℕ). length xs) e in
    omega (arith, unlabelled_set labels i l h n)

-- ---- the cases of a test

pub some_of : (found : Option ℕ) → is_some found ≡ true → (l : ℕ) × (found ≡ Some l)
some_of None h = absurd (cc)
some_of (Some l) h = (l, refl)

pub none_of : (found : Option ℕ) → is_some found ≡ false → found ≡ None
none_of None h = refl
none_of (Some l) h = absurd (cc)
