-- Two numbers with an edge from one to the other and with the same root: each reaches the other.
use Rattle.std.proofs.Common.{◌≡◌, ℕ, ◌<◌, ◌≤◌, inl, inr, List, [], length, get_or, Option, Some, sym, ◌∙◌, ap, subst, arith}
use Rattle.std.proofs.lemmas.List.{get_or_past}
use Rattle.std.proofs.lemmas.Bool.{cases_lt}
use Rattle.base.specs.declared.cycles.walk.Mark.{Mark}
use Rattle.base.specs.declared.cycles.walk.Mark.TheVariants.{Finished}
use Rattle.base.specs.GraphReachability.{IsEdge, Reaches, Here, Along, AreMirrored, AreTogether}
use Rattle.base.specs.Walking.{mark, IsSeen, IsWalk}
use Rattle.base.specs.Labelling.{label, IsAtLeast, NoneIsOpen, IsLabelling}
use Rattle.base.proofs.ReachLemmas.{reach_join, reach_reversed}
use Rattle.base.proofs.WalkLemmas.{mark_cases}

module _ (graph sources : List (List ℕ)) (marks : List Mark) (order : List ℕ) (labels : List (Option ℕ)) (mirrored : AreMirrored graph sources) (walk : IsWalk graph marks order []) (seen : (i : ℕ) → i < length graph → IsSeen marks i) (labelling : IsLabelling sources order 0 labels [] NoneIsOpen) where
  -- each number is finished
  finished : (i : ℕ) → i < length graph → (k : ℕ) × (mark marks i ≡ Finished k)
  finished i b = elim (mark_cases (mark marks i)) [
    | inl h ↦ absurd (seen i b h)
    | inr r ↦ elim r [ inl o ↦ absurd (walk.opened i o) | inr f ↦ f ]
  ]

  -- the label of a number is no index before its own
  own : (i k : ℕ) → mark marks i ≡ Finished k → IsAtLeast k (label labels i)
  own i k f =
      let p = walk.placed i k f in
      subst (λ (x : ℕ). IsAtLeast k (label labels x)) p.1 (labelling.above k (omega arith) p.0)

  -- along an edge labels do not grow
  falls : (i j m : ℕ) → IsEdge graph i j → label labels j ≡ Some m → IsAtLeast m (label labels i)
  falls i j m e h =
      let t = mirrored.turned i j e in
      elim (labelling.closed j t.0 m h t.1) [
        | inl a ↦ subst (λ (x : ℕ). IsAtLeast m (label labels x)) t.2 a
        | inr o ↦ elim o [ inl n ↦ absurd n | inr n ↦ absurd n ]
      ]

  falls_along : {i j : ℕ} (m : ℕ) → Reaches graph i j → label labels j ≡ Some m → IsAtLeast m (label labels i)
  falls_along {i} {j} m Here h = (m, h, omega arith)
  falls_along {i} {j} m (Along {j = k} e p) h =
      let r = falls_along m p h in
      let s = falls i k r.0 e r.1 in
      let r2 = r.2 in
      let s2 = s.2 in
      (s.0, s.1, omega arith)

  -- the root reaches all numbers that are finished with or after this one and not after the root
  covered : {x r : ℕ} (q l a w c : ℕ) → Reaches graph x r → mark marks r ≡ Finished q → label labels x ≡ Some l → l ≤ q → mark marks x ≡ Finished a → mark marks w ≡ Finished c → a ≤ c → c ≤ q → Reaches graph r w
  covered {x} {r} q l a w c Here f h b g t low high =
      let n : a ≡ q = cc in
      let s : c ≡ q = omega arith in
      let same : r ≡ w = sym (walk.placed r q f).1 ∙ ap (λ (y : ℕ). get_or order y 0) (sym s) ∙ (walk.placed w c t).1 in
      subst (λ (y : ℕ). Reaches graph r y) same Here
  covered {x} {r} q l a w c (Along {j = y} e p) f h b g t low high =
      let within = mirrored.within x y e in
      let fy = finished y within in
      let oy = own y fy.0 fy.1 in
      let s = falls x y oy.0 e oy.1 in
      let s1 = s.1 in
      let s2 = s.2 in
      let o2 = oy.2 in
      let same : s.0 ≡ l = cc in
      let small : oy.0 ≤ q = omega arith in
      elim (walk.reaching x y w a c g e t low) [
        | inl before ↦ (let b1 = before.1 in let b2 = before.2 in let fy1 = fy.1 in
            let n : before.0 ≡ fy.0 = cc in
            covered q oy.0 fy.0 w c p f oy.1 small fy.1 t (omega arith) high)
        | inr r ↦ reach_join (covered q oy.0 fy.0 y fy.0 p f oy.1 small fy.1 fy.1 (omega arith) (omega arith)) r
      ]

  begins : (i j : ℕ) → IsEdge graph i j → i < length graph
  begins i j e = elim (cases_lt i (length graph)) [
    | inl h ↦ h
    | inr h ↦ (let n = ap (λ (xs : List ℕ). length xs) (get_or_past graph i [] h) in let b = e.1 in absurd (omega arith))
  ]

  pub same_root : (i j : ℕ) → IsEdge graph i j → label labels j ≡ label labels i → Reaches graph j i
  same_root i j e same =
      let f = finished i (begins i j e) in
      let o = own i f.0 f.1 in
      let led = labelling.led i o.0 o.1 in
      let root = walk.ordered o.0 led.1 in
      let up : Reaches graph i (get_or order o.0 0) = reach_reversed mirrored led.2 in
      let down : Reaches graph (get_or order o.0 0) i = covered o.0 o.0 f.0 i f.0 up root o.1 (omega arith) f.1 f.1 (omega arith) o.2 in
      reach_join (reach_reversed mirrored (labelling.led j o.0 (same ∙ o.1)).2) down

  pub cycle_root : (i j : ℕ) → IsEdge graph i j → Reaches graph j i → label labels j ≡ label labels i
  cycle_root i j e p =
      let f = finished i (begins i j e) in
      let o = own i f.0 f.1 in
      let r = falls_along o.0 p o.1 in
      let s = falls i j r.0 e r.1 in
      let o1 = o.1 in
      let s1 = s.1 in
      let r1 = r.1 in
      let r2 = r.2 in
      let s2 = s.2 in
      let n : s.0 ≡ o.0 = cc in
      let same : r.0 ≡ o.0 = omega arith in
      cc

  -- a number and the root at its label reach each other
  pub root_together : (i : ℕ) → i < length graph → (m : ℕ) × (label labels i ≡ Some m) × (m < length order) × AreTogether graph i (get_or order m 0)
  root_together i b =
      let f = finished i b in
      let o = own i f.0 f.1 in
      let led = labelling.led i o.0 o.1 in
      let root = walk.ordered o.0 led.1 in
      let up : Reaches graph i (get_or order o.0 0) = reach_reversed mirrored led.2 in
      let down : Reaches graph (get_or order o.0 0) i = covered o.0 o.0 f.0 i f.0 up root o.1 (omega arith) f.1 f.1 (omega arith) o.2 in
      (o.0, o.1, led.1, record { there = up; back = down })

  -- numbers that reach each other have the same label
  pub same_label : (i j : ℕ) → i < length graph → j < length graph → AreTogether graph i j → label labels i ≡ label labels j
  same_label i j b d h =
      let f = finished i b in
      let o = own i f.0 f.1 in
      let g = finished j d in
      let p = own j g.0 g.1 in
      let r = falls_along o.0 h.back o.1 in
      let s = falls_along p.0 h.there p.1 in
      let o1 = o.1 in
      let p1 = p.1 in
      let r1 = r.1 in
      let r2 = r.2 in
      let s1 = s.1 in
      let s2 = s.2 in
      let n : r.0 ≡ p.0 = cc in
      let k : s.0 ≡ o.0 = cc in
      let same : o.0 ≡ p.0 = omega arith in
      cc
