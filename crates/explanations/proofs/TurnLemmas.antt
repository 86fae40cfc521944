-- The forms of two nodes at a position.
use Rattle.std.proofs.Common.{◌≡◌, ◌≢◌, ◌⊎◌, inl, inr, ℕ, ◌<◌, ◌≤◌, Bool, true, false, MatchBool, get_or, List, length, take, Some, refl, sym, ap, ◌∙◌, subst, arith}
use Rattle.std.specs.Prelude.{slice_get}
use Rattle.std.proofs.lemmas.Option.{slice_get-get_or}
use Rattle.substitution.specs.Free.{free_in_term}
use Rattle.term_pool.specs.Items.{Item, TermSort, sort_of, term_in}
use Rattle.term_pool.specs.Pools.{item_at, IsMade, IsOneNumber}
use Rattle.term_pool.specs.declared.node.Leaf.{Leaf}
use Rattle.term_pool.specs.declared.node.Leaf.TheVariants.{Var, TypeParam}
use Rattle.term_pool.specs.declared.node.One.{One}
use Rattle.term_pool.specs.declared.node.One.TheVariants.{Not}
use Rattle.term_pool.specs.declared.node.Two.{Two}
use Rattle.term_pool.specs.declared.node.Three.{Three}
use Rattle.term_pool.specs.declared.node.Node.{Node}
use Rattle.term_pool.specs.declared.node.Node.TheVariants.{Leaf as LeafNode, One as OneNode, Two as TwoNode, Three as ThreeNode}
use Rattle.term_pool.proofs.ShapeLemmas.{a_term}
use Rattle.term_pool.specs.Free.{free_in_item}
use Rattle.certificates.specs.Joined.{IsFreeOf}
use Rattle.congruence_closure.specs.States.{IsPart}
use Rattle.congruence_closure.specs.Links.{Linked, AreAlike, AreAlikeAt}
use Rattle.congruence_closure.specs.declared.classes.link.Link.{Link}
use Rattle.explanations.specs.Frames.{bound_in, bound_on}
use Rattle.explanations.specs.declared.frame.Frame.{Frame}
use Rattle.congruence_closure.specs.Trees.{among}
use Rattle.congruence_closure.specs.Numbers.{number_at, renumbered, IsReal, IsNumbered, ByParts, Bound, Parameter}
use Rattle.congruence_closure.proofs.TreeLemmas.{clash}
use Rattle.congruence_closure.proofs.AlikeLemmas.{all_from}
use Rattle.explanations.specs.BoundNodes.{HasBound, FitsUnder, IsCaptured, IsUncaptured, IsLoose, IsTied}
use Rattle.explanations.specs.Graphs.{IsTermNode, IsGraph}
use Rattle.explanations.specs.Positions.{one_at, other_at, CanStand, IsPosition, AreFound, IsPushed, AreOne, AreTwo, AreThree, arity, HasOne, HasTwo, HasThree}
use Rattle.explanations.specs.declared.derived.difference.Position.{Position}
use Rattle.explanations.specs.declared.derived.replacing.Difference.{Difference}
use Rattle.explanations.proofs.BoundLemmas.{fits_only, fits_two, fits_three, leaf_made, bound_of_free, free_of_bound, bound_linked, open_linked}
use Rattle.explanations.proofs.PositionLemmas.{term_found}
use Rattle.explanations.proofs.LinkedLemmas.{same_node, IsPlain, IsOneOrAlike, parameter_linked, no_denied_parameter, term_or_plain, plain_linked}

pub tied_answer : (bound : List ℕ) (x : Item) → sort_of x ≢ TermSort → IsTied bound x
tied_answer bound x e = inl e

pub loose_answer : (bound : List ℕ) (x : Item) (b : Bool) → sort_of x ≡ TermSort → MatchBool b (IsUncaptured bound x) (IsCaptured bound x) → MatchBool b (IsLoose bound x) (IsTied bound x)
loose_answer bound x true e h = record { term = e; uncaptured = h }
loose_answer bound x false e h = inr h

pub when_true : (A B : Type 0) (b : Bool) → b ≡ true → MatchBool b A B → A
when_true A B true e m = m
when_true A B false e m = let both : true ≡ false = sym e in absurd (cc)

pub when_false : (A B : Type 0) (b : Bool) → b ≡ false → MatchBool b A B → B
when_false A B false e m = m
when_false A B true e m = let both : true ≡ false = e in absurd (cc)

module _ (pool ns : List Node) (ls : List Link) (numbers : List ℕ) (g : IsGraph pool ns ls numbers) where
  stand : (i p : ℕ) (n : Node) → CanStand pool ns numbers i → slice_get ns i ≡ Some n → p < length ns → number_at numbers p < number_at numbers i → IsReal pool ns numbers p → CanStand pool ns numbers p
  stand i p n c f w less real = record { node = w; number = (let h = c.number in omega (arith, h, less)); real = real }

  same_items : (i j : ℕ) (n : Node) → IsOneNumber pool → CanStand pool ns numbers i → CanStand pool ns numbers j → IsMade pool (number_at numbers i) n → IsMade pool (number_at numbers j) n → number_at numbers i ≡ number_at numbers j
  same_items i j n one c d m k = one.one (number_at numbers i) (number_at numbers j) c.number d.number (m.item ∙ sym k.item)

  -- a node of two or three parts has the number of their item
  record IsByParts (i : ℕ) (n : Node) : Type 0 where
    made : IsMade pool (number_at numbers i) (renumbered numbers n)
    real : (p : ℕ) → IsPart p n → IsReal pool ns numbers p

  by_parts : (i : ℕ) (n : Node) → i < length ns → slice_get ns i ≡ Some n → 2 ≤ arity n → IsByParts i n
  by_parts i n w f many = go (g.numbered i w)
    where
      go : IsNumbered pool ns numbers i → IsByParts i n
      go (ByParts m e made real) = subst (IsByParts i) (same_node (slice_get ns i) (slice_get ns i) m n refl e f) (record { made = made; real = real })
      go (Bound a k e param made) = absurd (let few : 2 ≤ arity (OneNode Not a) = subst (λ m. 2 ≤ arity m) (sym (same_node (slice_get ns i) (slice_get ns i) (OneNode Not a) n refl e f)) many in omega arith)
      go (Parameter k e) = absurd (let few : 2 ≤ arity (LeafNode (TypeParam k)) = subst (λ m. 2 ≤ arity m) (sym (same_node (slice_get ns i) (slice_get ns i) (LeafNode (TypeParam k)) n refl e f)) many in omega arith)

  module _ (before : ℕ) (p : Position) (one_number : IsOneNumber pool) (at : IsPosition pool ns numbers p) (differ : number_at numbers p.one ≢ number_at numbers p.other) (alike : AreAlikeAt ns (Linked (take before ls)) p.one p.other) where
    are_alike : (n m : Node) → slice_get ns p.one ≡ Some n → slice_get ns p.other ≡ Some m → AreAlike (Linked (take before ls)) n m
    are_alike n m f h =
        subst (λ x. AreAlike (Linked (take before ls)) x m) (same_node (slice_get ns p.one) (slice_get ns p.one) alike.one n refl alike.is_one f)
        (subst (AreAlike (Linked (take before ls)) alike.one) (same_node (slice_get ns p.other) (slice_get ns p.other) alike.other m refl alike.is_other h) alike.alike)

    pub no_leaves : (h k : Leaf) → slice_get ns p.one ≡ Some (LeafNode h) → slice_get ns p.other ≡ Some (LeafNode k) → ⊥
    no_leaves h k f e =
        let same : h ≡ k = are_alike (LeafNode h) (LeafNode k) f e in
        differ (same_items p.one p.other (LeafNode h) one_number at.one at.other (leaf_made pool ns ls numbers g p.one h at.one.node at.one.real f) (subst (λ o. IsMade pool (number_at numbers p.other) (LeafNode o)) (sym same) (leaf_made pool ns ls numbers g p.other k at.other.node at.other.real e)))

    pub made_one : (h k : One) (a x : ℕ) → slice_get ns p.one ≡ Some (OneNode h a) → slice_get ns p.other ≡ Some (OneNode k x) → AreOne pool ns ls numbers before p h a x
    made_one h k a x f e = go (g.numbered p.one at.one.node) (g.numbered p.other at.other.node)
      where
        both : (h ≡ k) × Linked (take before ls) a x
        both = are_alike (OneNode h a) (OneNode k x) f e

        one_is : (n : Node) → slice_get ns p.one ≡ Some n → n ≡ OneNode h a
        one_is n q = same_node (slice_get ns p.one) (slice_get ns p.one) n (OneNode h a) refl q f

        other_is : (n : Node) → slice_get ns p.other ≡ Some n → n ≡ OneNode k x
        other_is n q = same_node (slice_get ns p.other) (slice_get ns p.other) n (OneNode k x) refl q e

        denied : (o o2 : One) (b c : ℕ) → OneNode o b ≡ OneNode o2 c → (o ≡ o2) × (b ≡ c)
        denied o o2 b c q = ((cc), (cc))

        one_bound : (b n : ℕ) → slice_get ns p.one ≡ Some (OneNode Not b) → slice_get ns b ≡ Some (LeafNode (TypeParam n)) → (Not ≡ h) × (slice_get ns a ≡ Some (LeafNode (TypeParam n)))
        one_bound b n q param = let d = denied Not h b a (one_is (OneNode Not b) q) in (d.0, subst (λ i. slice_get ns i ≡ Some (LeafNode (TypeParam n))) d.1 param)

        other_bound : (b n : ℕ) → slice_get ns p.other ≡ Some (OneNode Not b) → slice_get ns b ≡ Some (LeafNode (TypeParam n)) → (Not ≡ k) × (slice_get ns x ≡ Some (LeafNode (TypeParam n)))
        other_bound b n q param = let d = denied Not k b x (other_is (OneNode Not b) q) in (d.0, subst (λ i. slice_get ns i ≡ Some (LeafNode (TypeParam n))) d.1 param)

        go : IsNumbered pool ns numbers p.one → IsNumbered pool ns numbers p.other → AreOne pool ns ls numbers before p h a x
        go (ByParts n q made real) (ByParts m r other_made other_real) =
            let one : IsMade pool (number_at numbers p.one) (OneNode h (number_at numbers a)) = subst (λ o. IsMade pool (number_at numbers p.one) (renumbered numbers o)) (one_is n q) made in
            let other : IsMade pool (number_at numbers p.other) (OneNode k (number_at numbers x)) = subst (λ o. IsMade pool (number_at numbers p.other) (renumbered numbers o)) (other_is m r) other_made in
            let one_real : IsReal pool ns numbers a = subst (λ o. (i : ℕ) → IsPart i o → IsReal pool ns numbers i) (one_is n q) real a refl in
            let is_real : IsReal pool ns numbers x = subst (λ o. (i : ℕ) → IsPart i o → IsReal pool ns numbers i) (other_is m r) other_real x refl in
            record {
              at = at;
              one = one;
              other = subst (λ o. IsMade pool (number_at numbers p.other) (OneNode o (number_at numbers x))) (sym both.0) other;
              part = record {
                one = stand p.one a (OneNode h a) at.one f (g.parts p.one (OneNode h a) f) one.parts.earlier one_real;
                other = stand p.other x (OneNode k x) at.other e (g.parts p.other (OneNode k x) e) other.parts.earlier is_real;
                one_fits = fits_only ns (bound_on p.way.items) p.one h a at.one_fits f;
                other_fits = fits_only ns (bound_on p.way.items) p.other k x at.other_fits e;
                linked = both.1;
              };
            }
        go (Bound b n q param made) (Bound c m r other_param other_made) =
            let param_a = (one_bound b n q param).1 in
            let param_x = (other_bound c m r other_param).1 in
            let moved : slice_get ns x ≡ Some (LeafNode (TypeParam n)) = (parameter_linked pool ns ls numbers g before n a x both.1).0 param_a in
            let leaves : LeafNode (TypeParam n) ≡ LeafNode (TypeParam m) = same_node (slice_get ns x) (slice_get ns x) (LeafNode (TypeParam n)) (LeafNode (TypeParam m)) refl moved param_x in
            let same : n ≡ m = cc in
            absurd (differ (same_items p.one p.other (LeafNode (Var n)) one_number at.one at.other made (subst (λ v. IsMade pool (number_at numbers p.other) (LeafNode (Var v))) (sym same) other_made)))
        go (ByParts n q made real) (Bound c m r other_param other_made) =
            let bound = other_bound c m r other_param in
            let param_a : slice_get ns a ≡ Some (LeafNode (TypeParam m)) = (parameter_linked pool ns ls numbers g before m a x both.1).1 bound.1 in
            absurd (no_denied_parameter pool ns ls numbers g (number_at numbers p.one) n made real a m (one_is n q ∙ ap (λ o. OneNode o a) (both.0 ∙ sym bound.0)) param_a)
        go (Bound b n q param made) (ByParts m r other_made other_real) =
            let bound = one_bound b n q param in
            let param_x : slice_get ns x ≡ Some (LeafNode (TypeParam n)) = (parameter_linked pool ns ls numbers g before n a x both.1).0 bound.1 in
            absurd (no_denied_parameter pool ns ls numbers g (number_at numbers p.other) m other_made other_real x n (other_is m r ∙ ap (λ o. OneNode o x) (sym both.0 ∙ sym bound.0)) param_x)
        go (Parameter n q) other = absurd (let no : LeafNode (TypeParam n) ≡ OneNode h a = one_is (LeafNode (TypeParam n)) q in (cc))
        go one (Parameter n q) = absurd (let no : LeafNode (TypeParam n) ≡ OneNode k x = other_is (LeafNode (TypeParam n)) q in (cc))

    pub made_two : (h k : Two) (ps xs : ℕ × ℕ) → slice_get ns p.one ≡ Some (TwoNode h ps.0 ps.1) → slice_get ns p.other ≡ Some (TwoNode k xs.0 xs.1) → AreTwo pool ns ls numbers before p h ps xs
    made_two h k ps xs f e =
        let both : (h ≡ k) × Linked (take before ls) ps.0 xs.0 × Linked (take before ls) ps.1 xs.1 = are_alike (TwoNode h ps.0 ps.1) (TwoNode k xs.0 xs.1) f e in
        let one : IsByParts p.one (TwoNode h ps.0 ps.1) = by_parts p.one (TwoNode h ps.0 ps.1) at.one.node f (omega arith) in
        let other : IsByParts p.other (TwoNode k xs.0 xs.1) = by_parts p.other (TwoNode k xs.0 xs.1) at.other.node e (omega arith) in
        let one_within = g.parts p.one (TwoNode h ps.0 ps.1) f in
        let other_within = g.parts p.other (TwoNode k xs.0 xs.1) e in
        let one_fit = fits_two ns (bound_on p.way.items) p.one h ps.0 ps.1 at.one_fits f in
        let other_fit = subst (λ o. FitsUnder ns (bound_in o (bound_on p.way.items)) xs.0 × FitsUnder ns (bound_in o (bound_on p.way.items)) xs.1) (sym both.0) (fits_two ns (bound_on p.way.items) p.other k xs.0 xs.1 at.other_fits e) in
        record {
          at = at;
          one = one.made;
          other = subst (λ o. IsMade pool (number_at numbers p.other) (TwoNode o (number_at numbers xs.0) (number_at numbers xs.1))) (sym both.0) other.made;
          first = record {
            one = stand p.one ps.0 (TwoNode h ps.0 ps.1) at.one f one_within.0 one.made.parts.0.earlier (one.real ps.0 (inl refl));
            other = stand p.other xs.0 (TwoNode k xs.0 xs.1) at.other e other_within.0 other.made.parts.0.earlier (other.real xs.0 (inl refl));
            one_fits = one_fit.0;
            other_fits = other_fit.0;
            linked = both.1;
          };
          second = record {
            one = stand p.one ps.1 (TwoNode h ps.0 ps.1) at.one f one_within.1 one.made.parts.1.earlier (one.real ps.1 (inr refl));
            other = stand p.other xs.1 (TwoNode k xs.0 xs.1) at.other e other_within.1 other.made.parts.1.earlier (other.real xs.1 (inr refl));
            one_fits = one_fit.1;
            other_fits = other_fit.1;
            linked = both.2;
          };
        }

    pub made_three : (h k : Three) (ps xs : ℕ × ℕ × ℕ) → slice_get ns p.one ≡ Some (ThreeNode h ps.0 ps.1 ps.2) → slice_get ns p.other ≡ Some (ThreeNode k xs.0 xs.1 xs.2) → AreThree pool ns ls numbers before p h ps xs
    made_three h k ps xs f e =
        let both : (h ≡ k) × Linked (take before ls) ps.0 xs.0 × Linked (take before ls) ps.1 xs.1 × Linked (take before ls) ps.2 xs.2 = are_alike (ThreeNode h ps.0 ps.1 ps.2) (ThreeNode k xs.0 xs.1 xs.2) f e in
        let one : IsByParts p.one (ThreeNode h ps.0 ps.1 ps.2) = by_parts p.one (ThreeNode h ps.0 ps.1 ps.2) at.one.node f (omega arith) in
        let other : IsByParts p.other (ThreeNode k xs.0 xs.1 xs.2) = by_parts p.other (ThreeNode k xs.0 xs.1 xs.2) at.other.node e (omega arith) in
        let one_within = g.parts p.one (ThreeNode h ps.0 ps.1 ps.2) f in
        let other_within = g.parts p.other (ThreeNode k xs.0 xs.1 xs.2) e in
        let one_fit = fits_three ns (bound_on p.way.items) p.one h ps.0 ps.1 ps.2 at.one_fits f in
        let other_fit = fits_three ns (bound_on p.way.items) p.other k xs.0 xs.1 xs.2 at.other_fits e in
        record {
          at = at;
          one = one.made;
          other = subst (λ o. IsMade pool (number_at numbers p.other) (ThreeNode o (number_at numbers xs.0) (number_at numbers xs.1) (number_at numbers xs.2))) (sym both.0) other.made;
          first = record {
            one = stand p.one ps.0 (ThreeNode h ps.0 ps.1 ps.2) at.one f one_within.0 one.made.parts.0.earlier (one.real ps.0 (inl refl));
            other = stand p.other xs.0 (ThreeNode k xs.0 xs.1 xs.2) at.other e other_within.0 other.made.parts.0.earlier (other.real xs.0 (inl refl));
            one_fits = one_fit.0;
            other_fits = other_fit.0;
            linked = both.1;
          };
          second = record {
            one = stand p.one ps.1 (ThreeNode h ps.0 ps.1 ps.2) at.one f one_within.1 one.made.parts.1.earlier (one.real ps.1 (inr (inl refl)));
            other = stand p.other xs.1 (ThreeNode k xs.0 xs.1 xs.2) at.other e other_within.1 other.made.parts.1.earlier (other.real xs.1 (inr (inl refl)));
            one_fits = one_fit.1;
            other_fits = other_fit.1;
            linked = both.2;
          };
          third = record {
            one = stand p.one ps.2 (ThreeNode h ps.0 ps.1 ps.2) at.one f one_within.2 one.made.parts.2.earlier (one.real ps.2 (inr (inr refl)));
            other = stand p.other xs.2 (ThreeNode k xs.0 xs.1 xs.2) at.other e other_within.2 other.made.parts.2.earlier (other.real xs.2 (inr (inr refl)));
            one_fits = one_fit.2;
            other_fits = other_fit.2;
            linked = both.3;
          };
        }

    pub not_unlike : (n m : Node) → slice_get ns p.one ≡ Some n → slice_get ns p.other ≡ Some m → (arity n ≡ arity m → arity n ≡ 0) → ⊥
    not_unlike (LeafNode h) (LeafNode k) f e u = no_leaves h k f e
    not_unlike (OneNode h a) (OneNode k x) f e u = absurd (let no : 1 ≡ 0 = u refl in omega arith)
    not_unlike (TwoNode h a b) (TwoNode k x y) f e u = absurd (let no : 2 ≡ 0 = u refl in omega arith)
    not_unlike (ThreeNode h a b c) (ThreeNode k x y z) f e u = absurd (let no : 3 ≡ 0 = u refl in omega arith)
    not_unlike n m f e u = are_alike n m f e

    -- in the form in which they were read

    read_node : (i : ℕ) (d n m : Node) → i < length ns → n ≡ get_or ns i d → n ≡ m → slice_get ns i ≡ Some m
    read_node i d n m w e h = slice_get-get_or ns i d w ∙ ap Some (sym e ∙ h)

    pub pair_one : (d n m : Node) (h : One) (a x : ℕ) → n ≡ get_or ns p.one d → m ≡ get_or ns p.other d → (n ≡ OneNode h a) × HasOne m x → AreOne pool ns ls numbers before p h a x
    pair_one d n m h a x e f pair = made_one h pair.1.head a x (read_node p.one d n (OneNode h a) at.one.node e pair.0) (read_node p.other d m (OneNode pair.1.head x) at.other.node f pair.1.is)

    pub pair_two : (d n m : Node) (h : Two) (ps xs : ℕ × ℕ) → n ≡ get_or ns p.one d → m ≡ get_or ns p.other d → (n ≡ TwoNode h ps.0 ps.1) × HasTwo m xs → AreTwo pool ns ls numbers before p h ps xs
    pair_two d n m h ps xs e f pair = made_two h pair.1.head ps xs (read_node p.one d n (TwoNode h ps.0 ps.1) at.one.node e pair.0) (read_node p.other d m (TwoNode pair.1.head xs.0 xs.1) at.other.node f pair.1.is)

    pub pair_three : (d n m : Node) (h : Three) (ps xs : ℕ × ℕ × ℕ) → n ≡ get_or ns p.one d → m ≡ get_or ns p.other d → (n ≡ ThreeNode h ps.0 ps.1 ps.2) × HasThree m xs → AreThree pool ns ls numbers before p h ps xs
    pair_three d n m h ps xs e f pair = made_three h pair.1.head ps xs (read_node p.one d n (ThreeNode h ps.0 ps.1 ps.2) at.one.node e pair.0) (read_node p.other d m (ThreeNode pair.1.head xs.0 xs.1 xs.2) at.other.node f pair.1.is)

    pub pair_unlike : (d n m : Node) → n ≡ get_or ns p.one d → m ≡ get_or ns p.other d → (arity n ≡ arity m → arity n ≡ 0) → ⊥
    pair_unlike d n m e f u = not_unlike n m (read_node p.one d n n at.one.node e refl) (read_node p.other d m m at.other.node f refl) u

  plainly : (before : ℕ) (p : Position) → number_at numbers p.one ≢ number_at numbers p.other → IsOneOrAlike ns ls before p.one p.other → AreAlikeAt ns (Linked (take before ls)) p.one p.other
  plainly before p differ (inl e) = absurd (differ (ap (number_at numbers) e))
  plainly before p differ (inr r) = r

  -- if the nodes are no terms, they are congruent
  alike_at : (before : ℕ) (p : Position) → IsPosition pool ns numbers p → Linked (take before ls) p.one p.other → number_at numbers p.one ≢ number_at numbers p.other → sort_of (item_at pool (number_at numbers p.one)) ≢ TermSort → AreAlikeAt ns (Linked (take before ls)) p.one p.other
  alike_at before p at linked differ none = go (term_or_plain pool ns ls numbers g p.one at.one.node)
    where
      go : IsTermNode pool ns numbers p.one ⊎ IsPlain ns p.one → AreAlikeAt ns (Linked (take before ls)) p.one p.other
      go (inl t) = absurd (none t.term.sort)
      go (inr q) = plainly before p differ ((plain_linked pool ns ls numbers g before p.one p.other linked).0 q).1

  -- the same if a variable is free that the context binds
  captured_alike : (before : ℕ) (p : Position) → IsPosition pool ns numbers p → Linked (take before ls) p.one p.other → number_at numbers p.one ≢ number_at numbers p.other → IsCaptured (bound_on p.way.items) (item_at pool (number_at numbers p.one)) → AreAlikeAt ns (Linked (take before ls)) p.one p.other
  captured_alike before p at linked differ c =
      let has : HasBound ns c.variable p.one = bound_of_free pool ns ls numbers g c.variable (bound_on p.way.items) p.one at.one_fits c.bound_there at.one.node at.one.real c.free in
      plainly before p differ (open_linked pool ns ls numbers g before c.variable p.one p.other linked has)

  -- in the form in which the number and the context were read
  pub tied_alike : (before : ℕ) (p : Position) (way : List Frame) (k : ℕ) → IsPosition pool ns numbers p → Linked (take before ls) p.one p.other → number_at numbers p.one ≢ number_at numbers p.other → way ≡ p.way.items → k ≡ number_at numbers p.one → IsTied (bound_on way) (item_at pool k) → AreAlikeAt ns (Linked (take before ls)) p.one p.other
  tied_alike before p way k at linked differ w e tied = go (subst (λ v. IsTied (bound_on v) (item_at pool (number_at numbers p.one))) w (subst (λ i. IsTied (bound_on way) (item_at pool i)) e tied))
    where
      go : IsTied (bound_on p.way.items) (item_at pool (number_at numbers p.one)) → AreAlikeAt ns (Linked (take before ls)) p.one p.other
      go (inl none) = alike_at before p at linked differ none
      go (inr c) = captured_alike before p at linked differ c

  -- ---- a term in which no variable is free that the context binds

  free_term : (bound : List ℕ) (x : Item) → sort_of x ≡ TermSort → IsUncaptured bound x → IsFreeOf bound (term_in x)
  free_term bound x e u = all_from (λ n. free_in_term n (term_in x) ≡ false) bound (λ n m. ap (free_in_item n) (a_term x e) ∙ u.each n m)

  -- the same for the nodes connected with it
  other_uncaptured : (before : ℕ) (p : Position) → IsPosition pool ns numbers p → Linked (take before ls) p.one p.other → IsUncaptured (bound_on p.way.items) (item_at pool (number_at numbers p.one)) → IsUncaptured (bound_on p.way.items) (item_at pool (number_at numbers p.other))
  other_uncaptured before p at linked u = record { each = λ n m. go n m (free_in_item n (item_at pool (number_at numbers p.other))) refl }
    where
      go : (n : ℕ) → among n (bound_on p.way.items) ≡ true → (b : Bool) → free_in_item n (item_at pool (number_at numbers p.other)) ≡ b → free_in_item n (item_at pool (number_at numbers p.other)) ≡ false
      go n m false e = e
      go n m true e =
          let there : HasBound ns n p.other = bound_of_free pool ns ls numbers g n (bound_on p.way.items) p.other at.other_fits m at.other.node at.other.real e in
          let here : HasBound ns n p.one = (bound_linked pool ns ls numbers g before n p.one p.other linked).1 there in
          clash (free_of_bound pool ns ls numbers g n p.one here at.one.node) (u.each n m)

  pub loose_found : (before : ℕ) (p : Position) (way : List Frame) (k : ℕ) (old new : List Difference) → IsPosition pool ns numbers p → Linked (take before ls) p.one p.other → way ≡ p.way.items → k ≡ number_at numbers p.one → IsLoose (bound_on way) (item_at pool k) → IsPushed ls before p old new → AreFound pool ns ls numbers before (one_at pool numbers p) (other_at pool numbers p) old new
  loose_found before p way k old new at linked w e loose pushed =
      let here : IsLoose (bound_on p.way.items) (item_at pool (number_at numbers p.one)) = subst (λ v. IsLoose (bound_on v) (item_at pool (number_at numbers p.one))) w (subst (λ i. IsLoose (bound_on way) (item_at pool i)) e loose) in
      let there : IsUncaptured (bound_on p.way.items) (item_at pool (number_at numbers p.other)) = other_uncaptured before p at linked here.uncaptured in
      term_found pool ns ls numbers before p old new at here.term
      (free_term (bound_on p.way.items) (item_at pool (number_at numbers p.one)) here.term here.uncaptured)
      (free_term (bound_on p.way.items) (item_at pool (number_at numbers p.other)) (at.same_sort ∙ here.term) there) pushed
