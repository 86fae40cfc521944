-- The equations of edges over a pool that is extended, and edges that are ready.
use Rattle.std.proofs.Common.{◌≡◌, ◌⊎◌, inl, inr, ℕ, zero, suc, ◌+◌, ◌<◌, ◌≤◌, max, Bool, true, false, List, [], ◌∷◌, ◌++◌, length, take, Option, Some, None, refl, sym, ap, ◌∙◌, subst, arith}
use Rattle.std.specs.Prelude.{slice_get}
use Rattle.std.proofs.lemmas.List.{length_push}
use Rattle.std.proofs.lemmas.Option.{slice_get_within}
use Rattle.fol.specs.Depth.{term_depth}
use Rattle.fol.specs.FormulaData.{EqFormula}
use Rattle.fol.specs.declared.operators.Comparison.TheVariants.{Eq}
use Rattle.certificates.specs.Closes.{most_deep}
use Rattle.term_pool.specs.Items.{Item, FormulaItem, TermSort, sort_of, term_in, formula_in, two_item}
use Rattle.term_pool.specs.Pools.{item_at, IsItem, IsOneNumber, HasPart, Extends}
use Rattle.term_pool.specs.declared.node.Two.TheVariants.{Compare}
use Rattle.term_pool.specs.declared.node.Node.{Node}
use Rattle.term_pool.proofs.ItemLemmas.{item_kept}
use Rattle.congruence_closure.specs.Links.{Linked}
use Rattle.congruence_closure.specs.declared.classes.link.Link.{Link}
use Rattle.congruence_closure.specs.declared.classes.link.Why.TheVariants.{Alike}
use Rattle.congruence_closure.specs.Histories.{AreEnds}
use Rattle.congruence_closure.specs.declared.proof_forest.Join.{Join}
use Rattle.congruence_closure.specs.Paths.{IsPassage, IsPath, Stays, Passes}
use Rattle.certificates.specs.BranchesBranch.{Branch}
use Rattle.explanations.specs.Chains.{term_at, ChainData, Keeps, IsAt, IsNotAmong, CanBegin}
use Rattle.explanations.proofs.FrameLemmas.{longer}
use Rattle.explanations.proofs.ChainLemmas.{push_kept, push_new}
use Rattle.congruence_closure.specs.Numbers.{number_at}
use Rattle.explanations.specs.Routes.{equation_at, IsEquation, IsEither, CanPass, end_of, IsRoute, CanGo}
use Rattle.explanations.specs.Replacing.{CanReplace, after_all, AreInTurn, itself_item, CanReplaceAll, CanBeginAll}
use Rattle.explanations.specs.Graphs.{IsTermNode, IsGraph}
use Rattle.explanations.specs.Positions.{AreFound, IsDifference}
use Rattle.explanations.specs.Plans.{is_needed, IsOn, IsOnAny, CanMark, AreMarked, equation_item, IsPlan, AreNeeded, IsPlanOf}
use Rattle.explanations.specs.Derivations.{HasEquation, AreSaid, HasPosition, ArePlaced, IsReady, IsNextReady, CanBeginAny, CanBeginNext, IsUnmarked}
use Rattle.explanations.specs.declared.derived.replacing.Difference.{Difference}
use Rattle.explanations.specs.declared.derived.plan.Plan.{Plan}
use Rattle.explanations.proofs.PlanLemmas.{plan_each, route_ends}
use Rattle.explanations.proofs.GrowthLemmas.{part_grown, equation_within, equation_by, equation_grown, begin_grown}
use Rattle.explanations.proofs.ReplacingLemmas.{replacement_grown, all_grown, turn_grown, only_equation}

-- ---- a pool that is extended

pub said_grown : (ns ms : List Node) → Extends ns ms → (d e : ChainData) → Keeps d e → (ls : List Link) (numbers : List ℕ) → AreSaid ns d ls numbers → AreSaid ms e ls numbers
said_grown ns ms x d e k ls numbers s = record { each = λ i q l f w. (let h = s.each i q l f w in record { position = h.position; is = equation_grown ns ms x d e k h.position (number_at numbers l.left) (number_at numbers l.right) h.is }) }

pub position_grown : (ns ms : List Node) → Extends ns ms → (d e : ChainData) → Keeps d e → (ls : List Link) (numbers : List ℕ) (equations : List (Option ℕ)) (c : ℕ) → HasPosition ns d ls numbers equations c → HasPosition ms e ls numbers equations c
position_grown ns ms x d e k ls numbers equations c h = record { position = h.position; found = h.found; is = λ l f. equation_grown ns ms x d e k h.position (number_at numbers l.left) (number_at numbers l.right) (h.is l f) }

equation_kept : (ns ms : List Node) (x : Extends ns ms) (l r : ℕ) → l < length ns → r < length ns → equation_item ms l r ≡ equation_item ns l r
equation_kept ns ms x l r w v = λ i. two_item (Compare Eq) (item_kept ns ms x l w i) (item_kept ns ms x r v i)

-- ---- routes of edges that have indices

ends_of : (ns : List Node) (d : ChainData) (numbers : List ℕ) (position : ℕ) (l : Link) (near far : ℕ) → AreEnds l near far → IsEquation ns d position (number_at numbers l.left) (number_at numbers l.right) → IsEither ns d position (number_at numbers near) (number_at numbers far)
ends_of ns d numbers position l near far (inl e) h = inl (subst (λ i. IsEquation ns d position (number_at numbers i) (number_at numbers far)) e.0 (subst (λ j. IsEquation ns d position (number_at numbers l.left) (number_at numbers j)) e.1 h))
ends_of ns d numbers position l near far (inr e) h = inr (subst (λ i. IsEquation ns d position (number_at numbers i) (number_at numbers near)) e.0 (subst (λ j. IsEquation ns d position (number_at numbers l.left) (number_at numbers j)) e.1 h))

far_within : (count : ℕ) (l : Link) (near far : ℕ) → AreEnds l near far → (l.left < count) × (l.right < count) → far < count
far_within count l near far (inl e) w = subst (λ i. i < count) e.1 w.1
far_within count l near far (inr e) w = subst (λ i. i < count) e.0 w.0

both_shallow : (m n : ℕ) → 1 + m ≤ most_deep → 1 + n ≤ most_deep → 1 + max m n ≤ most_deep
both_shallow m n h k = omega arith

far_sort : (ns : List Node) (d : ChainData) (position left right : ℕ) → IsEither ns d position left right → HasPart ns (length ns) right TermSort
far_sort ns d position left right (inl h) = h.right_term
far_sort ns d position left right (inr h) = h.left_term

module _ (ns ms nodes : List Node) (ls : List Link) (numbers : List ℕ) (g : IsGraph ns nodes ls numbers) (x : Extends ns ms) (d : ChainData) (equations : List (Option ℕ)) where
  -- the depth of a term over the larger pool
  low_kept : (i : ℕ) → i < length nodes → HasPart ms (length ms) (number_at numbers i) TermSort → 1 + term_depth (term_at ms (number_at numbers i)) ≤ most_deep
  low_kept i w p =
      let same : item_at ms (number_at numbers i) ≡ item_at ns (number_at numbers i) = item_kept ns ms x (number_at numbers i) (g.inside i w) in
      subst (λ (y : Item). 1 + term_depth (term_in y) ≤ most_deep) (sym same) (g.low i w (sym (ap sort_of same) ∙ p.sort))

  pass_by : (before from : ℕ) (join : Join) → HasPart ms (length ms) (number_at numbers from) TermSort → from < length nodes → IsPassage ls before join → HasPosition ms d ls numbers equations join.link → CanPass ms d numbers equations (number_at numbers from) join
  pass_by before from join p w passage h =
      let far : ℕ = number_at numbers join.far in
      let either : IsEither ms d h.position (number_at numbers join.near) (number_at numbers join.far) = ends_of ms d numbers h.position passage.link join.near join.far passage.ends (h.is passage.link passage.found) in
      let within : join.far < length nodes = far_within (length nodes) passage.link join.near join.far passage.ends (g.among join.link passage.link passage.found) in
      record {
        position = h.position;
        found = h.found;
        equation = either;
        shallow = both_shallow (term_depth (term_at ms (number_at numbers from))) (term_depth (term_at ms (number_at numbers join.far))) (low_kept from w p) (low_kept join.far within (far_sort ms d h.position (number_at numbers join.near) (number_at numbers join.far) either));
      }

  route_of : (before i j : ℕ) (route : List Join) → IsPath ls before i route j → IsRoute i route × (end_of i route ≡ j)
  route_of before _ _ _ (Stays i) = (tt, refl)
  route_of before _ _ _ (Passes join rest i j e p way) = let r = route_of before join.far j rest way in ((e, r.0), r.1)

  passes : (before i j : ℕ) (route : List Join) → IsPath ls before i route j → (n : ℕ) (join : Join) → slice_get route n ≡ Some join → IsPassage ls before join
  passes before _ _ _ (Stays i) n join f = absurd (cc)
  passes before _ _ _ (Passes first rest i j e p way) zero join f = let same : first ≡ join = cc in subst (IsPassage ls before) same p
  passes before _ _ _ (Passes first rest i j e p way) (suc n) join f = passes before first.far j rest way n join f

  pub go_by : (before from to : ℕ) (route : List Join) → HasPart ns (length ns) (number_at numbers from) TermSort → from < length nodes → IsPath ls before from route to → ((c : ℕ) → IsOn route c → HasPosition ms d ls numbers equations c) → CanGo ms d numbers equations from route
  go_by before from to route p w path positions = record {
    begins = part_grown ns ms x (number_at numbers from) TermSort p;
    leads = (route_of before from to route path).0;
    pass = λ n join f. pass_by before from join (part_grown ns ms x (number_at numbers from) TermSort p) w (passes before from to route path n join f) (positions join.link (record { position = n; join = join; found = f; is = refl }));
  }

  pub go_ends : (before from to : ℕ) (route : List Join) → IsPath ls before from route to → end_of from route ≡ to
  go_ends before from to route path = (route_of before from to route path).1

  pub replace_by : (k : ℕ) (difference : Difference) → IsDifference ns nodes ls numbers k difference → ((c : ℕ) → IsOn difference.route.items c → HasPosition ms d ls numbers equations c) → CanReplace ms d numbers equations difference
  replace_by k difference h positions = record {
    is = replacement_grown ns ms x numbers difference h.is;
    route = go_by k difference.from difference.to difference.route.items h.is.from_term h.within h.path positions;
    ends = go_ends k difference.from difference.to difference.route.items h.path;
  }

  -- the equations that an edge needs are there, so its equation can be derived
  pub ready : (k : ℕ) (ds : List Difference) (l : Link) → AreSaid ms d ls numbers → (p : IsPlan ns nodes ls numbers k ds) → l ≡ p.link → ((c : ℕ) → IsOnAny ds c → HasPosition ms d ls numbers equations c) → IsReady ms d numbers equations l ds
  ready k ds l said p same positions = subst (λ (o : Link). IsReady ms d numbers equations o ds) (sym same) (record {
    left = part_grown ns ms x (number_at numbers p.link.left) TermSort p.left.term;
    right = part_grown ns ms x (number_at numbers p.link.right) TermSort p.right.term;
    said = λ q w. said.each k q p.link p.is_link w;
    alike = λ w. replaced w;
    ends = λ w. ends w;
  })
    where
      left : ℕ
      left = number_at numbers p.link.left

      each : (n : ℕ) (c : Difference) → slice_get ds n ≡ Some c → IsDifference ns nodes ls numbers k c
      each n c f = plan_each ns nodes ls numbers g k ds p n c f

      itself_kept : itself_item ms (number_at numbers p.link.left) ≡ itself_item ns (number_at numbers p.link.left)
      itself_kept = equation_kept ns ms x (number_at numbers p.link.left) (number_at numbers p.link.left) p.left.term.earlier p.left.term.earlier

      turns : AreFound ns nodes ls numbers k (itself_item ns (number_at numbers p.link.left)) (equation_item ns (number_at numbers p.link.left) (number_at numbers p.link.right)) [] ds → AreInTurn ns numbers (itself_item ns (number_at numbers p.link.left)) ds
      turns f = subst (AreInTurn ns numbers (itself_item ns (number_at numbers p.link.left))) (sym f.more) f.in_turn

      replaced : p.link.why ≡ Alike → CanReplaceAll ms d numbers equations (number_at numbers p.link.left) ds
      replaced w = record {
        begins = part_grown ns ms x (number_at numbers p.link.left) TermSort p.left.term;
        in_turn = subst (λ y. AreInTurn ms numbers y ds) (sym itself_kept) (turn_grown ns ms x numbers (itself_item ns (number_at numbers p.link.left)) ds (λ n c f. (each n c f).is) (turns (p.found w)));
        each = λ n c f. replace_by k c (each n c f) (λ i o. positions i (record { position = n; difference = c; found = f; on = o }));
      }

      ends : p.link.why ≡ Alike → after_all ms numbers (itself_item ms (number_at numbers p.link.left)) ds ≡ equation_item ms (number_at numbers p.link.left) (number_at numbers p.link.right)
      ends w =
          let f = p.found w in
          ap (λ y. after_all ms numbers y ds) itself_kept
          ∙ all_grown ns ms x numbers (itself_item ns (number_at numbers p.link.left)) ds (λ n c e. (each n c e).is)
          ∙ ap (after_all ns numbers (itself_item ns (number_at numbers p.link.left))) f.more
          ∙ f.ends
          ∙ sym (equation_kept ns ms x (number_at numbers p.link.left) (number_at numbers p.link.right) p.left.term.earlier p.right.term.earlier)

-- ---- an equation that the explanation has

pub stands_at : (ns ms : List Node) → Extends ns ms → (d : ChainData) (position left right formula : ℕ) → HasPart ns (length ns) left TermSort → HasPart ns (length ns) right TermSort → IsItem ms formula (equation_item ns left right) → slice_get d.formulas position ≡ Some formula → IsEquation ms d position left right
stands_at ns ms x d position left right formula p q it f = equation_by ns ms x d position left right p q (record { number = formula; found = f; is = ap formula_in it.is })

pub not_said : (ns ms : List Node) → Extends ns ms → (d : ChainData) (left right formula : ℕ) → HasEquation ns d left right → IsOneNumber ms → IsItem ms formula (equation_item ns left right) → IsNotAmong d.formulas formula → ⊥
not_said ns ms x d left right formula h one it none =
    let at = h.is.at in
    let within : at.number < length ns = equation_within ns at.number (term_at ns left) (term_at ns right) at.is in
    let longer_pool = longer x in
    let item : item_at ms at.number ≡ FormulaItem (EqFormula (term_at ns left) (term_at ns right)) = item_kept ns ms x at.number within ∙ only_equation (item_at ns at.number) (term_at ns left) (term_at ns right) at.is in
    let same : at.number ≡ formula = one.one at.number formula (omega (arith, within, longer_pool)) it.within (item ∙ sym it.is) in
    none.none h.position (at.found ∙ ap Some same)

-- ---- in the form of the calls

pub has_read : (ns : List Node) (d : ChainData) (l r k m : ℕ) → l ≡ k → r ≡ m → HasEquation ns d k m → HasEquation ns d l r
has_read ns d l r k m e f h = subst (λ i. HasEquation ns d i r) (sym e) (subst (HasEquation ns d k) (sym f) h)

pub is_read : (ns : List Node) (d : ChainData) (position l r k m : ℕ) → l ≡ k → r ≡ m → IsEquation ns d position l r → IsEquation ns d position k m
is_read ns d position l r k m e f h = subst (λ i. IsEquation ns d position i m) e (subst (IsEquation ns d position l) f h)

pub became : (ns ms : List Node) → Extends ns ms → (e : ChainData) (numbers : List ℕ) (position left l r : ℕ) (ds : List Difference) → left ≡ l → HasPart ns (length ns) l TermSort → HasPart ns (length ns) r TermSort → after_all ns numbers (itself_item ns l) ds ≡ equation_item ns l r → IsAt ms e position (formula_in (after_all ns numbers (itself_item ns left) ds)) → IsEquation ms e position l r
became ns ms x e numbers position left l r ds same p q ends h =
    equation_by ns ms x e position l r p q (subst (λ y. IsAt ms e position (formula_in y)) (ap (λ i. after_all ns numbers (itself_item ns i) ds) same ∙ ends) h)

-- ---- edges, one after another

old_equation : (xs : List (Option ℕ)) (y : Option ℕ) (c position : ℕ) → equation_at xs c ≡ Some position → equation_at (xs ++ y ∷ []) c ≡ Some position
old_equation [] y c position e = absurd (cc)
old_equation (x ∷ xs) y zero position e = e
old_equation (x ∷ xs) y (suc c) position e = old_equation xs y c position e

new_equation : (xs : List (Option ℕ)) (y : Option ℕ) → equation_at (xs ++ y ∷ []) (length xs) ≡ y
new_equation [] y = refl
new_equation (x ∷ xs) y = new_equation xs y

-- the plan of the next edge, and the remaining ones
pub plan_next : (pool nodes : List Node) (ls : List Link) (numbers : List ℕ) (needed : List Bool) (all rest : List Plan) (plan : Plan) (done : ℕ) → all ≡ rest ++ plan ∷ [] → length all + done ≡ length ls → ((k m : ℕ) (p : Plan) → m + suc k ≡ length ls → slice_get all m ≡ Some p → IsPlanOf pool nodes ls numbers needed k p) → IsPlanOf pool nodes ls numbers needed done plan
plan_next pool nodes ls numbers needed all rest plan done is count each =
    let l : length (rest ++ plan ∷ []) ≡ length rest + 1 = length_push rest plan in
    let a : length all ≡ length (rest ++ plan ∷ []) = ap length is in
    each done (length rest) plan (omega (arith, l, a, count)) (subst (λ ps. slice_get ps (length rest) ≡ Some plan) (sym is) (push_new rest plan))

pub plans_left : (pool nodes : List Node) (ls : List Link) (numbers : List ℕ) (needed : List Bool) (all rest : List Plan) (plan : Plan) → all ≡ rest ++ plan ∷ [] → ((k m : ℕ) (p : Plan) → m + suc k ≡ length ls → slice_get all m ≡ Some p → IsPlanOf pool nodes ls numbers needed k p) → (k m : ℕ) (p : Plan) → m + suc k ≡ length ls → slice_get rest m ≡ Some p → IsPlanOf pool nodes ls numbers needed k p
plans_left pool nodes ls numbers needed all rest plan is each k m p s f = each k m p s (subst (λ ps. slice_get ps m ≡ Some p) (sym is) (push_kept rest plan p m f))

pub count_next : (all rest : List Plan) (plan : Plan) (xs ys : List (Option ℕ)) (y : Option ℕ) (n : ℕ) → all ≡ rest ++ plan ∷ [] → ys ≡ xs ++ y ∷ [] → length all + length xs ≡ n → length rest + length ys ≡ n
count_next all rest plan xs ys y n e f h =
    let a : length all ≡ length rest + 1 = ap length e ∙ length_push rest plan in
    let b : length ys ≡ length xs + 1 = ap length f ∙ length_push xs y in
    omega (arith, a, b, h)

-- the edges that a plan needs have indices
pub taken_placed : (pool nodes ms : List Node) (d : ChainData) (ls : List Link) (numbers : List ℕ) (needed : List Bool) (equations : List (Option ℕ)) (plan : Plan) → IsPlanOf pool nodes ls numbers needed (length equations) plan → is_needed needed (length equations) ≡ true → ArePlaced ms d ls numbers needed equations (length equations) → (c : ℕ) → IsOnAny plan.found.items c → HasPosition ms d ls numbers equations c
taken_placed pool nodes ms d ls numbers needed equations plan p n placed c o = let t = p.taken c n o in placed.each c t.0 t.1

more_placed : (ms ks : List Node) → Extends ms ks → (d e : ChainData) → Keeps d e → (ls : List Link) (numbers : List ℕ) (xs : List (Option ℕ)) (y : Option ℕ) (c : ℕ) → HasPosition ms d ls numbers xs c → HasPosition ks e ls numbers (xs ++ y ∷ []) c
more_placed ms ks x d e k ls numbers xs y c h = record { position = h.position; found = old_equation xs y c h.position h.found; is = λ l f. equation_grown ms ks x d e k h.position (number_at numbers l.left) (number_at numbers l.right) (h.is l f) }

below_or_last : (c n : ℕ) → c < n + 1 → (c < n) ⊎ (c ≡ n)
below_or_last zero zero h = inr refl
below_or_last zero (suc n) h = inl (omega arith)
below_or_last (suc c) zero h = absurd (omega arith)
below_or_last (suc c) (suc n) h = elim (below_or_last c n (omega arith)) [ inl l ↦ inl (omega arith) | inr e ↦ inr (ap suc e) ]

pub placed_next : (ms ks : List Node) → Extends ms ks → (d e : ChainData) → Keeps d e → (ls : List Link) (numbers : List ℕ) (needed : List Bool) (xs ys : List (Option ℕ)) (position : ℕ) (l m : Link) → ys ≡ xs ++ Some position ∷ [] → slice_get ls (length xs) ≡ Some l → m ≡ l → IsEquation ks e position (number_at numbers m.left) (number_at numbers m.right) → ArePlaced ms d ls numbers needed xs (length xs) → ArePlaced ks e ls numbers needed ys (length ys)
placed_next ms ks x d e k ls numbers needed xs ys position l m is found same equation placed = record { each = λ c w n. subst (λ zs. HasPosition ks e ls numbers zs c) (sym is) (go c n (below_or_last c (length xs) (subst (λ i. c < i) (ap length is ∙ length_push xs (Some position)) w))) }
  where
    go : (c : ℕ) → is_needed needed c ≡ true → (c < length xs) ⊎ (c ≡ length xs) → HasPosition ks e ls numbers (xs ++ Some position ∷ []) c
    go c n (inl w) = more_placed ms ks x d e k ls numbers xs (Some position) c (placed.each c w n)
    go c n (inr h) = subst (HasPosition ks e ls numbers (xs ++ Some position ∷ [])) (sym h) (record {
      position = position;
      found = new_equation xs (Some position);
      is = λ o f. (let both : m ≡ o = same ∙ one_link l o (sym found ∙ f) in subst (λ (i : Link). IsEquation ks e position (number_at numbers i.left) (number_at numbers i.right)) both equation);
    })
      where
        one_link : (a b : Link) → Some a ≡ Some b → a ≡ b
        one_link a b q = cc

pub placed_none : (ms : List Node) (d : ChainData) (ls : List Link) (numbers : List ℕ) (needed : List Bool) (xs ys : List (Option ℕ)) (b : Bool) → ys ≡ xs ++ None ∷ [] → b ≡ is_needed needed (length xs) → b ≡ false → ArePlaced ms d ls numbers needed xs (length xs) → ArePlaced ms d ls numbers needed ys (length ys)
placed_none ms d ls numbers needed xs ys b is e f placed = record { each = λ c w n. subst (λ zs. HasPosition ms d ls numbers zs c) (sym is) (go c n (below_or_last c (length xs) (subst (λ i. c < i) (ap length is ∙ length_push xs None) w))) }
  where
    go : (c : ℕ) → is_needed needed c ≡ true → (c < length xs) ⊎ (c ≡ length xs) → HasPosition ms d ls numbers (xs ++ None ∷ []) c
    go c n (inl w) = let h = placed.each c w n in record { position = h.position; found = old_equation xs None c h.position h.found; is = h.is }
    go c n (inr h) = absurd (let both : false ≡ true = sym f ∙ e ∙ ap (is_needed needed) (sym h) ∙ n in (cc))

-- the reflexivity axioms that are added
begin_all : (ns ms nodes : List Node) (x : Extends ns ms) (ls : List Link) (numbers : List ℕ) (g : IsGraph ns nodes ls numbers) (b : Branch) (d e : ChainData) → Keeps d e → (k : ℕ) (ds : List Difference) (p : IsPlan ns nodes ls numbers k ds) (l : Link) → l ≡ p.link → CanBeginAny ns nodes b d numbers → CanBeginAll ms b e numbers (number_at numbers l.left) ds
begin_all ns ms nodes x ls numbers g b d e k number ds p l same can = record {
  itself = subst (λ (o : Link). CanBegin b e (term_at ms (number_at numbers o.left))) (sym same) (begin_grown ns ms x b d e k (number_at numbers p.link.left) TermSort p.left.term (can.each p.link.left (g.among number p.link p.is_link).0 p.left));
  each = λ n c f. (let h = plan_each ns nodes ls numbers g number ds p n c f in begin_grown ns ms x b d e k (number_at numbers c.from) TermSort h.term.term (can.each c.from h.within h.term));
}

-- the next edge is ready if it is needed
pub next_ready : (ns ms nodes : List Node) (x : Extends ns ms) (ls : List Link) (numbers : List ℕ) (g : IsGraph ns nodes ls numbers) (d e : ChainData) → Keeps d e → AreSaid ns d ls numbers → (needed : List Bool) (equations : List (Option ℕ)) (plan : Plan) (found : List Difference) → found ≡ plan.found.items → IsPlanOf ns nodes ls numbers needed (length equations) plan → ArePlaced ms e ls numbers needed equations (length equations) → IsNextReady ms e ls numbers needed equations found
next_ready ns ms nodes x ls numbers g d e k said needed equations plan found same of placed = record {
  ready = λ n. (let p = of.plan n in record {
    link = p.link;
    is_link = p.is_link;
    ready = subst (IsReady ms e numbers equations p.link) (sym same) (ready ns ms nodes ls numbers g x e equations (length equations) plan.found.items p.link (said_grown ns ms x d e k ls numbers said) p refl (taken_placed ns nodes ms e ls numbers needed equations plan of n placed));
  });
}

one_link : (a b : Link) → Some a ≡ Some b → a ≡ b
one_link a b q = cc

pub next_begun : (ns ms nodes : List Node) (x : Extends ns ms) (ls : List Link) (numbers : List ℕ) (g : IsGraph ns nodes ls numbers) (b : Branch) (d e : ChainData) → Keeps d e → (needed : List Bool) (k : ℕ) (plan : Plan) (found : List Difference) → found ≡ plan.found.items → IsPlanOf ns nodes ls numbers needed k plan → CanBeginAny ns nodes b d numbers → CanBeginNext ms b e ls numbers needed k found
next_begun ns ms nodes x ls numbers g b d e keeps needed k plan found same of can = record { can = λ n l f. (let p = of.plan n in subst (CanBeginAll ms b e numbers (number_at numbers l.left)) (sym same) (begin_all ns ms nodes x ls numbers g b d e keeps k plan.found.items p l (one_link l p.link (sym f ∙ p.is_link)) can)) }

-- ---- the first marks

pub all_taken : {X : Type 0} (xs : List X) → take (length xs) xs ≡ xs
all_taken [] = refl
all_taken (y ∷ xs) = ap (λ ys. y ∷ ys) (all_taken xs)

pub whole_linked : (ls : List Link) (n i j : ℕ) → n ≡ length ls → Linked ls i j → Linked (take n ls) i j
whole_linked ls n i j e l = subst (λ k. Linked (take k ls) i j) (sym e) (subst (λ ks. Linked ks i j) (sym (all_taken ls)) l)

module _ (pool ns : List Node) (ls : List Link) (numbers : List ℕ) (g : IsGraph pool ns ls numbers) where
  pub first_marks : (before from to count : ℕ) (route : List Join) (needed : List Bool) (read : List Join) → read ≡ route → IsTermNode pool ns numbers from → IsPath ls before from route to → count ≡ length ls → IsUnmarked count needed → CanMark (length needed) (IsOn read)
  first_marks before from to count route needed read same t path e u = record { each = λ c o. (let h = route_ends pool ns ls numbers g before from to route t path c (subst (λ r. IsOn r c) same o) in subst (λ n. c < n) (sym (u.long ∙ e)) (slice_get_within ls c h.1.link h.1.is_link)) }

  pub first_needed : (before from to count : ℕ) (route : List Join) (old new : List Bool) (read : List Join) → read ≡ route → IsTermNode pool ns numbers from → IsPath ls before from route to → count ≡ length ls → IsUnmarked count old → AreMarked (IsOn read) old new → AreNeeded pool ns ls numbers new
  first_needed before from to count route old new read same t path e u m = record {
    long = m.long ∙ u.long ∙ e;
    ends = λ c n. elim (m.only c n) [ inl o ↦ absurd (let both : true ≡ false = sym o ∙ u.none c in (cc)) | inr o ↦ (route_ends pool ns ls numbers g before from to route t path c (subst (λ r. IsOn r c) same o)).1 ];
  }

-- ---- the next edge, as it was read

pub is_next : (needed : List Bool) (n k : ℕ) (b : Bool) → n ≡ k → b ≡ is_needed needed n → b ≡ true → is_needed needed k ≡ true
is_next needed n k b e f t = ap (is_needed needed) (sym e) ∙ sym f ∙ t

module _ (ns : List Node) (d : ChainData) (ls : List Link) (numbers : List ℕ) (needed : List Bool) (equations : List (Option ℕ)) (found : List Difference) (h : IsNextReady ns d ls numbers needed equations found) (is : is_needed needed (length equations) ≡ true) where
  same_link : (n : ℕ) (r : Option Link) (link : Link) → n ≡ length equations → r ≡ slice_get ls n → r ≡ Some link → (h.ready is).link ≡ link
  same_link n r link e f s = one_link (h.ready is).link link (sym (h.ready is).is_link ∙ ap (slice_get ls) (sym e) ∙ sym f ∙ s)

  pub link_ready : (n : ℕ) (r : Option Link) (link : Link) (read : List (Option ℕ)) → n ≡ length equations → r ≡ slice_get ls n → r ≡ Some link → read ≡ equations → IsReady ns d numbers read link found
  link_ready n r link read e f s same = subst (λ es. IsReady ns d numbers es link found) (sym same) (subst (λ (l : Link). IsReady ns d numbers equations l found) (same_link n r link e f s) (h.ready is).ready)

  pub link_found : (n : ℕ) (r : Option Link) (link : Link) → n ≡ length equations → r ≡ slice_get ls n → r ≡ Some link → slice_get ls (length equations) ≡ Some link
  link_found n r link e f s = (h.ready is).is_link ∙ ap Some (same_link n r link e f s)

  pub no_link : (n : ℕ) (r : Option Link) → n ≡ length equations → r ≡ slice_get ls n → r ≡ None → ⊥
  no_link n r e f s = let both : None ≡ Some (h.ready is).link = sym s ∙ f ∙ ap (slice_get ls) e ∙ (h.ready is).is_link in absurd (cc)

-- ---- the route from the one node to the other

pub positions_read : (ms : List Node) (d : ChainData) (ls : List Link) (numbers : List ℕ) (needed : List Bool) (xs ys : List (Option ℕ)) (count : ℕ) → ys ≡ xs → ArePlaced ms d ls numbers needed xs count → ArePlaced ms d ls numbers needed ys count
positions_read ms d ls numbers needed xs ys count same placed = subst (λ zs. ArePlaced ms d ls numbers needed zs count) (sym same) placed

pub way_goes : (ns ms nodes : List Node) (ls : List Link) (numbers : List ℕ) (g : IsGraph ns nodes ls numbers) (x : Extends ns ms) (d : ChainData) (equations : List (Option ℕ)) (before from to : ℕ) (route way : List Join) (old first last read : List Bool) → way ≡ route → IsTermNode ns nodes numbers from → from < length nodes → IsPath ls before from route to → AreMarked (IsOn way) old first → ((k : ℕ) → is_needed first k ≡ true → is_needed last k ≡ true) → read ≡ last → ArePlaced ms d ls numbers read equations (length ls) → CanGo ms d numbers equations from way
way_goes ns ms nodes ls numbers g x d equations before from to route way old first last read same t w path marked stays e placed =
    subst (CanGo ms d numbers equations from) (sym same) (go_by ns ms nodes ls numbers g x d equations before from to route t.term w path positions)
  where
    positions : (c : ℕ) → IsOn route c → HasPosition ms d ls numbers equations c
    positions c o =
        let h = route_ends ns nodes ls numbers g before from to route t path c o in
        let on : IsOn way c = subst (λ r. IsOn r c) (sym same) o in
        placed.each c (slice_get_within ls c h.1.link h.1.is_link) (subst (λ bs. is_needed bs c ≡ true) (sym e) (stays c (marked.marked c on)))

path_ends : (ls : List Link) (before i j : ℕ) (route : List Join) → IsPath ls before i route j → end_of i route ≡ j
path_ends ls before _ _ _ (Stays i) = refl
path_ends ls before _ _ _ (Passes join rest i j e p way) = path_ends ls before join.far j rest way

pub way_ends : (ls : List Link) (before from to : ℕ) (route way : List Join) → way ≡ route → IsPath ls before from route to → end_of from way ≡ to
way_ends ls before from to route way same path = ap (end_of from) same ∙ path_ends ls before from to route path
