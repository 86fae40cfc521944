-- The walk along a route.
use Rattle.std.proofs.Common.{◌≡◌, inl, inr, ℕ, zero, suc, ◌<◌, List, [], ◌∷◌, length, take, get_or, Option, Some, None, Result, IfOk, refl, sym, ap, ◌∙◌, subst}
use Rattle.std.specs.Prelude.{slice_get}
use Rattle.std.proofs.lemmas.Option.{slice_get-get_or}
use Rattle.fol.specs.FormulaData.{EqFormula}
use Rattle.term_pool.specs.Items.{TermSort}
use Rattle.term_pool.specs.Pools.{HasPart, Extends}
use Rattle.term_pool.proofs.GrowthLemmas.{if_ok}
use Rattle.term_pool.specs.declared.node.Node.{Node}
use Rattle.certificates.specs.Due.{IsShallow}
use Rattle.explanations.specs.Chains.{term_at, ChainData, Keeps, IsAt, CanPutRight}
use Rattle.congruence_closure.specs.declared.proof_forest.Join.{Join}
use Rattle.congruence_closure.specs.Numbers.{number_at}
use Rattle.explanations.specs.Routes.{equation_at, IsEquation, IsEither, CanPass, end_of, IsRoute, CanGo, IsSingle}
use Rattle.explanations.proofs.GrowthLemmas.{equation_by, pass_grown}

pub end_nowhere : (i : ℕ) (route : List Join) → end_of i (take zero route) ≡ i
end_nowhere i [] = refl
end_nowhere i (join ∷ rest) = refl

-- the end so far is the near end of the next edge
pub route_near : (i : ℕ) (route : List Join) → IsRoute i route → (n : ℕ) (join : Join) → slice_get route n ≡ Some join → end_of i (take n route) ≡ join.near
route_near i [] r n join e = absurd (cc)
route_near i (first ∷ rest) r zero join e = let same : first ≡ join = cc in r.0 ∙ ap (λ (j : Join). j.near) same
route_near i (first ∷ rest) r (suc n) join e = route_near first.far rest r.1 n join e

-- and after it its far end
pub route_far : (i : ℕ) (route : List Join) (n : ℕ) (join : Join) → slice_get route n ≡ Some join → end_of i (take (suc n) route) ≡ join.far
route_far i [] n join e = absurd (cc)
route_far i (first ∷ rest) zero join e = let same : first ≡ join = cc in end_nowhere first.far rest ∙ ap (λ (j : Join). j.far) same
route_far i (first ∷ rest) (suc n) join e = route_far first.far rest n join e

-- the right side of the equation can be replaced
pub can_put : (ns : List Node) (d : ChainData) (left source equation from to : ℕ) → IsEquation ns d source left from → IsEither ns d equation from to → IsShallow (EqFormula (term_at ns left) (term_at ns to)) → CanPutRight ns d left (record { equation = equation; from = from; to = to }) source
can_put ns d left source equation from to s (inl h) shallow = record { equation = EqFormula (term_at ns from) (term_at ns to); is_equation = h.at; equates = inl refl; is_source = s.at; shallow = shallow }
can_put ns d left source equation from to s (inr h) shallow = record { equation = EqFormula (term_at ns to) (term_at ns from); is_equation = h.at; equates = inr refl; is_source = s.at; shallow = shallow }

same_position : (r : Option ℕ) (position equation : ℕ) → r ≡ Some position → r ≡ Some equation → position ≡ equation
same_position r position equation e f = let both : Some position ≡ Some equation = sym e ∙ f in (cc)

-- the equation of the passed edge
pub passed : (ns : List Node) (d : ChainData) (numbers : List ℕ) (equations : List (Option ℕ)) (left : ℕ) (join : Join) → (c : CanPass ns d numbers equations left join) → (r : Option ℕ) (equation : ℕ) → r ≡ equation_at equations join.link → r ≡ Some equation → IsEither ns d equation (number_at numbers join.near) (number_at numbers join.far)
passed ns d numbers equations left join c r equation e f =
    subst (λ position. IsEither ns d position (number_at numbers join.near) (number_at numbers join.far)) (same_position r c.position equation (e ∙ c.found) f) c.equation

pub no_equation : (ns : List Node) (d : ChainData) (numbers : List ℕ) (equations : List (Option ℕ)) (left : ℕ) (join : Join) → CanPass ns d numbers equations left join → (r : Option ℕ) → r ≡ equation_at equations join.link → r ≡ None → ⊥
no_equation ns d numbers equations left join c r e f = let both : None ≡ Some c.position = sym f ∙ e ∙ c.found in absurd (cc)

-- a route of one edge
pub single_either : (ns : List Node) (d : ChainData) (numbers : List ℕ) (equations : List (Option ℕ)) (from : ℕ) (route : List Join) (position : ℕ) → CanGo ns d numbers equations from route → IsSingle equations route position → IsEither ns d position (number_at numbers from) (number_at numbers (end_of from route))
single_either ns d numbers equations from route position g s =
    let go : CanGo ns d numbers equations from (s.join ∷ []) = subst (CanGo ns d numbers equations from) s.is g in
    let can : CanPass ns d numbers equations (number_at numbers from) s.join = go.pass 0 s.join refl in
    let at : IsEither ns d position (number_at numbers s.join.near) (number_at numbers s.join.far) = passed ns d numbers equations (number_at numbers from) s.join can (equation_at equations s.join.link) position refl s.found in
    let begun : IsEither ns d position (number_at numbers from) (number_at numbers s.join.far) = subst (λ i. IsEither ns d position (number_at numbers i) (number_at numbers s.join.far)) (sym go.leads.0) at in
    subst (λ r. IsEither ns d position (number_at numbers from) (number_at numbers (end_of from r))) (sym s.is) begun

-- ---- in the form of the calls

pub at_index : {X : Type 0} (xs : List X) (n : ℕ) (d x : X) → n < length xs → x ≡ get_or xs n d → slice_get xs n ≡ Some x
at_index xs n d x w e = slice_get-get_or xs n d w ∙ ap Some (sym e)

pub term_of : (ns : List Node) (left k : ℕ) → left ≡ k → HasPart ns (length ns) k TermSort → HasPart ns (length ns) left TermSort
term_of ns left k e p = subst (λ i. HasPart ns (length ns) i TermSort) (sym e) p

pub put_at : {E : Type 0} (ns ms : List Node) → Extends ns ms → (e : ChainData) (left to far : ℕ) → to ≡ far → HasPart ns (length ns) left TermSort → HasPart ns (length ns) far TermSort → (r : Result ℕ E) → IfOk r (λ position. IsAt ms e position (EqFormula (term_at ns left) (term_at ns to))) → IfOk r (λ position. IsEquation ms e position left far)
put_at ns ms x e left to far same p q r h = if_ok r (λ position g. equation_by ns ms x e position left far p q (subst (λ i. IsAt ms e position (EqFormula (term_at ns left) (term_at ns i))) same g)) h

pub begun_at : (ns ms : List Node) → Extends ns ms → (e : ChainData) (numbers : List ℕ) (position left from : ℕ) (route : List Join) → left ≡ number_at numbers from → HasPart ns (length ns) (number_at numbers from) TermSort → IsAt ms e position (EqFormula (term_at ns left) (term_at ns left)) → IsEquation ms e position left (number_at numbers (end_of from (take zero route)))
begun_at ns ms x e numbers position left from route same p h =
    let q : HasPart ns (length ns) left TermSort = term_of ns left (number_at numbers from) same p in
    subst (IsEquation ms e position left) (same ∙ ap (number_at numbers) (sym (end_nowhere from route))) (equation_by ns ms x e position left left q q h)

-- the source of the next edge, and its result
pub source_at : (ns : List Node) (d : ChainData) (numbers : List ℕ) (position left from : ℕ) (route : List Join) → IsRoute from route → (n : ℕ) (join : Join) → slice_get route n ≡ Some join → IsEquation ns d position left (number_at numbers (end_of from (take n route))) → IsEquation ns d position left (number_at numbers join.near)
source_at ns d numbers position left from route r n join f h = subst (λ i. IsEquation ns d position left (number_at numbers i)) (route_near from route r n join f) h

pub passed_at : (ns : List Node) (d : ChainData) (numbers : List ℕ) (position left from : ℕ) (route : List Join) (n m : ℕ) (join : Join) → slice_get route n ≡ Some join → m ≡ suc n → IsEquation ns d position left (number_at numbers join.far) → IsEquation ns d position left (number_at numbers (end_of from (take m route)))
passed_at ns d numbers position left from route n m join f s h = subst (λ i. IsEquation ns d position left (number_at numbers i)) (sym (route_far from route n join f) ∙ ap (λ k. end_of from (take k route)) (sym s)) h

pub pass_at : (ns ms : List Node) → Extends ns ms → (d e : ChainData) → Keeps d e → (numbers : List ℕ) (equations : List (Option ℕ)) (left from : ℕ) (route : List Join) → left ≡ number_at numbers from → CanGo ns d numbers equations from route → (n : ℕ) (join : Join) → slice_get route n ≡ Some join → CanPass ms e numbers equations left join
pass_at ns ms x d e k numbers equations left from route same g n join f =
    subst (λ i. CanPass ms e numbers equations i join) (sym same) (pass_grown ns ms x d e k numbers equations (number_at numbers from) join g.begins (g.pass n join f))
