-- The instances that clauses include are appended to the others, one after another.
use Rattle.std.proofs.Common.{◌≡◌, ℕ, ◌≤◌, ◌⊎◌, inl, inr, Bool, false, List, [], ◌∷◌, ◌++◌, length, Some, None, sym, ◌∙◌, ap, subst, arith}
use Rattle.std.specs.Prelude.{Contains, slice_get}
use Rattle.std.proofs.lemmas.Bool.{cases_lt}
use Rattle.std.proofs.lemmas.List.{append-nil, length-append}
use Rattle.std.proofs.lemmas.List.Elements.{Contains-append_left, Contains-push, Contains-push_cases}
use Rattle.std.proofs.lemmas.Option.{slice_get_within}
use Rattle.base.specs.declared.marked_cycles.edge.MarkedEdge.{MarkedEdge}
use Rattle.base.specs.MarkedCycles.{IsEdge}
use Rattle.type_check.specs.ClausesInstances.{Instance}
use Rattle.type_check.specs.Judged.{instance_of}
use Rattle.type_check.specs.declared.clauses.instance.Instance.{Instance as IncludedInstance}
use Rattle.type_check.specs.declared.clauses.judged.JudgedClause.{JudgedClause}
use Rattle.type_check.specs.Closed.{IsAny, Links}
use Rattle.type_check.specs.Closing.{Grows}
use Rattle.type_check.specs.Known.{IsPut}
use Rattle.type_check.specs.Leading.{edge}
use Rattle.type_check.proofs.KeyLaws.{last_there}
use Rattle.type_check.proofs.LevelLaws.{grows_not, grows_twice}
use Rattle.type_check.proofs.SchemasLists.{get_grown, get_old, some_inside}

none_contained : {A : Type 0} (x : A) → Contains [] x → ⊥
none_contained x c = let b = c.1 in omega arith

pub links_none : (known : List Instance) (edges : List MarkedEdge) (number : ℕ) → Links known known edges edges number []
links_none known edges number = record {
  grows = grows_not known;
  stays = λ n m marked e. e;
  only = λ n m marked e. inl e;
  all = λ one k c is. absurd (none_contained one c);
  added = λ n j le at. absurd (let within = slice_get_within known n j at in omega (arith, le, within));
}

pub links_same : (old new : List Instance) (before after : List MarkedEdge) (number : ℕ) (js ks : List JudgedClause) → js ≡ ks → Links old new before after number js → Links old new before after number ks
links_same old new before after number js ks e links = subst (λ (xs : List JudgedClause). Links old new before after number xs) e links

module _ (old : List Instance) (before : List MarkedEdge) (number : ℕ) (js : List JudgedClause) (one : JudgedClause) where
  any_more : (IsSo : JudgedClause → Type 0) → IsAny IsSo js → IsAny IsSo (js ++ one ∷ [])
  any_more IsSo w = (w.0, Contains-append_left js (one ∷ []) w.0 w.1, w.2)

  pub links_skip : (new : List Instance) (after : List MarkedEdge) → one.included ≡ None → Links old new before after number js → Links old new before after number (js ++ one ∷ [])
  links_skip new after none links = record {
    grows = links.grows;
    stays = links.stays;
    only = λ n m marked e. elim (links.only n m marked e) [
      | inl stood ↦ inl stood
      | inr w ↦ inr (w.0, w.1, any_more (λ x. (k : IncludedInstance) × (x.included ≡ Some k) × (slice_get new m ≡ Some (instance_of k))) w.2)
    ];
    all = λ x k c is. elim (Contains-push_cases js one x c) [
      | inl there ↦ links.all x k there is
      | inr same ↦ absurd (let e : None ≡ Some k = sym none ∙ ap (λ (y : JudgedClause). y.included) same ∙ is in cc)
    ];
    added = λ n j le at. any_more (λ x. (k : IncludedInstance) × (x.included ≡ Some k) × (instance_of k ≡ j)) (links.added n j le at);
  }

  module _ (mid new : List Instance) (between after : List MarkedEdge) (k : IncludedInstance) (to : ℕ) (is : one.included ≡ Some k) (put : IsPut mid new (instance_of k) to)
      (more : after ≡ between ++ edge number to false ∷ []) (links : Links old mid before between number js) where
    grows : Grows mid new
    grows = elim put.others [ inl same ↦ ([], same ∙ sym (append-nil mid)) | inr behind ↦ (instance_of k ∷ [], behind) ]

    stays : (n m : ℕ) (marked : Bool) → IsEdge between n m marked → IsEdge after n m marked
    stays n m marked e = subst (λ (es : List MarkedEdge). IsEdge es n m marked) (sym more) (Contains-append_left between (edge number to false ∷ []) (edge n m marked) e)

    only : (n m : ℕ) (marked : Bool) → IsEdge after n m marked
        → IsEdge before n m marked ⊎ ((n ≡ number) × (marked ≡ false) × IsAny (λ x. (k : IncludedInstance) × (x.included ≡ Some k) × (slice_get new m ≡ Some (instance_of k))) (js ++ one ∷ []))
    only n m marked e = elim (Contains-push_cases between (edge number to false) (edge n m marked) (subst (λ (es : List MarkedEdge). IsEdge es n m marked) more e)) [
      | inl there ↦ elim (links.only n m marked there) [
        | inl stood ↦ inl stood
        | inr w ↦
            let x = w.2 in
            inr (w.0, w.1, (x.0, Contains-append_left js (one ∷ []) x.0 x.1, (x.2.0, x.2.1, get_grown mid new grows.0 m (instance_of x.2.0) grows.1 x.2.2)))
      ]
      | inr same ↦ inr (
        ap (λ (y : MarkedEdge). y.from) (sym same),
        ap (λ (y : MarkedEdge). y.is_marked) (sym same),
        (one, Contains-push js one, (k, is, ap (λ (y : MarkedEdge). slice_get new y.to) (sym same) ∙ put.there)),
      )
    ]

    all : (x : JudgedClause) (l : IncludedInstance) → Contains (js ++ one ∷ []) x → x.included ≡ Some l → (m : ℕ) × ((slice_get new m ≡ Some (instance_of l)) × IsEdge after number m false)
    all x l c e = elim (Contains-push_cases js one x c) [
      | inl there ↦ (let r = links.all x l there e in (r.0, (get_grown mid new grows.0 r.0 (instance_of l) grows.1 r.1.0, stays number r.0 false r.1.1)))
      | inr same ↦
          let one_is : k ≡ l = some_inside k l (sym is ∙ ap (λ (y : JudgedClause). y.included) same ∙ e) in
          (to, (put.there ∙ ap (λ (y : IncludedInstance). Some (instance_of y)) one_is, subst (λ (es : List MarkedEdge). IsEdge es number to false) (sym more) (Contains-push between (edge number to false))))
    ]

    last_of : (n : ℕ) (j : Instance) → length mid ≤ n → slice_get new n ≡ Some j → (new ≡ mid) ⊎ (new ≡ mid ++ instance_of k ∷ []) → instance_of k ≡ j
    last_of n j le at (inl same) = absurd (let within = slice_get_within new n j at in let size = ap (λ (xs : List Instance). length xs) same in omega (arith, le, within, size))
    last_of n j le at (inr behind) =
        let stands : slice_get (mid ++ instance_of k ∷ []) n ≡ Some j = ap (λ (xs : List Instance). slice_get xs n) (sym behind) ∙ at in
        let within = slice_get_within (mid ++ instance_of k ∷ []) n j stands in
        let size = length-append mid (instance_of k ∷ []) in
        let here : n ≡ length mid = omega (arith, le, within, size) in
        some_inside (instance_of k) j (sym (last_there mid (instance_of k)) ∙ ap (λ (m : ℕ). slice_get (mid ++ instance_of k ∷ []) m) (sym here) ∙ stands)

    added : (n : ℕ) (j : Instance) → length old ≤ n → slice_get new n ≡ Some j → IsAny (λ x. (k : IncludedInstance) × (x.included ≡ Some k) × (instance_of k ≡ j)) (js ++ one ∷ [])
    added n j le at = elim (cases_lt n (length mid)) [
      | inl below ↦ any_more (λ x. (k : IncludedInstance) × (x.included ≡ Some k) × (instance_of k ≡ j)) (links.added n j le (get_old mid new grows.0 n j grows.1 below at))
      | inr over ↦ (one, Contains-push js one, (k, is, last_of n j (omega (arith, over)) at put.others))
    ]

    pub links_more : Links old new before after number (js ++ one ∷ [])
    links_more = record {
      grows = grows_twice old mid new links.grows grows;
      stays = λ n m marked e. stays n m marked (links.stays n m marked e);
      only = only;
      all = all;
      added = added;
    }
