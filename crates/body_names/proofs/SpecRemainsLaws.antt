-- Lists whose items are added one after another: the added and the remaining items make up the whole.
use Rattle.std.proofs.Common.{◌≡◌, ℕ, suc, ◌+◌, ◌<◌, ◌≤◌, List, [], ◌∷◌, ◌++◌, length, get_or, drop, sym, ap, subst, ◌∙◌, arith, append_assoc, append-nil, add-one, drop-cons}
use Rattle.std.proofs.Math.ListN.{drop_of_length-le}
use Rattle.base.specs.declared.span.Span.{Span}
use Rattle.program.specs.Trees.{NoTrees}
use Rattle.program.specs.Listed.{AreSound, inner_all, indices, nodes_from_all}
use Rattle.body_names.specs.declared.spec.building.Building.{Building}
use Rattle.body_names.specs.SpecForms.{SpecTrees}
use Rattle.body_names.specs.Joined.{joined}
use Rattle.body_names.specs.SpecAdded.{AddedAll}
use Rattle.body_names.proofs.JoinedLaws.{joined-nodes, joined-indices, joined-size, joined-sound, first-sound, second-sound}

-- of the trees that are added from `old` on, whose indices are appended to `first`, `rest` remains to be added
pub record Remains (trees rest : SpecTrees) (spans more : List Span) (names others : List (List ℕ)) (old now : Building) (first parts : List ℕ) : Type 0 where
  pub sound : AreSound rest → AreSound trees
  pub needs : AreSound trees → AreSound rest
  pub parts_are : first ++ indices (length old.body.nodes) trees ≡ parts ++ indices (length now.body.nodes) rest
  pub count : length old.body.nodes + length (inner_all trees) ≡ length now.body.nodes + length (inner_all rest)
  pub nodes : old.body.nodes ++ nodes_from_all (length old.body.nodes) trees ≡ now.body.nodes ++ nodes_from_all (length now.body.nodes) rest
  pub spans_are : old.body.spans ++ spans ≡ now.body.spans ++ more
  pub variables : old.variables ++ names ≡ now.variables ++ others

-- some more are added
pub remains-less : {trees ts us : SpecTrees} {spans s more : List Span} {names k others : List (List ℕ)} {old now next : Building} {first parts new : List ℕ} → Remains trees (joined ts us) spans (s ++ more) names (k ++ others) old now first parts → AddedAll ts s k now next parts new → Remains trees us spans more names others old next first new
remains-less {trees} {ts} {us} {spans} {s} {more} {names} {k} {others} {old} {now} {next} {first} {parts} {new} r all =
    let c : ℕ = length now.body.nodes in
    let behind : c + length (inner_all ts) ≡ length next.body.nodes = sym all.count in
    record {
      sound = λ h. r.sound (joined-sound ts us all.sound h);
      needs = λ h. second-sound ts us (r.needs h);
      parts_are = r.parts_are ∙ ap (λ xs. parts ++ xs) (joined-indices c ts us) ∙ sym (append_assoc parts (indices c ts) (indices (c + length (inner_all ts)) us)) ∙ (λ i. sym all.parts_are i ++ indices (behind i) us);
      count = omega (arith, r.count, all.count, joined-size ts us);
      nodes = r.nodes ∙ ap (λ xs. now.body.nodes ++ xs) (joined-nodes c ts us) ∙ sym (append_assoc now.body.nodes (nodes_from_all c ts) (nodes_from_all (c + length (inner_all ts)) us)) ∙ (λ i. sym all.nodes i ++ nodes_from_all (behind i) us);
      spans_are = r.spans_are ∙ sym (append_assoc now.body.spans s more) ∙ ap (λ xs. xs ++ more) (sym all.spans_are);
      variables = r.variables ∙ sym (append_assoc now.variables k others) ∙ ap (λ xs. xs ++ others) (sym all.variables);
    }

-- nothing remains
pub remains-none : {trees : SpecTrees} {spans : List Span} {names : List (List ℕ)} {old now : Building} {first parts : List ℕ} → Remains trees NoTrees spans [] names [] old now first parts → AddedAll trees spans names old now first parts
remains-none {trees} {spans} {names} {old} {now} {first} {parts} r = record {
  sound = r.sound tt;
  parts_are = sym (r.parts_are ∙ append-nil parts);
  count = omega (arith, r.count);
  nodes = sym (r.nodes ∙ append-nil now.body.nodes);
  spans_are = sym (r.spans_are ∙ append-nil now.body.spans);
  variables = sym (r.variables ∙ append-nil now.variables);
}

-- Lists of items of one kind. Each item has its trees, given what precedes it, its spans and its names.
pub record Listing (S X : Type 0) : Type 0 where
  pub tree : S → X → SpecTrees
  pub trees : S → List X → SpecTrees
  pub next : S → X → S
  pub span : X → List Span
  pub spans : List X → List Span
  pub name : X → List (List ℕ)
  pub names : List X → List (List ℕ)

-- a list is its first item and the others
pub record IsListing {S X : Type 0} (l : Listing S X) : Type 0 where
  pub no_trees : (a : S) → l.trees a [] ≡ NoTrees
  pub more_trees : (a : S) (x : X) (xs : List X) → l.trees a (x ∷ xs) ≡ joined (l.tree a x) (l.trees (l.next a x) xs)
  pub no_spans : l.spans [] ≡ []
  pub more_spans : (x : X) (xs : List X) → l.spans (x ∷ xs) ≡ l.span x ++ l.spans xs
  pub no_names : l.names [] ≡ []
  pub more_names : (x : X) (xs : List X) → l.names (x ∷ xs) ≡ l.name x ++ l.names xs

-- the remaining items of a list
abbrev pub RemainsOf : {S X : Type 0} → Listing S X → S → S → List X → List X → Building → Building → List ℕ → List ℕ → Type 0
RemainsOf l a b xs rest old now first parts = Remains (l.trees a xs) (l.trees b rest) (l.spans xs) (l.spans rest) (l.names xs) (l.names rest) old now first parts

module _ {S X : Type 0} (l : Listing S X) (is : IsListing l) where
  cons : (a b : S) (xs rest : List X) (x : X) (more : List X) (old now : Building) (first parts : List ℕ) → rest ≡ x ∷ more → RemainsOf l a b xs rest old now first parts → Remains (l.trees a xs) (joined (l.tree b x) (l.trees (l.next b x) more)) (l.spans xs) (l.span x ++ l.spans more) (l.names xs) (l.name x ++ l.names more) old now first parts
  cons a b xs rest x more old now first parts e r =
      let P : SpecTrees → List Span → List (List ℕ) → Type 0 = λ ts ss ns. Remains (l.trees a xs) ts (l.spans xs) ss (l.names xs) ns old now first parts in
      let Q : List X → Type 0 = λ zs. P (l.trees b zs) (l.spans zs) (l.names zs) in
      let r1 : Q (x ∷ more) = subst Q e r in
      let r2 : P (joined (l.tree b x) (l.trees (l.next b x) more)) (l.spans (x ∷ more)) (l.names (x ∷ more)) = subst (λ ts. P ts (l.spans (x ∷ more)) (l.names (x ∷ more))) (is.more_trees b x more) r1 in
      let r3 : P (joined (l.tree b x) (l.trees (l.next b x) more)) (l.span x ++ l.spans more) (l.names (x ∷ more)) = subst (λ ss. P (joined (l.tree b x) (l.trees (l.next b x) more)) ss (l.names (x ∷ more))) (is.more_spans x more) r2 in
      subst (λ ns. P (joined (l.tree b x) (l.trees (l.next b x) more)) (l.span x ++ l.spans more) ns) (is.more_names x more) r3

  pub head-of : (xs : List X) (i : ℕ) (x : X) → i < length xs → x ≡ get_or xs i x → drop i xs ≡ x ∷ drop (i + 1) xs
  head-of xs i x h e =
      let f : drop i xs ≡ get_or xs i x ∷ drop (suc i) xs = drop-cons xs i x h in
      rw add-one (f ∙ ap (λ y. y ∷ drop (suc i) xs) (sym e))

  -- one more item of the list is added
  pub listed-less : (a b c : S) (xs : List X) (i : ℕ) (x : X) (old now new : Building) (first parts more : List ℕ) → i < length xs → x ≡ get_or xs i x → RemainsOf l a b xs (drop i xs) old now first parts → AddedAll (l.tree b x) (l.span x) (l.name x) now new parts more → l.next b x ≡ c → RemainsOf l a c xs (drop (i + 1) xs) old new first more
  listed-less a b c xs i x old now new first parts more h e r one f =
      let P : S → Type 0 = λ s. RemainsOf l a s xs (drop (i + 1) xs) old new first more in
      subst P f (remains-less (cons a b xs (drop i xs) x (drop (i + 1) xs) old now first parts (head-of xs i x h e) r) one)

  -- the remaining items are sound if all are
  pub listed-needs : (a b : S) (xs : List X) (i : ℕ) (x : X) (old now : Building) (first parts : List ℕ) → i < length xs → x ≡ get_or xs i x → RemainsOf l a b xs (drop i xs) old now first parts → AreSound (l.trees a xs) → AreSound (l.tree b x)
  listed-needs a b xs i x old now first parts h e r s = first-sound (l.tree b x) (l.trees (l.next b x) (drop (i + 1) xs)) ((cons a b xs (drop i xs) x (drop (i + 1) xs) old now first parts (head-of xs i x h e) r).needs s)

  -- the whole list is added
  pub listed-all : (a b : S) (xs : List X) (i : ℕ) (old now : Building) (first parts : List ℕ) → length xs ≤ i → RemainsOf l a b xs (drop i xs) old now first parts → AddedAll (l.trees a xs) (l.spans xs) (l.names xs) old now first parts
  listed-all a b xs i old now first parts h r =
      let P : SpecTrees → List Span → List (List ℕ) → Type 0 = λ ts ss ns. Remains (l.trees a xs) ts (l.spans xs) ss (l.names xs) ns old now first parts in
      let Q : List X → Type 0 = λ zs. P (l.trees b zs) (l.spans zs) (l.names zs) in
      let r1 : Q [] = subst Q (drop_of_length-le xs h) r in
      let r2 : P NoTrees (l.spans []) (l.names []) = subst (λ ts. P ts (l.spans []) (l.names [])) (is.no_trees b) r1 in
      let r3 : P NoTrees [] (l.names []) = subst (λ ss. P NoTrees ss (l.names [])) is.no_spans r2 in
      remains-none (subst (λ ns. P NoTrees [] ns) is.no_names r3)
