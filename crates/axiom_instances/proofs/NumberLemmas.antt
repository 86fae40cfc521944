-- Numbers of terms and of their parts, in a pool that is extended.
use Rattle.std.proofs.Common.{◌≡◌, ℕ, ◌<◌, true, List, [], ◌∷◌, ◌++◌, length, sym, ap, ◌∙◌, arith}
use Rattle.std.proofs.lemmas.Option.{slice_get_within}
use Rattle.base.specs.declared.types.Width.{Width}
use Rattle.fol.specs.declared.operators.Unary.{Unary}
use Rattle.fol.specs.declared.operators.Binary.{Binary}
use Rattle.fol.specs.declared.operators.Ternary.{Ternary}
use Rattle.fol.specs.FormulaData.{TermData, BinaryTerm}
use Rattle.term_pool.specs.Items.{Item, TermItem, TermsItem, TermSort, TermsSort, TypeSort, term_in}
use Rattle.term_pool.specs.Pools.{item_at, HasPart, IsItem, IsMade, Extends}
use Rattle.term_pool.specs.declared.node.One.TheVariants.{Unary as UnaryHead}
use Rattle.term_pool.specs.declared.node.Two.TheVariants.{Binary as BinaryHead, Pack as PackHead}
use Rattle.term_pool.specs.declared.node.Three.TheVariants.{Ternary as TernaryHead, If as IfHead, SetField as SetFieldHead}
use Rattle.term_pool.specs.declared.node.Node.{Node}
use Rattle.term_pool.specs.declared.node.Node.TheVariants.{One as OneNode, Two as TwoNode, Three as ThreeNode}
use Rattle.term_pool.proofs.ShapeLemmas.{a_term, a_list_of_terms, a_formula, a_type}
use Rattle.term_pool.proofs.GrowthLemmas.{item_stays}
use Rattle.axiom_instances.specs.declared.triggered.TriggeredAxiom.{TriggeredAxiom}
use Rattle.axiom_instances.specs.declared.triggered.TriggeredTerms.TheVariants.{One}
use Rattle.axiom_instances.specs.Lists.{Triggered, AreTerms, OfOne, Adds}
use Rattle.axiom_instances.specs.Numbers.{IsTermNumber, IsTypeNumber, term_at, terms_at, IsUnary, IsBinary, IsTernary, IsIf, IsPack, IsSetField}
use Rattle.axiom_instances.specs.Rows.{bits_row, whole_row, whole_rows, gives_whole}
use Rattle.axiom_instances.specs.Templates.{AreItems, NoItems, MoreItems}
use Rattle.axiom_instances.proofs.ListLemmas.{adds_then, adds_as}

-- ---- given items

pub given_1 : {ns : List Node} {i : ℕ} {x : Item} → IsItem ns i x → AreItems ns (i ∷ []) (x ∷ [])
given_1 h = MoreItems _ _ [] [] h NoItems

pub given_2 : {ns : List Node} {i j : ℕ} {x y : Item} → IsItem ns i x → IsItem ns j y → AreItems ns (i ∷ j ∷ []) (x ∷ y ∷ [])
given_2 h k = MoreItems _ _ _ _ h (given_1 k)

pub given_3 : {ns : List Node} {i j k : ℕ} {x y z : Item} → IsItem ns i x → IsItem ns j y → IsItem ns k z → AreItems ns (i ∷ j ∷ k ∷ []) (x ∷ y ∷ z ∷ [])
given_3 h k l = MoreItems _ _ _ _ h (given_2 k l)

pub given_4 : {ns : List Node} {i j k l : ℕ} {x y z w : Item} → IsItem ns i x → IsItem ns j y → IsItem ns k z → IsItem ns l w → AreItems ns (i ∷ j ∷ k ∷ l ∷ []) (x ∷ y ∷ z ∷ w ∷ [])
given_4 h k l m = MoreItems _ _ _ _ h (given_3 k l m)

pub one_term : {ns : List Node} {i : ℕ} {t : TermData} → IsItem ns i (TermItem t) → AreTerms ns (One i) (t ∷ [])
one_term h = OfOne _ _ h

-- ---- terms by their numbers

pub term_is : {ns : List Node} {i : ℕ} {t : TermData} → IsItem ns i (TermItem t) → term_at ns i ≡ t
term_is h = ap term_in h.is

pub term_number : {ns : List Node} {i : ℕ} {t : TermData} → IsItem ns i (TermItem t) → IsTermNumber ns i
term_number {ns} {i} h = record { within = h.within; is = h.is ∙ ap TermItem (sym (term_is h)) }

pub number_stays : {ns ms : List Node} {i : ℕ} → Extends ns ms → IsTermNumber ns i → IsTermNumber ms i
number_stays e h = term_number (item_stays e h)

pub term_kept : {ns ms : List Node} {i : ℕ} → Extends ns ms → IsTermNumber ns i → term_at ms i ≡ term_at ns i
term_kept e h = term_is (item_stays e h)

-- replacement of a term by an equal one
pub item_as : {ns : List Node} {i : ℕ} {t u : TermData} → t ≡ u → IsItem ns i (TermItem t) → IsItem ns i (TermItem u)
item_as e h = record { within = h.within; is = h.is ∙ ap TermItem e }

pub binary_stays : {ns ms : List Node} {o : Binary} {n a b : ℕ} → Extends ns ms → IsBinary ns o n a b → IsBinary ms o n a b
binary_stays {o = o} e h = record {
  whole = item_as (λ i. BinaryTerm o (sym (term_kept e h.first) i) (sym (term_kept e h.second) i)) (item_stays e h.whole);
  first = number_stays e h.first;
  second = number_stays e h.second;
}

-- ---- the parts of a node

part_number : {ns : List Node} {n a : ℕ} → n < length ns → HasPart ns n a TermSort → IsTermNumber ns a
part_number {ns} {n} {a} w h = record { within = (let e = h.earlier in omega arith); is = sym (a_term (item_at ns a) h.sort) }

type_number : {ns : List Node} {n a : ℕ} → n < length ns → HasPart ns n a TypeSort → IsTypeNumber ns a
type_number {ns} {n} {a} w h = record { within = (let e = h.earlier in omega arith); is = sym (a_type (item_at ns a) h.sort) }

terms_number : {ns : List Node} {n a : ℕ} → n < length ns → HasPart ns n a TermsSort → IsItem ns a (TermsItem (terms_at ns a))
terms_number {ns} {n} {a} w h = record { within = (let e = h.earlier in omega arith); is = sym (a_list_of_terms (item_at ns a) h.sort) }

module _ {ns : List Node} {n : ℕ} where
  pub unary_made : {o : Unary} {a : ℕ} → IsMade ns n (OneNode (UnaryHead o) a) → IsUnary ns o n a
  unary_made m =
      let w = slice_get_within ns n _ m.found in
      record { whole = record { within = w; is = m.item }; part = part_number w m.parts }

  pub binary_made : {o : Binary} {a b : ℕ} → IsMade ns n (TwoNode (BinaryHead o) a b) → IsBinary ns o n a b
  binary_made m =
      let w = slice_get_within ns n _ m.found in
      record { whole = record { within = w; is = m.item }; first = part_number w m.parts.0; second = part_number w m.parts.1 }

  pub ternary_made : {o : Ternary} {a b c : ℕ} → IsMade ns n (ThreeNode (TernaryHead o) a b c) → IsTernary ns o n a b c
  ternary_made m =
      let w = slice_get_within ns n _ m.found in
      record {
        whole = record { within = w; is = m.item };
        first = part_number w m.parts.0;
        second = part_number w m.parts.1;
        third = part_number w m.parts.2;
      }

  pub if_made : {p a b : ℕ} → IsMade ns n (ThreeNode IfHead p a b) → IsIf ns n p a b
  if_made {p} m =
      let w = slice_get_within ns n _ m.found in
      record {
        whole = record { within = w; is = m.item };
        condition = record { within = (let e = m.parts.0.earlier in omega arith); is = sym (a_formula (item_at ns p) m.parts.0.sort) };
        first = part_number w m.parts.1;
        second = part_number w m.parts.2;
      }

  pub pack_made : {s us : ℕ} → IsMade ns n (TwoNode PackHead s us) → IsPack ns n s us
  pack_made {s} {us} m =
      let w = slice_get_within ns n _ m.found in
      record { whole = record { within = w; is = m.item }; of = type_number w m.parts.0; parts = terms_number w m.parts.1 }

  pub set_field_made : {k s a b : ℕ} → IsMade ns n (ThreeNode (SetFieldHead k) s a b) → IsSetField ns k n s a b
  set_field_made m =
      let w = slice_get_within ns n _ m.found in
      record {
        whole = record { within = w; is = m.item };
        of = type_number w m.parts.0;
        first = part_number w m.parts.1;
        second = part_number w m.parts.2;
      }

-- ---- one instance for each width

pub bits_then : {ns ms ks : List Node} {xs ys zs : List TriggeredAxiom} {as' : List Triggered} {o : Binary} {n a b : ℕ} (w : Width) → IsBinary ns o n a b → Adds ns ms xs ys as' → Adds ms ks ys zs (bits_row w o (term_at ms a) (term_at ms b) ∷ []) → Adds ns ks xs zs (as' ++ bits_row w o (term_at ns a) (term_at ns b) ∷ [])
bits_then {o = o} w h k l =
    adds_then k (adds_as (λ i. bits_row w o (term_kept k.extends h.first i) (term_kept k.extends h.second i) ∷ []) l)

pub whole_is : {ns ms : List Node} {o : Binary} {n a b : ℕ} → Extends ns ms → IsBinary ns o n a b → gives_whole o ≡ true → whole_row (term_at ms n) ∷ [] ≡ whole_rows (gives_whole o) (BinaryTerm o (term_at ns a) (term_at ns b))
whole_is {ns} {o = o} {a = a} {b = b} e h g =
    ap (λ t. whole_row t ∷ []) (term_is (item_stays e h.whole)) ∙ ap (λ p. whole_rows p (BinaryTerm o (term_at ns a) (term_at ns b))) (sym g)
