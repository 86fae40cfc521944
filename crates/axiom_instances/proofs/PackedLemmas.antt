-- The whole list consists of the instances of the axiom that a struct is the pack of its fields that a struct type and
-- a term trigger.
use Rattle.std.proofs.Common.{◌≡◌, ℕ, zero, suc, ◌+◌, ◌<◌, List, [], ◌∷◌, length, get_or, refl, sym, ap, ◌∙◌, subst, arith}
use Rattle.base.specs.TypeData.{TypeData}
use Rattle.fol.specs.declared.shapes.Shape.{Shape}
use Rattle.fol.specs.FormulaData.{TermData, NothingTerm, PackTerm, FieldTerm, MoreTerms, FormulaData, EqFormula, IsFormula, NotFormula, terms_of}
use Rattle.axioms.specs.declared.axiom.Axiom.{Axiom}
use Rattle.axioms.specs.declared.axiom.Axiom.TheVariants.{OfStruct}
use Rattle.axioms.specs.declared.axiom.StructAxiom.TheVariants.{PackOfFields}
use Rattle.axioms.specs.Fields.{HasFields}
use Rattle.axioms.specs.Structs.{AreFieldsOf}
use Rattle.certificates.specs.Table.{some_of}
use Rattle.term_pool.specs.Items.{TermItem, TermsItem, TypeItem}
use Rattle.term_pool.specs.Pools.{HasParts, IsItem, IsMade, Extends}
use Rattle.term_pool.specs.declared.node.Leaf.TheVariants.{NilTerms}
use Rattle.term_pool.specs.declared.node.Two.TheVariants.{Field, ConsTerm}
use Rattle.term_pool.specs.declared.node.Node.{Node}
use Rattle.term_pool.specs.declared.node.Node.TheVariants.{Leaf as LeafNode, Two as TwoNode}
use Rattle.term_pool.proofs.GrowthLemmas.{item_stays, leaf_made, two_made, two_parts, two_is}
use Rattle.axiom_instances.specs.Asks.{AsksOfType, ByStructTyped, ByPackTyped, ByFieldTyped, ByRange, BySigner, ByVector, ByBool}
use Rattle.axiom_instances.specs.Lists.{IsAmong, IsHere, AreAll}
use Rattle.axiom_instances.specs.StructRows.{HasNoFields}
use Rattle.axiom_instances.proofs.StructLemmas.{one_count}
use Rattle.axiom_instances.specs.PackedRows.{AsksPacked, fields_from, fields_of, packed_row}

-- ---- the fields of a term

pub fields_length : (s : TypeData) (t : TermData) (k n : ℕ) → length (fields_from s t k n) ≡ n
fields_length s t k zero = refl
fields_length s t k (suc n) = ap suc (fields_length s t (suc k) n)

field_at : (s : TypeData) (t : TermData) (k n j : ℕ) (d : TermData) → j < n → get_or (fields_from s t k n) j d ≡ FieldTerm s (k + j) t
field_at s t k zero j d w = absurd (omega arith)
field_at s t k (suc n) zero d w = let e : k ≡ k + 0 = omega arith in ap (λ i. FieldTerm s i t) e
field_at s t k (suc n) (suc j) d w =
    let e : suc k + j ≡ k + suc j = omega arith in field_at s t (suc k) n j d (omega arith) ∙ ap (λ i. FieldTerm s i t) e

one_list : (s : TypeData) (t : TermData) (k : ℕ) (us : List TermData) → ((j : ℕ) (d : TermData) → j < length us → get_or us j d ≡ FieldTerm s (k + j) t) → us ≡ fields_from s t k (length us)
one_list s t k [] h = refl
one_list s t k (u ∷ us) h =
    let e : k + 0 ≡ k = omega arith in
    let first : u ≡ FieldTerm s k t = h 0 NothingTerm (omega arith) ∙ ap (λ i. FieldTerm s i t) e in
    let rest : us ≡ fields_from s t (suc k) (length us) = one_list s t (suc k) us (λ j d w. h (suc j) d (omega arith) ∙ ap (λ i. FieldTerm s i t) (let f : k + suc j ≡ suc k + j = omega arith in f)) in
    λ i. first i ∷ rest i

fields_are : (s : TypeData) (t : TermData) (n : ℕ) → AreFieldsOf s t (fields_of s t n)
unfolding AreFieldsOf
fields_are s t n = λ k d w. (let e = fields_length s t 0 n in let f : 0 + k ≡ k = omega arith in field_at s t 0 n k d (omega (arith, e, w)) ∙ ap (λ i. FieldTerm s i t) f)

fields_only : (s : TypeData) (t : TermData) (us : List TermData) → AreFieldsOf s t us → us ≡ fields_of s t (length us)
unfolding AreFieldsOf
fields_only s t us h = one_list s t 0 us (λ j d w. (let f : j ≡ 0 + j = omega arith in h j d w ∙ ap (λ i. FieldTerm s i t) f))

-- ---- the triggered instances

data PackedCase (shapes : List Shape) (a : TypeData) (t : TermData) : List TermData → FormulaData → Type 0 where
  TheFields : (us : List TermData) → HasFields shapes a (length us) → AreFieldsOf a t us → PackedCase shapes a t (t ∷ []) (some_of (NotFormula (IsFormula a t) ∷ EqFormula t (PackTerm a (terms_of us)) ∷ []))

module _ (shapes : List Shape) where
  of_packed : {a : TypeData} {t : TermData} {name : Axiom} {ts : List TermData} {p : FormulaData} → AsksOfType shapes a t name ts p → name ≡ OfStruct PackOfFields → PackedCase shapes a t ts p
  of_packed (ByStructTyped s us t h f) e = TheFields us h f
  of_packed (ByPackTyped s us ps h) e = absurd (cc)
  of_packed (ByFieldTyped s k t a h) e = absurd (cc)
  of_packed (ByRange a t most h) e = absurd (cc)
  of_packed (BySigner t) e = absurd (cc)
  of_packed (ByVector a v) e = absurd (cc)
  of_packed (ByBool t) e = absurd (cc)

  packed_stands : (a : TypeData) (t : TermData) (n : ℕ) {name : Axiom} {ts : List TermData} {p : FormulaData} → HasFields shapes a n → name ≡ OfStruct PackOfFields → PackedCase shapes a t ts p → IsAmong (record { name = name; terms = ts; formula = p }) (packed_row a t n ∷ [])
  packed_stands a t n {name} h e (TheFields us f g) =
      let many : length us ≡ n = one_count shapes a (length us) n f h in
      let same : fields_of a t n ≡ us = sym (fields_only a t us g ∙ ap (fields_of a t) many) in
      subst (λ x. IsAmong (record { name = x; terms = t ∷ []; formula = some_of (NotFormula (IsFormula a t) ∷ EqFormula t (PackTerm a (terms_of us)) ∷ []) }) (packed_row a t n ∷ [])) (sym e)
      (subst (λ ys. IsAmong (record { name = OfStruct PackOfFields; terms = t ∷ []; formula = some_of (NotFormula (IsFormula a t) ∷ EqFormula t (PackTerm a (terms_of ys)) ∷ []) }) (packed_row a t n ∷ [])) same (IsHere []))

  pub packed_all : (a : TypeData) (t : TermData) (n : ℕ) → HasFields shapes a n → AreAll (packed_row a t n ∷ []) (AsksPacked shapes a t)
  packed_all a t n h = record {
    only = (record { triggered = ByStructTyped a (fields_of a t n) t (subst (HasFields shapes a) (sym (fields_length a t 0 n)) h) (fields_are a t n); is_axiom = refl }, tt);
    all = λ name ts p asks. packed_stands a t n h asks.is_axiom (of_packed asks.triggered asks.is_axiom);
  }

  pub no_packed : (a : TypeData) (t : TermData) → HasNoFields shapes a → AreAll [] (AsksPacked shapes a t)
  no_packed a t none = record { only = tt; all = λ name ts p asks. go (of_packed asks.triggered asks.is_axiom) }
    where
      go : {name : Axiom} {ts : List TermData} {p : FormulaData} → PackedCase shapes a t ts p → IsAmong (record { name = name; terms = ts; formula = p }) []
      go (TheFields us f g) = absurd (none.none (length us) f)

-- ---- the list, from its end

pub record IsBehind (ms : List Node) (s : TypeData) (t : TermData) (count rest list : ℕ) : Type 0 where
  pub more : ℕ
  pub sum : rest + more ≡ count
  pub is : IsItem ms list (TermsItem (terms_of (fields_from s t rest more)))

pub behind_none : {ms : List Node} {list : ℕ} (s : TypeData) (t : TermData) (count : ℕ) → IsMade ms list (LeafNode NilTerms) → IsBehind ms s t count count list
behind_none s t count m = record { more = 0; sum = omega arith; is = leaf_made NilTerms m }

pub field_parts : {ms : List Node} {of term : ℕ} {s : TypeData} {t : TermData} (k : ℕ) → IsItem ms of (TypeItem s) → IsItem ms term (TermItem t) → HasParts ms (length ms) (TwoNode (Field k) of term)
field_parts k h i = two_parts (Field k) h i refl refl

pub field_is : {ms ks : List Node} {of term field : ℕ} {s : TypeData} {t : TermData} (k : ℕ) → Extends ms ks → IsItem ms of (TypeItem s) → IsItem ms term (TermItem t) → IsMade ks field (TwoNode (Field k) of term) → IsItem ks field (TermItem (FieldTerm s k t))
field_is k e h i m = two_is (Field k) h i (two_made (Field k) e (field_parts k h i) m)

pub list_parts : {ms ks : List Node} {field list : ℕ} {s : TypeData} {t : TermData} {k count rest : ℕ} → Extends ms ks → IsItem ks field (TermItem (FieldTerm s k t)) → IsBehind ms s t count rest list → HasParts ks (length ks) (TwoNode ConsTerm field list)
list_parts e h b = two_parts ConsTerm h (item_stays e b.is) refl refl

pub behind_more : {ms ks ls : List Node} {field list made : ℕ} {s : TypeData} {t : TermData} {count rest : ℕ} (k : ℕ) → rest ≡ suc k → Extends ms ks → Extends ks ls → IsItem ks field (TermItem (FieldTerm s k t)) → IsBehind ms s t count rest list → IsMade ls made (TwoNode ConsTerm field list) → IsBehind ls s t count k made
behind_more {ms} {ks} {ls} {field} {list} {made} {s} {t} {count} {rest} k e grown later h b m =
    let whole = two_is ConsTerm h (item_stays grown b.is) (two_made ConsTerm later (list_parts grown h b) m) in
    record {
      more = suc b.more;
      sum = (let f = b.sum in omega (arith, e, f));
      is = subst (λ i. IsItem ls made (TermsItem (MoreTerms (FieldTerm s k t) (terms_of (fields_from s t i b.more))))) e whole;
    }

pub behind_all : {ms : List Node} {list : ℕ} (s : TypeData) (t : TermData) (count rest : ℕ) → rest ≡ 0 → IsBehind ms s t count rest list → IsItem ms list (TermsItem (terms_of (fields_of s t count)))
behind_all {ms} {list} s t count rest e b =
    let many : b.more ≡ count = (let f = b.sum in omega (arith, e, f)) in
    subst (λ n. IsItem ms list (TermsItem (terms_of (fields_from s t 0 n)))) many (subst (λ k. IsItem ms list (TermsItem (terms_of (fields_from s t k b.more)))) e b.is)
