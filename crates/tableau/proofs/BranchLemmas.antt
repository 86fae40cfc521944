-- Numbers of the terms of a branch: each term has one, a term that occurs in a term outside quantifiers is one of the
-- branch, and the classes know them all.
use Rattle.std.proofs.Common.{◌≡◌, inl, inr, ℕ, List, [], ◌∷◌, map, Option, Some, None, refl, sym, ap, ◌∙◌, subst}
use Rattle.std.specs.Prelude.{slice_get}
use Rattle.std.specs.Option.{option_map}
use Rattle.std.proofs.lemmas.Option.{slice_get-map}
use Rattle.fol.specs.FormulaData.{TermData}
use Rattle.term_pool.specs.Items.{TermItem, sort_of, term_in, formula_in}
use Rattle.term_pool.specs.Pools.{item_at, IsMade, IsOneNumber}
use Rattle.term_pool.specs.declared.node.Two.{Two}
use Rattle.term_pool.specs.declared.node.Two.TheVariants.{Binary, Pack, Field, Compare, Is, Connect, Quantify, ConsTerm, ConsTrigger, ConsFormula, ConsType}
use Rattle.term_pool.specs.declared.node.Three.{Three}
use Rattle.term_pool.specs.declared.node.Three.TheVariants.{Ternary, SetField, If, TypeStruct}
use Rattle.term_pool.specs.declared.node.Node.{Node}
use Rattle.term_pool.specs.declared.node.Node.TheVariants.{Leaf as LeafNode, One as OneNode, Two as TwoNode, Three as ThreeNode}
use Rattle.term_pool.proofs.ShapeLemmas.{a_term, a_formula}
use Rattle.certificates.specs.BranchesParts.{IsInFormula}
use Rattle.certificates.specs.BranchesBranch.{Branch, Entry, formula_of, IsTerm}
use Rattle.tableau.specs.Logs.{value_in}
use Rattle.tableau.specs.Marks.{outer_parts, IsOneOf, IsUnder, Itself, Below, IsNode}
use Rattle.tableau.specs.PoolBranches.{BranchData, entry_in, branch_in, IsTermNumber, IsOver}
use Rattle.tableau.specs.declared.entry.PoolEntry.{PoolEntry}
use Rattle.tableau.proofs.MarkLemmas.{value_of}
use Rattle.tableau.proofs.InsideLemmas.{IsInItem}
use Rattle.tableau.proofs.AnswerLemmas.{stored, all_least, number_found, generation_is}
use Rattle.congruence_closure.specs.Known.{BranchClassesData, IsKnown, IsOuterPart, formula_at, AreEntriesOf}
use Rattle.congruence_closure.proofs.OverLemmas.{part_known}
use Rattle.tableau.specs.Terms.{term_at, IsBranchTerm, formula_number, AreClassesOf}

-- ---- outer parts are parts

outer_of_two : (h : Two) (a b p : ℕ) → IsOneOf p (outer_parts (TwoNode h a b)) → IsOuterPart p (TwoNode h a b)
outer_of_two (Binary o) a b p (inl e) = inl e
outer_of_two (Binary o) a b p (inr (inl e)) = inr e
outer_of_two (Binary o) a b p (inr (inr z)) = absurd z
outer_of_two Pack a b p (inl e) = inr e
outer_of_two Pack a b p (inr z) = absurd z
outer_of_two (Field k) a b p (inl e) = inr e
outer_of_two (Field k) a b p (inr z) = absurd z
outer_of_two (Compare o) a b p (inl e) = inl e
outer_of_two (Compare o) a b p (inr (inl e)) = inr e
outer_of_two (Compare o) a b p (inr (inr z)) = absurd z
outer_of_two Is a b p (inl e) = inr e
outer_of_two Is a b p (inr z) = absurd z
outer_of_two (Connect o) a b p (inl e) = inl e
outer_of_two (Connect o) a b p (inr (inl e)) = inr e
outer_of_two (Connect o) a b p (inr (inr z)) = absurd z
outer_of_two (Quantify o n) a b p z = absurd z
outer_of_two ConsTerm a b p (inl e) = inl e
outer_of_two ConsTerm a b p (inr (inl e)) = inr e
outer_of_two ConsTerm a b p (inr (inr z)) = absurd z
outer_of_two ConsTrigger a b p z = absurd z
outer_of_two ConsFormula a b p (inl e) = inl e
outer_of_two ConsFormula a b p (inr (inl e)) = inr e
outer_of_two ConsFormula a b p (inr (inr z)) = absurd z
outer_of_two ConsType a b p (inl e) = inl e
outer_of_two ConsType a b p (inr (inl e)) = inr e
outer_of_two ConsType a b p (inr (inr z)) = absurd z

outer_of_three : (h : Three) (a b c p : ℕ) → IsOneOf p (outer_parts (ThreeNode h a b c)) → IsOuterPart p (ThreeNode h a b c)
outer_of_three (Ternary o) a b c p (inl e) = inl e
outer_of_three (Ternary o) a b c p (inr (inl e)) = inr (inl e)
outer_of_three (Ternary o) a b c p (inr (inr (inl e))) = inr (inr e)
outer_of_three (Ternary o) a b c p (inr (inr (inr z))) = absurd z
outer_of_three (SetField k) a b c p (inl e) = inr (inl e)
outer_of_three (SetField k) a b c p (inr (inl e)) = inr (inr e)
outer_of_three (SetField k) a b c p (inr (inr z)) = absurd z
outer_of_three If a b c p (inl e) = inl e
outer_of_three If a b c p (inr (inl e)) = inr (inl e)
outer_of_three If a b c p (inr (inr (inl e))) = inr (inr e)
outer_of_three If a b c p (inr (inr (inr z))) = absurd z
outer_of_three (TypeStruct s) a b c p (inl e) = inl e
outer_of_three (TypeStruct s) a b c p (inr (inl e)) = inr (inl e)
outer_of_three (TypeStruct s) a b c p (inr (inr (inl e))) = inr (inr e)
outer_of_three (TypeStruct s) a b c p (inr (inr (inr z))) = absurd z

outer_part : (n : Node) (p : ℕ) → IsOneOf p (outer_parts n) → IsOuterPart p n
outer_part (LeafNode h) p z = absurd z
outer_part (OneNode h a) p (inl e) = e
outer_part (OneNode h a) p (inr z) = absurd z
outer_part (TwoNode h a b) p o = outer_of_two h a b p o
outer_part (ThreeNode h a b c) p o = outer_of_three h a b c p o

-- ---- terms by number

-- the item of a term's number
pub term_item : (ns : List Node) (b : Branch) (n : ℕ) → IsBranchTerm ns b n → item_at ns n ≡ TermItem (term_at ns n)
term_item ns b n h = sym (a_term (item_at ns n) h.number.sort)

pub record HasGeneration (d : BranchData) (n : ℕ) : Type 0 where
  pub generation : ℕ
  pub is : value_in d.generations n ≡ Some generation

-- a term of the branch, with its number
pub record IsNumbered (ns : List Node) (b : Branch) (t : TermData) : Type 0 where
  pub number : ℕ
  pub term : IsBranchTerm ns b number
  pub is : item_at ns number ≡ TermItem t

formulas_are : (ns : List Node) (es : List PoolEntry) → map formula_of (map (entry_in ns) es) ≡ map (formula_at ns) (map formula_number es)
formulas_are ns [] = refl
formulas_are ns (e ∷ es) = ap (λ ps. formula_at ns e.formula ∷ ps) (formulas_are ns es)

module _ (ns : List Node) (one : IsOneNumber ns) (d : BranchData) (over : IsOver ns d) where
  generation_of : (n : ℕ) → IsBranchTerm ns (branch_in ns d) n → HasGeneration d n
  generation_of n h = go (value_in d.generations n) refl
    where
      go : (o : Option ℕ) → value_in d.generations n ≡ o → HasGeneration d n
      go None e = absurd ((generation_is ns one d over n h.number None (sym e)).none h.stands)
      go (Some g) e = record { generation = g; is = e }

  term_with : (n g : ℕ) → IsTermNumber ns n → value_in d.generations n ≡ Some g → IsBranchTerm ns (branch_in ns d) n
  term_with n g number e = record { number = number; stands = record { generation = g; holds = (generation_is ns one d over n number (Some g) (sym e)).holds } }

  pub made_of : (n : ℕ) → IsBranchTerm ns (branch_in ns d) n → IsNode ns n
  made_of n h = let g = generation_of n h in (all_least ns d over).closed.nodes n g.generation g.is

  -- an outer part of a term's node that is the number of a term
  pub part_of_term : (n p : ℕ) (node : Node) → IsBranchTerm ns (branch_in ns d) n → IsMade ns n node → IsOneOf p (outer_parts node) → IsTermNumber ns p → IsBranchTerm ns (branch_in ns d) p
  part_of_term n p node h made o number =
      let g = generation_of n h in
      let v = value_of d.generations p g.generation ((all_least ns d over).closed.parts n g.generation node p g.is made.found o) in
      term_with p v.value number v.is

  pub term_number : (t : TermData) → IsTerm (branch_in ns d) t → IsNumbered ns (branch_in ns d) t
  term_number t h =
      let it = stored ns d.entries h.holds.position h.holds.entry h.holds.found in
      let formula = over.formulas h.holds.position it.entry it.found in
      let in_formula : IsInFormula t (formula_in (item_at ns it.entry.formula)) = subst (λ (e : Entry). IsInFormula t e.formula) (sym it.is) h.holds.inside in
      let inside : IsInItem t (item_at ns it.entry.formula) = subst (IsInItem t) (a_formula (item_at ns it.entry.formula) formula.sort) in_formula in
      let least = all_least ns d over in
      let found = number_found ns d.generations least.closed t it.entry.formula it.entry.generation (least.entries h.holds.position it.entry it.found) inside in
      record {
        number = found.number;
        term = record { number = record { within = found.within; sort = ap sort_of found.is }; stands = subst (IsTerm (branch_in ns d)) (sym (ap term_in found.is)) h };
        is = found.is;
      }

  -- ---- numbers that the classes know

  module _ (c : BranchClassesData) (classes : AreClassesOf ns d c) where
    pub entries_of : AreEntriesOf ns c (branch_in ns d)
    entries_of = record { over = classes.over; formulas = formulas_are ns d.entries ∙ ap (map (formula_at ns)) (sym classes.entries) }

    pub entry_known : (i : ℕ) (e : PoolEntry) → slice_get d.entries i ≡ Some e → IsKnown c e.formula
    entry_known i e found = classes.over.entries i e.formula (ap (λ ks. slice_get ks i) classes.entries ∙ slice_get-map formula_number d.entries i ∙ ap (option_map formula_number) found)

    under_known : (top n : ℕ) → IsKnown c top → IsUnder ns top n → IsKnown c n
    under_known top _ k Itself = k
    under_known top _ k (Below n node part u made o) = part_known ns c n part node classes.over (under_known top n k u) made.found (outer_part node part o)

    pub known_term : (n : ℕ) → IsBranchTerm ns (branch_in ns d) n → IsKnown c n
    known_term n h =
        let g = generation_of n h in
        let from = (all_least ns d over).from n g.generation g.is in
        under_known from.entry.formula n (entry_known from.position from.entry from.found) from.under
