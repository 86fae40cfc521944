-- The conjunction of two formulas in a pool.
use Rattle.std.proofs.Common.{ℕ, List, length, refl, sym}
use Rattle.fol.specs.declared.operators.Junction.TheVariants.{AllOf}
use Rattle.fol.specs.FormulaData.{MoreFormulas, NoFormulas}
use Rattle.certificates.specs.Parts.{both_of}
use Rattle.term_pool.specs.Items.{FormulaItem, FormulasItem}
use Rattle.term_pool.specs.Pools.{item_at, HasParts, IsItem, IsMade, Extends}
use Rattle.term_pool.specs.declared.node.Leaf.TheVariants.{NilFormulas}
use Rattle.term_pool.specs.declared.node.One.TheVariants.{Join}
use Rattle.term_pool.specs.declared.node.Two.TheVariants.{ConsFormula}
use Rattle.term_pool.specs.declared.node.Node.{Node}
use Rattle.term_pool.specs.declared.node.Node.TheVariants.{Leaf as LeafNode, One as OneNode, Two as TwoNode}
use Rattle.term_pool.proofs.ShapeLemmas.{a_formula}
use Rattle.term_pool.proofs.GrowthLemmas.{item_stays, extends_then, leaf_made, one_parts, one_made, one_is, two_parts, two_made, two_is}
use Rattle.tableau.specs.PoolBranches.{IsFormulaNumber}
use Rattle.tableau.specs.Numbers.{formula_at, IsNumberOf}
use Rattle.tableau.proofs.NumberLemmas.{number_of_item}

number_item : (ns : List Node) (n : ℕ) → IsFormulaNumber ns n → IsItem ns n (FormulaItem (formula_at ns n))
number_item ns n h = record { within = h.within; is = sym (a_formula (item_at ns n) h.sort) }

module _ (ns ms : List Node) (grown : Extends ns ms) (left right none : ℕ) (l : IsFormulaNumber ns left) (r : IsFormulaNumber ns right) (nil : IsMade ms none (LeafNode NilFormulas)) where
  right_item : IsItem ms right (FormulaItem (formula_at ns right))
  right_item = item_stays grown (number_item ns right r)

  none_item : IsItem ms none (FormulasItem NoFormulas)
  none_item = leaf_made NilFormulas nil

  pub second_parts : HasParts ms (length ms) (TwoNode ConsFormula right none)
  second_parts = two_parts ConsFormula right_item none_item refl refl

  module _ (os : List Node) (further : Extends ms os) (second : ℕ) (made : IsMade os second (TwoNode ConsFormula right none)) where
    second_item : IsItem os second (FormulasItem (MoreFormulas (formula_at ns right) NoFormulas))
    second_item = two_is ConsFormula right_item none_item (two_made ConsFormula further second_parts made)

    left_item : IsItem os left (FormulaItem (formula_at ns left))
    left_item = item_stays (extends_then grown further) (number_item ns left l)

    pub list_parts : HasParts os (length os) (TwoNode ConsFormula left second)
    list_parts = two_parts ConsFormula left_item second_item refl refl

    module _ (ps : List Node) (third : Extends os ps) (list : ℕ) (made_list : IsMade ps list (TwoNode ConsFormula left second)) where
      list_item : IsItem ps list (FormulasItem (MoreFormulas (formula_at ns left) (MoreFormulas (formula_at ns right) NoFormulas)))
      list_item = two_is ConsFormula left_item second_item (two_made ConsFormula third list_parts made_list)

      pub join_parts : HasParts ps (length ps) (OneNode (Join AllOf) list)
      join_parts = one_parts (Join AllOf) list_item refl

      pub both_number : (qs : List Node) → Extends ps qs → (k : ℕ) → IsMade qs k (OneNode (Join AllOf) list) → IsNumberOf qs (both_of (formula_at ns left) (formula_at ns right)) k
      both_number qs last k made_all = number_of_item qs (both_of (formula_at ns left) (formula_at ns right)) k (one_is (Join AllOf) list_item (one_made (Join AllOf) last join_parts made_all))
