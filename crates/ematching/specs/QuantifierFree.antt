-- Quantifier-free terms and formulas, the conditions of `If` included.
use Rattle.std.specs.Prelude.{◌≡◌, ℕ, ◌<◌, ◌≤◌, Bool, true, false, ◌&&◌, List, length, slice_index_or}
use Rattle.fol.specs.FormulaData.{TermData, VarTerm, ConstantTerm, UnaryTerm, BinaryTerm, TernaryTerm, PackTerm, FieldTerm, SetFieldTerm, IfTerm, TermsData, NoTerms, MoreTerms, TriggersData, NoTriggers, MoreTriggers, FormulaData, CompareFormula, IsFormula, HoldsFormula, NotFormula, JoinFormula, ConnectFormula, QuantifyFormula, FormulasData, NoFormulas, MoreFormulas}
use Rattle.term_pool.specs.Items.{Item, NoItem, TermItem, TermsItem, TriggersItem, FormulaItem, FormulasItem, TypeItem, TypesItem, BytesItem}
use Rattle.term_pool.specs.Pools.{item_at}
use Rattle.term_pool.specs.declared.node.Two.TheVariants.{Quantify}
use Rattle.term_pool.specs.declared.node.Node.{Node}
use Rattle.term_pool.specs.declared.node.Node.TheVariants.{Two as TwoNode}

abbrev mutual
  pub quantifier_free_term : TermData → Bool
  quantifier_free_term (VarTerm n) = true
  quantifier_free_term (ConstantTerm c) = true
  quantifier_free_term (UnaryTerm o t) = quantifier_free_term t
  quantifier_free_term (BinaryTerm o t u) = quantifier_free_term t && quantifier_free_term u
  quantifier_free_term (TernaryTerm o t u v) = quantifier_free_term t && (quantifier_free_term u && quantifier_free_term v)
  quantifier_free_term (PackTerm a ts) = quantifier_free_terms ts
  quantifier_free_term (FieldTerm a k t) = quantifier_free_term t
  quantifier_free_term (SetFieldTerm a k t u) = quantifier_free_term t && quantifier_free_term u
  quantifier_free_term (IfTerm p t u) = quantifier_free p && (quantifier_free_term t && quantifier_free_term u)

  pub quantifier_free_terms : TermsData → Bool
  quantifier_free_terms NoTerms = true
  quantifier_free_terms (MoreTerms t ts) = quantifier_free_term t && quantifier_free_terms ts

  pub quantifier_free_triggers : TriggersData → Bool
  quantifier_free_triggers NoTriggers = true
  quantifier_free_triggers (MoreTriggers t ts) = quantifier_free_terms t && quantifier_free_triggers ts

  pub quantifier_free : FormulaData → Bool
  quantifier_free (CompareFormula o t u) = quantifier_free_term t && quantifier_free_term u
  quantifier_free (IsFormula a t) = quantifier_free_term t
  quantifier_free (HoldsFormula t) = quantifier_free_term t
  quantifier_free (NotFormula p) = quantifier_free p
  quantifier_free (JoinFormula o ps) = quantifier_free_all ps
  quantifier_free (ConnectFormula o p q) = quantifier_free p && quantifier_free q
  quantifier_free (QuantifyFormula o n ts p) = false

  pub quantifier_free_all : FormulasData → Bool
  quantifier_free_all NoFormulas = true
  quantifier_free_all (MoreFormulas p ps) = quantifier_free p && quantifier_free_all ps

-- the same for an item of a pool
abbrev pub quantifier_free_item : Item → Bool
quantifier_free_item NoItem = true
quantifier_free_item (TermItem t) = quantifier_free_term t
quantifier_free_item (TermsItem ts) = quantifier_free_terms ts
quantifier_free_item (TriggersItem ts) = quantifier_free_triggers ts
quantifier_free_item (FormulaItem p) = quantifier_free p
quantifier_free_item (FormulasItem ps) = quantifier_free_all ps
quantifier_free_item (TypeItem a) = true
quantifier_free_item (TypesItem ts) = true
quantifier_free_item (BytesItem bs) = true

-- whether a node is not a quantifier
abbrev pub is_plain : Node → Bool
is_plain (TwoNode (Quantify o n) a b) = false
is_plain _ = true

-- ---- the invariants

-- for each of the first nodes, by number, whether its item is quantifier-free
pub record AreFree (ns : List Node) (xs : List Bool) : Type 0 where
  pub few : length xs ≤ length ns
  pub each : (i : ℕ) → i < length xs → slice_index_or xs i false ≡ quantifier_free_item (item_at ns i)

-- the same for the item of the node after them
pub record IsNextFree (ns : List Node) (xs : List Bool) (free : Bool) : Type 0 where
  pub within : length xs < length ns
  pub is : free ≡ quantifier_free_item (item_at ns (length xs))
