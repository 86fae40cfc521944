-- Lists of a pool: the first item and the rest, by their numbers, which are smaller than the list's own.
use Rattle.std.specs.Prelude.{◌≡◌, ℕ, ◌<◌, List, ◌∷◌}
use Rattle.base.specs.TypeData.{MoreTypes}
use Rattle.fol.specs.FormulaData.{MoreTerms, MoreTriggers, MoreFormulas}
use Rattle.term_pool.specs.Items.{term_in, terms_in, triggers_in, formula_in, formulas_in, type_in, types_in, bytes_in}
use Rattle.term_pool.specs.Pools.{item_at}
use Rattle.term_pool.specs.declared.node.Node.{Node}

pub record IsFirstTerm (ns : List Node) (list : ℕ) (p : ℕ × ℕ) : Type 0 where
  pub first_earlier : p.0 < list
  pub rest_earlier : p.1 < list
  pub is : terms_in (item_at ns list) ≡ MoreTerms (term_in (item_at ns p.0)) (terms_in (item_at ns p.1))

pub record IsFirstTrigger (ns : List Node) (list : ℕ) (p : ℕ × ℕ) : Type 0 where
  pub first_earlier : p.0 < list
  pub rest_earlier : p.1 < list
  pub is : triggers_in (item_at ns list) ≡ MoreTriggers (terms_in (item_at ns p.0)) (triggers_in (item_at ns p.1))

pub record IsFirstFormula (ns : List Node) (list : ℕ) (p : ℕ × ℕ) : Type 0 where
  pub first_earlier : p.0 < list
  pub rest_earlier : p.1 < list
  pub is : formulas_in (item_at ns list) ≡ MoreFormulas (formula_in (item_at ns p.0)) (formulas_in (item_at ns p.1))

pub record IsFirstType (ns : List Node) (list : ℕ) (p : ℕ × ℕ) : Type 0 where
  pub first_earlier : p.0 < list
  pub rest_earlier : p.1 < list
  pub is : types_in (item_at ns list) ≡ MoreTypes (type_in (item_at ns p.0)) (types_in (item_at ns p.1))

pub record IsFirstByte (ns : List Node) (list : ℕ) (p : ℕ × ℕ) : Type 0 where
  pub rest_earlier : p.1 < list
  pub is : bytes_in (item_at ns list) ≡ p.0 ∷ bytes_in (item_at ns p.1)
