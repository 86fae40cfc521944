-- The terms of a branch that match a quantified formula, by number.
use Rattle.std.specs.Prelude.{◌≡◌, ◌⊎◌, ◌↔◌, ℕ, ◌<◌, List, [], ◌∷◌, Option, Some, None}
use Rattle.base.specs.TypeData.{TypeData}
use Rattle.fol.specs.declared.operators.Connective.TheVariants.{Implies}
use Rattle.fol.specs.declared.operators.Junction.TheVariants.{AllOf}
use Rattle.fol.specs.FormulaData.{TermData, TermsData, FormulaData, IsFormula, JoinFormula, ConnectFormula, NoFormulas, MoreFormulas, list_of_triggers}
use Rattle.term_pool.specs.Items.{TermsSort, TriggersSort, TypeSort, formulas_in}
use Rattle.term_pool.specs.Pools.{item_at, IsMade}
use Rattle.term_pool.specs.declared.node.One.TheVariants.{Join as JoinHead}
use Rattle.term_pool.specs.declared.node.Two.TheVariants.{Is as IsHead, Connect as ConnectHead}
use Rattle.term_pool.specs.declared.node.Node.{Node}
use Rattle.term_pool.specs.declared.node.Node.TheVariants.{One as OneNode, Two as TwoNode}
use Rattle.certificates.specs.BranchesBranch.{Branch, Stands}
use Rattle.certificates.specs.Match.{IsTriggered, IsMatch, Begins}
use Rattle.certificates.specs.Due.{IsMatched}
use Rattle.tableau.specs.PoolBranches.{IsFormulaNumber, IsTermNumber}
use Rattle.tableau.specs.declared.log.Change.{Change}
use Rattle.ematching.specs.Numbers.{IsAmong, IsOnce, IsOfSort, term_at, terms_at, triggers_at, formula_at, type_at}
use Rattle.ematching.specs.Fits.{IsFilling, Meets}
use Rattle.ematching.specs.declared.quantified.Universal.{Universal}
use Rattle.ematching.specs.declared.types.Lead.{Lead}
use Rattle.ematching.specs.declared.types.Lead.TheVariants.{Formula, Listed}

-- the number of a matching term
pub record IsMatchNumber (ns : List Node) (b : Branch) (p : FormulaData) (v : ℕ) : Type 0 where
  pub number : IsTermNumber ns v
  pub matched : IsMatched b (term_at ns v) p

-- the numbers of the matching terms, each once
pub record AreMatches (ns : List Node) (b : Branch) (p : FormulaData) (numbers : List ℕ) : Type 0 where
  pub each : (v : ℕ) → IsAmong v numbers ↔ IsMatchNumber ns b p v
  pub once : IsOnce numbers

-- ---- all numbers, or a given one

abbrev pub IsGiven : Option ℕ → ℕ → Type 0
IsGiven None v = Unit {0}
IsGiven (Some t) v = v ≡ t

-- the given number is that of a term of the pool
abbrev pub IsTermGiven : List Node → Option ℕ → Type 0
IsTermGiven ns None = Unit {0}
IsTermGiven ns (Some t) = IsTermNumber ns t

-- a number of a term with this property, which is the given one if there is one
pub record IsMeant (ns : List Node) (given : Option ℕ) (P : ℕ → Type 0) (v : ℕ) : Type 0 where
  pub number : IsTermNumber ns v
  pub is_given : IsGiven given v
  pub holds : P v

pub record AreMeant (ns : List Node) (given : Option ℕ) (P : ℕ → Type 0) (numbers : List ℕ) : Type 0 where
  pub each : (v : ℕ) → IsAmong v numbers ↔ IsMeant ns given P v

-- the numbers found before, and those with this property
pub record AreAdded (ns : List Node) (given : Option ℕ) (P : ℕ → Type 0) (found more : List ℕ) : Type 0 where
  pub each : (v : ℕ) → IsAmong v more ↔ (IsAmong v found ⊎ IsMeant ns given P v)

abbrev pub IsMatchedBy : List Node → Branch → FormulaData → ℕ → Type 0
IsMatchedBy ns b p v = IsMatched b (term_at ns v) p

-- the term matches the variable
abbrev pub IsMatchOf : List Node → Branch → Universal → ℕ → Type 0
IsMatchOf ns b q v = IsMatch b q.variable (triggers_at ns q.triggers) (formula_at ns q.body) (term_at ns v)

-- ---- triggers

pub record IsFirstTriggerOf (ns : List Node) (list : ℕ) (p : ℕ × ℕ) : Type 0 where
  pub first : IsOfSort ns TermsSort p.0
  pub rest : IsOfSort ns TriggersSort p.1
  pub earlier : p.1 < list
  pub is : list_of_triggers (triggers_at ns list) ≡ terms_at ns p.0 ∷ list_of_triggers (triggers_at ns p.1)

-- some trigger of a list is matched
pub record HasTrigger (b : Branch) (bound : List ℕ) (x : ℕ) (triggers : List TermsData) (ns : List Node) (v : ℕ) : Type 0 where
  pub trigger : TermsData
  pub among : IsAmong trigger triggers
  pub triggered : IsTriggered b bound x (term_at ns v) trigger

-- the matches that are recorded at first: the variable has the given term as its value, if there is one
pub record IsBegun (ns : List Node) (bound : List ℕ) (x : ℕ) (given : Option ℕ) (cs : List Change) : Type 0 where
  pub filling : IsFilling ns bound cs []
  pub meets : (at : ℕ → TermData) (v : ℕ) → IsTermNumber ns v → at x ≡ term_at ns v → Meets ns bound at cs ↔ IsGiven given v

-- ---- types

-- the beginning of a body: a formula, or the first of a list
abbrev pub lead_of : Node → Option Lead
lead_of (TwoNode (ConnectHead Implies) a b) = Some (Formula a)
lead_of (OneNode (JoinHead AllOf) a) = Some (Listed a)
lead_of _ = None

abbrev pub beginning_of : FormulaData → FormulaData
beginning_of (ConnectFormula Implies p q) = p
beginning_of (JoinFormula AllOf (MoreFormulas p ps)) = p
beginning_of p = p

-- the number of the beginning of the body
pub record IsBeginning (ns : List Node) (body first : ℕ) : Type 0 where
  pub number : IsFormulaNumber ns first
  pub is : formula_at ns first ≡ beginning_of (formula_at ns body)

-- the numbers of the first formula of a list and of the rest
pub record IsFirstFormula (ns : List Node) (list : ℕ) (p : ℕ × ℕ) : Type 0 where
  pub number : IsFormulaNumber ns p.0
  pub is : formulas_in (item_at ns list) ≡ MoreFormulas (formula_at ns p.0) (formulas_in (item_at ns p.1))

pub record BeginsList (ns : List Node) (list first : ℕ) : Type 0 where
  pub rest : ℕ
  pub is : IsFirstFormula ns list (first, rest)

-- the first formula of a list, or another one if the list is empty
abbrev pub IsFirstOr : List Node → ℕ → ℕ → ℕ → Type 0
IsFirstOr ns list otherwise n = BeginsList ns list n ⊎ ((formulas_in (item_at ns list) ≡ NoFormulas) × (n ≡ otherwise))

-- the type and the term of a typing
abbrev pub typing_of : Node → Option (ℕ × ℕ)
typing_of (TwoNode IsHead a t) = Some (a, t)
typing_of _ = None

pub record BeginsWith (ns : List Node) (p : FormulaData) (x a : ℕ) : Type 0 where
  pub number : IsOfSort ns TypeSort a
  pub begins : Begins p (type_at ns a) x

pub record BeginsWithNone (p : FormulaData) (x : ℕ) : Type 0 where
  pub none : (a : TypeData) → Begins p a x → ⊥

-- the body begins with a typing of the variable, and an entry gives this type to the term
pub record IsTypedMatch (b : Branch) (body : FormulaData) (x : ℕ) (ns : List Node) (v : ℕ) : Type 0 where
  pub type : TypeData
  pub begins : Begins body type x
  pub stands : Stands b (IsFormula type (term_at ns v))

-- an entry gives the term this type
abbrev pub IsGivenType : List Node → Branch → ℕ → ℕ → Type 0
IsGivenType ns b a v = Stands b (IsFormula (type_at ns a) (term_at ns v))

-- the formula gives the type to the term, and is on the branch
pub record IsTyping (ns : List Node) (b : Branch) (a formula v : ℕ) : Type 0 where
  pub made : IsMade ns formula (TwoNode IsHead a v)
  pub stands : Stands b (formula_at ns formula)

pub record IsNoTyping (ns : List Node) (b : Branch) (a formula : ℕ) : Type 0 where
  pub none : (v : ℕ) → IsTyping ns b a formula v → ⊥
