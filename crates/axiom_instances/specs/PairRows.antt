-- The instances that reads of memories and vectors trigger, and vectors of a type, as whole lists.
use Rattle.std.specs.Prelude.{◌≡◌, ℕ, List, [], ◌∷◌}
use Rattle.base.specs.TypeData.{TypeData, VectorType}
use Rattle.fol.specs.declared.operators.Constant.TheVariants.{Empty}
use Rattle.fol.specs.declared.operators.Unary.TheVariants.{Pop}
use Rattle.fol.specs.declared.operators.Binary.TheVariants.{Push}
use Rattle.fol.specs.declared.operators.Ternary.TheVariants.{Store, Set}
use Rattle.fol.specs.FormulaData.{TermData, ConstantTerm, UnaryTerm, BinaryTerm, TernaryTerm, NothingTerm, EmptyTerm, LenTerm, PopTerm, SubTerm, SelectTerm, AtTerm, PushTerm, StoreTerm, SetTerm, FormulaData, EqFormula, LeFormula, IsFormula, NotFormula, ImpliesFormula}
use Rattle.axioms.specs.declared.axiom.Axiom.{Axiom}
use Rattle.axioms.specs.declared.axiom.Axiom.TheVariants.{EqualUnless, Implied, Plain}
use Rattle.axioms.specs.declared.axiom.Exception.TheVariants.{SelectOther, AtOtherPushed, AtPopped, AtOtherSet}
use Rattle.axioms.specs.declared.axiom.Rule.TheVariants.{ItemTyped, SetTyped, PushTyped, PopTyped}
use Rattle.axioms.specs.declared.axiom.Fact.TheVariants.{EmptyTyped, NothingUntyped}
use Rattle.axioms.specs.Forms.{number, LessFormula, WholeFormula, VectorFormula}
use Rattle.axioms.specs.Rules.{most_items}
use Rattle.certificates.specs.Table.{some_of, all_of, unless}
use Rattle.term_pool.specs.declared.node.Node.{Node}
use Rattle.axiom_instances.specs.Numbers.{type_at}
use Rattle.axiom_instances.specs.Lists.{Triggered}
use Rattle.axiom_instances.specs.Rows.{row, always_row}

-- an instance that is made from these terms
abbrev pub pair_row : Axiom → TermData → TermData → FormulaData → Triggered
pair_row name t u p = record { name = name; terms = t ∷ u ∷ []; formula = p }

-- ---- a memory or a vector, read at a key or an index

abbrev pub store_read : TermData → TermData → TermData → TermData → Triggered
store_read m a v k =
    pair_row (EqualUnless SelectOther) (StoreTerm m a v) k (unless (EqFormula a k) (SelectTerm (StoreTerm m a v) k) (SelectTerm m k))

abbrev pub push_read : TermData → TermData → TermData → Triggered
push_read v x i =
    pair_row (EqualUnless AtOtherPushed) (PushTerm v x) i (unless (EqFormula i (LenTerm v)) (AtTerm (PushTerm v x) i) (AtTerm v i))

abbrev pub pop_read : TermData → TermData → Triggered
pop_read v i =
    pair_row (EqualUnless AtPopped) (PopTerm v) i (unless (LeFormula (SubTerm (LenTerm v) (number 1)) i) (AtTerm (PopTerm v) i) (AtTerm v i))

abbrev pub set_read : TermData → TermData → TermData → TermData → Triggered
set_read v i x j =
    pair_row (EqualUnless AtOtherSet) (SetTerm v i x) j (unless (EqFormula i j) (AtTerm (SetTerm v i x) j) (AtTerm v j))

abbrev pub read_rows : TermData → TermData → List Triggered
read_rows (TernaryTerm Store m a v) k = store_read m a v k ∷ []
read_rows (BinaryTerm Push v x) k = push_read v x k ∷ []
read_rows (UnaryTerm Pop v) k = pop_read v k ∷ []
read_rows (TernaryTerm Set v i x) k = set_read v i x k ∷ []
read_rows _ k = []

-- ---- a vector of a type, read at an index

-- the type with this number is no vector type
pub record IsNoVector (ns : List Node) (n : ℕ) : Type 0 where
  pub none : (a : TypeData) → type_at ns n ≡ VectorType a → ⊥

abbrev pub item_row : TypeData → TermData → TermData → Triggered
item_row a v i =
    pair_row (Implied ItemTyped) v i (ImpliesFormula (VectorFormula a v) (some_of (LessFormula i (number 0) ∷ LeFormula (LenTerm v) i ∷ NotFormula (WholeFormula i) ∷ IsFormula a (AtTerm v i) ∷ [])))

abbrev pub item_rows : TypeData → TermData → TermData → List Triggered
item_rows (VectorType a) v i = item_row a v i ∷ []
item_rows _ v i = []

-- ---- a type that some term has, and a term

abbrev pub nothing_rows : TypeData → List Triggered
nothing_rows a = always_row (Plain NothingUntyped) (NotFormula (IsFormula a NothingTerm)) ∷ []

abbrev pub empty_typed : TypeData → Triggered
empty_typed a = row (Plain EmptyTyped) EmptyTerm (VectorFormula a EmptyTerm)

abbrev pub set_typed : TypeData → TermData → TermData → TermData → Triggered
set_typed a v i x =
    row (Implied SetTyped) (SetTerm v i x) (ImpliesFormula (all_of (VectorFormula a v ∷ IsFormula a x ∷ [])) (VectorFormula a (SetTerm v i x)))

abbrev pub push_typed : TypeData → TermData → TermData → Triggered
push_typed a v x =
    row (Implied PushTyped) (PushTerm v x) (ImpliesFormula (all_of (VectorFormula a v ∷ IsFormula a x ∷ LessFormula (LenTerm v) (number most_items) ∷ [])) (VectorFormula a (PushTerm v x)))

abbrev pub pop_typed : TypeData → TermData → Triggered
pop_typed a v =
    row (Implied PopTyped) (PopTerm v) (ImpliesFormula (VectorFormula a v) (VectorFormula a (PopTerm v)))

-- the instances if the type is that of vectors of these items
abbrev pub vector_rows : TypeData → TermData → List Triggered
vector_rows a (ConstantTerm Empty) = empty_typed a ∷ []
vector_rows a (TernaryTerm Set v i x) = set_typed a v i x ∷ []
vector_rows a (BinaryTerm Push v x) = push_typed a v x ∷ []
vector_rows a (UnaryTerm Pop v) = pop_typed a v ∷ []
vector_rows a _ = []

abbrev pub beside_rows : TypeData → TermData → List Triggered
beside_rows (VectorType a) t = vector_rows a t
beside_rows _ t = []
