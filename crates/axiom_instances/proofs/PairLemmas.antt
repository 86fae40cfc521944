-- The whole lists consist of the instances that reads, vectors of a type, and types beside terms trigger.
use Rattle.std.proofs.Common.{List}
use Rattle.base.specs.TypeData.{TypeData, VectorType}
use Rattle.fol.specs.declared.operators.Constant.TheVariants.{Empty}
use Rattle.fol.specs.declared.operators.Unary.TheVariants.{Pop}
use Rattle.fol.specs.declared.operators.Binary.TheVariants.{Push}
use Rattle.fol.specs.declared.operators.Ternary.TheVariants.{Store, Set}
use Rattle.fol.specs.FormulaData.{TermData, ConstantTerm, UnaryTerm, BinaryTerm, TernaryTerm, FormulaData}
use Rattle.axioms.specs.declared.axiom.Axiom.{Axiom}
use Rattle.axiom_instances.specs.Lists.{IsAmong, IsHere, AreOnly, AreAll}
use Rattle.axiom_instances.specs.PairRows.{read_rows, item_rows, nothing_rows, vector_rows, beside_rows}
use Rattle.axiom_instances.specs.Asks.{AsksOfRead, ByStoreRead, ByPushRead, ByPopRead, BySetRead, AsksOfItem, ByItem, AsksOfTypeAlone, ByNothing, AsksOfTypeBeside, ByEmptyTyped, BySetTyped, ByPushTyped, ByPopTyped}

-- ---- reads

read_asks : (t k : TermData) → AreOnly (AsksOfRead t k) (read_rows t k)
read_asks (TernaryTerm Store m a v) k = (ByStoreRead m a v k, tt)
read_asks (TernaryTerm Set v i x) k = (BySetRead v i x k, tt)
read_asks (BinaryTerm Push v x) k = (ByPushRead v x k, tt)
read_asks (UnaryTerm Pop v) k = (ByPopRead v k, tt)
read_asks _ k = tt

read_stands : {t k : TermData} {name : Axiom} {ts : List TermData} {p : FormulaData} → AsksOfRead t k name ts p → IsAmong (record { name = name; terms = ts; formula = p }) (read_rows t k)
read_stands (ByStoreRead m a v k) = IsHere _
read_stands (ByPushRead v x i) = IsHere _
read_stands (ByPopRead v i) = IsHere _
read_stands (BySetRead v i x j) = IsHere _

pub reads : (t k : TermData) → AreAll (read_rows t k) (AsksOfRead t k)
reads t k = record { only = read_asks t k; all = λ name ts p h. read_stands h }

-- ---- items

item_asks : (a : TypeData) (v i : TermData) → AreOnly (AsksOfItem a v i) (item_rows a v i)
item_asks (VectorType a) v i = (ByItem a v i, tt)
item_asks _ v i = tt

item_stands : {a : TypeData} {v i : TermData} {name : Axiom} {ts : List TermData} {p : FormulaData} → AsksOfItem a v i name ts p → IsAmong (record { name = name; terms = ts; formula = p }) (item_rows a v i)
item_stands (ByItem a v i) = IsHere _

pub items : (a : TypeData) (v i : TermData) → AreAll (item_rows a v i) (AsksOfItem a v i)
items a v i = record { only = item_asks a v i; all = λ name ts p h. item_stands h }

-- ---- types

nothing_stands : {a : TypeData} {name : Axiom} {ts : List TermData} {p : FormulaData} → AsksOfTypeAlone a name ts p → IsAmong (record { name = name; terms = ts; formula = p }) (nothing_rows a)
nothing_stands (ByNothing a) = IsHere _

pub alone : (a : TypeData) → AreAll (nothing_rows a) (AsksOfTypeAlone a)
alone a = record { only = (ByNothing a, tt); all = λ name ts p h. nothing_stands h }

vector_asks : (a : TypeData) (t : TermData) → AreOnly (AsksOfTypeBeside (VectorType a) t) (vector_rows a t)
vector_asks a (ConstantTerm Empty) = (ByEmptyTyped a, tt)
vector_asks a (TernaryTerm Set v i x) = (BySetTyped a v i x, tt)
vector_asks a (BinaryTerm Push v x) = (ByPushTyped a v x, tt)
vector_asks a (UnaryTerm Pop v) = (ByPopTyped a v, tt)
vector_asks a _ = tt

beside_asks : (a : TypeData) (t : TermData) → AreOnly (AsksOfTypeBeside a t) (beside_rows a t)
beside_asks (VectorType a) t = vector_asks a t
beside_asks _ t = tt

beside_stands : {a : TypeData} {t : TermData} {name : Axiom} {ts : List TermData} {p : FormulaData} → AsksOfTypeBeside a t name ts p → IsAmong (record { name = name; terms = ts; formula = p }) (beside_rows a t)
beside_stands (ByEmptyTyped a) = IsHere _
beside_stands (BySetTyped a v i x) = IsHere _
beside_stands (ByPushTyped a v x) = IsHere _
beside_stands (ByPopTyped a v) = IsHere _

pub beside : (a : TypeData) (t : TermData) → AreAll (beside_rows a t) (AsksOfTypeBeside a t)
beside a t = record { only = beside_asks a t; all = λ name ts p h. beside_stands h }
