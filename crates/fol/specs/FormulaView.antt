-- One level of a term and of a formula, with its children as pure data.
use Rattle.fol.specs.FormulaData.{TermData, VarTerm, ConstantTerm, UnaryTerm, BinaryTerm, TernaryTerm, PackTerm, FieldTerm, SetFieldTerm, IfTerm, FormulaData, CompareFormula, IsFormula, HoldsFormula, NotFormula, JoinFormula, ConnectFormula, QuantifyFormula, terms_of, triggers_of, formulas_of}
use Rattle.fol.specs.declared.formula.TermNode.{TermNode}
use Rattle.fol.specs.declared.formula.TermNode.TheVariants.{Var, Constant, Unary, Binary, Ternary, Pack, Field, SetField, If}
use Rattle.fol.specs.declared.formula.FormulaNode.{FormulaNode}
use Rattle.fol.specs.declared.formula.FormulaNode.TheVariants.{Compare, Is, Holds, Not, Join, Connect, Quantify}

abbrev pub term_of_node : TermNode → TermData
term_of_node (Var n) = VarTerm n
term_of_node (Constant c) = ConstantTerm c
term_of_node (Unary o t) = UnaryTerm o t.value
term_of_node (Binary o t u) = BinaryTerm o t.value u.value
term_of_node (Ternary o t u v) = TernaryTerm o t.value u.value v.value
term_of_node (Pack a ts) = PackTerm a (terms_of ts.items)
term_of_node (Field a k t) = FieldTerm a k t.value
term_of_node (SetField a k t u) = SetFieldTerm a k t.value u.value
term_of_node (If p t u) = IfTerm p.value t.value u.value

abbrev pub formula_of_node : FormulaNode → FormulaData
formula_of_node (Compare o t u) = CompareFormula o t.value u.value
formula_of_node (Is a t) = IsFormula a t.value
formula_of_node (Holds t) = HoldsFormula t.value
formula_of_node (Not p) = NotFormula p.value
formula_of_node (Join o ps) = JoinFormula o (formulas_of ps.items)
formula_of_node (Connect o p q) = ConnectFormula o p.value q.value
formula_of_node (Quantify o n ts p) = QuantifyFormula o n (triggers_of ts.items) p.value
