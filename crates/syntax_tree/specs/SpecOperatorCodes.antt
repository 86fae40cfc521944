-- The codes by which the logic stores the operators of specifications.
use base.Stored.{Gv, gnil, gnum, gcons, num}
use Rattle.std.specs.Prelude.{◌≡◌, [], ◌∷◌, refl}
use Rattle.base.specs.Codes.{pick}
use Rattle.syntax_tree.specs.LeafCodes.{head, tail}
use Rattle.syntax_tree.specs.OperatorCodes.{binary_operator_code, binary_operator_back, binary_operator_back-code}
use Rattle.syntax_tree.specs.declared.spec_expression.operator.SpecOperator.{SpecOperator}
use Rattle.syntax_tree.specs.declared.spec_expression.operator.SpecOperator.TheVariants.{Equivalent, Implies, Range, Common}
use Rattle.syntax_tree.specs.declared.spec_expression.operator.Quantifier.{Quantifier}
use Rattle.syntax_tree.specs.declared.spec_expression.operator.Quantifier.TheVariants.{ForAll, Exists}

abbrev pub spec_operator_code : SpecOperator → Gv
spec_operator_code Equivalent = gcons (gnum 0) gnil
spec_operator_code Implies = gcons (gnum 1) gnil
spec_operator_code Range = gcons (gnum 2) gnil
spec_operator_code (Common o) = gcons (gnum 3) (binary_operator_code o)

abbrev pub spec_operator_back : Gv → SpecOperator
spec_operator_back g = pick (num (head g)) Range (Equivalent ∷ Implies ∷ Range ∷ Common (binary_operator_back (tail g)) ∷ [])

pub spec_operator_back-code : (x : SpecOperator) → spec_operator_back (spec_operator_code x) ≡ x
spec_operator_back-code Equivalent = refl
spec_operator_back-code Implies = refl
spec_operator_back-code Range = refl
spec_operator_back-code (Common o) = λ i. Common (binary_operator_back-code o i)

abbrev pub quantifier_code : Quantifier → Gv
quantifier_code ForAll = gnum 0
quantifier_code Exists = gnum 1

abbrev pub quantifier_back : Gv → Quantifier
quantifier_back g = pick (num g) ForAll (ForAll ∷ Exists ∷ [])

pub quantifier_back-code : (x : Quantifier) → quantifier_back (quantifier_code x) ≡ x
quantifier_back-code ForAll = refl
quantifier_back-code Exists = refl
