-- Sorts and type constructors of the typing rules as those of the solver.
use Rattle.typing_rules.specs.declared.sort.Sort.{Sort as RuleSort}
use Rattle.typing_rules.specs.declared.sort.Sort.TheVariants.{Single as rule_single, Value as rule_value, Integer as rule_integer}
use Rattle.typing_rules.specs.declared.sort.Wrap.{Wrap as RuleWrap}
use Rattle.typing_rules.specs.declared.sort.Wrap.TheVariants.{Vector as rule_vector, Shared as rule_shared, Mutable as rule_mutable}
use Rattle.unification.specs.declared.type_variables.slots.Sort.{Sort}
use Rattle.unification.specs.declared.type_variables.slots.Sort.TheVariants.{Single, Value, Integer}
use Rattle.unification.specs.declared.type_variables.slots.Wrap.{Wrap}
use Rattle.unification.specs.declared.type_variables.slots.Wrap.TheVariants.{Vector, Shared, Mutable}

abbrev pub sort_word : RuleSort → Sort
sort_word rule_single = Single
sort_word rule_value = Value
sort_word rule_integer = Integer

abbrev pub wrap_word : RuleWrap → Wrap
wrap_word rule_vector = Vector
wrap_word rule_shared = Shared
wrap_word rule_mutable = Mutable
