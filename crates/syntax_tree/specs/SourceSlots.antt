-- The kinds of the spec blocks of a module. A block with a name is a struct's if the name begins with A to Z and is not
-- that of a function of the module, or else a function's. Source: the Move Specification Language reference, "Spec
-- Blocks and Conditions"; this project's profile.
use Rattle.std.specs.Prelude.{◌≢◌, ℕ, List}
use Rattle.std.specs.List.{AllByRecursion}
use Rattle.syntax_tree.specs.NameRules.{IsCapital}
use Rattle.syntax_tree.specs.declared.slot.Slot.{Slot}
use Rattle.syntax_tree.specs.declared.slot.Slot.TheVariants.{Function, Struct, Module, Schema, SpecFunction}
use Rattle.syntax_tree.specs.declared.clause.Spec.{Spec}
use Rattle.syntax_tree.specs.declared.clause.Spec.TheVariants.{Module as module_spec, Named as named_spec, Schema as schema_spec, Function as function_spec}

abbrev pub IsOfStruct : List (List ℕ) → List ℕ → Type 0
IsOfStruct functions name = IsCapital name × AllByRecursion (λ other. name ≢ other) functions

-- in a module with functions of these names, a block with this tree is of this kind; a loop's block is no member
abbrev pub IsSlotOf : List (List ℕ) → Spec → Slot → Type 0
IsSlotOf functions (module_spec span clauses) Module = Unit {0}
IsSlotOf functions (named_spec span name clauses) Struct = IsOfStruct functions name.text
IsSlotOf functions (named_spec span name clauses) Function = IsOfStruct functions name.text → ⊥
IsSlotOf functions (schema_spec s) Schema = Unit {0}
IsSlotOf functions (function_spec f) SpecFunction = Unit {0}
IsSlotOf _ _ _ = ⊥
