-- From what was read to the result.
use Rattle.std.proofs.Common.{◌≡◌, ℕ, ◌<◌, ◌≤◌, List, length, map, All, Option, Some, None, refl, sym, ap, subst, ◌∙◌, inl, arith}
use Rattle.std.specs.Prelude.{slice_get}
use Rattle.std.proofs.lemmas.List.{get_or-map, length-map}
use Rattle.std.proofs.lemmas.Option.{slice_get-get_or}
use Rattle.base.specs.TypeData.{TypeData, TypesData}
use Rattle.program.specs.declared.clause.Clause.{Clause}
use Rattle.program.specs.declared.declaration.SpecFunction.{SpecFunction}
use Rattle.program.specs.declared.program.Program.{Program}
use Rattle.typing_rules.specs.Answers.{System, HasType, HasTyping, IsUntypable, IsAmbiguous, IsTyped}
use Rattle.typing_rules.specs.Clauses.{Block, Names, clause_system, spec_function_system}
use Rattle.typing_rules.specs.Settings.{unit_type}
use Rattle.unification.specs.declared.type_variables.slots.Slot.{Slot}
use Rattle.type_solver.specs.Walked.{Walked, WalkSays}
use Rattle.type_solver.specs.declared.walk.Reading.{Reading}
use Rattle.type_solver.specs.declared.walk.Reading.TheVariants.{Whole, Stopped, Clash}
use Rattle.typing_rules.specs.Pools.{type_at, types}
use Rattle.typing_rules.specs.declared.type_pool.PoolType.{PoolType}
use Rattle.unification.specs.Choices.{AreTypes, ChoiceSays, LeavesNoTyping, VariableSays, TypesAsKnown}
use Rattle.unification.specs.Numbers.{number_at}
use Rattle.type_solver.specs.declared.spec_systems.systems.Walk.{Walk}
use Rattle.body_types.specs.SpecKnown.{IsKnown, IsWalkOf, IsWhole, StopsIfTypable}
use Rattle.body_types.specs.SpecTyped.{SpecTypingSays}
use Rattle.body_types.specs.declared.spec.typing.SpecTyping.{SpecTyping}
use Rattle.body_types.specs.declared.spec.typing.SpecTyping.TheVariants.{Untypable, Typed}

-- ---- what the slots know

says_at : (s : System) (walk : Walk) (reading : Reading) → walk.progress.reading ≡ reading → IsWalkOf s walk → WalkSays s walk.slots.items reading
says_at s walk reading e w = subst (λ (r : Reading). WalkSays s walk.slots.items r) e w.walked.says

pub known_whole : (s : System) (walk : Walk) → walk.progress.reading ≡ Whole → IsWalkOf s walk → IsKnown s walk.slots.items walk.variables × IsWhole s
known_whole s walk e w =
    let says : WalkSays s walk.slots.items Whole = says_at s walk Whole e w in
    (record { knows = says.0; count = w.count; alone = w.alone }, says.1)

pub known_stopped : (s : System) (walk : Walk) → walk.progress.reading ≡ Stopped → IsWalkOf s walk → IsKnown s walk.slots.items walk.variables × StopsIfTypable s
known_stopped s walk e w =
    let says : WalkSays s walk.slots.items Stopped = says_at s walk Stopped e w in
    (record { knows = says.0; count = w.count; alone = w.alone }, says.1)

pub clash_untypable : (s : System) (walk : Walk) → walk.progress.reading ≡ Clash → IsWalkOf s walk → IsUntypable s
clash_untypable s walk e w = says_at s walk Clash e w

pub variables_inside : (s : System) (slots : List Slot) (variables : ℕ) → IsKnown s slots variables → variables ≤ length slots
variables_inside s slots variables k = let a = k.count in let b = k.knows.longer in omega (arith, a, b)

-- ---- what is known from them

pub none_untypable : (s : System) (slots : List Slot) (variables : ℕ) → LeavesNoTyping slots → IsKnown s slots variables → IsUntypable s
none_untypable s slots variables none k = none s k.knows

pub types_known : (s : System) (slots : List Slot) (variables : ℕ) (pool : List PoolType) (numbers : List (Option ℕ)) → TypesAsKnown slots variables pool numbers → IsKnown s slots variables → AreTypes s pool numbers
types_known s slots variables pool numbers types k = types s k.alone k.knows k.count

pub stopped_ambiguous : (s : System) (pool : List PoolType) (numbers : List (Option ℕ)) → AreTypes s pool numbers → StopsIfTypable s → IsAmbiguous s
stopped_ambiguous s pool numbers are stops =
    let exists : HasTyping s = (are.settles.0, are.settles.1.defaulted.typing) in
    record { exists = exists; why = inl (stops exists.0 exists.1) }

pub no_choice : (s : System) (pool : List PoolType) (numbers known : List (Option ℕ)) (found : Option (List ℕ)) → known ≡ numbers → found ≡ None → ChoiceSays known found → AreTypes s pool numbers → IsAmbiguous s
no_choice s pool numbers known found same e h are =
    let says : ChoiceSays numbers None = subst (λ (x : Option (List ℕ)). ChoiceSays numbers x) e (subst (λ (xs : List (Option ℕ)). ChoiceSays xs found) same h) in
    says s pool are

pub choice : (s : System) (pool : List PoolType) (numbers known : List (Option ℕ)) (chosen : List ℕ) (found : Option (List ℕ)) → known ≡ numbers → found ≡ Some chosen → ChoiceSays known found → AreTypes s pool numbers →
    IsWhole s → IsTyped s (map (type_at (types pool)) chosen) × All (λ n. n < length pool) chosen
choice s pool numbers known chosen found same e h are whole =
    let says : ChoiceSays numbers (Some chosen) = subst (λ (x : Option (List ℕ)). ChoiceSays numbers x) e (subst (λ (xs : List (Option ℕ)). ChoiceSays xs found) same h) in
    let found_types = says s pool are in
    (found_types.1 whole, found_types.0)

-- ---- types of type variables

pub none_of_untypable : (s : System) (pool : List PoolType) (typing : SpecTyping) (variable : ℕ) → typing ≡ Untypable → SpecTypingSays s pool typing → VariableSays s pool variable None
none_of_untypable s pool typing variable e h =
    let none : SpecTypingSays s pool Untypable = subst (λ (x : SpecTyping). SpecTypingSays s pool x) e h in
    λ of has. none has.typing has.settled.defaulted.typing

pub variable_of_types : (s : System) (pool : List PoolType) (numbers known : List (Option ℕ)) (variable : ℕ) (found : Option ℕ) → known ≡ numbers → found ≡ number_at known variable → AreTypes s pool numbers →
    variable < s.variables → VariableSays s pool variable found
variable_of_types s pool numbers known variable found same e are lt =
    subst (λ (o : Option ℕ). VariableSays s pool variable o) (sym (e ∙ ap (λ (xs : List (Option ℕ)). number_at xs variable) same)) (are.each variable lt)

variable_of_typed : (s : System) (pool : List PoolType) (numbers : List ℕ) (variable : ℕ) → IsTyped s (map (type_at (types pool)) numbers) → All (λ n. n < length pool) numbers → variable < s.variables →
    VariableSays s pool variable (slice_get numbers variable)
variable_of_typed s pool numbers variable typed all lt =
    let inside : variable < length numbers = (let a = typed.same_length in let b = length-map numbers (type_at (types pool)) in omega (arith, lt, a, b)) in
    subst (λ (o : Option ℕ). VariableSays s pool variable o) (sym (slice_get-get_or numbers variable 0 inside)) (
      all variable 0 inside,
      subst (λ (of : TypeData). HasType s variable of) (get_or-map (type_at (types pool)) numbers variable 0 unit_type inside) (typed.each variable lt),
    )

pub variable_of_numbers : (s : System) (pool : List PoolType) (numbers known : List ℕ) (typing : SpecTyping) (variable : ℕ) (found : Option ℕ) → typing ≡ Typed numbers → known ≡ numbers → found ≡ slice_get known variable →
    SpecTypingSays s pool typing → variable < s.variables → VariableSays s pool variable found
variable_of_numbers s pool numbers known typing variable found is same e h lt =
    let says : SpecTypingSays s pool (Typed numbers) = subst (λ (x : SpecTyping). SpecTypingSays s pool x) is h in
    subst (λ (o : Option ℕ). VariableSays s pool variable o) (sym (e ∙ ap (λ (xs : List ℕ). slice_get xs variable) same)) (variable_of_typed s pool numbers variable says.0 says.1 lt)

-- ---- systems

pub clause_walk : (program : Program) (names : Names) (block : Block) (of : TypesData) (clause : Clause) (walk : Walk) → Walked (clause_system program names block of clause) walk.slots.items walk.progress →
    walk.variables ≡ (clause_system program names block of clause).variables → IsWalkOf (clause_system program names block of clause) walk
clause_walk program names block of clause walk walked e = record { walked = walked; count = sym e; alone = record { no_default = refl; no_drop = refl } }

pub function_walk : (program : Program) (f : SpecFunction) (walk : Walk) → Walked (spec_function_system program f) walk.slots.items walk.progress → walk.variables ≡ (spec_function_system program f).variables →
    IsWalkOf (spec_function_system program f) walk
function_walk program f walk walked e = record { walked = walked; count = sym e; alone = record { no_default = refl; no_drop = refl } }
