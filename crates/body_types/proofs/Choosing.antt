-- From what was read to the typing.
use Rattle.std.proofs.Common.{◌≡◌, ℕ, ◌<◌, ◌≤◌, true, false, List, length, map, Option, Some, None, flat_map, refl, sym, subst, ◌∙◌, inl, arith}
use Rattle.std.specs.Prelude.{All}
use Rattle.std.proofs.lemmas.Bool.{false≢true}
use Rattle.program.specs.declared.declaration.Constant.{Constant}
use Rattle.program.specs.declared.declaration.Function.{Function}
use Rattle.program.specs.declared.program.Program.{Program}
use Rattle.program.specs.CodeNodes.{CodeNode}
use Rattle.typing_rules.specs.Rules.{HasOpenHead}
use Rattle.typing_rules.specs.Settings.{CodeSetting, variable_count}
use Rattle.typing_rules.specs.Answers.{System, HasTyping, IsUntypable, IsAmbiguous, IsTyped}
use Rattle.typing_rules.specs.CodeSystems.{constant_setting, constant_system, dropped_by, function_setting, function_system}
use Rattle.unification.specs.declared.type_variables.slots.Slot.{Slot}
use Rattle.type_solver.specs.Walked.{Walked, WalkSays}
use Rattle.type_solver.specs.declared.walk.Reading.{Reading}
use Rattle.type_solver.specs.declared.walk.Reading.TheVariants.{Whole, Stopped, Clash}
use Rattle.type_solver.specs.declared.walk.Progress.{Progress}
use Rattle.typing_rules.specs.Pools.{type_at, types}
use Rattle.typing_rules.specs.declared.type_pool.PoolType.{PoolType}
use Rattle.unification.specs.Choices.{HasDefaults, DefaultsSay, ChoiceSays, AreTypes, TypesSay}
use Rattle.unification.specs.declared.solution.choice.Defaulted.{Defaulted}
use Rattle.type_solver.specs.declared.code_systems.systems.Walk.{Walk}
use Rattle.body_types.specs.Judged.{ReadsSteps}
use Rattle.body_types.specs.Typable.{HeadsSay, is_whole, IsCode, IsWalkOf, IsKnownOf, IsTypable, TypableSays}
use Rattle.body_types.specs.declared.code.typable.Typable.{Typable}

-- ---- what the slots know

says_at : (s : System) (walk : Walk) (reading : Reading) → walk.progress.reading ≡ reading → Walked s walk.slots.items walk.progress → WalkSays s walk.slots.items reading
says_at s walk reading e w = subst (λ (r : Reading). WalkSays s walk.slots.items r) e w.says

reads_steps : (s : System) (slots : List Slot) (progress : Progress) → Walked s slots progress → HasTyping s → ReadsSteps s progress.count
reads_steps s slots progress w has = record { done = w.done; left = w.left has.0 has.1 }

heads_at : (s : System) (progress : Progress) (reading : Reading) → progress.reading ≡ reading → HeadsSay s reading → HeadsSay s progress.reading
heads_at s progress reading e h = subst (λ (r : Reading). HeadsSay s r) (sym e) h

pub known_whole : (s : System) (walk : Walk) → walk.progress.reading ≡ Whole → IsWalkOf s walk → IsKnownOf s walk.variables walk.slots.items walk.progress
known_whole s walk e w =
    let says : WalkSays s walk.slots.items Whole = says_at s walk Whole e w.walked in
    record {
      knows = says.0;
      count = w.count;
      integer = w.integer;
      reads = reads_steps s walk.slots.items walk.progress w.walked;
      heads = λ has. heads_at s walk.progress Whole e says.1;
    }

pub known_stopped : (s : System) (walk : Walk) → walk.progress.reading ≡ Stopped → IsWalkOf s walk → IsKnownOf s walk.variables walk.slots.items walk.progress
known_stopped s walk e w =
    let says : WalkSays s walk.slots.items Stopped = says_at s walk Stopped e w.walked in
    record {
      knows = says.0;
      count = w.count;
      integer = w.integer;
      reads = reads_steps s walk.slots.items walk.progress w.walked;
      heads = λ has. heads_at s walk.progress Stopped e (says.1 has.0 has.1);
    }

pub clash_untypable : (s : System) (walk : Walk) → walk.progress.reading ≡ Clash → IsWalkOf s walk → IsUntypable s
clash_untypable s walk e w = says_at s walk Clash e w.walked

-- ---- defaults

pub none_untypable : (s : System) (variables : ℕ) (slots seen : List Slot) (progress : Progress) (found : Option Defaulted) → seen ≡ slots → found ≡ None → DefaultsSay seen found → IsKnownOf s variables slots progress → IsUntypable s
none_untypable s variables slots seen progress found same e h k =
    let says : DefaultsSay slots None = subst (λ (x : Option Defaulted). DefaultsSay slots x) e (subst (λ (xs : List Slot). DefaultsSay xs found) same h) in says s k.knows

pub some_typable : (s : System) (slots seen : List Slot) (found : Option Defaulted) (known : Typable) → seen ≡ slots → found ≡ Some known.defaulted → DefaultsSay seen found →
    IsKnownOf s known.variables slots known.progress → IsTypable s known
some_typable s slots seen found known same e h k =
    let says : DefaultsSay slots (Some known.defaulted) = subst (λ (x : Option Defaulted). DefaultsSay slots x) e (subst (λ (xs : List Slot). DefaultsSay xs found) same h) in
    let has : HasDefaults s known.defaulted = says.has s (λ p lt o. k.integer) k.knows in
    record { sound = says.sound; has = has; count = k.count; reads = k.reads has.exists; heads = k.heads has.exists }

pub none_says : (s : System) (found : Option Typable) → found ≡ None → TypableSays s found → IsUntypable s
none_says s found e h = let says : TypableSays s None = subst (λ (x : Option Typable). TypableSays s x) e h in says

pub some_says : (s : System) (found : Option Typable) (known : Typable) → found ≡ Some known → TypableSays s found → IsTypable s known
some_says s found known e h = let says : TypableSays s (Some known) = subst (λ (x : Option Typable). TypableSays s x) e h in says

-- ---- type variables

pub nodes_inside : (s : System) (nodes : List CodeNode) (known : Typable) → IsTypable s known → IsCode s nodes → length nodes ≤ length known.defaulted.slots.items
nodes_inside s nodes known is code = let a = code.inside in let b = is.has.knows.longer in omega (arith, a, b)

pub variables_inside : (s : System) (known : Typable) → IsTypable s known → known.variables ≤ length known.defaulted.slots.items
variables_inside s known is = let a = is.count in let b = is.has.knows.longer in omega (arith, a, b)

pub nodes_among : (s : System) (nodes : List CodeNode) (known : Typable) → IsTypable s known → IsCode s nodes → length nodes ≤ known.variables
nodes_among s nodes known is code = let a = is.count in let b = code.inside in omega (arith, a, b)

-- ---- heads

open_head : (s : System) (reading : Reading) → is_whole reading ≡ false → HeadsSay s reading → HasOpenHead s.reading s.steps
open_head s Whole e h = absurd (false≢true (sym e))
open_head s Stopped e h = h
open_head s Clash e h = absurd h

no_open_head : (s : System) (reading : Reading) → is_whole reading ≡ true → HeadsSay s reading → HasOpenHead s.reading s.steps → ⊥
no_open_head s Whole e h = h
no_open_head s Stopped e h = absurd (false≢true e)
no_open_head s Clash e h = absurd h

pub ambiguous_by_head : (s : System) (known : Typable) → is_whole known.progress.reading ≡ false → IsTypable s known → IsAmbiguous s
ambiguous_by_head s known e is = record { exists = is.has.exists; why = inl (open_head s known.progress.reading e is.heads) }

-- ---- solutions with defaults

-- what is known of the type variables
pub types_known : (s : System) (nodes : List CodeNode) (known : Typable) (dropped : List ℕ) (pool : List PoolType) (numbers : List (Option ℕ)) → dropped ≡ flat_map dropped_by nodes →
    TypesSay known.defaulted dropped known.variables pool numbers → IsTypable s known → IsCode s nodes → AreTypes s pool numbers
types_known s nodes known dropped pool numbers are h is code = h s is.has (code.dropped ∙ sym are) is.count

pub ambiguous_by_variable : (s : System) (pool : List PoolType) (numbers known : List (Option ℕ)) (found : Option (List ℕ)) → found ≡ None → known ≡ numbers → ChoiceSays known found → AreTypes s pool numbers → IsAmbiguous s
ambiguous_by_variable s pool numbers known found e same h types =
    let says : ChoiceSays numbers None = subst (λ (x : Option (List ℕ)). ChoiceSays numbers x) e (subst (λ (xs : List (Option ℕ)). ChoiceSays xs found) same h) in
    says s pool types

pub typed_by : (s : System) (known : Typable) (pool : List PoolType) (numbers given : List (Option ℕ)) (chosen : List ℕ) (found : Option (List ℕ)) → found ≡ Some chosen → given ≡ numbers →
    is_whole known.progress.reading ≡ true → ChoiceSays given found → AreTypes s pool numbers → IsTypable s known → IsTyped s (map (type_at (types pool)) chosen) × All (λ n. n < length pool) chosen
typed_by s known pool numbers given chosen found e same whole h types_are is =
    let says : ChoiceSays numbers (Some chosen) = subst (λ (x : Option (List ℕ)). ChoiceSays numbers x) e (subst (λ (xs : List (Option ℕ)). ChoiceSays xs found) same h) in
    let of = says s pool types_are in (of.1 (no_open_head s known.progress.reading whole is.heads), of.0)

-- ---- systems

nodes_first : (s : CodeSetting) → length s.nodes ≤ variable_count s
nodes_first s = omega arith

pub function_code : (program : Program) (f : Function) → IsCode (function_system program f) f.body.nodes
function_code program f = record { inside = nodes_first (function_setting program f); dropped = refl }

pub constant_code : (program : Program) (c : Constant) → IsCode (constant_system program c) c.value.nodes
constant_code program c = record { inside = nodes_first (constant_setting program c); dropped = refl }

pub function_walk : (program : Program) (f : Function) (walk : Walk) → Walked (function_system program f) walk.slots.items walk.progress → walk.variables ≡ (function_system program f).variables → IsWalkOf (function_system program f) walk
function_walk program f walk walked e = record { walked = walked; count = sym e; integer = refl }

pub constant_walk : (program : Program) (c : Constant) (walk : Walk) → Walked (constant_system program c) walk.slots.items walk.progress → walk.variables ≡ (constant_system program c).variables → IsWalkOf (constant_system program c) walk
constant_walk program c walk walked e = record { walked = walked; count = sym e; integer = refl }
