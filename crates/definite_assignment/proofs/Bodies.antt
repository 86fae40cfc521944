-- The abilities of the types of a function's locals are determined, and a pool of its own gives them.
use Rattle.std.proofs.Common.{◌≡◌, ℕ, ◌-◌, ◌<◌, List, length, map, All, Bool, sym, ◌∙◌, subst, arith}
use Rattle.std.specs.Prelude.{◌↔◌, IsTrue}
use Rattle.std.proofs.lemmas.List.{ext_get_or}
use Rattle.std.proofs.lemmas.Option.{get_or_from_slice_get}
use Rattle.program.specs.declared.declaration.AbilitySet.{AbilitySet}
use Rattle.program.specs.declared.declaration.Function.{Function}
use Rattle.program.specs.declared.program.Program.{Program}
use Rattle.program.specs.Sets.{no_abilities}
use Rattle.typing_rules.specs.Answers.{IsTyped}
use Rattle.typing_rules.specs.Required.{given_abilities}
use Rattle.typing_rules.specs.CodeSystems.{function_system}
use Rattle.typing_rules.specs.Pools.{type_at, types}
use Rattle.typing_rules.specs.declared.type_pool.PoolType.{PoolType}
use Rattle.typing_rules.specs.declared.type_pool.PoolType.TheVariants.{Plain, Made, Struct, Tuple}
use Rattle.typing_rules.specs.Events.{Rule}
use Rattle.typing_rules.specs.LocalRules.{BodyFacts}
use Rattle.ability_rules.specs.declared.required.entry.JudgedTypes.{JudgedTypes}
use Rattle.ability_rules.specs.Bodies.{IsJudgedBody}
use Rattle.ability_rules.specs.Entries.{AreFrom, HasPartsFrom, IsListed, TellsTypes}
use Rattle.ability_rules.specs.Locals.{AreLocalAbilities}
use Rattle.definite_assignment.specs.declared.points.states.LocalStates.{LocalStates}
use Rattle.definite_assignment.specs.PointsStates.{AreStates}
use Rattle.definite_assignment.specs.Flow.{BodyBreaks, FunctionBreaks, body_of}
use Rattle.definite_assignment.specs.WholeProgramStates.{HasStates}

-- ---- a pool of the function's own

parts_from : (e : PoolType) → HasPartsFrom 0 e
parts_from (Plain p) = tt
parts_from (Made wrap m) = omega arith
parts_from (Struct s ms) = λ k d l. omega arith
parts_from (Tuple ms) = λ k d l. omega arith

pub from_first : (pool : List PoolType) → AreFrom 0 pool
from_first pool = record { each = λ n e h at. parts_from e }

pub all_known : (table : JudgedTypes) (count : ℕ) (variables : List ℕ) → table.start ≡ 0 → length table.judged.items ≡ count - 0 → All (λ n. n < count) variables → All (IsListed table) variables
all_known table count variables start long within = λ k d l.
    (let below = within k d l in record { begins = omega (arith, start); ends = omega (arith, start, long, below) })

pub judged_body : (program : Program) (f : Function) (pool : List PoolType) (variables : List ℕ) (given : List AbilitySet) (table : JudgedTypes)
    → given ≡ given_abilities f.type_parameters → IsTyped (function_system program f) (map (type_at (types pool)) variables)
    → TellsTypes program.structs given (types pool) table → All (IsListed table) variables → IsJudgedBody program f variables table
judged_body program f pool variables given table is typed tells known = record {
  types = types pool;
  typed = typed;
  tells = subst (λ (sets : List AbilitySet). TellsTypes program.structs sets (types pool) table) is tells;
  known = known;
}

-- ---- these abilities are determined

pub one_abilities : (program : Program) (f : Function) (s t : List AbilitySet) → AreLocalAbilities program f s → AreLocalAbilities program f t → s ≡ t
one_abilities program f s t a b =
    let first = a.same_length in
    let second = b.same_length in
    ext_get_or no_abilities s t (first ∙ sym second)
    (λ l lt.
    let local : l < length f.locals = omega (arith, lt, first) in
    let of = a.typed l local in
    get_or_from_slice_get s l _ no_abilities (a.each l of.0 local of.1) ∙ sym (get_or_from_slice_get t l _ no_abilities (b.each l of.0 local of.1)))

abbrev body_with : Function → List AbilitySet → ℕ → BodyFacts
body_with f sets parameters = record { types = sets; parameters = parameters; nodes = f.body.nodes }

same_body : (f : Function) (shown sets : List AbilitySet) (parameters : ℕ) → shown ≡ sets → parameters ≡ length f.parameters → body_with f shown parameters ≡ body_of f sets
same_body f shown sets parameters a b = λ i. record { types = a i; parameters = b i; nodes = f.body.nodes }

pub breaks_if : (program : Program) (rule : Rule) (f : Function) (sets shown : List AbilitySet) (parameters : ℕ) (broken : Bool)
    → AreLocalAbilities program f sets → shown ≡ sets → parameters ≡ length f.parameters
    → (IsTrue broken ↔ BodyBreaks rule (body_with f shown parameters)) → IsTrue broken ↔ FunctionBreaks program rule f
breaks_if program rule f sets shown parameters broken are a b h =
    let same = same_body f shown sets parameters a b in (
      λ is. record { sets = sets; are = are; breaks = subst (λ (body : BodyFacts). BodyBreaks rule body) same (h.0 is) },
      λ w. h.1 (subst (λ (body : BodyFacts). BodyBreaks rule body) (sym same)
          (subst (λ (own : List AbilitySet). BodyBreaks rule (body_of f own)) (one_abilities program f w.sets sets w.are are) w.breaks)),
    )

pub has_states : (program : Program) (f : Function) (sets shown : List AbilitySet) (parameters : ℕ) (states : LocalStates)
    → AreLocalAbilities program f sets → shown ≡ sets → parameters ≡ length f.parameters
    → AreStates (body_with f shown parameters) states → HasStates program f states
has_states program f sets shown parameters states are a b h = record {
  sets = sets;
  are = are;
  tells = subst (λ (body : BodyFacts). AreStates body states) (same_body f shown sets parameters a b) h;
}
