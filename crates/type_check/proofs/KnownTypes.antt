-- What the typing of a function determines of its type variables.
use Rattle.std.proofs.Common.{◌≡◌, ℕ, ◌<◌, inl, inr, List, length, map, Option, Some, None, sym, ◌∙◌, ap, subst, arith}
use Rattle.std.specs.Prelude.{◌↔◌, replicate, slice_get}
use Rattle.std.specs.Option.{option_map}
use Rattle.std.proofs.lemmas.Bool.{cases_lt}
use Rattle.std.proofs.lemmas.List.{length-map, length-replicate, get_or-replicate}
use Rattle.std.proofs.lemmas.Option.{slice_get-map, slice_get_within, get_or_from_slice_get}
use Rattle.base.specs.TypeData.{TypeData}
use Rattle.program.specs.declared.declaration.Function.{Function}
use Rattle.program.specs.declared.program.Program.{Program}
use Rattle.program.specs.CodeNodes.{CodeNode}
use Rattle.typing_rules.specs.Answers.{System, HasType, HasTyping, NodeIsRead}
use Rattle.typing_rules.specs.CodeSystems.{function_setting, function_system}
use Rattle.typing_rules.specs.Settings.{variable_count, unit_type}
use Rattle.typing_rules.specs.Pools.{type_at, types}
use Rattle.typing_rules.specs.declared.type_pool.PoolType.{PoolType}
use Rattle.unification.specs.Choices.{AreTypes, VariableSays}
use Rattle.body_types.specs.Judged.{ReadsNodes}
use Rattle.body_types.specs.CodeTyped.{TypingSays}
use Rattle.body_types.specs.declared.code.typing.CodeTyping.{CodeTyping}
use Rattle.body_types.specs.declared.code.typing.CodeTyping.TheVariants.{Untypable, Ambiguous, Typed}
use Rattle.ability_rules.specs.KnownTypes.{IsListed}
use Rattle.ability_rules.specs.declared.polymorphic_recursion.known.VariableTypes.{VariableTypes}
use Rattle.type_check.specs.Functions.{IsTypingOf, variables_of, read_of}
use Rattle.type_check.specs.declared.code.functions.FunctionTyping.{FunctionTyping}

-- ---- lists of numbers

no_number : (count q n : ℕ) → slice_get (replicate {A = Option ℕ} count None) q ≡ Some (Some n) → ⊥
no_number count q n at =
    let within = slice_get_within (replicate {A = Option ℕ} count None) q (Some n) at in
    let long = length-replicate {A = Option ℕ} count None in
    let none = get_or-replicate {A = Option ℕ} count q None None (omega (arith, within, long)) in
    let some = get_or_from_slice_get (replicate {A = Option ℕ} count None) q (Some n) None at in
    cc

known_number : (o : Option ℕ) (n : ℕ) → option_map Some o ≡ Some (Some n) → o ≡ Some n
known_number None n h = absurd (cc)
known_number (Some m) n h = cc

unknown : (o : Option ℕ) → ◌≡◌ {A = Option (Option ℕ)} (option_map Some o) (Some None) → ⊥
unknown None h = cc
unknown (Some m) h = cc

known_at : (numbers : List ℕ) (q n : ℕ) → slice_get (map Some numbers) q ≡ Some (Some n) → slice_get numbers q ≡ Some n
known_at numbers q n at = known_number (slice_get numbers q) n (sym (slice_get-map Some numbers q) ∙ at)

-- ---- systems

nodes_read : (s : System) (nodes : List CodeNode) (read : ℕ) → ReadsNodes s nodes read → (n : ℕ) → n < length nodes → (n < read) ↔ NodeIsRead s n
nodes_read s nodes read r n b = (
  λ l. r.done n l,
  λ h. elim (cases_lt n read) [
    | inl l ↦ l
    | inr past ↦ absurd (r.left n (omega arith) b h)
  ],
)

-- what is known of the type variables of a system
record Tells (s : System) (nodes : List CodeNode) (pool : List PoolType) (variables : List (Option ℕ)) (read : ℕ) : Type 0 where
  pub count : length variables ≡ s.variables
  pub within : (q n : ℕ) → slice_get variables q ≡ Some (Some n) → n < length pool
  pub has : (q n : ℕ) → slice_get variables q ≡ Some (Some n) → HasType s q (type_at (types pool) n)
  pub lacks : (q : ℕ) (of : TypeData) → slice_get variables q ≡ Some None → HasType s q of → ⊥
  pub reads : HasTyping s → (n : ℕ) → n < length nodes → (n < read) ↔ NodeIsRead s n

variable_says : (s : System) (pool : List PoolType) (numbers : List (Option ℕ)) (q : ℕ) (o : Option ℕ) → AreTypes s pool numbers → slice_get numbers q ≡ Some o → VariableSays s pool q o
variable_says s pool numbers q o are at =
    let within = slice_get_within numbers q o at in
    let long = are.same_length in
    subst (λ (x : Option ℕ). VariableSays s pool q x) (get_or_from_slice_get numbers q o None at) (are.each q (omega (arith, within, long)))

tells : (s : System) (nodes : List CodeNode) (pool : List PoolType) (typing : CodeTyping) → TypingSays s nodes pool typing → Tells s nodes pool (variables_of s.variables typing) (read_of typing)
tells s nodes pool Untypable says = record {
  count = length-replicate s.variables None;
  within = λ q n at. absurd (no_number s.variables q n at);
  has = λ q n at. absurd (no_number s.variables q n at);
  lacks = λ q of at h. says h.typing h.settled.defaulted.typing;
  reads = λ h. absurd (says h.0 h.1);
}
tells s nodes pool (Ambiguous numbers judged) says = record {
  count = says.1.same_length;
  within = λ q n at. (variable_says s pool numbers.items q (Some n) says.1 at).0;
  has = λ q n at. (variable_says s pool numbers.items q (Some n) says.1 at).1;
  lacks = λ q of at h. variable_says s pool numbers.items q None says.1 at of h;
  reads = λ h. nodes_read s nodes judged.read says.2.reads;
}
tells s nodes pool (Typed numbers judged) says =
    let long = says.0.same_length in
    let of_types = length-map numbers (type_at (types pool)) in
    record {
      count = length-map numbers Some ∙ sym of_types ∙ long;
      within = λ q n at.
          (let stands = known_at numbers q n at in
          let is = get_or_from_slice_get numbers q n n stands in
          let below = says.1 q n (slice_get_within numbers q n stands) in
          omega (arith, is, below));
      has = λ q n at.
          (let stands = known_at numbers q n at in
          let inside = slice_get_within numbers q n stands in
          let type_stands : slice_get (map (type_at (types pool)) numbers) q ≡ Some (type_at (types pool) n) =
          slice_get-map (type_at (types pool)) numbers q ∙ ap (option_map (type_at (types pool))) stands in
          subst (λ (of : TypeData). HasType s q of) (get_or_from_slice_get (map (type_at (types pool)) numbers) q (type_at (types pool) n) unit_type type_stands)
          (says.0.each q (omega (arith, inside, of_types, long))));
      lacks = λ q of at h. absurd (unknown (slice_get numbers q) (sym (slice_get-map Some numbers q) ∙ at));
      reads = λ h. nodes_read s nodes judged.read says.2.reads;
    }

-- ---- functions

same_known : (s : System) (nodes : List CodeNode) (pool old_pool : List PoolType) (variables old_variables : List (Option ℕ)) (read old_read : ℕ) → pool ≡ old_pool → variables ≡ old_variables → read ≡ old_read
    → Tells s nodes old_pool old_variables old_read → Tells s nodes pool variables read
same_known s nodes pool old_pool variables old_variables read old_read a b c t =
    subst (λ (x : List PoolType). Tells s nodes x variables read) (sym a)
    (subst (λ (x : List (Option ℕ)). Tells s nodes old_pool x read) (sym b) (subst (λ (x : ℕ). Tells s nodes old_pool old_variables x) (sym c) t))

pub known : (program : Program) (f : Function) (t : FunctionTyping) (p : VariableTypes) → p.pool.now ≡ t.pool → p.types.now ≡ t.variables.items → p.read ≡ t.read
    → IsTypingOf program f t → IsListed program f p
known program f t p pool variables read is =
    let s = function_system program f in
    let k : Tells s f.body.nodes p.pool.now p.types.now p.read =
    same_known s f.body.nodes p.pool.now t.pool p.types.now (variables_of (variable_count (function_setting program f)) t.typing) p.read (read_of t.typing)
    pool (variables ∙ is.variables_are) (read ∙ is.read_is) (tells s f.body.nodes t.pool t.typing is.says) in
    record { variables = k.count; within = k.within; has = k.has; lacks = k.lacks; read = k.reads }
