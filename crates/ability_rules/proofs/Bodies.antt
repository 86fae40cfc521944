-- The judgments for the type variables of a body agree with the definitions.
use Rattle.std.proofs.Common.{◌≡◌, ℕ, ◌+◌, ◌-◌, ◌<◌, true, ◌&&◌, List, length, get_or, All, Some, refl, sym, ◌∙◌, ap, subst, arith}
use Rattle.std.specs.Prelude.{slice_get, not, Contains}
use Rattle.std.proofs.lemmas.Bool.{not-true, not_from_false}
use Rattle.std.proofs.lemmas.Option.{slice_get_within}
use Rattle.std.proofs.lemmas.List.Folds.{Any-from_list_any, list_any-from_Any}
use Rattle.base.specs.TypeData.{TypeData}
use Rattle.program.specs.declared.declaration.Function.{Function}
use Rattle.program.specs.declared.program.Program.{Program}
use Rattle.program.specs.CodeNodes.{CodeNode}
use Rattle.typing_rules.specs.Answers.{HasType, NodeIsRead}
use Rattle.typing_rules.specs.CodeSystems.{function_setting, function_system}
use Rattle.typing_rules.specs.Settings.{first_argument, node_arity}
use Rattle.typing_rules.specs.Required.{Ability, LacksRequired, LacksConstraint, LacksWritten, abilities_in, required_at, constrained_in, given_abilities, has_ability, is_constrained, meets_parameter, node_parameters, written_at}
use Rattle.typing_rules.specs.Pools.{type_at}
use Rattle.type_constraints.proofs.Variables.{argument_within, next_first, one_type, variable_type}
use Rattle.type_constraints.proofs.TypedNodesReading.{typed_read}
use Rattle.ability_rules.specs.declared.required.entry.Judged.{Judged}
use Rattle.ability_rules.specs.declared.required.entry.JudgedTypes.{JudgedTypes}
use Rattle.ability_rules.specs.Entries.{judged_type}
use Rattle.ability_rules.specs.Bodies.{IsJudgedBody, LacksArgument, is_argument, is_lacking, node_lacks, judged_variable, writes_lacking}

module _ (program : Program) (f : Function) (variables : List ℕ) (table : JudgedTypes) (body : IsJudgedBody program f variables table) where
  abbrev pub of : ℕ → TypeData
  of p = type_at body.types (get_or variables p 0)

  abbrev known : ℕ → Judged
  known p = judged_variable table variables p

  abbrev first : ℕ → ℕ
  first n = first_argument (function_setting program f) n

  pub has_type : (p : ℕ) → p < length variables → HasType (function_system program f) p (of p)
  has_type p h = variable_type program f body.types variables body.typed p h

  known_is : (p : ℕ) → p < length variables → known p ≡ judged_type program.structs (given_abilities f.type_parameters) (of p)
  known_is p h = body.tells.each (get_or variables p 0) (body.known p 0 h)

  pub stated_at : (p : ℕ) (t : TypeData) → p < length variables → HasType (function_system program f) p t → known p ≡ judged_type program.structs (given_abilities f.type_parameters) t
  stated_at p t h has = known_is p h ∙ ap (judged_type program.structs (given_abilities f.type_parameters)) (one_type program f p (of p) t (has_type p h) has)

  pub nodes_read : (n : ℕ) (form : CodeNode) → slice_get f.body.nodes n ≡ Some form → NodeIsRead (function_system program f) n
  nodes_read n form e = typed_read program f _ body.typed n (slice_get_within f.body.nodes n form e)

  -- ---- required abilities

  pub required_lacks : (n : ℕ) (form : CodeNode) → slice_get f.body.nodes n ≡ Some form → All (λ (ask : ℕ × Ability). ask.0 < length variables) (required_at f.body.nodes n (first n) form)
      → node_lacks known f.body.nodes n (first n) form ≡ true → (h : LacksRequired program f) × (h.node ≡ n)
  required_lacks n form e within lack =
      let any = Any-from_list_any (is_lacking known) (required_at f.body.nodes n (first n) form) lack in
      let inside = subst (λ (x : ℕ × Ability). x.0 < length variables) any.3 (within any.0 any.1 any.2) in (
        record {
          node = n;
          form = form;
          stands = e;
          is_read = nodes_read n form e;
          variable = any.1.0;
          ability = any.1.1;
          required = (any.0, any.2, any.3);
          of = of any.1.0;
          is_type = has_type any.1.0 inside;
          lacks = ap (λ (j : Judged). has_ability any.1.1 j.abilities) (sym (known_is any.1.0 inside)) ∙ not-true _ any.4;
        },
        refl,
      )

  pub lacks_required : (n : ℕ) (form : CodeNode) → All (λ (ask : ℕ × Ability). ask.0 < length variables) (required_at f.body.nodes n (first n) form)
      → (h : LacksRequired program f) → h.node ≡ n → h.form ≡ form → node_lacks known f.body.nodes n (first n) form ≡ true
  lacks_required n form within h at is =
      let required : Contains (required_at f.body.nodes n (first n) form) (h.variable, h.ability) =
      subst (λ (y : CodeNode). Contains (required_at f.body.nodes n (first n) y) (h.variable, h.ability)) is
      (subst (λ (k : ℕ). Contains (required_at f.body.nodes k (first k) h.form) (h.variable, h.ability)) at h.required) in
      let inside : h.variable < length variables = subst (λ (x : ℕ × Ability). x.0 < length variables) required.2 (within required.0 (h.variable, h.ability) required.1) in
      list_any-from_Any (is_lacking known) (required_at f.body.nodes n (first n) form) (
        required.0,
        (h.variable, h.ability),
        required.1,
        required.2,
        not_from_false _ (ap (λ (j : Judged). has_ability h.ability j.abilities) (stated_at h.variable h.of inside h.is_type) ∙ h.lacks),
      )

  -- ---- type arguments

  pub argument_lacks : (n : ℕ) (form : CodeNode) → slice_get f.body.nodes n ≡ Some form
      → LacksArgument known (node_parameters program form) (first n) (first (n + 1) - first n) → (h : LacksConstraint program f) × (h.node ≡ n)
  argument_lacks n form e lack =
      let next = next_first program f n form e in
      let inside = lack.within in
      let less : lack.number < node_arity program form = omega (arith, next, inside) in
      let there = argument_within program f body.types variables body.typed n form e lack.number less in (
        record {
          node = n;
          form = form;
          stands = e;
          is_read = nodes_read n form e;
          number = lack.number;
          of = of (first n + lack.number);
          given = record {
            form = form;
            stands = e;
            within = less;
            is_type = has_type (first n + lack.number) there;
          };
          lacks = ap (λ (j : Judged). is_argument j (node_parameters program form) lack.number) (sym (known_is (first n + lack.number) there)) ∙ lack.lacks;
        },
        refl,
      )

  pub lacks_argument : (n : ℕ) (form : CodeNode) → slice_get f.body.nodes n ≡ Some form → (h : LacksConstraint program f) → h.node ≡ n → h.form ≡ form → h.given.form ≡ form
      → LacksArgument known (node_parameters program form) (first n) (first (n + 1) - first n)
  lacks_argument n form e h at is same =
      let next = next_first program f n form e in
      let less : h.number < node_arity program form = subst (λ (y : CodeNode). h.number < node_arity program y) same h.given.within in
      let there = argument_within program f body.types variables body.typed n form e h.number less in
      let has : HasType (function_system program f) (first n + h.number) h.of =
      subst (λ (k : ℕ). HasType (function_system program f) (first k + h.number) h.of) at h.given.is_type in
      record {
        number = h.number;
        within = omega (arith, next, less);
        lacks = ap (λ (j : Judged). is_argument j (node_parameters program form) h.number) (stated_at (first n + h.number) h.of there has)
            ∙ ap (λ (y : CodeNode). (constrained_in program f h.of && meets_parameter (slice_get (node_parameters program y) h.number) (abilities_in program f h.of))) (sym is)
            ∙ h.lacks;
      }

-- ---- written types

module _ (program : Program) (f : Function) where
  pub written_lacks : (n : ℕ) (form : CodeNode) → slice_get f.body.nodes n ≡ Some form → NodeIsRead (function_system program f) n
      → writes_lacking program.structs (given_abilities f.type_parameters) form ≡ true → (h : LacksWritten program f) × (h.node ≡ n)
  written_lacks n form e read lack =
      let any = Any-from_list_any (λ (t : TypeData). not (is_constrained program.structs (given_abilities f.type_parameters) t)) (written_at form) lack in (
        record {
          node = n;
          form = form;
          stands = e;
          is_read = read;
          of = any.1;
          written = (any.0, any.2, any.3);
          lacks = not-true _ any.4;
        },
        refl,
      )

  pub lacks_written : (form : CodeNode) (h : LacksWritten program f) → h.form ≡ form → writes_lacking program.structs (given_abilities f.type_parameters) form ≡ true
  lacks_written form h is =
      let written = subst (λ (y : CodeNode). Contains (written_at y) h.of) is h.written in
      list_any-from_Any (λ (t : TypeData). not (is_constrained program.structs (given_abilities f.type_parameters) t)) (written_at form)
      (written.0, h.of, written.1, written.2, not_from_false _ h.lacks)
