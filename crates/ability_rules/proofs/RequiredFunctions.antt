-- A function lacks an ability if and only if a node of it does, or its signature.
use Rattle.std.proofs.Common.{◌≡◌, ◌↔◌, ◌⊎◌, inl, inr, ℕ, ◌+◌, ◌-◌, ◌<◌, ◌≤◌, Bool, true, false, ◌||◌, List, length, Option, Some, refl, sym, ◌∙◌, ap, subst, arith}
use Rattle.std.specs.Prelude.{slice_get}
use Rattle.std.specs.Bool.{IsTrue}
use Rattle.std.proofs.lemmas.Bool.{cases_lt}
use Rattle.std.proofs.lemmas.Option.{slice_get_within}
use Rattle.program.specs.Trees.{IsBelow}
use Rattle.program.specs.declared.declaration.AbilitySet.{AbilitySet}
use Rattle.program.specs.declared.declaration.Function.{Function}
use Rattle.program.specs.declared.declaration.TypeParameter.{TypeParameter}
use Rattle.program.specs.declared.program.Program.{Program}
use Rattle.program.specs.CodeNodes.{CodeNode}
use Rattle.typing_rules.specs.CodeSystems.{function_setting}
use Rattle.typing_rules.specs.Settings.{first_argument}
use Rattle.typing_rules.specs.Required.{FunctionLacksAbility, LacksDeclared, given_abilities, node_parameters}
use Rattle.type_constraints.proofs.Variables.{nodes_within, storage_within}
use Rattle.ability_rules.specs.declared.required.entry.JudgedTypes.{JudgedTypes}
use Rattle.ability_rules.specs.Bodies.{IsJudgedBody, LacksArgument, node_lacks, judged_variable, writes_lacking}
use Rattle.ability_rules.specs.Nodes.{NodeLacksAbility}
use Rattle.ability_rules.proofs.Within.{required_within}
use Rattle.ability_rules.proofs.Bodies.{argument_lacks, required_lacks, lacks_argument, lacks_required, lacks_written, nodes_read, written_lacks}

some_same : (found : Option CodeNode) (a b : CodeNode) → found ≡ Some a → found ≡ Some b → a ≡ b
some_same found a b e g = cc

-- a disjunction of three
cases_of_three : (a b c : Bool) → (a || b || c) ≡ true → (a ≡ true) ⊎ ((b ≡ true) ⊎ (c ≡ true))
cases_of_three true b c h = inl refl
cases_of_three false true c h = inr (inl refl)
cases_of_three false false c h = inr (inr h)

first_of_three : (a b c : Bool) → a ≡ true → (a || b || c) ≡ true
first_of_three true b c e = refl
first_of_three false b c e = absurd (cc)

second_of_three : (a b c : Bool) → b ≡ true → (a || b || c) ≡ true
second_of_three true b c e = refl
second_of_three false true c e = refl
second_of_three false false c e = absurd (cc)

third_of_three : (a b c : Bool) → c ≡ true → (a || b || c) ≡ true
third_of_three true b c e = refl
third_of_three false true c e = refl
third_of_three false false c e = e

module _ (program : Program) (f : Function) (variables : List ℕ) (table : JudgedTypes) (body : IsJudgedBody program f variables table) (n : ℕ) (form : CodeNode) (stands : slice_get f.body.nodes n ≡ Some form) where
  abbrev first : ℕ → ℕ
  first k = first_argument (function_setting program f) k

  same : (k : ℕ) (g : CodeNode) → k ≡ n → slice_get f.body.nodes k ≡ Some g → g ≡ form
  same k g e h = some_same (slice_get f.body.nodes n) g form (subst (λ (m : ℕ). slice_get f.body.nodes m ≡ Some g) e h) stands

  pub node_is : IsBelow n form → (asks argues writes : Bool)
      → asks ≡ node_lacks (judged_variable table variables) f.body.nodes n (first n) form
      → IsTrue argues ↔ LacksArgument (judged_variable table variables) (node_parameters program form) (first n) (first (n + 1) - first n)
      → writes ≡ writes_lacking program.structs (given_abilities f.type_parameters) form
      → IsTrue (asks || argues || writes) ↔ NodeLacksAbility program f n
  node_is below asks argues writes e g w =
      let b = slice_get_within f.body.nodes n form stands in
      let all = nodes_within program f body.types variables body.typed in
      let long : length f.body.nodes ≤ length variables = omega (arith, all) in
      let within = required_within f.body.nodes (length variables) n (first n) b long form below (storage_within program f body.types variables body.typed n form stands) in (
        λ t. elim (cases_of_three asks argues writes t) [
          | inl a ↦ inl (required_lacks program f variables table body n form stands within (sym e ∙ a))
          | inr r ↦ elim r [
            | inl a ↦ inr (inl (argument_lacks program f variables table body n form stands (g.0 a)))
            | inr a ↦ inr (inr (written_lacks program f n form stands (nodes_read program f variables table body n form stands) (sym w ∙ a)))
          ]
        ],
        λ h. elim h [
          | inl a ↦ first_of_three asks argues writes (e ∙ lacks_required program f variables table body n form within a.0 a.1 (same a.0.node a.0.form a.1 a.0.stands))
          | inr r ↦ elim r [
            | inl a ↦ second_of_three asks argues writes (g.1 (lacks_argument program f variables table body n form stands a.0 a.1 (same a.0.node a.0.form a.1 a.0.stands) (same a.0.node a.0.given.form a.1 a.0.given.stands)))
            | inr a ↦ third_of_three asks argues writes (w ∙ lacks_written program f form a.0 (same a.0.node a.0.form a.1 a.0.stands))
          ]
        ],
      )

  -- the same for the values in the code
  pub node_answer : IsBelow n form → (start next : ℕ) (params : List AbilitySet) (parameters : List TypeParameter) → start ≡ first n → next ≡ first (n + 1) → params ≡ given_abilities f.type_parameters → parameters ≡ node_parameters program form
      → (asks argues writes : Bool) → asks ≡ node_lacks (judged_variable table variables) f.body.nodes n start form → IsTrue argues ↔ LacksArgument (judged_variable table variables) parameters start (next - start)
      → writes ≡ writes_lacking program.structs params form → IsTrue (asks || argues || writes) ↔ NodeLacksAbility program f n
  node_answer below start next params parameters s t p q asks argues writes e g w =
      node_is below asks argues writes
      (e ∙ ap (λ (k : ℕ). node_lacks (judged_variable table variables) f.body.nodes n k form) s)
      (subst (λ (ps : List TypeParameter). IsTrue argues ↔ LacksArgument (judged_variable table variables) ps (first n) (first (n + 1) - first n)) q
      (subst (λ (k : ℕ). IsTrue argues ↔ LacksArgument (judged_variable table variables) parameters (first n) (k - first n)) t
      (subst (λ (k : ℕ). IsTrue argues ↔ LacksArgument (judged_variable table variables) parameters k (next - k)) s g)))
      (w ∙ ap (λ (ps : List AbilitySet). writes_lacking program.structs ps form) p)

-- ---- the whole

pub node_found : (program : Program) (f : Function) (n : ℕ) → NodeLacksAbility program f n → FunctionLacksAbility program f
node_found program f n h = elim h [
  | inl a ↦ inl a.0
  | inr r ↦ elim r [ inl a ↦ inr (inl a.0) | inr a ↦ inr (inr (inl a.0)) ]
]

pub more_able : (program : Program) (f : Function) (n : ℕ) → (NodeLacksAbility program f n → ⊥) → ((k : ℕ) → k < n → NodeLacksAbility program f k → ⊥) → (k : ℕ) → k < n + 1 → NodeLacksAbility program f k → ⊥
more_able program f n able before k lt h = elim (cases_lt k n) [
  | inl less ↦ before k less h
  | inr more ↦ (let same : k ≡ n = omega (arith, lt, more) in able (subst (λ (m : ℕ). NodeLacksAbility program f m) same h))
]

pub none_found : (program : Program) (f : Function) (signature : Bool) → ((n : ℕ) → n < length f.body.nodes → NodeLacksAbility program f n → ⊥) → IsTrue signature ↔ LacksDeclared program f → IsTrue signature ↔ FunctionLacksAbility program f
none_found program f signature none declared = (
  λ t. inr (inr (inr (declared.0 t))),
  λ h. elim h [
    | inl a ↦ absurd (none a.node (slice_get_within f.body.nodes a.node a.form a.stands) (inl (a, refl)))
    | inr r ↦ elim r [
      | inl a ↦ absurd (none a.node (slice_get_within f.body.nodes a.node a.form a.stands) (inr (inl (a, refl))))
      | inr s ↦ elim s [
        | inl a ↦ absurd (none a.node (slice_get_within f.body.nodes a.node a.form a.stands) (inr (inr (a, refl))))
        | inr d ↦ declared.1 d
      ]
    ]
  ],
)
