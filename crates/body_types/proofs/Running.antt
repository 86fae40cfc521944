-- Runs of initialisers, where the types of numbers are known.
use Rattle.std.proofs.Common.{◌≡◌, ℕ, ◌<◌, ◌++◌, Bool, true, false, not, List, [], ◌∷◌, length, get_or, Option, Some, None, below_more, refl, sym, ap, subst, ◌∙◌, arith, length-append}
use Rattle.std.specs.Prelude.{slice_get, is_none, is_some}
use Rattle.std.specs.Bool.{Decides}
use Rattle.std.proofs.lemmas.Bool.{false≢true}
use Rattle.std.proofs.lemmas.List.{get_or_append_left}
use Rattle.std.proofs.Math.Seq.{get_or-append_seam}
use Rattle.base.specs.TypeData.{TypeData, IntType}
use Rattle.base.specs.declared.types.Width.{Width}
use Rattle.program.specs.declared.arena.Node.TheVariants.{Leaf}
use Rattle.program.specs.declared.code.CodeLeaf.TheVariants.{Number}
use Rattle.program.specs.declared.declaration.Constant.{Constant}
use Rattle.program.specs.declared.program.Program.{Program}
use Rattle.program.specs.CodeNodes.{CodeNode}
use Rattle.typing_rules.specs.declared.constant.ConstantValue.{ConstantValue}
use Rattle.typing_rules.specs.Constraint.{Typing}
use Rattle.typing_rules.specs.Answers.{System, IsDefaulted, IsUntypable}
use Rattle.typing_rules.specs.CodeSystems.{constant_system}
use Rattle.typing_rules.specs.ConstantRuns.{run_of}
use Rattle.typing_rules.specs.Faults.{RunFails}
use Rattle.typing_rules.specs.Pools.{type_at, types}
use Rattle.typing_rules.specs.declared.type_pool.PoolType.{PoolType}
use Rattle.body_types.specs.KnownTypes.{TypesNumbers, known_type}
use Rattle.unification.specs.Choices.{IsSound, HasDefaults, WidthSays}
use Rattle.unification.specs.declared.solution.choice.Defaulted.{Defaulted}
use Rattle.body_types.specs.Fitting.{IsNoNumber}
use Rattle.body_types.specs.Runs.{integer_types, IsNumberType, IsNodeType, AreNodeTypes, FailsToRun}
use Rattle.body_types.proofs.Misfitting.{some_typing, stands_within}

pub number_of_width : (s : System) (d : Defaulted) (p number : ℕ) (w : Width) (found : Option Width) → found ≡ Some w → WidthSays d p found → type_at integer_types number ≡ IntType w → HasDefaults s d → p < s.variables → IsNumberType s p number
number_of_width s d p number w found e says is has lt =
    let known : WidthSays d p (Some w) = subst (λ (x : Option Width). WidthSays d p x) e says in
    record { is = λ t h. known s has lt t h ∙ sym is }

pub type_of_number : (s : System) (nodes : List CodeNode) (p number : ℕ) → IsNumberType s p number → IsNodeType s nodes p number
type_of_number s nodes p number is = record { is = λ value stands. is }

pub type_of_none : (s : System) (nodes : List CodeNode) (p number : ℕ) (node : CodeNode) → slice_get nodes p ≡ Some node → IsNoNumber node → IsNodeType s nodes p number
type_of_none s nodes p number node is none = record {
  is = λ value stands. absurd (none value (let e : Some node ≡ Some (Leaf (Number value)) = sym is ∙ stands in cc));
}

pub types_none : (s : System) (nodes : List CodeNode) (numbers : List ℕ) → numbers ≡ [] → AreNodeTypes s nodes numbers
types_none s nodes numbers e = record { each = λ p lt. absurd (let n = ap length e in omega (arith, lt, n)) }

pub types_more : (s : System) (nodes : List CodeNode) (numbers new : List ℕ) (variable number : ℕ) → length numbers ≡ variable → new ≡ numbers ++ number ∷ [] → AreNodeTypes s nodes numbers → IsNodeType s nodes variable number → AreNodeTypes s nodes new
types_more s nodes numbers new variable number count e are here = subst (λ (xs : List ℕ). AreNodeTypes s nodes xs) (sym e) (record {
  each = λ p lt. below_more (λ k. IsNodeType s nodes k (get_or (numbers ++ number ∷ []) k 0)) (length numbers)
      (λ k less. subst (λ (n : ℕ). IsNodeType s nodes k n) (sym (get_or_append_left numbers (number ∷ []) 0 k less)) (are.each k less))
      (subst (λ (n : ℕ). IsNodeType s nodes (length numbers) n) (sym (get_or-append_seam numbers number [] 0)) (subst (λ (k : ℕ). IsNodeType s nodes k number) (sym count) here))
      p (omega (arith, length-append numbers (number ∷ []), lt));
})

types_numbers : (s : System) (nodes : List CodeNode) (pool : List PoolType) (numbers : List ℕ) (t : Typing) → types pool ≡ integer_types → length numbers ≡ length nodes → AreNodeTypes s nodes numbers → IsDefaulted s t →
    TypesNumbers nodes (known_type pool numbers) t
types_numbers s nodes pool numbers t e count are h = record {
  each = λ n value stands.
      let lt : n < length nodes = stands_within nodes n (Leaf (Number value)) stands in
      ((are.each n (omega (arith, lt, count))).is value stands).is t h ∙ ap (λ (ts : List TypeData). type_at ts (get_or numbers n 0)) (sym e);
}

pub none_stated : (x : Option ConstantValue) (b : Bool) → is_some x ≡ not b → b ≡ is_none x
none_stated (Some v) true e = absurd (false≢true (sym e))
none_stated (Some v) false e = refl
none_stated None true e = refl
none_stated None false e = absurd (false≢true e)

none_of : (x : Option ConstantValue) → is_none x ≡ true → x ≡ None
none_of (Some v) e = absurd (false≢true e)
none_of None e = refl

of_none : (x : Option ConstantValue) → x ≡ None → is_none x ≡ true
of_none x e = ap is_none e

pub run_decides : (s : System) (d : Defaulted) (nodes : List CodeNode) (pool : List PoolType) (numbers : List ℕ) (value : Option ConstantValue) (fails : Bool) → IsSound d → HasDefaults s d → types pool ≡ integer_types →
    length numbers ≡ length nodes → AreNodeTypes s nodes numbers → ((t : ℕ → TypeData) → TypesNumbers nodes (known_type pool numbers) t → value ≡ run_of nodes t) → fails ≡ is_none value → Decides fails (FailsToRun s nodes)
run_decides s d nodes pool numbers value fails sound has e count are runs is =
    let some = some_typing s d sound has in (
      λ yes. record {
        typing = some.0;
        chosen = some.1;
        fails = λ t h. sym (runs t (types_numbers s nodes pool numbers t e count are h)) ∙ none_of value (sym is ∙ yes);
      },
      λ f. is ∙ of_none value (runs f.typing (types_numbers s nodes pool numbers f.typing e count are f.chosen) ∙ f.fails f.typing f.chosen),
    )

-- ---- constants

pub no_run_fails : (program : Program) (c : Constant) → IsUntypable (constant_system program c) → Decides false (RunFails program c)
no_run_fails program c none = (λ e. absurd (false≢true e), λ f. absurd (none f.typing f.chosen.typing))

pub constant_fails : (program : Program) (c : Constant) (fails : Bool) → Decides fails (FailsToRun (constant_system program c) c.value.nodes) → Decides fails (RunFails program c)
constant_fails program c fails d = (
  λ e. let f = d.0 e in record { typing = f.typing; chosen = f.chosen; fails = f.fails },
  λ f. d.1 (record { typing = f.typing; chosen = f.chosen; fails = f.fails }),
)
