-- What is determined of a clause alone: the type of its `let`, and those of the type arguments of its `include`.
use Rattle.std.specs.Prelude.{◌≡◌, ℕ, ◌+◌, ◌<◌, ◌≤◌, Bool, List, length, take, Option, Some, None, slice_get}
use Rattle.base.specs.TypeData.{TypeData}
use Rattle.program.specs.declared.clause.Clause.{Clause}
use Rattle.program.specs.declared.clause.ClauseForm.{ClauseForm}
use Rattle.program.specs.declared.clause.ClauseForm.TheVariants.{Let}
use Rattle.typing_rules.specs.Answers.{System, HasType}
use Rattle.typing_rules.specs.Clauses.{LetType}

-- a type variable has no type
abbrev pub HasNoType : System → ℕ → Type 0
HasNoType s p = (of : TypeData) → HasType s p of → ⊥

-- the type of the value of a `let`; none if it has none, or the clause is no `let`
abbrev pub LetSays : System → ClauseForm → Option LetType → Type 0
LetSays s form None = (is_post : Bool) (value : ℕ) → form ≡ Let is_post value → HasNoType s value
LetSays s form (Some l) = (value : ℕ) × (form ≡ Let l.0 value) × HasType s value l.1

-- the types of the type variables from `first` on, before `end`; none if one of them has none
abbrev pub ArgumentsSay : System → ℕ → ℕ → Option (List TypeData) → Type 0
ArgumentsSay s first end None = (q : ℕ) × ((first ≤ q) × (q < end) × HasNoType s q)
ArgumentsSay s first end (Some types) = (first + length types ≡ end) × ((k : ℕ) (of : TypeData) → slice_get types k ≡ Some of → HasType s (first + k) of)

-- the `let`s of the first so many clauses, with the `let`s of the clauses before it in scope of each
abbrev pub LetsSay : (List (Option LetType) → Clause → System) → List Clause → List (Option LetType) → ℕ → Type 0
LetsSay system clauses lets n = (k : ℕ) (clause : Clause) (of : Option LetType) → k < n → slice_get clauses k ≡ Some clause → slice_get lets k ≡ Some of
    → LetSays (system (take k lets) clause) clause.form of
