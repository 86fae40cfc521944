-- The reader of the clauses between the braces of a block, by its slot.
use Rattle.std.specs.Prelude.{ℕ, Bool, true, false, if◌then◌else◌, List, Option, Some, None, is_some, option_and_then, length, not}
use Rattle.std.specs.Option.{option_map}
use Rattle.std.specs.List.{list_all}
use Rattle.tokens.specs.declared.token.Token.{Token}
use Rattle.tokens.specs.declared.token.Punctuation.TheVariants.{LeftBrace, RightBrace}
use Rattle.syntax_tree.specs.declared.clause.Clause.{Clause}
use Rattle.syntax_tree.specs.declared.clause.Clause.TheVariants.{Pragma, Requires, Ensures, AbortsIf, Modifies, Invariant, Let, Include, Variable}
use Rattle.syntax_tree.specs.declared.slot.Slot.{Slot}
use Rattle.syntax_tree.specs.declared.slot.Slot.TheVariants.{Function, Struct, Module, Schema, SpecFunction, Loop}
use Rattle.parser_base.specs.TokenReading.{Read, after_sign}
use Rattle.parser_base.specs.RepeatReading.{repeat_at}
use Rattle.item_parser.specs.ClauseReading.{clause_at}

abbrev pub in_function : Clause → Bool
in_function (Pragma span pragmas) = true
in_function (Requires span e) = true
in_function (Ensures span e) = true
in_function (AbortsIf span e code) = true
in_function (Modifies span targets) = true
in_function (Invariant span is_update e) = false
in_function (Let span is_post name e) = true
in_function (Include i) = true
in_function (Variable x) = false

abbrev pub in_struct : Clause → Bool
in_struct (Pragma span pragmas) = true
in_struct (Requires span e) = false
in_struct (Ensures span e) = false
in_struct (AbortsIf span e code) = false
in_struct (Modifies span targets) = false
in_struct (Invariant span is_update e) = not is_update
in_struct (Let span is_post name e) = true
in_struct (Include i) = true
in_struct (Variable x) = false

abbrev pub in_module : Clause → Bool
in_module (Pragma span pragmas) = true
in_module (Requires span e) = false
in_module (Ensures span e) = false
in_module (AbortsIf span e code) = false
in_module (Modifies span targets) = false
in_module (Invariant span is_update e) = true
in_module (Let span is_post name e) = true
in_module (Include i) = true
in_module (Variable x) = false

abbrev pub in_loop : Clause → Bool
in_loop (Pragma span pragmas) = false
in_loop (Requires span e) = false
in_loop (Ensures span e) = false
in_loop (AbortsIf span e code) = false
in_loop (Modifies span targets) = false
in_loop (Invariant span is_update e) = not is_update
in_loop (Let span is_post name e) = false
in_loop (Include i) = false
in_loop (Variable x) = false

-- decides whether a block may hold a clause
abbrev pub may_hold : Slot → Clause → Bool
may_hold Function clause = in_function clause
may_hold Struct clause = in_struct clause
may_hold Module clause = in_module clause
may_hold Schema clause = true
may_hold SpecFunction clause = false
may_hold Loop clause = in_loop clause

abbrev pub may_hold_all : Slot → List Clause → Bool
may_hold_all slot clauses = list_all (may_hold slot) clauses

-- the same tokens, if another clause begins, before the brace of the block
unfoldable pub before_clause : List Token → Option (List Token)
before_clause ts = if is_some (after_sign RightBrace ts) then None else Some ts

unfoldable pub clauses_at : ℕ → List Token → Read (List Clause)
clauses_at n ts = repeat_at before_clause (clause_at n) (length ts) ts

-- the clauses of a block, with its braces
unfoldable pub block_at : Slot → ℕ → List Token → Read (List Clause)
block_at slot n ts =
    option_and_then (λ inside.
    option_and_then (λ clauses. if may_hold_all slot clauses.0 then option_map (λ rest. (clauses.0, rest)) (after_sign RightBrace clauses.1) else None)
    (clauses_at n inside)) (after_sign LeftBrace ts)
