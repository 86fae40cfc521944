-- Nested expressions are read with a nesting of one less.
use Rattle.std.proofs.Common.{◌≡◌, ℕ, zero, suc, ◌<◌, ◌-◌, Bool, true, false, cond, List, Some, None, ap, arith}
use Rattle.std.specs.Prelude.{option_and_then}
use Rattle.tokens.specs.declared.token.Token.{Token}
use Rattle.syntax_tree.specs.SpecExpressionData.{BindData}
use Rattle.parser_base.specs.TokenReading.{Read}
use Rattle.parser_base.specs.ListReading.{Items, some_items_at}
use Rattle.syntax_tree.specs.TypeTreeData.{SourceTypeData}
use Rattle.parser_base.specs.TypeReading.{type_at}
use Rattle.expression_parser.specs.SpecReading.{Reader, bind_at, binds_end, binds_at, spec_form, spec_at}

pub spec_at-turn : (n : ℕ) (packs : Bool) (minimum : ℕ) (ts : List Token) → 0 < n → spec_at n packs minimum ts ≡ spec_form (type_at (n - 1)) (spec_at (n - 1)) packs minimum ts
unfolding spec_at
spec_at-turn zero packs minimum ts h = absurd (omega (arith, h))
spec_at-turn (suc n) packs minimum ts h = ap (λ k. spec_form (type_at k) (spec_at k) packs minimum ts) (omega arith)

-- ---- binds without a trailing comma

abbrev without_comma : Read (Items BindData) → Read (List BindData)
without_comma found = option_and_then (λ r. cond r.0.1 None (Some (r.0.0, r.1))) found

pub binds_none : (types : List Token → Read SourceTypeData) (range : Reader) (ts : List Token) → some_items_at binds_end (bind_at types range) ts ≡ None → binds_at types range ts ≡ None
unfolding binds_at
binds_none types range ts e = ap without_comma e

pub binds_some : (types : List Token → Read SourceTypeData) (range : Reader) (ts rest : List Token) (xs : List BindData) → some_items_at binds_end (bind_at types range) ts ≡ Some ((xs, false), rest) → binds_at types range ts ≡ Some (xs, rest)
unfolding binds_at
binds_some types range ts rest xs e = ap without_comma e

pub binds_comma : (types : List Token → Read SourceTypeData) (range : Reader) (ts rest : List Token) (xs : List BindData) → some_items_at binds_end (bind_at types range) ts ≡ Some ((xs, true), rest) → binds_at types range ts ≡ None
unfolding binds_at
binds_comma types range ts rest xs e = ap without_comma e
