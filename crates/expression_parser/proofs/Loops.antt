-- One step of the loops that read fields, lists and blocks.
use Rattle.std.proofs.Common.{◌≡◌, ℕ, zero, suc, ◌<◌, ◌-◌, Bool, List, [], ◌∷◌, ◌++◌, Option, Some, None, length, refl, sym, ap, ◌∙◌, arith, append_assoc, append-nil}
use Rattle.std.specs.Prelude.{option_and_then}
use Rattle.std.specs.Option.{option_map_or}
use Rattle.base.specs.declared.span.Span.{Span}
use Rattle.tokens.specs.declared.token.Token.{Token}
use Rattle.tokens.specs.declared.token.Punctuation.TheVariants.{Period}
use Rattle.syntax_tree.specs.declared.lexeme.Identifier.{Identifier}
use Rattle.syntax_tree.specs.ExpressionData.{ExpressionData, FieldExpression, ItemData}
use Rattle.parser_base.specs.TokenReading.{Read, after_sign, identifier_at}
use Rattle.parser_base.specs.ListReading.{put_before, some_items_at, items_at, comma_list_at}
use Rattle.parser_base.proofs.Steps.{map_or_none}
use Rattle.parser_base.proofs.ListSteps.{put_before-nil}
use Rattle.expression_parser.specs.declared.block.BlockStep.{BlockStep}
use Rattle.expression_parser.specs.declared.block.BlockStep.TheVariants.{End, One}
use Rattle.expression_parser.specs.ExpressionReading.{Readers, readers, fields_at, Contents, put_items, contents_behind, contents_at, step_at, expression_at, expression_form}

pub expression_at-turn : (n m : ℕ) (ts : List Token) → 0 < n → expression_at n m ts ≡ expression_form (readers (n - 1)) m ts
unfolding expression_at
expression_at-turn zero m ts h = absurd (omega (arith, h))
expression_at-turn (suc n) m ts h = ap (λ k. expression_form (readers k) m ts) (omega arith)

pub expression_at-none : (n m : ℕ) (ts : List Token) → n ≡ 0 → expression_at n m ts ≡ None
unfolding expression_at
expression_at-none n m ts h = ap (λ k. expression_at k m ts) h

-- ---- lists that may be empty

pub list_begins : {X : Type 0} (ends : List Token → Option (List Token)) (item : List Token → Read X) (k : ℕ) (ts : List Token) → ends ts ≡ None → k ≡ length ts → comma_list_at ends item ts ≡ put_before [] (items_at ends item k ts)
unfolding comma_list_at
list_begins ends item k ts e h = map_or_none (ends ts) _ (some_items_at ends item ts) e ∙ ap (λ j. items_at ends item j ts) (sym h) ∙ sym (put_before-nil (items_at ends item k ts))

-- ---- fields

turn : ℕ → ExpressionData → List Token → Option (List Token) → Read ExpressionData
turn n base ts next = option_map_or (λ rest. option_and_then (λ field. fields_at n (FieldExpression base field.0) field.1) (identifier_at rest)) next (Some (base, ts))

pub fields_are_over : (all : Read ExpressionData) (k : ℕ) (base : ExpressionData) (ts : List Token) → all ≡ fields_at k base ts → k ≡ 0 → all ≡ None
unfolding fields_at
fields_are_over all k base ts before e = before ∙ ap (λ j. fields_at j base ts) e

pub fields_end : (all : Read ExpressionData) (k n : ℕ) (base : ExpressionData) (ts : List Token) → all ≡ fields_at k base ts → k ≡ suc n → after_sign Period ts ≡ None → all ≡ Some (base, ts)
unfolding fields_at turn
fields_end all k n base ts before e h = before ∙ ap (λ j. fields_at j base ts) e ∙ ap (turn n base ts) h

pub fields_are_stuck : (all : Read ExpressionData) (k n : ℕ) (base : ExpressionData) (ts us : List Token) → all ≡ fields_at k base ts → k ≡ suc n → after_sign Period ts ≡ Some us → identifier_at us ≡ None → all ≡ None
unfolding fields_at turn
fields_are_stuck all k n base ts us before e h i = before ∙ ap (λ j. fields_at j base ts) e ∙ ap (turn n base ts) h ∙ ap (option_and_then (λ field. fields_at n (FieldExpression base field.0) field.1)) i

pub fields_go_on : (all : Read ExpressionData) (k n : ℕ) (base next : ExpressionData) (ts us rest : List Token) (field : Identifier) → all ≡ fields_at k base ts → k ≡ suc n → after_sign Period ts ≡ Some us → identifier_at us ≡ Some (field, rest)
    → next ≡ FieldExpression base field → all ≡ fields_at n next rest
unfolding fields_at turn
fields_go_on all k n base next ts us rest field before e h i w = before ∙ ap (λ j. fields_at j base ts) e ∙ ap (turn n base ts) h ∙ ap (option_and_then (λ field. fields_at n (FieldExpression base field.0) field.1)) i ∙ ap (λ x. fields_at n x rest) (sym w)

-- ---- blocks

put_items-twice : (xs ys : List ItemData) (read : Read Contents) → put_items xs (put_items ys read) ≡ put_items (xs ++ ys) read
put_items-twice xs ys None = refl
put_items-twice xs ys (Some r) = ap (λ zs. Some ((zs, r.0.1), r.1)) (sym (append_assoc xs ys r.0.0))

pub block_is_over : (inner : Readers) (all : Read Contents) (items : List ItemData) (k : ℕ) (ts : List Token) → all ≡ put_items items (contents_at inner k ts) → k ≡ 0 → all ≡ None
unfolding contents_at
block_is_over inner all items k ts before e = before ∙ ap (λ j. put_items items (contents_at inner j ts)) e

step_turn : (inner : Readers) (k n : ℕ) (ts : List Token) (o : Read BlockStep) → k ≡ suc n → step_at inner ts ≡ o → contents_at inner k ts ≡ option_and_then (λ s. contents_behind s.0 s.1 (contents_at inner n s.1)) o
unfolding contents_at
step_turn inner k n ts o e h = ap (λ j. contents_at inner j ts) e ∙ ap (option_and_then (λ s. contents_behind s.0 s.1 (contents_at inner n s.1))) h

pub block_is_stuck : (inner : Readers) (all : Read Contents) (items : List ItemData) (k n : ℕ) (ts : List Token) → all ≡ put_items items (contents_at inner k ts) → k ≡ suc n → step_at inner ts ≡ None → all ≡ None
block_is_stuck inner all items k n ts before e h = before ∙ ap (put_items items) (step_turn inner k n ts None e h)

pub block_ends : (inner : Readers) (all : Read Contents) (items : List ItemData) (k n : ℕ) (ts rest : List Token) (s : BlockStep) (value : Option ExpressionData) → all ≡ put_items items (contents_at inner k ts) → k ≡ suc n → step_at inner ts ≡ Some (s, rest) → s ≡ End value
    → all ≡ Some ((items, value), rest)
block_ends inner all items k n ts rest s value before e h is =
    before ∙ ap (put_items items) (step_turn inner k n ts (Some (End value, rest)) e (h ∙ ap (λ t. Some (t, rest)) is)) ∙ ap (λ xs. Some ((xs, value), rest)) (append-nil items)

pub block_goes_on : (inner : Readers) (all : Read Contents) (items more : List ItemData) (k n : ℕ) (ts rest : List Token) (s : BlockStep) (item : ItemData) → all ≡ put_items items (contents_at inner k ts) → k ≡ suc n → step_at inner ts ≡ Some (s, rest) → s ≡ One item
    → more ≡ items ++ item ∷ [] → all ≡ put_items more (contents_at inner n rest)
block_goes_on inner all items more k n ts rest s item before e h is m =
    before ∙ ap (put_items items) (step_turn inner k n ts (Some (One item, rest)) e (h ∙ ap (λ t. Some (t, rest)) is)) ∙ put_items-twice items (item ∷ []) (contents_at inner n rest) ∙ ap (λ xs. put_items xs (contents_at inner n rest)) (sym m)
