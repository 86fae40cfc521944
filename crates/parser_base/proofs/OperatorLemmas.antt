-- Binary operators are read exactly.
use Rattle.std.proofs.Common.{◌≡◌, ◌<◌, ◌≤◌, Bool, true, false, cond, ◌&&◌, ◌||◌, List, [], ◌∷◌, Option, Some, None, length, refl, ap, subst, ◌∙◌, arith, append_assoc}
use Rattle.std.specs.Prelude.{codes, option_and_then, nat_le}
use Rattle.std.specs.Option.{option_map_or}
use Rattle.std.proofs.lemmas.Bool.{lt-leb}
use Rattle.base.specs.declared.span.Span.{Span}
use Rattle.tokens.specs.declared.token.Token.{Token}
use Rattle.tokens.specs.declared.token.TokenKind.{TokenKind}
use Rattle.tokens.specs.declared.token.TokenKind.TheVariants.{Word, Number, ByteString, Punctuation}
use Rattle.tokens.specs.declared.token.Punctuation.{Punctuation as Sign}
use Rattle.tokens.specs.declared.token.Punctuation.TheVariants.{PipePipe, AmpersandAmpersand, EqualEqual, ExclaimEqual, Less as less_sign, LessEqual as less_equal_sign, Greater as greater_sign, GreaterEqual as greater_equal_sign, Pipe, Caret, Ampersand, LessLess, Plus, Minus, Star, Slash, Percent}
use Rattle.syntax_tree.specs.declared.operator.BinaryOperator.{BinaryOperator}
use Rattle.syntax_tree.specs.declared.operator.BinaryOperator.TheVariants.{Or, And, Equal, NotEqual, Less, LessEqual, Greater, GreaterEqual, BitOr, BitXor, BitAnd, ShiftLeft, ShiftRight, Add, Subtract, Multiply, Divide, Remainder}
use Rattle.syntax_tree.specs.Lexemes.{Says}
use Rattle.syntax_tree.specs.OperatorSpelling.{sign_of, apart_from_path, operator_spelling}
use Rattle.syntax_tree.specs.ExpressionData.{ExpressionData, BinaryExpression, UnaryExpression, PathExpression}
use Rattle.syntax_tree.specs.ExpressionSpelling.{expression_spelling, ends_in_path}
use Rattle.syntax_tree.specs.ProperExpressions.{operator_level, left_level, right_level, level, unary_level, EndsInOther, MayPrecede, IsProperExpression}
use Rattle.parser_base.specs.Beginnings.{Begins}
use Rattle.parser_base.specs.TokenReading.{Read}
use Rattle.parser_base.specs.ChainReading.{next_operator}
use Rattle.parser_base.proofs.Steps.{step, some_one, if_not, bind_some, map_or_none, map_or_some}
use Rattle.parser_base.proofs.ChainLemmas.{Rules, Parts}
use Rattle.parser_base.proofs.PathLemmas.{is_single-sound, is_single-complete}
use Rattle.parser_base.specs.LeafReading.{after_glued}
use Rattle.parser_base.specs.OperatorReading.{binary_of_sign, binary_of, ends_in_vector, opens_arguments, whole_operator, operator_behind, joints}
use Rattle.parser_base.proofs.LeafLemmas.{after_glued-sound, after_glued-complete}

-- ---- expressions that end in `vector`

pub ends_in_vector-sound : (e : ExpressionData) → ends_in_vector e ≡ false → EndsInOther e
ends_in_vector-sound (PathExpression path) h = is_single-sound (codes "vector") path h
ends_in_vector-sound (BinaryExpression left operator span right) h = ends_in_vector-sound right h
ends_in_vector-sound (UnaryExpression operator span operand) h = ends_in_vector-sound operand h
ends_in_vector-sound _ h = tt

pub ends_in_vector-complete : (e : ExpressionData) → EndsInOther e → ends_in_vector e ≡ false
ends_in_vector-complete (PathExpression path) h = is_single-complete (codes "vector") path h
ends_in_vector-complete (BinaryExpression left operator span right) h = ends_in_vector-complete right h
ends_in_vector-complete (UnaryExpression operator span operand) h = ends_in_vector-complete operand h
ends_in_vector-complete _ h = refl

-- ---- the operator that a sign begins

abbrev IsFirst : BinaryOperator → Type 0
IsFirst ShiftRight = ⊥
IsFirst _ = Unit {0}

pub record FirstOf (kind : TokenKind) (o : BinaryOperator) : Type 0 where
  pub is : kind ≡ Punctuation (sign_of o)
  pub first : IsFirst o

known : (s : Sign) (p o : BinaryOperator) → s ≡ sign_of p → IsFirst p → ◌≡◌ {A = Option BinaryOperator} (Some p) (Some o) → FirstOf (Punctuation s) o
known s p o is f e = subst (FirstOf (Punctuation s)) (some_one p o e) (record { is = ap Punctuation is; first = f })

binary_of_sign-sound : (s : Sign) (o : BinaryOperator) → binary_of_sign s ≡ Some o → FirstOf (Punctuation s) o
binary_of_sign-sound PipePipe o e = known PipePipe Or o refl tt e
binary_of_sign-sound AmpersandAmpersand o e = known AmpersandAmpersand And o refl tt e
binary_of_sign-sound EqualEqual o e = known EqualEqual Equal o refl tt e
binary_of_sign-sound ExclaimEqual o e = known ExclaimEqual NotEqual o refl tt e
binary_of_sign-sound less_sign o e = known less_sign Less o refl tt e
binary_of_sign-sound less_equal_sign o e = known less_equal_sign LessEqual o refl tt e
binary_of_sign-sound greater_sign o e = known greater_sign Greater o refl tt e
binary_of_sign-sound greater_equal_sign o e = known greater_equal_sign GreaterEqual o refl tt e
binary_of_sign-sound Pipe o e = known Pipe BitOr o refl tt e
binary_of_sign-sound Caret o e = known Caret BitXor o refl tt e
binary_of_sign-sound Ampersand o e = known Ampersand BitAnd o refl tt e
binary_of_sign-sound LessLess o e = known LessLess ShiftLeft o refl tt e
binary_of_sign-sound Plus o e = known Plus Add o refl tt e
binary_of_sign-sound Minus o e = known Minus Subtract o refl tt e
binary_of_sign-sound Star o e = known Star Multiply o refl tt e
binary_of_sign-sound Slash o e = known Slash Divide o refl tt e
binary_of_sign-sound Percent o e = known Percent Remainder o refl tt e
binary_of_sign-sound _ o e = absurd (cc)

binary_of-sound : (kind : TokenKind) (o : BinaryOperator) → binary_of kind ≡ Some o → FirstOf kind o
binary_of-sound (Punctuation s) o e = binary_of_sign-sound s o e
binary_of-sound (Word w) o e = absurd (cc)
binary_of-sound (Number literal) o e = absurd (cc)
binary_of-sound (ByteString text) o e = absurd (cc)

neither : (a b : Bool) → (a || b) ≡ false → (a ≡ false) × (b ≡ false)
neither true b e = absurd (cc)
neither false b e = (refl, e)

apart : (path glued : Bool) → (path && glued) ≡ false → Says (apart_from_path path) glued
apart true glued e = e
apart false glued e = tt

by_operator : (l : ExpressionData) (o : BinaryOperator) (t : Token) (ts : List Token) → FirstOf t.kind o → opens_arguments o l t.glued ≡ false → (q : (BinaryOperator × Span) × List Token) → whole_operator o t.span ts ≡ q
    → Begins (operator_spelling q.0.0 q.0.1 (ends_in_path l)) (t ∷ ts) q.1 × MayPrecede q.0.0 l
by_operator l Less t ts f h q e =
    let n = neither (ends_in_path l && t.glued) (ends_in_vector l) h in
    subst (λ q. Begins (operator_spelling q.0.0 q.0.1 (ends_in_path l)) (t ∷ ts) q.1 × MayPrecede q.0.0 l) e
    ((record { kind = f.is; placed = refl; glued = apart (ends_in_path l) t.glued n.0 }, refl), ends_in_vector-sound l n.1)
by_operator l ShiftLeft t ts f h q e =
    subst (λ q. Begins (operator_spelling q.0.0 q.0.1 (ends_in_path l)) (t ∷ ts) q.1 × MayPrecede q.0.0 l) e
    ((record { kind = f.is; placed = refl; glued = apart (ends_in_path l) t.glued h }, refl), tt)
by_operator l ShiftRight t ts f h q e = absurd f.first
by_operator l Greater t ts f h q e = go (after_glued greater_sign ts) refl e
  where
    go : (o : Option (List Token)) → after_glued greater_sign ts ≡ o → option_map_or (λ rest. ((ShiftRight, t.span), rest)) o ((Greater, t.span), ts) ≡ q → Begins (operator_spelling q.0.0 q.0.1 (ends_in_path l)) (t ∷ ts) q.1 × MayPrecede q.0.0 l
    go (Some rest) is e =
        subst (λ q. Begins (operator_spelling q.0.0 q.0.1 (ends_in_path l)) (t ∷ ts) q.1 × MayPrecede q.0.0 l) e
        ((record { kind = f.is; placed = refl; glued = tt }, after_glued-sound greater_sign ts rest is), tt)
    go None is e = subst (λ q. Begins (operator_spelling q.0.0 q.0.1 (ends_in_path l)) (t ∷ ts) q.1 × MayPrecede q.0.0 l) e ((record { kind = f.is; placed = refl; glued = tt }, refl), tt)
by_operator l _ t ts f h q e = subst (λ q. Begins (operator_spelling q.0.0 q.0.1 (ends_in_path l)) (t ∷ ts) q.1 × MayPrecede q.0.0 l) e ((record { kind = f.is; placed = refl; glued = tt }, refl), tt)

pub operator_behind-sound : (l : ExpressionData) (ts : List Token) (q : (BinaryOperator × Span) × List Token) → operator_behind l ts ≡ Some q → Begins (operator_spelling q.0.0 q.0.1 (ends_in_path l)) ts q.1 × MayPrecede q.0.0 l
unfolding operator_behind
operator_behind-sound l [] q e = absurd (cc)
operator_behind-sound l (t ∷ ts) q e =
    let o = step (binary_of t.kind) _ q e in
    let n = if_not (opens_arguments o.value l t.glued) (whole_operator o.value t.span ts) q o.then in
    by_operator l o.value t ts (binary_of-sound t.kind o.value o.first) n.0 q n.1

-- ---- each operator is read

binary_of_sign-complete : (o : BinaryOperator) → IsFirst o → binary_of_sign (sign_of o) ≡ Some o
binary_of_sign-complete ShiftRight f = absurd f
binary_of_sign-complete _ f = refl

behind : (l : ExpressionData) (o : BinaryOperator) (t : Token) (ts : List Token) → t.kind ≡ Punctuation (sign_of o) → IsFirst o → opens_arguments o l t.glued ≡ false → operator_behind l (t ∷ ts) ≡ Some (whole_operator o t.span ts)
unfolding operator_behind
behind l o t ts is f h =
    bind_some (binary_of t.kind) (λ operator. cond (opens_arguments operator l t.glued) None (Some (whole_operator operator t.span ts))) o (ap binary_of is ∙ binary_of_sign-complete o f)
    ∙ ap (λ c. cond c None (Some (whole_operator o t.span ts))) h

glued_path : (path glued : Bool) → Says (apart_from_path path) glued → (path && glued) ≡ false
glued_path true glued s = s
glued_path false glued s = refl

pub operator_behind-complete : (l : ExpressionData) (o : BinaryOperator) (span : Span) (ts us : List Token) → Begins (operator_spelling o span (ends_in_path l)) ts us → MayPrecede o l → after_glued greater_sign us ≡ None → operator_behind l ts ≡ Some ((o, span), us)
operator_behind-complete l Less span [] us b m e = absurd b
operator_behind-complete l ShiftLeft span [] us b m e = absurd b
operator_behind-complete l ShiftRight span [] us b m e = absurd b
operator_behind-complete l Greater span [] us b m e = absurd b
operator_behind-complete l _ span [] us b m e = absurd b
operator_behind-complete l Less span (t ∷ ts) us b m e =
    behind l Less t ts b.0.kind tt (ap (λ c. c || ends_in_vector l) (glued_path (ends_in_path l) t.glued b.0.glued) ∙ ends_in_vector-complete l m) ∙ ap (λ p. Some ((Less, p), ts)) b.0.placed ∙ ap (λ vs. Some ((Less, span), vs)) b.1
operator_behind-complete l ShiftLeft span (t ∷ ts) us b m e =
    behind l ShiftLeft t ts b.0.kind tt (glued_path (ends_in_path l) t.glued b.0.glued) ∙ ap (λ p. Some ((ShiftLeft, p), ts)) b.0.placed ∙ ap (λ vs. Some ((ShiftLeft, span), vs)) b.1
operator_behind-complete l ShiftRight span (t ∷ ts) us b m e =
    behind l Greater t ts b.0.kind tt refl ∙ ap Some (map_or_some (after_glued greater_sign ts) (λ rest. ((ShiftRight, t.span), rest)) ((Greater, t.span), ts) us (after_glued-complete greater_sign ts us b.1))
    ∙ ap (λ p. Some ((ShiftRight, p), us)) b.0.placed
operator_behind-complete l Greater span (t ∷ ts) us b m e =
    behind l Greater t ts b.0.kind tt refl ∙ ap Some (map_or_none (after_glued greater_sign ts) (λ rest. ((ShiftRight, t.span), rest)) ((Greater, t.span), ts) (ap (after_glued greater_sign) b.1 ∙ e))
    ∙ ap (λ p. Some ((Greater, p), ts)) b.0.placed ∙ ap (λ vs. Some ((Greater, span), vs)) b.1
operator_behind-complete l Or span (t ∷ ts) us b m e = behind l Or t ts b.0.kind tt refl ∙ ap (λ p. Some ((Or, p), ts)) b.0.placed ∙ ap (λ vs. Some ((Or, span), vs)) b.1
operator_behind-complete l And span (t ∷ ts) us b m e = behind l And t ts b.0.kind tt refl ∙ ap (λ p. Some ((And, p), ts)) b.0.placed ∙ ap (λ vs. Some ((And, span), vs)) b.1
operator_behind-complete l Equal span (t ∷ ts) us b m e = behind l Equal t ts b.0.kind tt refl ∙ ap (λ p. Some ((Equal, p), ts)) b.0.placed ∙ ap (λ vs. Some ((Equal, span), vs)) b.1
operator_behind-complete l NotEqual span (t ∷ ts) us b m e = behind l NotEqual t ts b.0.kind tt refl ∙ ap (λ p. Some ((NotEqual, p), ts)) b.0.placed ∙ ap (λ vs. Some ((NotEqual, span), vs)) b.1
operator_behind-complete l LessEqual span (t ∷ ts) us b m e = behind l LessEqual t ts b.0.kind tt refl ∙ ap (λ p. Some ((LessEqual, p), ts)) b.0.placed ∙ ap (λ vs. Some ((LessEqual, span), vs)) b.1
operator_behind-complete l GreaterEqual span (t ∷ ts) us b m e = behind l GreaterEqual t ts b.0.kind tt refl ∙ ap (λ p. Some ((GreaterEqual, p), ts)) b.0.placed ∙ ap (λ vs. Some ((GreaterEqual, span), vs)) b.1
operator_behind-complete l BitOr span (t ∷ ts) us b m e = behind l BitOr t ts b.0.kind tt refl ∙ ap (λ p. Some ((BitOr, p), ts)) b.0.placed ∙ ap (λ vs. Some ((BitOr, span), vs)) b.1
operator_behind-complete l BitXor span (t ∷ ts) us b m e = behind l BitXor t ts b.0.kind tt refl ∙ ap (λ p. Some ((BitXor, p), ts)) b.0.placed ∙ ap (λ vs. Some ((BitXor, span), vs)) b.1
operator_behind-complete l BitAnd span (t ∷ ts) us b m e = behind l BitAnd t ts b.0.kind tt refl ∙ ap (λ p. Some ((BitAnd, p), ts)) b.0.placed ∙ ap (λ vs. Some ((BitAnd, span), vs)) b.1
operator_behind-complete l Add span (t ∷ ts) us b m e = behind l Add t ts b.0.kind tt refl ∙ ap (λ p. Some ((Add, p), ts)) b.0.placed ∙ ap (λ vs. Some ((Add, span), vs)) b.1
operator_behind-complete l Subtract span (t ∷ ts) us b m e = behind l Subtract t ts b.0.kind tt refl ∙ ap (λ p. Some ((Subtract, p), ts)) b.0.placed ∙ ap (λ vs. Some ((Subtract, span), vs)) b.1
operator_behind-complete l Multiply span (t ∷ ts) us b m e = behind l Multiply t ts b.0.kind tt refl ∙ ap (λ p. Some ((Multiply, p), ts)) b.0.placed ∙ ap (λ vs. Some ((Multiply, span), vs)) b.1
operator_behind-complete l Divide span (t ∷ ts) us b m e = behind l Divide t ts b.0.kind tt refl ∙ ap (λ p. Some ((Divide, p), ts)) b.0.placed ∙ ap (λ vs. Some ((Divide, span), vs)) b.1
operator_behind-complete l Remainder span (t ∷ ts) us b m e = behind l Remainder t ts b.0.kind tt refl ∙ ap (λ p. Some ((Remainder, p), ts)) b.0.placed ∙ ap (λ vs. Some ((Remainder, span), vs)) b.1

-- ---- levels

pub level_small : (o : BinaryOperator) → operator_level o ≤ 12
level_small Or = omega arith
level_small And = omega arith
level_small BitOr = omega arith
level_small BitXor = omega arith
level_small BitAnd = omega arith
level_small ShiftLeft = omega arith
level_small ShiftRight = omega arith
level_small Add = omega arith
level_small Subtract = omega arith
level_small Multiply = omega arith
level_small Divide = omega arith
level_small Remainder = omega arith
level_small _ = omega arith

-- each operator has a level
pub level_some : (o : BinaryOperator) → 1 ≤ operator_level o
level_some Or = omega arith
level_some And = omega arith
level_some Equal = omega arith
level_some NotEqual = omega arith
level_some Less = omega arith
level_some LessEqual = omega arith
level_some Greater = omega arith
level_some GreaterEqual = omega arith
level_some BitOr = omega arith
level_some BitXor = omega arith
level_some BitAnd = omega arith
level_some ShiftLeft = omega arith
level_some ShiftRight = omega arith
level_some Add = omega arith
level_some Subtract = omega arith
level_some Multiply = omega arith
level_some Divide = omega arith
level_some Remainder = omega arith

-- no binary operator is as tight as the unary ones
pub none_as_tight : (l : ExpressionData) (ts : List Token) → next_operator joints unary_level l ts ≡ None
unfolding next_operator
none_as_tight l ts = go (operator_behind l ts)
  where
    go : (o : Read (BinaryOperator × Span)) → option_and_then {U = (BinaryOperator × Span) × List Token} (λ o. cond (nat_le unary_level (operator_level o.0.0)) (Some (o.0, o.1)) None) o ≡ None
    go None = refl
    go (Some q) = ap (λ c. cond c (Some (q.0, q.1)) None) (lt-leb unary_level (operator_level q.0.0) (omega (arith, level_small q.0.0)))

pub operator_some : (o : BinaryOperator) (span : Span) (path : Bool) → 0 < length (operator_spelling o span path)
operator_some Less span path = omega arith
operator_some ShiftLeft span path = omega arith
operator_some ShiftRight span path = omega arith
operator_some _ span path = omega arith

-- ---- an operator after a joined tree follows its right operand

opens_same : (o : BinaryOperator) (l : ExpressionData) (p : BinaryOperator) (span : Span) (r : ExpressionData) (glued : Bool) → opens_arguments o (BinaryExpression l p span r) glued ≡ opens_arguments o r glued
opens_same Less l p span r glued = refl
opens_same ShiftLeft l p span r glued = refl
opens_same _ l p span r glued = refl

pub join_operator : (l : ExpressionData) (p : BinaryOperator) (span : Span) (r : ExpressionData) (ts : List Token) → operator_behind (BinaryExpression l p span r) ts ≡ operator_behind r ts
unfolding operator_behind
join_operator l p span r [] = refl
join_operator l p span r (t ∷ ts) = go (binary_of t.kind)
  where
    go : (o : Option BinaryOperator) → option_and_then (λ operator. cond (opens_arguments operator (BinaryExpression l p span r) t.glued) None (Some (whole_operator operator t.span ts))) o
        ≡ option_and_then (λ operator. cond (opens_arguments operator r t.glued) None (Some (whole_operator operator t.span ts))) o
    go None = refl
    go (Some o) = ap (λ c. cond c None (Some (whole_operator o t.span ts))) (opens_same o l p span r t.glued)

-- ---- the assumptions of the generic lemmas on operators

pub levels-looser : (o p : BinaryOperator) → operator_level p < right_level o → left_level p ≤ operator_level o
levels-looser o p h = omega (arith, h)

pub levels-tighter : (o p : BinaryOperator) → left_level p ≤ operator_level o → operator_level p < right_level o
levels-tighter o p h = omega (arith, h)

pub join_parts : (l : ExpressionData) (o : BinaryOperator × Span) (r : ExpressionData) → IsProperExpression (BinaryExpression l o.0 o.1 r) → Parts joints IsProperExpression (λ l o. MayPrecede o.0 l) level (λ o. left_level o.0) l o r
join_parts l o r p = record { left_proper = p.0; right_proper = p.1; left_level = p.2; right_level = p.3; suited = p.4 }

-- the sign after an operator does not belong to it
pub record RightSides : Type 0 where
  pub no_greater : (e : ExpressionData) (ts rest : List Token) → Begins (expression_spelling e) ts rest → IsProperExpression e → after_glued greater_sign ts ≡ None

abbrev pub rules : RightSides → Rules joints
rules sides = record {
  spelling = expression_spelling;
  between = λ l o. operator_spelling o.0 o.1 (ends_in_path l);
  proper = IsProperExpression;
  suits = λ l o. MayPrecede o.0 l;
  level_of = level;
  left = λ o. left_level o.0;
  join_spelled = λ l o r. append_assoc (expression_spelling l) (operator_spelling o.0 o.1 (ends_in_path l)) (expression_spelling r);
  join_level = λ l o r. refl;
  join_proper = λ l o r p q h k m. (p, q, h, k, m);
  join_operator = λ l o r ts. join_operator l o.0 o.1 r ts;
  looser = λ o p h. levels-looser o.0 p.0 h;
  tighter = λ o p h. levels-tighter o.0 p.0 h;
  opens = λ ts. after_glued greater_sign ts ≡ None;
  right_opens = sides.no_greater;
  right_some = λ o. omega arith;
  own_left = λ o. omega arith;
  operator_some = λ l o. operator_some o.0 o.1 (ends_in_path l);
  join_parts = join_parts;
  operator_complete = λ l o ts us b m e. operator_behind-complete l o.0 o.1 ts us b m e;
  operator_sound = operator_behind-sound;
}
