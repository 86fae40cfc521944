-- The tokens that can follow an expression, so that it ends before them.
use Rattle.std.proofs.Common.{◌≡◌, ℕ, ◌<◌, ◌≤◌, Bool, true, false, cond, List, [], ◌∷◌, Some, None, refl, sym, ap, ◌∙◌, arith}
use Rattle.std.specs.Prelude.{codes, is_some, option_and_then, nat_le}
use Rattle.std.proofs.lemmas.Bool.{lt-leb}
use Rattle.base.specs.declared.span.Span.{Span}
use Rattle.tokens.specs.declared.token.Token.{Token}
use Rattle.tokens.specs.declared.token.TokenKind.{TokenKind}
use Rattle.tokens.specs.declared.token.TokenKind.TheVariants.{Word, Punctuation}
use Rattle.tokens.specs.declared.token.Punctuation.{Punctuation as Sign}
use Rattle.tokens.specs.declared.token.Punctuation.TheVariants.{LeftParenthesis, RightParenthesis, LeftBrace, RightBrace, LeftBracket, RightBracket, Comma, Semicolon, ColonColon, Period, Equal, Less as less_sign, Greater as greater_sign, Exclaim}
use Rattle.syntax_tree.specs.declared.lexeme.Lexeme.{Lexeme}
use Rattle.syntax_tree.specs.declared.operator.BinaryOperator.{BinaryOperator}
use Rattle.syntax_tree.specs.declared.operator.BinaryOperator.TheVariants.{Or, And, Equal as equal_operator, NotEqual, Less, LessEqual, Greater, GreaterEqual, BitOr, BitXor, BitAnd, ShiftLeft, ShiftRight, Add, Subtract, Multiply, Divide, Remainder}
use Rattle.syntax_tree.specs.Lexemes.{lexeme, word, sign}
use Rattle.syntax_tree.specs.OperatorSpelling.{apart_from_path, operator_spelling}
use Rattle.syntax_tree.specs.ExpressionData.{ExpressionData, BinaryExpression}
use Rattle.syntax_tree.specs.ExpressionSpelling.{ends_in_path}
use Rattle.syntax_tree.specs.ProperExpressions.{operator_level, right_level, MayPrecede, IsProperExpression, takes_else, level}
use Rattle.parser_base.specs.Beginnings.{Begins}
use Rattle.parser_base.specs.TokenReading.{is_sign, is_keyword, after_sign, after_word}
use Rattle.parser_base.specs.ChainReading.{next_operator}
use Rattle.parser_base.proofs.Steps.{bind_some, true_or_false}
use Rattle.parser_base.proofs.TokenLemmas.{is_sign-sound, after_sign-other, after_word-other}
use Rattle.parser_base.proofs.FirstLemmas.{First, First-weaker, after_sign-first}
use Rattle.parser_base.specs.LeafReading.{after_glued, may_begin, begins_expression}
use Rattle.parser_base.specs.OperatorReading.{opens_arguments, whole_operator, binary_of_sign, binary_of, ends_in_vector, operator_behind, joints}
use Rattle.parser_base.proofs.LeafLemmas.{after_glued-none, after_glued-apart}
use Rattle.parser_base.proofs.OperatorLemmas.{ends_in_vector-complete, operator_behind-complete}
use Rattle.parser_base.proofs.OpenLemmas.{differs, high_no_else}

-- no token that continues a term
pub record Quiet (rest : List Token) : Type 0 where
  pub colons : after_sign ColonColon rest ≡ None
  pub parenthesis : after_sign LeftParenthesis rest ≡ None
  pub brace : after_sign LeftBrace rest ≡ None
  pub bracket : after_sign LeftBracket rest ≡ None
  pub exclaim : after_sign Exclaim rest ≡ None

-- the term ends here; fields can follow
pub record TermEnds (e : ExpressionData) (rest : List Token) : Type 0 where
  pub quiet : Quiet rest
  pub glue : ends_in_path e ≡ true → after_glued less_sign rest ≡ None
  pub vector : ends_in_vector e ≡ true → after_sign less_sign rest ≡ None

-- the operand ends here
pub record OperandEnds (e : ExpressionData) (rest : List Token) : Type 0 where
  pub term : TermEnds e rest
  pub period : after_sign Period rest ≡ None

-- any expression ends here, except an `if` that could take an `else`
pub record Closes (rest : List Token) : Type 0 where
  pub quiet : Quiet rest
  pub period : after_sign Period rest ≡ None
  pub less : after_sign less_sign rest ≡ None
  pub equal : after_sign Equal rest ≡ None
  pub operator : (e : ExpressionData) → operator_behind e rest ≡ None
  pub begin : may_begin rest ≡ false

-- an expression read from this level on ends here
pub record Follows (m : ℕ) (e : ExpressionData) (rest : List Token) : Type 0 where
  pub operand : OperandEnds e rest
  pub stops : 0 < m → next_operator joints m e rest ≡ None
  pub closes : m ≡ 0 → Closes rest
  pub free : takes_else e ≡ true → after_word (codes "else") rest ≡ None

pub closed_operand : (e : ExpressionData) (rest : List Token) → Closes rest → OperandEnds e rest
closed_operand e rest c = record { term = record { quiet = c.quiet; glue = λ h. after_glued-none less_sign rest c.less; vector = λ h. c.less }; period = c.period }

pub closed_stops : (m : ℕ) (e : ExpressionData) (rest : List Token) → Closes rest → next_operator joints m e rest ≡ None
unfolding next_operator
closed_stops m e rest c = ap (option_and_then (λ o. cond (nat_le m (operator_level o.0.0)) (Some (o.0, o.1)) None)) (c.operator e)

pub follows_closed : (m : ℕ) (e : ExpressionData) (rest : List Token) → Closes rest → (takes_else e ≡ true → after_word (codes "else") rest ≡ None) → Follows m e rest
follows_closed m e rest c f = record { operand = closed_operand e rest c; stops = λ h. closed_stops m e rest c; closes = λ h. c; free = f }

-- ---- closing signs and words

abbrev pub closing : Sign → Bool
closing RightParenthesis = true
closing RightBrace = true
closing RightBracket = true
closing Comma = true
closing Semicolon = true
closing _ = false

other_sign : (s x : Sign) → closing s ≡ true → closing x ≡ false → is_sign x (Punctuation s) ≡ false
other_sign s x c d = go (is_sign x (Punctuation s)) refl
  where
    same : Punctuation s ≡ Punctuation x → s ≡ x
    same h = cc

    go : (b : Bool) → is_sign x (Punctuation s) ≡ b → is_sign x (Punctuation s) ≡ false
    go true h = differs (sym c ∙ ap closing (same (is_sign-sound x (Punctuation s) h)) ∙ d)
    go false h = h

closing_no_operator : (s : Sign) → closing s ≡ true → binary_of_sign s ≡ None
closing_no_operator RightParenthesis c = refl
closing_no_operator RightBrace c = refl
closing_no_operator RightBracket c = refl
closing_no_operator Comma c = refl
closing_no_operator Semicolon c = refl
closing_no_operator _ c = absurd (cc)

closing_no_beginning : (s : Sign) → closing s ≡ true → begins_expression (Punctuation s) ≡ false
closing_no_beginning RightParenthesis c = refl
closing_no_beginning RightBrace c = refl
closing_no_beginning RightBracket c = refl
closing_no_beginning Comma c = refl
closing_no_beginning Semicolon c = refl
closing_no_beginning _ c = absurd (cc)

no_operator : (e : ExpressionData) (l : Lexeme) (ls : List Lexeme) (ts rest : List Token) → binary_of l.kind ≡ None → Begins (l ∷ ls) ts rest → operator_behind e ts ≡ None
unfolding operator_behind
no_operator e l ls [] rest h b = absurd b
no_operator e l ls (t ∷ ts) rest h b = ap (option_and_then (λ operator. cond (opens_arguments operator e t.glued) None (Some (whole_operator operator t.span ts)))) (ap binary_of b.0.kind ∙ h)

no_beginning : (l : Lexeme) (ls : List Lexeme) (ts rest : List Token) → begins_expression l.kind ≡ false → Begins (l ∷ ls) ts rest → may_begin ts ≡ false
unfolding may_begin
no_beginning l ls [] rest h b = absurd b
no_beginning l ls (t ∷ ts) rest h b = ap begins_expression b.0.kind ∙ h

closes_with : (l : Lexeme) (ls : List Lexeme) (ts rest : List Token) → ((x : Sign) → closing x ≡ false → is_sign x l.kind ≡ false) → binary_of l.kind ≡ None → begins_expression l.kind ≡ false → Begins (l ∷ ls) ts rest → Closes ts
closes_with l ls ts rest f o h b = record {
  quiet = record {
    colons = after_sign-other ColonColon l ls ts rest (f ColonColon refl) b;
    parenthesis = after_sign-other LeftParenthesis l ls ts rest (f LeftParenthesis refl) b;
    brace = after_sign-other LeftBrace l ls ts rest (f LeftBrace refl) b;
    bracket = after_sign-other LeftBracket l ls ts rest (f LeftBracket refl) b;
    exclaim = after_sign-other Exclaim l ls ts rest (f Exclaim refl) b;
  };
  period = after_sign-other Period l ls ts rest (f Period refl) b;
  less = after_sign-other less_sign l ls ts rest (f less_sign refl) b;
  equal = after_sign-other Equal l ls ts rest (f Equal refl) b;
  operator = λ e. no_operator e l ls ts rest o b;
  begin = no_beginning l ls ts rest h b;
}

pub closes_sign : (s : Sign) (ls : List Lexeme) (ts rest : List Token) → closing s ≡ true → Begins (sign s ∷ ls) ts rest → Closes ts
closes_sign s ls ts rest c b = closes_with (sign s) ls ts rest (λ x d. other_sign s x c d) (closing_no_operator s c) (closing_no_beginning s c) b

-- a keyword after an expression ends it
pub closes_word : (w : List ℕ) (ls : List Lexeme) (ts rest : List Token) → begins_expression (Word w) ≡ false → Begins (word w None ∷ ls) ts rest → Closes ts
closes_word w ls ts rest h b = closes_with (word w None) ls ts rest (λ x d. refl) refl h b

pub else_begins_none : begins_expression (Word (codes "else")) ≡ false
unfolding is_keyword
else_begins_none = refl

pub as_begins_none : begins_expression (Word (codes "as")) ≡ false
unfolding is_keyword
as_begins_none = refl

pub no_else_at_sign : (s : Sign) (ls : List Lexeme) (ts rest : List Token) → Begins (sign s ∷ ls) ts rest → after_word (codes "else") ts ≡ None
no_else_at_sign s ls ts rest b = after_word-other (codes "else") (sign s) ls ts rest refl b

-- an expression ends before a closing sign
pub follows_sign : (s : Sign) (e : ExpressionData) (ls : List Lexeme) (ts rest : List Token) → closing s ≡ true → Begins (sign s ∷ ls) ts rest → Follows 0 e ts
follows_sign s e ls ts rest c b = follows_closed 0 e ts (closes_sign s ls ts rest c b) (λ h. no_else_at_sign s ls ts rest b)

-- no tokens remain
pub closes_end : Closes []
unfolding after_sign operator_behind may_begin
closes_end = record {
  quiet = record { colons = refl; parenthesis = refl; brace = refl; bracket = refl; exclaim = refl };
  period = refl;
  less = refl;
  equal = refl;
  operator = λ e. refl;
  begin = refl;
}

-- ---- operators

abbrev IsOperator : TokenKind → Type 0
IsOperator k = is_some (binary_of k) ≡ true

operator_first : (o : BinaryOperator) (span : Span) (path : Bool) → First IsOperator (operator_spelling o span path)
operator_first Less span path = refl
operator_first ShiftLeft span path = refl
operator_first ShiftRight span path = refl
operator_first _ span path = refl

operator_no_sign : (s : Sign) → binary_of_sign s ≡ None → (k : TokenKind) → IsOperator k → is_sign s k ≡ false
operator_no_sign s e k o = go (is_sign s k) refl
  where
    go : (b : Bool) → is_sign s k ≡ b → is_sign s k ≡ false
    go true h = differs (sym o ∙ ap (λ k. is_some (binary_of k)) (is_sign-sound s k h) ∙ ap (λ x. is_some {T = BinaryOperator} x) e)
    go false h = h

module _ (e : ExpressionData) (o : BinaryOperator) (span : Span) (ts us : List Token) (begins : Begins (operator_spelling o span (ends_in_path e)) ts us) where
  pub no_such_sign : (s : Sign) → binary_of_sign s ≡ None → after_sign s ts ≡ None
  no_such_sign s h = after_sign-first s (operator_spelling o span (ends_in_path e)) ts us (First-weaker IsOperator (λ k. is_sign s k ≡ false) (operator_no_sign s h) (operator_spelling o span (ends_in_path e)) (operator_first o span (ends_in_path e))) begins

-- a `<` after a path is not glued to it
glue_less : (e : ExpressionData) (o : BinaryOperator) (span : Span) (ts us : List Token) → Begins (operator_spelling o span (ends_in_path e)) ts us → ends_in_path e ≡ true → after_glued less_sign ts ≡ None
glue_less e Less span ts us b h = after_glued-apart less_sign (lexeme (Punctuation less_sign) (Some span) (apart_from_path (ends_in_path e))) [] ts us (ap apart_from_path h) b
glue_less e ShiftLeft span ts us b h = after_glued-none less_sign ts (after_sign-first less_sign (operator_spelling ShiftLeft span (ends_in_path e)) ts us refl b)
glue_less e ShiftRight span ts us b h = after_glued-none less_sign ts (after_sign-first less_sign (operator_spelling ShiftRight span (ends_in_path e)) ts us refl b)
glue_less e Or span ts us b h = after_glued-none less_sign ts (after_sign-first less_sign (operator_spelling Or span (ends_in_path e)) ts us refl b)
glue_less e And span ts us b h = after_glued-none less_sign ts (after_sign-first less_sign (operator_spelling And span (ends_in_path e)) ts us refl b)
glue_less e equal_operator span ts us b h = after_glued-none less_sign ts (after_sign-first less_sign (operator_spelling equal_operator span (ends_in_path e)) ts us refl b)
glue_less e NotEqual span ts us b h = after_glued-none less_sign ts (after_sign-first less_sign (operator_spelling NotEqual span (ends_in_path e)) ts us refl b)
glue_less e LessEqual span ts us b h = after_glued-none less_sign ts (after_sign-first less_sign (operator_spelling LessEqual span (ends_in_path e)) ts us refl b)
glue_less e Greater span ts us b h = after_glued-none less_sign ts (after_sign-first less_sign (operator_spelling Greater span (ends_in_path e)) ts us refl b)
glue_less e GreaterEqual span ts us b h = after_glued-none less_sign ts (after_sign-first less_sign (operator_spelling GreaterEqual span (ends_in_path e)) ts us refl b)
glue_less e BitOr span ts us b h = after_glued-none less_sign ts (after_sign-first less_sign (operator_spelling BitOr span (ends_in_path e)) ts us refl b)
glue_less e BitXor span ts us b h = after_glued-none less_sign ts (after_sign-first less_sign (operator_spelling BitXor span (ends_in_path e)) ts us refl b)
glue_less e BitAnd span ts us b h = after_glued-none less_sign ts (after_sign-first less_sign (operator_spelling BitAnd span (ends_in_path e)) ts us refl b)
glue_less e Add span ts us b h = after_glued-none less_sign ts (after_sign-first less_sign (operator_spelling Add span (ends_in_path e)) ts us refl b)
glue_less e Subtract span ts us b h = after_glued-none less_sign ts (after_sign-first less_sign (operator_spelling Subtract span (ends_in_path e)) ts us refl b)
glue_less e Multiply span ts us b h = after_glued-none less_sign ts (after_sign-first less_sign (operator_spelling Multiply span (ends_in_path e)) ts us refl b)
glue_less e Divide span ts us b h = after_glued-none less_sign ts (after_sign-first less_sign (operator_spelling Divide span (ends_in_path e)) ts us refl b)
glue_less e Remainder span ts us b h = after_glued-none less_sign ts (after_sign-first less_sign (operator_spelling Remainder span (ends_in_path e)) ts us refl b)

-- no `<` follows the word `vector`
vector_less : (e : ExpressionData) (o : BinaryOperator) (span : Span) (ts us : List Token) → Begins (operator_spelling o span (ends_in_path e)) ts us → MayPrecede o e → ends_in_vector e ≡ true → after_sign less_sign ts ≡ None
vector_less e Less span ts us b m h = differs (sym h ∙ ends_in_vector-complete e m)
vector_less e ShiftLeft span ts us b m h = after_sign-first less_sign (operator_spelling ShiftLeft span (ends_in_path e)) ts us refl b
vector_less e ShiftRight span ts us b m h = after_sign-first less_sign (operator_spelling ShiftRight span (ends_in_path e)) ts us refl b
vector_less e Or span ts us b m h = after_sign-first less_sign (operator_spelling Or span (ends_in_path e)) ts us refl b
vector_less e And span ts us b m h = after_sign-first less_sign (operator_spelling And span (ends_in_path e)) ts us refl b
vector_less e equal_operator span ts us b m h = after_sign-first less_sign (operator_spelling equal_operator span (ends_in_path e)) ts us refl b
vector_less e NotEqual span ts us b m h = after_sign-first less_sign (operator_spelling NotEqual span (ends_in_path e)) ts us refl b
vector_less e LessEqual span ts us b m h = after_sign-first less_sign (operator_spelling LessEqual span (ends_in_path e)) ts us refl b
vector_less e Greater span ts us b m h = after_sign-first less_sign (operator_spelling Greater span (ends_in_path e)) ts us refl b
vector_less e GreaterEqual span ts us b m h = after_sign-first less_sign (operator_spelling GreaterEqual span (ends_in_path e)) ts us refl b
vector_less e BitOr span ts us b m h = after_sign-first less_sign (operator_spelling BitOr span (ends_in_path e)) ts us refl b
vector_less e BitXor span ts us b m h = after_sign-first less_sign (operator_spelling BitXor span (ends_in_path e)) ts us refl b
vector_less e BitAnd span ts us b m h = after_sign-first less_sign (operator_spelling BitAnd span (ends_in_path e)) ts us refl b
vector_less e Add span ts us b m h = after_sign-first less_sign (operator_spelling Add span (ends_in_path e)) ts us refl b
vector_less e Subtract span ts us b m h = after_sign-first less_sign (operator_spelling Subtract span (ends_in_path e)) ts us refl b
vector_less e Multiply span ts us b m h = after_sign-first less_sign (operator_spelling Multiply span (ends_in_path e)) ts us refl b
vector_less e Divide span ts us b m h = after_sign-first less_sign (operator_spelling Divide span (ends_in_path e)) ts us refl b
vector_less e Remainder span ts us b m h = after_sign-first less_sign (operator_spelling Remainder span (ends_in_path e)) ts us refl b

-- an operand ends before an operator that can follow it
pub operator_ends : (e : ExpressionData) (o : BinaryOperator) (span : Span) (ts us : List Token) → Begins (operator_spelling o span (ends_in_path e)) ts us → MayPrecede o e → OperandEnds e ts
operator_ends e o span ts us b m = record {
  term = record {
    quiet = record {
      colons = no_such_sign e o span ts us b ColonColon refl;
      parenthesis = no_such_sign e o span ts us b LeftParenthesis refl;
      brace = no_such_sign e o span ts us b LeftBrace refl;
      bracket = no_such_sign e o span ts us b LeftBracket refl;
      exclaim = no_such_sign e o span ts us b Exclaim refl;
    };
    glue = glue_less e o span ts us b;
    vector = vector_less e o span ts us b m;
  };
  period = no_such_sign e o span ts us b Period refl;
}

may_stand_right : (o : BinaryOperator) (l : ExpressionData) (p : BinaryOperator) (span : Span) (r : ExpressionData) → MayPrecede o (BinaryExpression l p span r) → MayPrecede o r
may_stand_right Less l p span r m = m
may_stand_right _ l p span r m = tt

-- the right operand of an operator ends before a looser one
pub operator_follows : (l : ExpressionData) (o : BinaryOperator × Span) (r : ExpressionData) (p : BinaryOperator × Span) (ts us : List Token) → Begins (operator_spelling p.0 p.1 (ends_in_path (BinaryExpression l o.0 o.1 r))) ts us → MayPrecede p.0 (BinaryExpression l o.0 o.1 r)
    → after_glued greater_sign us ≡ None → operator_level p.0 < right_level o.0 → IsProperExpression r → right_level o.0 ≤ level r → Follows (right_level o.0) r ts
unfolding next_operator
operator_follows l o r p ts us b m g h e k = record {
  operand = operator_ends r p.0 p.1 ts us b (may_stand_right p.0 l o.0 o.1 r m);
  stops = λ z. bind_some (operator_behind r ts) (λ o2. cond (nat_le (right_level o.0) (operator_level o2.0.0)) (Some (o2.0, o2.1)) None) (p, us) (operator_behind-complete r p.0 p.1 ts us b (may_stand_right p.0 l o.0 o.1 r m) g)
      ∙ ap (λ b. cond b (Some (p, us)) None) (lt-leb (right_level o.0) (operator_level p.0) h);
  closes = λ z. absurd (omega (arith, z));
  free = λ f. absurd (true_or_false (takes_else r) f (high_no_else r (omega (arith, k))));
}
