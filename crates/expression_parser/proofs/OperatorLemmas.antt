-- The operators of spec expressions are read exactly.
use Rattle.std.proofs.Common.{◌≡◌, ◌<◌, ◌≤◌, Bool, true, false, cond, ◌&&◌, List, [], ◌∷◌, ◌++◌, Option, Some, None, refl, sym, ap, subst, ◌∙◌, arith}
use Rattle.std.specs.Prelude.{option_and_then}
use Rattle.base.specs.declared.span.Span.{Span}
use Rattle.tokens.specs.declared.token.Token.{Token}
use Rattle.tokens.specs.declared.token.TokenKind.{TokenKind}
use Rattle.tokens.specs.declared.token.TokenKind.TheVariants.{Word, Number, ByteString, Punctuation}
use Rattle.tokens.specs.declared.token.Punctuation.{Punctuation as Sign}
use Rattle.tokens.specs.declared.token.Punctuation.TheVariants.{LeftParenthesis, RightParenthesis, LeftBrace, RightBrace, LeftBracket, RightBracket, Comma, Semicolon, Colon, ColonColon, Period, PeriodPeriod, Equal as equal_sign, EqualEqual, EqualEqualGreater, ExclaimEqual, Exclaim, Less as less_sign, LessEqual as less_equal_sign, LessEqualEqualGreater, LessLess, Greater as greater_sign, GreaterEqual as greater_equal_sign, Plus, Minus, Star, Slash, Percent, Ampersand, AmpersandAmpersand, Pipe, PipePipe, Caret, AtSign, NumberSign}
use Rattle.syntax_tree.specs.declared.lexeme.Lexeme.{Lexeme}
use Rattle.syntax_tree.specs.declared.operator.BinaryOperator.{BinaryOperator}
use Rattle.syntax_tree.specs.declared.operator.BinaryOperator.TheVariants.{Or, And, Equal, NotEqual, Less, LessEqual, Greater, GreaterEqual, BitOr, BitXor, BitAnd, ShiftLeft, Add, Subtract, Multiply, Divide, Remainder, ShiftRight}
use Rattle.syntax_tree.specs.Lexemes.{lexeme, sign_at, Says}
use Rattle.syntax_tree.specs.OperatorSpelling.{sign_of, apart_from_path}
use Rattle.syntax_tree.specs.ProperExpressions.{operator_level}
use Rattle.syntax_tree.specs.declared.spec_expression.operator.SpecOperator.{SpecOperator}
use Rattle.syntax_tree.specs.declared.spec_expression.operator.SpecOperator.TheVariants.{Equivalent, Implies, Range, Common}
use Rattle.syntax_tree.specs.SpecOperatorSpelling.{spec_operator_spelling}
use Rattle.syntax_tree.specs.ProperSpecExpressions.{spec_operator_level, left_level, right_level}
use Rattle.parser_base.specs.Beginnings.{Begins}
use Rattle.parser_base.specs.TokenReading.{Read, is_sign, after_sign}
use Rattle.parser_base.proofs.Steps.{step, some_one, if_not, bind_some, cond_false, map_or_none, map_or_some}
use Rattle.parser_base.proofs.BeginLemmas.{Begins-append, Begins-same}
use Rattle.parser_base.proofs.TokenLemmas.{is_sign-sound, after_sign-other}
use Rattle.parser_base.specs.LeafReading.{after_glued}
use Rattle.expression_parser.specs.OperatorReading.{sign_operator, kind_operator, opens_arguments, lengthened, spec_operator_at}
use Rattle.parser_base.proofs.LeafLemmas.{glued, after_glued-sound, after_glued-complete, after_glued-other, after_glued-apart}

-- ---- the first sign of an operator

abbrev pub first_sign : SpecOperator → Sign
first_sign Equivalent = LessEqualEqualGreater
first_sign Implies = EqualEqualGreater
first_sign Range = PeriodPeriod
first_sign (Common operator) = sign_of operator

abbrev is_shift_right : SpecOperator → Bool
is_shift_right (Common ShiftRight) = true
is_shift_right _ = false

-- a single sign begins no shift to the right
sign_operator-sound : (s : Sign) (o : SpecOperator) → sign_operator s ≡ Some o → (s ≡ first_sign o) × (is_shift_right o ≡ false)
sign_operator-sound LeftParenthesis o e = absurd (cc)
sign_operator-sound RightParenthesis o e = absurd (cc)
sign_operator-sound LeftBrace o e = absurd (cc)
sign_operator-sound RightBrace o e = absurd (cc)
sign_operator-sound LeftBracket o e = absurd (cc)
sign_operator-sound RightBracket o e = absurd (cc)
sign_operator-sound Comma o e = absurd (cc)
sign_operator-sound Semicolon o e = absurd (cc)
sign_operator-sound Colon o e = absurd (cc)
sign_operator-sound ColonColon o e = absurd (cc)
sign_operator-sound Period o e = absurd (cc)
sign_operator-sound PeriodPeriod o e = subst (λ p. (PeriodPeriod ≡ first_sign p) × (is_shift_right p ≡ false)) (some_one Range o e) (refl, refl)
sign_operator-sound equal_sign o e = absurd (cc)
sign_operator-sound EqualEqual o e = subst (λ p. (EqualEqual ≡ first_sign p) × (is_shift_right p ≡ false)) (some_one (Common Equal) o e) (refl, refl)
sign_operator-sound EqualEqualGreater o e = subst (λ p. (EqualEqualGreater ≡ first_sign p) × (is_shift_right p ≡ false)) (some_one Implies o e) (refl, refl)
sign_operator-sound ExclaimEqual o e = subst (λ p. (ExclaimEqual ≡ first_sign p) × (is_shift_right p ≡ false)) (some_one (Common NotEqual) o e) (refl, refl)
sign_operator-sound Exclaim o e = absurd (cc)
sign_operator-sound less_sign o e = subst (λ p. (less_sign ≡ first_sign p) × (is_shift_right p ≡ false)) (some_one (Common Less) o e) (refl, refl)
sign_operator-sound less_equal_sign o e = subst (λ p. (less_equal_sign ≡ first_sign p) × (is_shift_right p ≡ false)) (some_one (Common LessEqual) o e) (refl, refl)
sign_operator-sound LessEqualEqualGreater o e = subst (λ p. (LessEqualEqualGreater ≡ first_sign p) × (is_shift_right p ≡ false)) (some_one Equivalent o e) (refl, refl)
sign_operator-sound LessLess o e = subst (λ p. (LessLess ≡ first_sign p) × (is_shift_right p ≡ false)) (some_one (Common ShiftLeft) o e) (refl, refl)
sign_operator-sound greater_sign o e = subst (λ p. (greater_sign ≡ first_sign p) × (is_shift_right p ≡ false)) (some_one (Common Greater) o e) (refl, refl)
sign_operator-sound greater_equal_sign o e = subst (λ p. (greater_equal_sign ≡ first_sign p) × (is_shift_right p ≡ false)) (some_one (Common GreaterEqual) o e) (refl, refl)
sign_operator-sound Plus o e = subst (λ p. (Plus ≡ first_sign p) × (is_shift_right p ≡ false)) (some_one (Common Add) o e) (refl, refl)
sign_operator-sound Minus o e = subst (λ p. (Minus ≡ first_sign p) × (is_shift_right p ≡ false)) (some_one (Common Subtract) o e) (refl, refl)
sign_operator-sound Star o e = subst (λ p. (Star ≡ first_sign p) × (is_shift_right p ≡ false)) (some_one (Common Multiply) o e) (refl, refl)
sign_operator-sound Slash o e = subst (λ p. (Slash ≡ first_sign p) × (is_shift_right p ≡ false)) (some_one (Common Divide) o e) (refl, refl)
sign_operator-sound Percent o e = subst (λ p. (Percent ≡ first_sign p) × (is_shift_right p ≡ false)) (some_one (Common Remainder) o e) (refl, refl)
sign_operator-sound Ampersand o e = subst (λ p. (Ampersand ≡ first_sign p) × (is_shift_right p ≡ false)) (some_one (Common BitAnd) o e) (refl, refl)
sign_operator-sound AmpersandAmpersand o e = subst (λ p. (AmpersandAmpersand ≡ first_sign p) × (is_shift_right p ≡ false)) (some_one (Common And) o e) (refl, refl)
sign_operator-sound Pipe o e = subst (λ p. (Pipe ≡ first_sign p) × (is_shift_right p ≡ false)) (some_one (Common BitOr) o e) (refl, refl)
sign_operator-sound PipePipe o e = subst (λ p. (PipePipe ≡ first_sign p) × (is_shift_right p ≡ false)) (some_one (Common Or) o e) (refl, refl)
sign_operator-sound Caret o e = subst (λ p. (Caret ≡ first_sign p) × (is_shift_right p ≡ false)) (some_one (Common BitXor) o e) (refl, refl)
sign_operator-sound AtSign o e = absurd (cc)
sign_operator-sound NumberSign o e = absurd (cc)

kind_operator-sound : (kind : TokenKind) (o : SpecOperator) → kind_operator kind ≡ Some o → (kind ≡ Punctuation (first_sign o)) × (is_shift_right o ≡ false)
kind_operator-sound (Punctuation s) o e = let c = sign_operator-sound s o e in (ap Punctuation c.0, c.1)
kind_operator-sound (Word name) o e = absurd (cc)
kind_operator-sound (Number literal) o e = absurd (cc)
kind_operator-sound (ByteString text) o e = absurd (cc)

-- ---- the first token of an operator

abbrev pub first_lexeme : SpecOperator → Span → Bool → Lexeme
first_lexeme o span after_path = lexeme (Punctuation (first_sign o)) (Some span) (cond (opens_arguments o) (apart_from_path after_path) None)

-- what follows the first token
abbrev pub later_lexemes : SpecOperator → List Lexeme
later_lexemes (Common ShiftRight) = glued greater_sign ∷ []
later_lexemes _ = []

pub operator_spelled : (o : SpecOperator) (span : Span) (after_path : Bool) → spec_operator_spelling o span after_path ≡ first_lexeme o span after_path ∷ later_lexemes o
operator_spelled Equivalent span after_path = refl
operator_spelled Implies span after_path = refl
operator_spelled Range span after_path = refl
operator_spelled (Common Or) span after_path = refl
operator_spelled (Common And) span after_path = refl
operator_spelled (Common Equal) span after_path = refl
operator_spelled (Common NotEqual) span after_path = refl
operator_spelled (Common Less) span after_path = refl
operator_spelled (Common LessEqual) span after_path = refl
operator_spelled (Common Greater) span after_path = refl
operator_spelled (Common GreaterEqual) span after_path = refl
operator_spelled (Common BitOr) span after_path = refl
operator_spelled (Common BitXor) span after_path = refl
operator_spelled (Common BitAnd) span after_path = refl
operator_spelled (Common ShiftLeft) span after_path = refl
operator_spelled (Common Add) span after_path = refl
operator_spelled (Common Subtract) span after_path = refl
operator_spelled (Common Multiply) span after_path = refl
operator_spelled (Common Divide) span after_path = refl
operator_spelled (Common Remainder) span after_path = refl
operator_spelled (Common ShiftRight) span after_path = refl

apart_or_other : (after_path glued opens : Bool) → (after_path && (glued && opens)) ≡ false → Says (cond opens (apart_from_path after_path) None) glued
apart_or_other true true true e = absurd (cc)
apart_or_other true false true e = refl
apart_or_other false glued true e = tt
apart_or_other after_path glued false e = tt

other_or_apart : (after_path glued opens : Bool) → Says (cond opens (apart_from_path after_path) None) glued → (after_path && (glued && opens)) ≡ false
other_or_apart false glued opens s = refl
other_or_apart true glued true s = ap (λ g. g && true) s
other_or_apart true true false s = refl
other_or_apart true false false s = refl

lengthened-sound : (o : SpecOperator) (span : Span) (after_path : Bool) (whole ts : List Token) → is_shift_right o ≡ false → Begins (first_lexeme o span after_path ∷ []) whole ts
    → Begins (spec_operator_spelling (lengthened o span ts).0.0 (lengthened o span ts).0.1 after_path) whole (lengthened o span ts).1
lengthened-sound Equivalent span after_path whole ts n b = b
lengthened-sound Implies span after_path whole ts n b = b
lengthened-sound Range span after_path whole ts n b = b
lengthened-sound (Common Or) span after_path whole ts n b = b
lengthened-sound (Common And) span after_path whole ts n b = b
lengthened-sound (Common Equal) span after_path whole ts n b = b
lengthened-sound (Common NotEqual) span after_path whole ts n b = b
lengthened-sound (Common Less) span after_path whole ts n b = b
lengthened-sound (Common LessEqual) span after_path whole ts n b = b
lengthened-sound (Common Greater) span after_path whole ts n b = go (after_glued greater_sign ts) refl
  where
    Spelled : (SpecOperator × Span) × List Token → Type 0
    Spelled q = Begins (spec_operator_spelling q.0.0 q.0.1 after_path) whole q.1

    go : (found : Option (List Token)) → after_glued greater_sign ts ≡ found → Spelled (lengthened (Common Greater) span ts)
    go None e = subst Spelled (sym (map_or_none (after_glued greater_sign ts) (λ rest. ((Common ShiftRight, span), rest)) ((Common Greater, span), ts) e)) b
    go (Some rest) e =
        subst Spelled (sym (map_or_some (after_glued greater_sign ts) (λ rest. ((Common ShiftRight, span), rest)) ((Common Greater, span), ts) rest e))
        (Begins-append (sign_at span greater_sign ∷ []) (glued greater_sign ∷ []) whole ts rest b (after_glued-sound greater_sign ts rest e))
lengthened-sound (Common GreaterEqual) span after_path whole ts n b = b
lengthened-sound (Common BitOr) span after_path whole ts n b = b
lengthened-sound (Common BitXor) span after_path whole ts n b = b
lengthened-sound (Common BitAnd) span after_path whole ts n b = b
lengthened-sound (Common ShiftLeft) span after_path whole ts n b = b
lengthened-sound (Common Add) span after_path whole ts n b = b
lengthened-sound (Common Subtract) span after_path whole ts n b = b
lengthened-sound (Common Multiply) span after_path whole ts n b = b
lengthened-sound (Common Divide) span after_path whole ts n b = b
lengthened-sound (Common Remainder) span after_path whole ts n b = b
lengthened-sound (Common ShiftRight) span after_path whole ts n b = absurd (cc)

pub spec_operator_at-sound : (after_path : Bool) (ts : List Token) (q : (SpecOperator × Span) × List Token) → spec_operator_at after_path ts ≡ Some q → Begins (spec_operator_spelling q.0.0 q.0.1 after_path) ts q.1
unfolding spec_operator_at
spec_operator_at-sound after_path [] q e = absurd (cc)
spec_operator_at-sound after_path (t ∷ ts) q e =
    let s = step (kind_operator t.kind) _ q e in
    let c = if_not (after_path && (t.glued && opens_arguments s.value)) (lengthened s.value t.span ts) q s.then in
    let k = kind_operator-sound t.kind s.value s.first in
    subst (λ p. Begins (spec_operator_spelling p.0.0 p.0.1 after_path) (t ∷ ts) p.1) c.1
    (lengthened-sound s.value t.span after_path (t ∷ ts) ts k.1 (record { kind = k.0; placed = refl; glued = apart_or_other after_path t.glued (opens_arguments s.value) c.0 }, refl))

-- an operator of one token
single : (o : SpecOperator) (span : Span) (after_path : Bool) (ts us : List Token) → kind_operator (Punctuation (first_sign o)) ≡ Some o → lengthened o span us ≡ ((o, span), us)
    → Begins (first_lexeme o span after_path ∷ []) ts us → spec_operator_at after_path ts ≡ Some ((o, span), us)
unfolding spec_operator_at
single o span after_path [] us k l b = absurd b
single o span after_path (t ∷ ts) us k l b =
    bind_some (kind_operator t.kind) (λ o. cond (after_path && (t.glued && opens_arguments o)) None (Some (lengthened o t.span ts))) o (ap kind_operator b.0.kind ∙ k)
    ∙ cond_false (after_path && (t.glued && opens_arguments o)) None (Some (lengthened o t.span ts)) (other_or_apart after_path t.glued (opens_arguments o) b.0.glued)
    ∙ ap (λ p. Some (lengthened o p ts)) b.0.placed ∙ ap (λ vs. Some (lengthened o span vs)) b.1 ∙ ap Some l

shift_right : (span : Span) (after_path : Bool) (ts us : List Token) → Begins (sign_at span greater_sign ∷ glued greater_sign ∷ []) ts us → spec_operator_at after_path ts ≡ Some ((Common ShiftRight, span), us)
unfolding spec_operator_at
shift_right span after_path [] us b = absurd b
shift_right span after_path (t ∷ ts) us b =
    bind_some (kind_operator t.kind) (λ o. cond (after_path && (t.glued && opens_arguments o)) None (Some (lengthened o t.span ts))) (Common Greater) (ap kind_operator b.0.kind)
    ∙ cond_false (after_path && (t.glued && false)) None (Some (lengthened (Common Greater) t.span ts)) (other_or_apart after_path t.glued false tt)
    ∙ ap (λ p. Some (lengthened (Common Greater) p ts)) b.0.placed
    ∙ ap Some (map_or_some (after_glued greater_sign ts) (λ rest. ((Common ShiftRight, span), rest)) ((Common Greater, span), ts) us (after_glued-complete greater_sign ts us b.1))

-- a `>` without a glued `>` after it is a comparison
pub spec_operator_at-complete : (o : SpecOperator) (span : Span) (after_path : Bool) (ts us : List Token) → Begins (spec_operator_spelling o span after_path) ts us → after_glued greater_sign us ≡ None
    → spec_operator_at after_path ts ≡ Some ((o, span), us)
spec_operator_at-complete Equivalent span after_path ts us b h = single Equivalent span after_path ts us refl refl b
spec_operator_at-complete Implies span after_path ts us b h = single Implies span after_path ts us refl refl b
spec_operator_at-complete Range span after_path ts us b h = single Range span after_path ts us refl refl b
spec_operator_at-complete (Common Or) span after_path ts us b h = single (Common Or) span after_path ts us refl refl b
spec_operator_at-complete (Common And) span after_path ts us b h = single (Common And) span after_path ts us refl refl b
spec_operator_at-complete (Common Equal) span after_path ts us b h = single (Common Equal) span after_path ts us refl refl b
spec_operator_at-complete (Common NotEqual) span after_path ts us b h = single (Common NotEqual) span after_path ts us refl refl b
spec_operator_at-complete (Common Less) span after_path ts us b h = single (Common Less) span after_path ts us refl refl b
spec_operator_at-complete (Common LessEqual) span after_path ts us b h = single (Common LessEqual) span after_path ts us refl refl b
spec_operator_at-complete (Common Greater) span after_path ts us b h =
    single (Common Greater) span after_path ts us refl (map_or_none (after_glued greater_sign us) (λ rest. ((Common ShiftRight, span), rest)) ((Common Greater, span), us) h) b
spec_operator_at-complete (Common GreaterEqual) span after_path ts us b h = single (Common GreaterEqual) span after_path ts us refl refl b
spec_operator_at-complete (Common BitOr) span after_path ts us b h = single (Common BitOr) span after_path ts us refl refl b
spec_operator_at-complete (Common BitXor) span after_path ts us b h = single (Common BitXor) span after_path ts us refl refl b
spec_operator_at-complete (Common BitAnd) span after_path ts us b h = single (Common BitAnd) span after_path ts us refl refl b
spec_operator_at-complete (Common ShiftLeft) span after_path ts us b h = single (Common ShiftLeft) span after_path ts us refl refl b
spec_operator_at-complete (Common Add) span after_path ts us b h = single (Common Add) span after_path ts us refl refl b
spec_operator_at-complete (Common Subtract) span after_path ts us b h = single (Common Subtract) span after_path ts us refl refl b
spec_operator_at-complete (Common Multiply) span after_path ts us b h = single (Common Multiply) span after_path ts us refl refl b
spec_operator_at-complete (Common Divide) span after_path ts us b h = single (Common Divide) span after_path ts us refl refl b
spec_operator_at-complete (Common Remainder) span after_path ts us b h = single (Common Remainder) span after_path ts us refl refl b
spec_operator_at-complete (Common ShiftRight) span after_path ts us b h = shift_right span after_path ts us b

abbrev with_found : Bool → Token → List Token → Option SpecOperator → Read (SpecOperator × Span)
with_found after_path t ts found = option_and_then (λ o. cond (after_path && (t.glued && opens_arguments o)) None (Some (lengthened o t.span ts))) found

none_behind_path : (t : Token) (ts : List Token) (found : Option SpecOperator) → with_found false t ts found ≡ None → with_found true t ts found ≡ None
none_behind_path t ts None e = refl
none_behind_path t ts (Some o) e = absurd (cc)

-- tokens that begin no operator begin none after a path
pub spec_operator_at-none : (after_path : Bool) (ts : List Token) → spec_operator_at false ts ≡ None → spec_operator_at after_path ts ≡ None
unfolding spec_operator_at
spec_operator_at-none false ts e = e
spec_operator_at-none true [] e = refl
spec_operator_at-none true (t ∷ ts) e = none_behind_path t ts (kind_operator t.kind) e

-- if no operator begins with the first token, none is here
pub spec_operator_at-other : (after_path : Bool) (l : Lexeme) (ls : List Lexeme) (ts rest : List Token) → kind_operator l.kind ≡ None → Begins (l ∷ ls) ts rest → spec_operator_at after_path ts ≡ None
unfolding spec_operator_at
spec_operator_at-other after_path l ls [] rest e b = absurd b
spec_operator_at-other after_path l ls (t ∷ ts) rest e b = ap (option_and_then (λ o. cond (after_path && (t.glued && opens_arguments o)) None (Some (lengthened o t.span ts)))) (ap kind_operator b.0.kind ∙ e)

-- ---- tokens that begin no operator

first_sign_some : (o : SpecOperator) → kind_operator (Punctuation (first_sign o)) ≡ None → ⊥
first_sign_some Equivalent e = cc
first_sign_some Implies e = cc
first_sign_some Range e = cc
first_sign_some (Common Or) e = cc
first_sign_some (Common And) e = cc
first_sign_some (Common Equal) e = cc
first_sign_some (Common NotEqual) e = cc
first_sign_some (Common Less) e = cc
first_sign_some (Common LessEqual) e = cc
first_sign_some (Common Greater) e = cc
first_sign_some (Common GreaterEqual) e = cc
first_sign_some (Common BitOr) e = cc
first_sign_some (Common BitXor) e = cc
first_sign_some (Common BitAnd) e = cc
first_sign_some (Common ShiftLeft) e = cc
first_sign_some (Common ShiftRight) e = cc
first_sign_some (Common Add) e = cc
first_sign_some (Common Subtract) e = cc
first_sign_some (Common Multiply) e = cc
first_sign_some (Common Divide) e = cc
first_sign_some (Common Remainder) e = cc

-- the tokens of an operator, and what follows them
pub operator_first : (o : SpecOperator) (span : Span) (after_path : Bool) (ls : List Lexeme) (ts rest : List Token) → Begins (spec_operator_spelling o span after_path ++ ls) ts rest → Begins (first_lexeme o span after_path ∷ (later_lexemes o ++ ls)) ts rest
operator_first o span after_path ls ts rest b = Begins-same _ _ ts rest (ap (λ l. l ++ ls) (operator_spelled o span after_path)) b

pub operator_no_sign : (s : Sign) → kind_operator (Punctuation s) ≡ None → (o : SpecOperator) (span : Span) (after_path : Bool) (ls : List Lexeme) (ts rest : List Token) → Begins (spec_operator_spelling o span after_path ++ ls) ts rest → after_sign s ts ≡ None
operator_no_sign s e o span after_path ls ts rest b =
    after_sign-other s (first_lexeme o span after_path) (later_lexemes o ++ ls) ts rest (go (is_sign s (Punctuation (first_sign o))) refl) (operator_first o span after_path ls ts rest b)
  where
    go : (c : Bool) → is_sign s (Punctuation (first_sign o)) ≡ c → is_sign s (Punctuation (first_sign o)) ≡ false
    go true is = absurd (first_sign_some o (ap kind_operator (is_sign-sound s (Punctuation (first_sign o)) is) ∙ e))
    go false is = is

-- after a path no operator begins with a glued `<`
pub operator_not_glued : (o : SpecOperator) (span : Span) (ls : List Lexeme) (ts rest : List Token) → Begins (spec_operator_spelling o span true ++ ls) ts rest → after_glued less_sign ts ≡ None
operator_not_glued Equivalent span ls ts rest b = after_glued-other less_sign (first_lexeme Equivalent span true) (later_lexemes Equivalent ++ ls) ts rest refl b
operator_not_glued Implies span ls ts rest b = after_glued-other less_sign (first_lexeme Implies span true) (later_lexemes Implies ++ ls) ts rest refl b
operator_not_glued Range span ls ts rest b = after_glued-other less_sign (first_lexeme Range span true) (later_lexemes Range ++ ls) ts rest refl b
operator_not_glued (Common Or) span ls ts rest b = after_glued-other less_sign (first_lexeme (Common Or) span true) (later_lexemes (Common Or) ++ ls) ts rest refl b
operator_not_glued (Common And) span ls ts rest b = after_glued-other less_sign (first_lexeme (Common And) span true) (later_lexemes (Common And) ++ ls) ts rest refl b
operator_not_glued (Common Equal) span ls ts rest b = after_glued-other less_sign (first_lexeme (Common Equal) span true) (later_lexemes (Common Equal) ++ ls) ts rest refl b
operator_not_glued (Common NotEqual) span ls ts rest b = after_glued-other less_sign (first_lexeme (Common NotEqual) span true) (later_lexemes (Common NotEqual) ++ ls) ts rest refl b
operator_not_glued (Common Less) span ls ts rest b = after_glued-apart less_sign (lexeme (Punctuation less_sign) (Some span) (Some false)) ls ts rest refl b
operator_not_glued (Common LessEqual) span ls ts rest b = after_glued-other less_sign (first_lexeme (Common LessEqual) span true) (later_lexemes (Common LessEqual) ++ ls) ts rest refl b
operator_not_glued (Common Greater) span ls ts rest b = after_glued-other less_sign (first_lexeme (Common Greater) span true) (later_lexemes (Common Greater) ++ ls) ts rest refl b
operator_not_glued (Common GreaterEqual) span ls ts rest b = after_glued-other less_sign (first_lexeme (Common GreaterEqual) span true) (later_lexemes (Common GreaterEqual) ++ ls) ts rest refl b
operator_not_glued (Common BitOr) span ls ts rest b = after_glued-other less_sign (first_lexeme (Common BitOr) span true) (later_lexemes (Common BitOr) ++ ls) ts rest refl b
operator_not_glued (Common BitXor) span ls ts rest b = after_glued-other less_sign (first_lexeme (Common BitXor) span true) (later_lexemes (Common BitXor) ++ ls) ts rest refl b
operator_not_glued (Common BitAnd) span ls ts rest b = after_glued-other less_sign (first_lexeme (Common BitAnd) span true) (later_lexemes (Common BitAnd) ++ ls) ts rest refl b
operator_not_glued (Common ShiftLeft) span ls ts rest b = after_glued-other less_sign (first_lexeme (Common ShiftLeft) span true) (later_lexemes (Common ShiftLeft) ++ ls) ts rest refl b
operator_not_glued (Common ShiftRight) span ls ts rest b = after_glued-other less_sign (first_lexeme (Common ShiftRight) span true) (later_lexemes (Common ShiftRight) ++ ls) ts rest refl b
operator_not_glued (Common Add) span ls ts rest b = after_glued-other less_sign (first_lexeme (Common Add) span true) (later_lexemes (Common Add) ++ ls) ts rest refl b
operator_not_glued (Common Subtract) span ls ts rest b = after_glued-other less_sign (first_lexeme (Common Subtract) span true) (later_lexemes (Common Subtract) ++ ls) ts rest refl b
operator_not_glued (Common Multiply) span ls ts rest b = after_glued-other less_sign (first_lexeme (Common Multiply) span true) (later_lexemes (Common Multiply) ++ ls) ts rest refl b
operator_not_glued (Common Divide) span ls ts rest b = after_glued-other less_sign (first_lexeme (Common Divide) span true) (later_lexemes (Common Divide) ++ ls) ts rest refl b
operator_not_glued (Common Remainder) span ls ts rest b = after_glued-other less_sign (first_lexeme (Common Remainder) span true) (later_lexemes (Common Remainder) ++ ls) ts rest refl b

-- ---- levels

common_levels : (o : BinaryOperator) → (3 ≤ operator_level o) × (operator_level o ≤ 12)
common_levels Or = (omega arith, omega arith)
common_levels And = (omega arith, omega arith)
common_levels Equal = (omega arith, omega arith)
common_levels NotEqual = (omega arith, omega arith)
common_levels Less = (omega arith, omega arith)
common_levels LessEqual = (omega arith, omega arith)
common_levels Greater = (omega arith, omega arith)
common_levels GreaterEqual = (omega arith, omega arith)
common_levels BitOr = (omega arith, omega arith)
common_levels BitXor = (omega arith, omega arith)
common_levels BitAnd = (omega arith, omega arith)
common_levels ShiftLeft = (omega arith, omega arith)
common_levels Add = (omega arith, omega arith)
common_levels Subtract = (omega arith, omega arith)
common_levels Multiply = (omega arith, omega arith)
common_levels Divide = (omega arith, omega arith)
common_levels Remainder = (omega arith, omega arith)
common_levels ShiftRight = (omega arith, omega arith)

pub level_is_some : (o : SpecOperator) → (1 ≤ spec_operator_level o) × (spec_operator_level o ≤ 12)
level_is_some Equivalent = (omega arith, omega arith)
level_is_some Implies = (omega arith, omega arith)
level_is_some Range = (omega arith, omega arith)
level_is_some (Common o) = let c = common_levels o in (omega (arith, c.0), c.1)

pub right_is_some : (o : SpecOperator) → 2 ≤ right_level o
right_is_some Equivalent = omega arith
right_is_some Implies = omega arith
right_is_some Range = omega arith
right_is_some (Common o) = let c = common_levels o in omega (arith, c.0)

pub own_left : (o : SpecOperator) → spec_operator_level o ≤ left_level o
own_left Equivalent = omega arith
own_left Implies = omega arith
own_left Range = omega arith
own_left (Common o) = omega arith

pub looser : (o p : SpecOperator) → spec_operator_level p < right_level o → left_level p ≤ spec_operator_level o
looser Equivalent Equivalent h = omega (arith, h)
looser Equivalent Implies h = absurd (omega (arith, h))
looser Equivalent Range h = absurd (omega (arith, h))
looser Equivalent (Common p) h = let d = common_levels p in absurd (omega (arith, d.0, h))
looser Implies Equivalent h = omega (arith, h)
looser Implies Implies h = absurd (omega (arith, h))
looser Implies Range h = absurd (omega (arith, h))
looser Implies (Common p) h = let d = common_levels p in absurd (omega (arith, d.0, h))
looser Range Equivalent h = omega (arith, h)
looser Range Implies h = omega (arith, h)
looser Range Range h = omega (arith, h)
looser Range (Common p) h = let d = common_levels p in omega (arith, d.0, h)
looser (Common o) Equivalent h = let c = common_levels o in omega (arith, c.0, h)
looser (Common o) Implies h = let c = common_levels o in omega (arith, c.0, h)
looser (Common o) Range h = let c = common_levels o in omega (arith, c.0, h)
looser (Common o) (Common p) h = let c = common_levels o in let d = common_levels p in omega (arith, c.0, d.0, h)

pub tighter : (o p : SpecOperator) → left_level p ≤ spec_operator_level o → spec_operator_level p < right_level o
tighter Equivalent Equivalent h = omega (arith, h)
tighter Equivalent Implies h = omega (arith, h)
tighter Equivalent Range h = omega (arith, h)
tighter Equivalent (Common p) h = let d = common_levels p in omega (arith, d.0, h)
tighter Implies Equivalent h = omega (arith, h)
tighter Implies Implies h = omega (arith, h)
tighter Implies Range h = omega (arith, h)
tighter Implies (Common p) h = let d = common_levels p in omega (arith, d.0, h)
tighter Range Equivalent h = omega (arith, h)
tighter Range Implies h = omega (arith, h)
tighter Range Range h = omega (arith, h)
tighter Range (Common p) h = let d = common_levels p in omega (arith, d.0, h)
tighter (Common o) Equivalent h = let c = common_levels o in omega (arith, c.0, h)
tighter (Common o) Implies h = let c = common_levels o in omega (arith, c.0, h)
tighter (Common o) Range h = let c = common_levels o in omega (arith, c.0, h)
tighter (Common o) (Common p) h = let c = common_levels o in let d = common_levels p in omega (arith, c.0, d.0, h)

pub left_at_most : (o : SpecOperator) → left_level o ≤ 12
left_at_most Equivalent = omega arith
left_at_most Implies = omega arith
left_at_most Range = omega arith
left_at_most (Common o) = (common_levels o).1

pub right_at_most : (o : SpecOperator) → right_level o ≤ 13
right_at_most Equivalent = omega arith
right_at_most Implies = omega arith
right_at_most Range = omega arith
right_at_most (Common o) = omega (arith, (common_levels o).1)

pub own_right : (o : SpecOperator) → spec_operator_level o ≤ right_level o
own_right Equivalent = omega arith
own_right Implies = omega arith
own_right Range = omega arith
own_right (Common o) = omega arith
