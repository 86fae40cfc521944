-- Signs: `sign_at` finds the longest sign at the front.
use Rattle.std.proofs.Common.{◌≡◌, ℕ, ◌≤◌, Bool, true, false, cond, eqb, ◌&&◌, List, [], ◌∷◌, ◌++◌, length, drop, get_or, refl, sym, ap, ◌∙◌, arith, suc, Option, Some, None, IfSome}
use Rattle.std.proofs.lemmas.Bool.{and_parts, cond_both, eqb-true}
use Rattle.tokens.specs.declared.token.Punctuation.{Punctuation}
use Rattle.tokens.specs.declared.token.Punctuation.TheVariants.{LeftParenthesis, RightParenthesis, LeftBrace, RightBrace, LeftBracket, RightBracket, Comma, Semicolon, Colon, ColonColon, Period, PeriodPeriod, Equal, EqualEqual, EqualEqualGreater, ExclaimEqual, Exclaim, Less, LessEqual, LessEqualEqualGreater, LessLess, Greater, GreaterEqual, Plus, Minus, Star, Slash, Percent, Ampersand, AmpersandAmpersand, Pipe, PipePipe, Caret, AtSign, NumberSign}
use Rattle.std.specs.Char.{is_ascii_digit}
use Rattle.tokens.specs.Characters.{is_blank, begins_word}
use Rattle.tokens.specs.Signs.{sign_text}
use Rattle.tokens.specs.Reading.{lookup, lone_signs, less_at, equal_at, sign_at}
use Rattle.tokens.proofs.Runs.{front_is, second_is, third_is}

-- the longest sign at the front of the bytes
abbrev pub sign_front : ℕ → List ℕ → Option Punctuation
sign_front a rest = sign_at a (get_or rest 0 0) (get_or rest 1 0) (get_or rest 2 0)

-- the sign is at the front of the bytes
abbrev pub Begins : List ℕ → Punctuation → Type 0
Begins bytes sign = bytes ≡ sign_text sign ++ drop (length (sign_text sign)) bytes

-- the table has the texts of its signs
abbrev AreTexts : List (ℕ × Punctuation) → Type 0
AreTexts [] = Unit {0}
AreTexts ((text, sign) ∷ rest) = (sign_text sign ≡ text ∷ []) × AreTexts rest

lone_texts : AreTexts lone_signs
lone_texts = (refl, (refl, (refl, (refl, (refl, (refl, (refl, (refl, (refl, (refl, (refl, (refl, (refl, (refl, (refl, (refl, tt))))))))))))))))

looked_up : (a : ℕ) (table : List (ℕ × Punctuation)) → AreTexts table → IfSome (lookup a table) (λ s. sign_text s ≡ a ∷ [])
looked_up a [] texts = tt
looked_up a ((text, sign) ∷ rest) texts =
    cond_both (eqb a text) (Some sign) (lookup a rest) (λ o. IfSome o (λ s. sign_text s ≡ a ∷ []))
    (λ e. texts.0 ∙ ap (λ b. b ∷ []) (sym (eqb-true a text e)))
    (λ _. looked_up a rest texts.1)

-- a sign of one byte begins the bytes that it is the first of
begins_one : (a : ℕ) (rest : List ℕ) (s : Punctuation) → sign_text s ≡ a ∷ [] → Begins (a ∷ rest) s
begins_one a rest s text = rw text refl

begins_two : (a b : ℕ) (rest : List ℕ) (s : Punctuation) → sign_text s ≡ a ∷ suc b ∷ [] → get_or rest 0 0 ≡ suc b → Begins (a ∷ rest) s
begins_two a b rest s text second = rw text (ap (λ t. a ∷ t) (front_is b rest second))

begins_three : (a b c : ℕ) (rest : List ℕ) (s : Punctuation) → sign_text s ≡ a ∷ suc b ∷ suc c ∷ [] → get_or rest 0 0 ≡ suc b → get_or rest 1 0 ≡ suc c → Begins (a ∷ rest) s
begins_three a b c rest s text second third =
    rw text (ap (λ t. a ∷ t) (front_is b rest second) ∙ ap (λ t. a ∷ suc b ∷ t) (second_is c rest third))

begins_four : (a b c d : ℕ) (rest : List ℕ) (s : Punctuation) → sign_text s ≡ a ∷ suc b ∷ suc c ∷ suc d ∷ [] → get_or rest 0 0 ≡ suc b → get_or rest 1 0 ≡ suc c → get_or rest 2 0 ≡ suc d → Begins (a ∷ rest) s
begins_four a b c d rest s text second third fourth =
    rw text (ap (λ t. a ∷ t) (front_is b rest second) ∙ ap (λ t. a ∷ suc b ∷ t) (second_is c rest third) ∙ ap (λ t. a ∷ suc b ∷ suc c ∷ t) (third_is d rest fourth))

begins_pair : (a b : ℕ) (rest : List ℕ) (long short : Punctuation) → sign_text short ≡ a ∷ [] → sign_text long ≡ a ∷ suc b ∷ [] → Begins (a ∷ rest) (cond (eqb (get_or rest 0 0) (suc b)) long short)
begins_pair a b rest long short one two =
    cond_both (eqb (get_or rest 0 0) (suc b)) long short (Begins (a ∷ rest))
    (λ e. begins_two a b rest long two (eqb-true _ _ e))
    (λ _. begins_one a rest short one)

begins_less : (rest : List ℕ) → Begins (60 ∷ rest) (less_at (get_or rest 0 0) (get_or rest 1 0) (get_or rest 2 0))
begins_less rest =
    cond_both (eqb (get_or rest 0 0) 60) LessLess _ (Begins (60 ∷ rest))
    (λ e. begins_two 60 59 rest LessLess refl (eqb-true _ _ e))
    (λ _. cond_both (eqb (get_or rest 0 0) 61) _ Less (Begins (60 ∷ rest))
    (λ second. cond_both (eqb (get_or rest 1 0) 61 && eqb (get_or rest 2 0) 62) LessEqualEqualGreater LessEqual (Begins (60 ∷ rest))
    (λ both. let parts = and_parts _ _ both in begins_four 60 60 60 61 rest LessEqualEqualGreater refl (eqb-true _ _ second) (eqb-true _ _ parts.0) (eqb-true _ _ parts.1))
    (λ _. begins_two 60 60 rest LessEqual refl (eqb-true _ _ second)))
    (λ _. begins_one 60 rest Less refl))

begins_equal : (rest : List ℕ) → Begins (61 ∷ rest) (equal_at (get_or rest 0 0) (get_or rest 1 0))
begins_equal rest =
    cond_both (eqb (get_or rest 0 0) 61) _ Equal (Begins (61 ∷ rest))
    (λ second. cond_both (eqb (get_or rest 1 0) 62) EqualEqualGreater EqualEqual (Begins (61 ∷ rest))
    (λ third. begins_three 61 60 61 rest EqualEqualGreater refl (eqb-true _ _ second) (eqb-true _ _ third))
    (λ _. begins_two 61 60 rest EqualEqual refl (eqb-true _ _ second)))
    (λ _. begins_one 61 rest Equal refl)

begins_lone : (a : ℕ) (rest : List ℕ) (o : Option Punctuation) → IfSome o (λ s. sign_text s ≡ a ∷ []) → IfSome o (Begins (a ∷ rest))
begins_lone a rest None h = tt
begins_lone a rest (Some s) h = begins_one a rest s h

-- the same for a first byte that equals another
at_byte : (a b : ℕ) (rest : List ℕ) (s : Punctuation) → eqb a b ≡ true → Begins (b ∷ rest) s → Begins (a ∷ rest) s
at_byte a b rest s e h = rw (eqb-true a b e) h

-- the sign that is found is at the front
pub sign_begins : (a : ℕ) (rest : List ℕ) → IfSome (sign_front a rest) (Begins (a ∷ rest))
unfolding sign_at
sign_begins a rest =
    let P : Option Punctuation → Type 0 = λ o. IfSome o (Begins (a ∷ rest)) in
    cond_both (eqb a 60) (Some _) _ P (λ e. at_byte a 60 rest _ e (begins_less rest))
    (λ _. cond_both (eqb a 61) (Some _) _ P (λ e. at_byte a 61 rest _ e (begins_equal rest))
    (λ _. cond_both (eqb a 58) (Some _) _ P (λ e. at_byte a 58 rest _ e (begins_pair 58 57 rest ColonColon Colon refl refl))
    (λ _. cond_both (eqb a 46) (Some _) _ P (λ e. at_byte a 46 rest _ e (begins_pair 46 45 rest PeriodPeriod Period refl refl))
    (λ _. cond_both (eqb a 33) (Some _) _ P (λ e. at_byte a 33 rest _ e (begins_pair 33 60 rest ExclaimEqual Exclaim refl refl))
    (λ _. cond_both (eqb a 62) (Some _) _ P (λ e. at_byte a 62 rest _ e (begins_pair 62 60 rest GreaterEqual Greater refl refl))
    (λ _. cond_both (eqb a 38) (Some _) _ P (λ e. at_byte a 38 rest _ e (begins_pair 38 37 rest AmpersandAmpersand Ampersand refl refl))
    (λ _. cond_both (eqb a 124) (Some _) (lookup a lone_signs) P (λ e. at_byte a 124 rest _ e (begins_pair 124 123 rest PipePipe Pipe refl refl))
    (λ _. begins_lone a rest (lookup a lone_signs) (looked_up a lone_signs lone_texts)))))))))

-- the sign found at the front has at least so many bytes
abbrev pub HasSign : List ℕ → ℕ → Type 0
HasSign [] n = ⊥
HasSign (a ∷ rest) n = (s : Punctuation) × (sign_front a rest ≡ Some s) × (n ≤ length (sign_text s))

long_enough : (n : ℕ) (t : Bool) (x y : Punctuation) → n ≤ length (sign_text x) → n ≤ length (sign_text y) → n ≤ length (sign_text (cond t x y))
long_enough n t x y left right = cond_both t x y (λ s. n ≤ length (sign_text s)) (λ _. left) (λ _. right)

less_long : (b c d : ℕ) → 1 ≤ length (sign_text (less_at b c d))
less_long b c d =
    long_enough 1 (eqb b 60) LessLess (cond (eqb b 61) (cond (eqb c 61 && eqb d 62) LessEqualEqualGreater LessEqual) Less) (omega arith)
    (long_enough 1 (eqb b 61) (cond (eqb c 61 && eqb d 62) LessEqualEqualGreater LessEqual) Less
    (long_enough 1 (eqb c 61 && eqb d 62) LessEqualEqualGreater LessEqual (omega arith) (omega arith))
    (omega arith))

equal_long : (b c : ℕ) → 1 ≤ length (sign_text (equal_at b c))
equal_long b c =
    long_enough 1 (eqb b 61) (cond (eqb c 62) EqualEqualGreater EqualEqual) Equal
    (long_enough 1 (eqb c 62) EqualEqualGreater EqualEqual (omega arith) (omega arith))
    (omega arith)

-- at a sign, one at least as long is found
pub sign_found_at : (p : Punctuation) (rest : List ℕ) → HasSign (sign_text p ++ rest) (length (sign_text p))
unfolding sign_at
sign_found_at LeftParenthesis rest = (LeftParenthesis, refl, omega arith)
sign_found_at RightParenthesis rest = (RightParenthesis, refl, omega arith)
sign_found_at LeftBrace rest = (LeftBrace, refl, omega arith)
sign_found_at RightBrace rest = (RightBrace, refl, omega arith)
sign_found_at LeftBracket rest = (LeftBracket, refl, omega arith)
sign_found_at RightBracket rest = (RightBracket, refl, omega arith)
sign_found_at Comma rest = (Comma, refl, omega arith)
sign_found_at Semicolon rest = (Semicolon, refl, omega arith)
sign_found_at Colon rest = (_, refl, long_enough 1 _ ColonColon Colon (omega arith) (omega arith))
sign_found_at ColonColon rest = (ColonColon, refl, omega arith)
sign_found_at Period rest = (_, refl, long_enough 1 _ PeriodPeriod Period (omega arith) (omega arith))
sign_found_at PeriodPeriod rest = (PeriodPeriod, refl, omega arith)
sign_found_at Equal rest = (_, refl, equal_long (get_or rest 0 0) (get_or rest 1 0))
sign_found_at EqualEqual rest = (_, refl, long_enough 2 _ EqualEqualGreater EqualEqual (omega arith) (omega arith))
sign_found_at EqualEqualGreater rest = (EqualEqualGreater, refl, omega arith)
sign_found_at ExclaimEqual rest = (ExclaimEqual, refl, omega arith)
sign_found_at Exclaim rest = (_, refl, long_enough 1 _ ExclaimEqual Exclaim (omega arith) (omega arith))
sign_found_at Less rest = (_, refl, less_long (get_or rest 0 0) (get_or rest 1 0) (get_or rest 2 0))
sign_found_at LessEqual rest = (_, refl, long_enough 2 _ LessEqualEqualGreater LessEqual (omega arith) (omega arith))
sign_found_at LessEqualEqualGreater rest = (LessEqualEqualGreater, refl, omega arith)
sign_found_at LessLess rest = (LessLess, refl, omega arith)
sign_found_at Greater rest = (_, refl, long_enough 1 _ GreaterEqual Greater (omega arith) (omega arith))
sign_found_at GreaterEqual rest = (GreaterEqual, refl, omega arith)
sign_found_at Plus rest = (Plus, refl, omega arith)
sign_found_at Minus rest = (Minus, refl, omega arith)
sign_found_at Star rest = (Star, refl, omega arith)
sign_found_at Slash rest = (Slash, refl, omega arith)
sign_found_at Percent rest = (Percent, refl, omega arith)
sign_found_at Ampersand rest = (_, refl, long_enough 1 _ AmpersandAmpersand Ampersand (omega arith) (omega arith))
sign_found_at AmpersandAmpersand rest = (AmpersandAmpersand, refl, omega arith)
sign_found_at Pipe rest = (_, refl, long_enough 1 _ PipePipe Pipe (omega arith) (omega arith))
sign_found_at PipePipe rest = (PipePipe, refl, omega arith)
sign_found_at Caret rest = (Caret, refl, omega arith)
sign_found_at AtSign rest = (AtSign, refl, omega arith)
sign_found_at NumberSign rest = (NumberSign, refl, omega arith)

abbrev front_of : List ℕ → Option Punctuation
front_of [] = None
front_of (a ∷ rest) = sign_front a rest

own_text : (p : Punctuation) → front_of (sign_text p) ≡ Some p
unfolding sign_at
own_text LeftParenthesis = refl
own_text RightParenthesis = refl
own_text LeftBrace = refl
own_text RightBrace = refl
own_text LeftBracket = refl
own_text RightBracket = refl
own_text Comma = refl
own_text Semicolon = refl
own_text Colon = refl
own_text ColonColon = refl
own_text Period = refl
own_text PeriodPeriod = refl
own_text Equal = refl
own_text EqualEqual = refl
own_text EqualEqualGreater = refl
own_text ExclaimEqual = refl
own_text Exclaim = refl
own_text Less = refl
own_text LessEqual = refl
own_text LessEqualEqualGreater = refl
own_text LessLess = refl
own_text Greater = refl
own_text GreaterEqual = refl
own_text Plus = refl
own_text Minus = refl
own_text Star = refl
own_text Slash = refl
own_text Percent = refl
own_text Ampersand = refl
own_text AmpersandAmpersand = refl
own_text Pipe = refl
own_text PipePipe = refl
own_text Caret = refl
own_text AtSign = refl
own_text NumberSign = refl

-- a sign is determined by its text
pub same_sign : (p q : Punctuation) → sign_text p ≡ sign_text q → p ≡ q
same_sign p q same =
    let e : Some p ≡ Some q = sym (own_text p) ∙ ap front_of same ∙ own_text q in cc

-- the first byte of a sign belongs to no other class
pub record IsSignByte (a : ℕ) : Type 0 where
  pub no_blank : is_blank a ≡ false
  pub no_word : begins_word a ≡ false
  pub no_digit : is_ascii_digit a ≡ false

abbrev pub BeginsSign : List ℕ → Type 0
BeginsSign [] = ⊥
BeginsSign (a ∷ rest) = IsSignByte a

pub sign_byte : (p : Punctuation) → BeginsSign (sign_text p)
unfolding is_blank begins_word
sign_byte LeftParenthesis = record { no_blank = refl; no_word = refl; no_digit = refl }
sign_byte RightParenthesis = record { no_blank = refl; no_word = refl; no_digit = refl }
sign_byte LeftBrace = record { no_blank = refl; no_word = refl; no_digit = refl }
sign_byte RightBrace = record { no_blank = refl; no_word = refl; no_digit = refl }
sign_byte LeftBracket = record { no_blank = refl; no_word = refl; no_digit = refl }
sign_byte RightBracket = record { no_blank = refl; no_word = refl; no_digit = refl }
sign_byte Comma = record { no_blank = refl; no_word = refl; no_digit = refl }
sign_byte Semicolon = record { no_blank = refl; no_word = refl; no_digit = refl }
sign_byte Colon = record { no_blank = refl; no_word = refl; no_digit = refl }
sign_byte ColonColon = record { no_blank = refl; no_word = refl; no_digit = refl }
sign_byte Period = record { no_blank = refl; no_word = refl; no_digit = refl }
sign_byte PeriodPeriod = record { no_blank = refl; no_word = refl; no_digit = refl }
sign_byte Equal = record { no_blank = refl; no_word = refl; no_digit = refl }
sign_byte EqualEqual = record { no_blank = refl; no_word = refl; no_digit = refl }
sign_byte EqualEqualGreater = record { no_blank = refl; no_word = refl; no_digit = refl }
sign_byte ExclaimEqual = record { no_blank = refl; no_word = refl; no_digit = refl }
sign_byte Exclaim = record { no_blank = refl; no_word = refl; no_digit = refl }
sign_byte Less = record { no_blank = refl; no_word = refl; no_digit = refl }
sign_byte LessEqual = record { no_blank = refl; no_word = refl; no_digit = refl }
sign_byte LessEqualEqualGreater = record { no_blank = refl; no_word = refl; no_digit = refl }
sign_byte LessLess = record { no_blank = refl; no_word = refl; no_digit = refl }
sign_byte Greater = record { no_blank = refl; no_word = refl; no_digit = refl }
sign_byte GreaterEqual = record { no_blank = refl; no_word = refl; no_digit = refl }
sign_byte Plus = record { no_blank = refl; no_word = refl; no_digit = refl }
sign_byte Minus = record { no_blank = refl; no_word = refl; no_digit = refl }
sign_byte Star = record { no_blank = refl; no_word = refl; no_digit = refl }
sign_byte Slash = record { no_blank = refl; no_word = refl; no_digit = refl }
sign_byte Percent = record { no_blank = refl; no_word = refl; no_digit = refl }
sign_byte Ampersand = record { no_blank = refl; no_word = refl; no_digit = refl }
sign_byte AmpersandAmpersand = record { no_blank = refl; no_word = refl; no_digit = refl }
sign_byte Pipe = record { no_blank = refl; no_word = refl; no_digit = refl }
sign_byte PipePipe = record { no_blank = refl; no_word = refl; no_digit = refl }
sign_byte Caret = record { no_blank = refl; no_word = refl; no_digit = refl }
sign_byte AtSign = record { no_blank = refl; no_word = refl; no_digit = refl }
sign_byte NumberSign = record { no_blank = refl; no_word = refl; no_digit = refl }
