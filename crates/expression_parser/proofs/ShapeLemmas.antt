-- The first tokens of spec expressions.
use Rattle.std.proofs.Common.{◌≡◌, ◌≤◌, true, false, ◌⊎◌, inl, inr, List, [], ◌∷◌, ◌++◌, Some, None, refl, sym, ap, ◌∙◌, arith, append_assoc, append-nil}
use Rattle.std.specs.Prelude.{codes}
use Rattle.tokens.specs.declared.token.Token.{Token}
use Rattle.tokens.specs.declared.token.TokenKind.{TokenKind}
use Rattle.tokens.specs.declared.token.TokenKind.TheVariants.{Word, Number, ByteString, Punctuation}
use Rattle.tokens.specs.declared.token.Punctuation.{Punctuation as Sign}
use Rattle.tokens.specs.declared.token.Punctuation.TheVariants.{LeftParenthesis, RightParenthesis, LeftBrace, RightBrace, LeftBracket, RightBracket, ColonColon, Period, Exclaim, Less, AtSign}
use Rattle.syntax_tree.specs.declared.lexeme.Identifier.{Identifier}
use Rattle.syntax_tree.specs.declared.lexeme.Lexeme.{Lexeme}
use Rattle.syntax_tree.specs.declared.literal.Literal.{Literal}
use Rattle.syntax_tree.specs.declared.literal.Literal.TheVariants.{Number as number_literal, Truth, Address as address_literal}
use Rattle.syntax_tree.specs.declared.path.Address.{Address}
use Rattle.syntax_tree.specs.declared.path.Address.TheVariants.{Number as number_address, Name as name_address}
use Rattle.syntax_tree.specs.declared.path.Path.{Path}
use Rattle.syntax_tree.specs.declared.path.Path.TheVariants.{Name as name_path, Member as member_path, Full as full_path}
use Rattle.syntax_tree.specs.Lexemes.{lexeme, word, sign, sign_at, identifier, numeral, comma_list}
use Rattle.syntax_tree.specs.LiteralSpelling.{literal_spelling}
use Rattle.syntax_tree.specs.PathSpelling.{address_spelling, path_spelling}
use Rattle.syntax_tree.specs.ProperTypes.{IsProperPath}
use Rattle.syntax_tree.specs.TypeTreeData.{Arguments, MaybeArgumentsData, NoArguments, SomeArguments}
use Rattle.syntax_tree.specs.TypeSpelling.{maybe_arguments_spelling}
use Rattle.syntax_tree.specs.declared.spec_expression.operator.Quantifier.TheVariants.{ForAll, Exists}
use Rattle.syntax_tree.specs.SpecExpressionData.{SpecExpressionData, SpecBinary, SpecQuantified, SpecIf, SpecNot, SpecField, SpecIndex, SpecLiteral, SpecPath, SpecCall, SpecPack, SpecParenthesized}
use Rattle.syntax_tree.specs.SpecOperatorSpelling.{spec_operator_spelling}
use Rattle.syntax_tree.specs.SpecExpressionSpelling.{ends_in_path, spec_spelling, spec_spellings, spec_field_spellings}
use Rattle.syntax_tree.specs.ProperSpecExpressions.{level, IsProperSpec}
use Rattle.parser_base.specs.Beginnings.{Begins}
use Rattle.parser_base.specs.TokenReading.{is_sign, is_word, name_of, after_sign, word_span_at}
use Rattle.parser_base.proofs.BeginLemmas.{Begins-split, Begins-first, Begins-same}
use Rattle.parser_base.proofs.TokenLemmas.{after_sign-other, word_span_at-other}
use Rattle.parser_base.proofs.TypeLemmas.{inside_spelling}
use Rattle.parser_base.proofs.PathLemmas.{OpensPath, Opened, path_opens}
use Rattle.expression_parser.specs.LeafReading.{opens_bind, quantifier_at}
use Rattle.expression_parser.proofs.OperatorLemmas.{first_lexeme, later_lexemes, operator_first, level_is_some, own_left}
use Rattle.expression_parser.proofs.LeafLemmas.{if_is_keyword, path_no_span, opens_bind-other, quantifier_at-behind, quantifier_at-other}

-- ---- spellings, regrouped

pub three_behind : (a b c d : List Lexeme) → ((a ++ b) ++ c) ++ d ≡ a ++ (b ++ (c ++ d))
three_behind a b c d = append_assoc (a ++ b) c d ∙ append_assoc a b (c ++ d)

-- a path, its type arguments, and the content of the brackets after them
pub applied_behind : (path arguments inside close more : List Lexeme) (open_sign : Lexeme) → (((path ++ arguments) ++ open_sign ∷ inside) ++ close) ++ more ≡ path ++ (arguments ++ (open_sign ∷ (inside ++ (close ++ more))))
applied_behind path arguments inside close more open_sign =
    append_assoc ((path ++ arguments) ++ open_sign ∷ inside) close more ∙ append_assoc (path ++ arguments) (open_sign ∷ inside) (close ++ more) ∙ append_assoc path arguments (open_sign ∷ (inside ++ (close ++ more)))

-- ---- the first token

abbrev pub OpeningSign : Sign → Type 0
OpeningSign s = (s ≡ LeftParenthesis) ⊎ ((s ≡ AtSign) ⊎ (s ≡ Exclaim))

abbrev pub OpensSpec : TokenKind → Type 0
OpensSpec (Word w) = Unit {0}
OpensSpec (Number literal) = Unit {0}
OpensSpec (ByteString text) = ⊥
OpensSpec (Punctuation s) = OpeningSign s

path_opens_spec : (kind : TokenKind) → OpensPath kind → OpensSpec kind
path_opens_spec (Word w) o = tt
path_opens_spec (Number literal) o = tt
path_opens_spec (ByteString text) o = o
path_opens_spec (Punctuation s) o = absurd o

opened : (l : Lexeme) (ls : List Lexeme) (ts rest : List Token) → OpensSpec l.kind → Begins (l ∷ ls) ts rest → Opened OpensSpec ts rest
opened l ls ts rest o b = record { lexeme = l; others = ls; begins = b; opens = o }

opened_by_path : (p : Path) (ls : List Lexeme) (ts rest : List Token) → IsProperPath p → Begins (path_spelling p ++ ls) ts rest → Opened OpensSpec ts rest
opened_by_path p ls ts rest q b = let o = path_opens p ls ts rest b q in record { lexeme = o.lexeme; others = o.others; begins = o.begins; opens = path_opens_spec o.lexeme.kind o.opens }

opened_by_literal : (l : Literal) (ls : List Lexeme) (ts rest : List Token) → Begins (literal_spelling l ++ ls) ts rest → Opened OpensSpec ts rest
opened_by_literal (number_literal n) ls ts rest b = opened (numeral n) ls ts rest tt b
opened_by_literal (Truth span true) ls ts rest b = opened (word (codes "true") (Some span)) ls ts rest tt b
opened_by_literal (Truth span false) ls ts rest b = opened (word (codes "false") (Some span)) ls ts rest tt b
opened_by_literal (address_literal span address) ls ts rest b = opened (sign_at span AtSign) (address_spelling address ++ ls) ts rest (inr (inl refl)) b

pub spec_opens : (e : SpecExpressionData) (ls : List Lexeme) (ts rest : List Token) → Begins (spec_spelling e ++ ls) ts rest → IsProperSpec e → Opened OpensSpec ts rest
spec_opens (SpecBinary left operator span right) ls ts rest b p =
    spec_opens left (spec_operator_spelling operator span (ends_in_path left) ++ (spec_spelling right ++ ls)) ts rest
    (Begins-same _ _ ts rest (three_behind (spec_spelling left) (spec_operator_spelling operator span (ends_in_path left)) (spec_spelling right) ls) b) p.0
spec_opens (SpecQuantified ForAll span binds _ body) ls ts rest b p = opened (word (codes "forall") (Some span)) _ ts rest tt b
spec_opens (SpecQuantified Exists span binds _ body) ls ts rest b p = opened (word (codes "exists") (Some span)) _ ts rest tt b
spec_opens (SpecIf span condition then_branch else_branch) ls ts rest b p = opened (word (codes "if") (Some span)) (sign LeftParenthesis ∷ (((spec_spelling condition ++ sign RightParenthesis ∷ spec_spelling then_branch) ++ word (codes "else") None ∷ spec_spelling else_branch) ++ ls)) ts rest tt b
spec_opens (SpecNot span operand) ls ts rest b p = opened (sign_at span Exclaim) (spec_spelling operand ++ ls) ts rest (inr (inr refl)) b
spec_opens (SpecField base field) ls ts rest b p =
    spec_opens base (sign Period ∷ identifier field ∷ ls) ts rest (Begins-same _ _ ts rest (append_assoc (spec_spelling base) (sign Period ∷ identifier field ∷ []) ls) b) p.0
spec_opens (SpecIndex base index) ls ts rest b p =
    spec_opens base (sign LeftBracket ∷ (spec_spelling index ++ (sign RightBracket ∷ ls))) ts rest
    (Begins-same _ _ ts rest (three_behind (spec_spelling base) (sign LeftBracket ∷ spec_spelling index) (sign RightBracket ∷ []) ls) b) p.0
spec_opens (SpecLiteral literal) ls ts rest b p = opened_by_literal literal ls ts rest b
spec_opens (SpecPath path) ls ts rest b p = opened_by_path path ls ts rest p b
spec_opens (SpecCall function arguments values last) ls ts rest b p =
    opened_by_path function _ ts rest p.0
    (Begins-same _ _ ts rest (applied_behind (path_spelling function) (maybe_arguments_spelling (Some true) arguments) (comma_list (spec_spellings values) last) (sign RightParenthesis ∷ []) ls (sign LeftParenthesis)) b)
spec_opens (SpecPack path arguments fields last) ls ts rest b p =
    opened_by_path path _ ts rest p.0
    (Begins-same _ _ ts rest (applied_behind (path_spelling path) (maybe_arguments_spelling (Some true) arguments) (comma_list (spec_field_spellings fields) last) (sign RightBrace ∷ []) ls (sign LeftBrace)) b)
spec_opens (SpecParenthesized span inner) ls ts rest b p = opened (sign_at span LeftParenthesis) ((spec_spelling inner ++ sign RightParenthesis ∷ []) ++ ls) ts rest (inl refl) b

-- a sign that no spec expression begins with
abbrev pub NeverOpens : Sign → Type 0
NeverOpens s = (is_sign s (Punctuation LeftParenthesis) ≡ false) × (is_sign s (Punctuation AtSign) ≡ false) × (is_sign s (Punctuation Exclaim) ≡ false)

opens_other : (s : Sign) → NeverOpens s → (kind : TokenKind) → OpensSpec kind → is_sign s kind ≡ false
opens_other s n (Word w) o = refl
opens_other s n (Number literal) o = refl
opens_other s n (ByteString text) o = absurd o
opens_other s n (Punctuation found) (inl e) = ap (λ f. is_sign s (Punctuation f)) e ∙ n.0
opens_other s n (Punctuation found) (inr (inl e)) = ap (λ f. is_sign s (Punctuation f)) e ∙ n.1
opens_other s n (Punctuation found) (inr (inr e)) = ap (λ f. is_sign s (Punctuation f)) e ∙ n.2

-- A spec expression begins with no closing sign, no comma and no semicolon.
pub spec_no_sign : (s : Sign) → NeverOpens s → (e : SpecExpressionData) (ls : List Lexeme) (ts rest : List Token) → Begins (spec_spelling e ++ ls) ts rest → IsProperSpec e → after_sign s ts ≡ None
spec_no_sign s n e ls ts rest b p = let o = spec_opens e ls ts rest b p in after_sign-other s o.lexeme o.others ts rest (opens_other s n o.lexeme.kind o.opens) o.begins

pub spec_alone : (e : SpecExpressionData) (ts rest : List Token) → Begins (spec_spelling e) ts rest → Begins (spec_spelling e ++ []) ts rest
spec_alone e ts rest b = Begins-same _ _ ts rest (sym (append-nil (spec_spelling e))) b

-- no spec expression has an empty spelling
pub nothing_spells : (e : SpecExpressionData) (rest : List Token) → Begins (spec_spelling e) [] rest → IsProperSpec e → ⊥
nothing_spells e rest b p = (spec_opens e [] [] rest (spec_alone e [] rest b) p).begins

-- ---- operands begin with no quantifier and no `if`

pub record NotLoose (ts : List Token) : Type 0 where
  pub no_quantifier : quantifier_at ts ≡ None
  pub no_if : word_span_at (codes "if") ts ≡ None

not_loose_token : (l : Lexeme) (ls : List Lexeme) (ts rest : List Token) → is_word (codes "forall") l.kind ≡ false → is_word (codes "exists") l.kind ≡ false → is_word (codes "if") l.kind ≡ false → Begins (l ∷ ls) ts rest → NotLoose ts
not_loose_token l ls ts rest a c d b = record { no_quantifier = quantifier_at-other l ls ts rest a c b; no_if = word_span_at-other (codes "if") l ls ts rest d b }

-- a word before a sign
word_before_sign : (l m : Lexeme) (ls : List Lexeme) (ts rest : List Token) → name_of m.kind ≡ None → Begins (l ∷ m ∷ ls) ts rest → quantifier_at ts ≡ None
word_before_sign l m ls ts rest e b = let s = Begins-first l (m ∷ ls) ts rest b in quantifier_at-behind l ts s.mid s.front (opens_bind-other m ls s.mid rest e s.back)

path_no_quantifier : (p : Path) (ts mid : List Token) → Begins (path_spelling p) ts mid → opens_bind mid ≡ false → quantifier_at ts ≡ None
path_no_quantifier (name_path i) ts mid b e = quantifier_at-behind (identifier i) ts mid b e
path_no_quantifier (member_path i j) ts mid b e = word_before_sign (identifier i) (sign ColonColon) (identifier j ∷ []) ts mid refl b
path_no_quantifier (full_path m n) ts mid b e = from_address m.address m.name n b
  where
    from_address : (a : Address) (m n : Identifier) → Begins (path_spelling (full_path (record { address = a; name = m }) n)) ts mid → quantifier_at ts ≡ None
    from_address (number_address a) m n b = word_before_sign (numeral a) (sign ColonColon) (identifier m ∷ sign ColonColon ∷ identifier n ∷ []) ts mid refl b
    from_address (name_address i) m n b = word_before_sign (identifier i) (sign ColonColon) (identifier m ∷ sign ColonColon ∷ identifier n ∷ []) ts mid refl b

path_not_loose : (p : Path) (ts mid : List Token) → Begins (path_spelling p) ts mid → IsProperPath p → opens_bind mid ≡ false → NotLoose ts
path_not_loose p ts mid b q e = record {
  no_quantifier = path_no_quantifier p ts mid b e;
  no_if = path_no_span (codes "if") p [] ts mid if_is_keyword (Begins-same _ _ ts mid (sym (append-nil (path_spelling p))) b) q;
}

-- type arguments or a bracket follow a path, and no name
bracket_behind : (a : MaybeArgumentsData) (l : Lexeme) (ls : List Lexeme) (ts rest : List Token) → name_of l.kind ≡ None → Begins (maybe_arguments_spelling (Some true) a ++ l ∷ ls) ts rest → opens_bind ts ≡ false
bracket_behind NoArguments l ls ts rest e b = opens_bind-other l ls ts rest e b
bracket_behind (SomeArguments (Arguments items last)) l ls ts rest e b = opens_bind-other (lexeme (Punctuation Less) None (Some true)) (inside_spelling (Arguments items last) ++ l ∷ ls) ts rest refl b

applied_not_loose : (p : Path) (a : MaybeArgumentsData) (l : Lexeme) (inside close : List Lexeme) (ts rest : List Token) → name_of l.kind ≡ None
    → Begins (((path_spelling p ++ maybe_arguments_spelling (Some true) a) ++ l ∷ inside) ++ close) ts rest → IsProperPath p → NotLoose ts
applied_not_loose p a l inside close ts rest e b q =
    let s = Begins-split (path_spelling p) (maybe_arguments_spelling (Some true) a ++ (l ∷ (inside ++ close))) ts rest
    (Begins-same _ _ ts rest (three_behind (path_spelling p) (maybe_arguments_spelling (Some true) a) (l ∷ inside) close) b) in
    path_not_loose p ts s.mid s.front q (bracket_behind a l (inside ++ close) s.mid rest e s.back)

literal_not_loose : (l : Literal) (ts rest : List Token) → Begins (literal_spelling l) ts rest → NotLoose ts
literal_not_loose (number_literal n) ts rest b = not_loose_token (numeral n) [] ts rest refl refl refl b
literal_not_loose (Truth span true) ts rest b = not_loose_token (word (codes "true") (Some span)) [] ts rest refl refl refl b
literal_not_loose (Truth span false) ts rest b = not_loose_token (word (codes "false") (Some span)) [] ts rest refl refl refl b
literal_not_loose (address_literal span address) ts rest b = not_loose_token (sign_at span AtSign) (address_spelling address) ts rest refl refl refl b

pub not_loose : (e : SpecExpressionData) (ts rest : List Token) → Begins (spec_spelling e) ts rest → IsProperSpec e → 1 ≤ level e → opens_bind rest ≡ false → NotLoose ts
not_loose (SpecBinary left operator span right) ts rest b p h n =
    let between = spec_operator_spelling operator span (ends_in_path left) in
    let s = Begins-split (spec_spelling left) (between ++ spec_spelling right) ts rest (Begins-same _ _ ts rest (append_assoc (spec_spelling left) between (spec_spelling right)) b) in
    not_loose left ts s.mid s.front p.0 (omega (arith, (level_is_some operator).0, own_left operator, p.2))
    (opens_bind-other (first_lexeme operator span (ends_in_path left)) (later_lexemes operator ++ spec_spelling right) s.mid rest refl (operator_first operator span (ends_in_path left) (spec_spelling right) s.mid rest s.back))
not_loose (SpecQuantified quantifier span binds _ body) ts rest b p h n = absurd (omega (arith, h))
not_loose (SpecIf span condition then_branch else_branch) ts rest b p h n = absurd (omega (arith, h))
not_loose (SpecNot span operand) ts rest b p h n = not_loose_token (sign_at span Exclaim) (spec_spelling operand) ts rest refl refl refl b
not_loose (SpecField base field) ts rest b p h n =
    let s = Begins-split (spec_spelling base) (sign Period ∷ identifier field ∷ []) ts rest b in
    not_loose base ts s.mid s.front p.0 (omega (arith, p.1)) (opens_bind-other (sign Period) (identifier field ∷ []) s.mid rest refl s.back)
not_loose (SpecIndex base index) ts rest b p h n =
    let s = Begins-split (spec_spelling base) (sign LeftBracket ∷ (spec_spelling index ++ sign RightBracket ∷ [])) ts rest
    (Begins-same _ _ ts rest (append_assoc (spec_spelling base) (sign LeftBracket ∷ spec_spelling index) (sign RightBracket ∷ [])) b) in
    not_loose base ts s.mid s.front p.0 (omega (arith, p.1)) (opens_bind-other (sign LeftBracket) (spec_spelling index ++ sign RightBracket ∷ []) s.mid rest refl s.back)
not_loose (SpecLiteral literal) ts rest b p h n = literal_not_loose literal ts rest b
not_loose (SpecPath path) ts rest b p h n = path_not_loose path ts rest b p n
not_loose (SpecCall function arguments values last) ts rest b p h n =
    applied_not_loose function arguments (sign LeftParenthesis) (comma_list (spec_spellings values) last) (sign RightParenthesis ∷ []) ts rest refl b p.0
not_loose (SpecPack path arguments fields last) ts rest b p h n =
    applied_not_loose path arguments (sign LeftBrace) (comma_list (spec_field_spellings fields) last) (sign RightBrace ∷ []) ts rest refl b p.0
not_loose (SpecParenthesized span inner) ts rest b p h n = not_loose_token (sign_at span LeftParenthesis) (spec_spelling inner ++ sign RightParenthesis ∷ []) ts rest refl refl refl b
