-- `update` and `post` are keywords or names, by what follows them.
use Rattle.std.proofs.Common.{◌≡◌, ◌≢◌, Bool, true, false, cond, ◌⊎◌, inl, inr, List, [], ◌∷◌, ◌++◌, Option, Some, None, refl, sym, ap, subst, ◌∙◌, append_assoc, append-nil}
use Rattle.std.specs.Prelude.{ℕ, codes, is_some}
use Rattle.std.specs.Option.{option_map_or}
use Rattle.tokens.specs.declared.token.Token.{Token}
use Rattle.tokens.specs.declared.token.TokenKind.{TokenKind}
use Rattle.tokens.specs.declared.token.TokenKind.TheVariants.{Word, Number, ByteString, Punctuation}
use Rattle.tokens.specs.declared.token.NumberLiteral.{NumberLiteral}
use Rattle.tokens.specs.declared.token.Punctuation.{Punctuation as Sign}
use Rattle.tokens.specs.declared.token.Punctuation.TheVariants.{LeftParenthesis, RightParenthesis, LeftBrace, RightBrace, LeftBracket, RightBracket, ColonColon, Period, Equal as equal_sign, Exclaim, Less as less_sign, AtSign}
use Rattle.syntax_tree.specs.declared.operator.BinaryOperator.TheVariants.{Or, And, Equal, NotEqual, Less, LessEqual, Greater, GreaterEqual, BitOr, BitXor, BitAnd, ShiftLeft, Add, Subtract, Multiply, Divide, Remainder, ShiftRight}
use Rattle.syntax_tree.specs.declared.lexeme.Identifier.{Identifier}
use Rattle.syntax_tree.specs.declared.lexeme.Lexeme.{Lexeme}
use Rattle.syntax_tree.specs.declared.literal.Literal.{Literal}
use Rattle.syntax_tree.specs.declared.literal.Literal.TheVariants.{Number as number_literal, Truth, Address as address_literal}
use Rattle.syntax_tree.specs.declared.path.Address.{Address}
use Rattle.syntax_tree.specs.declared.path.Address.TheVariants.{Number as number_address, Name as name_address}
use Rattle.syntax_tree.specs.declared.path.Path.{Path}
use Rattle.syntax_tree.specs.declared.path.Path.TheVariants.{Name as name_path, Member as member_path, Full as full_path}
use Rattle.syntax_tree.specs.NameRules.{IsName}
use Rattle.syntax_tree.specs.Lexemes.{lexeme, word, sign, sign_at, identifier, numeral, comma_list}
use Rattle.syntax_tree.specs.LiteralSpelling.{literal_spelling}
use Rattle.syntax_tree.specs.PathSpelling.{address_spelling, path_spelling}
use Rattle.syntax_tree.specs.TypeTreeData.{Arguments, MaybeArgumentsData, NoArguments, SomeArguments}
use Rattle.syntax_tree.specs.declared.spec_expression.operator.SpecOperator.{SpecOperator}
use Rattle.syntax_tree.specs.declared.spec_expression.operator.SpecOperator.TheVariants.{Equivalent, Implies, Range, Common}
use Rattle.syntax_tree.specs.declared.spec_expression.operator.Quantifier.TheVariants.{ForAll, Exists}
use Rattle.syntax_tree.specs.SpecOperatorSpelling.{spec_operator_spelling}
use Rattle.syntax_tree.specs.SpecExpressionData.{SpecExpressionData, SpecBinary, SpecQuantified, SpecIf, SpecNot, SpecField, SpecIndex, SpecLiteral, SpecPath, SpecCall, SpecPack, SpecParenthesized, SpecExpressionsData, SpecFieldsData}
use Rattle.syntax_tree.specs.SpecExpressionSpelling.{ends_in_path, spec_spelling, spec_spellings, spec_field_spellings}
use Rattle.syntax_tree.specs.ProperSpecExpressions.{IsProperSpec}
use Rattle.syntax_tree.specs.ClauseSpelling.{update_spelling, post_spelling}
use Rattle.syntax_tree.specs.ProperClauses.{IsWord, BeginsAsCall}
use Rattle.parser_base.specs.Beginnings.{Begins}
use Rattle.parser_base.specs.TokenReading.{is_keyword, after_sign, after_word}
use Rattle.base.specs.Names.{same_name}
use Rattle.parser_base.proofs.Steps.{some_one, true_or_false}
use Rattle.parser_base.proofs.BeginLemmas.{Begins-split, Begins-first, Begins-same}
use Rattle.parser_base.proofs.TokenLemmas.{is_keyword-sound, is_keyword-complete, after_sign-complete, after_sign-other, after_word-sound, after_word-complete}
use Rattle.base.proofs.NameLaws.{same_name-same}
use Rattle.parser_base.proofs.TypeLemmas.{inside_spelling}
use Rattle.expression_parser.proofs.OperatorLemmas.{first_sign, first_lexeme, later_lexemes, operator_first}
use Rattle.expression_parser.proofs.ShapeLemmas.{three_behind, OpensSpec, spec_opens, spec_alone}
use Rattle.expression_parser.proofs.FormSound.{behind_if}
use Rattle.item_parser.specs.ClauseReading.{opens_kind, opens_expression, update_at, post_at}

-- ---- tokens that can begin an expression

pub opens-other : (l : Lexeme) (ls : List Lexeme) (ts rest : List Token) → opens_kind l.kind ≡ false → Begins (l ∷ ls) ts rest → opens_expression ts ≡ false
unfolding opens_expression
opens-other l ls [] rest e b = absurd b
opens-other l ls (t ∷ ts) rest e b = ap opens_kind b.0.kind ∙ e

opened_kind : (kind : TokenKind) → OpensSpec kind → opens_kind kind ≡ true
opened_kind (Word w) o = refl
opened_kind (Number literal) o = refl
opened_kind (ByteString text) o = absurd o
opened_kind (Punctuation s) (inl e) = ap (λ f. opens_kind (Punctuation f)) e
opened_kind (Punctuation s) (inr (inl e)) = ap (λ f. opens_kind (Punctuation f)) e
opened_kind (Punctuation s) (inr (inr e)) = ap (λ f. opens_kind (Punctuation f)) e

opens-first : (l : Lexeme) (ls : List Lexeme) (ts rest : List Token) → OpensSpec l.kind → Begins (l ∷ ls) ts rest → opens_expression ts ≡ true
unfolding opens_expression
opens-first l ls [] rest o b = absurd b
opens-first l ls (t ∷ ts) rest o b = ap opens_kind b.0.kind ∙ opened_kind l.kind o

opens-spec : (e : SpecExpressionData) (ts rest : List Token) → Begins (spec_spelling e) ts rest → IsProperSpec e → opens_expression ts ≡ true
opens-spec e ts rest b p = let o = spec_opens e [] ts rest (spec_alone e ts rest b) p in opens-first o.lexeme o.others ts rest o.opens o.begins

-- no operator can begin an expression
operator_opens_none : (o : SpecOperator) → opens_kind (Punctuation (first_sign o)) ≡ false
operator_opens_none Equivalent = refl
operator_opens_none Implies = refl
operator_opens_none Range = refl
operator_opens_none (Common Or) = refl
operator_opens_none (Common And) = refl
operator_opens_none (Common Equal) = refl
operator_opens_none (Common NotEqual) = refl
operator_opens_none (Common Less) = refl
operator_opens_none (Common LessEqual) = refl
operator_opens_none (Common Greater) = refl
operator_opens_none (Common GreaterEqual) = refl
operator_opens_none (Common BitOr) = refl
operator_opens_none (Common BitXor) = refl
operator_opens_none (Common BitAnd) = refl
operator_opens_none (Common ShiftLeft) = refl
operator_opens_none (Common ShiftRight) = refl
operator_opens_none (Common Add) = refl
operator_opens_none (Common Subtract) = refl
operator_opens_none (Common Multiply) = refl
operator_opens_none (Common Divide) = refl
operator_opens_none (Common Remainder) = refl

-- ---- a word, and what follows it

behind : (l m : Lexeme) (ls : List Lexeme) (ts us rest : List Token) → Begins (l ∷ []) ts us → Begins (m ∷ ls) ts rest → Begins ls us rest
behind l m ls [] us rest a b = absurd a
behind l m ls (t ∷ ts) us rest a b = subst (λ vs. Begins ls vs rest) a.1 b.1

same_kind : (l m : Lexeme) (ls : List Lexeme) (ts us rest : List Token) → Begins (l ∷ []) ts us → Begins (m ∷ ls) ts rest → m.kind ≡ l.kind
same_kind l m ls [] us rest a b = absurd a
same_kind l m ls (t ∷ ts) us rest a b = sym b.0.kind ∙ a.0.kind

same_word : (v w : List ℕ) → ◌≡◌ {A = TokenKind} (Word v) (Word w) → v ≡ w
same_word v w e = cc

no_sign_is_word : (s : Sign) (w : List ℕ) → ◌≡◌ {A = TokenKind} (Punctuation s) (Word w) → ⊥
no_sign_is_word s w e = cc

no_number_is_word : (n : NumberLiteral) (w : List ℕ) → ◌≡◌ {A = TokenKind} (Number n) (Word w) → ⊥
no_number_is_word n w e = cc

-- a word that begins an expression only as a name
record Plain (w : List ℕ) : Type 0 where
  pub name : IsName w
  pub no_forall : w ≢ codes "forall"
  pub no_exists : w ≢ codes "exists"

no_keyword : (w k : List ℕ) → is_keyword k ≡ true → IsName w → k ≡ w → ⊥
no_keyword w k is n e = true_or_false (is_keyword w) (ap is_keyword (sym e) ∙ is) (is_keyword-complete w n)

true_is_keyword : is_keyword (codes "true") ≡ true
unfolding is_keyword
true_is_keyword = refl

false_is_keyword : is_keyword (codes "false") ≡ true
unfolding is_keyword
false_is_keyword = refl

if_is_keyword : is_keyword (codes "if") ≡ true
unfolding is_keyword
if_is_keyword = refl

-- After a word that begins an expression, no token can begin one, unless the word is all of it, or a call.
abbrev Alone : List ℕ → SpecExpressionData → List Token → List Token → Type 0
Alone w e us rest = (opens_expression us ≡ false) ⊎ ((us ≡ rest) ⊎ BeginsAsCall w e)

longer : (w : List ℕ) (e whole : SpecExpressionData) (us mid rest : List Token) → opens_expression mid ≡ false → (BeginsAsCall w e → BeginsAsCall w whole) → Alone w e us mid → Alone w whole us rest
longer w e whole us mid rest o f (inl h) = inl h
longer w e whole us mid rest o f (inr (inl same)) = inl (ap opens_expression same ∙ o)
longer w e whole us mid rest o f (inr (inr c)) = inr (inr (f c))

path_second : (w : List ℕ) (p : Path) (ls : List Lexeme) (ts us rest : List Token) → Begins (word w None ∷ []) ts us → Begins (path_spelling p ++ ls) ts rest → (opens_expression us ≡ false) ⊎ (IsWord w p × Begins ls us rest)
path_second w (name_path i) ls ts us rest a b =
    inr (same_word i.text w (same_kind (word w None) (identifier i) ls ts us rest a b), behind (word w None) (identifier i) ls ts us rest a b)
path_second w (member_path i j) ls ts us rest a b =
    inl (opens-other (sign ColonColon) (identifier j ∷ ls) us rest refl (behind (word w None) (identifier i) (sign ColonColon ∷ identifier j ∷ ls) ts us rest a b))
path_second w (full_path m n) ls ts us rest a b = from_address m.address m.name n b
  where
    from_address : (a : Address) (m n : Identifier) → Begins (path_spelling (full_path (record { address = a; name = m }) n) ++ ls) ts rest
        → (opens_expression us ≡ false) ⊎ (IsWord w (full_path (record { address = a; name = m }) n) × Begins ls us rest)
    from_address (number_address k) m n b = absurd (no_number_is_word k.literal w (same_kind (word w None) (numeral k) (sign ColonColon ∷ identifier m ∷ sign ColonColon ∷ identifier n ∷ ls) ts us rest a b))
    from_address (name_address i) m n b =
        inl (opens-other (sign ColonColon) (identifier m ∷ sign ColonColon ∷ identifier n ∷ ls) us rest refl
        (behind (word w None) (identifier i) (sign ColonColon ∷ identifier m ∷ sign ColonColon ∷ identifier n ∷ ls) ts us rest a b))

call_second : (w : List ℕ) (function : Path) (given : MaybeArgumentsData) (values : SpecExpressionsData) (last : Bool) (ts us rest : List Token) → Begins (word w None ∷ []) ts us
    → Begins (spec_spelling (SpecCall function given values last)) ts rest → Alone w (SpecCall function given values last) us rest
call_second w function NoArguments values last ts us rest a b =
    let inside = comma_list (spec_spellings values) last in
    elim (path_second w function (sign LeftParenthesis ∷ (inside ++ sign RightParenthesis ∷ [])) ts us rest a
    (Begins-same _ _ ts rest (three_behind (path_spelling function) [] (sign LeftParenthesis ∷ inside) (sign RightParenthesis ∷ [])) b)) [
      | inl h ↦ inl h
      | inr c ↦ inr (inr c.0)
    ]
call_second w function (SomeArguments (Arguments items comma)) values last ts us rest a b =
    let inside = comma_list (spec_spellings values) last in
    let types = lexeme (Punctuation less_sign) None (Some true) ∷ inside_spelling (Arguments items comma) in
    let behind_types = sign LeftParenthesis ∷ (inside ++ sign RightParenthesis ∷ []) in
    elim (path_second w function (types ++ behind_types) ts us rest a
    (Begins-same _ _ ts rest (three_behind (path_spelling function) types (sign LeftParenthesis ∷ inside) (sign RightParenthesis ∷ [])) b)) [
      | inl h ↦ inl h
      | inr c ↦ inl (opens-other (lexeme (Punctuation less_sign) None (Some true)) (inside_spelling (Arguments items comma) ++ behind_types) us rest refl c.1)
    ]

pack_second : (w : List ℕ) (path : Path) (given : MaybeArgumentsData) (fields : SpecFieldsData) (last : Bool) (ts us rest : List Token) → Begins (word w None ∷ []) ts us
    → Begins (spec_spelling (SpecPack path given fields last)) ts rest → Alone w (SpecPack path given fields last) us rest
pack_second w path NoArguments fields last ts us rest a b =
    let inside = comma_list (spec_field_spellings fields) last in
    elim (path_second w path (sign LeftBrace ∷ (inside ++ sign RightBrace ∷ [])) ts us rest a
    (Begins-same _ _ ts rest (three_behind (path_spelling path) [] (sign LeftBrace ∷ inside) (sign RightBrace ∷ [])) b)) [
      | inl h ↦ inl h
      | inr c ↦ inl (opens-other (sign LeftBrace) (inside ++ sign RightBrace ∷ []) us rest refl c.1)
    ]
pack_second w path (SomeArguments (Arguments items comma)) fields last ts us rest a b =
    let inside = comma_list (spec_field_spellings fields) last in
    let types = lexeme (Punctuation less_sign) None (Some true) ∷ inside_spelling (Arguments items comma) in
    let behind_types = sign LeftBrace ∷ (inside ++ sign RightBrace ∷ []) in
    elim (path_second w path (types ++ behind_types) ts us rest a
    (Begins-same _ _ ts rest (three_behind (path_spelling path) types (sign LeftBrace ∷ inside) (sign RightBrace ∷ [])) b)) [
      | inl h ↦ inl h
      | inr c ↦ inl (opens-other (lexeme (Punctuation less_sign) None (Some true)) (inside_spelling (Arguments items comma) ++ behind_types) us rest refl c.1)
    ]

no_literal : (w : List ℕ) (l : Literal) (ts us rest : List Token) → IsName w → Begins (word w None ∷ []) ts us → Begins (literal_spelling l) ts rest → ⊥
no_literal w (number_literal n) ts us rest p a b = no_number_is_word n.literal w (same_kind (word w None) (numeral n) [] ts us rest a b)
no_literal w (Truth span true) ts us rest p a b = no_keyword w (codes "true") true_is_keyword p (same_word (codes "true") w (same_kind (word w None) (word (codes "true") (Some span)) [] ts us rest a b))
no_literal w (Truth span false) ts us rest p a b = no_keyword w (codes "false") false_is_keyword p (same_word (codes "false") w (same_kind (word w None) (word (codes "false") (Some span)) [] ts us rest a b))
no_literal w (address_literal span address) ts us rest p a b = no_sign_is_word AtSign w (same_kind (word w None) (sign_at span AtSign) (address_spelling address) ts us rest a b)

second : (w : List ℕ) → Plain w → (e : SpecExpressionData) (ts us rest : List Token) → Begins (word w None ∷ []) ts us → Begins (spec_spelling e) ts rest → Alone w e us rest
second w n (SpecBinary left operator span right) ts us rest a b =
    let between = spec_operator_spelling operator span (ends_in_path left) in
    let s = Begins-split (spec_spelling left) (between ++ spec_spelling right) ts rest (Begins-same _ _ ts rest (append_assoc (spec_spelling left) between (spec_spelling right)) b) in
    longer w left (SpecBinary left operator span right) us s.mid rest
    (opens-other (first_lexeme operator span (ends_in_path left)) (later_lexemes operator ++ spec_spelling right) s.mid rest (operator_opens_none operator) (operator_first operator span (ends_in_path left) (spec_spelling right) s.mid rest s.back))
    (λ c. c) (second w n left ts us s.mid a s.front)
second w n (SpecQuantified ForAll span binds kept body) ts us rest a b = absurd (n.no_forall (sym (same_word (codes "forall") w (same_kind (word w None) (word (codes "forall") (Some span)) _ ts us rest a b))))
second w n (SpecQuantified Exists span binds kept body) ts us rest a b = absurd (n.no_exists (sym (same_word (codes "exists") w (same_kind (word w None) (word (codes "exists") (Some span)) _ ts us rest a b))))
second w n (SpecIf span condition chosen other) ts us rest a b = absurd (no_keyword w (codes "if") if_is_keyword n.name (same_word (codes "if") w (same_kind (word w None) (word (codes "if") (Some span)) (behind_if condition chosen other) ts us rest a b)))
second w n (SpecNot span operand) ts us rest a b = absurd (no_sign_is_word Exclaim w (same_kind (word w None) (sign_at span Exclaim) (spec_spelling operand) ts us rest a b))
second w n (SpecField base field) ts us rest a b =
    let s = Begins-split (spec_spelling base) (sign Period ∷ identifier field ∷ []) ts rest b in
    longer w base (SpecField base field) us s.mid rest (opens-other (sign Period) (identifier field ∷ []) s.mid rest refl s.back) (λ c. c) (second w n base ts us s.mid a s.front)
second w n (SpecIndex base index) ts us rest a b =
    let s = Begins-split (spec_spelling base) (sign LeftBracket ∷ (spec_spelling index ++ sign RightBracket ∷ [])) ts rest
    (Begins-same _ _ ts rest (append_assoc (spec_spelling base) (sign LeftBracket ∷ spec_spelling index) (sign RightBracket ∷ [])) b) in
    longer w base (SpecIndex base index) us s.mid rest (opens-other (sign LeftBracket) (spec_spelling index ++ sign RightBracket ∷ []) s.mid rest refl s.back) (λ c. c) (second w n base ts us s.mid a s.front)
second w n (SpecLiteral literal) ts us rest a b = absurd (no_literal w literal ts us rest n.name a b)
second w n (SpecPath path) ts us rest a b =
    elim (path_second w path [] ts us rest a (Begins-same _ _ ts rest (sym (append-nil (path_spelling path))) b)) [
      | inl h ↦ inl h
      | inr c ↦ inr (inl c.1)
    ]
second w n (SpecCall function given values last) ts us rest a b = call_second w function given values last ts us rest a b
second w n (SpecPack path given fields last) ts us rest a b = pack_second w path given fields last ts us rest a b
second w n (SpecParenthesized span inner) ts us rest a b = absurd (no_sign_is_word LeftParenthesis w (same_kind (word w None) (sign_at span LeftParenthesis) (spec_spelling inner ++ sign RightParenthesis ∷ []) ts us rest a b))

-- ---- a call begins with its word and a parenthesis

record AsCall (w : List ℕ) (ts : List Token) : Type 0 where
  pub inside : List Token
  pub front : Begins (word w None ∷ []) ts inside
  pub opens : opens_expression inside ≡ true

unplaced : (i : Identifier) (w : List ℕ) (ts us : List Token) → i.text ≡ w → Begins (identifier i ∷ []) ts us → Begins (word w None ∷ []) ts us
unplaced i w [] us e b = absurd b
unplaced i w (t ∷ ts) us e b = (record { kind = b.0.kind ∙ ap Word e; placed = tt; glued = tt }, b.1)

as_call : (w : List ℕ) (e : SpecExpressionData) (ls : List Lexeme) (ts rest : List Token) → BeginsAsCall w e → Begins (spec_spelling e ++ ls) ts rest → AsCall w ts
as_call w (SpecBinary left operator span right) ls ts rest c b =
    as_call w left (spec_operator_spelling operator span (ends_in_path left) ++ (spec_spelling right ++ ls)) ts rest c
    (Begins-same _ _ ts rest (three_behind (spec_spelling left) (spec_operator_spelling operator span (ends_in_path left)) (spec_spelling right) ls) b)
as_call w (SpecField base field) ls ts rest c b =
    as_call w base (sign Period ∷ identifier field ∷ ls) ts rest c (Begins-same _ _ ts rest (append_assoc (spec_spelling base) (sign Period ∷ identifier field ∷ []) ls) b)
as_call w (SpecIndex base index) ls ts rest c b =
    as_call w base (sign LeftBracket ∷ (spec_spelling index ++ (sign RightBracket ∷ ls))) ts rest c
    (Begins-same _ _ ts rest (three_behind (spec_spelling base) (sign LeftBracket ∷ spec_spelling index) (sign RightBracket ∷ []) ls) b)
as_call w (SpecCall (name_path i) NoArguments values last) ls ts rest c b =
    let behind_word = sign LeftParenthesis ∷ ((comma_list (spec_spellings values) last ++ sign RightParenthesis ∷ []) ++ ls) in
    let s = Begins-first (identifier i) behind_word ts rest b in
    record { inside = s.mid; front = unplaced i w ts s.mid c s.front; opens = opens-first (sign LeftParenthesis) ((comma_list (spec_spellings values) last ++ sign RightParenthesis ∷ []) ++ ls) s.mid rest (inl refl) s.back }
as_call w (SpecCall (member_path i j) NoArguments values last) ls ts rest c b = absurd c
as_call w (SpecCall (full_path m i) NoArguments values last) ls ts rest c b = absurd c
as_call w (SpecCall function (SomeArguments a) values last) ls ts rest c b = absurd c
as_call w _ ls ts rest c b = absurd c

-- ---- `update`

abbrev updated : List Token → List Token → Bool → Bool × List Token
updated ts rest is_sign = cond is_sign (true, rest) (false, ts)

abbrev after_update : List Token → Option (List Token) → Bool × List Token
after_update ts found = option_map_or {U = Bool × List Token} (λ rest. updated ts rest (opens_expression rest)) found (false, ts)

update_is : (ts : List Token) → update_at ts ≡ after_update ts (after_word (codes "update") ts)
unfolding update_at
update_is ts = refl

updated-sound : (ts rest : List Token) (is_sign : Bool) → Begins (update_spelling true) ts rest → Begins (update_spelling (updated ts rest is_sign).0) ts (updated ts rest is_sign).1
updated-sound ts rest true b = b
updated-sound ts rest false b = refl

after_update-sound : (ts : List Token) (found : Option (List Token)) → after_word (codes "update") ts ≡ found → Begins (update_spelling (after_update ts found).0) ts (after_update ts found).1
after_update-sound ts None e = refl
after_update-sound ts (Some rest) e = updated-sound ts rest (opens_expression rest) (after_word-sound (codes "update") ts rest e)

pub update_at-sound : (ts : List Token) → Begins (update_spelling (update_at ts).0) ts (update_at ts).1
update_at-sound ts = subst (λ u. Begins (update_spelling u.0) ts u.1) (sym (update_is ts)) (after_update-sound ts (after_word (codes "update") ts) refl)

none_is_not_some : (x : List Token) → ◌≡◌ {A = Option (List Token)} None (Some x) → ⊥
none_is_not_some x e = cc

updated-name : (ts rest : List Token) (is_sign : Bool) → opens_expression rest ≡ is_sign → (updated ts rest is_sign).0 ≡ false → ((updated ts rest is_sign).1 ≡ ts) × (opens_expression rest ≡ false)
updated-name ts rest true o e = absurd (cc)
updated-name ts rest false o e = (refl, o)

after_update-name : (ts : List Token) (found : Option (List Token)) → after_word (codes "update") ts ≡ found → (after_update ts found).0 ≡ false → ((after_update ts found).1 ≡ ts) × (AsCall (codes "update") ts → ⊥)
after_update-name ts None e f = (refl, λ c. none_is_not_some c.inside (sym e ∙ after_word-complete (codes "update") ts c.inside c.front))
after_update-name ts (Some rest) e f =
    let u = updated-name ts rest (opens_expression rest) refl f in
    (u.0, λ c. true_or_false (opens_expression rest) (ap opens_expression (some_one rest c.inside (sym e ∙ after_word-complete (codes "update") ts c.inside c.front)) ∙ c.opens) u.1)

-- what follows is not a call of `update`, if `update` is not a keyword
pub update_at-name : (ts rest : List Token) (e : SpecExpressionData) → (update_at ts).0 ≡ false → Begins (spec_spelling e) (update_at ts).1 rest → BeginsAsCall (codes "update") e → ⊥
update_at-name ts rest e f b c =
    let n = after_update-name ts (after_word (codes "update") ts) refl (sym (ap (λ u. u.0) (update_is ts)) ∙ f) in
    n.1 (as_call (codes "update") e [] ts rest c (spec_alone e ts rest (subst (λ us. Begins (spec_spelling e) us rest) (ap (λ u. u.1) (update_is ts) ∙ n.0) b)))

differs : (w v : List ℕ) → same_name w v ≡ false → w ≢ v
differs w v d e = true_or_false (same_name w v) (ap (same_name w) (sym e) ∙ same_name-same w) d

update_is_no_keyword : is_keyword (codes "update") ≡ false
unfolding is_keyword
update_is_no_keyword = refl

update_is_plain : Plain (codes "update")
update_is_plain = record { name = is_keyword-sound (codes "update") update_is_no_keyword; no_forall = differs (codes "update") (codes "forall") refl; no_exists = differs (codes "update") (codes "exists") refl }

pub update_at-complete : (is_update : Bool) (e : SpecExpressionData) (ts mid rest : List Token) → Begins (update_spelling is_update) ts mid → Begins (spec_spelling e) mid rest → IsProperSpec e
    → (is_update ≡ false → BeginsAsCall (codes "update") e → ⊥) → opens_expression rest ≡ false → update_at ts ≡ (is_update, mid)
update_at-complete true e ts mid rest a b p n o =
    update_is ts ∙ ap (after_update ts) (after_word-complete (codes "update") ts mid a) ∙ ap (updated ts mid) (opens-spec e mid rest b p)
update_at-complete false e ts mid rest a b p n o =
    update_is ts ∙ go (after_word (codes "update") ts) refl ∙ ap (λ us. (false, us)) a
  where
    go : (found : Option (List Token)) → after_word (codes "update") ts ≡ found → after_update ts found ≡ (false, ts)
    go None is = refl
    go (Some us) is =
        elim (second (codes "update") update_is_plain e ts us rest (after_word-sound (codes "update") ts us is) (subst (λ vs. Begins (spec_spelling e) vs rest) (sym a) b)) [
          | inl h ↦ ap (updated ts us) h
          | inr h ↦ elim h [
            | inl same ↦ ap (updated ts us) (ap opens_expression same ∙ o)
            | inr c ↦ absurd (n refl c)
          ]
        ]

-- ---- `post`

abbrev posted : List Token → List Token → Bool → Bool × List Token
posted ts rest is_name = cond is_name (false, ts) (true, rest)

abbrev after_post : List Token → Option (List Token) → Bool × List Token
after_post ts found = option_map_or {U = Bool × List Token} (λ rest. posted ts rest (is_some (after_sign equal_sign rest))) found (false, ts)

post_is : (ts : List Token) → post_at ts ≡ after_post ts (after_word (codes "post") ts)
unfolding post_at
post_is ts = refl

posted-sound : (ts rest : List Token) (is_name : Bool) → Begins (post_spelling true) ts rest → Begins (post_spelling (posted ts rest is_name).0) ts (posted ts rest is_name).1
posted-sound ts rest true b = refl
posted-sound ts rest false b = b

after_post-sound : (ts : List Token) (found : Option (List Token)) → after_word (codes "post") ts ≡ found → Begins (post_spelling (after_post ts found).0) ts (after_post ts found).1
after_post-sound ts None e = refl
after_post-sound ts (Some rest) e = posted-sound ts rest (is_some (after_sign equal_sign rest)) (after_word-sound (codes "post") ts rest e)

pub post_at-sound : (ts : List Token) → Begins (post_spelling (post_at ts).0) ts (post_at ts).1
post_at-sound ts = subst (λ u. Begins (post_spelling u.0) ts u.1) (sym (post_is ts)) (after_post-sound ts (after_word (codes "post") ts) refl)

pub post_at-complete : (is_post : Bool) (name : Identifier) (ls : List Lexeme) (ts mid rest : List Token) → Begins (post_spelling is_post) ts mid → Begins (identifier name ∷ sign equal_sign ∷ ls) mid rest → post_at ts ≡ (is_post, mid)
post_at-complete true name ls ts mid rest a b =
    post_is ts ∙ ap (after_post ts) (after_word-complete (codes "post") ts mid a)
    ∙ ap (λ o. posted ts mid (is_some {T = List Token} o)) (after_sign-other equal_sign (identifier name) (sign equal_sign ∷ ls) mid rest refl b)
post_at-complete false name ls ts mid rest a b = post_is ts ∙ go (after_word (codes "post") ts) refl ∙ ap (λ us. (false, us)) a
  where
    go : (found : Option (List Token)) → after_word (codes "post") ts ≡ found → after_post ts found ≡ (false, ts)
    go None is = refl
    go (Some us) is =
        let s = Begins-first (sign equal_sign) ls us rest (behind (word (codes "post") None) (identifier name) (sign equal_sign ∷ ls) ts us rest (after_word-sound (codes "post") ts us is) (subst (λ vs. Begins (identifier name ∷ sign equal_sign ∷ ls) vs rest) (sym a) b)) in
        ap (λ o. posted ts us (is_some {T = List Token} o)) (after_sign-complete equal_sign us s.mid s.front)
