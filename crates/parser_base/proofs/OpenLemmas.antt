-- The first tokens of expressions.
use Rattle.std.proofs.Common.{◌≡◌, ℕ, ◌≤◌, Bool, true, false, cond, ◌||◌, List, [], ◌∷◌, ◌++◌, Some, None, refl, sym, ap, ◌∙◌, arith}
use Rattle.std.specs.Prelude.{codes}
use Rattle.base.proofs.TruthValues.{or_true}
use Rattle.tokens.specs.declared.token.Token.{Token}
use Rattle.tokens.specs.declared.token.TokenKind.{TokenKind}
use Rattle.tokens.specs.declared.token.TokenKind.TheVariants.{Word, Number, ByteString, Punctuation}
use Rattle.tokens.specs.declared.token.Punctuation.{Punctuation as Sign}
use Rattle.tokens.specs.declared.token.Punctuation.TheVariants.{Period, LeftParenthesis, RightParenthesis, LeftBrace, RightBrace, AtSign}
use Rattle.syntax_tree.specs.declared.lexeme.Lexeme.{Lexeme}
use Rattle.syntax_tree.specs.declared.literal.Literal.{Literal}
use Rattle.syntax_tree.specs.declared.literal.Literal.TheVariants.{Number as number_literal, Truth as truth_literal, Address as address_literal}
use Rattle.syntax_tree.specs.declared.path.Address.{Address}
use Rattle.syntax_tree.specs.declared.path.Address.TheVariants.{Number as number_address, Name as name_address}
use Rattle.syntax_tree.specs.declared.path.Path.{Path}
use Rattle.syntax_tree.specs.declared.path.Path.TheVariants.{Name as name_path, Member as member_path, Full as full_path}
use Rattle.syntax_tree.specs.declared.operator.UnaryOperator.TheVariants.{Not, Dereference, Borrow, BorrowMutable}
use Rattle.syntax_tree.specs.declared.operator.UseKind.TheVariants.{Move, Copy}
use Rattle.syntax_tree.specs.Lexemes.{sign, identifier, comma_list}
use Rattle.syntax_tree.specs.NameRules.{IsName}
use Rattle.syntax_tree.specs.PathSpelling.{address_spelling, module_spelling, path_spelling}
use Rattle.syntax_tree.specs.LiteralSpelling.{literal_spelling}
use Rattle.syntax_tree.specs.TypeSpelling.{maybe_arguments_spelling}
use Rattle.syntax_tree.specs.OperatorSpelling.{operator_spelling}
use Rattle.syntax_tree.specs.ProperTypes.{IsProperAddress, IsProperPath}
use Rattle.syntax_tree.specs.ExpressionData.{ExpressionData, BinaryExpression, AssignExpression, IfExpression, WhileExpression, LoopExpression, ReturnExpression, AbortExpression, BreakExpression, ContinueExpression, UnaryExpression, UseExpression, FieldExpression, LiteralExpression, PathExpression, CallExpression, PackExpression, VectorExpression, AssertExpression, TupleExpression, CastExpression, BlockExpression, BlockOf}
use Rattle.syntax_tree.specs.ExpressionSpelling.{expression_spelling, expression_spellings, field_value_spellings, ends_in_path}
use Rattle.syntax_tree.specs.ProperExpressions.{Role, takes_else, IsProperAs, IsProperExpression, level, term_level}
use Rattle.parser_base.specs.Beginnings.{Begins}
use Rattle.parser_base.specs.TokenReading.{is_sign, is_word, is_keyword, after_sign}
use Rattle.base.specs.Names.{same_name}
use Rattle.parser_base.proofs.TokenLemmas.{is_sign-sound, is_word-sound, is_keyword-complete}
use Rattle.parser_base.proofs.FirstLemmas.{First, First-append, First-weaker, after_sign-first}
use Rattle.parser_base.proofs.OperatorLemmas.{level_small}
use Rattle.parser_base.specs.LeafReading.{begins_operand, begins_by_keyword, begins_expression}

-- ---- three sets of tokens, each included in the next

-- the first tokens of a term
abbrev pub begins_term : TokenKind → Bool
begins_term (Word word) = same_name word (codes "true") || (same_name word (codes "false") || cond (is_keyword word) false true)
begins_term (Number literal) = true
begins_term (ByteString text) = false
begins_term (Punctuation LeftParenthesis) = true
begins_term (Punctuation LeftBrace) = true
begins_term (Punctuation AtSign) = true
begins_term (Punctuation _) = false

pub name_begins_term : (w : List ℕ) → IsName w → begins_term (Word w) ≡ true
name_begins_term w n =
    ap (λ k. same_name w (codes "true") || (same_name w (codes "false") || cond k false true)) (is_keyword-complete w n)
    ∙ ap (λ b. same_name w (codes "true") || b) (or_true (same_name w (codes "false"))) ∙ or_true (same_name w (codes "true"))

pub name_begins : (w : List ℕ) → IsName w → begins_expression (Word w) ≡ true
name_begins w n = ap (λ k. begins_by_keyword w || cond k false true) (is_keyword-complete w n) ∙ or_true (begins_by_keyword w)

address_first : (P : TokenKind → Type 0) (a : Address) (ls : List Lexeme) → ((literal : _) → P (Number literal)) → ((w : List ℕ) → IsName w → P (Word w)) → IsProperAddress a → First P (address_spelling a ++ ls)
address_first P (number_address n) ls f g p = f n.literal
address_first P (name_address i) ls f g p = g i.text p

pub path_first : (P : TokenKind → Type 0) (path : Path) → ((literal : _) → P (Number literal)) → ((w : List ℕ) → IsName w → P (Word w)) → IsProperPath path → First P (path_spelling path)
path_first P (name_path i) f g p = g i.text p
path_first P (member_path i j) f g p = g i.text p.0
path_first P (full_path m n) f g p = First-append P (module_spelling m) (sign _ ∷ identifier n ∷ []) (address_first P m.address (sign _ ∷ identifier m.name ∷ []) f g p.0.0)

vector_begins : begins_expression (Word (codes "vector")) ≡ true
unfolding is_keyword
vector_begins = refl

assert_begins : begins_expression (Word (codes "assert")) ≡ true
unfolding is_keyword
assert_begins = refl

abbrev pub BeginsExpression : TokenKind → Type 0
BeginsExpression k = begins_expression k ≡ true

literal_first : (l : Literal) → First BeginsExpression (literal_spelling l)
literal_first (number_literal n) = refl
literal_first (truth_literal span true) = refl
literal_first (truth_literal span false) = refl
literal_first (address_literal span a) = refl

pub expression_first : (role : Role) (e : ExpressionData) → IsProperAs role e → First BeginsExpression (expression_spelling e)
expression_first role (BinaryExpression l o span r) p =
    First-append BeginsExpression (expression_spelling l ++ operator_spelling o span (ends_in_path l)) (expression_spelling r)
    (First-append BeginsExpression (expression_spelling l) (operator_spelling o span (ends_in_path l)) (expression_first _ l p.0))
expression_first role (AssignExpression target span value) p = First-append BeginsExpression (expression_spelling target) _ (expression_first _ target p.0)
expression_first role (UnaryExpression Not span e) p = refl
expression_first role (UnaryExpression Dereference span e) p = refl
expression_first role (UnaryExpression Borrow span e) p = refl
expression_first role (UnaryExpression BorrowMutable span e) p = refl
expression_first role (UseExpression Move span local) p = refl
expression_first role (UseExpression Copy span local) p = refl
expression_first role (FieldExpression base field) p = First-append BeginsExpression (expression_spelling base) _ (expression_first _ base p.0)
expression_first role (LiteralExpression l) p = literal_first l
expression_first role (PathExpression path) p = path_first BeginsExpression path (λ literal. refl) name_begins p
expression_first role (CallExpression path given values last) p =
    First-append BeginsExpression ((path_spelling path ++ maybe_arguments_spelling (Some true) given) ++ sign LeftParenthesis ∷ comma_list (expression_spellings values) last) (sign RightParenthesis ∷ [])
    (First-append BeginsExpression (path_spelling path ++ maybe_arguments_spelling (Some true) given) (sign LeftParenthesis ∷ comma_list (expression_spellings values) last)
    (First-append BeginsExpression (path_spelling path) (maybe_arguments_spelling (Some true) given) (path_first BeginsExpression path (λ literal. refl) name_begins p.0)))
expression_first role (PackExpression path given fields last) p =
    First-append BeginsExpression ((path_spelling path ++ maybe_arguments_spelling (Some true) given) ++ sign LeftBrace ∷ comma_list (field_value_spellings fields) last) (sign RightBrace ∷ [])
    (First-append BeginsExpression (path_spelling path ++ maybe_arguments_spelling (Some true) given) (sign LeftBrace ∷ comma_list (field_value_spellings fields) last)
    (First-append BeginsExpression (path_spelling path) (maybe_arguments_spelling (Some true) given) (path_first BeginsExpression path (λ literal. refl) name_begins p.0)))
expression_first role (VectorExpression span given items last) p = vector_begins
expression_first role (AssertExpression span condition code) p = assert_begins
expression_first role (BlockExpression (BlockOf span spec items value)) p = refl
expression_first role _ p = refl

-- ---- tokens that begin no expression

pub differs : {A : Type 0} → true ≡ false → A
differs h = absurd (cc)

pub begin_no_sign : (s : Sign) → begins_operand s ≡ false → (k : TokenKind) → BeginsExpression k → is_sign s k ≡ false
begin_no_sign s e k b = go (is_sign s k) refl
  where
    go : (c : Bool) → is_sign s k ≡ c → is_sign s k ≡ false
    go true h = differs (sym b ∙ ap begins_expression (is_sign-sound s k h) ∙ e)
    go false h = h

pub begin_no_word : (w : List ℕ) → begins_expression (Word w) ≡ false → (k : TokenKind) → BeginsExpression k → is_word w k ≡ false
begin_no_word w e k b = go (is_word w k) refl
  where
    go : (c : Bool) → is_word w k ≡ c → is_word w k ≡ false
    go true h = differs (sym b ∙ ap begins_expression (is_word-sound w k h) ∙ e)
    go false h = h

pub expression_no_sign : (s : Sign) → begins_operand s ≡ false → (role : Role) (e : ExpressionData) (ts rest : List Token) → Begins (expression_spelling e) ts rest → IsProperAs role e → after_sign s ts ≡ None
expression_no_sign s e role x ts rest b p = after_sign-first s (expression_spelling x) ts rest (First-weaker BeginsExpression (λ k. is_sign s k ≡ false) (begin_no_sign s e) (expression_spelling x) (expression_first role x p)) b

-- an expression of a level above 0 takes no `else`
pub high_no_else : (e : ExpressionData) → 1 ≤ level e → takes_else e ≡ false
high_no_else (AssignExpression target span value) h = absurd (omega (arith, h))
high_no_else (IfExpression span x y z) h = absurd (omega (arith, h))
high_no_else (WhileExpression span x y) h = absurd (omega (arith, h))
high_no_else (LoopExpression span x) h = absurd (omega (arith, h))
high_no_else (ReturnExpression span x) h = absurd (omega (arith, h))
high_no_else (AbortExpression span x) h = absurd (omega (arith, h))
high_no_else _ h = refl

-- ---- the first tokens of terms and operands

move_begins_no_term : begins_term (Word (codes "move")) ≡ false
unfolding is_keyword
move_begins_no_term = refl

copy_begins_no_term : begins_term (Word (codes "copy")) ≡ false
unfolding is_keyword
copy_begins_no_term = refl

abbrev pub BeginsTerm : TokenKind → Type 0
BeginsTerm k = begins_term k ≡ true

vector_begins_term : begins_term (Word (codes "vector")) ≡ true
unfolding is_keyword
vector_begins_term = refl

assert_begins_term : begins_term (Word (codes "assert")) ≡ true
unfolding is_keyword
assert_begins_term = refl

literal_first_term : (l : Literal) → First BeginsTerm (literal_spelling l)
literal_first_term (number_literal n) = refl
literal_first_term (truth_literal span true) = refl
literal_first_term (truth_literal span false) = refl
literal_first_term (address_literal span a) = refl

pub term_first : (e : ExpressionData) → term_level ≤ level e → IsProperExpression e → First BeginsTerm (expression_spelling e)
term_first (AssignExpression target span value) h p = absurd (omega (arith, h))
term_first (IfExpression span x y z) h p = absurd (omega (arith, h))
term_first (WhileExpression span x y) h p = absurd (omega (arith, h))
term_first (LoopExpression span x) h p = absurd (omega (arith, h))
term_first (ReturnExpression span x) h p = absurd (omega (arith, h))
term_first (AbortExpression span x) h p = absurd (omega (arith, h))
term_first (BreakExpression span) h p = absurd (omega (arith, h))
term_first (ContinueExpression span) h p = absurd (omega (arith, h))
term_first (UnaryExpression o span x) h p = absurd (omega (arith, h))
term_first (UseExpression k span local) h p = absurd (omega (arith, h))
term_first (BinaryExpression l o span r) h p = absurd (omega (arith, h, level_small o))
term_first (FieldExpression base field) h p = First-append BeginsTerm (expression_spelling base) (sign Period ∷ identifier field ∷ []) (term_first base p.1 p.0)
term_first (LiteralExpression l) h p = literal_first_term l
term_first (PathExpression path) h p = path_first BeginsTerm path (λ literal. refl) name_begins_term p
term_first (CallExpression path given values last) h p =
    First-append BeginsTerm ((path_spelling path ++ maybe_arguments_spelling (Some true) given) ++ sign LeftParenthesis ∷ comma_list (expression_spellings values) last) (sign RightParenthesis ∷ [])
    (First-append BeginsTerm (path_spelling path ++ maybe_arguments_spelling (Some true) given) (sign LeftParenthesis ∷ comma_list (expression_spellings values) last)
    (First-append BeginsTerm (path_spelling path) (maybe_arguments_spelling (Some true) given) (path_first BeginsTerm path (λ literal. refl) name_begins_term p.0)))
term_first (PackExpression path given fields last) h p =
    First-append BeginsTerm ((path_spelling path ++ maybe_arguments_spelling (Some true) given) ++ sign LeftBrace ∷ comma_list (field_value_spellings fields) last) (sign RightBrace ∷ [])
    (First-append BeginsTerm (path_spelling path ++ maybe_arguments_spelling (Some true) given) (sign LeftBrace ∷ comma_list (field_value_spellings fields) last)
    (First-append BeginsTerm (path_spelling path) (maybe_arguments_spelling (Some true) given) (path_first BeginsTerm path (λ literal. refl) name_begins_term p.0)))
term_first (VectorExpression span given items last) h p = vector_begins_term
term_first (AssertExpression span condition code) h p = assert_begins_term
term_first (TupleExpression span items last) h p = refl
term_first (CastExpression span value target) h p = refl
term_first (BlockExpression (BlockOf span spec items value)) h p = refl

pub term_no_sign : (s : Sign) → begins_term (Punctuation s) ≡ false → (k : TokenKind) → BeginsTerm k → is_sign s k ≡ false
term_no_sign s e k b = go (is_sign s k) refl
  where
    go : (c : Bool) → is_sign s k ≡ c → is_sign s k ≡ false
    go true h = differs (sym b ∙ ap begins_term (is_sign-sound s k h) ∙ e)
    go false h = h

pub term_no_word : (w : List ℕ) → begins_term (Word w) ≡ false → (k : TokenKind) → BeginsTerm k → is_word w k ≡ false
term_no_word w e k b = go (is_word w k) refl
  where
    go : (c : Bool) → is_word w k ≡ c → is_word w k ≡ false
    go true h = differs (sym b ∙ ap begins_term (is_word-sound w k h) ∙ e)
    go false h = h
