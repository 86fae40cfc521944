-- The spelling of the operators of Move's expressions. Source: The Move Book, "Integers", "Bool", "References" and
-- "Variables". A `<` or `<<` after a path is not glued to it, since a glued `<` opens type arguments; the second `>` of
-- a shift is glued to the first.
use Rattle.std.specs.Prelude.{Bool, true, false, List, [], ◌∷◌, Option, Some, None, codes}
use Rattle.base.specs.declared.span.Span.{Span}
use Rattle.tokens.specs.declared.token.TokenKind.TheVariants.{Punctuation}
use Rattle.tokens.specs.declared.token.Punctuation.{Punctuation as Sign}
use Rattle.tokens.specs.declared.token.Punctuation.TheVariants.{PipePipe, AmpersandAmpersand, EqualEqual, ExclaimEqual, Less as less_sign, LessEqual as less_equal_sign, Greater as greater_sign, GreaterEqual as greater_equal_sign, Pipe, Caret, Ampersand, LessLess, Plus, Minus, Star, Slash, Percent, Exclaim}
use Rattle.syntax_tree.specs.declared.lexeme.Lexeme.{Lexeme}
use Rattle.syntax_tree.specs.declared.operator.BinaryOperator.{BinaryOperator}
use Rattle.syntax_tree.specs.declared.operator.BinaryOperator.TheVariants.{Or, And, Equal, NotEqual, Less, LessEqual, Greater, GreaterEqual, BitOr, BitXor, BitAnd, ShiftLeft, ShiftRight, Add, Subtract, Multiply, Divide, Remainder}
use Rattle.syntax_tree.specs.declared.operator.UnaryOperator.{UnaryOperator}
use Rattle.syntax_tree.specs.declared.operator.UnaryOperator.TheVariants.{Not, Dereference, Borrow, BorrowMutable}
use Rattle.syntax_tree.specs.declared.operator.UseKind.{UseKind}
use Rattle.syntax_tree.specs.declared.operator.UseKind.TheVariants.{Move, Copy}
use Rattle.syntax_tree.specs.Lexemes.{lexeme, word, sign_at}

-- the sign of an operator, or the first of its two signs
abbrev pub sign_of : BinaryOperator → Sign
sign_of Or = PipePipe
sign_of And = AmpersandAmpersand
sign_of Equal = EqualEqual
sign_of NotEqual = ExclaimEqual
sign_of Less = less_sign
sign_of LessEqual = less_equal_sign
sign_of Greater = greater_sign
sign_of GreaterEqual = greater_equal_sign
sign_of BitOr = Pipe
sign_of BitXor = Caret
sign_of BitAnd = Ampersand
sign_of ShiftLeft = LessLess
sign_of ShiftRight = greater_sign
sign_of Add = Plus
sign_of Subtract = Minus
sign_of Multiply = Star
sign_of Divide = Slash
sign_of Remainder = Percent

abbrev pub apart_from_path : Bool → Option Bool
apart_from_path true = Some false
apart_from_path false = None

abbrev pub operator_spelling : BinaryOperator → Span → Bool → List Lexeme
operator_spelling Less span after_path = lexeme (Punctuation less_sign) (Some span) (apart_from_path after_path) ∷ []
operator_spelling ShiftLeft span after_path = lexeme (Punctuation LessLess) (Some span) (apart_from_path after_path) ∷ []
operator_spelling ShiftRight span after_path = sign_at span greater_sign ∷ lexeme (Punctuation greater_sign) None (Some true) ∷ []
operator_spelling operator span after_path = sign_at span (sign_of operator) ∷ []

abbrev pub unary_spelling : UnaryOperator → Span → List Lexeme
unary_spelling Not span = sign_at span Exclaim ∷ []
unary_spelling Dereference span = sign_at span Star ∷ []
unary_spelling Borrow span = sign_at span Ampersand ∷ []
unary_spelling BorrowMutable span = sign_at span Ampersand ∷ word (codes "mut") None ∷ []

abbrev pub use_spelling : UseKind → Span → List Lexeme
use_spelling Move span = word (codes "move") (Some span) ∷ []
use_spelling Copy span = word (codes "copy") (Some span) ∷ []
