-- The classes of bytes of Move's source text. Source: the lexer of Move's compiler.
use Rattle.std.specs.Prelude.{ℕ, Bool, ◌==◌, ◌||◌}
use Rattle.std.specs.Char.{is_ascii_alphabetic, is_ascii_alphanumeric}

-- a space, a tab, a line feed or a carriage return
unfoldable pub is_blank : ℕ → Bool
is_blank b = (b == 32) || (b == 9) || (b == 10) || (b == 13)

-- a letter or `_`
unfoldable pub begins_word : ℕ → Bool
begins_word b = is_ascii_alphabetic b || (b == 95)

-- a letter, a digit or `_`
unfoldable pub continues_word : ℕ → Bool
continues_word b = is_ascii_alphanumeric b || (b == 95)
