-- `found_at` returns the one piece at the front of the bytes, and none exactly where there is none.
use Rattle.std.proofs.Common.{◌≡◌, ℕ, ◌+◌, ◌≤◌, Bool, true, false, cond, eqb, not, ◌&&◌, ◌||◌, ◌⊎◌, List, [], ◌∷◌, ◌++◌, length, take, drop, get_or, refl, sym, ap, ◌∙◌, inl, inr, arith, suc, Option, Some, None, codes, append_assoc, length-append}
use Rattle.std.specs.List.{prefix_len, list_all, concat}
use Rattle.std.specs.Option.{option_map}
use Rattle.std.proofs.lemmas.List.{take_at, take-append-drop}
use Rattle.std.proofs.lemmas.List.Folds.{length-prefix_len}
use Rattle.std.proofs.lemmas.Bool.{and_parts, or_cases, eqb-true, false_from_ne_true, true≢false}
use Rattle.tokens.specs.declared.token.Punctuation.{Punctuation}
use Rattle.tokens.specs.declared.token.Punctuation.TheVariants.{Slash}
use Rattle.tokens.specs.declared.token.TokenKind.TheVariants.{Word, Number, ByteString, Punctuation as punctuation}
use Rattle.tokens.specs.declared.token.NumberLiteral.{NumberLiteral}
use Rattle.tokens.specs.declared.token.NumberSuffix.{NumberSuffix}
use Rattle.tokens.specs.declared.piece.Found.{Found}
use Rattle.tokens.specs.declared.piece.Class.{Class}
use Rattle.tokens.specs.declared.piece.Class.TheVariants.{Space as blank}
use Rattle.tokens.specs.Characters.{continues_word}
use Rattle.tokens.specs.Signs.{sign_text}
use Rattle.tokens.specs.Texts.{IsByteString}
use Rattle.tokens.specs.Comments.{IsBlank, IsAtLineEnd, IsLineComment, IsBlockComment, IsSpace, inside_text}
use Rattle.tokens.specs.Spelling.{Piece, piece_text, EndsRun, IsLexeme, Stands}
use Rattle.tokens.specs.Spelling.Piece.{space, lexeme}
use Rattle.tokens.specs.Reading.{word_class, number_class, string_class, sign_class, quoted_end, comment_end, found, slash_at, string_or_word, word_at, number_of, number_at, sign_at, sign_found, found_at}
use Rattle.tokens.proofs.Runs.{Stops, run_is, run_reaches, run_passes, same_front, front_is, pair_of}
use Rattle.tokens.proofs.SignFacts.{sign_front, Begins, sign_begins, HasSign, sign_found_at, same_sign, IsSignByte, BeginsSign, sign_byte}
use Rattle.tokens.proofs.NumberFacts.{number_reads, BeginsDigit, number_first, number_word}
use Rattle.tokens.proofs.QuoteFacts.{quoted_read}
use Rattle.tokens.proofs.CommentFacts.{comment_reads}
use Rattle.tokens.proofs.LongestFacts.{found_word, found_digit, found_sign, found_slash, word_no_quote, string_found}

-- the class of a piece
abbrev pub class_of : Piece → Class
class_of (space text) = blank
class_of (lexeme (Word text)) = word_class
class_of (lexeme (Number n)) = number_class n.value n.suffix
class_of (lexeme (ByteString text)) = string_class
class_of (lexeme (punctuation sign)) = sign_class sign

abbrev pub found_of : Piece → Found
found_of p = found (class_of p) (length (piece_text p))

-- blanks and comments are found
blank_found : (text after : List ℕ) → IsBlank text → found_at (text ++ after) ≡ Some (found blank (length text))
unfolding found_at
blank_found [] after is = absurd is
blank_found (b ∷ []) after is = rw is refl
blank_found (b ∷ c ∷ text) after is = absurd is

stops_at_line_end : (after : List ℕ) → IsAtLineEnd after → Stops (λ b. not (eqb b 10)) after
stops_at_line_end [] is = tt
stops_at_line_end (b ∷ after) is = rw is refl

line_found : (text after : List ℕ) → IsLineComment text after → found_at (text ++ after) ≡ Some (found blank (length text))
unfolding slash_at
line_found text after is =
    let line : prefix_len (λ b. not (eqb b 10)) (is.body ++ after) ≡ length is.body = run_is (λ b. not (eqb b 10)) is.body after is.one_line (stops_at_line_end after is.ended) in
    let long : 2 + prefix_len (λ b. not (eqb b 10)) (is.body ++ after) ≡ length text = rw is.spelled (omega (arith, line)) in
    ap (λ t. found_at (t ++ after)) is.spelled ∙ found_slash (47 ∷ (is.body ++ after)) ∙ ap (λ n. Some (found blank n)) long

block_found : (text after : List ℕ) → IsBlockComment text → found_at (text ++ after) ≡ Some (found blank (length text))
unfolding slash_at
block_found text after is =
    let grouped : (inside_text is.inside ++ codes "*/") ++ after ≡ inside_text is.inside ++ (codes "*/" ++ after) = append_assoc (inside_text is.inside) (codes "*/") after in
    let end : comment_end 0 0 2 ((inside_text is.inside ++ codes "*/") ++ after) ≡ Some (2 + length (inside_text is.inside) + 2) = ap (comment_end 0 0 2) grouped ∙ comment_reads is.inside 0 2 after is.marked in
    let long : 2 + length (inside_text is.inside) + 2 ≡ length text = rw is.spelled (omega (arith, length-append (inside_text is.inside) (codes "*/"))) in
    ap (λ t. found_at (t ++ after)) is.spelled ∙ found_slash (42 ∷ ((inside_text is.inside ++ codes "*/") ++ after)) ∙ ap (option_map (λ n. found blank n)) end ∙ ap (λ n. Some (found blank n)) long

space_found : (text after : List ℕ) → IsSpace text after → found_at (text ++ after) ≡ Some (found blank (length text))
space_found text after (inl is) = blank_found text after is
space_found text after (inr (inl is)) = line_found text after is
space_found text after (inr (inr is)) = block_found text after is

-- a byte string that is read
pub record IsStringAt (bytes : List ℕ) (end : ℕ) : Type 0 where
  pub text : List ℕ
  pub after : List ℕ
  pub split : bytes ≡ text ++ after
  pub is : IsByteString text
  pub long : end ≡ length text
  pub three : 3 ≤ length text

pub string_at : (b : ℕ) (rest : List ℕ) (end : ℕ) → ((eqb b 98 || eqb b 120) && eqb (get_or rest 0 0) 34) ≡ true → quoted_end false 2 (drop 1 rest) ≡ Some end → IsStringAt (b ∷ rest) end
string_at b rest end test h =
    let parts = and_parts (eqb b 98 || eqb b 120) (eqb (get_or rest 0 0) 34) test in
    let quote : rest ≡ 34 ∷ drop 1 rest = front_is 33 rest (eqb-true _ _ parts.1) in
    let read = quoted_read 2 (drop 1 rest) end h in
    let grouped : concat read.units ++ 34 ∷ read.rest ≡ (concat read.units ++ 34 ∷ []) ++ read.rest = sym (append_assoc (concat read.units) (34 ∷ []) read.rest) in
    let joined = length-append (concat read.units) (34 ∷ []) in
    record {
      text = b ∷ 34 ∷ (concat read.units ++ 34 ∷ []);
      after = read.rest;
      split = ap (λ t. b ∷ t) quote ∙ ap (λ t. b ∷ 34 ∷ t) (read.split ∙ grouped);
      is = record {
        letter = b;
        units = read.units;
        spelled = refl;
        letter_is = letter_of b (or_cases (eqb b 98) (eqb b 120) parts.0);
        units_are = read.units_are;
      };
      long = omega (arith, read.ends, joined);
      three = omega (arith, joined);
    }
  where
    letter_of : (b : ℕ) → (eqb b 98 ≡ true) ⊎ (eqb b 120 ≡ true) → (b ≡ 98) ⊎ (b ≡ 120)
    letter_of b (inl e) = inl (eqb-true b 98 e)
    letter_of b (inr e) = inr (eqb-true b 120 e)

-- a word is found
word_run : (b : ℕ) (w after : List ℕ) → IsLexeme (Word (b ∷ w)) after → prefix_len continues_word (w ++ after) ≡ length w
word_run b w after is =
    let reach = run_reaches continues_word w after is.spelled.1 in
    let run = take (prefix_len continues_word (w ++ after)) (w ++ after) in
    let rest = drop (prefix_len continues_word (w ++ after)) (w ++ after) in
    let whole : b ∷ (w ++ after) ≡ (b ∷ run) ++ rest = ap (λ t. b ∷ t) (sym (take-append-drop (prefix_len continues_word (w ++ after)) (w ++ after))) in
    let most : length (b ∷ run) ≤ length (b ∷ w) = is.longest (Word (b ∷ run)) rest (is.spelled.0, run_passes continues_word (w ++ after)) whole in
    omega (arith, length-prefix_len continues_word (w ++ after))

no_string : (b : ℕ) (w after : List ℕ) (n : ℕ) → IsLexeme (Word (b ∷ w)) after → (t : Bool) → ((eqb b 98 || eqb b 120) && eqb (get_or (w ++ after) 0 0) 34) ≡ t → (o : Option ℕ) → quoted_end false 2 (drop 1 (w ++ after)) ≡ o → string_or_word (cond t o None) n ≡ found word_class n
no_string b w after n is false test o e = refl
no_string b w after n is true test None e = refl
no_string b [] after n is true test (Some end) e =
    let string = string_at b after end test e in
    let most : length string.text ≤ 1 = is.longest (ByteString string.text) string.after string.is string.split in
    absurd (omega (arith, string.three))
no_string b (c ∷ w) after n is true test o e =
    let parts = and_parts (eqb b 98 || eqb b 120) (eqb c 34) test in
    let other = word_no_quote c (and_parts (continues_word c) (list_all continues_word w) is.spelled.1).0 in
    absurd (true≢false (sym parts.1 ∙ other))

word_found : (text after : List ℕ) → IsLexeme (Word text) after → found_at (text ++ after) ≡ Some (found word_class (length text))
unfolding word_at
word_found [] after is = absurd is.spelled
word_found (b ∷ w) after is =
    let long : 1 + prefix_len continues_word (w ++ after) ≡ suc (length w) = omega (arith, word_run b w after is) in
    found_word b (w ++ after) is.spelled.0
    ∙ ap Some (no_string b w after (1 + prefix_len continues_word (w ++ after)) is _ refl _ refl)
    ∙ ap (λ n. Some (found word_class n)) long

-- a number is found
stops_run : (after : List ℕ) → EndsRun after → Stops continues_word after
stops_run [] ends = tt
stops_run (b ∷ after) ends = ends

number_at_run : (text after : List ℕ) (value : ℕ) (suffix : NumberSuffix) → list_all continues_word text ≡ true → Stops continues_word after → number_of text ≡ Some (pair_of value suffix) → number_at (text ++ after) ≡ Some (found (number_class value suffix) (length text))
unfolding number_at
number_at_run text after value suffix all stops read =
    let long : prefix_len continues_word (text ++ after) ≡ length text = run_is continues_word text after all stops in
    let run : take (length text) (text ++ after) ≡ text = take_at text after (length text) refl in
    rw (long, run, read) refl

number_begins : (text after : List ℕ) → BeginsDigit text → found_at (text ++ after) ≡ number_at (text ++ after)
number_begins [] after begins = absurd begins
number_begins (b ∷ text) after begins = found_digit b (text ++ after) begins

number_found : (n : NumberLiteral) (after : List ℕ) → IsLexeme (Number n) after → found_at (n.text ++ after) ≡ Some (found (number_class n.value n.suffix) (length n.text))
number_found n after is =
    number_begins n.text after (number_first n is.spelled)
    ∙ number_at_run n.text after n.value n.suffix (number_word n is.spelled) (stops_run after is.whole) (number_reads n is.spelled)

-- a sign is found
sign_is : (p : Punctuation) (a : ℕ) (text after : List ℕ) → sign_text p ≡ a ∷ text → IsLexeme (punctuation p) after → (s : Punctuation) → sign_front a (text ++ after) ≡ Some s → length (sign_text p) ≤ length (sign_text s) → p ≡ s
sign_is p a text after own is s front long =
    let here : Begins (a ∷ (text ++ after)) s = rw front at (sign_begins a (text ++ after)) in
    let whole : sign_text p ++ after ≡ sign_text s ++ drop (length (sign_text s)) (a ∷ (text ++ after)) = ap (λ t. t ++ after) own ∙ here in
    let most : length (sign_text s) ≤ length (sign_text p) = is.longest (punctuation s) (drop (length (sign_text s)) (a ∷ (text ++ after))) tt whole in
    same_sign p s (same_front (sign_text p) (sign_text s) after _ whole (omega arith))

slash_sign_found : (rest : List ℕ) → ((tail : List ℕ) → 47 ∷ rest ≡ codes "//" ++ tail → ⊥) → ((tail : List ℕ) → 47 ∷ rest ≡ codes "/*" ++ tail → ⊥) → slash_at rest ≡ Some (found (sign_class Slash) 1)
unfolding slash_at
slash_sign_found rest no_line no_block =
    let line : eqb (get_or rest 0 0) 47 ≡ false = false_from_ne_true _ (λ e. no_line (drop 1 rest) (ap (λ t. 47 ∷ t) (front_is 46 rest (eqb-true _ _ e)))) in
    let block : eqb (get_or rest 0 0) 42 ≡ false = false_from_ne_true _ (λ e. no_block (drop 1 rest) (ap (λ t. 47 ∷ t) (front_is 41 rest (eqb-true _ _ e)))) in
    rw (line, block) refl

sign_found_by : (p : Punctuation) (a : ℕ) (text after : List ℕ) (t : Bool) → eqb a 47 ≡ t → sign_text p ≡ a ∷ text → IsSignByte a → IsLexeme (punctuation p) after → sign_front a (text ++ after) ≡ Some p → found_at (a ∷ (text ++ after)) ≡ Some (found (sign_class p) (length (sign_text p)))
unfolding sign_at
sign_found_by p a text after true e own byte is front =
    let a_is : a ≡ 47 = eqb-true _ _ e in
    let slash : Some Slash ≡ Some p = ap (λ b. sign_front b (text ++ after)) (sym a_is) ∙ front in
    let p_is : Slash ≡ p = cc in
    let whole : sign_text p ++ after ≡ 47 ∷ (text ++ after) = ap (λ t. t ++ after) own ∙ ap (λ b. b ∷ (text ++ after)) a_is in
    ap (λ b. found_at (b ∷ (text ++ after))) a_is
    ∙ found_slash (text ++ after)
    ∙ slash_sign_found (text ++ after) (λ tail q. is.no_line_comment tail (whole ∙ q)) (λ tail q. is.no_block_comment tail (whole ∙ q))
    ∙ ap (λ s. Some (found (sign_class s) (length (sign_text s)))) p_is
sign_found_by p a text after false e own byte is front =
    found_sign a (text ++ after) byte e ∙ ap sign_found front

sign_piece_found : (p : Punctuation) (text after : List ℕ) → sign_text p ≡ text → BeginsSign text → HasSign (text ++ after) (length (sign_text p)) → IsLexeme (punctuation p) after → found_at (text ++ after) ≡ Some (found (sign_class p) (length (sign_text p)))
sign_piece_found p [] after own begins has is = absurd begins
sign_piece_found p (a ∷ text) after own begins has is =
    let p_is : p ≡ has.0 = sign_is p a text after own is has.0 has.1 has.2 in
    sign_found_by p a text after (eqb a 47) refl own begins is (has.1 ∙ ap Some (sym p_is))

-- the piece at the front is found
pub stands_found : (p : Piece) (after : List ℕ) → Stands p after → found_at (piece_text p ++ after) ≡ Some (found_of p)
stands_found (space text) after is = space_found text after is
stands_found (lexeme (Word text)) after is = word_found text after is
stands_found (lexeme (Number n)) after is = number_found n after is
stands_found (lexeme (ByteString text)) after is = string_found text after is.spelled
stands_found (lexeme (punctuation p)) after is = sign_piece_found p (sign_text p) after refl (sign_byte p) (sign_found_at p after) is
