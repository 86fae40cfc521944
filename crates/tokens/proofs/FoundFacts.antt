-- Each piece that `found_at` returns is at the front of the bytes.
use Rattle.std.proofs.Common.{◌≡◌, ℕ, ◌+◌, Bool, true, false, cond, eqb, not, ◌&&◌, ◌||◌, List, [], ◌∷◌, ◌++◌, length, take, drop, get_or, refl, sym, ap, ◌∙◌, inl, inr, arith, suc, Option, Some, None, IfSome, codes, append_assoc, length-append}
use Rattle.std.specs.List.{prefix_len}
use Rattle.std.specs.Option.{option_map}
use Rattle.std.specs.Char.{is_ascii_digit}
use Rattle.std.proofs.lemmas.List.{take-append-drop}
use Rattle.std.proofs.lemmas.List.Folds.{length-prefix_len}
use Rattle.std.proofs.lemmas.Bool.{eqb-true, eqb-false, not-false}
use Rattle.tokens.specs.declared.token.Punctuation.{Punctuation}
use Rattle.tokens.specs.declared.token.Punctuation.TheVariants.{Slash}
use Rattle.tokens.specs.declared.token.TokenKind.{TokenKind}
use Rattle.tokens.specs.declared.token.TokenKind.TheVariants.{Word, Number, ByteString, Punctuation as punctuation}
use Rattle.tokens.specs.declared.token.NumberSuffix.{NumberSuffix}
use Rattle.tokens.specs.declared.piece.Found.{Found}
use Rattle.tokens.specs.declared.piece.Class.TheVariants.{Space as blank}
use Rattle.tokens.specs.Characters.{is_blank, begins_word, continues_word}
use Rattle.tokens.specs.Signs.{sign_text}
use Rattle.tokens.specs.Texts.{text_of, IsTokenKind}
use Rattle.tokens.specs.Comments.{Inside, IsAtLineEnd, IsInside, inside_text}
use Rattle.tokens.specs.Spelling.{Piece, piece_text, EndsRun, IsWhole, Stands}
use Rattle.tokens.specs.Spelling.Piece.{space, lexeme}
use Rattle.tokens.specs.Reading.{word_class, number_class, string_class, sign_class, quoted_end, comment_end, found, slash_at, string_or_word, word_at, number_of, number_at, sign_found, found_at}
use Rattle.tokens.proofs.Runs.{Stops, run_passes, run_stops, front_is, chosen, none_is_some}
use Rattle.tokens.proofs.SignFacts.{sign_front, Begins, sign_begins}
use Rattle.tokens.proofs.NumberFacts.{number_read}
use Rattle.tokens.proofs.CommentFacts.{insides_text, comment_read}
use Rattle.tokens.proofs.LongestFacts.{word_no_slash, digit_no_slash, digit_continues, found_word, found_digit, token_long}
use Rattle.tokens.proofs.PieceFacts.{found_of, IsStringAt, string_at}

-- a piece at the front of the bytes, which is the one found
pub record IsPiece (bytes : List ℕ) (f : Found) : Type 0 where
  pub piece : Piece
  pub after : List ℕ
  pub split : bytes ≡ piece_text piece ++ after
  pub stands : Stands piece after
  pub found : f ≡ found_of piece

-- no comment begins at the front
record IsNoComment (bytes : List ℕ) : Type 0 where
  pub no_line : (rest : List ℕ) → bytes ≡ codes "//" ++ rest → ⊥
  pub no_block : (rest : List ℕ) → bytes ≡ codes "/*" ++ rest → ⊥

no_slash : (b : ℕ) (rest : List ℕ) → eqb b 47 ≡ false → IsNoComment (b ∷ rest)
no_slash b rest other = record {
  no_line = λ tail e. let b_is : b ≡ 47 = cc in eqb-false b 47 other b_is;
  no_block = λ tail e. let b_is : b ≡ 47 = cc in eqb-false b 47 other b_is;
}

-- a token that is found is the longest
lexeme_from : (bytes : List ℕ) (f : Found) (k : TokenKind) (after : List ℕ) → bytes ≡ text_of k ++ after → found_at bytes ≡ Some f → f ≡ found_of (lexeme k) → IsTokenKind k → IsWhole k after → IsNoComment bytes → IsPiece bytes f
lexeme_from bytes f k after split h same is whole comment = record {
  piece = lexeme k;
  after = after;
  split = split;
  stands = record {
    spelled = is;
    whole = whole;
    longest = λ other rest other_is e.
        let at_other : found_at (text_of other ++ rest) ≡ Some f = ap found_at (sym e ∙ sym split) ∙ h in
        let long = token_long other rest f other_is at_other in
        omega (arith, ap (λ (g : Found). g.length) same);
    no_line_comment = λ rest e. comment.no_line rest (split ∙ e);
    no_block_comment = λ rest e. comment.no_block rest (split ∙ e);
  };
  found = same;
}

-- a byte string or a word
some_found : (f g : Found) → Some f ≡ Some g → f ≡ g
some_found f g h = cc

ends_run : (after : List ℕ) → Stops continues_word after → EndsRun after
ends_run [] stops = tt
ends_run (b ∷ after) stops = stops

word_piece : (b : ℕ) (rest : List ℕ) (f : Found) → begins_word b ≡ true → found_at (b ∷ rest) ≡ Some f → f ≡ found word_class (1 + prefix_len continues_word rest) → IsPiece (b ∷ rest) f
word_piece b rest f begins h same =
    let n = prefix_len continues_word rest in
    let long : found word_class (1 + n) ≡ found_of (lexeme (Word (b ∷ take n rest))) = ap (λ m. found word_class m) (omega (arith, length-prefix_len continues_word rest)) in
    lexeme_from (b ∷ rest) f (Word (b ∷ take n rest)) (drop n rest)
    (ap (λ t. b ∷ t) (sym (take-append-drop n rest)))
    h (same ∙ long) (begins, run_passes continues_word rest) tt (no_slash b rest (word_no_slash b begins))

string_piece : (b : ℕ) (rest : List ℕ) (f : Found) (end : ℕ) → begins_word b ≡ true → found_at (b ∷ rest) ≡ Some f → f ≡ found string_class end → IsStringAt (b ∷ rest) end → IsPiece (b ∷ rest) f
string_piece b rest f end begins h same is =
    lexeme_from (b ∷ rest) f (ByteString is.text) is.after is.split h (same ∙ ap (λ n. found string_class n) is.long) is.is tt (no_slash b rest (word_no_slash b begins))

word_or_string : (b : ℕ) (rest : List ℕ) (f : Found) → begins_word b ≡ true → found_at (b ∷ rest) ≡ Some f → (t : Bool) → ((eqb b 98 || eqb b 120) && eqb (get_or rest 0 0) 34) ≡ t → (o : Option ℕ) → quoted_end false 2 (drop 1 rest) ≡ o → f ≡ string_or_word (cond t o None) (1 + prefix_len continues_word rest) → IsPiece (b ∷ rest) f
word_or_string b rest f begins h false test o e same = word_piece b rest f begins h same
word_or_string b rest f begins h true test None e same = word_piece b rest f begins h same
word_or_string b rest f begins h true test (Some end) e same = string_piece b rest f end begins h same (string_at b rest end test e)

word_is_piece : (b : ℕ) (rest : List ℕ) (f : Found) → begins_word b ≡ true → found_at (b ∷ rest) ≡ Some f → IsPiece (b ∷ rest) f
unfolding word_at
word_is_piece b rest f begins h =
    word_or_string b rest f begins h _ refl _ refl (some_found f (word_at b rest) (sym h ∙ found_word b rest begins))

-- a number
number_piece : (b : ℕ) (rest : List ℕ) (f : Found) → is_ascii_digit b ≡ true → found_at (b ∷ rest) ≡ Some f → (o : Option (ℕ × NumberSuffix)) → number_of (take (prefix_len continues_word (b ∷ rest)) (b ∷ rest)) ≡ o → Some f ≡ option_map (λ n. found (number_class n.0 n.1) (prefix_len continues_word (b ∷ rest))) o → IsPiece (b ∷ rest) f
number_piece b rest f digit h None e same = absurd (none_is_some f (sym same))
number_piece b rest f digit h (Some v) e same =
    let n = prefix_len continues_word (b ∷ rest) in
    let run = take n (b ∷ rest) in
    let f_is : f ≡ found (number_class v.0 v.1) n = some_found _ _ same in
    let long : found (number_class v.0 v.1) n ≡ found (number_class v.0 v.1) (length run) = ap (λ m. found (number_class v.0 v.1) m) (sym (length-prefix_len continues_word (b ∷ rest))) in
    let first : is_ascii_digit (get_or run 0 0) ≡ true = digit_first b rest digit in
    lexeme_from (b ∷ rest) f (Number (record { text = run; value = v.0; suffix = v.1 })) (drop n (b ∷ rest))
    (sym (take-append-drop n (b ∷ rest))) h (f_is ∙ long) (number_read run v.0 v.1 first e)
    (ends_run (drop n (b ∷ rest)) (run_stops continues_word (b ∷ rest)))
    (no_slash b rest (digit_no_slash b digit))
  where
    one_more : (m : ℕ) → 1 + m ≡ suc m
    one_more m = omega arith

    digit_first : (b : ℕ) (rest : List ℕ) → is_ascii_digit b ≡ true → is_ascii_digit (get_or (take (prefix_len continues_word (b ∷ rest)) (b ∷ rest)) 0 0) ≡ true
    digit_first b rest digit = rw (digit_continues b digit, one_more) digit

number_is_piece : (b : ℕ) (rest : List ℕ) (f : Found) → is_ascii_digit b ≡ true → found_at (b ∷ rest) ≡ Some f → IsPiece (b ∷ rest) f
unfolding number_at
number_is_piece b rest f digit h = number_piece b rest f digit h _ refl (sym h ∙ found_digit b rest digit)

-- a sign
sign_piece : (b : ℕ) (rest : List ℕ) (f : Found) → eqb b 47 ≡ false → found_at (b ∷ rest) ≡ Some f → (o : Option Punctuation) → IfSome o (Begins (b ∷ rest)) → sign_found o ≡ Some f → IsPiece (b ∷ rest) f
sign_piece b rest f slash h None begins same = absurd (none_is_some f same)
sign_piece b rest f slash h (Some s) begins same =
    lexeme_from (b ∷ rest) f (punctuation s) (drop (length (sign_text s)) (b ∷ rest)) begins h (sym (some_found _ _ same)) tt tt (no_slash b rest slash)

-- a comment, or the sign `/`
line_end : (after : List ℕ) → Stops (λ b. not (eqb b 10)) after → IsAtLineEnd after
line_end [] stops = tt
line_end (b ∷ after) stops = eqb-true b 10 (not-false (eqb b 10) stops)

line_piece : (rest : List ℕ) (f : Found) → eqb (get_or rest 0 0) 47 ≡ true → Some (found blank (2 + prefix_len (λ b. not (eqb b 10)) (drop 1 rest))) ≡ Some f → IsPiece (47 ∷ rest) f
line_piece rest f slash same =
    let p : ℕ → Bool = λ b. not (eqb b 10) in
    let n = prefix_len p (drop 1 rest) in
    let body = take n (drop 1 rest) in
    record {
      piece = space (codes "//" ++ body);
      after = drop n (drop 1 rest);
      split = ap (λ t. 47 ∷ t) (front_is 46 rest (eqb-true _ _ slash)) ∙ ap (λ t. 47 ∷ 47 ∷ t) (sym (take-append-drop n (drop 1 rest)));
      stands = inr (inl (record { body = body; spelled = refl; one_line = run_passes p (drop 1 rest); ended = line_end (drop n (drop 1 rest)) (run_stops p (drop 1 rest)) }));
      found = sym (some_found _ _ same) ∙ ap (λ m. found blank m) (omega (arith, length-prefix_len p (drop 1 rest)));
    }

block_from : (rest : List ℕ) (f : Found) (end : ℕ) → eqb (get_or rest 0 0) 42 ≡ true → (x : Inside) (outer : List Inside) (tail : List ℕ) → drop 1 rest ≡ inside_text x ++ (codes "*/" ++ (insides_text outer ++ tail)) → IsInside x → length outer ≡ 0 → end + length tail ≡ 2 + length (drop 1 rest) → f ≡ found blank end → IsPiece (47 ∷ rest) f
block_from rest f end star x (y ∷ outer) tail split is deep ends same = absurd (omega arith)
block_from rest f end star x [] tail split is deep ends same =
    let text = codes "/*" ++ (inside_text x ++ codes "*/") in
    let grouped : inside_text x ++ (codes "*/" ++ tail) ≡ (inside_text x ++ codes "*/") ++ tail = sym (append_assoc (inside_text x) (codes "*/") tail) in
    let all = length-append (inside_text x) (codes "*/" ++ tail) in
    let own = length-append (inside_text x) (codes "*/") in
    let long : end ≡ length text = omega (arith, ap length split, all, own, ends) in
    record {
      piece = space text;
      after = tail;
      split = ap (λ t. 47 ∷ t) (front_is 41 rest (eqb-true _ _ star)) ∙ ap (λ t. 47 ∷ 42 ∷ t) (split ∙ grouped);
      stands = inr (inr (record { inside = x; spelled = refl; marked = is }));
      found = same ∙ ap (λ m. found blank m) long;
    }

block_piece : (rest : List ℕ) (f : Found) → eqb (get_or rest 0 0) 42 ≡ true → (o : Option ℕ) → comment_end 0 0 2 (drop 1 rest) ≡ o → option_map (λ count. found blank count) o ≡ Some f → IsPiece (47 ∷ rest) f
block_piece rest f star None e same = absurd (none_is_some f same)
block_piece rest f star (Some end) e same =
    let is = comment_read 2 (drop 1 rest) end e in
    block_from rest f end star is.inner is.outer is.rest is.split is.inner_is is.deep is.ends (sym (some_found _ _ same))

slash_piece : (rest : List ℕ) (f : Found) → found_at (47 ∷ rest) ≡ Some f → eqb (get_or rest 0 0) 47 ≡ false → eqb (get_or rest 0 0) 42 ≡ false → Some (found (sign_class Slash) 1) ≡ Some f → IsPiece (47 ∷ rest) f
slash_piece rest f h line block same =
    lexeme_from (47 ∷ rest) f (punctuation Slash) rest refl h (sym (some_found _ _ same)) tt tt (record {
      no_line = λ tail e. let here : rest ≡ 47 ∷ tail = cc in eqb-false _ _ line (ap (λ t. get_or t 0 0) here);
      no_block = λ tail e. let here : rest ≡ 42 ∷ tail = cc in eqb-false _ _ block (ap (λ t. get_or t 0 0) here);
    })

slash_is_piece : (rest : List ℕ) (f : Found) → found_at (47 ∷ rest) ≡ Some f → slash_at rest ≡ Some f → IsPiece (47 ∷ rest) f
unfolding slash_at
slash_is_piece rest f h same =
    elim (chosen (eqb (get_or rest 0 0) 47) _ _ _ same) [
      | inl line ↦ line_piece rest f line.0 line.1
      | inr other ↦
          elim (chosen (eqb (get_or rest 0 0) 42) _ _ _ other.1) [
            | inl block ↦ block_piece rest f block.0 (comment_end 0 0 2 (drop 1 rest)) refl block.1
            | inr sign ↦ slash_piece rest f h other.0 sign.0 sign.1
          ]
    ]

slash_is_piece_at : (b : ℕ) (rest : List ℕ) (f : Found) → b ≡ 47 → found_at (b ∷ rest) ≡ Some f → slash_at rest ≡ Some f → IsPiece (b ∷ rest) f
slash_is_piece_at b rest f slash h same = rw slash (slash_is_piece rest f (ap (λ c. found_at (c ∷ rest)) (sym slash) ∙ h) same)

-- each piece that is found is at the front
blank_piece : (b : ℕ) (rest : List ℕ) (f : Found) → is_blank b ≡ true → Some (found blank 1) ≡ Some f → IsPiece (b ∷ rest) f
blank_piece b rest f is same = record {
  piece = space (b ∷ []);
  after = rest;
  split = refl;
  stands = inl is;
  found = sym (some_found _ _ same);
}

pub found_piece : (bytes : List ℕ) (f : Found) → found_at bytes ≡ Some f → IsPiece bytes f
unfolding found_at
found_piece [] f h = absurd (none_is_some f h)
found_piece (b ∷ rest) f h =
    elim (chosen (is_blank b) _ _ _ h) [
      | inl is ↦ blank_piece b rest f is.0 is.1
      | inr no_blank ↦ elim (chosen (eqb b 47) _ _ _ no_blank.1) [
        | inl is ↦ slash_is_piece_at b rest f (eqb-true b 47 is.0) h is.1
        | inr no_slash ↦ elim (chosen (begins_word b) _ _ _ no_slash.1) [
          | inl is ↦ word_is_piece b rest f is.0 h
          | inr no_word ↦ elim (chosen (is_ascii_digit b) _ _ _ no_word.1) [
            | inl is ↦ number_is_piece b rest f is.0 h
            | inr no_digit ↦ sign_piece b rest f no_slash.0 h (sign_front b rest) (sign_begins b rest) no_digit.1
          ]
        ]
      ]
    ]
