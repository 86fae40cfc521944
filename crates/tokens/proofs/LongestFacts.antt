-- The piece that is found is at least as long as each token at the front.
use Rattle.std.proofs.Common.{◌≡◌, ℕ, ◌+◌, ◌≤◌, Bool, true, false, cond, eqb, ◌&&◌, ◌||◌, ◌⊎◌, List, [], ◌∷◌, ◌++◌, length, take, drop, get_or, refl, sym, ap, ◌∙◌, inl, inr, arith, suc, Option, Some, None, not, codes, append_assoc, length-append}
use Rattle.std.specs.List.{prefix_len, list_all, concat}
use Rattle.std.specs.Option.{option_map}
use Rattle.std.specs.Char.{is_ascii_digit}
use Rattle.std.proofs.lemmas.Bool.{and_parts, and_right, eqb-true}
use Rattle.std.proofs.lemmas.Bool.Decides.{nat_tests}
use Rattle.tokens.specs.declared.token.Punctuation.{Punctuation}
use Rattle.tokens.specs.declared.token.Punctuation.TheVariants.{Slash}
use Rattle.tokens.specs.declared.token.TokenKind.{TokenKind}
use Rattle.tokens.specs.declared.token.TokenKind.TheVariants.{Word, Number, ByteString, Punctuation as punctuation}
use Rattle.tokens.specs.declared.token.NumberSuffix.{NumberSuffix}
use Rattle.tokens.specs.declared.piece.Found.{Found}
use Rattle.tokens.specs.declared.piece.Class.TheVariants.{Space as space}
use Rattle.tokens.specs.Characters.{is_blank, begins_word, continues_word}
use Rattle.tokens.specs.Signs.{sign_text}
use Rattle.tokens.specs.Texts.{IsByteString, text_of, IsTokenKind}
use Rattle.tokens.specs.Comments.{inside_text}
use Rattle.tokens.specs.Reading.{number_class, string_class, sign_class, quoted_end, comment_end, found, slash_at, string_or_word, word_at, number_of, number_at, sign_at, sign_found, found_at}
use Rattle.tokens.proofs.Runs.{run_reaches, chosen, none_is_some}
use Rattle.tokens.proofs.SignFacts.{sign_front, HasSign, sign_found_at, IsSignByte, BeginsSign, sign_byte}
use Rattle.tokens.proofs.NumberFacts.{BeginsDigit, number_first, number_word}
use Rattle.tokens.proofs.QuoteFacts.{quoted_reads, quoted_read}
use Rattle.tokens.proofs.CommentFacts.{insides_text, comment_read}

-- the classes of bytes are disjoint
pub word_no_blank : (b : ℕ) → begins_word b ≡ true → is_blank b ≡ false
unfolding begins_word is_blank
word_no_blank b h = grind (arith, nat_tests)

pub word_no_slash : (b : ℕ) → begins_word b ≡ true → eqb b 47 ≡ false
unfolding begins_word
word_no_slash b h = grind (arith, nat_tests)

pub digit_no_blank : (b : ℕ) → is_ascii_digit b ≡ true → is_blank b ≡ false
unfolding is_blank
digit_no_blank b h = grind (arith, nat_tests)

pub digit_no_slash : (b : ℕ) → is_ascii_digit b ≡ true → eqb b 47 ≡ false
digit_no_slash b h = grind (arith, nat_tests)

pub digit_no_word : (b : ℕ) → is_ascii_digit b ≡ true → begins_word b ≡ false
unfolding begins_word
digit_no_word b h = grind (arith, nat_tests)

pub digit_continues : (b : ℕ) → is_ascii_digit b ≡ true → continues_word b ≡ true
unfolding continues_word
digit_continues b h = grind (arith, nat_tests)

pub word_no_quote : (b : ℕ) → continues_word b ≡ true → eqb b 34 ≡ false
unfolding continues_word
word_no_quote b h = grind (arith, nat_tests)

pub string_letter : (b : ℕ) → (b ≡ 98) ⊎ (b ≡ 120) → (begins_word b ≡ true) × ((eqb b 98 || eqb b 120) ≡ true)
unfolding begins_word
string_letter b (inl e) = rw e (refl, refl)
string_letter b (inr e) = rw e (refl, refl)

-- the piece by its first byte
pub found_word : (b : ℕ) (rest : List ℕ) → begins_word b ≡ true → found_at (b ∷ rest) ≡ Some (word_at b rest)
unfolding found_at
found_word b rest h = rw (word_no_blank b h, word_no_slash b h, h) refl

pub found_digit : (b : ℕ) (rest : List ℕ) → is_ascii_digit b ≡ true → found_at (b ∷ rest) ≡ number_at (b ∷ rest)
unfolding found_at
found_digit b rest h = rw (digit_no_blank b h, digit_no_slash b h, digit_no_word b h, h) refl

pub found_sign : (b : ℕ) (rest : List ℕ) → IsSignByte b → eqb b 47 ≡ false → found_at (b ∷ rest) ≡ sign_found (sign_front b rest)
unfolding found_at
found_sign b rest is slash = rw (is.no_blank, slash, is.no_word, is.no_digit) refl

pub found_slash : (rest : List ℕ) → found_at (47 ∷ rest) ≡ slash_at rest
unfolding found_at is_blank
found_slash rest = refl

-- a word or a byte string is at least as long as its word
string_or_word_long : (n m : ℕ) (o : Option ℕ) → n ≤ m → ((end : ℕ) → o ≡ Some end → n ≤ end) → n ≤ (string_or_word o m).length
string_or_word_long n m None as_word as_string = as_word
string_or_word_long n m (Some end) as_word as_string = as_string end refl

word_long : (b : ℕ) (w rest : List ℕ) → list_all continues_word w ≡ true → suc (length w) ≤ (word_at b (w ++ rest)).length
unfolding word_at
word_long b [] rest all =
    string_or_word_long 1 (1 + prefix_len continues_word rest)
    (cond ((eqb b 98 || eqb b 120) && eqb (get_or rest 0 0) 34) (quoted_end false 2 (drop 1 rest)) None) (omega arith)
    (λ end h. elim (chosen ((eqb b 98 || eqb b 120) && eqb (get_or rest 0 0) 34) (quoted_end false 2 (drop 1 rest)) None (Some end) h) [
      | inl quoted ↦ let is = quoted_read 2 (drop 1 rest) end quoted.1 in omega (arith, is.ends)
      | inr other ↦ absurd (none_is_some end other.1)
    ])
word_long b (c ∷ w) rest all =
    let parts = and_parts (continues_word c) (list_all continues_word w) all in
    let test : ((eqb b 98 || eqb b 120) && eqb c 34) ≡ false = and_right _ _ (word_no_quote c parts.0) in
    let reach : suc (length w) ≤ prefix_len continues_word (c ∷ (w ++ rest)) = run_reaches continues_word (c ∷ w) rest all in
    rw test (omega (arith, reach))

-- a byte string is found with its end
pub string_found : (text rest : List ℕ) → IsByteString text → found_at (text ++ rest) ≡ Some (found string_class (length text))
unfolding word_at
string_found text rest is =
    let letter = string_letter is.letter is.letter_is in
    let read : quoted_end false 2 (concat is.units ++ 34 ∷ rest) ≡ Some (2 + length (concat is.units) + 1) = quoted_reads is.units 2 rest is.units_are in
    let grouped : (concat is.units ++ 34 ∷ []) ++ rest ≡ concat is.units ++ 34 ∷ rest = append_assoc (concat is.units) (34 ∷ []) rest in
    let long : 2 + length (concat is.units) + 1 ≡ length text = rw is.spelled (omega (arith, length-append (concat is.units) (34 ∷ []))) in
    ap (λ t. found_at (t ++ rest)) is.spelled
    ∙ ap (λ t. found_at (is.letter ∷ 34 ∷ t)) grouped
    ∙ found_word is.letter (34 ∷ (concat is.units ++ 34 ∷ rest)) letter.0
    ∙ rw (letter.1, read) (ap (λ n. Some (found string_class n)) long)

-- a number reaches to the end of its run
run_length_of : (bytes : List ℕ) (f : Found) (o : Option (ℕ × NumberSuffix)) → number_of (take (prefix_len continues_word bytes) bytes) ≡ o → number_at bytes ≡ Some f → (n : ℕ) → n ≤ prefix_len continues_word bytes → n ≤ f.length
unfolding number_at
run_length_of bytes f None e h n reach =
    let none : None ≡ Some f = (rw e at h) in absurd (none_is_some _ none)
run_length_of bytes f (Some v) e h n reach =
    let some : Some (found (number_class v.0 v.1) (prefix_len continues_word bytes)) ≡ Some f = (rw e at h) in
    let same : found (number_class v.0 v.1) (prefix_len continues_word bytes) ≡ f = cc in
    let long : prefix_len continues_word bytes ≡ f.length = ap (λ (g : Found). g.length) same in
    omega arith

number_long : (text rest : List ℕ) (f : Found) → BeginsDigit text → list_all continues_word text ≡ true → found_at (text ++ rest) ≡ Some f → length text ≤ f.length
number_long [] rest f begins all h = absurd begins
number_long (b ∷ text) rest f begins all h =
    let reach : length (b ∷ text) ≤ prefix_len continues_word (b ∷ (text ++ rest)) = run_reaches continues_word (b ∷ text) rest all in
    run_length_of (b ∷ (text ++ rest)) f (number_of (take (prefix_len continues_word (b ∷ (text ++ rest))) (b ∷ (text ++ rest)))) refl (sym (found_digit b (text ++ rest) begins) ∙ h) (length (b ∷ text)) reach

-- a piece at `/` has a byte
comment_long : (bytes : List ℕ) (f : Found) (o : Option ℕ) → comment_end 0 0 2 bytes ≡ o → option_map (λ count. found space count) o ≡ Some f → 1 ≤ f.length
comment_long bytes f None e h = absurd (none_is_some _ h)
comment_long bytes f (Some end) e h =
    let is = comment_read 2 bytes end e in
    let same : found space end ≡ f = cc in
    let long : end ≡ f.length = ap (λ (g : Found). g.length) same in
    let behind = length-append (inside_text is.inner) (codes "*/" ++ (insides_text is.outer ++ is.rest)) in
    let rest = length-append (insides_text is.outer) is.rest in
    omega (arith, is.ends, behind, rest, ap length is.split)

slash_long : (rest : List ℕ) (f : Found) → slash_at rest ≡ Some f → 1 ≤ f.length
unfolding slash_at
slash_long rest f h =
    elim (chosen (eqb (get_or rest 0 0) 47) _ _ _ h) [
      | inl line ↦ let same : found space (2 + prefix_len (λ b. not (eqb b 10)) (drop 1 rest)) ≡ f = (let e = line.1 in cc) in omega (arith, ap (λ (g : Found). g.length) same)
      | inr other ↦
          elim (chosen (eqb (get_or rest 0 0) 42) _ _ _ other.1) [
            | inl block ↦ comment_long (drop 1 rest) f (comment_end 0 0 2 (drop 1 rest)) refl block.1
            | inr sign ↦ let same : found (sign_class Slash) 1 ≡ f = (let e = sign.1 in cc) in omega (arith, ap (λ (g : Found). g.length) same)
          ]
    ]

slash_sign : (rest : List ℕ) → sign_front 47 rest ≡ Some Slash
unfolding sign_at
slash_sign rest = refl

-- the piece at a sign is at least as long as the sign
sign_is_long : (a : ℕ) (rest : List ℕ) (n : ℕ) (f : Found) (t : Bool) → eqb a 47 ≡ t → IsSignByte a → (s : Punctuation) → sign_front a rest ≡ Some s → n ≤ length (sign_text s) → found_at (a ∷ rest) ≡ Some f → n ≤ f.length
sign_is_long a rest n f true e is s front long h =
    let a_is : a ≡ 47 = eqb-true _ _ e in
    let own : Some Slash ≡ Some s = sym (slash_sign rest) ∙ ap (λ b. sign_front b rest) (sym a_is) ∙ front in
    let s_is : Slash ≡ s = cc in
    let one = slash_long rest f (sym (found_slash rest) ∙ ap (λ b. found_at (b ∷ rest)) (sym a_is) ∙ h) in
    omega (arith, ap (λ p. length (sign_text p)) s_is)
sign_is_long a rest n f false e is s front long h =
    let some : Some (found (sign_class s) (length (sign_text s))) ≡ Some f = ap sign_found (sym front) ∙ sym (found_sign a rest is e) ∙ h in
    let same : found (sign_class s) (length (sign_text s)) ≡ f = cc in
    omega (arith, ap (λ (g : Found). g.length) same)

sign_long : (text rest : List ℕ) (n : ℕ) (f : Found) → BeginsSign text → HasSign (text ++ rest) n → found_at (text ++ rest) ≡ Some f → n ≤ f.length
sign_long [] rest n f begins has h = absurd begins
sign_long (a ∷ text) rest n f begins has h = sign_is_long a (text ++ rest) n f (eqb a 47) refl begins has.0 has.1 has.2 h

-- the piece at a token is at least as long as the token
pub token_long : (k : TokenKind) (rest : List ℕ) (f : Found) → IsTokenKind k → found_at (text_of k ++ rest) ≡ Some f → length (text_of k) ≤ f.length
token_long (Word []) rest f is h = absurd is
token_long (Word (b ∷ w)) rest f is h =
    let e : Some (word_at b (w ++ rest)) ≡ Some f = sym (found_word b (w ++ rest) is.0) ∙ h in
    let same : word_at b (w ++ rest) ≡ f = cc in
    let long = word_long b w rest is.1 in
    omega (arith, ap (λ (g : Found). g.length) same)
token_long (Number n) rest f is h = number_long n.text rest f (number_first n is) (number_word n is) h
token_long (ByteString text) rest f is h =
    let e : Some (found string_class (length text)) ≡ Some f = sym (string_found text rest is) ∙ h in
    let same : found string_class (length text) ≡ f = cc in
    omega (arith, ap (λ (g : Found). g.length) same)
token_long (punctuation p) rest f is h = sign_long (sign_text p) rest (length (sign_text p)) f (sign_byte p) (sign_found_at p rest) h
