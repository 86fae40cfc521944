-- Sequences of pieces: at most one spells a text, and the scan finds it piece by piece.
use Rattle.std.proofs.Common.{◌≡◌, ℕ, ◌+◌, ◌-◌, ◌<◌, ◌≤◌, Bool, true, false, ◌⊎◌, List, [], ◌∷◌, ◌++◌, length, take, drop, refl, sym, ap, subst, ◌∙◌, inl, inr, arith, zero, suc, Option, Some, None, append_assoc, append-nil, length-append, length-drop}
use Rattle.std.proofs.lemmas.List.{take_rest, take_at, drop_at, drop_all, drop-drop, append_cancel_left, take_all, take-append-le, length_push}
use Rattle.tokens.specs.declared.token.TokenKind.{TokenKind}
use Rattle.tokens.specs.declared.token.TokenKind.TheVariants.{Word, Number, ByteString, Punctuation as punctuation}
use Rattle.tokens.specs.declared.token.Token.{Token}
use Rattle.tokens.specs.declared.piece.Found.{Found}
use Rattle.tokens.specs.declared.piece.Class.{Class}
use Rattle.tokens.specs.declared.piece.Class.TheVariants.{Space as blank, Token as a_token}
use Rattle.tokens.specs.declared.piece.TokenClass.{TokenClass}
use Rattle.tokens.specs.declared.piece.TokenClass.TheVariants.{Word as word, Number as number, ByteString as byte_string, Sign as sign}
use Rattle.tokens.specs.Texts.{text_of}
use Rattle.tokens.specs.Comments.{IsBlank, IsSpace}
use Rattle.tokens.specs.Spelling.{Piece, piece_text, Stands, AreLaid, tokens_of, Spells, IsBadAt, IsUnspelled}
use Rattle.tokens.specs.Spelling.Piece.{space, lexeme}
use Rattle.tokens.specs.Reading.{found, kind_of, found_at}
use Rattle.tokens.proofs.Runs.{same_front, none_is_some}
use Rattle.tokens.proofs.SignFacts.{BeginsSign, sign_byte}
use Rattle.tokens.proofs.NumberFacts.{BeginsDigit, number_first}
use Rattle.tokens.proofs.PieceFacts.{class_of, found_of, stands_found}
use Rattle.tokens.proofs.FoundFacts.{found_piece}

-- each piece has a byte
digit_long : (text : List ℕ) → BeginsDigit text → 1 ≤ length text
digit_long [] begins = absurd begins
digit_long (b ∷ text) begins = omega arith

sign_long : (text : List ℕ) → BeginsSign text → 1 ≤ length text
sign_long [] begins = absurd begins
sign_long (b ∷ text) begins = omega arith

blank_long : (text : List ℕ) → IsBlank text → 1 ≤ length text
blank_long [] is = absurd is
blank_long (b ∷ text) is = omega arith

space_long : (text after : List ℕ) → IsSpace text after → 1 ≤ length text
space_long text after (inl is) = blank_long text is
space_long text after (inr (inl is)) = omega (arith, ap length is.spelled)
space_long text after (inr (inr is)) = omega (arith, ap length is.spelled)

pub piece_long : (p : Piece) (after : List ℕ) → Stands p after → 1 ≤ length (piece_text p)
piece_long (space text) after is = space_long text after is
piece_long (lexeme (Word [])) after is = absurd is.spelled
piece_long (lexeme (Word (b ∷ text))) after is = omega arith
piece_long (lexeme (Number n)) after is = digit_long n.text (number_first n is.spelled)
piece_long (lexeme (ByteString text)) after is = omega (arith, ap length is.spelled.spelled)
piece_long (lexeme (punctuation p)) after is = sign_long _ (sign_byte p)

-- a piece is determined by its class and its text
abbrev piece_of : Class → List ℕ → Piece
piece_of blank text = space text
piece_of (a_token class) text = lexeme (kind_of class text)

piece_is : (p : Piece) → p ≡ piece_of (class_of p) (piece_text p)
piece_is (space text) = refl
piece_is (lexeme (Word text)) = refl
piece_is (lexeme (Number n)) = refl
piece_is (lexeme (ByteString text)) = refl
piece_is (lexeme (punctuation p)) = refl

some_is : (f g : Found) → Some f ≡ Some g → f ≡ g
some_is f g h = cc

-- at most one piece is at the front
record IsSame (p q : Piece) (a b : List ℕ) : Type 0 where
  pub piece : p ≡ q
  pub after : a ≡ b

one_piece : (p q : Piece) (a b : List ℕ) → Stands p a → Stands q b → piece_text p ++ a ≡ piece_text q ++ b → IsSame p q a b
one_piece p q a b left right joined =
    let same : found_of p ≡ found_of q = some_is _ _ (sym (stands_found p a left) ∙ ap found_at joined ∙ stands_found q b right) in
    let class : class_of p ≡ class_of q = ap (λ (f : Found). f.class) same in
    let long : length (piece_text p) ≡ length (piece_text q) = ap (λ (f : Found). f.length) same in
    let text : piece_text p ≡ piece_text q = same_front (piece_text p) (piece_text q) a b joined long in
    record {
      piece = piece_is p ∙ ap (λ c. piece_of c (piece_text p)) class ∙ ap (piece_of (class_of q)) text ∙ sym (piece_is q);
      after = append_cancel_left (piece_text p) a b (joined ∙ ap (λ t. t ++ b) (sym text));
    }

-- no piece is at the front
abbrev pub IsBlocked : List ℕ → Type 0
IsBlocked rest = (p : Piece) (after : List ℕ) → rest ≡ piece_text p ++ after → Stands p after → ⊥

pub end_blocked : IsBlocked []
end_blocked p after split is =
    let long = piece_long p after is in
    absurd (omega (arith, ap length split, length-append (piece_text p) after))

pub none_blocked : (rest : List ℕ) → found_at rest ≡ None → IsBlocked rest
none_blocked rest h p after split is = none_is_some _ (sym h ∙ ap found_at split ∙ stands_found p after is)

-- at most one sequence spells a text up to where there is no piece
record IsOneRow (ps qs : List Piece) (r s : List ℕ) : Type 0 where
  pub row : ps ≡ qs
  pub rest : r ≡ s

one_row : (ps qs : List Piece) (bytes r s : List ℕ) → AreLaid ps bytes r → AreLaid qs bytes s → IsBlocked r → IsBlocked s → IsOneRow ps qs r s
one_row [] [] bytes r s left right end_left end_right = record { row = refl; rest = sym left ∙ right }
one_row [] (q ∷ qs) bytes r s left right end_left end_right = absurd (end_left q right.0 (sym left ∙ right.1) right.2)
one_row (p ∷ ps) [] bytes r s left right end_left end_right = absurd (end_right p left.0 (sym right ∙ left.1) left.2)
one_row (p ∷ ps) (q ∷ qs) bytes r s left right end_left end_right =
    let same = one_piece p q left.0 right.0 left.2 right.2 (sym left.1 ∙ right.1) in
    let behind : AreLaid ps right.0 r = (let P : List ℕ → Type 0 = λ t. AreLaid ps t r in subst P same.after left.3) in
    let more = one_row ps qs right.0 r s behind right.3 end_left end_right in
    record { row = ap (λ t. t ∷ ps) same.piece ∙ ap (λ ts. q ∷ ts) more.row; rest = more.rest }

-- two token lists that spell the same bytes are equal
pub spelled_once : (file : ℕ) (bytes : List ℕ) (ts us : List Token) → Spells file ts bytes → Spells file us bytes → ts ≡ us
spelled_once file bytes ts us left right =
    let same = one_row left.pieces right.pieces bytes [] [] left.laid right.laid end_blocked end_blocked in
    left.in_order ∙ ap (tokens_of file 0 false) same.row ∙ sym right.in_order

-- bytes with a bad token are spelled by no list
pub bad_unspelled : (file offset : ℕ) (bytes : List ℕ) → IsBadAt offset bytes → IsUnspelled file bytes
bad_unspelled file offset bytes bad ts spelled =
    let same = one_row spelled.pieces bad.pieces bytes [] bad.rest spelled.laid bad.laid end_blocked bad.stuck.blocked in
    bad.stuck.left (sym same.rest)

-- there is at most one bad token
pub bad_once : (offset other : ℕ) (bytes : List ℕ) → IsBadAt offset bytes → IsBadAt other bytes → offset ≡ other
bad_once offset other bytes left right =
    let same = one_row left.pieces right.pieces bytes left.rest right.rest left.laid right.laid left.stuck.blocked right.stuck.blocked in
    omega (arith, left.placed, right.placed, ap length same.rest)

-- The progress of the scan: these tokens are found in the bytes before `at`, and the tokens of the rest follow them.
pub record Progress (file : ℕ) (bytes : List ℕ) (found : List Token) (count at : ℕ) (touching : Bool) : Type 0 where
  pub tokens : List Token
  pub kept : found ≡ take 200000 tokens
  pub counted : count ≡ length tokens
  pub few : count ≤ at
  pub within : at ≤ length bytes
  pub laid : (ps : List Piece) (rest : List ℕ) → AreLaid ps (drop at bytes) rest → (all : List Piece) × AreLaid all bytes rest × (tokens_of file 0 false all ≡ tokens ++ tokens_of file at touching ps)

pub progress_start : (file : ℕ) (bytes : List ℕ) → Progress file bytes [] 0 0 false
progress_start file bytes = record {
  tokens = [];
  kept = refl;
  counted = refl;
  few = omega arith;
  within = omega arith;
  laid = λ ps rest is. (ps, is, refl);
}

-- the end of the piece found
pub record IsNext (bytes : List ℕ) (at : ℕ) (f : Found) : Type 0 where
  pub piece : Piece
  pub class : f.class ≡ class_of piece
  pub text : take f.length (drop at bytes) ≡ piece_text piece
  pub long : f.length ≡ length (piece_text piece)
  pub some : 1 ≤ f.length
  pub within : at + f.length ≤ length bytes
  pub split : drop at bytes ≡ piece_text piece ++ drop (at + f.length) bytes
  pub stands : Stands piece (drop (at + f.length) bytes)

pub next_is : (bytes : List ℕ) (at : ℕ) (f : Found) → found_at (drop at bytes) ≡ Some f → IsNext bytes at f
next_is bytes at f h =
    let is = found_piece (drop at bytes) f h in
    let long : f.length ≡ length (piece_text is.piece) = ap (λ (g : Found). g.length) is.found in
    let text : take f.length (drop at bytes) ≡ piece_text is.piece = ap (take f.length) is.split ∙ take_at (piece_text is.piece) is.after f.length (sym long) in
    let after : drop (at + f.length) bytes ≡ is.after = sym (drop-drop f.length at bytes) ∙ ap (drop f.length) is.split ∙ drop_at (piece_text is.piece) is.after f.length (sym long) in
    let some = piece_long is.piece is.after is.stands in
    let P : List ℕ → Type 0 = λ t. Stands is.piece t in
    record {
      piece = is.piece;
      class = ap (λ (g : Found). g.class) is.found;
      text = text;
      long = long;
      some = omega arith;
      within = omega (arith, length-drop at bytes, ap length is.split, length-append (piece_text is.piece) is.after);
      split = is.split ∙ ap (λ t. piece_text is.piece ++ t) (sym after);
      stands = subst P (sym after) is.stands;
    }

-- a blank or a comment is skipped
laid_space : (file : ℕ) (bytes : List ℕ) (found : List Token) (count at : ℕ) (touching : Bool) (f : Found) → Progress file bytes found count at touching → IsNext bytes at f → (p : Piece) → class_of p ≡ blank → piece_text p ++ drop (at + f.length) bytes ≡ drop at bytes → Stands p (drop (at + f.length) bytes) → length (piece_text p) ≡ f.length → Progress file bytes found count (at + f.length) false
laid_space file bytes found count at touching f so next (space text) class split stands long = record {
  tokens = so.tokens;
  kept = so.kept;
  counted = so.counted;
  few = omega (arith, so.few);
  within = next.within;
  laid = λ ps rest is.
      let whole = so.laid (space text ∷ ps) rest (drop (at + f.length) bytes, sym split, stands, is) in
      (whole.0, whole.1, whole.2 ∙ ap (λ n. so.tokens ++ tokens_of file (at + n) false ps) long);
}
laid_space file bytes found count at touching f so next (lexeme (Word text)) class split stands long = cc
laid_space file bytes found count at touching f so next (lexeme (Number n)) class split stands long = cc
laid_space file bytes found count at touching f so next (lexeme (ByteString text)) class split stands long = cc
laid_space file bytes found count at touching f so next (lexeme (punctuation p)) class split stands long = cc

pub progress_space : (file : ℕ) (bytes : List ℕ) (found : List Token) (count at : ℕ) (touching : Bool) (f : Found) → Progress file bytes found count at touching → found_at (drop at bytes) ≡ Some f → f.class ≡ blank → Progress file bytes found count (at + f.length) false
progress_space file bytes found count at touching f so h class =
    let next = next_is bytes at f h in
    laid_space file bytes found count at touching f so next next.piece (sym next.class ∙ class) (sym next.split) next.stands (sym next.long)

-- a token is added to those found, as long as they are few enough
abbrev pub token_at : ℕ → ℕ → ℕ → Bool → TokenKind → Token
token_at file start end touching kind = record { kind = kind; span = record { file = file; start = start; end = end }; glued = touching }

kind_is : (k : TokenKind) (class : TokenClass) → class_of (lexeme k) ≡ a_token class → kind_of class (text_of k) ≡ k
kind_is (Word text) class h = let e : word ≡ class = cc in ap (λ c. kind_of c text) (sym e)
kind_is (Number n) class h = let e : number n.value n.suffix ≡ class = cc in ap (λ c. kind_of c n.text) (sym e)
kind_is (ByteString text) class h = let e : byte_string ≡ class = cc in ap (λ c. kind_of c text) (sym e)
kind_is (punctuation p) class h = let e : sign p ≡ class = cc in ap (λ c. kind_of c (text_of (punctuation p))) (sym e)

laid_token : (file : ℕ) (bytes : List ℕ) (found more : List Token) (count at : ℕ) (touching : Bool) (f : Found) (class : TokenClass) (text : List ℕ) → Progress file bytes found count at touching → IsNext bytes at f → ((tokens : List Token) → count ≡ length tokens → found ≡ take 200000 tokens → more ≡ take 200000 (tokens ++ token_at file at (at + f.length) touching (kind_of class text) ∷ [])) → (p : Piece) → class_of p ≡ a_token class → text ≡ piece_text p → piece_text p ++ drop (at + f.length) bytes ≡ drop at bytes → Stands p (drop (at + f.length) bytes) → length (piece_text p) ≡ f.length → Progress file bytes more (count + 1) (at + f.length) true
laid_token file bytes found more count at touching f class text so next joined (space blanks) class_is text_is split stands long = cc
laid_token file bytes found more count at touching f class text so next joined (lexeme k) class_is text_is split stands long =
    let kind : kind_of class text ≡ k = ap (kind_of class) text_is ∙ kind_is k class class_is in
    let t : Token = token_at file at (at + f.length) touching (kind_of class text) in
    record {
      tokens = so.tokens ++ t ∷ [];
      kept = joined so.tokens so.counted so.kept;
      counted = omega (arith, so.counted, length_push so.tokens t);
      few = omega (arith, so.few, next.some);
      within = next.within;
      laid = λ ps rest is.
          let whole = so.laid (lexeme k ∷ ps) rest (drop (at + f.length) bytes, sym split, stands, is) in
          let here : tokens_of file at touching (lexeme k ∷ ps) ≡ t ∷ tokens_of file (at + f.length) true ps =
          ap (λ n. token_at file at (at + n) touching k ∷ tokens_of file (at + n) true ps) long
          ∙ ap (λ j. token_at file at (at + f.length) touching j ∷ tokens_of file (at + f.length) true ps) (sym kind) in
          (whole.0, whole.1, whole.2 ∙ ap (λ ts. so.tokens ++ ts) here ∙ sym (append_assoc so.tokens (t ∷ []) (tokens_of file (at + f.length) true ps)));
    }

pub progress_kept : (file : ℕ) (bytes : List ℕ) (found : List Token) (count at : ℕ) (touching : Bool) (f : Found) (class : TokenClass) → Progress file bytes found count at touching → found_at (drop at bytes) ≡ Some f → f.class ≡ a_token class → count < 200000 → Progress file bytes (found ++ token_at file at (at + f.length) touching (kind_of class (take f.length (drop at bytes))) ∷ []) (count + 1) (at + f.length) true
progress_kept file bytes found count at touching f class so h class_is few =
    let next = next_is bytes at f h in
    let t : Token = token_at file at (at + f.length) touching (kind_of class (take f.length (drop at bytes))) in
    laid_token file bytes found (found ++ t ∷ []) count at touching f class (take f.length (drop at bytes)) so next
    (λ tokens counted kept.
    let all : take 200000 tokens ≡ tokens = take_all 200000 tokens (omega arith) in
    let more : take 200000 (tokens ++ t ∷ []) ≡ tokens ++ t ∷ [] = take_all 200000 (tokens ++ t ∷ []) (omega (arith, length_push tokens t)) in
    ap (λ ts. ts ++ t ∷ []) (kept ∙ all) ∙ sym more)
    next.piece (sym next.class ∙ class_is) next.text (sym next.split) next.stands (sym next.long)

pub progress_counted : (file : ℕ) (bytes : List ℕ) (found : List Token) (count at : ℕ) (touching : Bool) (f : Found) (class : TokenClass) → Progress file bytes found count at touching → found_at (drop at bytes) ≡ Some f → f.class ≡ a_token class → 200000 ≤ count → Progress file bytes found (count + 1) (at + f.length) true
progress_counted file bytes found count at touching f class so h class_is many =
    let next = next_is bytes at f h in
    laid_token file bytes found found count at touching f class (take f.length (drop at bytes)) so next
    (λ tokens counted kept. kept ∙ sym (take-append-le 200000 tokens (token_at file at (at + f.length) touching (kind_of class (take f.length (drop at bytes))) ∷ []) (omega arith)))
    next.piece (sym next.class ∙ class_is) next.text (sym next.split) next.stands (sym next.long)

-- the scan is at the end
pub progress_spells : (file : ℕ) (bytes : List ℕ) (found : List Token) (count at : ℕ) (touching : Bool) → (so : Progress file bytes found count at touching) → length bytes ≤ at → Spells file so.tokens bytes
progress_spells file bytes found count at touching so end =
    let whole = so.laid [] [] (drop_all at bytes end) in
    record { pieces = whole.0; laid = whole.1; in_order = sym (whole.2 ∙ append-nil so.tokens) }

-- the scan is stuck
pub progress_bad : (file : ℕ) (bytes : List ℕ) (found : List Token) (count at : ℕ) (touching : Bool) → Progress file bytes found count at touching → at < length bytes → found_at (drop at bytes) ≡ None → IsBadAt at bytes
progress_bad file bytes found count at touching so more h =
    let whole = so.laid [] (drop at bytes) refl in
    record {
      pieces = whole.0;
      rest = drop at bytes;
      laid = whole.1;
      stuck = record { left = λ e. absurd (omega (arith, ap length e, length-drop at bytes)); blocked = none_blocked (drop at bytes) h };
      placed = omega (arith, length-drop at bytes);
    }

-- the same for the bytes from `at` on, as a slice to the end
pub at_rest : (bytes : List ℕ) (at : ℕ) (o : Option Found) → o ≡ found_at (take (length bytes - at) (drop at bytes)) → found_at (drop at bytes) ≡ o
at_rest bytes at o h = ap found_at (sym (take_rest bytes at)) ∙ sym h

pub rest_take : (bytes : List ℕ) (at n : ℕ) → take n (take (length bytes - at) (drop at bytes)) ≡ take n (drop at bytes)
rest_take bytes at n = ap (take n) (take_rest bytes at)

-- the rest after pieces is a part of the text
laid_within : (ps : List Piece) (bytes rest : List ℕ) → AreLaid ps bytes rest → length rest ≤ length bytes
laid_within [] bytes rest laid = omega (arith, ap length laid)
laid_within (p ∷ ps) bytes rest laid =
    let more = laid_within ps laid.0 rest laid.3 in
    omega (arith, ap length laid.1, length-append (piece_text p) laid.0)

row_from : (steps : ℕ) (bytes : List ℕ) → length bytes ≤ suc steps → (o : Option Found) → found_at bytes ≡ o → ((shorter : List ℕ) → length shorter ≤ steps → (ps : List Piece) × (rest : List ℕ) × AreLaid ps shorter rest × IsBlocked rest) → (ps : List Piece) × (rest : List ℕ) × AreLaid ps bytes rest × IsBlocked rest
row_from steps bytes few None h more = ([], bytes, refl, none_blocked bytes h)
row_from steps bytes few (Some f) h more =
    let is = found_piece bytes f h in
    let long = piece_long is.piece is.after is.stands in
    let row = more is.after (omega (arith, ap length is.split, length-append (piece_text is.piece) is.after)) in
    (is.piece ∷ row.0, row.1, (is.after, is.split, is.stands, row.2), row.3)

-- pieces spell each text up to where there is no piece
pub some_row : (steps : ℕ) (bytes : List ℕ) → length bytes ≤ steps → (ps : List Piece) × (rest : List ℕ) × AreLaid ps bytes rest × IsBlocked rest
some_row zero [] few = ([], [], refl, end_blocked)
some_row zero (b ∷ bytes) few = absurd (omega arith)
some_row (suc steps) bytes few = row_from steps bytes few (found_at bytes) refl (some_row steps)

row_says : (file : ℕ) (bytes : List ℕ) (ps : List Piece) (rest : List ℕ) → AreLaid ps bytes rest → IsBlocked rest → ((ts : List Token) × Spells file ts bytes) ⊎ ((offset : ℕ) × IsBadAt offset bytes)
row_says file bytes ps [] laid blocked = inl (tokens_of file 0 false ps, record { pieces = ps; laid = laid; in_order = refl })
row_says file bytes ps (b ∷ rest) laid blocked =
    let within = laid_within ps bytes (b ∷ rest) laid in
    inr (
      length bytes - length (b ∷ rest),
      record {
        pieces = ps;
        rest = b ∷ rest;
        laid = laid;
        stuck = record { left = λ e. cc; blocked = blocked };
        placed = omega arith;
      },
    )

pub spelled_or_bad : (file : ℕ) (bytes : List ℕ) → ((ts : List Token) × Spells file ts bytes) ⊎ ((offset : ℕ) × IsBadAt offset bytes)
spelled_or_bad file bytes =
    let row = some_row (length bytes) bytes (omega arith) in
    row_says file bytes row.0 row.1 row.2 row.3
