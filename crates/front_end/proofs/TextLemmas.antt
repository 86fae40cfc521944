-- The tokens of files, read in order.
use Rattle.std.proofs.Common.{◌≡◌, ℕ, suc, ◌+◌, ◌<◌, List, [], ◌∷◌, ◌++◌, length, map, refl, sym, ap, subst, ◌∙◌, append_assoc, append-nil, arith}
use Rattle.tokens.specs.declared.token.Token.{Token}
use Rattle.front_end.specs.Chain.{at_first, at_second, ◌▷◌}
use Rattle.front_end.specs.Numbered.{Each, EachPair}
use Rattle.front_end.specs.Texts.{AreTokensOf, IsLong, IsShort, length_stage, text_stages, tokens_stage}
use Rattle.front_end.specs.TextReading.{IsFirstLong, IsLongText, IsShortText, IsText}
use Rattle.front_end.specs.declared.fault.FileFault.{FileFault}
use Rattle.front_end.specs.declared.fault.FileFault.TheVariants.{Passes}
use Rattle.front_end.specs.declared.fault.FileLimit.TheVariants.{Tokens}
use Rattle.front_end.specs.declared.texts.Text.{Text}
use Rattle.front_end.specs.declared.texts.Text.TheVariants.{Short, Long}
use Rattle.front_end.proofs.NumberedLemmas.{first_across, pairs_length}

-- each text has tokens
pub text_tokens : (n : ℕ) (bytes : List ℕ) (text : Text) → IsText n bytes text → (tokens : List Token) × AreTokensOf n bytes tokens
text_tokens n bytes (Short tokens) t = (tokens, t.0)
text_tokens n bytes (Long count) t = (t.0, t.1)

-- ---- too many tokens

each_short : (n : ℕ) (found : List (List Token)) → Each IsShortText n (map Short found)
each_short n [] = tt
each_short n (t ∷ ts) = (tt, each_short (1 + n) ts)

length_map : {A B : Type 0} (f : A → B) (xs : List A) → length (map f xs) ≡ length xs
length_map f [] = refl
length_map f (x ∷ xs) = ap suc (length_map f xs)

map_more : {A B : Type 0} (f : A → B) (xs : List A) (x : A) → map f (xs ++ x ∷ []) ≡ map f xs ++ f x ∷ []
map_more f [] x = refl
map_more f (y ∷ xs) x = ap (λ ys. f y ∷ ys) (map_more f xs x)

-- the texts so far are short, and the others are left
pub record Taking (texts rest : List Text) (count : ℕ) (found : List (List Token)) : Type 0 where
  pub parts : texts ≡ map Short found ++ rest
  pub counted : count ≡ length found

pub taking_start : (texts : List Text) → Taking texts texts 0 []
taking_start texts = record { parts = refl; counted = refl }

pub taking_more : {texts rest : List Text} {count next : ℕ} {found more : List (List Token)} (tokens : List Token) (back : List Text) → Taking texts rest count found → rest ≡ Short tokens ∷ back → next ≡ count + 1 → more ≡ found ++ tokens ∷ [] → Taking texts back next more
taking_more {texts = texts} {found = found} tokens back t e n m = record {
  parts = t.parts ∙ ap (λ r. map Short found ++ r) e ∙ sym (append_assoc (map Short found) (Short tokens ∷ []) back) ∙ ap (λ front. front ++ back) (sym (map_more Short found tokens)) ∙ ap (λ list. map Short list ++ back) (sym m);
  counted = n ∙ ap (λ k. k + 1) t.counted ∙ length_more found tokens ∙ ap length (sym m);
}
  where
    length_more : (xs : List (List Token)) (x : List Token) → length xs + 1 ≡ length (xs ++ x ∷ [])
    length_more [] x = refl
    length_more (y ∷ xs) x = omega (arith, length_more xs x)

pub taking_stop : {texts rest : List Text} {count : ℕ} {found : List (List Token)} (long : ℕ) (back : List Text) → Taking texts rest count found → rest ≡ Long long ∷ back → IsFirstLong texts count (Passes Tokens long)
taking_stop {found = found} long back t e = record {
  before = map Short found;
  item = Long long;
  behind = back;
  parts = t.parts ∙ ap (λ r. map Short found ++ r) e;
  number_is = t.counted ∙ sym (length_map Short found);
  right = each_short 0 found;
  found = record { count = long; fault_is = refl; long = refl };
}

pub taking_end : {texts rest : List Text} {count : ℕ} {found : List (List Token)} → Taking texts rest count found → rest ≡ [] → map Short found ≡ texts
taking_end {found = found} t e = sym (t.parts ∙ ap (λ r. map Short found ++ r) e ∙ append-nil (map Short found))

-- ---- all texts have tokens

-- the tokens are those of the text, or are too many as the text records
abbrev Agrees : ℕ → Text → List Token → Type 0
Agrees n text tokens = (IsShortText n text → IsShort n tokens) × ((fault : FileFault) → IsLongText n text fault → IsLong n tokens fault)

record AllTokens (n : ℕ) (files : List (List ℕ)) (texts : List Text) : Type 0 where
  all : List (List Token)
  are : EachPair AreTokensOf n files all
  agree : EachPair Agrees n texts all

short_is_no_long : (tokens : List Token) (count : ℕ) → Short tokens ≡ Long count → ⊥
short_is_no_long tokens count e = absurd (cc)

same_count : {a b : ℕ} → Long a ≡ Long b → a ≡ b
same_count e = cc

text_agrees : (n : ℕ) (bytes : List ℕ) (text : Text) (t : IsText n bytes text) → Agrees n text (text_tokens n bytes text t).0
unfolding text_tokens
text_agrees n bytes (Short tokens) t = ((λ _. t.1), λ fault l. absurd (short_is_no_long tokens l.count l.long))
text_agrees n bytes (Long long) t = (
  λ h. absurd h,
  λ fault l. record { fault_is = l.fault_is ∙ ap (Passes Tokens) (sym (same_count l.long) ∙ sym t.2); many = subst (λ k. 200000 < k) (sym t.2) t.3 },
)

all_tokens : (n : ℕ) (files : List (List ℕ)) (texts : List Text) → EachPair IsText n files texts → AllTokens n files texts
all_tokens n [] [] e = record { all = []; are = tt; agree = tt }
all_tokens n [] (t ∷ ts) e = absurd e
all_tokens n (f ∷ fs) [] e = absurd e
all_tokens n (f ∷ fs) (t ∷ ts) e =
    let more = all_tokens (1 + n) fs ts e.1 in
    let one = text_tokens n f t e.0 in
    record { all = one.0 ∷ more.all; are = (one.1, more.are); agree = (text_agrees n f t e.0, more.agree) }

pub long_stops : (files : List (List ℕ)) (texts : List Text) (file : ℕ) (fault : FileFault) → EachPair IsText 0 files texts → IsFirstLong texts file fault → text_stages.Stops files file fault
long_stops files texts file fault e first =
    let all = all_tokens 0 files texts e in
    at_first (at_second all.all all.are (first_across Agrees texts all.all file (λ k a b r. r.0) (λ k a b r. r.1 fault) all.agree first))

pub bad_stops : (files : List (List ℕ)) (file : ℕ) (fault : FileFault) → tokens_stage.Stops files file fault → text_stages.Stops files file fault
bad_stops files file fault stops = at_first (at_first stops)

-- ---- short texts

short_texts : (n : ℕ) (files : List (List ℕ)) (found : List (List Token)) → EachPair IsText n files (map Short found) → EachPair AreTokensOf n files found × Each IsShort n found
short_texts n [] [] e = (tt, tt)
short_texts n [] (t ∷ ts) e = absurd e
short_texts n (f ∷ fs) [] e = absurd e
short_texts n (f ∷ fs) (t ∷ ts) e = let more = short_texts (1 + n) fs ts e.1 in ((e.0.0, more.0), (e.0.1, more.1))

-- the result of the first two stages
pub short : (files : List (List ℕ)) (texts : List Text) (found : List (List Token)) → EachPair IsText 0 files texts → map Short found ≡ texts → (tokens_stage ▷ length_stage).Gives files found
short files texts found e m =
    let s = short_texts 0 files found (subst (EachPair IsText 0 files) (sym m) e) in
    record { between = found; first = s.0; second = (refl, s.1) }

pub texts_length : (files : List (List ℕ)) (texts : List Text) → EachPair IsText 0 files texts → length texts ≡ length files
texts_length files texts e = pairs_length IsText 0 files texts e

pub short_length : (files : List (List ℕ)) (texts : List Text) (found : List (List Token)) → EachPair IsText 0 files texts → map Short found ≡ texts → length found ≡ length files
short_length files texts found e m = sym (length_map Short found) ∙ ap length m ∙ texts_length files texts e
