-- Spec blocks are kept exactly: as the tokens read, if these are the tokens of a block.
use Rattle.std.proofs.Common.{◌≡◌, ◌≢◌, ℕ, ◌≤◌, ◌+◌, ◌-◌, Bool, true, false, cond, ◌==◌, length, reverse, take, arith, List, [], ◌∷◌, ◌++◌, Option, Some, None, refl, sym, ap, subst, ◌∙◌, inl, inr}
use Rattle.std.specs.Prelude.{option_and_then, is_some, map, codes}
use Rattle.std.specs.List.{AllByRecursion}
use Rattle.std.proofs.lemmas.List.{reverse-append}
use Rattle.std.proofs.Math.Dec.{eqb-suc-zero}
use Rattle.base.specs.declared.span.Span.{Span}
use Rattle.tokens.specs.declared.token.Token.{Token}
use Rattle.tokens.specs.declared.token.TokenKind.{TokenKind}
use Rattle.tokens.specs.declared.token.TokenKind.TheVariants.{Punctuation}
use Rattle.tokens.specs.declared.token.Punctuation.{Punctuation as Sign}
use Rattle.tokens.specs.declared.token.Punctuation.TheVariants.{LeftBrace, RightBrace}
use Rattle.syntax_tree.specs.declared.lexeme.Lexeme.{Lexeme}
use Rattle.syntax_tree.specs.declared.spec_tokens.KeptSpec.{KeptSpec}
use Rattle.syntax_tree.specs.Lexemes.{AreTokens, IsToken, sign, word}
use Rattle.syntax_tree.specs.SpecTokenSpelling.{kept, kept_spelling}
use Rattle.syntax_tree.specs.KeptSpecs.{block_form, IsNoBrace, IsMemberSpec, IsLoopSpec}
use Rattle.syntax_tree.specs.Balance.{expected_after, wanted_after}
use Rattle.parser_base.specs.Beginnings.{Begins}
use Rattle.parser_base.specs.TokenReading.{is_sign, after_sign, after_word}
use Rattle.parser_base.specs.BalanceReading.{balanced_end}
use Rattle.parser_base.specs.KeptReading.{is_none_open, head_end, spec_end, front, kept_at, member_spec_at, loop_spec_at}
use Rattle.parser_base.proofs.Steps.{Step, step, last, some_one, if_read, either_read, bind_some, map_some, cond_true, cond_false}
use Rattle.parser_base.proofs.BeginLemmas.{Begins-append, Begins-first, Begins-split, length-Begins}
use Rattle.parser_base.proofs.TokenLemmas.{is_sign-sound, is_sign-same, after_sign-sound, after_sign-complete, after_word-sound, after_word-complete}
use Rattle.parser_base.proofs.BalanceLemmas.{same_token, kept_length, some_wanted, balanced_end-sound, balanced_end-complete}

-- the expected brackets are listed with the next one last
pub none_open_by_length : (items : List Sign) → is_none_open (reverse items) ≡ (length items == 0)
none_open_by_length [] = refl
none_open_by_length (x ∷ xs) = ap is_none_open (reverse-append (x ∷ []) xs) ∙ go (reverse xs) ∙ sym (eqb-suc-zero (length xs))
  where
    go : (ys : List Sign) → is_none_open (ys ++ x ∷ []) ≡ false
    go [] = refl
    go (y ∷ ys) = refl

-- ---- a head that is read is balanced, and holds no brace

pub record Head (wanted : List Sign) (ts rest : List Token) : Type 0 where
  pub head : List Token
  pub spelled : Begins (map kept head ++ sign LeftBrace ∷ []) ts rest
  pub balanced : wanted_after (Some wanted) head ≡ Some []
  pub no_brace : AllByRecursion IsNoBrace head

none_open-sound : (wanted : List Sign) → is_none_open wanted ≡ true → wanted ≡ []
none_open-sound [] e = refl
none_open-sound (w ∷ ws) e = absurd (cc)

pub head_end-sound : (wanted : List Sign) (ts rest : List Token) → head_end wanted ts ≡ Some rest → Head wanted ts rest
unfolding head_end
head_end-sound wanted [] rest e = absurd (cc)
head_end-sound wanted (t ∷ ts) rest e =
    elim (either_read (is_sign LeftBrace t.kind) _ _ rest e) [
      | inl h ↦
          let o = if_read (is_none_open wanted) _ rest h.1 in
          record { head = []; spelled = (record { kind = is_sign-sound LeftBrace t.kind h.0; placed = tt; glued = tt }, some_one ts rest o.1); balanced = ap Some (none_open-sound wanted o.0); no_brace = tt }
      | inr h ↦
          let w = step (expected_after (Some wanted) t.kind) _ rest h.1 in
          let more = head_end-sound w.value ts rest w.then in
          record {
            head = t ∷ more.head;
            spelled = (record { kind = refl; placed = refl; glued = refl }, more.spelled);
            balanced = ap (λ o. wanted_after o more.head) w.first ∙ more.balanced;
            no_brace = (λ k. differs (sym (ap (is_sign LeftBrace) k ∙ is_sign-same LeftBrace) ∙ h.0), more.no_brace);
          }
    ]
  where
    differs : true ≡ false → ⊥
    differs h = cc

-- ---- tokens that are balanced and hold no brace are read as a head

no_brace-complete : (k : TokenKind) → k ≢ Punctuation LeftBrace → is_sign LeftBrace k ≡ false
no_brace-complete k n = go (is_sign LeftBrace k) refl
  where
    go : (b : Bool) → is_sign LeftBrace k ≡ b → is_sign LeftBrace k ≡ false
    go true is = absurd (n (is_sign-sound LeftBrace k is))
    go false is = is

pub head_end-complete : (wanted : List Sign) (head ts rest : List Token) → Begins (map kept head ++ sign LeftBrace ∷ []) ts rest → wanted_after (Some wanted) head ≡ Some [] → AllByRecursion IsNoBrace head → head_end wanted ts ≡ Some rest
unfolding head_end
head_end-complete wanted [] [] rest b e n = absurd b
head_end-complete wanted [] (t ∷ ts) rest b e n =
    cond_true (is_sign LeftBrace t.kind) _ _ (ap (is_sign LeftBrace) b.0.kind ∙ is_sign-same LeftBrace) ∙ cond_true (is_none_open wanted) (Some ts) None (ap is_none_open (some_one wanted [] e)) ∙ ap Some b.1
head_end-complete wanted (k ∷ ks) [] rest b e n = absurd b
head_end-complete wanted (k ∷ ks) (t ∷ ts) rest b e n =
    let e2 = ap (λ kind. wanted_after (expected_after (Some wanted) kind) ks) b.0.kind ∙ e in
    cond_false (is_sign LeftBrace t.kind) _ _ (ap (is_sign LeftBrace) b.0.kind ∙ no_brace-complete k.kind n.0)
    ∙ some_wanted wanted t.kind ks e2 (expected_after (Some wanted) t.kind) refl _ (λ w is.
    bind_some (expected_after (Some wanted) t.kind) _ w is
    ∙ head_end-complete w ks ts rest b.1 (sym (ap (λ o. wanted_after o ks) is) ∙ e2) n.1)

-- ---- the tokens before the remaining ones

taken : (ls : List Lexeme) (ts rest : List Token) → Begins ls ts rest → AreTokens (take (length ls) ts) ls × Begins (map kept (take (length ls) ts)) ts rest
taken [] [] rest b = (tt, b)
taken [] (t ∷ ts) rest b = (tt, b)
taken (l ∷ ls) [] rest b = absurd b
taken (l ∷ ls) (t ∷ ts) rest b = let more = taken ls ts rest b.1 in ((b.0, more.0), (record { kind = refl; placed = refl; glued = refl }, more.1))

front_length : (ls : List Lexeme) (ts rest : List Token) → Begins ls ts rest → front ts rest ≡ take (length ls) ts
front_length ls ts rest b = ap (λ n. take n ts) (omega (arith, length-Begins ls ts rest b))

-- they agree with the spelling, and are spelled unchanged
front-sound : (ls : List Lexeme) (ts rest : List Token) → Begins ls ts rest → AreTokens (front ts rest) ls × Begins (map kept (front ts rest)) ts rest
front-sound ls ts rest b = subst (λ us. AreTokens us ls × Begins (map kept us) ts rest) (sym (front_length ls ts rest b)) (taken ls ts rest b)

all_taken : (ks ts rest : List Token) → Begins (map kept ks) ts rest → take (length ks) ts ≡ ks
all_taken [] [] rest b = refl
all_taken [] (t ∷ ts) rest b = refl
all_taken (k ∷ ks) [] rest b = absurd b
all_taken (k ∷ ks) (t ∷ ts) rest b = ap (λ u. u ∷ take (length ks) ts) (same_token t k b.0) ∙ ap (λ us. k ∷ us) (all_taken ks ts rest b.1)

all_length : (ks ts rest : List Token) → Begins (map kept ks) ts rest → length ts ≡ length ks + length rest
all_length [] ts rest b = ap length b ∙ omega arith
all_length (k ∷ ks) [] rest b = absurd b
all_length (k ∷ ks) (t ∷ ts) rest b = omega (arith, all_length ks ts rest b.1)

front-complete : (ks ts rest : List Token) → Begins (map kept ks) ts rest → front ts rest ≡ ks
front-complete ks ts rest b = ap (λ n. take n ts) (omega (arith, all_length ks ts rest b)) ∙ all_taken ks ts rest b

-- the spelling of kept tokens begins as these tokens do
pub kept_begins : (ls : List Lexeme) (ks ts rest : List Token) → AreTokens ks ls → Begins (map kept ks) ts rest → Begins ls ts rest
kept_begins [] [] ts rest a b = b
kept_begins [] (k ∷ ks) ts rest a b = absurd a
kept_begins (l ∷ ls) [] ts rest a b = absurd a
kept_begins (l ∷ ls) (k ∷ ks) [] rest a b = absurd b
kept_begins (l ∷ ls) (k ∷ ks) (t ∷ ts) rest a b = (subst (λ u. IsToken u l) (sym (same_token t k b.0)) a.0, kept_begins ls ks ts rest a.1 b.1)

-- ---- spec blocks

record Ended (heads : List Token → Option (List Token)) (ts rest : List Token) : Type 0 where
  pub behind_word : List Token
  pub behind_head : List Token
  pub spec_word : Begins (word (codes "spec") None ∷ []) ts behind_word
  pub head : heads behind_word ≡ Some behind_head
  pub body : balanced_end RightBrace [] behind_head ≡ Some rest

spec_end-sound : (heads : List Token → Option (List Token)) (ts rest : List Token) → spec_end heads ts ≡ Some rest → Ended heads ts rest
unfolding spec_end
spec_end-sound heads ts rest e =
    let w = step (after_word (codes "spec") ts) _ rest e in
    let h = step (heads w.value) _ rest w.then in
    record { behind_word = w.value; behind_head = h.value; spec_word = after_word-sound (codes "spec") ts w.value w.first; head = h.first; body = h.then }

pub member_spec_at-sound : (ts : List Token) (r : KeptSpec × List Token) → member_spec_at ts ≡ Some r → Begins (kept_spelling r.0) ts r.1 × IsMemberSpec r.0
unfolding member_spec_at
member_spec_at-sound ts r e =
    let l = last (spec_end (head_end []) ts) (λ rest. (record { tokens = front ts rest }, rest)) r e in
    let s = spec_end-sound (head_end []) ts l.value l.first in
    let h = head_end-sound [] s.behind_word s.behind_head s.head in
    let b = balanced_end-sound RightBrace [] s.behind_head l.value s.body in
    let all = Begins-append (word (codes "spec") None ∷ []) ((map kept h.head ++ sign LeftBrace ∷ []) ++ (map kept b.inside ++ sign RightBrace ∷ [])) ts s.behind_word l.value s.spec_word
    (Begins-append (map kept h.head ++ sign LeftBrace ∷ []) (map kept b.inside ++ sign RightBrace ∷ []) s.behind_word s.behind_head l.value h.spelled b.spelled) in
    let f = front-sound (block_form h.head b.inside) ts l.value all in
    subst (λ q. Begins (kept_spelling q.0) ts q.1 × IsMemberSpec q.0) l.then
    (f.1, record { head = h.head; body = b.inside; tokens = f.0; head_balanced = h.balanced; head_no_brace = h.no_brace; body_balanced = b.balanced })

pub loop_spec_at-sound : (ts : List Token) (r : KeptSpec × List Token) → loop_spec_at ts ≡ Some r → Begins (kept_spelling r.0) ts r.1 × IsLoopSpec r.0
unfolding loop_spec_at
loop_spec_at-sound ts r e =
    let l = last (spec_end (after_sign LeftBrace) ts) (λ rest. (record { tokens = front ts rest }, rest)) r e in
    let s = spec_end-sound (after_sign LeftBrace) ts l.value l.first in
    let b = balanced_end-sound RightBrace [] s.behind_head l.value s.body in
    let all = Begins-append (word (codes "spec") None ∷ []) ((sign LeftBrace ∷ []) ++ (map kept b.inside ++ sign RightBrace ∷ [])) ts s.behind_word l.value s.spec_word
    (Begins-append (sign LeftBrace ∷ []) (map kept b.inside ++ sign RightBrace ∷ []) s.behind_word s.behind_head l.value (after_sign-sound LeftBrace s.behind_word s.behind_head s.head) b.spelled) in
    let f = front-sound (block_form [] b.inside) ts l.value all in
    subst (λ q. Begins (kept_spelling q.0) ts q.1 × IsLoopSpec q.0) l.then (f.1, record { body = b.inside; tokens = f.0; body_balanced = b.balanced })

kept-complete : (heads : List Token → Option (List Token)) (spec : KeptSpec) (ts rest : List Token) → Begins (kept_spelling spec) ts rest → spec_end heads ts ≡ Some rest → kept_at heads ts ≡ Some (spec, rest)
kept-complete heads spec ts rest b e =
    map_some (spec_end heads ts) (λ rest. (record { tokens = front ts rest }, rest)) rest e
    ∙ ap (λ us. Some (record { tokens = us }, rest)) (front-complete spec.tokens ts rest b)

pub member_spec_at-complete : (spec : KeptSpec) (ts rest : List Token) → Begins (kept_spelling spec) ts rest → IsMemberSpec spec → member_spec_at ts ≡ Some (spec, rest)
unfolding member_spec_at spec_end
member_spec_at-complete spec ts rest b p =
    let tail = (map kept p.head ++ sign LeftBrace ∷ []) ++ (map kept p.body ++ sign RightBrace ∷ []) in
    let w = Begins-first (word (codes "spec") None) tail ts rest (kept_begins (block_form p.head p.body) spec.tokens ts rest p.tokens b) in
    let h = Begins-split (map kept p.head ++ sign LeftBrace ∷ []) (map kept p.body ++ sign RightBrace ∷ []) w.mid rest w.back in
    kept-complete (head_end []) spec ts rest b
    (bind_some (after_word (codes "spec") ts) _ w.mid (after_word-complete (codes "spec") ts w.mid w.front)
    ∙ bind_some (head_end [] w.mid) _ h.mid (head_end-complete [] p.head w.mid h.mid h.front p.head_balanced p.head_no_brace)
    ∙ balanced_end-complete RightBrace [] p.body h.mid rest refl h.back p.body_balanced)

pub loop_spec_at-complete : (spec : KeptSpec) (ts rest : List Token) → Begins (kept_spelling spec) ts rest → IsLoopSpec spec → loop_spec_at ts ≡ Some (spec, rest)
unfolding loop_spec_at spec_end
loop_spec_at-complete spec ts rest b p =
    let w = Begins-first (word (codes "spec") None) (sign LeftBrace ∷ (map kept p.body ++ sign RightBrace ∷ [])) ts rest (kept_begins (block_form [] p.body) spec.tokens ts rest p.tokens b) in
    let h = Begins-first (sign LeftBrace) (map kept p.body ++ sign RightBrace ∷ []) w.mid rest w.back in
    kept-complete (after_sign LeftBrace) spec ts rest b
    (bind_some (after_word (codes "spec") ts) _ w.mid (after_word-complete (codes "spec") ts w.mid w.front)
    ∙ bind_some (after_sign LeftBrace w.mid) _ h.mid (after_sign-complete LeftBrace w.mid h.mid h.front)
    ∙ balanced_end-complete RightBrace [] p.body h.mid rest refl h.back p.body_balanced)

-- a kept block begins with the word `spec`, at some span
pub record WordFirst (ts rest : List Token) : Type 0 where
  pub span : Span
  pub behind : List Token
  pub more : List Lexeme
  pub first : Begins (word (codes "spec") (Some span) ∷ []) ts behind
  pub whole : Begins (word (codes "spec") (Some span) ∷ more) ts rest

word_first : (ls : List Lexeme) (ts rest : List Token) → Begins (word (codes "spec") None ∷ ls) ts rest → WordFirst ts rest
word_first ls [] rest b = absurd b
word_first ls (t ∷ ts) rest b =
    let i : IsToken t (word (codes "spec") (Some t.span)) = record { kind = b.0.kind; placed = refl; glued = tt } in
    record { span = t.span; behind = ts; more = ls; first = (i, refl); whole = (i, b.1) }

pub member_spec_first : (spec : KeptSpec) (ts rest : List Token) → Begins (kept_spelling spec) ts rest → IsMemberSpec spec → WordFirst ts rest
member_spec_first spec ts rest b p = word_first ((map kept p.head ++ sign LeftBrace ∷ []) ++ (map kept p.body ++ sign RightBrace ∷ [])) ts rest (kept_begins (block_form p.head p.body) spec.tokens ts rest p.tokens b)

pub loop_spec_word : (spec : KeptSpec) (ts rest : List Token) → Begins (kept_spelling spec) ts rest → IsLoopSpec spec → is_some (after_word (codes "spec") ts) ≡ true
loop_spec_word spec ts rest b p =
    let w = Begins-first (word (codes "spec") None) ((sign LeftBrace ∷ []) ++ (map kept p.body ++ sign RightBrace ∷ [])) ts rest (kept_begins (block_form [] p.body) spec.tokens ts rest p.tokens b) in
    ap (λ o. is_some {T = List Token} o) (after_word-complete (codes "spec") ts w.mid w.front)

-- ---- the remaining tokens are no more than before

after_word-shorter : (w : List ℕ) (ts rest : List Token) → after_word w ts ≡ Some rest → length rest ≤ length ts
after_word-shorter w ts rest e = omega (arith, length-Begins (word w None ∷ []) ts rest (after_word-sound w ts rest e))

pub member_spec_shorter : (ts head body rest : List Token) → after_word (codes "spec") ts ≡ Some head → head_end [] head ≡ Some body → balanced_end RightBrace [] body ≡ Some rest → length rest ≤ length ts
member_spec_shorter ts head body rest a h b =
    let i = head_end-sound [] head body h in
    let j = balanced_end-sound RightBrace [] body rest b in
    omega (arith, after_word-shorter (codes "spec") ts head a, kept_length i.head (sign LeftBrace ∷ []) head body i.spelled, kept_length j.inside (sign RightBrace ∷ []) body rest j.spelled)

pub loop_spec_shorter : (ts head body rest : List Token) → after_word (codes "spec") ts ≡ Some head → after_sign LeftBrace head ≡ Some body → balanced_end RightBrace [] body ≡ Some rest → length rest ≤ length ts
loop_spec_shorter ts head body rest a h b =
    let j = balanced_end-sound RightBrace [] body rest b in
    omega (arith, after_word-shorter (codes "spec") ts head a, length-Begins (sign LeftBrace ∷ []) head body (after_sign-sound LeftBrace head body h), kept_length j.inside (sign RightBrace ∷ []) body rest j.spelled)

-- ---- one step of the loop over a head

turn : List Token → Bool → Bool → Option (List Sign) → Option (List Token)
turn rest brace none more = cond brace (cond none (Some rest) None) (option_and_then (λ w. head_end w rest) more)

head_end-turn : (wanted : List Sign) (ts : List Token) (t : Token) (rest : List Token) (brace none : Bool) (more : Option (List Sign)) → ts ≡ t ∷ rest → is_sign LeftBrace t.kind ≡ brace → is_none_open wanted ≡ none → expected_after (Some wanted) t.kind ≡ more → head_end wanted ts ≡ turn rest brace none more
unfolding head_end turn
head_end-turn wanted ts t rest brace none more e h n m =
    ap (head_end wanted) e ∙ ap (λ b. cond b (cond (is_none_open wanted) (Some rest) None) (option_and_then (λ w. head_end w rest) (expected_after (Some wanted) t.kind))) h
    ∙ ap (λ b. cond brace (cond b (Some rest) None) (option_and_then (λ w. head_end w rest) (expected_after (Some wanted) t.kind))) n
    ∙ ap (λ o. cond brace (cond none (Some rest) None) (option_and_then (λ w. head_end w rest) o)) m

pub heading_ends : (all : Option (List Token)) (wanted : List Sign) (ts : List Token) (t : Token) (rest : List Token) → all ≡ head_end wanted ts → ts ≡ t ∷ rest → is_sign LeftBrace t.kind ≡ true → is_none_open wanted ≡ true → all ≡ Some rest
unfolding turn
heading_ends all wanted ts t rest before e h n = before ∙ head_end-turn wanted ts t rest true true (expected_after (Some wanted) t.kind) e h n refl

pub heading_is_open : (all : Option (List Token)) (wanted : List Sign) (ts : List Token) (t : Token) (rest : List Token) → all ≡ head_end wanted ts → ts ≡ t ∷ rest → is_sign LeftBrace t.kind ≡ true → is_none_open wanted ≡ false → all ≡ None
unfolding turn
heading_is_open all wanted ts t rest before e h n = before ∙ head_end-turn wanted ts t rest true false (expected_after (Some wanted) t.kind) e h n refl

pub heading_fails : (all : Option (List Token)) (wanted : List Sign) (ts : List Token) (t : Token) (rest : List Token) → all ≡ head_end wanted ts → ts ≡ t ∷ rest → is_sign LeftBrace t.kind ≡ false → expected_after (Some wanted) t.kind ≡ None → all ≡ None
unfolding turn
heading_fails all wanted ts t rest before e h m = before ∙ head_end-turn wanted ts t rest false (is_none_open wanted) None e h refl m

pub heading_goes_on : (all : Option (List Token)) (wanted next : List Sign) (ts : List Token) (t : Token) (rest : List Token) → all ≡ head_end wanted ts → ts ≡ t ∷ rest → is_sign LeftBrace t.kind ≡ false
    → expected_after (Some wanted) t.kind ≡ Some next → all ≡ head_end next rest
unfolding turn
heading_goes_on all wanted next ts t rest before e h m = before ∙ head_end-turn wanted ts t rest false (is_none_open wanted) (Some next) e h refl m

pub heading_is_over : (all : Option (List Token)) (wanted : List Sign) (ts : List Token) → all ≡ head_end wanted ts → length ts ≡ 0 → all ≡ None
unfolding head_end
heading_is_over all wanted [] before e = before
heading_is_over all wanted (t ∷ ts) before e = absurd (omega (arith, e))
