-- The parts around the name and the inputs of a function are read exactly.
use Rattle.std.proofs.Common.{◌≡◌, ℕ, suc, ◌≤◌, Bool, List, [], ◌∷◌, Option, Some, None, length, refl, sym, ap, subst, ◌∙◌, inl, inr, arith, append-nil}
use Rattle.std.specs.Prelude.{codes, map}
use Rattle.std.specs.Option.{option_map, option_map_or}
use Rattle.std.specs.List.{AllByRecursion}
use Rattle.base.specs.declared.span.Span.{Span}
use Rattle.tokens.specs.declared.token.Token.{Token}
use Rattle.tokens.specs.declared.token.Punctuation.TheVariants.{Colon, ColonColon, LeftParenthesis, RightParenthesis, LeftBrace, Comma}
use Rattle.syntax_tree.specs.declared.path.Path.{Path}
use Rattle.syntax_tree.specs.Lexemes.{word, sign, comma_list}
use Rattle.syntax_tree.specs.PathSpelling.{path_spelling}
use Rattle.syntax_tree.specs.TypeTreeData.{SourceTypeData}
use Rattle.syntax_tree.specs.TypeSpelling.{type_spelling}
use Rattle.syntax_tree.specs.ExpressionSpelling.{annotation_spelling}
use Rattle.syntax_tree.specs.ProperTypes.{IsProperPath}
use Rattle.syntax_tree.specs.ProperExpressions.{IsProperAnnotation}
use Rattle.syntax_tree.specs.declared.member.Visibility.{Visibility}
use Rattle.syntax_tree.specs.declared.member.Visibility.TheVariants.{Module as in_module, Public, Friends}
use Rattle.syntax_tree.specs.MemberData.{PathsData}
use Rattle.syntax_tree.specs.MemberSpelling.{of_friends, visibility_spelling, entry_spelling, acquires_word, acquires_spelling}
use Rattle.syntax_tree.specs.ProperMembers.{AreAny, AreProperPaths}
use Rattle.parser_base.specs.Beginnings.{Begins}
use Rattle.parser_base.specs.TokenReading.{Read, after_sign, before_sign, after_word, word_span_at}
use Rattle.parser_base.specs.ListReading.{some_items_at}
use Rattle.parser_base.proofs.Steps.{step, last, some_one, either, bind_some, map_some, map_or_none, map_or_some}
use Rattle.parser_base.proofs.BeginLemmas.{Begins-append, Begins-first, Begins-same, length-Begins}
use Rattle.parser_base.proofs.TokenLemmas.{after_sign-sound, after_sign-complete, after_sign-other, after_word-sound, after_word-complete, after_word-other, word_span_at-sound, word_span_at-complete}
use Rattle.parser_base.specs.PathReading.{path_at}
use Rattle.parser_base.specs.TypeReading.{type_at}
use Rattle.parser_base.proofs.PathLemmas.{path_at-sound, path_at-complete, path_no_sign}
use Rattle.parser_base.proofs.TypeLemmas.{TypeEnds, type_at-sound, type_at-complete}
use Rattle.item_parser.specs.HeaderReading.{friends_at, public_at, visibility_at, entry_at, listed_paths_at, acquires_at}
use Rattle.parser_base.specs.LeafReading.{annotation_at}
use Rattle.parser_base.proofs.BeforeLists.{items_before-sound, items_before-complete}

-- ---- visibility

friends_at-sound : (span : Span) (ts : List Token) (r : Visibility × List Token) → friends_at span ts ≡ Some r → (r.0 ≡ Friends span) × Begins (word (codes "friend") None ∷ sign RightParenthesis ∷ []) ts r.1
unfolding friends_at
friends_at-sound span ts r e =
    let f = step (after_word (codes "friend") ts) _ r e in
    let c = last (after_sign RightParenthesis f.value) _ r f.then in
    subst (λ q. (q.0 ≡ Friends span) × Begins (word (codes "friend") None ∷ sign RightParenthesis ∷ []) ts q.1) c.then (
      refl,
      Begins-append (word (codes "friend") None ∷ []) (sign RightParenthesis ∷ []) ts f.value c.value (after_word-sound (codes "friend") ts f.value f.first) (after_sign-sound RightParenthesis f.value c.value c.first),
    )

public_at-sound : (span : Span) (whole ts : List Token) (r : Visibility × List Token) → Begins (word (codes "public") (Some span) ∷ []) whole ts → public_at span ts ≡ Some r → Begins (visibility_spelling r.0) whole r.1
unfolding public_at of_friends
public_at-sound span whole ts r front e =
    elim (either (after_sign LeftParenthesis ts) (λ inside. friends_at span inside) _ r e) [
      | inl s ↦
          let f = friends_at-sound span s.value r s.then in
          subst (λ v. Begins (visibility_spelling v) whole r.1) (sym f.0)
          (Begins-append (word (codes "public") (Some span) ∷ []) (sign LeftParenthesis ∷ word (codes "friend") None ∷ sign RightParenthesis ∷ []) whole ts r.1 front
          (Begins-append (sign LeftParenthesis ∷ []) (word (codes "friend") None ∷ sign RightParenthesis ∷ []) ts s.value r.1 (after_sign-sound LeftParenthesis ts s.value s.first) f.1))
      | inr m ↦ subst (λ q. Begins (visibility_spelling q.0) whole q.1) (some_one (Public span, ts) r m.1) front
    ]

pub visibility_at-sound : (ts : List Token) (r : Visibility × List Token) → visibility_at ts ≡ Some r → Begins (visibility_spelling r.0) ts r.1
unfolding visibility_at
visibility_at-sound ts r e =
    elim (either (word_span_at (codes "public") ts) (λ p. public_at p.0 p.1) _ r e) [
      | inl s ↦ public_at-sound s.value.0 ts s.value.1 r (word_span_at-sound (codes "public") ts s.value s.first) s.then
      | inr m ↦ subst (λ q. Begins (visibility_spelling q.0) ts q.1) (some_one (in_module, ts) r m.1) refl
    ]

-- no token after a visibility belongs to it
abbrev pub VisibilityEnds : List Token → Type 0
VisibilityEnds rest = (word_span_at (codes "public") rest ≡ None) × (after_sign LeftParenthesis rest ≡ None)

pub visibility_at-complete : (v : Visibility) (ts rest : List Token) → Begins (visibility_spelling v) ts rest → VisibilityEnds rest → visibility_at ts ≡ Some (v, rest)
unfolding visibility_at public_at friends_at of_friends
visibility_at-complete in_module ts rest b d =
    map_or_none (word_span_at (codes "public") ts) (λ p. public_at p.0 p.1) _ (ap (word_span_at (codes "public")) b ∙ d.0) ∙ ap (λ us. Some (in_module, us)) b
visibility_at-complete (Public span) ts rest b d =
    map_or_some (word_span_at (codes "public") ts) (λ p. public_at p.0 p.1) _ (span, rest) (word_span_at-complete (codes "public") span ts rest b)
    ∙ map_or_none (after_sign LeftParenthesis rest) (λ inside. friends_at span inside) _ d.1
visibility_at-complete (Friends span) ts rest b d =
    let s = Begins-first (word (codes "public") (Some span)) (sign LeftParenthesis ∷ word (codes "friend") None ∷ sign RightParenthesis ∷ []) ts rest b in
    let o = Begins-first (sign LeftParenthesis) (word (codes "friend") None ∷ sign RightParenthesis ∷ []) s.mid rest s.back in
    let f = Begins-first (word (codes "friend") None) (sign RightParenthesis ∷ []) o.mid rest o.back in
    map_or_some (word_span_at (codes "public") ts) (λ p. public_at p.0 p.1) _ (span, s.mid) (word_span_at-complete (codes "public") span ts s.mid s.front)
    ∙ map_or_some (after_sign LeftParenthesis s.mid) (λ inside. friends_at span inside) _ o.mid (after_sign-complete LeftParenthesis s.mid o.mid o.front)
    ∙ bind_some (after_word (codes "friend") o.mid) (λ rest. option_map (λ behind. (Friends span, behind)) (after_sign RightParenthesis rest)) f.mid (after_word-complete (codes "friend") o.mid f.mid f.front)
    ∙ map_some (after_sign RightParenthesis f.mid) (λ behind. (Friends span, behind)) rest (after_sign-complete RightParenthesis f.mid rest f.back)

-- ---- `entry`

pub entry_at-sound : (ts : List Token) → Begins (entry_spelling (entry_at ts).0) ts (entry_at ts).1
unfolding entry_at
entry_at-sound ts = go (word_span_at (codes "entry") ts) refl
  where
    go : (o : Read Span) → word_span_at (codes "entry") ts ≡ o
        → Begins (entry_spelling (option_map_or {U = Option Span × List Token} (λ p. (Some p.0, p.1)) o (None, ts)).0) ts (option_map_or {U = Option Span × List Token} (λ p. (Some p.0, p.1)) o (None, ts)).1
    go None e = refl
    go (Some p) e = word_span_at-sound (codes "entry") ts p e

pub entry_at-complete : (entry : Option Span) (ts rest : List Token) → Begins (entry_spelling entry) ts rest → word_span_at (codes "entry") rest ≡ None → entry_at ts ≡ (entry, rest)
unfolding entry_at
entry_at-complete None ts rest b e = map_or_none (word_span_at (codes "entry") ts) (λ p. (Some p.0, p.1)) (None, ts) (ap (word_span_at (codes "entry")) b ∙ e) ∙ ap (λ us. (None, us)) b
entry_at-complete (Some span) ts rest b e = map_or_some (word_span_at (codes "entry") ts) (λ p. (Some p.0, p.1)) (None, ts) (span, rest) (word_span_at-complete (codes "entry") span ts rest b)

-- ---- the type of the result

pub annotation_at-sound : (n : ℕ) (ts : List Token) (r : Option SourceTypeData × List Token) → annotation_at (type_at n) ts ≡ Some r → Begins (annotation_spelling r.0) ts r.1 × IsProperAnnotation r.0
unfolding annotation_at
annotation_at-sound n ts r e =
    elim (either (after_sign Colon ts) (λ rest. option_map (λ t. (Some t.0, t.1)) (type_at n rest)) _ r e) [
      | inl s ↦
          let l = last (type_at n s.value) (λ t. (Some t.0, t.1)) r s.then in
          let t = type_at-sound n s.value l.value l.first in
          subst (λ q. Begins (annotation_spelling q.0) ts q.1 × IsProperAnnotation q.0) l.then
          (Begins-append (sign Colon ∷ []) (type_spelling l.value.0) ts s.value l.value.1 (after_sign-sound Colon ts s.value s.first) t.0, t.1)
      | inr m ↦ subst (λ q. Begins (annotation_spelling q.0) ts q.1 × IsProperAnnotation q.0) (some_one (None, ts) r m.1) (refl, tt)
    ]

pub annotation_at-complete : (n : ℕ) (t : Option SourceTypeData) (ts rest : List Token) → length ts ≤ n → Begins (annotation_spelling t) ts rest → IsProperAnnotation t → after_sign Colon rest ≡ None → TypeEnds rest
    → annotation_at (type_at (suc n)) ts ≡ Some (t, rest)
unfolding annotation_at
annotation_at-complete n None ts rest h b p e d =
    map_or_none (after_sign Colon ts) (λ rest. option_map (λ t. (Some t.0, t.1)) (type_at (suc n) rest)) _ (ap (after_sign Colon) b ∙ e) ∙ ap (λ us. Some (None, us)) b
annotation_at-complete n (Some t) ts rest h b p e d =
    let s = Begins-first (sign Colon) (type_spelling t) ts rest b in
    map_or_some (after_sign Colon ts) (λ rest. option_map (λ t. (Some t.0, t.1)) (type_at (suc n) rest)) _ s.mid (after_sign-complete Colon ts s.mid s.front)
    ∙ map_some (type_at (suc n) s.mid) (λ t. (Some t.0, t.1)) (t, rest) (type_at-complete n t s.mid rest (omega (arith, h, length-Begins (sign Colon ∷ []) ts s.mid s.front)) s.back p d)

-- ---- `acquires`, whose paths end before a brace

listed_paths_at-sound : (ts : List Token) (r : PathsData × List Token) → listed_paths_at ts ≡ Some r
    → Begins (comma_list (map path_spelling r.0.items) r.0.last_comma) ts r.1 × AllByRecursion IsProperPath r.0.items × AreAny r.0.items
unfolding listed_paths_at
listed_paths_at-sound ts r e =
    let l = last (some_items_at (before_sign LeftBrace) path_at ts) _ r e in
    subst (λ q. Begins (comma_list (map path_spelling q.0.items) q.0.last_comma) ts q.1 × AllByRecursion IsProperPath q.0.items × AreAny q.0.items) l.then
    (items_before-sound LeftBrace path_at path_spelling IsProperPath path_at-sound ts l.value l.first)

listed_paths_at-complete : (items : List Path) (last : Bool) (ts rest inside : List Token) → Begins (comma_list (map path_spelling items) last) ts rest → AllByRecursion IsProperPath items → AreAny items
    → after_sign LeftBrace rest ≡ Some inside → listed_paths_at ts ≡ Some (record { items = items; last_comma = last }, rest)
unfolding listed_paths_at
listed_paths_at-complete [] last ts rest inside b p a e = absurd a
listed_paths_at-complete (x ∷ xs) last ts rest inside b p a e =
    map_some (some_items_at (before_sign LeftBrace) path_at ts) (λ items. (record { items = items.0.0; last_comma = items.0.1 }, items.1)) ((x ∷ xs, last), rest)
    (items_before-complete LeftBrace path_at path_spelling IsProperPath (λ rest. after_sign ColonColon rest ≡ None) path_at-complete
    (λ x ts rest b p. path_no_sign LeftBrace x [] ts rest (Begins-same _ _ ts rest (sym (append-nil (path_spelling x))) b) p)
    (λ ts rest b. after_sign-other ColonColon (sign LeftBrace) [] ts rest refl b) (λ ts rest b. after_sign-other ColonColon (sign Comma) [] ts rest refl b)
    refl x xs last ts rest inside b e p)

pub acquires_at-sound : (ts : List Token) (r : Option PathsData × List Token) → acquires_at ts ≡ Some r → Begins (acquires_spelling r.0) ts r.1 × AreProperPaths r.0
unfolding acquires_at acquires_word
acquires_at-sound ts r e =
    elim (either (after_word (codes "acquires") ts) (λ rest. option_map (λ p. (Some p.0, p.1)) (listed_paths_at rest)) _ r e) [
      | inl s ↦
          let l = last (listed_paths_at s.value) (λ p. (Some p.0, p.1)) r s.then in
          let p = listed_paths_at-sound s.value l.value l.first in
          subst (λ q. Begins (acquires_spelling q.0) ts q.1 × AreProperPaths q.0) l.then (
            Begins-append (word (codes "acquires") None ∷ []) (comma_list (map path_spelling l.value.0.items) l.value.0.last_comma) ts s.value l.value.1 (after_word-sound (codes "acquires") ts s.value s.first) p.0,
            (p.1, p.2),
          )
      | inr m ↦ subst (λ q. Begins (acquires_spelling q.0) ts q.1 × AreProperPaths q.0) (some_one (None, ts) r m.1) (refl, tt)
    ]

pub acquires_at-complete : (a : Option PathsData) (ts rest inside : List Token) → Begins (acquires_spelling a) ts rest → AreProperPaths a → after_sign LeftBrace rest ≡ Some inside → acquires_at ts ≡ Some (a, rest)
unfolding acquires_at acquires_word
acquires_at-complete None ts rest inside b p e =
    map_or_none (after_word (codes "acquires") ts) (λ rest. option_map (λ p. (Some p.0, p.1)) (listed_paths_at rest)) _
    (ap (after_word (codes "acquires")) b ∙ after_word-other (codes "acquires") (sign LeftBrace) [] rest inside refl (after_sign-sound LeftBrace rest inside e))
    ∙ ap (λ us. Some (None, us)) b
acquires_at-complete (Some a) ts rest inside b p e =
    let s = Begins-first (word (codes "acquires") None) (comma_list (map path_spelling a.items) a.last_comma) ts rest b in
    map_or_some (after_word (codes "acquires") ts) (λ rest. option_map (λ p. (Some p.0, p.1)) (listed_paths_at rest)) _ s.mid (after_word-complete (codes "acquires") ts s.mid s.front)
    ∙ map_some (listed_paths_at s.mid) (λ p. (Some p.0, p.1)) (a, rest) (listed_paths_at-complete a.items a.last_comma s.mid rest inside s.back p.0 p.1 e)
