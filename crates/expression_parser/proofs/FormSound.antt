-- A spec expression that is read is proper, and the tokens spell it.
use Rattle.std.proofs.Common.{◌≡◌, ℕ, zero, suc, ◌≤◌, Bool, true, false, ◌||◌, ◌==◌, List, [], ◌∷◌, ◌++◌, Some, None, refl, sym, ap, subst, ◌∙◌, inl, inr, arith, append_assoc}
use Rattle.std.specs.Prelude.{codes, map, is_some}
use Rattle.std.proofs.lemmas.Bool.{eqb-true}
use Rattle.base.specs.declared.span.Span.{Span}
use Rattle.tokens.specs.declared.token.Token.{Token}
use Rattle.tokens.specs.declared.token.Punctuation.TheVariants.{LeftParenthesis, RightParenthesis, LeftBrace, RightBrace, Colon, Exclaim}
use Rattle.syntax_tree.specs.declared.lexeme.Lexeme.{Lexeme}
use Rattle.syntax_tree.specs.Lexemes.{word, sign, sign_at, identifier, comma_list}
use Rattle.syntax_tree.specs.ProperExpressions.{unary_level, term_level}
use Rattle.syntax_tree.specs.TypeTreeData.{SourceTypeData}
use Rattle.syntax_tree.specs.TypeSpelling.{type_spelling}
use Rattle.syntax_tree.specs.declared.spec_expression.operator.SpecOperator.{SpecOperator}
use Rattle.syntax_tree.specs.declared.spec_expression.operator.Quantifier.{Quantifier}
use Rattle.syntax_tree.specs.SpecOperatorSpelling.{quantifier_spelling}
use Rattle.syntax_tree.specs.SpecExpressionData.{SpecExpressionData, SpecQuantified, SpecIf, SpecNot, BindData, TypedBind, RangeBind, TriggerData, TriggerOf, spec_expressions_of, binds_of, triggers_of}
use Rattle.syntax_tree.specs.SpecExpressionSpelling.{spec_spelling, spec_spellings, bind_spelling, bind_spellings, trigger_spelling, triggers_spelling}
use Rattle.syntax_tree.specs.ProperSpecExpressions.{level, right_level, IsProperSpec, IsProperBind, AreProperBinds, AreSomeBinds, AreProperTriggers}
use Rattle.parser_base.specs.Beginnings.{Begins}
use Rattle.parser_base.specs.TokenReading.{Read, after_sign, sign_span_at, after_word, word_span_at, identifier_at}
use Rattle.parser_base.specs.ListReading.{Items, some_items_at}
use Rattle.parser_base.specs.ChainReading.{next_operator}
use Rattle.parser_base.proofs.Steps.{step, last, either, either_read, if_some, if_not}
use Rattle.parser_base.proofs.BeginLemmas.{Begins-append, Begins-same}
use Rattle.parser_base.proofs.TokenLemmas.{after_sign-sound, sign_span_at-sound, after_word-sound, word_span_at-sound, identifier_at-sound}
use Rattle.parser_base.proofs.ListLemmas.{items_at-sound, some_items_at-sound}
use Rattle.parser_base.proofs.ChainLemmas.{Joined, chain_at-sound}
use Rattle.parser_base.specs.TypeReading.{type_at}
use Rattle.parser_base.proofs.TypeLemmas.{ReadsTypes, type_at-sound}
use Rattle.expression_parser.specs.OperatorReading.{spec_joints}
use Rattle.expression_parser.specs.LeafReading.{quantifier_at, has_postfix}
use Rattle.expression_parser.specs.SpecReading.{Reader, term_at, postfix_at, operand_at, operated_at, bind_at, binds_end, binds_at, trigger_at, has_trigger, quantified_at, condition_at, if_at, loose_at, spec_form, spec_at}
use Rattle.expression_parser.specs.RepeatReading.{whole_repeat_at}
use Rattle.expression_parser.proofs.RepeatLemmas.{repeat_at-sound}
use Rattle.expression_parser.proofs.OperatorLemmas.{left_at_most, right_at_most, right_is_some}
use Rattle.expression_parser.proofs.LeafLemmas.{quantifier_at-sound}
use Rattle.expression_parser.proofs.SpecLists.{specs_spelled, proper_specs, some_specs, binds_spelled, proper_binds, some_binds, trigger_behind, proper_trigger_behind}
use Rattle.expression_parser.proofs.ShapeLemmas.{three_behind}
use Rattle.expression_parser.proofs.JoinLemmas.{Allowed, spec_rules}
use Rattle.expression_parser.proofs.TermSound.{ReadsSpecs, Found, allowed_base, term_at-sound, postfix_at-sound}

-- the spec expression that a reader returns, and what follows it
pub record ReadSpec (packs : Bool) (minimum : ℕ) (whole : List Token) (r : SpecExpressionData × List Token) : Type 0 where
  pub spelled : Begins (spec_spelling r.0) whole r.1
  pub is_proper : IsProperSpec r.0
  pub allows : Allowed packs r.0
  pub above : 1 ≤ minimum → (minimum ≤ level r.0) × (next_operator spec_joints minimum r.0 r.1 ≡ None)

abbrev pub SoundReader : (Bool → ℕ → Reader) → Type 0
SoundReader inner = (packs : Bool) (minimum : ℕ) (ts : List Token) (r : SpecExpressionData × List Token) → minimum ≤ unary_level → inner packs minimum ts ≡ Some r → ReadSpec packs minimum ts r

binds_end-sound : (ts rest : List Token) → binds_end ts ≡ Some rest → ts ≡ rest
unfolding binds_end
binds_end-sound ts rest e = (if_some (is_some (after_sign LeftBrace ts) || is_some (after_sign Colon ts)) ts rest e).1

-- the tokens after the word `if`
abbrev pub behind_if : SpecExpressionData → SpecExpressionData → SpecExpressionData → List Lexeme
behind_if condition chosen other = sign LeftParenthesis ∷ ((spec_spelling condition ++ sign RightParenthesis ∷ spec_spelling chosen) ++ word (codes "else") None ∷ spec_spelling other)

pub if_grouped : (c t e : List Lexeme) → (sign LeftParenthesis ∷ (c ++ sign RightParenthesis ∷ [])) ++ (t ++ word (codes "else") None ∷ e) ≡ sign LeftParenthesis ∷ ((c ++ sign RightParenthesis ∷ t) ++ word (codes "else") None ∷ e)
if_grouped c t e = ap (λ l. sign LeftParenthesis ∷ l) (append_assoc c (sign RightParenthesis ∷ []) (t ++ word (codes "else") None ∷ e) ∙ sym (append_assoc c (sign RightParenthesis ∷ t) (word (codes "else") None ∷ e)))

if_spelled : (condition chosen other : SpecExpressionData) (ts us vs ws rest : List Token) → Begins (sign LeftParenthesis ∷ (spec_spelling condition ++ sign RightParenthesis ∷ [])) ts us → Begins (spec_spelling chosen) us vs
    → Begins (word (codes "else") None ∷ []) vs ws → Begins (spec_spelling other) ws rest → Begins (behind_if condition chosen other) ts rest
if_spelled condition chosen other ts us vs ws rest a b c d =
    Begins-same _ _ ts rest (if_grouped (spec_spelling condition) (spec_spelling chosen) (spec_spelling other))
    (Begins-append (sign LeftParenthesis ∷ (spec_spelling condition ++ sign RightParenthesis ∷ [])) (spec_spelling chosen ++ word (codes "else") None ∷ spec_spelling other) ts us rest a
    (Begins-append (spec_spelling chosen) (word (codes "else") None ∷ spec_spelling other) us vs rest b
    (Begins-append (word (codes "else") None ∷ []) (spec_spelling other) vs ws rest c d)))

allowed_both : (packs : Bool) (span : Span) (c t e : SpecExpressionData) → Allowed packs t → Allowed packs e → Allowed packs (SpecIf span c t e)
allowed_both true span c t e a b = tt
allowed_both false span c t e a b = (a, b)

module _ (types : List Token → Read SourceTypeData) (types_sound : ReadsTypes types) (inner : Bool → ℕ → Reader) (sound : SoundReader inner) where
  item_sound : ReadsSpecs (inner true 0)
  item_sound ts r e = let s = sound true 0 ts r (omega arith) e in (s.spelled, s.is_proper)

  -- ---- operands and operators

  operand_at-sound : (packs : Bool) (ts : List Token) (r : SpecExpressionData × List Token) → operand_at types inner packs ts ≡ Some r → Found packs unary_level ts r
  unfolding operand_at
  operand_at-sound packs ts r e =
      elim (either (sign_span_at Exclaim ts) _ _ r e) [
        | inl s ↦
            let x = last (inner packs unary_level s.value.1) (λ e. (SpecNot s.value.0 e.0, e.1)) r s.then in
            let read = sound packs unary_level s.value.1 x.value (omega arith) x.first in
            subst (Found packs unary_level ts) x.then (record {
              spelled = Begins-append (sign_at s.value.0 Exclaim ∷ []) (spec_spelling x.value.0) ts s.value.1 x.value.1 (sign_span_at-sound Exclaim ts s.value s.first) read.spelled;
              is_proper = (read.is_proper, (read.above (omega arith)).0);
              allows = allowed_base packs x.value.0 (SpecNot s.value.0 x.value.0) (λ h. h) read.allows;
              high = omega arith;
            })
        | inr n ↦
            let b = step (term_at types (inner true 0) packs ts) _ r n.1 in
            let found = repeat_at-sound has_postfix (postfix_at (inner true 0)) (λ x us. Found packs term_level ts (x, us)) (λ x us q before e. postfix_at-sound (inner true 0) item_sound packs ts x us q before e) _ b.value.0 b.value.1 r
            (term_at-sound (inner true 0) item_sound types types_sound packs ts b.value b.first) b.then in
            record { spelled = found.spelled; is_proper = found.is_proper; allows = found.allows; high = omega (arith, found.high) }
      ]

  operand_joined : (packs : Bool) (o : SpecOperator × Span) (ts : List Token) (r : SpecExpressionData × List Token) → inner packs (right_level o.0) ts ≡ Some r → Joined spec_joints (spec_rules packs) (right_level o.0) ts r
  operand_joined packs o ts r e =
      let s = sound packs (right_level o.0) ts r (right_at_most o.0) e in
      let a = s.above (omega (arith, right_is_some o.0)) in
      record { spelled = s.spelled; is_proper = (s.is_proper, s.allows); level = a.0; stops = λ z. a.1 }

  operated_at-sound : (packs : Bool) (minimum : ℕ) (ts : List Token) (r : SpecExpressionData × List Token) → minimum ≤ unary_level → operated_at types inner packs minimum ts ≡ Some r → ReadSpec packs minimum ts r
  unfolding operated_at
  operated_at-sound packs minimum ts r h e =
      let f = step (operand_at types inner packs ts) _ r e in
      let first = operand_at-sound packs ts f.value f.first in
      let all = chain_at-sound spec_joints (spec_rules packs) (inner packs) (operand_joined packs) _ minimum f.value.0 ts f.value.1 r first.spelled (first.is_proper, first.allows) (omega (arith, h, first.high))
      (λ q e. omega (arith, left_at_most q.0.0, first.high)) f.then in
      record { spelled = all.spelled; is_proper = all.is_proper.0; allows = all.is_proper.1; above = λ l. (all.level, all.stops (omega (arith, l))) }

  -- ---- quantifiers

  bind_at-sound : (ts : List Token) (r : BindData × List Token) → bind_at types (inner false 0) ts ≡ Some r → Begins (bind_spelling r.0) ts r.1 × IsProperBind r.0
  unfolding bind_at
  bind_at-sound ts r e =
      let n = step (identifier_at ts) _ r e in
      let name = identifier_at-sound ts n.value n.first in
      elim (either (after_sign Colon n.value.1) _ _ r n.then) [
        | inl s ↦
            let t = last (types s.value) (λ t. (TypedBind n.value.0 t.0, t.1)) r s.then in
            let read = types_sound s.value t.value t.first in
            subst (λ q. Begins (bind_spelling q.0) ts q.1 × IsProperBind q.0) t.then (
              Begins-append (identifier n.value.0 ∷ []) (sign Colon ∷ type_spelling t.value.0) ts n.value.1 t.value.1 name.0
                  (Begins-append (sign Colon ∷ []) (type_spelling t.value.0) n.value.1 s.value t.value.1 (after_sign-sound Colon n.value.1 s.value s.first) read.0),
              (name.1, read.1),
            )
        | inr m ↦
            let s = step (after_word (codes "in") n.value.1) _ r m.1 in
            let x = last (inner false 0 s.value) (λ x. (RangeBind n.value.0 x.0, x.1)) r s.then in
            let read = sound false 0 s.value x.value (omega arith) x.first in
            subst (λ q. Begins (bind_spelling q.0) ts q.1 × IsProperBind q.0) x.then (
              Begins-append (identifier n.value.0 ∷ []) (word (codes "in") None ∷ spec_spelling x.value.0) ts n.value.1 x.value.1 name.0
                  (Begins-append (word (codes "in") None ∷ []) (spec_spelling x.value.0) n.value.1 s.value x.value.1 (after_word-sound (codes "in") n.value.1 s.value s.first) read.spelled),
              (name.1, read.is_proper, read.allows),
            )
      ]

  pub record ReadBinds (ts : List Token) (r : List BindData × List Token) : Type 0 where
    pub spelled : Begins (comma_list (bind_spellings (binds_of r.0)) false) ts r.1
    pub all_proper : AreProperBinds (binds_of r.0)
    pub some : AreSomeBinds (binds_of r.0)

  no_last_comma : (ts : List Token) (q : Items BindData × List Token) (r : List BindData × List Token) → some_items_at binds_end (bind_at types (inner false 0)) ts ≡ Some q → q.0.1 ≡ false → ◌≡◌ {A = List BindData × List Token} (q.0.0, q.1) r → ReadBinds ts r
  no_last_comma ts q r e l is =
      let s = items_at-sound binds_end (bind_at types (inner false 0)) bind_spelling IsProperBind (λ ts rest. ts ≡ rest) bind_at-sound binds_end-sound _ ts q e in
      subst (ReadBinds ts) is (record {
        spelled = subst (λ ls. Begins (comma_list ls false) ts q.1) (sym (binds_spelled q.0.0)) (subst (λ b. Begins (comma_list (map bind_spelling q.0.0) b) ts q.1) l (subst (λ us. Begins (comma_list (map bind_spelling q.0.0) q.0.1) ts us) s.back s.front));
        all_proper = proper_binds q.0.0 s.all_proper;
        some = some_binds q.0.0 s.filled;
      })

  binds_at-sound : (ts : List Token) (r : List BindData × List Token) → binds_at types (inner false 0) ts ≡ Some r → ReadBinds ts r
  unfolding binds_at
  binds_at-sound ts r e =
      let b = step (some_items_at binds_end (bind_at types (inner false 0)) ts) _ r e in
      let c = if_not b.value.0.1 (b.value.0.0, b.value.1) r b.then in
      no_last_comma ts b.value r b.first c.0 c.1

  abbrev Triggered : List Token → List TriggerData → List Token → Type 0
  Triggered whole triggers us = Begins (triggers_spelling (triggers_of triggers)) whole us × AreProperTriggers (triggers_of triggers)

  trigger_at-sound : (whole : List Token) (before : List TriggerData) (ts : List Token) (r : List TriggerData × List Token) → Triggered whole before ts → trigger_at (inner true 0) before ts ≡ Some r → Triggered whole r.0 r.1
  unfolding trigger_at
  trigger_at-sound whole before ts r p e =
      let o = step (after_sign LeftBrace ts) _ r e in
      let l = last (some_items_at (after_sign RightBrace) (inner true 0) o.value) _ r o.then in
      let s = some_items_at-sound RightBrace (inner true 0) spec_spelling IsProperSpec item_sound o.value l.value l.first in
      let one = TriggerOf (spec_expressions_of l.value.0.0) l.value.0.1 in
      subst (λ q. Triggered whole q.0 q.1) l.then (
        Begins-same _ _ whole l.value.1 (sym (trigger_behind before one))
            (Begins-append (triggers_spelling (triggers_of before)) (trigger_spelling one) whole ts l.value.1 p.0
            (Begins-append (sign LeftBrace ∷ []) (comma_list (spec_spellings (spec_expressions_of l.value.0.0)) l.value.0.1 ++ sign RightBrace ∷ []) ts o.value l.value.1 (after_sign-sound LeftBrace ts o.value o.first)
            (subst (λ ls. Begins (comma_list ls l.value.0.1 ++ sign RightBrace ∷ []) o.value l.value.1) (sym (specs_spelled l.value.0.0)) s.0.spelled))),
        proper_trigger_behind before one p.1 (proper_specs l.value.0.0 s.0.all_proper, some_specs l.value.0.0 s.1),
      )

  quantified_at-sound : (packs : Bool) (quantifier : Quantifier) (span : Span) (whole ts : List Token) (r : SpecExpressionData × List Token) → Begins (quantifier_spelling quantifier span) whole ts
      → quantified_at types inner packs quantifier span ts ≡ Some r → ReadSpec packs 0 whole r
  unfolding quantified_at
  quantified_at-sound packs quantifier span whole ts r front e =
      let b = step (binds_at types (inner false 0) ts) _ r e in
      let t = step (whole_repeat_at has_trigger (trigger_at (inner true 0)) [] b.value.1) _ r b.then in
      let c = step (after_sign Colon t.value.1) _ r t.then in
      let x = last (inner packs 0 c.value) _ r c.then in
      let binds = binds_at-sound ts b.value b.first in
      let triggers = repeat_at-sound has_trigger (trigger_at (inner true 0)) (Triggered b.value.1) (trigger_at-sound b.value.1) _ [] b.value.1 t.value (refl, tt) t.first in
      let body = sound packs 0 c.value x.value (omega arith) x.first in
      subst (ReadSpec packs 0 whole) x.then (record {
        spelled = Begins-same _ _ whole x.value.1
            (sym (three_behind (quantifier_spelling quantifier span) (comma_list (bind_spellings (binds_of b.value.0)) false) (triggers_spelling (triggers_of t.value.0)) (sign Colon ∷ spec_spelling x.value.0)))
            (Begins-append (quantifier_spelling quantifier span) _ whole ts x.value.1 front
            (Begins-append (comma_list (bind_spellings (binds_of b.value.0)) false) _ ts b.value.1 x.value.1 binds.spelled
            (Begins-append (triggers_spelling (triggers_of t.value.0)) _ b.value.1 t.value.1 x.value.1 triggers.0
            (Begins-append (sign Colon ∷ []) (spec_spelling x.value.0) t.value.1 c.value x.value.1 (after_sign-sound Colon t.value.1 c.value c.first) body.spelled))));
        is_proper = (binds.all_proper, binds.some, triggers.1, body.is_proper);
        allows = allowed_base packs x.value.0 (SpecQuantified quantifier span (binds_of b.value.0) (triggers_of t.value.0) x.value.0) (λ h. h) body.allows;
        above = λ h. absurd (omega (arith, h));
      })

  -- ---- `if`

  condition_at-sound : (ts : List Token) (r : SpecExpressionData × List Token) → condition_at (inner true 0) ts ≡ Some r → Begins (sign LeftParenthesis ∷ (spec_spelling r.0 ++ sign RightParenthesis ∷ [])) ts r.1 × IsProperSpec r.0
  unfolding condition_at
  condition_at-sound ts r e =
      let o = step (after_sign LeftParenthesis ts) _ r e in
      let x = step (inner true 0 o.value) _ r o.then in
      let c = last (after_sign RightParenthesis x.value.1) (λ rest. (x.value.0, rest)) r x.then in
      let read = item_sound o.value x.value x.first in
      subst (λ q. Begins (sign LeftParenthesis ∷ (spec_spelling q.0 ++ sign RightParenthesis ∷ [])) ts q.1 × IsProperSpec q.0) c.then (
        Begins-append (sign LeftParenthesis ∷ []) (spec_spelling x.value.0 ++ sign RightParenthesis ∷ []) ts o.value c.value (after_sign-sound LeftParenthesis ts o.value o.first)
            (Begins-append (spec_spelling x.value.0) (sign RightParenthesis ∷ []) o.value x.value.1 c.value read.0 (after_sign-sound RightParenthesis x.value.1 c.value c.first)),
        read.1,
      )

  if_at-sound : (packs : Bool) (span : Span) (whole ts : List Token) (r : SpecExpressionData × List Token) → Begins (word (codes "if") (Some span) ∷ []) whole ts → if_at inner packs span ts ≡ Some r → ReadSpec packs 0 whole r
  unfolding if_at
  if_at-sound packs span whole ts r front e =
      let c = step (condition_at (inner true 0) ts) _ r e in
      let t = step (inner packs 0 c.value.1) _ r c.then in
      let w = step (after_word (codes "else") t.value.1) _ r t.then in
      let x = last (inner packs 0 w.value) _ r w.then in
      let condition = condition_at-sound ts c.value c.first in
      let chosen = sound packs 0 c.value.1 t.value (omega arith) t.first in
      let other = sound packs 0 w.value x.value (omega arith) x.first in
      subst (ReadSpec packs 0 whole) x.then (record {
        spelled = Begins-append (word (codes "if") (Some span) ∷ []) (behind_if c.value.0 t.value.0 x.value.0) whole ts x.value.1 front
            (if_spelled c.value.0 t.value.0 x.value.0 ts c.value.1 t.value.1 w.value x.value.1 condition.0 chosen.spelled (after_word-sound (codes "else") t.value.1 w.value w.first) other.spelled);
        is_proper = (condition.1, chosen.is_proper, other.is_proper);
        allows = allowed_both packs span c.value.0 t.value.0 x.value.0 chosen.allows other.allows;
        above = λ h. absurd (omega (arith, h));
      })

  -- ---- all forms

  loose_at-sound : (packs : Bool) (ts : List Token) (r : SpecExpressionData × List Token) → loose_at types inner packs ts ≡ Some r → ReadSpec packs 0 ts r
  unfolding loose_at
  loose_at-sound packs ts r e =
      elim (either (quantifier_at ts) _ _ r e) [
        | inl s ↦ quantified_at-sound packs s.value.0.0 s.value.0.1 ts s.value.1 r (quantifier_at-sound ts s.value s.first) s.then
        | inr n ↦ elim (either (word_span_at (codes "if") ts) _ _ r n.1) [
          | inl s ↦ if_at-sound packs s.value.0 ts s.value.1 r (word_span_at-sound (codes "if") ts s.value s.first) s.then
          | inr m ↦ operated_at-sound packs 0 ts r (omega arith) m.1
        ]
      ]

  spec_form-sound : SoundReader (spec_form types inner)
  unfolding spec_form
  spec_form-sound packs minimum ts r h e =
      elim (either_read (minimum == 0) _ _ r e) [
        | inl c ↦ subst (λ m. ReadSpec packs m ts r) (sym (eqb-true minimum 0 c.0)) (loose_at-sound packs ts r c.1)
        | inr c ↦ operated_at-sound packs minimum ts r h c.1
      ]

-- A spec expression that is read is proper, and the tokens before the remaining ones spell it.
pub spec_at-sound : (n : ℕ) → SoundReader (spec_at n)
unfolding spec_at
spec_at-sound zero packs minimum ts r h e = absurd (cc)
spec_at-sound (suc n) packs minimum ts r h e = spec_form-sound (type_at n) (type_at-sound n) (spec_at n) (spec_at-sound n) packs minimum ts r h e
