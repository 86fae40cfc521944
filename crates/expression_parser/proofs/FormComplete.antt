-- Each proper spec expression is read.
use Rattle.std.proofs.Common.{◌≡◌, ℕ, zero, suc, ◌<◌, ◌≤◌, Bool, true, false, cond, ◌||◌, ◌==◌, ◌⊎◌, inl, inr, List, [], ◌∷◌, ◌++◌, Some, None, length, refl, sym, ap, subst, ◌∙◌, arith, append_assoc, append-nil}
use Rattle.std.specs.Prelude.{codes, is_some}
use Rattle.std.specs.Option.{option_map}
use Rattle.std.proofs.lemmas.Bool.{ne_eqb}
use Rattle.base.specs.declared.span.Span.{Span}
use Rattle.tokens.specs.declared.token.Token.{Token}
use Rattle.tokens.specs.declared.token.Punctuation.{Punctuation as Sign}
use Rattle.tokens.specs.declared.token.Punctuation.TheVariants.{LeftParenthesis, RightParenthesis, LeftBrace, RightBrace, Comma, Colon, ColonColon, Less}
use Rattle.syntax_tree.specs.declared.lexeme.Lexeme.{Lexeme}
use Rattle.syntax_tree.specs.Lexemes.{word, sign, identifier, comma_list}
use Rattle.syntax_tree.specs.TypeTreeData.{SourceTypeData}
use Rattle.syntax_tree.specs.TypeSpelling.{type_spelling}
use Rattle.syntax_tree.specs.declared.spec_expression.operator.Quantifier.{Quantifier}
use Rattle.syntax_tree.specs.declared.spec_expression.operator.Quantifier.TheVariants.{ForAll, Exists}
use Rattle.syntax_tree.specs.SpecOperatorSpelling.{quantifier_spelling}
use Rattle.syntax_tree.specs.SpecExpressionData.{SpecExpressionData, SpecBinary, SpecQuantified, SpecIf, SpecNot, SpecField, SpecIndex, SpecLiteral, SpecPath, SpecCall, SpecPack, SpecParenthesized, BindData, TypedBind, RangeBind, TriggerData, TriggerOf, SpecExpressionsData, NoSpecExpressions, MoreSpecExpressions, BindsData, NoBinds, MoreBinds, TriggersData, NoTriggers, MoreTriggers, spec_expressions_of, list_of_spec_expressions, binds_of, list_of_binds, triggers_of, list_of_triggers}
use Rattle.syntax_tree.specs.SpecExpressionSpelling.{spec_spelling, spec_spellings, bind_spelling, bind_spellings, triggers_spelling}
use Rattle.syntax_tree.specs.ProperSpecExpressions.{level, AreSomeBinds, IsProperSpec, IsProperBind, AreProperBinds, IsProperTrigger, AreProperTriggers}
use Rattle.parser_base.specs.Beginnings.{Begins}
use Rattle.parser_base.specs.TokenReading.{Read, is_sign, is_keyword, after_sign, after_word, word_span_at, identifier_at}
use Rattle.parser_base.specs.ListReading.{some_items_at}
use Rattle.parser_base.proofs.Steps.{bind_some, map_some, map_or_none, map_or_some, cond_false}
use Rattle.parser_base.proofs.BeginLemmas.{Begins-split, Begins-first, Begins-same, length-Begins}
use Rattle.parser_base.proofs.TokenLemmas.{after_sign-complete, after_sign-other, after_word-complete, word_span_at-complete, identifier_at-complete}
use Rattle.parser_base.proofs.ListLemmas.{some_items_at-complete, items_at-complete}
use Rattle.parser_base.specs.TypeReading.{type_at}
use Rattle.parser_base.proofs.TypeLemmas.{TypeEnds, ReadsBackTypes, type_at-complete}
use Rattle.expression_parser.specs.RepeatReading.{repeat_at, whole_repeat_at}
use Rattle.expression_parser.specs.LeafReading.{opens_bind, quantifier_at}
use Rattle.expression_parser.specs.SpecReading.{Reader, operated_at, bind_at, binds_end, binds_at, trigger_at, has_trigger, quantified_at, condition_at, if_at, loose_at, spec_form, spec_at}
use Rattle.expression_parser.proofs.RepeatLemmas.{repeat_at-turn, repeat_at-end}
use Rattle.expression_parser.proofs.OperatorLemmas.{level_is_some}
use Rattle.expression_parser.proofs.LeafLemmas.{opens_bind-other, opens_bind-typed, opens_bind-ranged, quantifier_at-complete, quantifier_at-other}
use Rattle.expression_parser.proofs.SpecLists.{specs_spelled_from, each_proper_spec, listed_specs, binds_spelled_from, each_proper_bind, listed_binds, listed_triggers}
use Rattle.expression_parser.proofs.ShapeLemmas.{not_loose, nothing_spells, spec_no_sign, spec_alone, three_behind}
use Rattle.expression_parser.proofs.JoinLemmas.{Allowed}
use Rattle.expression_parser.proofs.TermSound.{allowed_base}
use Rattle.expression_parser.proofs.FormSound.{behind_if, if_grouped}
use Rattle.expression_parser.proofs.SpecTermComplete.{SpecEnds, EndingSign, ReadsBackSpecs, sign_ends, word_ends}
use Rattle.expression_parser.proofs.OperandComplete.{Follows, ends_follow, ReadsBack, operated_at-complete}

-- ---- where binds end

-- a sign that ends binds is here
record BindsEnd (ts rest : List Token) : Type 0 where
  pub same : ts ≡ rest
  pub first : Sign
  pub others : List Lexeme
  pub last : List Token
  pub begins : Begins (sign first ∷ others) ts last
  pub ending : (first ≡ LeftBrace) ⊎ (first ≡ Colon)

binds_end-other : (l : Lexeme) (ls : List Lexeme) (ts rest : List Token) → is_sign LeftBrace l.kind ≡ false → is_sign Colon l.kind ≡ false → Begins (l ∷ ls) ts rest → binds_end ts ≡ None
unfolding binds_end
binds_end-other l ls ts rest a c b =
    ap (λ o. cond (is_some {T = List Token} o || is_some (after_sign Colon ts)) (Some ts) None) (after_sign-other LeftBrace l ls ts rest a b) ∙ ap (λ o. cond (is_some {T = List Token} o) (Some ts) None) (after_sign-other Colon l ls ts rest c b)

binds_end-complete : (ts rest : List Token) → BindsEnd ts rest → binds_end ts ≡ Some rest
unfolding binds_end
binds_end-complete ts rest d = stands d.first d.ending d.begins ∙ ap Some d.same
  where
    stands : (s : Sign) → (s ≡ LeftBrace) ⊎ (s ≡ Colon) → Begins (sign s ∷ d.others) ts d.last → cond (is_some (after_sign LeftBrace ts) || is_some (after_sign Colon ts)) (Some ts) None ≡ Some ts
    stands s (inl e) b =
        let f = Begins-first (sign LeftBrace) d.others ts d.last (subst (λ s. Begins (sign s ∷ d.others) ts d.last) e b) in
        ap (λ o. cond (is_some {T = List Token} o || is_some (after_sign Colon ts)) (Some ts) None) (after_sign-complete LeftBrace ts f.mid f.front)
    stands s (inr e) b =
        let c = subst (λ s. Begins (sign s ∷ d.others) ts d.last) e b in
        let f = Begins-first (sign Colon) d.others ts d.last c in
        ap (λ o. cond (is_some {T = List Token} o || is_some (after_sign Colon ts)) (Some ts) None) (after_sign-other LeftBrace (sign Colon) d.others ts d.last refl c)
        ∙ ap (λ o. cond (is_some {T = List Token} o) (Some ts) None) (after_sign-complete Colon ts f.mid f.front)

-- no token after a bind belongs to it
abbrev BindEnds : List Token → Type 0
BindEnds rest = SpecEnds false rest × TypeEnds rest

sign_ends_bind : (s : Sign) → EndingSign false s → (ls : List Lexeme) (ts rest : List Token) → Begins (sign s ∷ ls) ts rest → BindEnds ts
sign_ends_bind s n ls ts rest b = (sign_ends false s n ls ts rest b, (after_sign-other ColonColon (sign s) ls ts rest n.0 b, after_sign-other Less (sign s) ls ts rest n.3 b))

end_ends_bind : (ts rest : List Token) → BindsEnd ts rest → BindEnds ts
end_ends_bind ts rest d = go d.first d.ending d.begins
  where
    go : (s : Sign) → (s ≡ LeftBrace) ⊎ (s ≡ Colon) → Begins (sign s ∷ d.others) ts d.last → BindEnds ts
    go s (inl e) b = sign_ends_bind LeftBrace (refl, refl, λ h. absurd (cc), refl, refl, refl, refl) d.others ts d.last (subst (λ s. Begins (sign s ∷ d.others) ts d.last) e b)
    go s (inr e) b = sign_ends_bind Colon (refl, refl, λ h. refl, refl, refl, refl, refl) d.others ts d.last (subst (λ s. Begins (sign s ∷ d.others) ts d.last) e b)

bind_no_end : (x : BindData) (ts rest : List Token) → Begins (bind_spelling x) ts rest → IsProperBind x → binds_end ts ≡ None
bind_no_end (TypedBind name t) ts rest b p = binds_end-other (identifier name) (sign Colon ∷ type_spelling t) ts rest refl refl b
bind_no_end (RangeBind name range) ts rest b p = binds_end-other (identifier name) (word (codes "in") None ∷ spec_spelling range) ts rest refl refl b

quantifier_length : (quantifier : Quantifier) (span : Span) → 0 < length (quantifier_spelling quantifier span)
quantifier_length ForAll span = omega arith
quantifier_length Exists span = omega arith

-- the word of a quantifier before a bind
binds_open : (binds : BindsData) (ls : List Lexeme) (ts rest : List Token) → AreProperBinds binds → AreSomeBinds binds → Begins (comma_list (bind_spellings binds) false ++ ls) ts rest → opens_bind ts ≡ true
binds_open NoBinds ls ts rest p f b = absurd f
binds_open (MoreBinds (TypedBind name t) more) ls ts rest p f b = opens_bind-typed name _ ts rest p.0.0 b
binds_open (MoreBinds (RangeBind name range) more) ls ts rest p f b = opens_bind-ranged name _ ts rest p.0.0 b

else_opens_no_bind : (ls : List Lexeme) (ts rest : List Token) → Begins (word (codes "else") None ∷ ls) ts rest → opens_bind ts ≡ false
unfolding is_keyword
else_opens_no_bind ls ts rest b = opens_bind-other (word (codes "else") None) ls ts rest refl b

has_trigger-other : (l : Lexeme) (ls : List Lexeme) (ts rest : List Token) → is_sign LeftBrace l.kind ≡ false → Begins (l ∷ ls) ts rest → has_trigger ts ≡ false
unfolding has_trigger
has_trigger-other l ls ts rest e b = ap (λ o. is_some {T = List Token} o) (after_sign-other LeftBrace l ls ts rest e b)

has_trigger-brace : (ts rest : List Token) → Begins (sign LeftBrace ∷ []) ts rest → has_trigger ts ≡ true
unfolding has_trigger
has_trigger-brace ts rest b = ap (λ o. is_some {T = List Token} o) (after_sign-complete LeftBrace ts rest b)

abbrev trigger_inside : SpecExpressionsData → Bool → List Lexeme
trigger_inside items last = comma_list (spec_spellings items) last ++ sign RightBrace ∷ []

-- triggers or the body follow binds
triggers_end_binds : (triggers : TriggersData) (ls : List Lexeme) (ts rest : List Token) → Begins (triggers_spelling triggers ++ sign Colon ∷ ls) ts rest → BindsEnd ts ts
triggers_end_binds NoTriggers ls ts rest b = record { same = refl; first = Colon; others = ls; last = rest; begins = b; ending = inr refl }
triggers_end_binds (MoreTriggers (TriggerOf items last) more) ls ts rest b =
    record { same = refl; first = LeftBrace; others = (trigger_inside items last ++ triggers_spelling more) ++ sign Colon ∷ ls; last = rest; begins = b; ending = inl refl }

module _ (bound : ℕ) (types : List Token → Read SourceTypeData) (types_complete : ReadsBackTypes bound types) (inner : Bool → ℕ → Reader) (complete : ReadsBack bound inner) where
  item : ReadsBackSpecs bound (inner true 0)
  item e ts rest h b p d = complete.loose true e ts rest h b p tt d

  -- ---- quantifiers

  bind_at-complete : (x : BindData) (ts rest : List Token) → length ts ≤ bound → Begins (bind_spelling x) ts rest → IsProperBind x → BindEnds rest → bind_at types (inner false 0) ts ≡ Some (x, rest)
  unfolding bind_at
  bind_at-complete (TypedBind name t) ts rest h b p d =
      let n = Begins-first (identifier name) (sign Colon ∷ type_spelling t) ts rest b in
      let c = Begins-first (sign Colon) (type_spelling t) n.mid rest n.back in
      bind_some (identifier_at ts) _ (name, n.mid) (identifier_at-complete name ts n.mid n.front p.0)
      ∙ map_or_some (after_sign Colon n.mid) _ _ c.mid (after_sign-complete Colon n.mid c.mid c.front)
      ∙ map_some (types c.mid) (λ t. (TypedBind name t.0, t.1)) (t, rest)
      (types_complete t c.mid rest (omega (arith, h, length-Begins (identifier name ∷ []) ts n.mid n.front, length-Begins (sign Colon ∷ []) n.mid c.mid c.front)) c.back p.1 d.1)
  bind_at-complete (RangeBind name range) ts rest h b p d =
      let n = Begins-first (identifier name) (word (codes "in") None ∷ spec_spelling range) ts rest b in
      let c = Begins-first (word (codes "in") None) (spec_spelling range) n.mid rest n.back in
      bind_some (identifier_at ts) _ (name, n.mid) (identifier_at-complete name ts n.mid n.front p.0)
      ∙ map_or_none (after_sign Colon n.mid) _ _ (after_sign-other Colon (word (codes "in") None) (spec_spelling range) n.mid rest refl n.back)
      ∙ bind_some (after_word (codes "in") n.mid) _ c.mid (after_word-complete (codes "in") n.mid c.mid c.front)
      ∙ map_some (inner false 0 c.mid) (λ r. (RangeBind name r.0, r.1)) (range, rest)
      (complete.loose false range c.mid rest (omega (arith, h, length-Begins (identifier name ∷ []) ts n.mid n.front, length-Begins (word (codes "in") None ∷ []) n.mid c.mid c.front)) c.back p.1 p.2 d.0)

  some_binds : (binds : BindsData) (ts mid : List Token) → length ts ≤ bound → Begins (comma_list (bind_spellings binds) false) ts mid → BindsEnd mid mid → AreProperBinds binds → AreSomeBinds binds
      → some_items_at binds_end (bind_at types (inner false 0)) ts ≡ Some ((list_of_binds binds, false), mid)
  some_binds NoBinds ts mid h b d p f = absurd f
  some_binds (MoreBinds x xs) ts mid h b d p f =
      items_at-complete binds_end (bind_at types (inner false 0)) bind_spelling IsProperBind BindsEnd BindEnds bound bind_at-complete bind_no_end binds_end-complete
      (λ ts rest d. omega (arith, length-Begins (sign d.first ∷ d.others) ts d.last d.begins)) end_ends_bind
      (λ ts rest c. sign_ends_bind Comma (refl, refl, λ h. refl, refl, refl, refl, refl) [] ts rest c) (λ ts rest c. binds_end-other (sign Comma) [] ts rest refl refl c)
      (length ts) x (list_of_binds xs) false ts mid mid (omega arith) h
      (subst (λ ls. Begins (comma_list (bind_spelling x ∷ ls) false) ts mid) (binds_spelled_from xs) b) d (p.0, each_proper_bind xs p.1)

  binds_at-complete : (binds : BindsData) (ts mid : List Token) → length ts ≤ bound → Begins (comma_list (bind_spellings binds) false) ts mid → BindsEnd mid mid → AreProperBinds binds → AreSomeBinds binds
      → binds_at types (inner false 0) ts ≡ Some (list_of_binds binds, mid)
  unfolding binds_at
  binds_at-complete binds ts mid h b d p f =
      bind_some (some_items_at binds_end (bind_at types (inner false 0)) ts) (λ r. cond r.0.1 None (Some (r.0.0, r.1))) ((list_of_binds binds, false), mid) (some_binds binds ts mid h b d p f)

  trigger_at-complete : (before : List TriggerData) (items : SpecExpressionsData) (last : Bool) (ts rest : List Token) → length ts ≤ bound → Begins (sign LeftBrace ∷ trigger_inside items last) ts rest → IsProperTrigger (TriggerOf items last)
      → trigger_at (inner true 0) before ts ≡ Some (before ++ TriggerOf items last ∷ [], rest)
  unfolding trigger_at
  trigger_at-complete before NoSpecExpressions last ts rest h b p = absurd p.1
  trigger_at-complete before (MoreSpecExpressions x xs) last ts rest h b p =
      let o = Begins-first (sign LeftBrace) (trigger_inside (MoreSpecExpressions x xs) last) ts rest b in
      bind_some (after_sign LeftBrace ts) _ o.mid (after_sign-complete LeftBrace ts o.mid o.front)
      ∙ map_some (some_items_at (after_sign RightBrace) (inner true 0) o.mid) (λ r. (before ++ TriggerOf (spec_expressions_of r.0.0) r.0.1 ∷ [], r.1)) ((x ∷ list_of_spec_expressions xs, last), rest)
      (some_items_at-complete RightBrace (inner true 0) spec_spelling IsProperSpec (SpecEnds true) bound item
      (λ e ts rest b p. spec_no_sign RightBrace (refl, refl, refl) e [] ts rest (spec_alone e ts rest b) p)
      (λ ts rest b. sign_ends true RightBrace (refl, refl, λ h. refl, refl, refl, refl, refl) [] ts rest b) (λ ts rest b. sign_ends true Comma (refl, refl, λ h. refl, refl, refl, refl, refl) [] ts rest b) refl
      x (list_of_spec_expressions xs) last o.mid rest (omega (arith, h, length-Begins (sign LeftBrace ∷ []) ts o.mid o.front))
      (subst (λ ls. Begins (comma_list (spec_spelling x ∷ ls) last ++ sign RightBrace ∷ []) o.mid rest) (specs_spelled_from xs) o.back)
      (p.0.0, each_proper_spec xs p.0.1))
      ∙ ap (λ ys. Some (before ++ TriggerOf (MoreSpecExpressions x ys) last ∷ [], rest)) (listed_specs xs)

  triggers_at-complete : (triggers : TriggersData) (n : ℕ) (before : List TriggerData) (ts rest : List Token) → length ts ≤ bound → length ts < n → Begins (triggers_spelling triggers) ts rest → AreProperTriggers triggers → has_trigger rest ≡ false
      → repeat_at has_trigger (trigger_at (inner true 0)) n before ts ≡ Some (before ++ list_of_triggers triggers, rest)
  triggers_at-complete kept zero before ts rest h k b p e = absurd (omega (arith, k))
  triggers_at-complete NoTriggers (suc n) before ts rest h k b p e =
      repeat_at-end has_trigger (trigger_at (inner true 0)) n before ts (ap has_trigger b ∙ e) ∙ ap (λ us. Some (before, us)) b ∙ ap (λ xs. Some (xs, rest)) (sym (append-nil before))
  triggers_at-complete (MoreTriggers (TriggerOf items last) more) (suc n) before ts rest h k b p e =
      let s = Begins-split (sign LeftBrace ∷ trigger_inside items last) (triggers_spelling more) ts rest b in
      let o = Begins-first (sign LeftBrace) (trigger_inside items last) ts s.mid s.front in
      let shorter : length s.mid < length ts = omega (arith, length-Begins (sign LeftBrace ∷ trigger_inside items last) ts s.mid s.front) in
      repeat_at-turn has_trigger (trigger_at (inner true 0)) n before ts (before ++ TriggerOf items last ∷ [], s.mid) (has_trigger-brace ts o.mid o.front) (trigger_at-complete before items last ts s.mid h s.front p.0)
      ∙ triggers_at-complete more n (before ++ TriggerOf items last ∷ []) s.mid rest (omega (arith, shorter, h)) (omega (arith, shorter, k)) s.back p.1 e
      ∙ ap (λ xs. Some (xs, rest)) (append_assoc before (TriggerOf items last ∷ []) (list_of_triggers more))

  quantified_at-complete : (packs : Bool) (quantifier : Quantifier) (span : Span) (binds : BindsData) (kept : TriggersData) (body : SpecExpressionData) (ts rest : List Token) → length ts ≤ bound
      → Begins (comma_list (bind_spellings binds) false ++ (triggers_spelling kept ++ sign Colon ∷ spec_spelling body)) ts rest → IsProperSpec (SpecQuantified quantifier span binds kept body) → Allowed packs body → SpecEnds packs rest
      → quantified_at types inner packs quantifier span ts ≡ Some (SpecQuantified quantifier span binds kept body, rest)
  unfolding quantified_at
  quantified_at-complete packs quantifier span binds kept body ts rest h b p a d =
      let s = Begins-split (comma_list (bind_spellings binds) false) (triggers_spelling kept ++ sign Colon ∷ spec_spelling body) ts rest b in
      let t = Begins-split (triggers_spelling kept) (sign Colon ∷ spec_spelling body) s.mid rest s.back in
      let c = Begins-first (sign Colon) (spec_spelling body) t.mid rest t.back in
      let behind_binds : length s.mid ≤ bound = omega (arith, h, length-Begins (comma_list (bind_spellings binds) false) ts s.mid s.front) in
      bind_some (binds_at types (inner false 0) ts) _ (list_of_binds binds, s.mid) (binds_at-complete binds ts s.mid h s.front (triggers_end_binds kept (spec_spelling body) s.mid rest s.back) p.0 p.1)
      ∙ bind_some (whole_repeat_at has_trigger (trigger_at (inner true 0)) [] s.mid) _ (list_of_triggers kept, t.mid)
      (triggers_at-complete kept (suc (length s.mid)) [] s.mid t.mid behind_binds (omega arith) t.front p.2 (has_trigger-other (sign Colon) (spec_spelling body) t.mid rest refl t.back))
      ∙ bind_some (after_sign Colon t.mid) _ c.mid (after_sign-complete Colon t.mid c.mid c.front)
      ∙ map_some (inner packs 0 c.mid) (λ body. (SpecQuantified quantifier span (binds_of (list_of_binds binds)) (triggers_of (list_of_triggers kept)) body.0, body.1)) (body, rest)
      (complete.loose packs body c.mid rest (omega (arith, behind_binds, length-Begins (triggers_spelling kept) s.mid t.mid t.front, length-Begins (sign Colon ∷ []) t.mid c.mid c.front)) c.back p.3 a d)
      ∙ ap (λ xs. Some (SpecQuantified quantifier span xs (triggers_of (list_of_triggers kept)) body, rest)) (listed_binds binds) ∙ ap (λ xs. Some (SpecQuantified quantifier span binds xs body, rest)) (listed_triggers kept)

  -- ---- `if`

  condition_at-complete : (e : SpecExpressionData) (ts rest : List Token) → length ts ≤ bound → Begins (sign LeftParenthesis ∷ (spec_spelling e ++ sign RightParenthesis ∷ [])) ts rest → IsProperSpec e → condition_at (inner true 0) ts ≡ Some (e, rest)
  unfolding condition_at
  condition_at-complete e ts rest h b p =
      let o = Begins-first (sign LeftParenthesis) (spec_spelling e ++ sign RightParenthesis ∷ []) ts rest b in
      let i = Begins-split (spec_spelling e) (sign RightParenthesis ∷ []) o.mid rest o.back in
      bind_some (after_sign LeftParenthesis ts) _ o.mid (after_sign-complete LeftParenthesis ts o.mid o.front)
      ∙ bind_some (inner true 0 o.mid) (λ e. option_map (λ rest. (e.0, rest)) (after_sign RightParenthesis e.1)) (e, i.mid)
      (item e o.mid i.mid (omega (arith, h, length-Begins (sign LeftParenthesis ∷ []) ts o.mid o.front)) i.front p (sign_ends true RightParenthesis (refl, refl, λ h. refl, refl, refl, refl, refl) [] i.mid rest i.back))
      ∙ map_some (after_sign RightParenthesis i.mid) (λ rest. (e, rest)) rest (after_sign-complete RightParenthesis i.mid rest i.back)

  if_at-complete : (packs : Bool) (span : Span) (condition chosen other : SpecExpressionData) (ts rest : List Token) → length ts ≤ bound → Begins (behind_if condition chosen other) ts rest
      → IsProperSpec (SpecIf span condition chosen other) → Allowed packs chosen → Allowed packs other → SpecEnds packs rest → if_at inner packs span ts ≡ Some (SpecIf span condition chosen other, rest)
  unfolding if_at
  if_at-complete packs span condition chosen other ts rest h b p a c d =
      let s = Begins-split (sign LeftParenthesis ∷ (spec_spelling condition ++ sign RightParenthesis ∷ [])) (spec_spelling chosen ++ word (codes "else") None ∷ spec_spelling other) ts rest
      (Begins-same _ _ ts rest (sym (if_grouped (spec_spelling condition) (spec_spelling chosen) (spec_spelling other))) b) in
      let t = Begins-split (spec_spelling chosen) (word (codes "else") None ∷ spec_spelling other) s.mid rest s.back in
      let w = Begins-first (word (codes "else") None) (spec_spelling other) t.mid rest t.back in
      let behind_condition : length s.mid ≤ bound = omega (arith, h, length-Begins (sign LeftParenthesis ∷ (spec_spelling condition ++ sign RightParenthesis ∷ [])) ts s.mid s.front) in
      bind_some (condition_at (inner true 0) ts) _ (condition, s.mid) (condition_at-complete condition ts s.mid h s.front p.0)
      ∙ bind_some (inner packs 0 s.mid) _ (chosen, t.mid)
      (complete.loose packs chosen s.mid t.mid behind_condition t.front p.1 a (word_ends packs (codes "else") None (spec_spelling other) t.mid rest t.back (else_opens_no_bind (spec_spelling other) t.mid rest t.back)))
      ∙ bind_some (after_word (codes "else") t.mid) _ w.mid (after_word-complete (codes "else") t.mid w.mid w.front)
      ∙ map_some (inner packs 0 w.mid) (λ other. (SpecIf span condition chosen other.0, other.1)) (other, rest)
      (complete.loose packs other w.mid rest (omega (arith, behind_condition, length-Begins (spec_spelling chosen) s.mid t.mid t.front, length-Begins (word (codes "else") None ∷ []) t.mid w.mid w.front)) w.back p.2 c d)

  -- ---- all forms

  allowed_chosen : (packs : Bool) (span : Span) (c t e : SpecExpressionData) → Allowed packs (SpecIf span c t e) → Allowed packs t × Allowed packs e
  allowed_chosen true span c t e a = (tt, tt)
  allowed_chosen false span c t e a = a

  operated : (packs : Bool) (e : SpecExpressionData) (ts rest : List Token) → length ts ≤ suc bound → Begins (spec_spelling e) ts rest → IsProperSpec e → Allowed packs e → 1 ≤ level e → SpecEnds packs rest → loose_at types inner packs ts ≡ Some (e, rest)
  unfolding loose_at
  operated packs e ts rest h b p a l d =
      let n = not_loose e ts rest b p l d.no_bind in
      map_or_none (quantifier_at ts) _ _ n.no_quantifier ∙ map_or_none (word_span_at (codes "if") ts) _ _ n.no_if
      ∙ operated_at-complete bound types types_complete inner complete packs 0 e ts rest h b p a l (omega arith) (ends_follow packs 0 e rest d)

  loose_at-complete : (packs : Bool) (e : SpecExpressionData) (ts rest : List Token) → length ts ≤ suc bound → Begins (spec_spelling e) ts rest → IsProperSpec e → Allowed packs e → SpecEnds packs rest → loose_at types inner packs ts ≡ Some (e, rest)
  unfolding loose_at
  loose_at-complete packs (SpecQuantified quantifier span binds kept body) ts rest h b p a d =
      let behind = triggers_spelling kept ++ sign Colon ∷ spec_spelling body in
      let q = Begins-split (quantifier_spelling quantifier span) (comma_list (bind_spellings binds) false ++ behind) ts rest
      (Begins-same _ _ ts rest (three_behind (quantifier_spelling quantifier span) (comma_list (bind_spellings binds) false) (triggers_spelling kept) (sign Colon ∷ spec_spelling body)) b) in
      map_or_some (quantifier_at ts) (λ q. quantified_at types inner packs q.0.0 q.0.1 q.1) _ ((quantifier, span), q.mid) (quantifier_at-complete quantifier span ts q.mid q.front (binds_open binds behind q.mid rest p.0 p.1 q.back))
      ∙ quantified_at-complete packs quantifier span binds kept body q.mid rest (omega (arith, h, length-Begins (quantifier_spelling quantifier span) ts q.mid q.front, quantifier_length quantifier span)) q.back p
      (allowed_base packs (SpecQuantified quantifier span binds kept body) body (λ h. h) a) d
  loose_at-complete packs (SpecIf span condition chosen other) ts rest h b p a d =
      let w = Begins-first (word (codes "if") (Some span)) (behind_if condition chosen other) ts rest b in
      let c = allowed_chosen packs span condition chosen other a in
      map_or_none (quantifier_at ts) (λ q. quantified_at types inner packs q.0.0 q.0.1 q.1) _ (quantifier_at-other (word (codes "if") (Some span)) (behind_if condition chosen other) ts rest refl refl b)
      ∙ map_or_some (word_span_at (codes "if") ts) (λ p. if_at inner packs p.0 p.1) _ (span, w.mid) (word_span_at-complete (codes "if") span ts w.mid w.front)
      ∙ if_at-complete packs span condition chosen other w.mid rest (omega (arith, h, length-Begins (word (codes "if") (Some span) ∷ []) ts w.mid w.front)) w.back p c.0 c.1 d
  loose_at-complete packs (SpecBinary left operator span right) ts rest h b p a d = operated packs (SpecBinary left operator span right) ts rest h b p a (level_is_some operator).0 d
  loose_at-complete packs (SpecNot span negated) ts rest h b p a d = operated packs (SpecNot span negated) ts rest h b p a (omega arith) d
  loose_at-complete packs (SpecField base field) ts rest h b p a d = operated packs (SpecField base field) ts rest h b p a (omega arith) d
  loose_at-complete packs (SpecIndex base index) ts rest h b p a d = operated packs (SpecIndex base index) ts rest h b p a (omega arith) d
  loose_at-complete packs (SpecLiteral literal) ts rest h b p a d = operated packs (SpecLiteral literal) ts rest h b p a (omega arith) d
  loose_at-complete packs (SpecPath path) ts rest h b p a d = operated packs (SpecPath path) ts rest h b p a (omega arith) d
  loose_at-complete packs (SpecCall function type_arguments values last) ts rest h b p a d = operated packs (SpecCall function type_arguments values last) ts rest h b p a (omega arith) d
  loose_at-complete packs (SpecPack path type_arguments fields last) ts rest h b p a d = operated packs (SpecPack path type_arguments fields last) ts rest h b p a (omega arith) d
  loose_at-complete packs (SpecParenthesized span inside) ts rest h b p a d = operated packs (SpecParenthesized span inside) ts rest h b p a (omega arith) d

  tight_form : (packs : Bool) (minimum : ℕ) (e : SpecExpressionData) (ts rest : List Token) → length ts ≤ suc bound → Begins (spec_spelling e) ts rest → IsProperSpec e → Allowed packs e → 1 ≤ minimum → minimum ≤ level e → Follows packs minimum e rest
      → spec_form types inner packs minimum ts ≡ Some (e, rest)
  unfolding spec_form
  tight_form packs minimum e ts rest h b p a l m d =
      cond_false (minimum == 0) (loose_at types inner packs ts) (operated_at types inner packs minimum ts) (ne_eqb minimum 0 (λ e. absurd (omega (arith, l, e))))
      ∙ operated_at-complete bound types types_complete inner complete packs minimum e ts rest h b p a (omega (arith, l, m)) m d

  loose_form : (packs : Bool) (e : SpecExpressionData) (ts rest : List Token) → length ts ≤ suc bound → Begins (spec_spelling e) ts rest → IsProperSpec e → Allowed packs e → SpecEnds packs rest → spec_form types inner packs 0 ts ≡ Some (e, rest)
  unfolding spec_form
  loose_form packs e ts rest h b p a d = loose_at-complete packs e ts rest h b p a d

  spec_form-complete : ReadsBack (suc bound) (spec_form types inner)
  spec_form-complete = record { loose = loose_form; tight = tight_form }

no_tokens : {A : Type 0} (e : SpecExpressionData) (ts rest : List Token) → length ts ≤ 0 → Begins (spec_spelling e) ts rest → IsProperSpec e → A
no_tokens e [] rest h b p = absurd (nothing_spells e rest b p)
no_tokens e (t ∷ ts) rest h b p = absurd (omega (arith, h))

read_back : (n : ℕ) → ReadsBack n (spec_at (suc n)) → ReadsBack (suc n) (spec_at (suc (suc n)))
unfolding spec_at
read_back n before = spec_form-complete n (type_at (suc n)) (type_at-complete n) (spec_at (suc n)) before

-- Each proper spec expression is read from the tokens that spell it, if no token after it could belong to it.
pub spec_at-complete : (n : ℕ) → ReadsBack n (spec_at (suc n))
spec_at-complete zero = record { loose = λ packs e ts rest h b p a d. no_tokens e ts rest h b p; tight = λ packs minimum e ts rest h b p a l m d. no_tokens e ts rest h b p }
spec_at-complete (suc n) = read_back n (spec_at-complete n)
