-- Each proper spec expression of operands and operators is read.
use Rattle.std.proofs.Common.{◌≡◌, ℕ, zero, suc, ◌<◌, ◌≤◌, Bool, true, false, cond, ◌||◌, List, [], ◌∷◌, ◌++◌, Option, Some, None, length, refl, sym, ap, subst, ◌∙◌, arith, append-nil}
use Rattle.std.specs.Prelude.{is_some, option_and_then, nat_le}
use Rattle.std.specs.Option.{option_map}
use Rattle.std.proofs.lemmas.Bool.{leb-false, lt-leb}
use Rattle.base.specs.declared.span.Span.{Span}
use Rattle.tokens.specs.declared.token.Token.{Token}
use Rattle.tokens.specs.declared.token.Punctuation.TheVariants.{LeftParenthesis, LeftBrace, LeftBracket, ColonColon, Period, Exclaim}
use Rattle.syntax_tree.specs.Lexemes.{sign_at}
use Rattle.syntax_tree.specs.ProperExpressions.{unary_level, term_level}
use Rattle.syntax_tree.specs.TypeTreeData.{SourceTypeData}
use Rattle.syntax_tree.specs.declared.spec_expression.operator.SpecOperator.{SpecOperator}
use Rattle.syntax_tree.specs.SpecExpressionData.{SpecExpressionData, SpecBinary, SpecQuantified, SpecIf, SpecNot, SpecField, SpecIndex, SpecLiteral, SpecPath, SpecCall, SpecPack, SpecParenthesized}
use Rattle.syntax_tree.specs.SpecOperatorSpelling.{spec_operator_spelling}
use Rattle.syntax_tree.specs.SpecExpressionSpelling.{ends_in_path, spec_spelling}
use Rattle.syntax_tree.specs.ProperSpecExpressions.{level, spec_operator_level, right_level, IsProperSpec}
use Rattle.parser_base.specs.Beginnings.{Begins}
use Rattle.parser_base.specs.TokenReading.{Read, after_sign, sign_span_at}
use Rattle.parser_base.specs.ChainReading.{next_operator, whole_chain_at}
use Rattle.parser_base.proofs.Steps.{bind_some, map_some, map_or_none, map_or_some, cond_false}
use Rattle.parser_base.proofs.BeginLemmas.{Begins-first, Begins-same, length-Begins}
use Rattle.parser_base.proofs.TokenLemmas.{sign_span_at-complete, sign_span_at-none}
use Rattle.parser_base.proofs.ChainLemmas.{Spine, operand as spine_end, joined as spine_joined, Behind, first_of, Fits, walk, chain-complete}
use Rattle.parser_base.proofs.TypeLemmas.{ReadsBackTypes}
use Rattle.expression_parser.specs.RepeatReading.{repeat_at, whole_repeat_at}
use Rattle.expression_parser.specs.OperatorReading.{spec_operator_at, spec_joints}
use Rattle.expression_parser.specs.LeafReading.{has_postfix}
use Rattle.expression_parser.specs.SpecReading.{Reader, term_at, postfix_at, operand_at, operated_at}
use Rattle.expression_parser.proofs.RepeatLemmas.{repeat_at-end}
use Rattle.expression_parser.proofs.OperatorLemmas.{operator_no_sign, operator_not_glued, spec_operator_at-complete, spec_operator_at-none, level_is_some, right_is_some, own_left, own_right}
use Rattle.expression_parser.proofs.ShapeLemmas.{spec_alone}
use Rattle.expression_parser.proofs.JoinLemmas.{Allowed, Proper, Opens, spec_rules}
use Rattle.expression_parser.proofs.TermSound.{allowed_base}
use Rattle.expression_parser.proofs.SpecTermComplete.{TermEnds, SpecEnds, ReadsBackSpecs, term_no_exclaim, Reached, postfix_walk}

-- ---- operators that are too loose

abbrev with_operator : ℕ → Option ((SpecOperator × Span) × List Token) → Read (SpecOperator × Span)
with_operator minimum found = option_and_then (λ o. cond (nat_le minimum (spec_operator_level o.0.0)) (Some (o.0, o.1)) None) found

pub next_none : (minimum : ℕ) (e : SpecExpressionData) (ts : List Token) → spec_operator_at (ends_in_path e) ts ≡ None → next_operator spec_joints minimum e ts ≡ None
unfolding next_operator
next_none minimum e ts n = ap (with_operator minimum) n

next_lower : (minimum : ℕ) (e : SpecExpressionData) (ts : List Token) (q : (SpecOperator × Span) × List Token) → spec_operator_at (ends_in_path e) ts ≡ Some q → spec_operator_level q.0.0 < minimum → next_operator spec_joints minimum e ts ≡ None
unfolding next_operator
next_lower minimum e ts q s l = ap (with_operator minimum) s ∙ cond_false (nat_le minimum (spec_operator_level q.0.0)) (Some (q.0, q.1)) None (lt-leb minimum (spec_operator_level q.0.0) l)

-- if no operator of a level is here, none of a tighter level is
next_higher : (minimum higher : ℕ) (e f : SpecExpressionData) (ts : List Token) → minimum ≤ higher → ends_in_path e ≡ ends_in_path f → next_operator spec_joints minimum e ts ≡ None → next_operator spec_joints higher f ts ≡ None
unfolding next_operator
next_higher minimum higher e f ts h same n = go (spec_operator_at (ends_in_path f) ts) (ap (λ b. with_operator minimum (spec_operator_at b ts)) (sym same) ∙ n)
  where
    pick : (o : (SpecOperator × Span) × List Token) (b : Bool) → nat_le minimum (spec_operator_level o.0.0) ≡ b → ◌≡◌ {A = Read (SpecOperator × Span)} (cond b (Some (o.0, o.1)) None) None → with_operator higher (Some o) ≡ None
    pick o true is n = absurd (cc)
    pick o false is n = cond_false (nat_le higher (spec_operator_level o.0.0)) (Some (o.0, o.1)) None (lt-leb higher (spec_operator_level o.0.0) (omega (arith, h, leb-false minimum (spec_operator_level o.0.0) is)))

    go : (found : Option ((SpecOperator × Span) × List Token)) → with_operator minimum found ≡ None → with_operator higher found ≡ None
    go None n = refl
    go (Some o) n = pick o (nat_le minimum (spec_operator_level o.0.0)) refl n

-- no binary operator is as tight as a unary one
next_unary : (e : SpecExpressionData) (ts : List Token) → next_operator spec_joints unary_level e ts ≡ None
unfolding next_operator
next_unary e ts = go (spec_operator_at (ends_in_path e) ts)
  where
    go : (found : Option ((SpecOperator × Span) × List Token)) → with_operator unary_level found ≡ None
    go None = refl
    go (Some o) = cond_false (nat_le unary_level (spec_operator_level o.0.0)) (Some (o.0, o.1)) None (lt-leb unary_level (spec_operator_level o.0.0) (omega (arith, (level_is_some o.0.0).1)))

-- ---- the tokens that can follow an operand

pub record Follows (packs : Bool) (minimum : ℕ) (e : SpecExpressionData) (rest : List Token) : Type 0 where
  pub ends : TermEnds packs e rest
  pub no_postfix : has_postfix rest ≡ false
  pub no_operator : next_operator spec_joints minimum e rest ≡ None

pub ends_follow : (packs : Bool) (minimum : ℕ) (e : SpecExpressionData) (rest : List Token) → SpecEnds packs rest → Follows packs minimum e rest
ends_follow packs minimum e rest d = record {
  ends = record { no_colons = d.no_colons; no_call = d.no_call; no_pack = d.no_pack; no_arguments = λ h. d.no_arguments };
  no_postfix = d.no_postfix;
  no_operator = next_none minimum e rest (spec_operator_at-none (ends_in_path e) rest d.no_operator);
}

-- the same for the part in which the expression ends
same_end : (packs : Bool) (e f : SpecExpressionData) (rest : List Token) → ends_in_path e ≡ ends_in_path f → TermEnds packs e rest → TermEnds packs f rest
same_end packs e f rest same d = record { no_colons = d.no_colons; no_call = d.no_call; no_pack = d.no_pack; no_arguments = λ h. d.no_arguments (same ∙ h) }

-- an operator is here
operator_ends : (packs : Bool) (e : SpecExpressionData) (o : SpecOperator) (span : Span) (ts rest : List Token) → Begins (spec_operator_spelling o span (ends_in_path e)) ts rest → TermEnds packs e ts × (has_postfix ts ≡ false)
unfolding has_postfix
operator_ends packs e o span ts rest b =
    let whole = Begins-same _ _ ts rest (sym (append-nil (spec_operator_spelling o span (ends_in_path e)))) b in (
      record {
        no_colons = operator_no_sign ColonColon refl o span (ends_in_path e) [] ts rest whole;
        no_call = operator_no_sign LeftParenthesis refl o span (ends_in_path e) [] ts rest whole;
        no_pack = λ h. operator_no_sign LeftBrace refl o span (ends_in_path e) [] ts rest whole;
        no_arguments = λ h. operator_not_glued o span [] ts rest (subst (λ after_path. Begins (spec_operator_spelling o span after_path ++ []) ts rest) h whole);
      },
      ap (λ o. is_some {T = List Token} o || is_some (after_sign LeftBracket ts)) (operator_no_sign Period refl o span (ends_in_path e) [] ts rest whole)
          ∙ ap (λ o. is_some {T = List Token} o) (operator_no_sign LeftBracket refl o span (ends_in_path e) [] ts rest whole),
    )

-- readers that read each proper spec expression: of any level, and operands with operators
pub record ReadsBack (bound : ℕ) (inner : Bool → ℕ → Reader) : Type 0 where
  pub loose : (packs : Bool) (e : SpecExpressionData) (ts rest : List Token) → length ts ≤ bound → Begins (spec_spelling e) ts rest → IsProperSpec e → Allowed packs e → SpecEnds packs rest → inner packs 0 ts ≡ Some (e, rest)
  pub tight : (packs : Bool) (minimum : ℕ) (e : SpecExpressionData) (ts rest : List Token) → length ts ≤ bound → Begins (spec_spelling e) ts rest → IsProperSpec e → Allowed packs e → 1 ≤ minimum → minimum ≤ level e → Follows packs minimum e rest
      → inner packs minimum ts ≡ Some (e, rest)

module _ (bound : ℕ) (types : List Token → Read SourceTypeData) (types_complete : ReadsBackTypes bound types) (inner : Bool → ℕ → Reader) (complete : ReadsBack bound inner) where
  pub item_complete : ReadsBackSpecs bound (inner true 0)
  item_complete e ts rest h b p d = complete.loose true e ts rest h b p tt d

  term_operand : (packs : Bool) (e : SpecExpressionData) (ts rest : List Token) → length ts ≤ suc bound → Begins (spec_spelling e) ts rest → IsProperSpec e → Allowed packs e → term_level ≤ level e → TermEnds packs e rest → has_postfix rest ≡ false
      → operand_at types inner packs ts ≡ Some (e, rest)
  unfolding operand_at
  term_operand packs e ts rest h b p a l d n =
      let w = postfix_walk bound types types_complete (inner true 0) item_complete packs e ts rest h b p a l d in
      map_or_none (sign_span_at Exclaim ts) _ _ (sign_span_at-none Exclaim ts (term_no_exclaim e [] ts rest (spec_alone e ts rest b) p l))
      ∙ bind_some (term_at types (inner true 0) packs ts) (λ base. whole_repeat_at has_postfix (postfix_at (inner true 0)) base.0 base.1) (w.first, w.us) w.read
      ∙ ended (suc (length w.us)) w.first w.us (w.goes (suc (length w.us)) (omega arith))
    where
      last : (k : ℕ) → length rest < k → repeat_at has_postfix (postfix_at (inner true 0)) k e rest ≡ Some (e, rest)
      last zero j = absurd (omega (arith, j))
      last (suc k) j = repeat_at-end has_postfix (postfix_at (inner true 0)) k e rest n

      ended : (m : ℕ) (first : SpecExpressionData) (us : List Token) → Reached bound types types_complete (inner true 0) item_complete m first us e rest → repeat_at has_postfix (postfix_at (inner true 0)) m first us ≡ Some (e, rest)
      ended m first us r = r.same ∙ last r.left r.enough

  operand_at-complete : (packs : Bool) (e : SpecExpressionData) (ts rest : List Token) → length ts ≤ suc bound → Begins (spec_spelling e) ts rest → IsProperSpec e → Allowed packs e → unary_level ≤ level e → TermEnds packs e rest → has_postfix rest ≡ false
      → operand_at types inner packs ts ≡ Some (e, rest)
  unfolding operand_at
  operand_at-complete packs (SpecBinary left operator span right) ts rest h b p a l d n = absurd (omega (arith, l, (level_is_some operator).1))
  operand_at-complete packs (SpecQuantified quantifier span binds _ body) ts rest h b p a l d n = absurd (omega (arith, l))
  operand_at-complete packs (SpecIf span condition then_branch else_branch) ts rest h b p a l d n = absurd (omega (arith, l))
  operand_at-complete packs (SpecNot span negated) ts rest h b p a l d n =
      let s = Begins-first (sign_at span Exclaim) (spec_spelling negated) ts rest b in
      map_or_some (sign_span_at Exclaim ts) (λ p. option_map (λ e. (SpecNot p.0 e.0, e.1)) (inner packs unary_level p.1)) _ (span, s.mid) (sign_span_at-complete Exclaim span ts s.mid s.front)
      ∙ map_some (inner packs unary_level s.mid) (λ e. (SpecNot span e.0, e.1)) (negated, rest)
      (complete.tight packs unary_level negated s.mid rest (omega (arith, h, length-Begins (sign_at span Exclaim ∷ []) ts s.mid s.front)) s.back p.0 (allowed_base packs (SpecNot span negated) negated (λ h. h) a) (omega arith) p.1
      (record { ends = same_end packs (SpecNot span negated) negated rest refl d; no_postfix = n; no_operator = next_unary negated rest }))
  operand_at-complete packs (SpecField base field) ts rest h b p a l d n = term_operand packs (SpecField base field) ts rest h b p a (omega arith) d n
  operand_at-complete packs (SpecIndex base index) ts rest h b p a l d n = term_operand packs (SpecIndex base index) ts rest h b p a (omega arith) d n
  operand_at-complete packs (SpecLiteral literal) ts rest h b p a l d n = term_operand packs (SpecLiteral literal) ts rest h b p a (omega arith) d n
  operand_at-complete packs (SpecPath path) ts rest h b p a l d n = term_operand packs (SpecPath path) ts rest h b p a (omega arith) d n
  operand_at-complete packs (SpecCall function given values last) ts rest h b p a l d n = term_operand packs (SpecCall function given values last) ts rest h b p a (omega arith) d n
  operand_at-complete packs (SpecPack path given fields last) ts rest h b p a l d n = term_operand packs (SpecPack path given fields last) ts rest h b p a (omega arith) d n
  operand_at-complete packs (SpecParenthesized span inside) ts rest h b p a l d n = term_operand packs (SpecParenthesized span inside) ts rest h b p a (omega arith) d n

  -- ---- operators

  abbrev SpineOf : Bool → SpecExpressionData → Type 0
  SpineOf packs e = Spine spec_joints (spec_rules packs) e

  abbrev spine : (packs : Bool) (e : SpecExpressionData) → SpineOf packs e
  spine packs (SpecBinary left operator span right) = spine_joined left (spine packs left) (operator, span) right
  spine packs (SpecQuantified quantifier span binds firing body) = spine_end (SpecQuantified quantifier span binds firing body)
  spine packs (SpecIf span condition then_branch else_branch) = spine_end (SpecIf span condition then_branch else_branch)
  spine packs (SpecNot span negated) = spine_end (SpecNot span negated)
  spine packs (SpecField base field) = spine_end (SpecField base field)
  spine packs (SpecIndex base index) = spine_end (SpecIndex base index)
  spine packs (SpecLiteral literal) = spine_end (SpecLiteral literal)
  spine packs (SpecPath path) = spine_end (SpecPath path)
  spine packs (SpecCall function given values last) = spine_end (SpecCall function given values last)
  spine packs (SpecPack path given fields last) = spine_end (SpecPack path given fields last)
  spine packs (SpecParenthesized span inside) = spine_end (SpecParenthesized span inside)

  spine_starts_high : (packs : Bool) (e : SpecExpressionData) → IsProperSpec e → 1 ≤ level e → unary_level ≤ level (first_of spec_joints (spec_rules packs) (spine packs e))
  spine_starts_high packs (SpecBinary left operator span right) p h = spine_starts_high packs left p.0 (omega (arith, (level_is_some operator).0, own_left operator, p.2))
  spine_starts_high packs (SpecQuantified quantifier span binds _ body) p h = absurd (omega (arith, h))
  spine_starts_high packs (SpecIf span condition then_branch else_branch) p h = absurd (omega (arith, h))
  spine_starts_high packs (SpecNot span negated) p h = omega arith
  spine_starts_high packs (SpecField base field) p h = omega arith
  spine_starts_high packs (SpecIndex base index) p h = omega arith
  spine_starts_high packs (SpecLiteral literal) p h = omega arith
  spine_starts_high packs (SpecPath path) p h = omega arith
  spine_starts_high packs (SpecCall function given values last) p h = omega arith
  spine_starts_high packs (SpecPack path given fields last) p h = omega arith
  spine_starts_high packs (SpecParenthesized span inside) p h = omega arith

  -- no token after the first operand belongs to it
  behind_first : (packs : Bool) (minimum : ℕ) (e : SpecExpressionData) (s : SpineOf packs e) (us rest : List Token) → Behind spec_joints (spec_rules packs) s us rest → Follows packs minimum e rest
      → TermEnds packs (first_of spec_joints (spec_rules packs) s) us × (has_postfix us ≡ false)
  behind_first packs minimum e (spine_end f) us rest b d = subst (λ vs. TermEnds packs f vs × (has_postfix vs ≡ false)) (sym b) (d.ends, d.no_postfix)
  behind_first packs minimum e (spine_joined l s o r) us rest b d = operator_ends packs (first_of spec_joints (spec_rules packs) s) b.operator.0 b.operator.1 us b.rest b.begins

  right_complete : (packs : Bool) (o : SpecOperator × Span) (e : SpecExpressionData) (ts rest : List Token) → length ts ≤ bound → Begins (spec_spelling e) ts rest → Proper packs e → right_level o.0 ≤ level e → Follows packs (right_level o.0) e rest
      → inner packs (right_level o.0) ts ≡ Some (e, rest)
  right_complete packs o e ts rest h b p l d = complete.tight packs (right_level o.0) e ts rest h b p.0 p.1 (omega (arith, right_is_some o.0)) l d

  operator_follows : (packs : Bool) (l : SpecExpressionData) (o : SpecOperator × Span) (r : SpecExpressionData) (p : SpecOperator × Span) (ts us : List Token) → Begins (spec_operator_spelling p.0 p.1 (ends_in_path r)) ts us → Unit {0} → Opens us
      → spec_operator_level p.0 < right_level o.0 → Proper packs r → right_level o.0 ≤ level r → Follows packs (right_level o.0) r ts
  operator_follows packs l o r p ts us b s d h q a =
      let e = operator_ends packs r p.0 p.1 ts us b in
      record { ends = e.0; no_postfix = e.1; no_operator = next_lower (right_level o.0) r ts (p, us) (spec_operator_at-complete p.0 p.1 (ends_in_path r) ts us b d) h }

  -- no token after the whole belongs to its last operand
  fits : (packs : Bool) (minimum : ℕ) (e : SpecExpressionData) (s : SpineOf packs e) (rest : List Token) → minimum ≤ level e → Follows packs minimum e rest
      → Fits spec_joints (spec_rules packs) (inner packs) bound (Follows packs) (right_complete packs) (operator_follows packs) e s rest
  fits packs minimum e (spine_end f) rest h d = tt
  fits packs minimum e (spine_joined l s o r) rest h d = record {
    ends = same_end packs (SpecBinary l o.0 o.1 r) r rest refl d.ends;
    no_postfix = d.no_postfix;
    no_operator = next_higher minimum (right_level o.0) (SpecBinary l o.0 o.1 r) r rest (omega (arith, h, own_right o.0)) refl d.no_operator;
  }

  pub operated_at-complete : (packs : Bool) (minimum : ℕ) (e : SpecExpressionData) (ts rest : List Token) → length ts ≤ suc bound → Begins (spec_spelling e) ts rest → IsProperSpec e → Allowed packs e → 1 ≤ level e → minimum ≤ level e → Follows packs minimum e rest
      → operated_at types inner packs minimum ts ≡ Some (e, rest)
  unfolding operated_at
  operated_at-complete packs minimum e ts rest h b p a l m d =
      let s = spine packs e in
      let w = walk spec_joints (spec_rules packs) (inner packs) bound (Follows packs) (right_complete packs) (operator_follows packs) minimum e s ts rest h b (p, a) m (fits packs minimum e s rest m d) in
      let first = first_of spec_joints (spec_rules packs) s in
      let behind = behind_first packs minimum e s w.us rest w.behind d in
      bind_some (operand_at types inner packs ts) (λ first. whole_chain_at spec_joints (inner packs) minimum first.0 first.1) (first, w.us)
      (operand_at-complete packs first ts w.us h w.front w.first_proper.0 w.first_proper.1 (spine_starts_high packs e p l) behind.0 behind.1)
      ∙ chain-complete spec_joints (spec_rules packs) (inner packs) bound (Follows packs) (right_complete packs) (operator_follows packs) minimum e s ts rest w d.no_operator
