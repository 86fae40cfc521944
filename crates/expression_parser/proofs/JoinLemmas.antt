-- The operators of spec expressions satisfy the assumptions on joined trees.
use Rattle.std.proofs.Common.{◌≡◌, ◌<◌, Bool, true, false, List, [], None, length, refl, sym, subst, arith, append_assoc}
use Rattle.base.specs.declared.span.Span.{Span}
use Rattle.tokens.specs.declared.token.Token.{Token}
use Rattle.tokens.specs.declared.token.Punctuation.TheVariants.{Greater as greater_sign}
use Rattle.syntax_tree.specs.declared.spec_expression.operator.SpecOperator.{SpecOperator}
use Rattle.syntax_tree.specs.SpecExpressionData.{SpecExpressionData, SpecBinary}
use Rattle.syntax_tree.specs.SpecOperatorSpelling.{spec_operator_spelling}
use Rattle.syntax_tree.specs.SpecExpressionSpelling.{ends_in_path, spec_spelling}
use Rattle.syntax_tree.specs.ProperSpecExpressions.{level, left_level, HasNoOpenPack, IsProperSpec}
use Rattle.parser_base.specs.Beginnings.{Begins}
use Rattle.parser_base.proofs.ChainLemmas.{Parts, Rules}
use Rattle.parser_base.specs.LeafReading.{after_glued}
use Rattle.expression_parser.specs.OperatorReading.{spec_joints}
use Rattle.parser_base.proofs.LeafLemmas.{after_glued-none}
use Rattle.expression_parser.proofs.OperatorLemmas.{operator_spelled, spec_operator_at-sound, spec_operator_at-complete, right_is_some, own_left, looser, tighter}
use Rattle.expression_parser.proofs.ShapeLemmas.{spec_no_sign, spec_alone}

-- the expressions allowed, by whether open packs are allowed
abbrev pub Allowed : Bool → SpecExpressionData → Type 0
Allowed true e = Unit {0}
Allowed false e = HasNoOpenPack e

pub allowed : (packs : Bool) (e : SpecExpressionData) → HasNoOpenPack e → Allowed packs e
allowed true e h = tt
allowed false e h = h

pub allowed_joined : (packs : Bool) (l : SpecExpressionData) (o : SpecOperator × Span) (r : SpecExpressionData) → Allowed packs l → Allowed packs r → Allowed packs (SpecBinary l o.0 o.1 r)
allowed_joined true l o r a b = tt
allowed_joined false l o r a b = (a, b)

pub allowed_left : (packs : Bool) (l : SpecExpressionData) (o : SpecOperator × Span) (r : SpecExpressionData) → Allowed packs (SpecBinary l o.0 o.1 r) → Allowed packs l
allowed_left true l o r a = tt
allowed_left false l o r a = a.0

pub allowed_right : (packs : Bool) (l : SpecExpressionData) (o : SpecOperator × Span) (r : SpecExpressionData) → Allowed packs (SpecBinary l o.0 o.1 r) → Allowed packs r
allowed_right true l o r a = tt
allowed_right false l o r a = a.1

abbrev pub Proper : Bool → SpecExpressionData → Type 0
Proper packs e = IsProperSpec e × Allowed packs e

pub operator_length : (o : SpecOperator) (span : Span) (after_path : Bool) → 0 < length (spec_operator_spelling o span after_path)
operator_length o span after_path = subst (λ ls. 0 < length ls) (sym (operator_spelled o span after_path)) (omega arith)

-- no spec expression begins with a glued `>`
abbrev pub Opens : List Token → Type 0
Opens ts = after_glued greater_sign ts ≡ None

pub opens_right : (e : SpecExpressionData) (ts rest : List Token) → Begins (spec_spelling e) ts rest → IsProperSpec e → Opens ts
opens_right e ts rest b p = after_glued-none greater_sign ts (spec_no_sign greater_sign (refl, refl, refl) e [] ts rest (spec_alone e ts rest b) p)

pub parts_of : (packs : Bool) (l : SpecExpressionData) (o : SpecOperator × Span) (r : SpecExpressionData) → Proper packs (SpecBinary l o.0 o.1 r) → Parts spec_joints (Proper packs) (λ l o. Unit {0}) level (λ o. left_level o.0) l o r
parts_of packs l o r p = record {
  left_proper = (p.0.0, allowed_left packs l o r p.1);
  right_proper = (p.0.1, allowed_right packs l o r p.1);
  left_level = p.0.2;
  right_level = p.0.3;
  suited = tt;
}

abbrev pub spec_rules : Bool → Rules spec_joints
spec_rules packs = record {
  spelling = spec_spelling;
  between = λ l o. spec_operator_spelling o.0 o.1 (ends_in_path l);
  proper = Proper packs;
  suits = λ l o. Unit {0};
  opens = Opens;
  level_of = level;
  left = λ o. left_level o.0;
  join_spelled = λ l o r. append_assoc (spec_spelling l) (spec_operator_spelling o.0 o.1 (ends_in_path l)) (spec_spelling r);
  join_level = λ l o r. refl;
  join_proper = λ l o r p q g h s. ((p.0, q.0, g, h), allowed_joined packs l o r p.1 q.1);
  join_operator = λ l o r ts. refl;
  looser = λ o p h. looser o.0 p.0 h;
  tighter = λ o p h. tighter o.0 p.0 h;
  own_left = λ o. own_left o.0;
  right_opens = λ r ts rest b p. opens_right r ts rest b p.0;
  right_some = λ o. omega (arith, right_is_some o.0);
  operator_some = λ l o. operator_length o.0 o.1 (ends_in_path l);
  join_parts = parts_of packs;
  operator_complete = λ l o ts us b s h. spec_operator_at-complete o.0 o.1 (ends_in_path l) ts us b h;
  operator_sound = λ l ts q e. (spec_operator_at-sound (ends_in_path l) ts q e, tt);
}
