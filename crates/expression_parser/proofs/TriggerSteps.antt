-- One step of the loop that reads triggers.
use Rattle.std.proofs.Common.{◌≡◌, Bool, true, false, List, [], ◌∷◌, ◌++◌, Some, None, sym, ap, ◌∙◌}
use Rattle.std.specs.Prelude.{is_some}
use Rattle.std.specs.Option.{option_map}
use Rattle.tokens.specs.declared.token.Token.{Token}
use Rattle.tokens.specs.declared.token.Punctuation.TheVariants.{LeftBrace, RightBrace}
use Rattle.syntax_tree.specs.SpecExpressionData.{SpecExpressionData, TriggerData, TriggerOf, spec_expressions_of}
use Rattle.parser_base.specs.TokenReading.{after_sign}
use Rattle.parser_base.specs.ListReading.{some_items_at}
use Rattle.parser_base.proofs.Steps.{bind_some, map_some}
use Rattle.expression_parser.specs.SpecReading.{Reader, trigger_at, has_trigger}

pub no_trigger : (ts : List Token) → after_sign LeftBrace ts ≡ None → has_trigger ts ≡ false
unfolding has_trigger
no_trigger ts e = ap (λ o. is_some {T = List Token} o) e

pub some_trigger : (ts us : List Token) → after_sign LeftBrace ts ≡ Some us → has_trigger ts ≡ true
unfolding has_trigger
some_trigger ts us e = ap (λ o. is_some {T = List Token} o) e

module _ (item : Reader) where
  pub trigger_none : (before : List TriggerData) (ts us : List Token) → after_sign LeftBrace ts ≡ Some us → some_items_at (after_sign RightBrace) item us ≡ None → trigger_at item before ts ≡ None
  unfolding trigger_at
  trigger_none before ts us e i =
      bind_some (after_sign LeftBrace ts) (λ inside. option_map (λ r. (before ++ TriggerOf (spec_expressions_of r.0.0) r.0.1 ∷ [], r.1)) (some_items_at (after_sign RightBrace) item inside)) us e
      ∙ ap (option_map (λ r. (before ++ TriggerOf (spec_expressions_of r.0.0) r.0.1 ∷ [], r.1))) i

  pub trigger_some : (before after : List TriggerData) (ts us rest : List Token) (items : List SpecExpressionData) (last : Bool) → after_sign LeftBrace ts ≡ Some us → some_items_at (after_sign RightBrace) item us ≡ Some ((items, last), rest)
      → after ≡ before ++ TriggerOf (spec_expressions_of items) last ∷ [] → trigger_at item before ts ≡ Some (after, rest)
  unfolding trigger_at
  trigger_some before after ts us rest items last e i a =
      bind_some (after_sign LeftBrace ts) (λ inside. option_map (λ r. (before ++ TriggerOf (spec_expressions_of r.0.0) r.0.1 ∷ [], r.1)) (some_items_at (after_sign RightBrace) item inside)) us e
      ∙ map_some (some_items_at (after_sign RightBrace) item us) (λ r. (before ++ TriggerOf (spec_expressions_of r.0.0) r.0.1 ∷ [], r.1)) ((items, last), rest) i ∙ ap (λ xs. Some (xs, rest)) (sym a)
