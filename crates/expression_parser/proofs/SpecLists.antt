-- Lists of spec expressions, binds, triggers and fields, as their own data and as plain lists.
use Rattle.std.proofs.Common.{◌≡◌, List, [], ◌∷◌, ◌++◌, refl, sym, ap, ◌∙◌, append_assoc, append-nil}
use Rattle.std.specs.Prelude.{map}
use Rattle.std.specs.List.{AllByRecursion}
use Rattle.syntax_tree.specs.SpecExpressionData.{SpecExpressionData, BindData, TriggerData, SpecFieldData, SpecExpressionsData, NoSpecExpressions, MoreSpecExpressions, BindsData, NoBinds, MoreBinds, TriggersData, NoTriggers, MoreTriggers, SpecFieldsData, NoSpecFields, MoreSpecFields, spec_expressions_of, list_of_spec_expressions, binds_of, list_of_binds, triggers_of, list_of_triggers, spec_fields_of, list_of_spec_fields}
use Rattle.syntax_tree.specs.SpecExpressionSpelling.{spec_spelling, spec_spellings, bind_spelling, bind_spellings, trigger_spelling, triggers_spelling, spec_field_spelling, spec_field_spellings}
use Rattle.syntax_tree.specs.ProperSpecExpressions.{AreSome, AreSomeBinds, AreSomeFields, IsProperSpec, IsProperBind, IsProperTrigger, IsProperField, AreProperSpecs, AreProperBinds, AreProperTriggers, AreProperFields}
use Rattle.parser_base.proofs.ListLemmas.{Filled}

pub specs_spelled : (xs : List SpecExpressionData) → spec_spellings (spec_expressions_of xs) ≡ map spec_spelling xs
specs_spelled [] = refl
specs_spelled (x ∷ xs) = ap (λ ls. spec_spelling x ∷ ls) (specs_spelled xs)

pub specs_spelled_from : (xs : SpecExpressionsData) → spec_spellings xs ≡ map spec_spelling (list_of_spec_expressions xs)
specs_spelled_from NoSpecExpressions = refl
specs_spelled_from (MoreSpecExpressions x xs) = ap (λ ls. spec_spelling x ∷ ls) (specs_spelled_from xs)

pub proper_specs : (xs : List SpecExpressionData) → AllByRecursion IsProperSpec xs → AreProperSpecs (spec_expressions_of xs)
proper_specs [] p = tt
proper_specs (x ∷ xs) p = (p.0, proper_specs xs p.1)

pub each_proper_spec : (xs : SpecExpressionsData) → AreProperSpecs xs → AllByRecursion IsProperSpec (list_of_spec_expressions xs)
each_proper_spec NoSpecExpressions p = tt
each_proper_spec (MoreSpecExpressions x xs) p = (p.0, each_proper_spec xs p.1)

pub some_specs : (xs : List SpecExpressionData) → Filled xs → AreSome (spec_expressions_of xs)
some_specs [] f = f
some_specs (x ∷ xs) f = tt

pub filled_specs : (xs : SpecExpressionsData) → AreSome xs → Filled (list_of_spec_expressions xs)
filled_specs NoSpecExpressions f = f
filled_specs (MoreSpecExpressions x xs) f = tt

pub listed_specs : (xs : SpecExpressionsData) → spec_expressions_of (list_of_spec_expressions xs) ≡ xs
listed_specs NoSpecExpressions = refl
listed_specs (MoreSpecExpressions x xs) = ap (MoreSpecExpressions x) (listed_specs xs)

pub binds_spelled : (xs : List BindData) → bind_spellings (binds_of xs) ≡ map bind_spelling xs
binds_spelled [] = refl
binds_spelled (x ∷ xs) = ap (λ ls. bind_spelling x ∷ ls) (binds_spelled xs)

pub binds_spelled_from : (xs : BindsData) → bind_spellings xs ≡ map bind_spelling (list_of_binds xs)
binds_spelled_from NoBinds = refl
binds_spelled_from (MoreBinds x xs) = ap (λ ls. bind_spelling x ∷ ls) (binds_spelled_from xs)

pub proper_binds : (xs : List BindData) → AllByRecursion IsProperBind xs → AreProperBinds (binds_of xs)
proper_binds [] p = tt
proper_binds (x ∷ xs) p = (p.0, proper_binds xs p.1)

pub each_proper_bind : (xs : BindsData) → AreProperBinds xs → AllByRecursion IsProperBind (list_of_binds xs)
each_proper_bind NoBinds p = tt
each_proper_bind (MoreBinds x xs) p = (p.0, each_proper_bind xs p.1)

pub some_binds : (xs : List BindData) → Filled xs → AreSomeBinds (binds_of xs)
some_binds [] f = f
some_binds (x ∷ xs) f = tt

pub filled_binds : (xs : BindsData) → AreSomeBinds xs → Filled (list_of_binds xs)
filled_binds NoBinds f = f
filled_binds (MoreBinds x xs) f = tt

pub listed_binds : (xs : BindsData) → binds_of (list_of_binds xs) ≡ xs
listed_binds NoBinds = refl
listed_binds (MoreBinds x xs) = ap (MoreBinds x) (listed_binds xs)

pub fields_spelled : (xs : List SpecFieldData) → spec_field_spellings (spec_fields_of xs) ≡ map spec_field_spelling xs
fields_spelled [] = refl
fields_spelled (x ∷ xs) = ap (λ ls. spec_field_spelling x ∷ ls) (fields_spelled xs)

pub fields_spelled_from : (xs : SpecFieldsData) → spec_field_spellings xs ≡ map spec_field_spelling (list_of_spec_fields xs)
fields_spelled_from NoSpecFields = refl
fields_spelled_from (MoreSpecFields x xs) = ap (λ ls. spec_field_spelling x ∷ ls) (fields_spelled_from xs)

pub proper_fields : (xs : List SpecFieldData) → AllByRecursion IsProperField xs → AreProperFields (spec_fields_of xs)
proper_fields [] p = tt
proper_fields (x ∷ xs) p = (p.0, proper_fields xs p.1)

pub each_proper_field : (xs : SpecFieldsData) → AreProperFields xs → AllByRecursion IsProperField (list_of_spec_fields xs)
each_proper_field NoSpecFields p = tt
each_proper_field (MoreSpecFields x xs) p = (p.0, each_proper_field xs p.1)

pub some_fields : (xs : List SpecFieldData) → Filled xs → AreSomeFields (spec_fields_of xs)
some_fields [] f = f
some_fields (x ∷ xs) f = tt

pub filled_fields : (xs : SpecFieldsData) → AreSomeFields xs → Filled (list_of_spec_fields xs)
filled_fields NoSpecFields f = f
filled_fields (MoreSpecFields x xs) f = tt

pub listed_fields : (xs : SpecFieldsData) → spec_fields_of (list_of_spec_fields xs) ≡ xs
listed_fields NoSpecFields = refl
listed_fields (MoreSpecFields x xs) = ap (MoreSpecFields x) (listed_fields xs)

pub listed_triggers : (xs : TriggersData) → triggers_of (list_of_triggers xs) ≡ xs
listed_triggers NoTriggers = refl
listed_triggers (MoreTriggers x xs) = ap (MoreTriggers x) (listed_triggers xs)

-- one more trigger
pub trigger_behind : (xs : List TriggerData) (x : TriggerData) → triggers_spelling (triggers_of (xs ++ x ∷ [])) ≡ triggers_spelling (triggers_of xs) ++ trigger_spelling x
trigger_behind [] x = append-nil (trigger_spelling x)
trigger_behind (y ∷ ys) x = ap (λ ls. trigger_spelling y ++ ls) (trigger_behind ys x) ∙ sym (append_assoc (trigger_spelling y) (triggers_spelling (triggers_of ys)) (trigger_spelling x))

pub proper_trigger_behind : (xs : List TriggerData) (x : TriggerData) → AreProperTriggers (triggers_of xs) → IsProperTrigger x → AreProperTriggers (triggers_of (xs ++ x ∷ []))
proper_trigger_behind [] x p q = (q, tt)
proper_trigger_behind (y ∷ ys) x p q = (p.0, proper_trigger_behind ys x p.1 q)
