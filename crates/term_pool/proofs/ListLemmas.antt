-- Lists that are read item by item.
use Rattle.std.proofs.Common.{◌≡◌, List, ◌++◌, sym, ap, ◌∙◌, append-nil}
use Rattle.base.specs.TypeData.{TypeData, TypesData, NoTypes, types_of, list_of_types, types_of-list_of_types}
use Rattle.fol.specs.FormulaData.{TermData, TermsData, NoTerms, TriggersData, NoTriggers, FormulaData, FormulasData, NoFormulas, terms_of, list_of_terms, terms_of-list_of_terms, triggers_of, list_of_triggers, triggers_of-list_of_triggers, formulas_of, list_of_formulas, formulas_of-list_of_formulas}

-- if the rest is empty, all items are read

pub whole_types : (xs : List TypeData) (rest all : TypesData) → rest ≡ NoTypes → xs ++ list_of_types rest ≡ list_of_types all → types_of xs ≡ all
whole_types xs rest all e h = ap types_of (sym (append-nil xs) ∙ ap (λ r. xs ++ list_of_types r) (sym e) ∙ h) ∙ types_of-list_of_types all

pub whole_terms : (xs : List TermData) (rest all : TermsData) → rest ≡ NoTerms → xs ++ list_of_terms rest ≡ list_of_terms all → terms_of xs ≡ all
whole_terms xs rest all e h = ap terms_of (sym (append-nil xs) ∙ ap (λ r. xs ++ list_of_terms r) (sym e) ∙ h) ∙ terms_of-list_of_terms all

pub whole_triggers : (xs : List TermsData) (rest all : TriggersData) → rest ≡ NoTriggers → xs ++ list_of_triggers rest ≡ list_of_triggers all → triggers_of xs ≡ all
whole_triggers xs rest all e h = ap triggers_of (sym (append-nil xs) ∙ ap (λ r. xs ++ list_of_triggers r) (sym e) ∙ h) ∙ triggers_of-list_of_triggers all

pub whole_formulas : (xs : List FormulaData) (rest all : FormulasData) → rest ≡ NoFormulas → xs ++ list_of_formulas rest ≡ list_of_formulas all → formulas_of xs ≡ all
whole_formulas xs rest all e h = ap formulas_of (sym (append-nil xs) ∙ ap (λ r. xs ++ list_of_formulas r) (sym e) ∙ h) ∙ formulas_of-list_of_formulas all
