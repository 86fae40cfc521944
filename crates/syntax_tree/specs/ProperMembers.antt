-- Proper files, modules and members: those of the grammar. Beside the spelling, the grammar has rules on names, on last
-- commas and on brackets. Source: The Move Book, "Modules and Scripts", "Structs and Resources", "Constants",
-- "Functions" and "Generics".
use Rattle.std.specs.Prelude.{◌≡◌, Bool, true, false, List, [], ◌∷◌, Option, Some, None}
use Rattle.std.specs.List.{AllByRecursion}
use Rattle.syntax_tree.specs.declared.lexeme.Identifier.{Identifier}
use Rattle.syntax_tree.specs.declared.member.Attribute.{Attribute}
use Rattle.syntax_tree.specs.declared.member.Import.{Import}
use Rattle.syntax_tree.specs.declared.member.Imported.{Imported}
use Rattle.syntax_tree.specs.declared.member.Imported.TheVariants.{Module as whole_module, One, Several}
use Rattle.syntax_tree.specs.declared.member.Use.{Use}
use Rattle.syntax_tree.specs.declared.member.TypedName.{TypedName}
use Rattle.syntax_tree.specs.declared.member.Struct.{Struct}
use Rattle.syntax_tree.specs.declared.member.Constant.{Constant}
use Rattle.syntax_tree.specs.declared.member.Function.{Function}
use Rattle.syntax_tree.specs.declared.member.MemberForm.{MemberForm}
use Rattle.syntax_tree.specs.declared.member.MemberForm.TheVariants.{Use as use_form, Friend as friend_form, Struct as struct_form, Constant as constant_form, Function as function_form, Spec as spec_form}
use Rattle.syntax_tree.specs.NameRules.{IsName, IsCapital, IsSmall}
use Rattle.syntax_tree.specs.Balance.{IsBalanced}
use Rattle.syntax_tree.specs.KeptSpecs.{IsMemberSpec}
use Rattle.syntax_tree.specs.ProperTypes.{IsProperModuleName, IsProperPath, IsProperType}
use Rattle.syntax_tree.specs.ProperExpressions.{IsProperExpression, IsProperAnnotation}
use Rattle.syntax_tree.specs.ExpressionData.{BlockExpression}
use Rattle.syntax_tree.specs.MemberData.{AbilitiesData, TypeParameterData, TypeParametersData, PathsData}
use Rattle.syntax_tree.specs.FileData.{MemberData, ModuleData}

-- a comma list of the grammar has at least one item
abbrev pub AreAny : {A : Type 0} → List A → Type 0
AreAny [] = ⊥
AreAny (one ∷ more) = Unit {0}

abbrev pub IsProperAttribute : Attribute → Type 0
IsProperAttribute a = IsBalanced a.tokens

-- ---- uses and friends

abbrev pub IsProperAlias : Option Identifier → Type 0
IsProperAlias None = Unit {0}
IsProperAlias (Some name) = IsName name.text

abbrev pub IsProperImport : Import → Type 0
IsProperImport i = IsName i.name.text × IsProperAlias i.alias

abbrev pub IsProperImported : Imported → Type 0
IsProperImported (whole_module alias) = IsProperAlias alias
IsProperImported (One i) = IsProperImport i
IsProperImported (Several imports) = AllByRecursion IsProperImport imports.items × AreAny imports.items

abbrev pub IsProperUse : Use → Type 0
IsProperUse u = IsProperModuleName u.owner × IsProperImported u.imported

-- ---- structs and type parameters

abbrev pub AreProperAbilities : Option AbilitiesData → Type 0
AreProperAbilities None = Unit {0}
AreProperAbilities (Some a) = AreAny a.items

-- `phantom` is allowed for type parameters of structs alone
abbrev pub IsProperParameter : Bool → TypeParameterData → Type 0
IsProperParameter of_struct p = IsName p.name.text × (of_struct ≡ false → p.is_phantom ≡ false)

abbrev pub AreProperParameters : Bool → Option TypeParametersData → Type 0
AreProperParameters of_struct None = Unit {0}
AreProperParameters of_struct (Some p) = AllByRecursion (IsProperParameter of_struct) p.items × AreAny p.items

abbrev pub IsProperField : TypedName → Type 0
IsProperField n = IsName n.name.text × IsProperType n.annotation

abbrev pub IsProperInput : TypedName → Type 0
IsProperInput n = IsName n.name.text × IsSmall n.name.text × IsProperType n.annotation

abbrev pub IsProperStruct : Struct → Type 0
IsProperStruct s =
    IsName s.name.text × IsCapital s.name.text × AreProperParameters true s.parameters × AreProperAbilities s.abilities
    × AllByRecursion IsProperField s.fields.items × (s.fields.last_comma ≡ true → AreAny s.fields.items)

-- ---- constants and functions

abbrev pub IsProperConstant : Constant → Type 0
IsProperConstant c = IsName c.name.text × IsCapital c.name.text × IsProperType c.annotation × IsProperExpression c.value

abbrev pub AreProperPaths : Option PathsData → Type 0
AreProperPaths None = Unit {0}
AreProperPaths (Some p) = AllByRecursion IsProperPath p.items × AreAny p.items

abbrev pub IsProperFunction : Function → Type 0
IsProperFunction f =
    IsName f.name.text × AreProperParameters false f.parameters
    × AllByRecursion IsProperInput f.inputs.items × (f.inputs.last_comma ≡ true → AreAny f.inputs.items)
    × IsProperAnnotation f.result × AreProperPaths f.acquires × IsProperExpression (BlockExpression f.body)

-- ---- members, modules and files

abbrev pub IsProperForm : MemberForm → Type 0
IsProperForm (use_form u) = IsProperUse u
IsProperForm (friend_form f) = IsProperModuleName f.owner
IsProperForm (struct_form s) = IsProperStruct s
IsProperForm (constant_form c) = IsProperConstant c
IsProperForm (function_form f) = IsProperFunction f
IsProperForm (spec_form s) = IsMemberSpec s

abbrev pub IsProperMember : MemberData → Type 0
IsProperMember m = AllByRecursion IsProperAttribute m.attributes × IsProperForm m.form

abbrev pub IsProperModule : ModuleData → Type 0
IsProperModule m = AllByRecursion IsProperAttribute m.attributes × IsProperModuleName m.name × AllByRecursion IsProperMember m.members

abbrev pub IsProperFile : List ModuleData → Type 0
IsProperFile modules = AllByRecursion IsProperModule modules
