-- How files, modules and their members are spelled. Source: The Move Book, "Modules and Scripts", "Uses and Aliases",
-- "Friends", "Structs and Resources", "Type Abilities", "Constants", "Functions" and "Generics".
--     File    = { Module }
--     Module  = { Attr } "module" Addr "::" Word "{" { { Attr } Member } "}"
--     Attr    = "#" "[" tokens with balanced brackets "]"
--     Member  = Use | Friend | Struct | Const | Fun | Spec
--     Use     = "use" Addr "::" Word [ "as" Word ] ";"
--             | "use" Addr "::" Word "::" Import ";"
--             | "use" Addr "::" Word "::" "{" Import, .. "}" ";"
--     Import  = Word [ "as" Word ]
--     Friend  = "friend" Addr "::" Word ";"
--     Struct  = "struct" Word [ SParams ] [ "has" Ability, .. ] "{" [ Word ":" Type, .. ] "}"
--     Const   = "const" Word ":" Type "=" Exp ";"
--     Fun     = [ "public" [ "(" "friend" ")" ] ] [ "entry" ] "fun" Word [ TParams ]
--               "(" [ Word ":" Type, .. ] ")" [ ":" Type ] [ "acquires" Path, .. ] Block
--     TParams = "<" TParam, .. ">"      TParam = Word [ ":" Ability { "+" Ability } ]
--     SParams = "<" [ "phantom" ] TParam, .. ">"  (phantom may come before each)
--     Ability = "copy" | "drop" | "store" | "key"
--     Spec    = "spec" tokens with balanced brackets "{" tokens with balanced brackets "}"     (kept as tokens)
use Rattle.std.specs.Prelude.{Bool, true, false, List, [], ◌∷◌, ◌++◌, Option, None, Some, codes, map}
use Rattle.std.specs.List.{flat_map}
use Rattle.base.specs.declared.span.Span.{Span}
use Rattle.tokens.specs.declared.token.Punctuation.TheVariants.{LeftParenthesis, RightParenthesis, LeftBrace, RightBrace, LeftBracket, RightBracket, Colon, ColonColon, Semicolon, Equal, Less, Greater, Plus, NumberSign}
use Rattle.syntax_tree.specs.declared.lexeme.Lexeme.{Lexeme}
use Rattle.syntax_tree.specs.declared.lexeme.Identifier.{Identifier}
use Rattle.syntax_tree.specs.declared.member.Attribute.{Attribute}
use Rattle.syntax_tree.specs.declared.member.Import.{Import}
use Rattle.syntax_tree.specs.declared.member.Imported.{Imported}
use Rattle.syntax_tree.specs.declared.member.Imported.TheVariants.{Module as whole_module, One, Several}
use Rattle.syntax_tree.specs.declared.member.Use.{Use}
use Rattle.syntax_tree.specs.declared.member.Friend.{Friend}
use Rattle.syntax_tree.specs.declared.member.Ability.{Ability}
use Rattle.syntax_tree.specs.declared.member.Ability.TheVariants.{Copy as copy_ability, Drop as drop_ability, Store as store_ability, Key as key_ability}
use Rattle.syntax_tree.specs.declared.member.TypedName.{TypedName}
use Rattle.syntax_tree.specs.declared.member.Struct.{Struct}
use Rattle.syntax_tree.specs.declared.member.Constant.{Constant}
use Rattle.syntax_tree.specs.declared.member.Visibility.{Visibility}
use Rattle.syntax_tree.specs.declared.member.Visibility.TheVariants.{Module as in_module, Public, Friends}
use Rattle.syntax_tree.specs.declared.member.Function.{Function}
use Rattle.syntax_tree.specs.declared.member.MemberForm.{MemberForm}
use Rattle.syntax_tree.specs.declared.member.MemberForm.TheVariants.{Use as use_form, Friend as friend_form, Struct as struct_form, Constant as constant_form, Function as function_form, Spec as spec_form}
use Rattle.syntax_tree.specs.Lexemes.{word, identifier, sign, sign_at, comma_list}
use Rattle.syntax_tree.specs.PathSpelling.{module_spelling, path_spelling}
use Rattle.syntax_tree.specs.TypeSpelling.{type_spelling}
use Rattle.syntax_tree.specs.SpecTokenSpelling.{kept, kept_spelling}
use Rattle.syntax_tree.specs.ExpressionSpelling.{annotation_spelling, expression_spelling, block_spelling}
use Rattle.syntax_tree.specs.MemberData.{AbilitiesData, TypeParameterData, TypeParametersData, TypedNamesData, PathsData}
use Rattle.syntax_tree.specs.FileData.{MemberData, ModuleData}

abbrev pub attribute_spelling : Attribute → List Lexeme
attribute_spelling a = sign_at a.span NumberSign ∷ sign LeftBracket ∷ map kept a.tokens ++ sign RightBracket ∷ []

-- ---- uses and friends

abbrev pub alias_spelling : Option Identifier → List Lexeme
alias_spelling None = []
alias_spelling (Some name) = word (codes "as") None ∷ identifier name ∷ []

abbrev pub import_spelling : Import → List Lexeme
import_spelling i = identifier i.name ∷ alias_spelling i.alias

abbrev pub imported_spelling : Imported → List Lexeme
imported_spelling (whole_module alias) = alias_spelling alias
imported_spelling (One i) = sign ColonColon ∷ import_spelling i
imported_spelling (Several imports) =
    sign ColonColon ∷ sign LeftBrace ∷ comma_list (map import_spelling imports.items) imports.last_comma ++ sign RightBrace ∷ []

abbrev pub use_member_spelling : Use → List Lexeme
use_member_spelling u = word (codes "use") (Some u.span) ∷ module_spelling u.owner ++ imported_spelling u.imported ++ sign Semicolon ∷ []

abbrev pub friend_spelling : Friend → List Lexeme
friend_spelling f = word (codes "friend") (Some f.span) ∷ module_spelling f.owner ++ sign Semicolon ∷ []

-- ---- structs and type parameters

abbrev pub ability_spelling : Ability → List Lexeme
ability_spelling copy_ability = word (codes "copy") None ∷ []
ability_spelling drop_ability = word (codes "drop") None ∷ []
ability_spelling store_ability = word (codes "store") None ∷ []
ability_spelling key_ability = word (codes "key") None ∷ []

abbrev pub abilities_spelling : Option AbilitiesData → List Lexeme
abilities_spelling None = []
abilities_spelling (Some a) = word (codes "has") None ∷ comma_list (map ability_spelling a.items) a.last_comma

abbrev pub more_ability_spelling : Ability → List Lexeme
more_ability_spelling a = sign Plus ∷ ability_spelling a

abbrev pub constraint_spelling : List Ability → List Lexeme
constraint_spelling [] = []
constraint_spelling (a ∷ more) = sign Colon ∷ ability_spelling a ++ flat_map more_ability_spelling more

abbrev pub phantom_spelling : Bool → List Lexeme
phantom_spelling false = []
phantom_spelling true = word (codes "phantom") None ∷ []

abbrev pub parameter_spelling : TypeParameterData → List Lexeme
parameter_spelling p = phantom_spelling p.is_phantom ++ identifier p.name ∷ constraint_spelling p.abilities

abbrev pub parameters_spelling : Option TypeParametersData → List Lexeme
parameters_spelling None = []
parameters_spelling (Some p) = sign Less ∷ comma_list (map parameter_spelling p.items) p.last_comma ++ sign Greater ∷ []

abbrev pub typed_name_spelling : TypedName → List Lexeme
typed_name_spelling n = identifier n.name ∷ sign Colon ∷ type_spelling n.annotation

abbrev pub typed_names_spelling : TypedNamesData → List Lexeme
typed_names_spelling n = comma_list (map typed_name_spelling n.items) n.last_comma

abbrev pub struct_spelling : Struct → List Lexeme
struct_spelling s =
    word (codes "struct") (Some s.span) ∷ identifier s.name ∷ parameters_spelling s.parameters ++ abilities_spelling s.abilities
    ++ sign LeftBrace ∷ typed_names_spelling s.fields ++ sign RightBrace ∷ []

-- ---- constants and functions

abbrev pub constant_spelling : Constant → List Lexeme
constant_spelling c =
    word (codes "const") (Some c.span) ∷ identifier c.name ∷ sign Colon ∷ type_spelling c.annotation
    ++ sign Equal ∷ expression_spelling c.value ++ sign Semicolon ∷ []

unfoldable pub of_friends : List Lexeme
of_friends = sign LeftParenthesis ∷ word (codes "friend") None ∷ sign RightParenthesis ∷ []

abbrev pub visibility_spelling : Visibility → List Lexeme
visibility_spelling in_module = []
visibility_spelling (Public span) = word (codes "public") (Some span) ∷ []
visibility_spelling (Friends span) = word (codes "public") (Some span) ∷ of_friends

abbrev pub entry_spelling : Option Span → List Lexeme
entry_spelling None = []
entry_spelling (Some span) = word (codes "entry") (Some span) ∷ []

unfoldable pub acquires_word : Lexeme
acquires_word = word (codes "acquires") None

abbrev pub acquires_spelling : Option PathsData → List Lexeme
acquires_spelling None = []
acquires_spelling (Some p) = acquires_word ∷ comma_list (map path_spelling p.items) p.last_comma

abbrev pub function_name_spelling : Function → List Lexeme
function_name_spelling f =
    visibility_spelling f.visibility ++ entry_spelling f.entry ++ word (codes "fun") (Some f.span) ∷ identifier f.name
    ∷ parameters_spelling f.parameters

abbrev pub inputs_spelling : TypedNamesData → List Lexeme
inputs_spelling inputs = sign LeftParenthesis ∷ typed_names_spelling inputs ++ sign RightParenthesis ∷ []

abbrev pub function_spelling : Function → List Lexeme
function_spelling f =
    function_name_spelling f ++ inputs_spelling f.inputs ++ annotation_spelling f.result ++ acquires_spelling f.acquires
    ++ block_spelling f.body

-- ---- members, modules and files

abbrev pub form_spelling : MemberForm → List Lexeme
form_spelling (use_form u) = use_member_spelling u
form_spelling (friend_form f) = friend_spelling f
form_spelling (struct_form s) = struct_spelling s
form_spelling (constant_form c) = constant_spelling c
form_spelling (function_form f) = function_spelling f
form_spelling (spec_form s) = kept_spelling s

abbrev pub member_spelling : MemberData → List Lexeme
member_spelling m = flat_map attribute_spelling m.attributes ++ form_spelling m.form

abbrev pub module_tree_spelling : ModuleData → List Lexeme
module_tree_spelling m =
    flat_map attribute_spelling m.attributes ++ word (codes "module") (Some m.span) ∷ module_spelling m.name
    ++ sign LeftBrace ∷ flat_map member_spelling m.members ++ sign RightBrace ∷ []

abbrev pub file_spelling : List ModuleData → List Lexeme
file_spelling modules = flat_map module_tree_spelling modules
