-- Which functions are of the supported form: private to their module, of u64 parameters, with a sum as the body.
-- Source: The Move Book, "Functions".
use Rattle.std.specs.Prelude.{ℕ, Bool, true, false, ◌&&◌, is_none, if◌then◌else◌, List, Option, Some, None, option_and_then, codes}
use Rattle.std.specs.Option.{option_map}
use Rattle.syntax_tree.specs.declared.path.Path.TheVariants.{Name as name_path}
use Rattle.syntax_tree.specs.TypeTreeData.{SourceTypeData, NamedSourceType, NoArguments}
use Rattle.syntax_tree.specs.ExpressionData.{SomeExpression, BlockData, BlockOf, NoItems}
use Rattle.syntax_tree.specs.MemberData.{TypedNamesData}
use Rattle.syntax_tree.specs.declared.member.TypedName.{TypedName}
use Rattle.syntax_tree.specs.declared.member.Visibility.{Visibility}
use Rattle.syntax_tree.specs.declared.member.Visibility.TheVariants.{Module, Public, Friends}
use Rattle.syntax_tree.specs.declared.member.Function.{Function}
use Rattle.base.specs.Names.{same_name}
use Rattle.sum_tree.specs.SumData.{SumData}
use Rattle.sum_tree.specs.SumFunctionData.{SumFunctionData}
use Rattle.sum_read.specs.Each.{each}
use Rattle.sum_read.specs.Sums.{sum_of}

-- the type is u64
abbrev pub is_u64 : SourceTypeData → Bool
is_u64 (NamedSourceType (name_path i) NoArguments) = same_name i.text (codes "u64")
is_u64 _ = false

-- the names of u64 parameters
abbrev pub parameter_name : TypedName → Option (List ℕ)
parameter_name p = if is_u64 p.annotation then Some p.name.text else None

abbrev pub parameter_names : List TypedName → Option (List (List ℕ))
parameter_names parameters = each parameter_name parameters

abbrev pub inputs_of : TypedNamesData → Option (List (List ℕ))
inputs_of inputs = if inputs.last_comma then None else parameter_names inputs.items

-- a body that consists of a value alone
abbrev pub value_of : BlockData → Option SumData
value_of (BlockOf span None NoItems (SomeExpression e)) = sum_of e
value_of _ = None

abbrev pub is_result : Option SourceTypeData → Bool
is_result None = false
is_result (Some t) = is_u64 t

-- private to its module
abbrev pub is_private : Visibility → Bool
is_private Module = true
is_private (Public span) = false
is_private (Friends span) = false

-- no `public` or `entry`, no type parameters, no `acquires`, and the result is a u64
abbrev pub is_plain : Function → Bool
is_plain f = is_private f.visibility && (is_none f.entry && (is_none f.parameters && (is_none f.acquires && is_result f.result)))

abbrev pub function_of : Function → Option SumFunctionData
function_of f =
    if is_plain f then
    option_and_then (λ parameters. option_map (λ body. record { name = f.name.text; parameters = parameters; body = body; start = f.span.start }) (value_of f.body)) (inputs_of f.inputs)
    else None
