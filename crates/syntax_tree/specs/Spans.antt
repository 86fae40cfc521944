-- The spans of members and modules: that of the first token, which for a module may be that of its first attribute.
use Rattle.std.specs.Prelude.{List, [], ◌∷◌, Option, Some, None}
use Rattle.base.specs.declared.span.Span.{Span}
use Rattle.syntax_tree.specs.declared.member.Attribute.{Attribute}
use Rattle.syntax_tree.specs.declared.member.Function.{Function as FunctionTree}
use Rattle.syntax_tree.specs.declared.member.Visibility.{Visibility}
use Rattle.syntax_tree.specs.declared.member.Visibility.TheVariants.{Module, Public, Friends}
use Rattle.syntax_tree.specs.declared.clause.Spec.{Spec as SpecTree}
use Rattle.syntax_tree.specs.declared.clause.Spec.TheVariants.{Module as module_spec, Named as named_spec, Schema as schema_spec, Function as function_spec, Loop as loop_spec}
use Rattle.syntax_tree.specs.declared.source.SourceForm.{SourceForm}
use Rattle.syntax_tree.specs.declared.source.SourceForm.TheVariants.{Use, Friend, Struct, Constant, Function, Spec}
use Rattle.syntax_tree.specs.SourceModuleData.{SourceModuleData}

abbrev pub entry_span : Option Span → Span → Span
entry_span None span = span
entry_span (Some entry) span = entry

abbrev pub visible_span : Visibility → Span → Span
visible_span Module span = span
visible_span (Public public) span = public
visible_span (Friends public) span = public

abbrev pub function_span : FunctionTree → Span
function_span f = visible_span f.visibility (entry_span f.entry f.span)

abbrev pub spec_span : SpecTree → Span
spec_span (module_spec span clauses) = span
spec_span (named_spec span name clauses) = span
spec_span (schema_spec s) = s.span
spec_span (function_spec f) = f.span
spec_span (loop_spec span clauses) = span

abbrev pub form_span : SourceForm → Span
form_span (Use u) = u.span
form_span (Friend f) = f.span
form_span (Struct s) = s.span
form_span (Constant c) = c.span
form_span (Function f) = function_span f
form_span (Spec s) = spec_span s

abbrev pub first_span : List Attribute → Span → Span
first_span [] span = span
first_span (a ∷ more) span = a.span

abbrev pub module_span : SourceModuleData → Span
module_span m = first_span m.attributes m.span
