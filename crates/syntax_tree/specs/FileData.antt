-- Modules and their members, as pure data that contracts see.
use Rattle.std.specs.Prelude.{List}
use Rattle.base.specs.declared.span.Span.{Span}
use Rattle.syntax_tree.specs.declared.path.ModuleName.{ModuleName}
use Rattle.syntax_tree.specs.declared.member.Attribute.{Attribute}
use Rattle.syntax_tree.specs.declared.member.MemberForm.{MemberForm}

pub record MemberData : Type 0 where
  pub attributes : List Attribute
  pub form : MemberForm

pub record ModuleData : Type 0 where
  pub attributes : List Attribute
  pub span : Span
  pub name : ModuleName
  pub members : List MemberData
