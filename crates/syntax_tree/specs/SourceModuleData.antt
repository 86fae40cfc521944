-- A module whose spec blocks are trees, as pure data that contracts see.
use Rattle.std.specs.Prelude.{List}
use Rattle.base.specs.declared.span.Span.{Span}
use Rattle.syntax_tree.specs.declared.path.ModuleName.{ModuleName}
use Rattle.syntax_tree.specs.declared.member.Attribute.{Attribute}
use Rattle.syntax_tree.specs.SourceData.{SourceMemberData}

pub record SourceModuleData : Type 0 where
  pub attributes : List Attribute
  pub span : Span
  pub name : ModuleName
  pub members : List SourceMemberData
