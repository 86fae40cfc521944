-- A member of a module whose spec blocks are trees, as pure data that contracts see.
use Rattle.std.specs.Prelude.{List}
use Rattle.syntax_tree.specs.declared.member.Attribute.{Attribute}
use Rattle.syntax_tree.specs.declared.clause.Spec.{Spec}
use Rattle.syntax_tree.specs.declared.source.SourceForm.{SourceForm}

pub record SourceMemberData : Type 0 where
  pub attributes : List Attribute
  pub form : SourceForm
  pub loops : List Spec
