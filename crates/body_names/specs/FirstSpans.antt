-- The spans of the first tokens of paths and literals.
use Rattle.base.specs.declared.span.Span.{Span}
use Rattle.syntax_tree.specs.declared.literal.Literal.{Literal}
use Rattle.syntax_tree.specs.declared.literal.Literal.TheVariants.{Number as number_literal, Truth as truth_literal, Address as address_literal}
use Rattle.syntax_tree.specs.declared.path.Address.{Address}
use Rattle.syntax_tree.specs.declared.path.Address.TheVariants.{Number as number_address, Name as named_address}
use Rattle.syntax_tree.specs.declared.path.Path.{Path}
use Rattle.syntax_tree.specs.declared.path.Path.TheVariants.{Name as name_path, Member as member_path, Full as full_path}

abbrev pub address_span : Address → Span
address_span (number_address n) = n.span
address_span (named_address name) = name.span

-- the span of the first token
abbrev pub path_span : Path → Span
path_span (name_path name) = name.span
path_span (member_path owner name) = owner.span
path_span (full_path owner name) = address_span owner.address

abbrev pub literal_span : Literal → Span
literal_span (number_literal n) = n.span
literal_span (truth_literal span value) = span
literal_span (address_literal span address) = span
