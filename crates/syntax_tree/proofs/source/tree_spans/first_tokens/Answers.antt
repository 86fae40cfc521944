use Rattle.syntax_tree.proofs.SpanLaws.{path_first, type_first, expression_first, spec_first}
use Rattle.syntax_tree.proofs.source.tree_spans.first_tokens.Goals as goal

pub returns-clause-paths : goal.returns-clause-paths
returns-clause-paths c = path_first

pub returns-clause-types : goal.returns-clause-types
returns-clause-types c = type_first

pub returns-clause-expressions : goal.returns-clause-expressions
returns-clause-expressions c = expression_first

pub returns-clause-specs : goal.returns-clause-specs
returns-clause-specs c = spec_first
