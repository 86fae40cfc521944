use Rattle.std.proofs.Common.{List, [], length, sym, subst, ◌++◌}
use Rattle.base.specs.declared.span.Span.{Span}
use Rattle.syntax_tree.specs.PatternData.{patterns_of}
use Rattle.program.specs.declared.code.CodeMany.TheVariants.{TuplePattern}
use Rattle.body_names.specs.CodeAdded.{Added}
use Rattle.body_names.specs.CodeSetting.{setting}
use Rattle.body_names.specs.PatternTrees.{parenthesized, pattern_trees, patterns_names, patterns_spans}
use Rattle.body_names.proofs.CodeAddedLaws.{added-parenthesized, parts-below}
use Rattle.body_names.proofs.PatternListings.{patterns_own-is}
use Rattle.body_names.proofs.code.patterns.+resolve_pattern.Goals as goal

pub resolve_tuple-parenthesized-requires : goal.resolve_tuple-parenthesized-requires
resolve_tuple-parenthesized-requires t c = parts-below c.in_ok-parts.ensures.added

pub resolve_tuple-returns-clause-added : goal.resolve_tuple-returns-clause-added
resolve_tuple-returns-clause-added t c =
    let trees = pattern_trees (setting c.args.context.now) (length c.args.into.now.locals) (patterns_of c.args.items.now) in
    let P : List Span → Type 0 = λ own. Added (parenthesized TuplePattern trees) (patterns_spans (patterns_of c.args.items.now) ++ own) (patterns_names (patterns_of c.args.items.now)) [] c.args.into.now c.parenthesized.new.self c.in_ok-index.index in
    subst P (sym (patterns_own-is (setting c.args.context.now) (length c.args.into.now.locals) c.args.span (patterns_of c.args.items.now)))
    (added-parenthesized TuplePattern trees c.args.span c.resolve_patterns.new.into c.parenthesized.new.self c.in_ok-parts.parts c.in_ok-index.index c.in_ok-parts.ensures.added c.in_ok-index.ensures.closed)

pub resolve_unpack-close_unpack-requires : goal.resolve_unpack-close_unpack-requires
resolve_unpack-close_unpack-requires t c = parts-below c.in_ok-parts.ensures.added
