use Rattle.std.proofs.Common.{◌≡◌, ◌-◌, length}
use Rattle.tokens.specs.declared.token.Punctuation.TheVariants.{RightBrace}
use Rattle.parser_base.specs.TokenReading.{after_sign}
use Rattle.parser_base.specs.ListReading.{items_at, put_before}
use Rattle.item_parser.specs.ImportReading.{import_at}
use Rattle.item_parser.proofs.imports.read_import_list.Given as goal

abbrev pub invariant-loop : goal.invariant-loop
invariant-loop l = items_at (after_sign RightBrace) import_at (length l.tokens) l.tokens ≡ put_before l.items.items (items_at (after_sign RightBrace) import_at (length l.tokens - l.counter) l.rest)
