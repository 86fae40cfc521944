use Rattle.std.proofs.Common.{◌≡◌, ◌-◌, length}
use Rattle.parser_base.specs.RepeatReading.{put_all, repeat_at}
use Rattle.item_parser.specs.FileReading.{before_module, module_behind}
use Rattle.item_parser.proofs.module.read_file.Given as goal

abbrev pub invariant-loop : goal.invariant-loop
invariant-loop l =
    repeat_at before_module (module_behind l.budget) (length l.tokens) l.tokens ≡ put_all l.modules.items (repeat_at before_module (module_behind l.budget) (length l.tokens - l.counter) l.rest)
