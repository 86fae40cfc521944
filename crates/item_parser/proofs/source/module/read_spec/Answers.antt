use Rattle.std.proofs.Common.{sym, subst, rules}
use Rattle.syntax_tree.specs.DenotedClauses.{IsSpecBlockOf}
use Rattle.item_parser.specs.DenotedBlocks.{IsCause}
use Rattle.item_parser.specs.SpecFault.{IfNoSpec}
use Rattle.item_parser.specs.Reading.{HasNoTree}
use Rattle.item_parser.proofs.SpecLemmas.{tree_is_read, no_tree_is_read, settled}
use Rattle.item_parser.proofs.source.module.read_spec.Goals as goal

pub returns-in-Ok : goal.returns-in-Ok
returns-in-Ok c = λ names same.
    tree_is_read names c.args.functions.now same c.args.block.now c.in-Ok.tree
    (settled (λ slot. IsSpecBlockOf slot c.in-Ok.tree c.args.block.now.tokens) c.args.functions.now c.args.block.now c.slot_of_block-slot.result c.as_slice.result.now (search rules) c.slot_of_block-slot.ensures c.in-Ok.ensures.denoted)

pub returns-in-Err : goal.returns-in-Err
returns-in-Err c = λ names same.
    subst (λ fault. IfNoSpec fault (HasNoTree names c.args.block.now)) (sym c.fault_of.ensures)
    (no_tree_is_read names c.args.functions.now same c.args.block.now c.in-Err.fault
    (settled (λ slot. IsCause slot c.args.block.now.tokens c.in-Err.fault) c.args.functions.now c.args.block.now c.slot_of_block-slot.result c.as_slice.result.now (search rules) c.slot_of_block-slot.ensures c.in-Err.ensures.refused))
