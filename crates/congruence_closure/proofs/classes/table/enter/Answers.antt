use Rattle.std.proofs.Common.{arith}
use Rattle.std.proofs.lemmas.Result.{on_ok_weaker}
use Rattle.indexmap.specs.IndexMap.{get}
use Rattle.term_pool.specs.NodeCodes.{same_node}
use Rattle.congruence_closure.proofs.TableLemmas.{key_within, key_linked, key_noted}
use Rattle.congruence_closure.proofs.classes.table.enter.Goals as goal

pub link-requires-clause-right : goal.link-requires-clause-right
link-requires-clause-right c =
    let h = key_within c.args.nodes.now c.args.classes.now c.requires.named (get same_node c.args.table.now) c.requires.honest c.args.waiting.now.items c.args.number _ c.signature-key.result c.requires.within c.signature-key.ensures c.look_up.result c.look_up.ensures c.in-Some.holder c.in-Some.is in
    omega (arith, h, c.requires.one_each)

pub returns-in-Some : goal.returns-in-Some
returns-in-Some c =
    on_ok_weaker c.link.result
    (λ up. key_linked c.args.nodes.now c.args.classes.now c.requires.named (get same_node c.args.table.now) c.requires.honest c.args.waiting.now.items c.args.number _ c.signature-key.result c.requires.within c.signature-key.ensures c.look_up.result c.look_up.ensures c.link.new.waiting.items c.in-Some.holder c.in-Some.is up)
    c.link.ensures

pub returns-in-None : goal.returns-in-None
returns-in-None c =
    on_ok_weaker c.note.result
    (λ noted. key_noted c.args.nodes.now c.args.classes.now c.requires.named (get same_node c.args.table.now) c.requires.honest c.args.waiting.now.items c.args.number _ c.signature-key.result c.requires.within c.signature-key.ensures c.look_up.result c.look_up.ensures (get same_node c.note.new.table) c.in-None.is noted)
    c.note.ensures
