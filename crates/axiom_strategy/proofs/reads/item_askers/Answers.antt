use Rattle.std.proofs.Common.{get_or, ap, ◌∙◌}
use Rattle.std.proofs.lemmas.List.{take_all}
use Rattle.std.proofs.lemmas.List.Elements.{Contains-get_or}
use Rattle.tableau.proofs.BranchLemmas.{known_term}
use Rattle.axiom_strategy.specs.declared.typings.Typing.{Typing}
use Rattle.axiom_strategy.specs.Reads.{item_list}
use Rattle.axiom_strategy.proofs.ReadAskLemmas.{item_taken, items_ask}
use Rattle.axiom_strategy.proofs.TypedLemmas.{typed_term, typed_number}
use Rattle.axiom_strategy.proofs.reads.item_askers.Goals as goal

abbrev none : Typing
none = record { of = 0; term = 0 }

pub keys-requires : goal.keys-requires
keys-requires c =
    let ns = c.args.pool.now in
    let xs = c.args.typings.now in
    let i = c.loop-typing.typing-index in
    known_term ns c.one_number.ensures c.args.branch.now c.requires.over c.args.classes.now c.requires.classes (get_or xs i none).term
    (typed_term (typed_number ns c.args.branch.now xs c.requires.typings (get_or xs i none) (Contains-get_or xs i none c.loop-typing-test.true)))

pub loop-typing-preserved : goal.loop-typing-preserved
loop-typing-preserved c =
    item_taken c.args.index.now c.args.classes.now c.args.typings.now c.loop-typing.typing-index none c.loop-typing-test.true c.loop-typing.invariant c.in_ok-positions.ensures (rw c.as_slice.ensures.value at c.in_ok-add_positions.ensures)

pub returns : goal.returns
returns c =
    items_ask c.args.pool.now c.one_number.ensures c.args.branch.now c.requires.over c.args.classes.now c.requires.classes c.exact.ensures c.args.index.now c.requires.index c.args.typings.now c.requires.typings c.loop-typing.askers.items
    (c.loop-typing.invariant ∙ ap (item_list c.args.index.now c.args.classes.now) (take_all c.loop-typing.typing-index c.args.typings.now c.loop-typing-test.false))
