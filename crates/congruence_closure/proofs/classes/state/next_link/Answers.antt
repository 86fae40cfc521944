use Rattle.std.proofs.Common.{◌≡◌, [], sym, ◌∙◌}
use Rattle.std.proofs.lemmas.List.{nil_from_length}
use Rattle.congruence_closure.specs.Signatures.{class_in}
use Rattle.congruence_closure.proofs.StateLemmas.{ahead_done}
use Rattle.congruence_closure.proofs.classes.state.next_link.Goals as goal

pub returns : goal.returns
returns c =
    let lengths = c.in_default.ensures.cases in
    let none : c.loop-link.waiting.items ≡ [] = nil_from_length c.loop-link.waiting.items (sym c.loop-link.waiting.ok.0 ∙ lengths.0) in
    let over : c.pop.new.self.items ≡ [] = nil_from_length c.pop.new.self.items (sym c.pop.new.self.ok.0 ∙ lengths.1) in
    ahead_done (class_in c.args.classes.now) c.args.waiting.now.items c.loop-link.waiting.items c.pop.new.self.items (record { near = c.loop-link.invariant.near; among = c.loop-link.invariant.among }) none over
