use Rattle.std.proofs.Common.{[], ◌∷◌, ◌++◌, Some, ap, ◌∙◌}
use Rattle.ematching.specs.Heads.{last_of}
use Rattle.ematching.proofs.HeadLemmas.{not_same_node}
use Rattle.ematching.proofs.heads.HeadIndex.add.Goals as goal

pub returns : goal.returns
returns c = record {
  before = c.in_ok-push.ensures.items ∙ ap (λ o. c.args.self.now.before.items ++ o ∷ []) (c.last-before.ensures ∙ ap (last_of c.args.self.now) c.head_of-head.ensures);
  last = rw (← c.head_of-head.ensures) (c.in_ok-insert.ensures.updates.1 ∙ ap Some (c.len-number.ensures ∙ c.args.self.now.before.ok.0));
  others = λ h other. c.in_ok-insert.ensures.updates.2 h (not_same_node c.head_of-head.result h (λ e. other (e ∙ c.head_of-head.ensures)));
}
