use Rattle.std.proofs.Common.{◌≡◌, List, ℕ, [], ◌∷◌, ◌++◌, get_or, ap, ◌∙◌}
use Rattle.std.proofs.lemmas.List.{get_or_default}
use Rattle.std.proofs.lemmas.Result.{on_ok_weaker}
use Rattle.congruence_closure.proofs.StateLemmas.{one_added}
use Rattle.congruence_closure.proofs.classes.state.add_one_user.Goals as goal

pub returns : goal.returns
returns c =
    let read = get_or_default c.args.users.now c.args.part c.index-users-part.result [] c.requires in
    on_ok_weaker c.push.result
    (λ (e : c.push.new.self ≡ get_or c.args.users.now c.args.part c.index-users-part.result ++ c.args.number ∷ []). one_added c.args.users.now c.args.part c.args.number c.push.new.self c.requires (e ∙ ap (λ (xs : List ℕ). xs ++ c.args.number ∷ []) read))
    c.push.ensures
