use Rattle.std.proofs.Common.{◌≡◌, ℕ, ◌≤◌, List, length, take, sym, ap, ◌∙◌, subst}
use Rattle.std.specs.List.{flat_map}
use Rattle.std.proofs.lemmas.List.{take_all}
use Rattle.std.proofs.lemmas.List.Elements.{All-get_or}
use Rattle.certificates.specs.CertData.{MoveData}
use Rattle.certificates.specs.Closes.{Certifies}
use Rattle.term_pool.specs.declared.node.Node.{Node}
use Rattle.certificates.specs.Moves.{all_moves}
use Rattle.certificates.specs.ProofTraces.{Application}
use Rattle.search.specs.declared.trees.application.PoolApplication.{PoolApplication}
use Rattle.certificate_text.specs.Moves.{moves_of_application, FitsApplication}
use Rattle.certificate_text.proofs.trees.certificate.certificate.Goals as goal

pub add_moves-requires : goal.add_moves-requires
add_moves-requires c =
    let text = c.args.text.now in
    let x = c.application-item.result in
    subst FitsApplication (sym c.application-item.is) (All-get_or FitsApplication text c.loop-application.application-index x c.loop-application-test.true c.requires.each)

moves_are : (ns : List Node) (text : List PoolApplication) (i : ℕ) (moves : List MoveData) (applications : List Application) → length text ≤ i → moves ≡ flat_map (moves_of_application ns) (take i text) → flat_map (moves_of_application ns) text ≡ all_moves applications → moves ≡ all_moves applications
moves_are ns text i moves applications over h e = h ∙ ap (flat_map (moves_of_application ns)) (take_all i text over) ∙ e

pub returns-clause-moves : goal.returns-clause-moves
returns-clause-moves c = λ applications are. (
    let ns = c.args.pool.now in
    let text = c.args.text.now in
    moves_are ns text c.loop-application.application-index c.loop-application.moves.items applications c.loop-application-test.false c.loop-application.invariant (c.moves_by_number.ensures ns text applications are))

pub returns-clause-certifies : goal.returns-clause-certifies
returns-clause-certifies c = λ shapes p applications are proof. (
    let ns = c.args.pool.now in
    let text = c.args.text.now in
    let moves = moves_are ns text c.loop-application.application-index c.loop-application.moves.items applications c.loop-application-test.false c.loop-application.invariant (c.moves_by_number.ensures ns text applications are) in
    subst (λ ms. Certifies shapes ms p) (sym moves) (c.proofs_are_certified.ensures shapes p applications proof))
