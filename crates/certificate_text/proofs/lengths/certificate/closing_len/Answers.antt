use Rattle.std.proofs.Common.{◌≡◌, ◌<◌, ◌≤◌, ◌∙◌, length, get_or, subst}
use Rattle.certificates.specs.CertView.{close_of_node}
use Rattle.certificates.specs.Lengths.{capped, close_length, move_length}
use Rattle.explanations.specs.declared.chain.ChainStep.{ChainStep}
use Rattle.explanations.specs.declared.chain.ChainStep.TheVariants.{Itself}
use Rattle.certificate_text.specs.Moves.{link_move}
use Rattle.certificate_text.proofs.LengthsMoveLemmas.{links_next, links_whole}
use Rattle.certificate_text.proofs.lengths.certificate.closing_len.Goals as goal

abbrev some_link : ChainStep
some_link = Itself 0

pub loop-link-preserved : goal.loop-link-preserved
loop-link-preserved c =
    let ns = c.args.pool.now in
    let i = c.loop-link.link-index in
    let same = c.as_slice-link-items.ensures.value in
    c.sum-total.ensures
    ∙ links_next c.args.closing.now.chain.items i some_link (subst (λ ls. i < length ls) same c.loop-link-test.true) c.loop-link.total c.link_len.result (link_move ns) (close_length (close_of_node c.args.closing.now.by)) c.loop-link.invariant
    (subst (λ ls. c.link_len.result ≡ capped (move_length (link_move ns (get_or ls i some_link)))) same c.link_len.ensures)

pub returns : goal.returns
returns c =
    let ns = c.args.pool.now in
    let same = c.as_slice-link-items.ensures.value in
    links_whole (link_move ns) c.args.closing.now.chain.items c.loop-link.link-index c.loop-link.total (close_of_node c.args.closing.now.by) (subst (λ ls. length ls ≤ c.loop-link.link-index) same c.loop-link-test.false) c.loop-link.invariant
