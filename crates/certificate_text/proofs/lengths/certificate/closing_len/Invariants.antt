use Rattle.std.proofs.Common.{◌≡◌, ◌+◌, map, take}
use Rattle.certificates.specs.CertView.{close_of_node}
use Rattle.certificates.specs.Lengths.{capped, close_length, moves_length}
use Rattle.certificate_text.specs.Moves.{link_move}
use Rattle.certificate_text.proofs.lengths.certificate.closing_len.Given as goal

abbrev pub invariant-loop-link : goal.invariant-loop-link
invariant-loop-link l = l.total ≡ capped (close_length (close_of_node l.closing.by) + moves_length (map (link_move l.pool) (take l.link-index l.closing.chain.items)))
