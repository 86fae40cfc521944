-- One level of a step and of a move; the parts below are pure data.
use Rattle.certificates.specs.CertData.{StepData, PartsStep, AxiomStep, InstanceStep, NameStep, RewriteStep, CloseData, LinearClose, ClashClose, FalseClose, MoveData, StraightMove, ForkedMove, ClosedMove}
use Rattle.certificates.specs.declared.certificate.StepNode.{StepNode}
use Rattle.certificates.specs.declared.certificate.StepNode.TheVariants.{Parts, Axiom, Instance, Name, Rewrite}
use Rattle.certificates.specs.declared.certificate.Close.{Close}
use Rattle.certificates.specs.declared.certificate.Close.TheVariants.{Linear, Clash, False}
use Rattle.certificates.specs.declared.certificate.MoveNode.{MoveNode}
use Rattle.certificates.specs.declared.certificate.MoveNode.TheVariants.{Straight, Forked, Closed}

abbrev pub step_of_node : StepNode → StepData
step_of_node (Parts i ps) = PartsStep i ps.items
step_of_node (Axiom name p) = AxiomStep name p
step_of_node (Instance i t p) = InstanceStep i t p
step_of_node (Name i v p) = NameStep i v p
step_of_node (Rewrite i j x c p) = RewriteStep i j x c p

abbrev pub close_of_node : Close → CloseData
close_of_node (Linear multiples) = LinearClose multiples.items
close_of_node (Clash i j) = ClashClose i j
close_of_node (False i) = FalseClose i

abbrev pub move_of_node : MoveNode → MoveData
move_of_node (Straight step) = StraightMove step
move_of_node (Forked cause cases) = ForkedMove cause cases.items
move_of_node (Closed by) = ClosedMove (close_of_node by)
