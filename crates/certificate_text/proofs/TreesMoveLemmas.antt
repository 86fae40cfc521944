-- The moves of rule applications by number are those of the applications that they represent.
use Rattle.std.proofs.Common.{◌≡◌, ℕ, List, [], ◌∷◌, ◌++◌, map, refl, sym, ap, ◌∙◌}
use Rattle.std.specs.List.{AllZip, flat_map}
use Rattle.fol.specs.FormulaData.{FormulaData}
use Rattle.certificates.specs.CertData.{InstanceStep, NameStep, AxiomStep, StraightMove, ForkedMove, ClosedMove}
use Rattle.certificates.specs.CertView.{close_of_node}
use Rattle.certificates.specs.declared.certificate.Cause.TheVariants.{Cut as CutCause, Bound as BoundCause}
use Rattle.term_pool.specs.declared.node.Node.{Node}
use Rattle.certificates.specs.Moves.{moves_of, all_moves}
use Rattle.certificates.specs.ProofTraces.{Application}
use Rattle.explanations.specs.Chains.{step_in}
use Rattle.explanations.specs.declared.chain.ChainStep.{ChainStep}
use Rattle.search.specs.Applications.{term_at, formulas_of, IsAddedFor, AsParts, AsName, AsInstance, AsAxiom, AsSplit, AsCut, AsBound, IsApplicationOf}
use Rattle.search.specs.declared.trees.application.Reason.{Reason}
use Rattle.search.specs.declared.trees.application.PoolApplication.{PoolApplication}
use Rattle.search.specs.declared.trees.application.PoolApplication.TheVariants.{Grown, Closed}
use Rattle.certificate_text.specs.Moves.{first_of, move_for, link_move, moves_of_application}

added_moves : (ns : List Node) (ps : List FormulaData) (r : Reason) (g : ℕ) (application : Application) → IsAddedFor ns ps r g application → move_for ns ps r ∷ [] ≡ moves_of application
added_moves ns ps r g application (AsParts i k) = refl
added_moves ns ps r g application (AsName i v k p is) = ap (λ qs. StraightMove (NameStep i v (first_of qs)) ∷ []) is
added_moves ns ps r g application (AsInstance i t k p is) = ap (λ qs. StraightMove (InstanceStep i (term_at ns t) (first_of qs)) ∷ []) is
added_moves ns ps r g application (AsAxiom name k p is) = ap (λ qs. StraightMove (AxiomStep name (first_of qs)) ∷ []) is
added_moves ns ps r g application (AsSplit i k) = refl
added_moves ns ps r g application (AsCut t u k is) = ap (λ qs. ForkedMove CutCause qs ∷ []) is
added_moves ns ps r g application (AsBound i t k z is) = ap (λ qs. ForkedMove (BoundCause i) qs ∷ []) is

link_moves : (ns : List Node) (ss : List ChainStep) → map (link_move ns) ss ≡ map StraightMove (map (step_in ns) ss)
link_moves ns [] = refl
link_moves ns (s ∷ ss) = ap (λ ms. link_move ns s ∷ ms) (link_moves ns ss)

application_moves : (ns : List Node) (t : PoolApplication) (application : Application) → IsApplicationOf ns t application → moves_of_application ns t ≡ moves_of application
application_moves ns (Grown g) application h = added_moves ns (formulas_of ns g) g.reason g.generation application h.added
application_moves ns (Closed c) application h = ap (λ ms. ms ++ ClosedMove (close_of_node c.by) ∷ []) (link_moves ns c.chain.items) ∙ ap moves_of (sym h.is)

pub text_moves : (ns : List Node) (text : List PoolApplication) (applications : List Application) → AllZip (IsApplicationOf ns) text applications → flat_map (moves_of_application ns) text ≡ all_moves applications
text_moves ns [] [] h = refl
text_moves ns [] (application ∷ applications) h = absurd h
text_moves ns (t ∷ text) [] h = absurd h
text_moves ns (t ∷ text) (application ∷ applications) h =
    let first = application_moves ns t application h.0 in
    let rest = text_moves ns text applications h.1 in
    ap (λ ms. ms ++ flat_map (moves_of_application ns) text) first ∙ ap (λ ms. moves_of application ++ ms) rest
