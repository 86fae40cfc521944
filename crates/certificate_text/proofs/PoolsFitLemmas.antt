-- A certificate can hold the numbers of a renumbered trace if it can hold those of the trace.
use Rattle.std.proofs.Common.{◌≡◌, ℕ, ◌<◌, ◌^◌, List, [], ◌∷◌, length, map, refl, sym, ap, ◌∙◌, subst, arith}
use Rattle.std.specs.Prelude.{All}
use Rattle.std.specs.List.{AllZip}
use Rattle.std.proofs.lemmas.List.{length-map}
use Rattle.std.proofs.lemmas.List.Elements.{All-nil, All-cons, All-head, All-tail}
use Rattle.explanations.specs.declared.chain.ChainStep.{ChainStep}
use Rattle.explanations.specs.declared.chain.ChainStep.TheVariants.{Itself, Rewritten}
use Rattle.search.specs.declared.trees.application.Reason.{Reason}
use Rattle.search.specs.declared.trees.application.Reason.TheVariants.{Parts, Name, Instance, Axiom, Split, Cut, Bound}
use Rattle.search.specs.declared.trees.application.PoolApplication.{PoolApplication}
use Rattle.search.specs.declared.trees.application.PoolApplication.TheVariants.{Grown, Closed}
use Rattle.certificate_text.specs.Moves.{named_entry, spells_first, FitsLink, FitsApplication, FitApplications}
use Rattle.certificate_text.specs.Nodes.{new_number}
use Rattle.certificate_text.specs.Applications.{reason_anew, step_anew, IsApplicationAnew}

reason_fits : (ks : List ℕ) (r : Reason) → named_entry r < 2 ^ 32 → named_entry (reason_anew ks r) < 2 ^ 32
reason_fits ks (Parts i) h = h
reason_fits ks (Name i v) h = h
reason_fits ks (Instance i t) h = h
reason_fits ks (Axiom name) h = h
reason_fits ks (Split i) h = h
reason_fits ks (Cut t u) h = h
reason_fits ks (Bound i t k) h = h

reason_spells : (ks : List ℕ) (r : Reason) → spells_first (reason_anew ks r) ≡ spells_first r
reason_spells ks (Parts i) = refl
reason_spells ks (Name i v) = refl
reason_spells ks (Instance i t) = refl
reason_spells ks (Axiom name) = refl
reason_spells ks (Split i) = refl
reason_spells ks (Cut t u) = refl
reason_spells ks (Bound i t k) = refl

chain_fits : (ks : List ℕ) (ss : List ChainStep) → All FitsLink ss → All FitsLink (map (step_anew ks) ss)
chain_fits ks [] h = All-nil FitsLink
chain_fits ks (Itself k ∷ ss) h =
    All-cons FitsLink (Itself (new_number ks k)) (map (step_anew ks) ss) (record { equation = omega arith; source = omega arith }) (chain_fits ks ss (All-tail FitsLink (Itself k) ss h))
chain_fits ks (Rewritten r ∷ ss) h =
    let first = All-head FitsLink (Rewritten r) ss h in
    All-cons FitsLink (step_anew ks (Rewritten r)) (map (step_anew ks) ss) (record { equation = first.equation; source = first.source }) (chain_fits ks ss (All-tail FitsLink (Rewritten r) ss h))

application_fits : (ks : List ℕ) (t u : PoolApplication) → IsApplicationAnew ks t u → FitsApplication t → FitsApplication u
application_fits ks (Grown g) (Grown h) anew fits = record {
  entry = subst (λ r. named_entry r < 2 ^ 32) (sym anew.reason) (reason_fits ks g.reason fits.entry);
  some = λ e. (
      let some = fits.some (sym (reason_spells ks g.reason) ∙ sym (ap spells_first anew.reason) ∙ e) in
      let l = ap length anew.formulas in
      omega (arith, some, l, length-map g.formulas.items (new_number ks)));
}
application_fits ks (Grown g) (Closed d) anew fits = absurd anew
application_fits ks (Closed c) (Grown h) anew fits = absurd anew
application_fits ks (Closed c) (Closed d) anew fits = record { links = subst (All FitsLink) (sym anew.chain) (chain_fits ks c.chain.items fits.links) }

text_fits : (ks : List ℕ) (ts us : List PoolApplication) → AllZip (IsApplicationAnew ks) ts us → All FitsApplication ts → All FitsApplication us
text_fits ks [] [] anew fits = All-nil FitsApplication
text_fits ks [] (u ∷ us) anew fits = absurd anew
text_fits ks (t ∷ ts) [] anew fits = absurd anew
text_fits ks (t ∷ ts) (u ∷ us) anew fits =
    All-cons FitsApplication u us (application_fits ks t u anew.0 (All-head FitsApplication t ts fits)) (text_fits ks ts us anew.1 (All-tail FitsApplication t ts fits))

pub still_fit : (ks : List ℕ) (ts us : List PoolApplication) → AllZip (IsApplicationAnew ks) ts us → FitApplications ts → FitApplications us
still_fit ks ts us anew fits = record { each = text_fits ks ts us anew fits.each }
