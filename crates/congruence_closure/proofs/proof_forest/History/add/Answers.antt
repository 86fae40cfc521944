use Rattle.std.proofs.Common.{◌≡◌, ◌≢◌, inl, inr, ℕ, suc, ◌+◌, ◌<◌, List, length, Option, Some, refl, sym, subst, slice_get, arith}
use Rattle.std.proofs.lemmas.Option.{slice_get-get_or}
use Rattle.congruence_closure.specs.declared.classes.link.Link.{Link}
use Rattle.congruence_closure.specs.Histories.{AreAmong, IsRoot, IsHistory, IsLed}
use Rattle.congruence_closure.specs.declared.proof_forest.Step.{Step}
use Rattle.congruence_closure.proofs.RootLemmas.{root_within}
use Rattle.congruence_closure.proofs.StepLemmas.{goes_on, goes_on_with}
use Rattle.congruence_closure.proofs.proof_forest.History.add.Goals as goal

next : (ls : List Link) (n : ℕ) (steps : List (Option Step)) → IsHistory ls (suc n) steps → IsHistory ls (n + 1) steps
next ls n steps h = (let e : suc n ≡ n + 1 = omega arith in subst (λ m. IsHistory ls m steps) e h)

module _ (ls : List Link) (n : ℕ) (steps : List (Option Step)) (h : IsHistory ls n steps) (among : AreAmong ls (length steps)) (last : Link) (found : slice_get ls n ≡ Some last) (one other : ℕ) (left : IsRoot steps n last.left one) (right : IsRoot steps n last.right other) where
  one_within : one < length steps
  one_within = root_within steps h.rising n last.left one (among.left n last found) left

  other_within : other < length steps
  other_within = root_within steps h.rising n last.right other (among.right n last found) right

  with_step : (more : List (Option Step)) → one ≢ other → IsLed steps one other n more → IsHistory ls (n + 1) more
  with_step more d (inl e) = next ls n more (subst (IsHistory ls (suc n)) (sym e) (goes_on_with ls n steps h last found one other left right one other d (inl (refl, refl)) one_within other_within))
  with_step more d (inr e) = next ls n more (subst (IsHistory ls (suc n)) (sym e) (goes_on_with ls n steps h last found one other left right other one (λ f. d (sym f)) (inr (refl, refl)) other_within one_within))

  without : one ≡ other → IsHistory ls (n + 1) steps
  without e = next ls n steps (goes_on ls n steps h last found one left (subst (IsRoot steps n last.right) (sym e) right))

pub lead-requires-clause-left : goal.lead-requires-clause-left
lead-requires-clause-left c = one_within c.args.links.now c.args.number c.args.self.now c.requires.history c.requires.among _ (slice_get-get_or c.args.links.now c.args.number _ c.requires.number) c.root-left.result c.root-right.result c.root-left.ensures c.root-right.ensures

pub lead-requires-clause-right : goal.lead-requires-clause-right
lead-requires-clause-right c = other_within c.args.links.now c.args.number c.args.self.now c.requires.history c.requires.among _ (slice_get-get_or c.args.links.now c.args.number _ c.requires.number) c.root-left.result c.root-right.result c.root-left.ensures c.root-right.ensures

pub returns-then-left-right-clause-history : goal.returns-then-left-right-clause-history
returns-then-left-right-clause-history c = with_step c.args.links.now c.args.number c.args.self.now c.requires.history c.requires.among _ (slice_get-get_or c.args.links.now c.args.number _ c.requires.number) c.root-left.result c.root-right.result c.root-left.ensures c.root-right.ensures c.lead.new.self c.if-left-right.true c.lead.ensures

pub returns-else-left-right-clause-history : goal.returns-else-left-right-clause-history
returns-else-left-right-clause-history c = without c.args.links.now c.args.number c.args.self.now c.requires.history c.requires.among _ (slice_get-get_or c.args.links.now c.args.number _ c.requires.number) c.root-left.result c.root-right.result c.root-left.ensures c.root-right.ensures c.if-left-right.false
