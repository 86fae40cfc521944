-- A search that continues, and what is known of its branch while the pool is extended.
use Rattle.std.proofs.Common.{◌≡◌, ◌≢◌, ◌⊎◌, inl, inr, ℕ, zero, suc, ◌+◌, ◌<◌, ◌≤◌, ◌^◌, Bool, true, false, IsTrue, List, [], ◌∷◌, length, Option, None, Result, Ok, Err, IfOk, sym, ◌∙◌, subst, arith}
use Rattle.std.specs.Prelude.{◌↔◌, All, MatchBool, MatchOption}
use Rattle.std.proofs.lemmas.Bool.{cases_lt}
use Rattle.std.proofs.lemmas.List.{length-map}
use Rattle.std.proofs.lemmas.List.Elements.{All-nil, All-head}
use Rattle.fol.specs.declared.shapes.Shape.{Shape}
use Rattle.fol.specs.FormulaData.{FormulaData}
use Rattle.certificates.specs.Closes.{most_entries}
use Rattle.term_pool.specs.Pools.{Extends}
use Rattle.term_pool.specs.declared.node.Node.{Node}
use Rattle.certificates.specs.BranchesBranch.{Branch, formulas}
use Rattle.certificates.specs.Names.{above_all}
use Rattle.certificates.specs.Due.{IsNotClosed, IsSaturated}
use Rattle.certificates.specs.ProofTraces.{Application, NothingEarly, IsLate, IsDueApplication, IsShortBranch, left_of}
use Rattle.tableau.specs.PoolBranches.{BranchData, entry_in, branch_in, IsOver}
use Rattle.tableau.proofs.PushLemmas.{over_still, says_still}
use Rattle.search.specs.Applications.{is_fork, entry_of, IsGenerationFrom, IsExtensionOf, IsClosingOf, IsDueOn}
use Rattle.search.specs.Trees.{IsText, IsTree}
use Rattle.search.specs.declared.trees.tree.SearchTree.{SearchTree}
use Rattle.search.specs.declared.trees.application.Extension.{Extension}
use Rattle.search.specs.declared.trees.application.Closing.{Closing}
use Rattle.search.proofs.TreeLemmas.{match_map}
use Rattle.search.proofs.StayLemmas.{tree_stays}
use Rattle.search.specs.Decisions.{IsCrowded, HasRoom, IsLevel, LeavesShort, IsExtensionDue, IsClosingDue, NothingPlain, NothingLate, HasValues, IsDecided}
use Rattle.search.specs.declared.decisions.Decision.{Decision}
use Rattle.search.specs.Ends.{Claim, IsGoing, IsDone, ShowsEnd}
use Rattle.search.specs.declared.end.End.TheVariants.{Spent, SpentInChain, Full}
use Rattle.search.proofs.LevelLemmas.{levels, shorts}
use Rattle.search.proofs.LengthLemmas.{due_on, full_next}

module _ (ns ms : List Node) (grown : Extends ns ms) where
  pub branch_stays : (d : BranchData) → IsOver ns d → branch_in ms d ≡ branch_in ns d
  branch_stays d over = says_still ns ms grown d.entries over.formulas

  pub over_stays : (d : BranchData) → IsOver ns d → IsOver ms d
  over_stays d over = over_still ns ms grown d over

  -- what holds of the branch still holds of it
  pub fact_stays : (P : Branch → Type 0) (d : BranchData) → IsOver ns d → P (branch_in ns d) → P (branch_in ms d)
  fact_stays P d over h = subst P (sym (branch_stays d over)) h

  pub fact_goes_back : (P : Branch → Type 0) (d : BranchData) → IsOver ns d → P (branch_in ms d) → P (branch_in ns d)
  fact_goes_back P d over h = subst P (branch_stays d over) h

  pub going_stays : (shapes : List Shape) (claim : Claim) (left : ℕ) (t : SearchTree) → IsGoing shapes claim left ns t → IsGoing shapes claim left ms t
  going_stays shapes claim left t h = record { spent = h.spent; sum = h.sum; tree = tree_stays ns ms grown shapes claim.formula h.spent t h.tree }

-- the current branch is level
pub level_at : (shapes : List Shape) (p : FormulaData) (spent : ℕ) (ns : List Node) (t : SearchTree) → IsTree shapes p spent ns t → IsLevel (branch_in ns t.branch)
level_at shapes p spent ns t tree =
    let all : All IsLevel (branch_in ns t.branch ∷ _) = subst (All IsLevel) tree.text.branches (levels shapes p tree.text.applications tree.text.due) in
    All-head IsLevel (branch_in ns t.branch) _ all

-- the current branch does not exceed the maximal length
pub short_at : (shapes : List Shape) (p : FormulaData) (spent : ℕ) (ns : List Node) (t : SearchTree) → IsTree shapes p spent ns t → IsShortBranch (branch_in ns t.branch)
short_at shapes p spent ns t tree =
    let all : All IsShortBranch (branch_in ns t.branch ∷ _) = subst (All IsShortBranch) tree.text.branches (shorts shapes p tree.text.applications tree.text.due) in
    All-head IsShortBranch (branch_in ns t.branch) _ all

-- if nothing is due and nothing closes the branch, it is saturated
pub saturated_by : (shapes : List Shape) (b : Branch) → IsLate shapes b → NothingPlain shapes b → NothingLate b → IsSaturated shapes b
saturated_by shapes b late plain none = record {
  nothing_due = record {
    no_parts = late.nothing_early.no_parts;
    no_split = none.no_split;
    no_name = late.nothing_early.no_name;
    no_instance = plain.no_instance;
    no_axiom = plain.no_axiom;
    no_cut = none.no_cut;
  };
  not_closed = late.not_closed;
}

pub late_by : (shapes : List Shape) (b : Branch) → NothingEarly shapes b → IsNotClosed b → HasValues b → IsLate shapes b
late_by shapes b early closed h = record { nothing_early = early; not_closed = closed; values = h.values; met = h.met }

pub length_in : (ns : List Node) (d : BranchData) → length (branch_in ns d) ≡ length d.entries
length_in ns d = length-map d.entries (entry_in ns)

-- ---- applications

-- what an application that is due does to the tree
abbrev pub Grows : List Node → SearchTree → SearchTree → Extension → Type 0
Grows ns old new g = (shapes : List Shape) (p : FormulaData) (spent : ℕ) (application : Application) → IsTree shapes p spent ns old → IsExtensionOf ns g application → IsGenerationFrom (branch_in ns old.branch) (entry_of g.reason) g.generation → IsDueOn shapes (branch_in ns old.branch) application → IsTree shapes p (spent + 1) ns new

abbrev pub ClosesTree : List Node → SearchTree → SearchTree → Closing → Bool → Type 0
ClosesTree ns old new c more = (shapes : List Shape) (p : FormulaData) (spent : ℕ) (application : Application) → IsTree shapes p spent ns old → IsClosingOf ns c application → IsDueOn shapes (branch_in ns old.branch) application → MatchBool more (IsTree shapes p (spent + length c.chain.items) ns new) (IsText shapes p (spent + length c.chain.items) ns new.text.items [])

module _ (shapes : List Shape) (claim : Claim) (ns : List Node) (t : SearchTree) (left : ℕ) (going : IsGoing shapes claim left ns t) where
  pub full_at : (g : Extension) → IsExtensionDue shapes ns (branch_in ns t.branch) g → (LeavesShort (is_fork g.reason) (length t.branch.entries) (length g.formulas.items) → ⊥) → ShowsEnd shapes claim left ns t Full
  full_at g due long = record {
    spent = going.spent;
    sum = going.sum;
    tree = going.tree;
    shown = full_next shapes ns (branch_in ns t.branch) g due (λ fits. long (subst (λ n. LeavesShort (is_fork g.reason) n (length g.formulas.items)) (length_in ns t.branch) fits));
  }

  pub spent_at : (now : ℕ) → left ≡ 0 → now ≡ 0 → ShowsEnd shapes claim now ns t Spent
  spent_at now none same = record { spent = going.spent; sum = (let s = going.sum in omega (arith, s, none)); tree = going.tree; shown = same }

  pub grown_at : (u : SearchTree) (g : Extension) (now : ℕ) → IsExtensionDue shapes ns (branch_in ns t.branch) g → LeavesShort (is_fork g.reason) (length t.branch.entries) (length g.formulas.items) → now + 1 ≡ left → Grows ns t u g → IsGoing shapes claim now ns u
  grown_at u g now due fits less grows = record {
    spent = going.spent + 1;
    sum = (let s = going.sum in omega (arith, s, less));
    tree = grows shapes claim.formula going.spent due.application going.tree due.is due.from (due_on shapes ns (branch_in ns t.branch) g due (subst (λ n. LeavesShort (is_fork g.reason) n (length g.formulas.items)) (sym (length_in ns t.branch)) fits));
  }

  -- a closing leaves no branch
  closing_on : (c : Closing) (due : IsClosingDue shapes ns (branch_in ns t.branch) c) → IsDueOn shapes (branch_in ns t.branch) due.application
  closing_on c due = record {
    due = due.due;
    short = subst (λ application. All IsShortBranch (left_of (branch_in ns t.branch) application)) (sym due.is.is) (All-nil IsShortBranch);
  }

  pub spent_among : (c : Closing) (done now : ℕ) → IsClosingDue shapes ns (branch_in ns t.branch) c → done ≤ length c.chain.items → now + done ≡ left → now ≡ 0 → ShowsEnd shapes claim now ns t (SpentInChain c done)
  spent_among c done now due within taken none = record {
    spent = going.spent;
    sum = (let s = going.sum in omega (arith, s, taken, none));
    tree = going.tree;
    shown = (none, record { within = within; closes = subst (IsDueApplication shapes (branch_in ns t.branch)) due.is.is due.due });
  }

  pub closed_at : (u : SearchTree) (c : Closing) (now : ℕ) (more : Bool) → IsClosingDue shapes ns (branch_in ns t.branch) c → now + length c.chain.items ≡ left → ClosesTree ns t u c more → MatchBool more (IsGoing shapes claim now ns u) (IsDone shapes claim now ns u)
  closed_at u c now more due taken closes =
      match_map more _ _ _ _
      (λ tree. record { spent = going.spent + length c.chain.items; sum = (let s = going.sum in omega (arith, s, taken)); tree = tree })
      (λ text. record { spent = going.spent + length c.chain.items; sum = (let s = going.sum in omega (arith, s, taken)); text = text })
      (closes shapes claim.formula going.spent due.application going.tree due.is (closing_on c due))

  pub level_of : IsLevel (branch_in ns t.branch)
  level_of = level_at shapes claim.formula going.spent ns t going.tree

  pub short_of : IsShortBranch (branch_in ns t.branch)
  short_of = short_at shapes claim.formula going.spent ns t going.tree

pub at_true : (b : Bool) (P Q : Type 0) → b ≡ true → MatchBool b P Q → P
at_true b P Q e m = subst (λ t. MatchBool t P Q) e m

pub at_false : (b : Bool) (P Q : Type 0) → b ≡ false → MatchBool b P Q → Q
at_false b P Q e m = subst (λ t. MatchBool t P Q) e m

-- a step of the budget is taken, or a pending branch is
pub falls_by : (before after count old new : ℕ) → after + count ≡ before → new + 1 ≡ old → (after < before) ⊎ ((after ≡ before) × (new + 1 ≡ old))
falls_by before after zero old new taken fell = inr (omega (arith, taken), fell)
falls_by before after (suc count) old new taken fell = inl (omega (arith, taken))

-- ---- decisions

-- what is decided of the branch holds of it over the earlier pool, for the same shapes
pub decided_back : (ns ms ks : List Node) → Extends ns ms → (d : BranchData) → IsOver ns d → (before after : List Shape) → after ≡ before → (decision : Decision) → IsDecided after ks (branch_in ms d) decision → IsDecided before ks (branch_in ns d) decision
decided_back ns ms ks grown d over before after same decision h =
    subst (λ shapes. IsDecided shapes ks (branch_in ns d) decision) same (subst (λ b. IsDecided after ks b decision) (branch_stays ns ms grown d over) h)

-- a fact of the branch and the shapes
pub shaped_fact_stays : (ns ms : List Node) → Extends ns ms → (d : BranchData) → IsOver ns d → (before after : List Shape) → after ≡ before → (P : List Shape → Branch → Type 0) → P before (branch_in ns d) → P after (branch_in ms d)
shaped_fact_stays ns ms grown d over before after same P h =
    subst (λ shapes. P shapes (branch_in ms d)) (sym same) (fact_stays ns ms grown (P before) d over h)

pub ok_map : {A E : Type 0} (r : Result A E) (P Q : A → Type 0) → ((a : A) → P a → Q a) → IfOk r P → IfOk r Q
ok_map (Ok a) P Q f h = f a h
ok_map (Err e) P Q f h = tt

pub at_none : {X : Type 0} (o : Option X) (P : Type 0) (R : X → Type 0) → o ≡ None → MatchOption o P R → P
at_none o P R e m = subst (λ x. MatchOption x P R) e m

not_both : (b : Bool) → b ≡ true → b ≡ false → ⊥
not_both b t f = cc

strictly : (n m : ℕ) → n ≤ m → (n ≡ m → ⊥) → n < m
strictly n m within differ = elim (cases_lt n m) [
  | inl less ↦ less
  | inr more ↦ absurd (differ (omega (arith, within, more)))
]

-- a branch that is neither crowded nor of the maximal length has room
pub room_at : (r : Bool) (ns : List Node) (d : BranchData) → IsShortBranch (branch_in ns d) → length d.entries ≢ most_entries → r ≡ false → (IsTrue r ↔ IsCrowded (branch_in ns d)) → HasRoom (branch_in ns d)
room_at r ns d short other failed known =
    let entry : length (branch_in ns d) < most_entries = strictly (length (branch_in ns d)) most_entries short (λ e. other (sym (length_in ns d) ∙ e)) in
    elim (cases_lt (above_all (formulas (branch_in ns d))) (2 ^ 32)) [
      | inl less ↦ record { number = less; entry = entry }
      | inr many ↦ absurd (not_both r (known.1 (record { crowded = many })) failed)
    ]
