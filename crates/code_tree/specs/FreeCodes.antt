-- Code without references: guarded assignments of terms, checks and choices over slots, its runs and its modular runs.
-- Source: H. B. Enderton, A Mathematical Introduction to Logic, section 2.2, for the values of terms; the Move Prover paper (Dill et
-- al., TACAS 2022) for checks and choices.
use Rattle.std.specs.Prelude.{◌≡◌, ◌⊎◌, ℕ, Bool, true, false, nat_abs, List, [], ◌∷◌, ◌++◌, length, map, Option, Some, slice_set, slice_index_or, if◌then◌else◌}
use Rattle.std.specs.Option.{option_map}
use Rattle.fol.specs.FormulaData.{TermData, FormulaData}
use Rattle.fol.specs.Val.{Val, NothingValue}
use Rattle.fol.specs.Operators.{is_true, number_of}
use Rattle.fol.specs.Truth.{Interpretation, Assignment, value_of, truth_of}
use Rattle.code_tree.specs.declared.code.Instance.{Instance}
use Rattle.code_tree.specs.declared.free_op.Choice.{Choice}
use Rattle.code_tree.specs.declared.free_op.Computation.{Computation}
use Rattle.code_tree.specs.declared.free_op.FreeCall.{FreeCall}
use Rattle.code_tree.specs.declared.free_op.Setting.{Setting}
use Rattle.code_tree.specs.declared.free_op.FreeOp.{FreeOp}
use Rattle.code_tree.specs.declared.free_op.FreeOp.TheVariants.{Computes, Checks, Chooses, Calls, Marks}
use Rattle.code_tree.specs.Outcomes.{RunOf, Done, Aborted, gives, stuck, returned}
use Rattle.code_tree.specs.Codes.{Code, Meaning}
use Rattle.code_tree.specs.Ends.{AtCheck, End, Goes, Aborts, Fails, Ending, CallEnds, Judged, Just}
use Rattle.code_tree.specs.ModularRuns.{Modular, MayRun, MayFail}

-- the values of all slots
abbrev pub Slots : Type 0
Slots = List Val

-- variables stand for the values of a list, one by one
abbrev pub listed : List Val → Assignment
listed vs n = slice_index_or vs n NothingValue

abbrev pub values_at : Interpretation → Assignment → List TermData → List Val
values_at m e ts = map (λ t. value_of m t e) ts

-- all values are those before the first slot is set
abbrev pub set_all : Interpretation → Assignment → List Setting → Slots → Slots
set_all m e [] s = s
set_all m e (b ∷ bs) s = slice_set (set_all m e bs s) b.slot (value_of m b.value e)

abbrev pub code_at : Interpretation → Assignment → Option TermData → Option ℕ
code_at m e code = option_map (λ t. nat_abs (number_of (value_of m t e))) code

-- the same but for slots that are marked
abbrev pub SameBut : List Bool → Slots → Slots → Type 0
SameBut [] v w = v ≡ w
SameBut (b ∷ bs) [] [] = Unit {0}
SameBut (b ∷ bs) [] (y ∷ w) = ⊥
SameBut (b ∷ bs) (x ∷ v) [] = ⊥
SameBut (true ∷ bs) (x ∷ v) (y ∷ w) = SameBut bs v w
SameBut (false ∷ bs) (x ∷ v) (y ∷ w) = (x ≡ y) × SameBut bs v w

-- any item is true or not
abbrev pub item_truth : Val → Option Bool
item_truth v = Some (is_true v)

-- ---- runs

-- A check does nothing to a run. There are no choices in code that runs.
abbrev pub free_operate : Interpretation → (Instance → RunOf Val Slots) → FreeOp → List Val → RunOf Val Slots
free_operate m calls (Computes a) xs s =
    let e = listed (xs ++ s) in
    if truth_of m a.guard e then Done (values_at m e a.gives) (set_all m e a.sets s) else Aborted (code_at m e a.abort_code)
free_operate m calls (Checks k p) xs s = Done xs s
free_operate m calls (Chooses c) xs s = stuck s
free_operate m calls (Calls c) xs s =
    returned (calls c.function (values_at m (listed (xs ++ s)) c.enters)) (λ vs t. Done vs (set_all m (listed (vs ++ (t ++ s))) c.sets s))
free_operate m calls (Marks n) xs s = Done xs s

abbrev pub free_meaning : Interpretation → Meaning Instance FreeOp Val Slots
free_meaning m = record { operate = free_operate m; truth = item_truth }

-- ---- modular runs

-- A check that does not hold is an end, and the run goes on as well: each check is judged by itself.
abbrev pub FreeEnds : Interpretation → (Instance → Ending Val Slots) → FreeOp → List Val → Ending Val Slots
FreeEnds m calls (Computes a) xs s end =
    let e = listed (xs ++ s) in
    ((truth_of m a.guard e ≡ true) × (end ≡ Goes (values_at m e a.gives) (set_all m e a.sets s)))
    ⊎ ((truth_of m a.guard e ≡ false) × (end ≡ Aborts (code_at m e a.abort_code)))
FreeEnds m calls (Checks k p) xs s end = (end ≡ Goes xs s) ⊎ ((truth_of m p (listed (xs ++ s)) ≡ false) × (end ≡ Fails (AtCheck k)))
FreeEnds m calls (Chooses c) xs s end =
    (ys : List Val) × (t : Slots) × (length ys ≡ c.gives) × SameBut c.changes s t × (truth_of m c.formula (listed (xs ++ (ys ++ (s ++ t)))) ≡ true) × (end ≡ Goes ys t)
FreeEnds m calls (Calls c) xs s end =
    CallEnds (calls c.function (values_at m (listed (xs ++ s)) c.enters)) (λ vs u. Just (Goes vs (set_all m (listed (vs ++ (u ++ s))) c.sets s))) end
FreeEnds m calls (Marks n) xs s end = end ≡ Goes xs s

-- what is known of the heads of loops
pub record Heads (H S : Type 0) : Type 1 where
  pub judged : H → S → List Judged
  pub differs : H → S → S → Type 0

-- where all loops are cut before, by checks and choices
abbrev pub no_heads : {H S : Type 0} → Heads H S
no_heads = record { judged = λ h s. []; differs = λ h s t. ⊥ }

abbrev pub free_modular : {H : Type 0} → Interpretation → Heads H Slots → Modular Instance FreeOp H Val Slots
free_modular m heads = record { ends = FreeEnds m; truth = item_truth; judged = heads.judged; differs = heads.differs }

module _ {H : Type 0} (m : Interpretation) (bodies : Instance → Code FreeOp H) where
  -- the ends of code without loops, and the numbers of the checks that fail in it
  abbrev pub Ends : ℕ → Code FreeOp H → Slots → End Val Slots → Type 0
  Ends n c s end = MayRun (free_modular m no_heads) bodies n c s end

  abbrev pub FailsAt : ℕ → ℕ → Code FreeOp H → Slots → Type 0
  FailsAt n k c s = MayFail (free_modular m no_heads) bodies n k c s
