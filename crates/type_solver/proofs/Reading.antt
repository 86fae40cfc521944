-- Steps that are read one after another.
use Rattle.std.proofs.Common.{◌≡◌, ℕ, zero, suc, ◌+◌, ◌<◌, ◌≤◌, ◌++◌, List, [], ◌∷◌, length, true, false, refl, sym, ap, subst, ◌∙◌, arith}
use Rattle.typing_rules.specs.Constraint.{Typing, Constraint}
use Rattle.typing_rules.specs.Rules.{TypeReading, EachHolds, EachSettled, With, AnyTyping, IsTypingFrom, StopsFrom, IsReadFrom, IsRead, IsTyping}
use Rattle.typing_rules.specs.Answers.{System, Typings}
use Rattle.unification.specs.Slots.{Meets, Fits}
use Rattle.unification.specs.Grown.{SameTo}
use Rattle.unification.specs.Knows.{Knows}
use Rattle.unification.specs.declared.type_variables.slots.Slot.{Slot}
use Rattle.type_solver.specs.Equations.{Keeps}
use Rattle.type_solver.specs.Within.{AllWithin}
use Rattle.type_solver.specs.Steps.{HeadsOpen, StepMade, StepOpen, StepSays}
use Rattle.type_solver.specs.Walking.{After, AllSettled, ReadsAll, StopsAt, ClashesAt, ReadingSays, IsWalk, IsAfter}
use Rattle.type_solver.specs.Walked.{WalkSays, Walked}
use Rattle.type_solver.specs.declared.walk.Reading.{Reading}
use Rattle.type_solver.specs.declared.walk.Reading.TheVariants.{Whole, Stopped, Clash}
use Rattle.type_solver.specs.declared.walk.Progress.{Progress}
use Rattle.type_solver.specs.declared.step.Step.{Step}
use Rattle.type_solver.specs.declared.step.Step.TheVariants.{Settled, Open, Clash as TheClash}
use Rattle.type_solver.proofs.Moving.{Covers, inside, each_moved, each_settled_moved, each_fewer, each_kept}

-- ---- lists of steps

-- a typing of the steps from here on is one of those before
before_of : (w : TypeReading) (P : Typing → Type 0) (xs : List (List Constraint)) (t : Typing) → IsTypingFrom w P xs t → P t
before_of w P [] t h = h
before_of w P (x ∷ xs) t h = h.0

after_before : (w : TypeReading) (P : Typing → Type 0) (ys : List (List Constraint)) (t : Typing) → After w P ys t → P t
after_before w P [] t h = h
after_before w P (y ∷ ys) t h = (after_before w (With w P y) ys t h).0

typing_after : (w : TypeReading) (P : Typing → Type 0) (ys zs : List (List Constraint)) (t : Typing) → AllSettled w P ys → IsTypingFrom w P (ys ++ zs) t → IsTypingFrom w (After w P ys) zs t
typing_after w P [] zs t s h = h
typing_after w P (y ∷ ys) zs t s h = typing_after w (With w P y) ys zs t s.1 (h.1 s.0)

after_typing : (w : TypeReading) (P : Typing → Type 0) (ys zs : List (List Constraint)) (t : Typing) → IsTypingFrom w (After w P ys) zs t → IsTypingFrom w P (ys ++ zs) t
after_typing w P [] zs t h = h
after_typing w P (y ∷ ys) zs t h =
    ((after_before w (With w P y) ys t (before_of w (After w (With w P y) ys) zs t h)).0, λ s. after_typing w (With w P y) ys zs t h)

stops_after : (w : TypeReading) (P : Typing → Type 0) (ys zs : List (List Constraint)) → AllSettled w P ys → StopsFrom w P (ys ++ zs) → StopsFrom w (After w P ys) zs
stops_after w P [] zs s h = h
stops_after w P (y ∷ ys) zs s h = stops_after w (With w P y) ys zs s.1 (h s.0)

after_stops : (w : TypeReading) (P : Typing → Type 0) (ys zs : List (List Constraint)) → StopsFrom w (After w P ys) zs → StopsFrom w P (ys ++ zs)
after_stops w P [] zs h = h
after_stops w P (y ∷ ys) zs h = λ s. after_stops w (With w P y) ys zs h

read_before : (w : TypeReading) (P : Typing → Type 0) (ys zs : List (List Constraint)) (m : ℕ) → AllSettled w P ys → m < length ys → IsReadFrom w P (ys ++ zs) m
read_before w P [] zs m s lt = absurd (omega (arith, lt))
read_before w P (y ∷ ys) zs zero s lt = s.0
read_before w P (y ∷ ys) zs (suc m) s lt = (s.0, read_before w (With w P y) ys zs m s.1 (omega (arith, lt)))

-- the step after them is read
read_here : (w : TypeReading) (P : Typing → Type 0) (ys : List (List Constraint)) (z : List Constraint) (zs : List (List Constraint)) (m : ℕ) → AllSettled w P ys → EachSettled (After w P ys) z → m < length ys + 1 →
    IsReadFrom w P (ys ++ z ∷ zs) m
read_here w P [] z zs zero s g lt = g
read_here w P [] z zs (suc m) s g lt = absurd (omega (arith, lt))
read_here w P (y ∷ ys) z zs zero s g lt = s.0
read_here w P (y ∷ ys) z zs (suc m) s g lt = (s.0, read_here w (With w P y) ys z zs m s.1 g (omega (arith, lt)))

read_after : (w : TypeReading) (P : Typing → Type 0) (ys : List (List Constraint)) (z : List Constraint) (zs : List (List Constraint)) (m : ℕ) → length ys ≤ m → IsReadFrom w P (ys ++ z ∷ zs) m → EachSettled (After w P ys) z
read_after w P [] z zs zero le h = h
read_after w P [] z zs (suc m) le h = h.0
read_after w P (y ∷ ys) z zs zero le h = absurd (omega (arith, le))
read_after w P (y ∷ ys) z zs (suc m) le h = read_after w (With w P y) ys z zs m (omega (arith, le)) h.1

read_past : (w : TypeReading) (P : Typing → Type 0) (ys : List (List Constraint)) (m : ℕ) → length ys ≤ m → IsReadFrom w P ys m → ⊥
read_past w P [] m le h = h
read_past w P (y ∷ ys) zero le h = absurd (omega (arith, le))
read_past w P (y ∷ ys) (suc m) le h = read_past w (With w P y) ys m (omega (arith, le)) h.1

settled_more : (w : TypeReading) (P : Typing → Type 0) (ys : List (List Constraint)) (z : List Constraint) → AllSettled w P ys → EachSettled (After w P ys) z → AllSettled w P (ys ++ z ∷ [])
settled_more w P [] z s g = (g, tt)
settled_more w P (y ∷ ys) z s g = (s.0, settled_more w (With w P y) ys z s.1 g)

after_more : (w : TypeReading) (P : Typing → Type 0) (ys : List (List Constraint)) (z : List Constraint) (t : Typing) → With w (After w P ys) z t → After w P (ys ++ z ∷ []) t
after_more w P [] z t h = h
after_more w P (y ∷ ys) z t h = after_more w (With w P y) ys z t h

after_less : (w : TypeReading) (P : Typing → Type 0) (ys : List (List Constraint)) (z : List Constraint) (t : Typing) → After w P (ys ++ z ∷ []) t → With w (After w P ys) z t
after_less w P [] z t h = h
after_less w P (y ∷ ys) z t h = after_less w (With w P y) ys z t h

none_behind : (ys : List (List Constraint)) → ys ++ [] ≡ ys
none_behind [] = refl
none_behind (y ∷ ys) = ap (λ (xs : List (List Constraint)). y ∷ xs) (none_behind ys)

behind_one : (xs ys : List (List Constraint)) (z : List Constraint) (zs : List (List Constraint)) (x : List Constraint) → xs ≡ ys ++ z ∷ zs → xs ++ x ∷ [] ≡ ys ++ z ∷ (zs ++ x ∷ [])
behind_one xs ys z zs x e = ap (λ (l : List (List Constraint)). l ++ x ∷ []) e ∙ moved ys
  where
    moved : (l : List (List Constraint)) → (l ++ z ∷ zs) ++ x ∷ [] ≡ l ++ z ∷ (zs ++ x ∷ [])
    moved [] = refl
    moved (y ∷ l) = ap (λ (m : List (List Constraint)). y ∷ m) (moved l)

counts_one : (ys : List (List Constraint)) (z : List Constraint) → length (ys ++ z ∷ []) ≡ length ys + 1
counts_one [] z = refl
counts_one (y ∷ ys) z = let e = counts_one ys z in omega (arith, e)

-- ---- what slots know

knows_of : (n : ℕ) (slots : List Slot) (P Q : Typing → Type 0) → Knows slots n P → ((t : Typing) → P t → Q t) → ((t : Typing) → Q t → P t) → Knows slots n Q
knows_of n slots P Q k to from = record {
  fits = k.fits;
  longer = k.longer;
  opens = k.opens;
  to = λ t q. k.to t (from t q);
  from = λ t m. to t (k.from t m);
}

known_covers : (n : ℕ) (slots : List Slot) (P : Typing → Type 0) → Knows slots n P → Covers n (Meets slots) P
known_covers n slots P k = record { cover = k.to }

knows_kept : (n : ℕ) (a b : List Slot) (P : Typing → Type 0) → Knows a n P → Keeps a b → Knows b n P
knows_kept n a b P k g = record {
  fits = g.fits;
  longer = (let x = k.longer in let y = g.longer in omega (arith, x, y));
  opens = λ p lt o. let r = g.opens p lt o in k.opens p r.0 r.1;
  to = λ t h. let r = k.to t h in let s = g.forth r.0 r.1.1 tt in
      (s.0, ((λ p lt. s.1.0 p (let x = k.longer in omega (arith, lt, x)) ∙ r.1.0 p lt), s.1.1));
  from = λ t m. k.from t (g.back t m tt).0;
}

-- constraints that hold of a typing of those before hold of the one that meets the slots
holds_there : (w : TypeReading) (n : ℕ) (a : List Slot) (P : Typing → Type 0) (ds : List Constraint) → Knows a n P → AllWithin n ds → (t u : Typing) → SameTo n t u → EachHolds w P t ds → EachHolds w (Meets a) u ds
holds_there w n a P ds k within t u same h =
    each_moved w n P (Meets a) (inside n P (Meets a) k.from) u ds within (each_kept w n P t u same ds within h)

knows_with : (w : TypeReading) (n : ℕ) (a b : List Slot) (P : Typing → Type 0) (ds : List Constraint) → Knows a n P → StepMade w n a b ds true → Knows b n (With w P ds)
knows_with w n a b P ds k made = record {
  fits = made.grows.fits;
  longer = (let x = k.longer in let y = made.grows.longer in omega (arith, x, y));
  opens = λ p lt o. let r = made.grows.opens p lt o in k.opens p r.0 r.1;
  to = λ t h. let r = k.to t h.0 in
      let s = made.grows.forth r.0 r.1.1 (holds_there w n a P ds k made.within t r.0 r.1.0 h.1) in
      (s.0, ((λ p lt. s.1.0 p (let x = k.longer in omega (arith, lt, x)) ∙ r.1.0 p lt), s.1.1));
  from = λ t m. let r = made.grows.back t m refl in
      (k.from t r.0, each_moved w n (Meets a) P (known_covers n a P k) t ds made.within r.1);
}

clash_with : (w : TypeReading) (n : ℕ) (a b : List Slot) (P : Typing → Type 0) (ds : List Constraint) → Knows a n P → StepMade w n a b ds false → (t : Typing) → P t → EachHolds w P t ds → ⊥
clash_with w n a b P ds k made t h holds =
    let r = k.to t h in
    let s = made.grows.forth r.0 r.1.1 (holds_there w n a P ds k made.within t r.0 r.1.0 holds) in
    absurd (let e : false ≡ true = s.1.2 in cc)

settled_with : (w : TypeReading) (n : ℕ) (a : List Slot) (P : Typing → Type 0) (ds : List Constraint) → Knows a n P → AllWithin n ds → EachSettled (Meets a) ds → EachSettled P ds
settled_with w n a P ds k within s = each_settled_moved n (Meets a) P (known_covers n a P k) ds within s

open_with : (w : TypeReading) (n : ℕ) (a : List Slot) (P : Typing → Type 0) (ds : List Constraint) → Knows a n P → HeadsOpen a ds → (t : Typing) → P t → EachSettled P ds → ⊥
open_with w n a P ds k heads t h s = let r = k.to t h in heads.differ r.0 r.1.1 (each_fewer P (Meets a) k.from ds s)

-- ---- walks

pub starts : (w : TypeReading) (n : ℕ) (slots : List Slot) → length slots ≡ n → Fits slots → ((t : Typing) → Meets slots t) → ReadsAll w n [] slots 0
starts w n slots len fits meets = record {
  counts = refl;
  settled = tt;
  knows = record {
    fits = fits;
    longer = omega (arith, len);
    opens = λ p lt o. omega (arith, lt, len);
    to = λ t h. (t, ((λ p lt. refl), meets t));
    from = λ t m. tt;
  };
}

pub reads_more : (w : TypeReading) (n : ℕ) (steps : List (List Constraint)) (a b : List Slot) (count : ℕ) (ds : List Constraint) → ReadsAll w n steps a count → StepMade w n a b ds true →
    ReadsAll w n (steps ++ ds ∷ []) b (count + 1)
reads_more w n steps a b count ds r made = record {
  counts = (let e = r.counts in let f = counts_one steps ds in omega (arith, e, f));
  settled = settled_more w AnyTyping steps ds r.settled (settled_with w n a (After w AnyTyping steps) ds r.knows made.within made.settled);
  knows = knows_of n b (With w (After w AnyTyping steps) ds) (After w AnyTyping (steps ++ ds ∷ [])) (knows_with w n a b (After w AnyTyping steps) ds r.knows made)
      (after_more w AnyTyping steps ds) (after_less w AnyTyping steps ds);
}

pub stops_here : (w : TypeReading) (n : ℕ) (steps : List (List Constraint)) (a b : List Slot) (count : ℕ) (ds : List Constraint) → ReadsAll w n steps a count → StepOpen a b ds →
    StopsAt w n (steps ++ ds ∷ []) b count
stops_here w n steps a b count ds r open_ = record {
  before = steps;
  here = ds;
  after = [];
  split = refl;
  counts = r.counts;
  settled = r.settled;
  knows = knows_kept n a b (After w AnyTyping steps) r.knows open_.grows;
  differ = open_with w n a (After w AnyTyping steps) ds r.knows open_.heads;
}

pub clashes_here : (w : TypeReading) (n : ℕ) (steps : List (List Constraint)) (a b : List Slot) (count : ℕ) (ds : List Constraint) → ReadsAll w n steps a count → StepMade w n a b ds false →
    ClashesAt w (steps ++ ds ∷ []) (count + 1)
clashes_here w n steps a b count ds r made = record {
  before = steps;
  here = ds;
  after = [];
  split = refl;
  counts = (let e = r.counts in omega (arith, e));
  settled = r.settled;
  heads = settled_with w n a (After w AnyTyping steps) ds r.knows made.within made.settled;
  none = clash_with w n a b (After w AnyTyping steps) ds r.knows made;
}

pub stops_still : (w : TypeReading) (n : ℕ) (steps : List (List Constraint)) (slots : List Slot) (count : ℕ) (ds : List Constraint) → StopsAt w n steps slots count → StopsAt w n (steps ++ ds ∷ []) slots count
stops_still w n steps slots count ds s = record {
  before = s.before;
  here = s.here;
  after = s.after ++ ds ∷ [];
  split = behind_one steps s.before s.here s.after ds s.split;
  counts = s.counts;
  settled = s.settled;
  knows = s.knows;
  differ = s.differ;
}

pub clashes_still : (w : TypeReading) (steps : List (List Constraint)) (count : ℕ) (ds : List Constraint) → ClashesAt w steps count → ClashesAt w (steps ++ ds ∷ []) count
clashes_still w steps count ds s = record {
  before = s.before;
  here = s.here;
  after = s.after ++ ds ∷ [];
  split = behind_one steps s.before s.here s.after ds s.split;
  counts = s.counts;
  settled = s.settled;
  heads = s.heads;
  none = s.none;
}

-- a walk after one more step
by_reading : (w : TypeReading) (n : ℕ) (steps : List (List Constraint)) (slots : List Slot) (progress : Progress) (count : ℕ) (reading : Reading) → progress.reading ≡ reading → progress.count ≡ count →
    ReadingSays w n steps slots count reading → IsWalk w n steps slots progress
by_reading w n steps slots progress count reading r c says = record {
  says = subst (λ (k : ℕ). ReadingSays w n steps slots k progress.reading) (sym c) (subst (λ (x : Reading). ReadingSays w n steps slots count x) (sym r) says);
}

pub walk_next : (w : TypeReading) (n : ℕ) (steps : List (List Constraint)) (a b : List Slot) (count : ℕ) (ds : List Constraint) (step : Step) (progress : Progress) → ReadsAll w n steps a count → StepSays w n a b ds step →
    IsAfter step count progress → IsWalk w n (steps ++ ds ∷ []) b progress
walk_next w n steps a b count ds Settled progress r s e = by_reading w n (steps ++ ds ∷ []) b progress (count + 1) Whole e.0 e.1 (reads_more w n steps a b count ds r s)
walk_next w n steps a b count ds Open progress r s e = by_reading w n (steps ++ ds ∷ []) b progress count Stopped e.0 e.1 (stops_here w n steps a b count ds r s)
walk_next w n steps a b count ds TheClash progress r s e = by_reading w n (steps ++ ds ∷ []) b progress (count + 1) Clash e.0 e.1 (clashes_here w n steps a b count ds r s)

-- what a walk with this reading means
pub walk_says : (w : TypeReading) (n : ℕ) (steps : List (List Constraint)) (slots : List Slot) (progress : Progress) (reading : Reading) → progress.reading ≡ reading → IsWalk w n steps slots progress →
    ReadingSays w n steps slots progress.count reading
walk_says w n steps slots progress reading e is = subst (λ (x : Reading). ReadingSays w n steps slots progress.count x) e is.says

pub still_stopped : (w : TypeReading) (n : ℕ) (steps : List (List Constraint)) (slots : List Slot) (progress : Progress) (ds : List Constraint) → progress.reading ≡ Stopped → IsWalk w n steps slots progress →
    IsWalk w n (steps ++ ds ∷ []) slots progress
still_stopped w n steps slots progress ds e is =
    by_reading w n (steps ++ ds ∷ []) slots progress progress.count Stopped e refl (stops_still w n steps slots progress.count ds (walk_says w n steps slots progress Stopped e is))

pub still_clash : (w : TypeReading) (n : ℕ) (steps : List (List Constraint)) (slots : List Slot) (progress : Progress) (ds : List Constraint) → progress.reading ≡ Clash → IsWalk w n steps slots progress →
    IsWalk w n (steps ++ ds ∷ []) slots progress
still_clash w n steps slots progress ds e is =
    by_reading w n (steps ++ ds ∷ []) slots progress progress.count Clash e refl (clashes_still w steps progress.count ds (walk_says w n steps slots progress Clash e is))

-- slots that a step leaves
pub step_fits : (w : TypeReading) (n : ℕ) (a b : List Slot) (ds : List Constraint) (step : Step) → StepSays w n a b ds step → Fits b
step_fits w n a b ds Settled s = s.grows.fits
step_fits w n a b ds Open s = s.grows.fits
step_fits w n a b ds TheClash s = s.grows.fits

pub step_longer : (w : TypeReading) (n : ℕ) (a b : List Slot) (ds : List Constraint) (step : Step) → StepSays w n a b ds step → length a ≤ length b
step_longer w n a b ds Settled s = s.grows.longer
step_longer w n a b ds Open s = s.grows.longer
step_longer w n a b ds TheClash s = s.grows.longer

pub start_walk : (w : TypeReading) (slots : List Slot) (progress : Progress) → progress.reading ≡ Whole → progress.count ≡ 0 → Fits slots → ((t : Typing) → Meets slots t) → IsWalk w (length slots) [] slots progress
start_walk w slots progress r c fits meets = by_reading w (length slots) [] slots progress 0 Whole r c (starts w (length slots) slots refl fits meets)

-- ---- the end

whole_typing : (w : TypeReading) (steps : List (List Constraint)) (t : Typing) → AllSettled w AnyTyping steps → IsTyping w steps t → After w AnyTyping steps t
whole_typing w steps t s h = typing_after w AnyTyping steps [] t s (subst (λ (xs : List (List Constraint)). IsTypingFrom w AnyTyping xs t) (sym (none_behind steps)) h)

typing_whole : (w : TypeReading) (steps : List (List Constraint)) (t : Typing) → After w AnyTyping steps t → IsTyping w steps t
typing_whole w steps t h = subst (λ (xs : List (List Constraint)). IsTypingFrom w AnyTyping xs t) (none_behind steps) (after_typing w AnyTyping steps [] t h)

whole_says : (s : System) (slots : List Slot) (count : ℕ) → ReadsAll s.reading s.variables s.steps slots count → WalkSays s slots Whole
whole_says s slots count r = (
  knows_of s.variables slots (After s.reading AnyTyping s.steps) (Typings s) r.knows (λ t h. typing_whole s.reading s.steps t h) (λ t h. whole_typing s.reading s.steps t r.settled h),
  λ h. stops_after s.reading AnyTyping s.steps [] r.settled (subst (λ (xs : List (List Constraint)). StopsFrom s.reading AnyTyping xs) (sym (none_behind s.steps)) h),
)

stopped_typing : (s : System) (slots : List Slot) (count : ℕ) (r : StopsAt s.reading s.variables s.steps slots count) (t : Typing) → Typings s t → After s.reading AnyTyping r.before t
stopped_typing s slots count r t h =
    before_of s.reading (After s.reading AnyTyping r.before) (r.here ∷ r.after) t (typing_after s.reading AnyTyping r.before (r.here ∷ r.after) t r.settled
    (subst (λ (xs : List (List Constraint)). IsTypingFrom s.reading AnyTyping xs t) r.split h))

stopped_says : (s : System) (slots : List Slot) (count : ℕ) → StopsAt s.reading s.variables s.steps slots count → WalkSays s slots Stopped
stopped_says s slots count r = (
  knows_of s.variables slots (After s.reading AnyTyping r.before) (Typings s) r.knows
      (λ t h. subst (λ (xs : List (List Constraint)). IsTypingFrom s.reading AnyTyping xs t) (sym r.split) (after_typing s.reading AnyTyping r.before (r.here ∷ r.after) t (h, λ settled. absurd (r.differ t h settled))))
      (stopped_typing s slots count r),
  λ t h. subst (λ (xs : List (List Constraint)). StopsFrom s.reading AnyTyping xs) (sym r.split)
      (after_stops s.reading AnyTyping r.before (r.here ∷ r.after) (λ settled. absurd (r.differ t (stopped_typing s slots count r t h) settled))),
)

clash_says : (s : System) (count : ℕ) → ClashesAt s.reading s.steps count → (t : Typing) → Typings s t → ⊥
clash_says s count r t h =
    let from_here = typing_after s.reading AnyTyping r.before (r.here ∷ r.after) t r.settled (subst (λ (xs : List (List Constraint)). IsTypingFrom s.reading AnyTyping xs t) r.split h) in
    let both = before_of s.reading (With s.reading (After s.reading AnyTyping r.before) r.here) r.after t (from_here.1 r.heads) in
    r.none t both.0 both.1

says_by : (s : System) (slots : List Slot) (count : ℕ) (reading : Reading) → ReadingSays s.reading s.variables s.steps slots count reading → WalkSays s slots reading
says_by s slots count Whole r = whole_says s slots count r
says_by s slots count Stopped r = stopped_says s slots count r
says_by s slots count Clash r = clash_says s count r

done_by : (s : System) (slots : List Slot) (count : ℕ) (reading : Reading) → ReadingSays s.reading s.variables s.steps slots count reading → (m : ℕ) → m < count → IsRead s.reading s.steps m
done_by s slots count Whole r m lt = subst (λ (xs : List (List Constraint)). IsReadFrom s.reading AnyTyping xs m) (none_behind s.steps)
    (read_before s.reading AnyTyping s.steps [] m r.settled (let e = r.counts in omega (arith, lt, e)))
done_by s slots count Stopped r m lt = subst (λ (xs : List (List Constraint)). IsReadFrom s.reading AnyTyping xs m) (sym r.split)
    (read_before s.reading AnyTyping r.before (r.here ∷ r.after) m r.settled (let e = r.counts in omega (arith, lt, e)))
done_by s slots count Clash r m lt = subst (λ (xs : List (List Constraint)). IsReadFrom s.reading AnyTyping xs m) (sym r.split)
    (read_here s.reading AnyTyping r.before r.here r.after m r.settled r.heads (let e = r.counts in omega (arith, lt, e)))

left_by : (s : System) (slots : List Slot) (count : ℕ) (reading : Reading) → ReadingSays s.reading s.variables s.steps slots count reading → (t : Typing) → Typings s t → (m : ℕ) → count ≤ m → IsRead s.reading s.steps m → ⊥
left_by s slots count Whole r t h m le read_ = read_past s.reading AnyTyping s.steps m (let e = r.counts in omega (arith, le, e)) read_
left_by s slots count Stopped r t h m le read_ = r.differ t (stopped_typing s slots count r t h)
    (read_after s.reading AnyTyping r.before r.here r.after m (let e = r.counts in omega (arith, le, e)) (subst (λ (xs : List (List Constraint)). IsReadFrom s.reading AnyTyping xs m) r.split read_))
left_by s slots count Clash r t h m le read_ = clash_says s count r t h

-- a walk over all steps of a system
pub walked : (s : System) (slots : List Slot) (progress : Progress) → IsWalk s.reading s.variables s.steps slots progress → Walked s slots progress
walked s slots progress is = record {
  says = says_by s slots progress.count progress.reading is.says;
  done = done_by s slots progress.count progress.reading is.says;
  left = left_by s slots progress.count progress.reading is.says;
}
