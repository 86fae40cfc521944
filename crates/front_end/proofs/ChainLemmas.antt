-- Files handled in order, by a stage that handles each by itself.
use Rattle.std.proofs.Common.{◌≡◌, ℕ, ◌<◌, List, length, take, get_or, sym, ap, subst, ◌∙◌}
use Rattle.front_end.specs.Chain.{FileStage, makes, checks, ◌▷◌}
use Rattle.front_end.specs.FileReading.{IsIn}
use Rattle.front_end.specs.Numbered.{EachPair, IsFirst}
use Rattle.front_end.specs.declared.fault.FileFault.{FileFault}
use Rattle.front_end.proofs.NumberedLemmas.{each_of_pairs, first_at, pairs_length}

-- a file of which nothing is made stops the stage, if something was read of each before it
pub stops_at : {A B C : Type 0} (Reads : ℕ → A → C → Type 0) (IsOf : ℕ → A → B → Type 0) (IsWrong : ℕ → A → FileFault → Type 0) (items : List A) (i : ℕ) (d : A) (read : List C) (file : ℕ) (fault : FileFault)
    → ((n : ℕ) (item : A) (c : C) → Reads n item c → (made : B) × IsOf n item made) → i < length items → EachPair Reads 0 (take i items) read → IsIn i (IsWrong i (get_or items i d)) file fault → (makes IsOf IsWrong).Stops items file fault
stops_at {B = B} Reads IsOf IsWrong items i d read file fault some h e w =
    subst (λ k. IsFirst (λ n item. (made : B) × IsOf n item made) (λ n item. IsWrong n item fault) items k) (sym w.0)
    (first_at items i d h (each_of_pairs Reads (λ n item. (made : B) × IsOf n item made) 0 (take i items) read some e) w.1)

-- ---- a stage gives as many items as it is given

abbrev pub KeepsCount : {A B : Type 0} → FileStage (List A) (List B) → Type 0
KeepsCount {A = A} {B = B} s = (given : List A) (made : List B) → s.Gives given made → length made ≡ length given

pub behind_keeps : {A B C : Type 0} (s : FileStage (List A) (List B)) (t : FileStage (List B) (List C)) → KeepsCount s → KeepsCount t → KeepsCount (s ▷ t)
behind_keeps s t one other given made g = other g.between made g.second ∙ one given g.between g.first

pub makes_keeps : {A B : Type 0} (IsOf : ℕ → A → B → Type 0) (IsWrong : ℕ → A → FileFault → Type 0) → KeepsCount (makes IsOf IsWrong)
makes_keeps IsOf IsWrong given made g = pairs_length IsOf 0 given made g

pub checks_keeps : {A : Type 0} (IsRight : ℕ → A → Type 0) (IsWrong : ℕ → A → FileFault → Type 0) → KeepsCount (checks IsRight IsWrong)
checks_keeps IsRight IsWrong given made g = ap length g.0
