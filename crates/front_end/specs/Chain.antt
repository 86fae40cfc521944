-- Chains of stages. A stage makes something of all files, or stops at one of them for a reason. Each stage handles all
-- files before the next one begins, and refers to no other stage.
use Rattle.std.specs.Prelude.{◌≡◌, ℕ, List}
use Rattle.front_end.specs.Numbered.{Each, EachPair, IsFirst}
use Rattle.front_end.specs.declared.fault.FileFault.{FileFault}

-- what a stage gives for its input; the file at which it stops, and why
pub record FileStage (A B : Type 0) : Type 1 where
  pub Gives : A → B → Type 0
  pub Stops : A → ℕ → FileFault → Type 0

-- ---- two stages, one after the other

pub record GivesBehind {A B C : Type 0} (one : FileStage A B) (other : FileStage B C) (given : A) (made : C) : Type 0 where
  pub between : B
  pub first : one.Gives given between
  pub second : other.Gives between made

-- The first stops; or the first gives a result, and the second stops.
pub data StopsBehind {A B C : Type 0} (one : FileStage A B) (other : FileStage B C) (given : A) (file : ℕ) (fault : FileFault) : Type 0 where
  at_first : one.Stops given file fault → StopsBehind one other given file fault
  at_second : (between : B) → one.Gives given between → other.Stops between file fault → StopsBehind one other given file fault

infixl 20 ◌▷◌
abbrev pub ◌▷◌ : {A B C : Type 0} → FileStage A B → FileStage B C → FileStage A C
one ▷ other = record { Gives = GivesBehind one other; Stops = StopsBehind one other }

-- ---- stages that handle each file by itself

-- Of each file something is made; the stage stops at the first of which nothing can be made.
abbrev pub makes : {A B : Type 0} → (ℕ → A → B → Type 0) → (ℕ → A → FileFault → Type 0) → FileStage (List A) (List B)
makes IsOf IsWrong = record {
  Gives = λ items made. EachPair IsOf 0 items made;
  Stops = λ items file fault. IsFirst (λ n item. (made : _) × IsOf n item made) (λ n item. IsWrong n item fault) items file;
}

-- Each file is right, and is passed on; the stage stops at the first that is not.
abbrev pub checks : {A : Type 0} → (ℕ → A → Type 0) → (ℕ → A → FileFault → Type 0) → FileStage (List A) (List A)
checks IsRight IsWrong = record {
  Gives = λ items provided. (provided ≡ items) × Each IsRight 0 items;
  Stops = λ items file fault. IsFirst IsRight (λ n item. IsWrong n item fault) items file;
}

-- ---- stages that handle all files at once

-- The input is right, and is passed on.
abbrev pub allows : {A : Type 0} → (A → Type 0) → (A → ℕ → FileFault → Type 0) → FileStage A A
allows IsRight IsWrong = record { Gives = λ given provided. (provided ≡ given) × IsRight given; Stops = IsWrong }
