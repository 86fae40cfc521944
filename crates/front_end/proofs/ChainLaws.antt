-- The laws of stages hold of chains of stages: a chain gives at most one result, or it stops in one way.
use Rattle.std.proofs.Common.{◌≡◌, ℕ, List, sym, subst, ◌∙◌}
use Rattle.front_end.specs.Chain.{FileStage, GivesBehind, StopsBehind, allows, at_first, at_second, makes, checks, ◌▷◌}
use Rattle.front_end.specs.FileFault.{IsSameStop, without_offset}
use Rattle.front_end.specs.Numbered.{Each, IsFirst}
use Rattle.front_end.specs.declared.fault.FileFault.{FileFault}
use Rattle.front_end.proofs.NumberedLaws.{none_first, once, one_list}
use Rattle.front_end.proofs.NumberedLemmas.{each_of_pairs}

pub record Laws {A B : Type 0} (s : FileStage A B) : Type 0 where
  pub one : (given : A) (made other : B) → s.Gives given made → s.Gives given other → made ≡ other
  pub either : (given : A) (made : B) (file : ℕ) (fault : FileFault) → s.Gives given made → s.Stops given file fault → ⊥
  pub stop : (given : A) (file other_file : ℕ) (fault other : FileFault) → s.Stops given file fault → s.Stops given other_file other → IsSameStop file other_file fault other

-- ---- two stages, one after the other

module _ {A B C : Type 0} (s : FileStage A B) (t : FileStage B C) (S : Laws s) (T : Laws t) where
  one_behind : (given : A) (made other : C) → GivesBehind s t given made → GivesBehind s t given other → made ≡ other
  one_behind given made other p q =
      T.one p.between made other p.second (subst (λ x. t.Gives x other) (S.one given q.between p.between q.first p.first) q.second)

  either_behind : (given : A) (made : C) (file : ℕ) (fault : FileFault) → GivesBehind s t given made → StopsBehind s t given file fault → ⊥
  either_behind given made file fault p (at_first stops) = S.either given p.between file fault p.first stops
  either_behind given made file fault p (at_second between gives stops) =
      T.either p.between made file fault p.second (subst (λ x. t.Stops x file fault) (S.one given between p.between gives p.first) stops)

  stop_behind : (given : A) (file other_file : ℕ) (fault other : FileFault) → StopsBehind s t given file fault → StopsBehind s t given other_file other → IsSameStop file other_file fault other
  stop_behind given file other_file fault other (at_first p) (at_first q) = S.stop given file other_file fault other p q
  stop_behind given file other_file fault other (at_first p) (at_second b g q) = absurd (S.either given b file fault g p)
  stop_behind given file other_file fault other (at_second a f p) (at_first q) = absurd (S.either given a other_file other f q)
  stop_behind given file other_file fault other (at_second a f p) (at_second b g q) =
      T.stop a file other_file fault other p (subst (λ x. t.Stops x other_file other) (S.one given b a g f) q)

  pub behind_laws : Laws (s ▷ t)
  behind_laws = record { one = one_behind; either = either_behind; stop = stop_behind }

-- ---- stages that handle each file by itself

-- two faults of one file are the same
abbrev pub TellsOnce : {A : Type 0} → (ℕ → A → FileFault → Type 0) → Type 0
TellsOnce {A = A} IsWrong = (n : ℕ) (item : A) (fault other : FileFault) → IsWrong n item fault → IsWrong n item other → without_offset fault ≡ without_offset other

module _ {A : Type 0} (IsRight : ℕ → A → Type 0) (IsWrong : ℕ → A → FileFault → Type 0)
    (apart : (n : ℕ) (item : A) (fault : FileFault) → IsRight n item → IsWrong n item fault → ⊥) (known : TellsOnce IsWrong) where
  abbrev StopsIn : List A → ℕ → FileFault → Type 0
  StopsIn items file fault = IsFirst IsRight (λ n item. IsWrong n item fault) items file

  none_stops : (items : List A) (file : ℕ) (fault : FileFault) → Each IsRight 0 items → StopsIn items file fault → ⊥
  none_stops items file fault right first = none_first items file (λ n item. apart n item fault) right first

  stops_once : (items : List A) (file other_file : ℕ) (fault other : FileFault) → StopsIn items file fault → StopsIn items other_file other → IsSameStop file other_file fault other
  stops_once items file other_file fault other p q =
      let o = once items file other_file (λ n item. apart n item other) (λ n item. apart n item fault) p q in
      record { file_is = o.number; fault_is = known file o.item fault other o.one o.other }

  pub checks_laws : Laws (checks IsRight IsWrong)
  checks_laws = record {
    one = λ given made other p q. p.0 ∙ sym q.0;
    either = λ given made file fault p stops. none_stops given file fault p.1 stops;
    stop = stops_once;
  }

module _ {A B : Type 0} (IsOf : ℕ → A → B → Type 0) (IsWrong : ℕ → A → FileFault → Type 0)
    (one_made : (n : ℕ) (item : A) (made other : B) → IsOf n item made → IsOf n item other → made ≡ other)
    (apart : (n : ℕ) (item : A) (made : B) (fault : FileFault) → IsOf n item made → IsWrong n item fault → ⊥) (known : TellsOnce IsWrong) where
  abbrev HasMade : ℕ → A → Type 0
  HasMade n item = (made : B) × IsOf n item made

  made_apart : (n : ℕ) (item : A) (fault : FileFault) → HasMade n item → IsWrong n item fault → ⊥
  made_apart n item fault m w = apart n item m.0 fault m.1 w

  pub makes_laws : Laws (makes IsOf IsWrong)
  makes_laws = record {
    one = λ given made other p q. one_list IsOf 0 given made other one_made p q;
    either = λ given made file fault p stops. none_stops HasMade IsWrong made_apart known given file fault (each_of_pairs IsOf HasMade 0 given made (λ n item m h. (m, h)) p) stops;
    stop = stops_once HasMade IsWrong made_apart known;
  }

-- ---- stages that handle all files at once

module _ {A : Type 0} (IsRight : A → Type 0) (IsWrong : A → ℕ → FileFault → Type 0)
    (apart : (given : A) (file : ℕ) (fault : FileFault) → IsRight given → IsWrong given file fault → ⊥)
    (known : (given : A) (file other_file : ℕ) (fault other : FileFault) → IsWrong given file fault → IsWrong given other_file other → IsSameStop file other_file fault other) where
  pub allows_laws : Laws (allows IsRight IsWrong)
  allows_laws = record {
    one = λ given made other p q. p.0 ∙ sym q.0;
    either = λ given made file fault p stops. apart given file fault p.1 stops;
    stop = known;
  }
