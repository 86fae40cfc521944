-- The state of files in memory, and when a fetch of them fails.
use Rattle.std.specs.Prelude.{◌≡◌, ℕ, ◌⊎◌, List, None, Contains, refl}
use Rattle.std.specs.Coded.{Coded, code_by, coded×, coded_list, coded_ℕ}
use Rattle.std.specs.FinMap as map
use Rattle.report.specs.Provided.{ProvidedFiles}
use Rattle.report.specs.Outside.{Files}
use Rattle.report.specs.MemorySink.{counted}

-- the files, the numbers of the fetches that fail, the number of fetches and of failed ones, the number of bytes that
-- the last one read, and the files provided
pub record SourcesState : Type 0 where
  pub files : Files
  pub fails : List ℕ
  pub calls : ℕ
  pub faults : ℕ
  pub taken : ℕ
  pub provided : ProvidedFiles

-- a state is stored as its parts
abbrev pub state_code : Coded SourcesState
state_code =
    code_by (Files × (List ℕ × (ℕ × (ℕ × (ℕ × ProvidedFiles)))))
    (coded× (map.code (coded_list coded_ℕ) (coded_list coded_ℕ)) (coded× (coded_list coded_ℕ) (coded× coded_ℕ (coded× coded_ℕ (coded× coded_ℕ (coded_list (coded× (coded_list coded_ℕ) (coded_list coded_ℕ))))))))
    (λ s. (s.files, (s.fails, (s.calls, (s.faults, (s.taken, s.provided))))))
    (λ p. record { files = p.0; fails = p.1.0; calls = p.1.1.0; faults = p.1.1.1.0; taken = p.1.1.1.1.0; provided = p.1.1.1.1.1 })
    (λ _. refl)

-- The next fetch of this name fails: its number is one of those that fail, or there is no such file.
abbrev pub FailsNext : SourcesState → List ℕ → Type 0
FailsNext sources name = Contains sources.fails (counted sources.calls) ⊎ (map.get sources.files name ≡ None)
