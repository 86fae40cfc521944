-- The modules of sums in sources. Source: The Move Book, "Modules and Scripts": no two modules have the same address
-- and name.
use Rattle.std.specs.Prelude.{◌≡◌, ◌⊎◌, ℕ, ◌+◌, Bool, true, false, ◌&&◌, ◌==◌, List, [], ◌∷◌, ◌++◌, map}
use Rattle.std.specs.List.{list_any}
use Rattle.base.specs.declared.rule.Rule.TheVariants.{NotBuilt}
use Rattle.base.specs.Names.{same_name}
use Rattle.syntax_tree.specs.SourceModuleData.{SourceModuleData}
use Rattle.sum_tree.specs.SumModuleData.{SumModuleData}
use Rattle.sum_module.specs.Built.{IsUnbuiltAt}
use Rattle.syntax_tree.specs.Spans.{module_span}
use Rattle.sum_module.specs.Program.{IsSumModule}
use Rattle.front_end.specs.Chain.{FileStage}
use Rattle.front_end.specs.FileFault.{breaks}
use Rattle.front_end.specs.Named.{NamedData}
use Rattle.front_end.specs.declared.fault.FileFault.{FileFault}

-- the modules of sources in order, each with the number of its file, counted from this number
abbrev pub numbered : ℕ → List (List SourceModuleData) → List (ℕ × SourceModuleData)
numbered n [] = []
numbered n (source ∷ sources) = map (λ m. (n, m)) source ++ numbered (1 + n) sources

-- one of these modules has this address and this name
abbrev pub is_taken : List SumModuleData → ℕ → List ℕ → Bool
is_taken found address name = list_any (λ m. (m.address == address) && same_name m.name name) found

-- After those that were read, each module is one of sums, with an address and a name that none before it has.
abbrev pub AreModules : List SumModuleData → List (ℕ × SourceModuleData) → List SumModuleData → Type 0
AreModules before [] [] = Unit {0}
AreModules before [] (f ∷ found) = ⊥
AreModules before (m ∷ modules) [] = ⊥
AreModules before (m ∷ modules) (f ∷ found) =
    IsSumModule m.0 m.1 f × (is_taken before f.address f.name ≡ false) × AreModules (before ++ f ∷ []) modules found

-- the module is one of sums, but one before it has its address and its name; it begins at this offset
pub record IsTaken (before : List SumModuleData) (file : ℕ) (m : SourceModuleData) (offset : ℕ) : Type 0 where
  pub found : SumModuleData
  pub is : IsSumModule file m found
  pub taken : is_taken before found.address found.name ≡ true
  pub offset_is : offset ≡ (module_span m).start

-- what is not built begins at this offset
abbrev pub IsUnbuiltBehind : List SumModuleData → ℕ → SourceModuleData → ℕ → Type 0
IsUnbuiltBehind before file m span = IsUnbuiltAt m span ⊎ IsTaken before file m span

-- all modules before this one are built, and it is not
pub record IsFirstUnbuilt (modules : List (ℕ × SourceModuleData)) (file offset : ℕ) : Type 0 where
  pub before : List (ℕ × SourceModuleData)
  pub module_tree : SourceModuleData
  pub behind : List (ℕ × SourceModuleData)
  pub parts : modules ≡ before ++ (file, module_tree) ∷ behind
  pub found : List SumModuleData
  pub are : AreModules [] before found
  pub unbuilt : IsUnbuiltBehind found file module_tree offset

-- The modules are not all built: what is not begins at this offset.
pub record HasUnbuilt (modules : List (ℕ × SourceModuleData)) (file : ℕ) (fault : FileFault) : Type 0 where
  pub offset : ℕ
  pub fault_is : fault ≡ breaks NotBuilt offset
  pub first : IsFirstUnbuilt modules file offset

-- these are the modules of sums of the sources
abbrev pub AreSumsOf : List (List SourceModuleData) → List SumModuleData → Type 0
AreSumsOf sources modules = AreModules [] (numbered 0 sources) modules

abbrev pub AreNoSums : List (List SourceModuleData) → ℕ → FileFault → Type 0
AreNoSums sources = HasUnbuilt (numbered 0 sources)

-- modules of sums are read from the trees of the sources
abbrev pub modules_stage : FileStage NamedData (List SumModuleData)
modules_stage = record { Gives = λ given. AreSumsOf given.sources; Stops = λ given. AreNoSums given.sources }
