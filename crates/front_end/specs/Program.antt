-- Which program files have, and why files have none.
use Rattle.std.specs.Prelude.{ℕ, List}
use Rattle.syntax_tree.specs.SourceModuleData.{SourceModuleData}
use Rattle.sum_tree.specs.SumModuleData.{SumModuleData}
use Rattle.front_end.specs.Chain.{FileStage, ◌▷◌}
use Rattle.front_end.specs.Texts.{text_stages}
use Rattle.front_end.specs.Sources.{source_stage}
use Rattle.front_end.specs.LocalCounts.{locals_stage}
use Rattle.front_end.specs.Named.{NamedData, known_stage}
use Rattle.front_end.specs.Twice.{twice_stage}
use Rattle.front_end.specs.Bounds.{cycle_stage, visible_stage}
use Rattle.front_end.specs.Typed.{type_stages}
use Rattle.front_end.specs.Modules.{modules_stage}
use Rattle.front_end.specs.declared.fault.FileFault.{FileFault}

-- the stages up to the sources
abbrev pub source_stages : FileStage (List (List ℕ)) (List (List SourceModuleData))
source_stages = text_stages ▷ source_stage ▷ locals_stage

-- The rules on names, each over all files before the next: each use means a declaration; nothing is declared twice;
-- code uses only what visibility allows; and there is no cycle. The program of the sources is passed on.
abbrev pub name_stages : FileStage (List (List SourceModuleData)) NamedData
name_stages = known_stage ▷ twice_stage ▷ visible_stage ▷ cycle_stage

-- the stages up to a program that keeps all rules
abbrev pub rule_stages : FileStage (List (List ℕ)) NamedData
rule_stages = source_stages ▷ name_stages ▷ type_stages

-- All stages, in their order: the files have tokens; not too many; they do not nest too deep; they denote sources; no
-- function in these has too many locals; they keep the rules on names, and those on types and locals; and their modules
-- are modules of sums. A further rule would be added at the end.
abbrev pub program_stages : FileStage (List (List ℕ)) (List SumModuleData)
program_stages = rule_stages ▷ modules_stage

-- Each stage gives a result, and the last one gives this program.
abbrev pub IsProgramOf : List (List ℕ) → List SumModuleData → Type 0
IsProgramOf files program = program_stages.Gives files program

-- Why files have no program: the first stage that stops, at the first file at which it does.
abbrev pub ProgramStopped : List (List ℕ) → ℕ → FileFault → Type 0
ProgramStopped files file fault = program_stages.Stops files file fault
