-- The functions of a program that was read may be verified, and its modules are in its files.
use Rattle.std.proofs.Common.{ℕ, ◌<◌, List, [], length, get_or, arith}
use Rattle.sum_tree.specs.SumModuleData.{SumModuleData}
use Rattle.front_end.specs.Program.{IsProgramOf}
use Rattle.front_end.proofs.StageLaws.{named_count}
use Rattle.driver.proofs.Verifiable.{modules_placed, program_verifiable}
use Rattle.driver.specs.Verified.{AreVerifiable}

pub verifiable : (files : List (List ℕ)) (program : List SumModuleData) → IsProgramOf files program → AreVerifiable program
verifiable files program p = program_verifiable [] _ program p.second

pub placed : (files : List (List ℕ)) (program : List SumModuleData) → IsProgramOf files program → (k : ℕ) (d : SumModuleData) → k < length program → (get_or program k d).file < length files
placed files program p = modules_placed p.between.sources (length files) program (omega (arith, named_count files p.between p.first)) p.second
