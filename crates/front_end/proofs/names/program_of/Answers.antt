use Rattle.std.proofs.Common.{arith, subst}
use Rattle.resolution.specs.Known.{known_of}
use Rattle.resolution.specs.Faults.{IsFaultFrom}
use Rattle.front_end.proofs.UnknownLaws.{file_within}
use Rattle.front_end.proofs.names.program_of.Goals as goal

pub overflow_cast-result : goal.overflow_cast-result
overflow_cast-result c =
    let sources = c.args.sources.now in
    let within = file_within (known_of sources) 0 sources c.in-Err-Unknown.file c.in-Err-Unknown.span
    (subst (IsFaultFrom (known_of sources) sources) c.in-Err-Unknown.field-0-is c.in-Err-Unknown.ensures.unknown) in
    omega (arith, c.requires.few, within)
