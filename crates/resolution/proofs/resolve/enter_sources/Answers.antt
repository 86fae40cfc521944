use Rattle.std.proofs.Common.{◌≡◌, List, subst, ◌∙◌}
use Rattle.std.proofs.lemmas.List.{take_all}
use Rattle.syntax_tree.specs.SourceModuleData.{SourceModuleData}
use Rattle.resolution.specs.Faults.{IsFaultAmong}
use Rattle.resolution.specs.Items.{AreKnown, AreKnownIn, source_items}
use Rattle.resolution.specs.Parts.{EnteredOf}
use Rattle.resolution.specs.Programs.{source_declarations}
use Rattle.resolution.proofs.ProgramLaws.{source_entered, source_fault, source_known}
use Rattle.resolution.proofs.resolve.enter_sources.Goals as goal

pub returns-in-Err-clause-unknown : goal.returns-in-Err-clause-unknown
returns-in-Err-clause-unknown c = λ k within known.
    let s = c.index-sources-file.result in
    let same : c.as_slice-trees.result.now ≡ s = c.as_slice-trees.ensures.value ∙ c.source.view_is in
    let fault = c.in-Err.fault in
    let one = subst (λ (x : List SourceModuleData). IsFaultAmong (source_items k x) fault) same (c.in-Err.ensures.unknown k (c.loop-file.invariant.within k within) known) in
    rw c.fault_in.ensures (source_fault k c.args.sources.now c.loop-file.file s fault c.loop-file-test.true c.index-sources-file.is (c.loop-file.invariant.known k within known) one)

pub loop-file-preserved : goal.loop-file-preserved
loop-file-preserved c =
    let s = c.index-sources-file.result in
    let same : c.as_slice-trees.result.now ≡ s = c.as_slice-trees.ensures.value ∙ c.source.view_is in
    record {
      within = λ k within. c.in-Ok.ensures.within k (c.loop-file.invariant.within k within);
      entered = λ k within known.
          let one = subst (λ (x : List SourceModuleData). EnteredOf (source_declarations k x) c.loop-file.program c.enter_source.new.program) same (c.in-Ok.ensures.entered k (c.loop-file.invariant.within k within) known) in
          source_entered k c.args.sources.now c.loop-file.file s c.args.program.now c.loop-file.program c.enter_source.new.program c.loop-file-test.true c.index-sources-file.is (c.loop-file.invariant.entered k within known) one;
      known = λ k within known.
          let one = subst (λ (x : List SourceModuleData). AreKnown (source_items k x)) same (c.in-Ok.ensures.known k (c.loop-file.invariant.within k within) known) in
          source_known k c.args.sources.now c.loop-file.file s c.loop-file-test.true c.index-sources-file.is (c.loop-file.invariant.known k within known) one;
    }

pub returns-clause-known : goal.returns-clause-known
returns-clause-known c = λ k within known.
    subst (λ ss. AreKnownIn k ss) (take_all c.loop-file.file c.args.sources.now c.loop-file-test.false) (c.loop-file.invariant.known k within known)
