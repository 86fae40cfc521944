use Rattle.std.proofs.Common.{◌≡◌, [], ◌∷◌, length, sym, subst, ◌∙◌}
use Rattle.std.specs.Vec.Iter.{into_iter_items}
use Rattle.resolution.specs.Owners.{module_scope}
use Rattle.resolution.specs.OwnersSoFar.{AreOwners, blocks_before}
use Rattle.resolution.specs.Parts.{ArePartsFrom}
use Rattle.resolution.specs.Programs.{AreClausesOfOwner}
use Rattle.resolution.proofs.FinishLaws.{PartsSoFar, last_owner, nothing_left, parts_all, parts_begin, parts_next}
use Rattle.resolution.proofs.tables.enter_parts.Goals as goal

pub loop-part-init : goal.loop-part-init
loop-part-init c = λ w a b e.
    parts_begin w c.args.program.now (into_iter_items c.into_iter-part-iterator.result) (into_iter_items c.into_iter-rest.result)
    (subst (λ ps. ArePartsFrom w 0 w.members ps) (sym c.into_iter-part-iterator.ensures.into_iter_gives.0) a)
    (subst (λ os. AreOwners w (blocks_before w w.members) os) (sym c.into_iter-rest.ensures.rest) b)

pub loop-part-preserved : goal.loop-part-preserved
loop-part-preserved c = λ w a b e.
    let part = c.in-Some.part in
    let parts = into_iter_items c.next.new.self in
    let owner = c.in-Some-next.owner in
    let owners = into_iter_items c.next-in-loop-part.new.self in
    let old = c.args.program.now in
    let now = c.loop-part.program in
    let here = subst (λ ps. PartsSoFar w old now ps (into_iter_items c.loop-part.rest)) c.in-Some.ensures.steps.0 (c.loop-part.invariant w a b e) in
    let there = subst (λ os. PartsSoFar w old now (part ∷ parts) os) c.in-Some-next.ensures.items here in
    parts_next w old now c.enter_part.new.program part parts owner owners (λ n m p o. c.in_ok-enter_part-in-Some-next.ensures w n m p o e) there

pub returns-in-Some-next-2-clause-entered : goal.returns-in-Some-next-2-clause-entered
returns-in-Some-next-2-clause-entered c = λ w a b e.
    let old = c.args.program.now in
    let now = c.loop-part.program in
    let none : into_iter_items c.loop-part.part-iterator ≡ [] = nothing_left (into_iter_items c.loop-part.part-iterator) (sym c.loop-part.part-iterator.rest.ok.0 ∙ c.in-None.ensures.steps.0) in
    parts_all w old now (into_iter_items c.loop-part.rest) (subst (λ ps. PartsSoFar w old now ps (into_iter_items c.loop-part.rest)) none (c.loop-part.invariant w a b e))

pub returns-in-Some-next-2-clause-last : goal.returns-in-Some-next-2-clause-last
returns-in-Some-next-2-clause-last c = λ w a b e.
    let old = c.args.program.now in
    let now = c.loop-part.program in
    let owner = c.in-Some-next-2.owner in
    let owners = into_iter_items c.next-2.new.self in
    let none : into_iter_items c.loop-part.part-iterator ≡ [] = nothing_left (into_iter_items c.loop-part.part-iterator) (sym c.loop-part.part-iterator.rest.ok.0 ∙ c.in-None.ensures.steps.0) in
    let here = subst (λ ps. PartsSoFar w old now ps (into_iter_items c.loop-part.rest)) none (c.loop-part.invariant w a b e) in
    let there = subst (λ os. PartsSoFar w old now [] os) c.in-Some-next-2.ensures.items here in
    subst (λ cs. AreClausesOfOwner w (module_scope w.environment w.schemas) (length w.members) cs) (sym c.take_owned.ensures.clauses) (last_owner w old now owner owners there)
