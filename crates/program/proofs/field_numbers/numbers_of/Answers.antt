use Rattle.std.proofs.Common.{◌≡◌, ◌<◌, ◌∙◌, length, take, Some, ap, sym, subst, arith, List}
use Rattle.std.specs.Prelude.{slice_get}
use Rattle.std.proofs.lemmas.List.{length-take-le}
use Rattle.std.proofs.lemmas.Option.{slice_get-get_or}
use Rattle.program.specs.FieldNumbers.{AreNumbers}
use Rattle.program.proofs.NumberLemmas.{put_next, take_next}
use Rattle.program.proofs.field_numbers.numbers_of.Goals as goal

pub loop-index-preserved : goal.loop-index-preserved
loop-index-preserved c =
    let fields = c.args.fields.now in
    let n = c.loop-index.index in
    let field = c.index-fields-index.result in
    let below : n < length fields = (let t = c.loop-index-test.true in omega (arith, t)) in
    let at : slice_get fields n ≡ Some field = slice_get-get_or fields n field below ∙ ap Some (sym c.index-fields-index.is) in
    let long : n ≡ length (take n fields) = sym (length-take-le n fields (omega (arith, below))) in
    subst (λ (all : List _). AreNumbers all c.put.new.self) (sym (take_next fields n field at))
    (put_next (take n fields) field c.loop-index.numbers c.put.new.self c.in_ok-try_clone.field-0 c.in_ok-put.field-0 n c.loop-index.invariant long (c.in_ok-try_clone.ensures ∙ ap (λ f. f.name) (sym c.index-fields-index.is)) c.in_ok-put.ensures.new c.in_ok-put.ensures.put)
