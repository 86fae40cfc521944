use Rattle.std.proofs.Common.{◌≡◌, length, take, ap, ◌∙◌, arith}
use Rattle.movep.proofs.WordLemmas.{word_copied, front_written}
use Rattle.movep.proofs.words.read_word.Goals as goal

pub returns-in-Ok : goal.returns-in-Ok
returns-in-Ok g c =
    let size : length c.word.new.buffer ≡ c.loop.buffer.len = grind (arith, c.word.auto.buffer, c.as_mut_slice.ensures.len, c.as_mut_slice.ensures.value) in
    let same = c.in_ok-from_slice-in-Ok.ensures ∙ ap (λ xs. take c.in-Ok.length xs) c.deref.ensures.value in
    word_copied (g.C.CommandLine.words c.args.line.now) c.args.number _ _ (same ∙ front_written c.in-Ok.length c.loop.buffer.len c.word.new.buffer _ size) c.in-Ok.ensures.found
