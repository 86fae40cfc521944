use Rattle.std.proofs.Common.{sym, subst, lit≤, arith}
use Rattle.std.specs.Prelude.{IfSome}
use Rattle.movep.specs.CommandLines.{IsWordAt}
use Rattle.movep.proofs.WordLemmas.{AreWordsTo, none_before, word_more, words_end}
use Rattle.movep.proofs.words.collect_words.Goals as goal

pub loop-number-init : goal.loop-number-init
loop-number-init g c =
    let words = g.C.CommandLine.words c.args.line.now in
    record {
      begun = lit≤ tt;
      words = subst (λ xs. AreWordsTo words 1 xs) (sym c.new-words.ensures) (none_before words);
    }

pub returns-in-None : goal.returns-in-None
returns-in-None g c =
    let words = g.C.CommandLine.words c.args.line.now in
    words_end words c.loop-number.number c.loop-number.words c.loop-number.invariant.words (subst (λ x. IfSome words (λ ws. IsWordAt ws c.loop-number.number x)) c.in-None.is c.in_ok-word.ensures)

pub loop-number-preserved : goal.loop-number-preserved
loop-number-preserved g c =
    let words = g.C.CommandLine.words c.args.line.now in
    record {
      begun = omega (arith, c.loop-number.invariant.begun);
      words = word_more words c.loop-number.number c.loop-number.words c.push.new.self c.in-Some.word c.loop-number.invariant.begun c.loop-number.invariant.words (subst (λ x. IfSome words (λ ws. IsWordAt ws c.loop-number.number x)) c.in-Some.is c.in_ok-word.ensures) c.in_ok-push-in-Some.ensures.ok;
    }
