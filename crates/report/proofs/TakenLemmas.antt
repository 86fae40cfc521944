-- Lines that a sink takes, one after another.
use Rattle.std.proofs.Common.{◌≡◌, ℕ, List, ◌++◌, Option, length, take, drop, get_or, suc, ◌<◌, sym, ap, ◌∙◌, append_assoc}
use Rattle.std.specs.Io.KnownBytes.{append_known}
use Rattle.std.proofs.lemmas.List.{take-append-drop}
use Rattle.std.proofs.Math.Seq.{drop-cons}
use Rattle.std.proofs.lemmas.Grind.{flat_map-append}
use Rattle.report.specs.SinkWriting.{TakesPrefix}
use Rattle.report.proofs.SinkTakenLemmas.{append_known-append}
use Rattle.report.specs.Writing.{joined}

-- the lines before one, that line, and those after it
joined-at : (lines : List (List ℕ)) (i : ℕ) (line d : List ℕ) → i < length lines → line ≡ get_or lines i d → joined lines ≡ joined (take i lines) ++ (line ++ joined (drop (suc i) lines))
joined-at lines i line d below is =
    ap joined (sym (take-append-drop i lines)) ∙ flat_map-append (λ l. l) (take i lines) (drop i lines)
    ∙ ap (λ ls. joined (take i lines) ++ joined ls) (drop-cons lines i d below)
    ∙ ap (λ l. joined (take i lines) ++ (l ++ joined (drop (suc i) lines))) (sym is)

-- the lines before one were taken, and then a part of that line
pub TakesPrefix-lines : {a b c : Option (List ℕ)} (lines : List (List ℕ)) (i : ℕ) (line d : List ℕ) → i < length lines → line ≡ get_or lines i d → b ≡ append_known a (joined (take i lines)) → TakesPrefix b c line → TakesPrefix a c (joined lines)
TakesPrefix-lines {a} {b} {c} lines i line d below is before last =
    let all = joined (take i lines) in
    let after = joined (drop (suc i) lines) in
    let front = last.taken.front in
    record {
      rest = last.rest ++ after;
      taken = record {
        front = all ++ front;
        parts = joined-at lines i line d below is ∙ ap (λ l. all ++ (l ++ after)) last.taken.parts ∙ ap (λ l. all ++ l) (append_assoc front last.rest after) ∙ sym (append_assoc all front (last.rest ++ after));
        grown = last.taken.grown ∙ ap (λ k. append_known k front) before ∙ append_known-append a all front;
      };
    }
