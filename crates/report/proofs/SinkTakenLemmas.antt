-- Bytes that a sink takes, one part after another.
use Rattle.std.proofs.Common.{◌≡◌, ℕ, ◌-◌, List, [], ◌++◌, Option, None, Some, length, take, drop, refl, sym, ap, ◌∙◌, append_assoc, append-nil}
use Rattle.std.specs.Io.KnownBytes.{append_known}
use Rattle.std.proofs.lemmas.List.{take-append-drop, length-drop}
use Rattle.std.proofs.Math.Seq.{take-length}
use Rattle.report.specs.SinkWriting.{TakesFront}

pub append_known-append : (known : Option (List ℕ)) (xs ys : List ℕ) → append_known (append_known known xs) ys ≡ append_known known (xs ++ ys)
append_known-append None xs ys = refl
append_known-append (Some bs) xs ys = ap Some (append_assoc bs xs ys)

pub append_known-nil : (known : Option (List ℕ)) → append_known known [] ≡ known
append_known-nil None = refl
append_known-nil (Some bs) = ap Some (append-nil bs)

-- what is left after some bytes, in the spelling of a slice's range
drop-range : (rest : List ℕ) (count : ℕ) → take (length rest - count) (drop count rest) ≡ drop count rest
drop-range rest count = ap (λ n. take n (drop count rest)) (sym (length-drop count rest)) ∙ take-length (drop count rest)

-- one more write took the front of the rest
pub TakesFront-more : {a b c : Option (List ℕ)} {text rest : List ℕ} (count : ℕ) → TakesFront a b text rest → c ≡ append_known b (take count rest) → TakesFront a c text (take (length rest - count) (drop count rest))
TakesFront-more {a} {b} {c} {text} {rest} count before more = record {
  front = before.front ++ take count rest;
  parts = before.parts ∙ ap (λ r. before.front ++ r) (sym (take-append-drop count rest)) ∙ sym (append_assoc before.front (take count rest) (drop count rest))
      ∙ ap (λ r. (before.front ++ take count rest) ++ r) (sym (drop-range rest count));
  grown = more ∙ ap (λ k. append_known k (take count rest)) before.grown ∙ append_known-append a before.front (take count rest);
}
