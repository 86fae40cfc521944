use Rattle.std.proofs.Common.{rules, ◌≡◌, ◌+◌, ◌∷◌, ◌++◌, [], List, ℤ, ap, ◌∙◌, sym, map, FitsSigned, arith, ℕ}
use Rattle.std.specs.Int.{w128}
use Rattle.std.specs.List.{range_with_len}
use Rattle.std.proofs.lemmas.Int.{to_z-of_z}
use Rattle.std.proofs.lemmas.List.FromFn.{map-range_with_len_more}
use Rattle.linear_arith.specs.Inequality.{coefficient}
use Rattle.linear_arith.proofs.rows.LinRow.padded.Goals as goal

pub loop-unknown-preserved : goal.loop-unknown-preserved
loop-unknown-preserved c =
    let w = λ (u : ℕ). coefficient u c.args.self.now in
    let k = c.loop-unknown.unknown in
    let f : FitsSigned w128 c.coefficient.result = search rules in
    let i = simp to_z-of_z at c.in_ok-push.ensures.items in
    let more : map w (range_with_len 0 (k + 1)) ≡ map w (range_with_len 0 k) ++ w k ∷ [] = map-range_with_len_more w 0 k k (omega arith) in
    i ∙ ap (λ (xs : List ℤ). xs ++ c.coefficient.result ∷ []) c.loop-unknown.invariant ∙ ap (λ (z : ℤ). map w (range_with_len 0 k) ++ z ∷ []) c.coefficient.ensures ∙ sym more
