use Rattle.std.proofs.Common.{◌≡◌, ℕ, List, ◌∷◌, ◌++◌, length, get_or, sym, ap, ◌∙◌}
use Rattle.std.proofs.Math.ListN.{set}
use Rattle.std.proofs.lemmas.List.{set_at, get_or_at}
use Rattle.body_names.specs.declared.code.loops.LoopScope.{LoopScope}
use Rattle.body_names.specs.LoopScopes.{with_index}
use Rattle.body_names.proofs.code.building.Building.end_loop.Goals as goal

-- the index of a loop is set at its position
index_set : (xs before behind : List LoopScope) (one x : LoopScope) (i at : ℕ) → x ≡ get_or xs i x → xs ≡ before ++ one ∷ behind → i ≡ length before → set xs i (with_index at x) ≡ before ++ with_index at one ∷ behind
index_set xs before behind one x i at read whole number =
    let there : x ≡ one = read ∙ ap (λ ys. get_or ys i x) whole ∙ get_or_at before one behind x i (sym number) in
    (λ k. set (whole k) i (with_index at (there k))) ∙ set_at before one behind (with_index at one) i (sym number)

pub returns-clause-loops : goal.returns-clause-loops
returns-clause-loops c = λ before one behind whole number.
    index_set c.args.self.now.loops.items before behind one c.index_mut-one.result.now c.args.index c.args.at c.index_mut-one.ensures.value whole number
