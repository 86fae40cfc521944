use Rattle.std.proofs.Common.{◌≡◌, ℕ, true, false, refl, sym, ◌∙◌}
use Rattle.ematching.proofs.TypeLemmas.{typing_some, typing_none, no_type, other_term, this_type}
use Rattle.ematching.proofs.types.begun_type.Goals as goal

pub returns-in_default-typing_of : goal.returns-in_default-typing_of
returns-in_default-typing_of c = no_type c.args.pool.now c.args.body c.beginning-first.result c.beginning-first.ensures c.args.variable (typing_none c.args.pool.now c.beginning-first.result c.in-Some.node c.in-Some.ensures c.beginning-first.ensures.number (sym c.typing_of.ensures ∙ c.in_default-typing_of.is))

pub is_variable-requires : goal.is_variable-requires
is_variable-requires c = (typing_some c.args.pool.now c.beginning-first.result c.in-Some.node c.in-Some.ensures (c.in-Some-typing_of.type_number, c.in-Some-typing_of.term) (sym c.typing_of.ensures ∙ c.in-Some-typing_of.is)).term

pub returns-then-is_variable : goal.returns-then-is_variable
returns-then-is_variable c =
    let p : ℕ × ℕ = (c.in-Some-typing_of.type_number, c.in-Some-typing_of.term) in
    this_type c.args.pool.now c.args.body c.beginning-first.result c.beginning-first.ensures c.args.variable c.in-Some.node c.in-Some.ensures p (typing_some c.args.pool.now c.beginning-first.result c.in-Some.node c.in-Some.ensures p (sym c.typing_of.ensures ∙ c.in-Some-typing_of.is)) (c.if-is_variable.ensures.0 refl)

pub returns : goal.returns
returns c =
    let p : ℕ × ℕ = (c.in-Some-typing_of.type_number, c.in-Some-typing_of.term) in
    other_term c.args.pool.now c.args.body c.beginning-first.result c.beginning-first.ensures c.args.variable c.in-Some.node c.in-Some.ensures p (typing_some c.args.pool.now c.beginning-first.result c.in-Some.node c.in-Some.ensures p (sym c.typing_of.ensures ∙ c.in-Some-typing_of.is)) (λ e. (let both : false ≡ true = c.if-is_variable.ensures.1 e in absurd (cc)))
