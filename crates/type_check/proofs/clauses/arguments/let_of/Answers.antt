use Rattle.std.proofs.Common.{◌≡◌, ℕ, Bool, sym, ◌∙◌, subst}
use Rattle.base.specs.TypeData.{TypeData}
use Rattle.program.specs.declared.clause.ClauseForm.TheVariants.{Let}
use Rattle.typing_rules.specs.Answers.{HasType}
use Rattle.type_check.proofs.Placing.{no_variable, variable_of}
use Rattle.type_check.proofs.clauses.arguments.let_of.Goals as goal

value_is : (p q : Bool) (v w : ℕ) → Let p v ≡ Let q w → v ≡ w
value_is p q v w e = cc

pub term_of-requires : goal.term_of-requires
term_of-requires c =
    (variable_of c.requires.0 c.args.pool.now c.in-Let.value c.in_ok-number_of-in-Let.field-0 c.in-Some.number c.in-Some.is
    (c.in_ok-number_of-in-Let.ensures c.requires.0 c.args.pool.now c.requires.1)).0

pub returns-in-None : goal.returns-in-None
returns-in-None c s says is_post value form of h =
    no_variable s c.args.pool.now c.in-Let.value c.in_ok-number_of-in-Let.field-0 c.in-None.is (c.in_ok-number_of-in-Let.ensures s c.args.pool.now says) of
    (subst (λ (v : ℕ). HasType s v of) (sym (value_is c.in-Let.is_post is_post c.in-Let.value value (sym c.in-Let.is ∙ form))) h)

pub returns-in_ok-term_of-in-Some : goal.returns-in_ok-term_of-in-Some
returns-in_ok-term_of-in-Some c s says =
    let at = variable_of s c.args.pool.now c.in-Let.value c.in_ok-number_of-in-Let.field-0 c.in-Some.number c.in-Some.is (c.in_ok-number_of-in-Let.ensures s c.args.pool.now says) in
    (c.in-Let.value, c.in-Let.is, subst (λ (t : TypeData). HasType s c.in-Let.value t) (sym c.in_ok-term_of-in-Some.ensures) at.1)
