use Rattle.std.proofs.Common.{◌≡◌, ◌⊎◌, ℕ, subst}
use Rattle.std.proofs.lemmas.Result.{on_ok_weaker}
use Rattle.congruence_closure.specs.States.{IsPart, IsPartOf}
use Rattle.congruence_closure.proofs.StateLemmas.{added_chained}
use Rattle.congruence_closure.proofs.classes.state.add_user.Goals as goal

pub returns-in_ok-add_one_user-in-Two : goal.returns-in_ok-add_one_user-in-Two
returns-in_ok-add_one_user-in-Two c =
    on_ok_weaker c.add_one_user-in-Two-2.result
    (λ e. added_chained c.args.users.now c.add_one_user-in-Two.new.users c.add_one_user-in-Two-2.new.users c.args.number (λ (p : ℕ). p ≡ c.in-Two.a) (λ (p : ℕ). p ≡ c.in-Two.b) (IsPartOf c.args.node) c.in_ok-add_one_user-in-Two.ensures e (λ p h. subst (IsPart p) c.in-Two.is h))
    c.add_one_user-in-Two-2.ensures

pub returns-in_ok-add_one_user-in-Three-2 : goal.returns-in_ok-add_one_user-in-Three-2
returns-in_ok-add_one_user-in-Three-2 c =
    on_ok_weaker c.add_one_user-in-Three-3.result
    (λ e. added_chained c.args.users.now c.add_one_user-in-Three.new.users c.add_one_user-in-Three-3.new.users c.args.number (λ (p : ℕ). p ≡ c.in-Three.a) (λ (p : ℕ). (p ≡ c.in-Three.b) ⊎ (p ≡ c.in-Three.c)) (IsPartOf c.args.node)
    c.in_ok-add_one_user-in-Three.ensures
    (added_chained c.add_one_user-in-Three.new.users c.add_one_user-in-Three-2.new.users c.add_one_user-in-Three-3.new.users c.args.number (λ (p : ℕ). p ≡ c.in-Three.b) (λ (p : ℕ). p ≡ c.in-Three.c) (λ (p : ℕ). (p ≡ c.in-Three.b) ⊎ (p ≡ c.in-Three.c)) c.in_ok-add_one_user-in-Three-2.ensures e (λ p h. h))
    (λ p h. subst (IsPart p) c.in-Three.is h))
    c.add_one_user-in-Three-3.ensures
