-- The common abilities of sets.
use Rattle.std.proofs.Common.{◌≡◌, Bool, true, false, ◌&&◌, refl}
use Rattle.program.specs.declared.declaration.AbilitySet.{AbilitySet}
use Rattle.program.specs.Sets.{all_abilities, both}

and_joined : (a b c : Bool) → ((a && b) && c) ≡ (a && (b && c))
and_joined true b c = refl
and_joined false b c = refl

and_true : (a : Bool) → (a && true) ≡ a
and_true true = refl
and_true false = refl

pub both_joined : (a b c : AbilitySet) → both (both a b) c ≡ both a (both b c)
both_joined a b c = λ i. record {
  has_copy = and_joined a.has_copy b.has_copy c.has_copy i;
  has_drop = and_joined a.has_drop b.has_drop c.has_drop i;
  has_store = and_joined a.has_store b.has_store c.has_store i;
  has_key = and_joined a.has_key b.has_key c.has_key i;
}

pub both_all : (a : AbilitySet) → both a all_abilities ≡ a
both_all a = λ i. record {
  has_copy = and_true a.has_copy i;
  has_drop = and_true a.has_drop i;
  has_store = and_true a.has_store i;
  has_key = and_true a.has_key i;
}

pub all_both : (a : AbilitySet) → both all_abilities a ≡ a
all_both a = refl
