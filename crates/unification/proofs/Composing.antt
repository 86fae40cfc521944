-- Unifiers made of unifiers: the composition of substitutions, and two of them mixed.
use Rattle.std.proofs.Common.{◌≡◌, ℕ, suc, ◌+◌, ◌<◌, ◌≤◌, List, [], ◌∷◌, refl, sym, ap, ◌∙◌, inl, inr, arith}
use Rattle.std.proofs.lemmas.Bool.Decides.{leb_tells}
use Rattle.base.specs.TypeData.{TypeData, BoolType, IntType, NumType, AddressType, SignerType, VectorType, StructType, ParamType, SharedType, MutableType, TupleType, TypesData, NoTypes, MoreTypes}
use Rattle.base.specs.declared.types.Width.{Width}
use Rattle.base.specs.declared.types.Width.TheVariants.{U8, U16, U32, U64, U128}
use Rattle.unification.specs.Slots.{Typing}
use Rattle.unification.specs.Instances.{instance, instances, arguments}
use Rattle.unification.specs.declared.pairs.TypePair.{TypePair}
use Rattle.unification.specs.Unifiers.{apply, Unifies}

-- ---- variables and constants

pub variable : (n : ℕ) (s : Typing) (k : ℕ) → k < n → arguments s 0 n k ≡ s k
variable n s k lt = elim (leb_tells (suc k) n) [
  | inl e ↦ simp e.0 (ap s (let z : 0 + k ≡ k = omega arith in z))
  | inr e ↦ absurd (omega (arith, lt, e.1))
]

name : (n : ℕ) (s : Typing) (k : ℕ) → n ≤ k → arguments s 0 n k ≡ ParamType k
name n s k le = elim (leb_tells (suc k) n) [
  | inl e ↦ absurd (omega (arith, le, e.1))
  | inr e ↦ simp e.0 refl
]

-- ---- composition of substitutions

mutual
  instance_twice : (s t : ℕ → TypeData) (a : TypeData) → instance s (instance t a) ≡ instance (λ k. instance s (t k)) a
  instance_twice s t BoolType = refl
  instance_twice s t (IntType w) = refl
  instance_twice s t NumType = refl
  instance_twice s t AddressType = refl
  instance_twice s t SignerType = refl
  instance_twice s t (VectorType a) = ap VectorType (instance_twice s t a)
  instance_twice s t (StructType id ts) = ap (StructType id) (instances_twice s t ts)
  instance_twice s t (ParamType k) = refl
  instance_twice s t (SharedType a) = ap SharedType (instance_twice s t a)
  instance_twice s t (MutableType a) = ap MutableType (instance_twice s t a)
  instance_twice s t (TupleType ts) = ap TupleType (instances_twice s t ts)

  instances_twice : (s t : ℕ → TypeData) (ts : TypesData) → instances s (instances t ts) ≡ instances (λ k. instance s (t k)) ts
  instances_twice s t NoTypes = refl
  instances_twice s t (MoreTypes a ts) = λ i. MoreTypes (instance_twice s t a i) (instances_twice s t ts i)

-- the composition: the second substitution after the first
abbrev pub after : ℕ → Typing → Typing → Typing
after n s m k = apply n s (m k)

after_at : (n : ℕ) (s m : Typing) (k : ℕ) → arguments (after n s m) 0 n k ≡ instance (arguments s 0 n) (arguments m 0 n k)
after_at n s m k = elim (leb_tells (suc k) n) [
  | inl e ↦ variable n (after n s m) k e.1 ∙ ap (instance (arguments s 0 n)) (sym (variable n m k e.1))
  | inr e ↦ name n (after n s m) k (omega (arith, e.1)) ∙ sym (name n s k (omega (arith, e.1))) ∙ ap (instance (arguments s 0 n)) (sym (name n m k (omega (arith, e.1))))
]

after_apply : (n : ℕ) (s m : Typing) (a : TypeData) → apply n (after n s m) a ≡ apply n s (apply n m a)
after_apply n s m a = ap (λ (f : ℕ → TypeData). instance f a) (λ i k. after_at n s m k i) ∙ sym (instance_twice (arguments s 0 n) (arguments m 0 n) a)

pub after_unifies : (n : ℕ) (s m : Typing) (pairs : List TypePair) → Unifies n m pairs → Unifies n (after n s m) pairs
after_unifies n s m [] h = tt
after_unifies n s m (p ∷ ps) h = (after_apply n s m p.left ∙ ap (apply n s) h.0 ∙ sym (after_apply n s m p.right), after_unifies n s m ps h.1)

-- ---- two types mixed

-- the first of two types, but `bool` where it has `u8` and the second has `u16`
abbrev pub mix_widths : Width → Width → TypeData
mix_widths U8 U8 = IntType U8
mix_widths U8 U16 = BoolType
mix_widths U8 U32 = IntType U8
mix_widths U8 U64 = IntType U8
mix_widths U8 U128 = IntType U8
mix_widths U16 v = IntType U16
mix_widths U32 v = IntType U32
mix_widths U64 v = IntType U64
mix_widths U128 v = IntType U128

abbrev mutual
  pub mix : TypeData → TypeData → TypeData
  mix (IntType w) (IntType v) = mix_widths w v
  mix (VectorType a) (VectorType b) = VectorType (mix a b)
  mix (StructType id ts) (StructType other us) = StructType id (mix_all ts us)
  mix (SharedType a) (SharedType b) = SharedType (mix a b)
  mix (MutableType a) (MutableType b) = MutableType (mix a b)
  mix (TupleType ts) (TupleType us) = TupleType (mix_all ts us)
  mix a b = a

  pub mix_all : TypesData → TypesData → TypesData
  mix_all (MoreTypes a ts) (MoreTypes b us) = MoreTypes (mix a b) (mix_all ts us)
  mix_all ts us = ts

mix_width : (w : Width) → mix_widths w w ≡ IntType w
mix_width U8 = refl
mix_width U16 = refl
mix_width U32 = refl
mix_width U64 = refl
mix_width U128 = refl

mutual
  mix_instance : (s t : ℕ → TypeData) (a : TypeData) → mix (instance s a) (instance t a) ≡ instance (λ k. mix (s k) (t k)) a
  mix_instance s t BoolType = refl
  mix_instance s t (IntType w) = mix_width w
  mix_instance s t NumType = refl
  mix_instance s t AddressType = refl
  mix_instance s t SignerType = refl
  mix_instance s t (VectorType a) = ap VectorType (mix_instance s t a)
  mix_instance s t (StructType id ts) = ap (StructType id) (mix_instances s t ts)
  mix_instance s t (ParamType k) = refl
  mix_instance s t (SharedType a) = ap SharedType (mix_instance s t a)
  mix_instance s t (MutableType a) = ap MutableType (mix_instance s t a)
  mix_instance s t (TupleType ts) = ap TupleType (mix_instances s t ts)

  mix_instances : (s t : ℕ → TypeData) (ts : TypesData) → mix_all (instances s ts) (instances t ts) ≡ instances (λ k. mix (s k) (t k)) ts
  mix_instances s t NoTypes = refl
  mix_instances s t (MoreTypes a ts) = λ i. MoreTypes (mix_instance s t a i) (mix_instances s t ts i)

abbrev pub mixed : Typing → Typing → Typing
mixed t u k = mix (t k) (u k)

mixed_at : (n : ℕ) (t u : Typing) (k : ℕ) → arguments (mixed t u) 0 n k ≡ mix (arguments t 0 n k) (arguments u 0 n k)
mixed_at n t u k = elim (leb_tells (suc k) n) [
  | inl e ↦ variable n (mixed t u) k e.1 ∙ (λ i. mix (sym (variable n t k e.1) i) (sym (variable n u k e.1) i))
  | inr e ↦ name n (mixed t u) k (omega (arith, e.1)) ∙ (λ i. mix (sym (name n t k (omega (arith, e.1))) i) (sym (name n u k (omega (arith, e.1))) i))
]

mixed_apply : (n : ℕ) (t u : Typing) (a : TypeData) → apply n (mixed t u) a ≡ mix (apply n t a) (apply n u a)
mixed_apply n t u a = ap (λ (f : ℕ → TypeData). instance f a) (λ i k. mixed_at n t u k i) ∙ sym (mix_instance (arguments t 0 n) (arguments u 0 n) a)

pub mixed_unifies : (n : ℕ) (t u : Typing) (pairs : List TypePair) → Unifies n t pairs → Unifies n u pairs → Unifies n (mixed t u) pairs
mixed_unifies n t u [] g h = tt
mixed_unifies n t u (p ∷ ps) g h = (mixed_apply n t u p.left ∙ (λ i. mix (g.0 i) (h.0 i)) ∙ sym (mixed_apply n t u p.right), mixed_unifies n t u ps g.1 h.1)
