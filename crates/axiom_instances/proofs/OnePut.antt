-- The substitution of type arguments for type parameters has only one result.
use Rattle.std.proofs.Common.{◌≡◌, List, Some, refl, sym, ap, ◌∙◌}
use Rattle.base.specs.TypeData.{TypeData, BoolType, IntType, NumType, AddressType, SignerType, VectorType, StructType, ParamType, SharedType, MutableType, TupleType, TypesData, NoTypes, MoreTypes}
use Rattle.axioms.specs.Fields.{IsPut, ArePut}

module _ (args : List TypeData) where
  one_argument : {x y : TypeData} → Some x ≡ Some y → x ≡ y
  one_argument e = cc

  mutual
    pub one_put : (f a b : TypeData) → IsPut args f a → IsPut args f b → a ≡ b
    one_put (ParamType n) a b h k = one_argument (sym h ∙ k)
    one_put (VectorType f) (VectorType a) (VectorType b) h k = ap VectorType (one_put f a b h k)
    one_put (VectorType f) (VectorType a) _ h k = absurd k
    one_put (VectorType f) _ b h k = absurd h
    one_put (SharedType f) (SharedType a) (SharedType b) h k = ap SharedType (one_put f a b h k)
    one_put (SharedType f) (SharedType a) _ h k = absurd k
    one_put (SharedType f) _ b h k = absurd h
    one_put (MutableType f) (MutableType a) (MutableType b) h k = ap MutableType (one_put f a b h k)
    one_put (MutableType f) (MutableType a) _ h k = absurd k
    one_put (MutableType f) _ b h k = absurd h
    one_put (TupleType fs) (TupleType as') (TupleType bs) h k = ap TupleType (one_puts fs as' bs h k)
    one_put (TupleType fs) (TupleType as') _ h k = absurd k
    one_put (TupleType fs) _ b h k = absurd h
    one_put (StructType s fs) (StructType q as') (StructType r bs) h k = λ i. StructType ((sym h.0 ∙ k.0) i) (one_puts fs as' bs h.1 k.1 i)
    one_put (StructType s fs) (StructType q as') _ h k = absurd k
    one_put (StructType s fs) _ b h k = absurd h
    one_put (IntType u) (IntType v) (IntType w) h k = ap IntType (sym h ∙ k)
    one_put (IntType u) (IntType v) _ h k = absurd k
    one_put (IntType u) _ b h k = absurd h
    one_put BoolType BoolType BoolType h k = refl
    one_put BoolType BoolType _ h k = absurd k
    one_put BoolType _ b h k = absurd h
    one_put NumType NumType NumType h k = refl
    one_put NumType NumType _ h k = absurd k
    one_put NumType _ b h k = absurd h
    one_put AddressType AddressType AddressType h k = refl
    one_put AddressType AddressType _ h k = absurd k
    one_put AddressType _ b h k = absurd h
    one_put SignerType SignerType SignerType h k = refl
    one_put SignerType SignerType _ h k = absurd k
    one_put SignerType _ b h k = absurd h

    one_puts : (fs as' bs : TypesData) → ArePut args fs as' → ArePut args fs bs → as' ≡ bs
    one_puts NoTypes NoTypes NoTypes h k = refl
    one_puts NoTypes NoTypes _ h k = absurd k
    one_puts NoTypes _ bs h k = absurd h
    one_puts (MoreTypes f fs) (MoreTypes a as') (MoreTypes b bs) h k = λ i. MoreTypes (one_put f a b h.0 k.0 i) (one_puts fs as' bs h.1 k.1 i)
    one_puts (MoreTypes f fs) (MoreTypes a as') _ h k = absurd k
    one_puts (MoreTypes f fs) _ bs h k = absurd h
