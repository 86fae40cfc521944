-- The codes by which the logic stores types of a source: each as a tree of numbers, and back.
use base.Stored.{Gv, gnil, gnum, gcons}
use denote.Struct.Codes.{itself}
use Rattle.std.specs.Prelude.{◌≡◌, false, [], ◌∷◌, refl}
use Rattle.std.specs.Coded.{Coded, code_by}
use Rattle.base.specs.Codes.{pick}
use Rattle.syntax_tree.specs.LeafCodes.{bool_back, bool_back-code, bool_code, path_back, path_back-code, path_code, span_back, span_back-code, span_code}
use Rattle.syntax_tree.specs.TypeTreeData.{SourceTypeData, SharedSourceType, MutableSourceType, NamedSourceType, TupleSourceType, ArgumentsData, Arguments, MaybeArgumentsData, NoArguments, SomeArguments, SourceTypesData, NoSourceTypes, MoreSourceTypes}

abbrev mutual
  pub source_type_code : SourceTypeData → Gv
  source_type_code (SharedSourceType a b) = gcons (gnum 0) (gcons (span_code a) (gcons (source_type_code b) gnil))
  source_type_code (MutableSourceType a b) = gcons (gnum 1) (gcons (span_code a) (gcons (source_type_code b) gnil))
  source_type_code (NamedSourceType a b) = gcons (gnum 2) (gcons (path_code a) (gcons (maybe_arguments_code b) gnil))
  source_type_code (TupleSourceType a b c) = gcons (gnum 3) (gcons (span_code a) (gcons (source_types_code b) (bool_code c)))

  pub arguments_code : ArgumentsData → Gv
  arguments_code (Arguments a b) = gcons (gnum 0) (gcons (source_types_code a) (bool_code b))

  pub maybe_arguments_code : MaybeArgumentsData → Gv
  maybe_arguments_code NoArguments = gcons (gnum 0) gnil
  maybe_arguments_code (SomeArguments a) = gcons (gnum 1) (arguments_code a)

  pub source_types_code : SourceTypesData → Gv
  source_types_code NoSourceTypes = gnil
  source_types_code (MoreSourceTypes a b) = gcons (source_type_code a) (source_types_code b)

abbrev mutual
  pub source_type_back : Gv → SourceTypeData
  source_type_back (gcons (gnum n) (gcons a (gcons b c))) =
      pick n (TupleSourceType (span_back gnil) NoSourceTypes false) (SharedSourceType (span_back a) (source_type_back b) ∷ MutableSourceType (span_back a) (source_type_back b) ∷ NamedSourceType (path_back a) (maybe_arguments_back b) ∷ TupleSourceType (span_back a) (source_types_back b) (bool_back c) ∷ [])
  source_type_back _ = TupleSourceType (span_back gnil) NoSourceTypes false

  pub arguments_back : Gv → ArgumentsData
  arguments_back (gcons (gnum n) (gcons a b)) =
      pick n (Arguments NoSourceTypes false) (Arguments (source_types_back a) (bool_back b) ∷ [])
  arguments_back _ = Arguments NoSourceTypes false

  pub maybe_arguments_back : Gv → MaybeArgumentsData
  maybe_arguments_back (gcons (gnum n) a) =
      pick n NoArguments (NoArguments ∷ SomeArguments (arguments_back a) ∷ [])
  maybe_arguments_back _ = NoArguments

  pub source_types_back : Gv → SourceTypesData
  source_types_back gnil = NoSourceTypes
  source_types_back (gnum n) = NoSourceTypes
  source_types_back (gcons a b) = MoreSourceTypes (source_type_back a) (source_types_back b)

mutual
  pub source_type_back-code : (x : SourceTypeData) → source_type_back (source_type_code x) ≡ x
  source_type_back-code (SharedSourceType a b) = λ i. SharedSourceType (span_back-code a i) (source_type_back-code b i)
  source_type_back-code (MutableSourceType a b) = λ i. MutableSourceType (span_back-code a i) (source_type_back-code b i)
  source_type_back-code (NamedSourceType a b) = λ i. NamedSourceType (path_back-code a i) (maybe_arguments_back-code b i)
  source_type_back-code (TupleSourceType a b c) = λ i. TupleSourceType (span_back-code a i) (source_types_back-code b i) (bool_back-code c i)

  pub arguments_back-code : (x : ArgumentsData) → arguments_back (arguments_code x) ≡ x
  arguments_back-code (Arguments a b) = λ i. Arguments (source_types_back-code a i) (bool_back-code b i)

  pub maybe_arguments_back-code : (x : MaybeArgumentsData) → maybe_arguments_back (maybe_arguments_code x) ≡ x
  maybe_arguments_back-code NoArguments = refl
  maybe_arguments_back-code (SomeArguments a) = λ i. SomeArguments (arguments_back-code a i)

  pub source_types_back-code : (x : SourceTypesData) → source_types_back (source_types_code x) ≡ x
  source_types_back-code NoSourceTypes = refl
  source_types_back-code (MoreSourceTypes a b) = λ i. MoreSourceTypes (source_type_back-code a i) (source_types_back-code b i)

abbrev pub coded_source_type : Coded SourceTypeData
coded_source_type = code_by Gv itself source_type_code source_type_back source_type_back-code

abbrev pub coded_arguments : Coded ArgumentsData
coded_arguments = code_by Gv itself arguments_code arguments_back arguments_back-code

abbrev pub coded_source_types : Coded SourceTypesData
coded_source_types = code_by Gv itself source_types_code source_types_back source_types_back-code
