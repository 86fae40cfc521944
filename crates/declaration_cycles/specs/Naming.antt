-- The names in declarations: the structs in types, and the modules whose members occur in types, code and
-- specifications. Source: The Move Book, "Modules and Scripts", "Structs and Resources" and "Uses and Aliases"; the
-- Move Specification Language reference, "Expressions" and "Schemas".
use Rattle.std.specs.Prelude.{List, [], ◌∷◌, ◌++◌, map, Option, Some, None}
use Rattle.std.specs.List.{flat_map}
use Rattle.base.specs.declared.types.StructId.{StructId}
use Rattle.base.specs.declared.types.FunctionId.{FunctionId}
use Rattle.base.specs.TypeData.{TypeData, TypesData, VectorType, StructType, SharedType, MutableType, TupleType, NoTypes, MoreTypes}
use Rattle.program.specs.declared.arena.Node.{Node}
use Rattle.program.specs.declared.arena.Node.TheVariants.{Leaf, Unary, Binary, Many}
use Rattle.program.specs.declared.code.CodeLeaf.{CodeLeaf}
use Rattle.program.specs.declared.code.CodeLeaf.TheVariants.{Constant as code_constant}
use Rattle.program.specs.declared.code.CodeUnary.{CodeUnary}
use Rattle.program.specs.declared.code.CodeUnary.TheVariants.{Cast, Declare}
use Rattle.program.specs.declared.code.CodeBinary.{CodeBinary}
use Rattle.program.specs.declared.code.CodeBinary.TheVariants.{Let as code_let}
use Rattle.program.specs.declared.code.CodeMany.{CodeMany}
use Rattle.program.specs.declared.code.CodeMany.TheVariants.{Call as code_call, Vector as code_vector, Pack as code_pack, Unpack as code_unpack}
use Rattle.program.specs.declared.code.Callee.{Callee}
use Rattle.program.specs.declared.code.Callee.TheVariants.{Function as code_function}
use Rattle.program.specs.declared.code.NamedFields.{NamedFields}
use Rattle.program.specs.declared.spec.SpecLeaf.{SpecLeaf}
use Rattle.program.specs.declared.spec.SpecLeaf.TheVariants.{Constant as spec_constant}
use Rattle.program.specs.declared.spec.SpecUnary.{SpecUnary}
use Rattle.program.specs.declared.spec.SpecBinary.{SpecBinary}
use Rattle.program.specs.declared.spec.SpecMany.{SpecMany}
use Rattle.program.specs.declared.spec.SpecMany.TheVariants.{Call as spec_call, Pack as spec_pack, Quantified}
use Rattle.program.specs.declared.spec.SpecCallee.{SpecCallee}
use Rattle.program.specs.declared.spec.SpecCallee.TheVariants.{Function as spec_function}
use Rattle.program.specs.declared.spec.Domain.{Domain}
use Rattle.program.specs.declared.spec.Domain.TheVariants.{Of}
use Rattle.program.specs.declared.clause.Clause.{Clause}
use Rattle.program.specs.declared.clause.LoopClause.{LoopClause}
use Rattle.program.specs.declared.clause.ClauseForm.{ClauseForm}
use Rattle.program.specs.declared.clause.ClauseForm.TheVariants.{Include}
use Rattle.program.specs.declared.declaration.TypedName.{TypedName}
use Rattle.program.specs.declared.declaration.Struct.{Struct}
use Rattle.program.specs.declared.declaration.Constant.{Constant}
use Rattle.program.specs.declared.declaration.Function.{Function}
use Rattle.program.specs.declared.declaration.SpecFunction.{SpecFunction}
use Rattle.program.specs.declared.declaration.Schema.{Schema}
use Rattle.program.specs.declared.program.ModuleId.{ModuleId}
use Rattle.program.specs.declared.program.SchemaId.{SchemaId}
use Rattle.program.specs.Homes.{struct_home, constant_home, function_home, schema_home}

-- ---- types

-- the structs in a type, including those in type arguments
abbrev mutual
  pub structs_in : TypeData → List StructId
  structs_in (VectorType t) = structs_in t
  structs_in (StructType s ts) = s ∷ structs_in_all ts
  structs_in (SharedType t) = structs_in t
  structs_in (MutableType t) = structs_in t
  structs_in (TupleType ts) = structs_in_all ts
  structs_in _ = []

  pub structs_in_all : TypesData → List StructId
  structs_in_all NoTypes = []
  structs_in_all (MoreTypes t ts) = structs_in t ++ structs_in_all ts

-- the modules of the structs in a type
abbrev pub homes_in : TypeData → List ModuleId
homes_in t = map struct_home (structs_in t)

abbrev pub homes_in_all : TypesData → List ModuleId
homes_in_all ts = map struct_home (structs_in_all ts)

abbrev pub homes_in_maybe : Option TypeData → List ModuleId
homes_in_maybe None = []
homes_in_maybe (Some t) = homes_in t

abbrev pub homes_in_names : List TypedName → List ModuleId
homes_in_names names = flat_map (λ n. homes_in n.annotation) names

-- a struct with named fields, with its type arguments
abbrev pub homes_in_fields : NamedFields → List ModuleId
homes_in_fields f = struct_home f.owner ∷ homes_in_all f.types

-- ---- code

abbrev pub homes_in_leaf : CodeLeaf → List ModuleId
homes_in_leaf (code_constant c) = constant_home c ∷ []
homes_in_leaf _ = []

abbrev pub homes_in_unary : CodeUnary → List ModuleId
homes_in_unary (Cast t) = homes_in t
homes_in_unary (Declare t) = homes_in_maybe t
homes_in_unary _ = []

abbrev pub homes_in_binary : CodeBinary → List ModuleId
homes_in_binary (code_let t) = homes_in_maybe t
homes_in_binary _ = []

abbrev pub homes_in_callee : Callee → List ModuleId
homes_in_callee (code_function f) = function_home f ∷ []
homes_in_callee _ = []

abbrev pub homes_in_many : CodeMany → List ModuleId
homes_in_many (code_call c) = homes_in_callee c.callee ++ homes_in_all c.types
homes_in_many (code_vector ts) = homes_in_all ts
homes_in_many (code_pack f) = homes_in_fields f
homes_in_many (code_unpack f) = homes_in_fields f
homes_in_many _ = []

abbrev pub homes_in_node : Node CodeLeaf CodeUnary CodeBinary CodeMany → List ModuleId
homes_in_node (Leaf l) = homes_in_leaf l
homes_in_node (Unary u a) = homes_in_unary u
homes_in_node (Binary b x y) = homes_in_binary b
homes_in_node (Many m parts) = homes_in_many m
homes_in_node _ = []

abbrev pub homes_in_code : List (Node CodeLeaf CodeUnary CodeBinary CodeMany) → List ModuleId
homes_in_code nodes = flat_map homes_in_node nodes

-- ---- specifications

abbrev pub homes_in_spec_leaf : SpecLeaf → List ModuleId
homes_in_spec_leaf (spec_constant c) = constant_home c ∷ []
homes_in_spec_leaf _ = []

abbrev pub homes_in_spec_callee : SpecCallee → List ModuleId
homes_in_spec_callee (spec_function f) = function_home f ∷ []
homes_in_spec_callee _ = []

abbrev pub homes_in_domain : Domain → List ModuleId
homes_in_domain (Of t) = homes_in t
homes_in_domain _ = []

abbrev pub homes_in_spec_many : SpecMany → List ModuleId
homes_in_spec_many (spec_call c) = homes_in_spec_callee c.callee ++ homes_in_all c.types
homes_in_spec_many (spec_pack f) = homes_in_fields f
homes_in_spec_many (Quantified q binds triggers) = flat_map (λ b. homes_in_domain b.domain) binds

abbrev pub homes_in_spec_node : Node SpecLeaf SpecUnary SpecBinary SpecMany → List ModuleId
homes_in_spec_node (Leaf l) = homes_in_spec_leaf l
homes_in_spec_node (Many m parts) = homes_in_spec_many m
homes_in_spec_node _ = []

abbrev pub homes_in_spec : List (Node SpecLeaf SpecUnary SpecBinary SpecMany) → List ModuleId
homes_in_spec nodes = flat_map homes_in_spec_node nodes

abbrev pub homes_in_form : ClauseForm → List ModuleId
homes_in_form (Include s ts given) = schema_home s ∷ homes_in_all ts
homes_in_form _ = []

abbrev pub homes_in_clause : Clause → List ModuleId
homes_in_clause c = homes_in_form c.form ++ homes_in_spec c.body.nodes

abbrev pub homes_in_clauses : List Clause → List ModuleId
homes_in_clauses clauses = flat_map homes_in_clause clauses

abbrev pub homes_in_loops : List LoopClause → List ModuleId
homes_in_loops clauses = flat_map (λ l. homes_in_clause l.clause) clauses

-- ---- declarations

abbrev pub homes_in_struct : Struct → List ModuleId
homes_in_struct s = homes_in_names s.fields ++ homes_in_clauses s.clauses

abbrev pub homes_in_constant : Constant → List ModuleId
homes_in_constant c = homes_in c.annotation ++ homes_in_code c.value.nodes

abbrev pub homes_in_function : Function → List ModuleId
homes_in_function f =
    homes_in_names f.parameters ++ (homes_in f.result ++ (map struct_home f.acquires
    ++ (homes_in_code f.body.nodes ++ (homes_in_clauses f.clauses ++ homes_in_loops f.loop_clauses))))

abbrev pub homes_in_spec_function : SpecFunction → List ModuleId
homes_in_spec_function f = homes_in_names f.parameters ++ (homes_in f.result ++ homes_in_spec f.body.nodes)

abbrev pub homes_in_schema : Schema → List ModuleId
homes_in_schema s = homes_in_names s.variables ++ homes_in_clauses s.clauses

-- ---- dependencies of a kind on itself

-- the structs in the types of the fields
abbrev pub structs_of_fields : Struct → List StructId
structs_of_fields s = flat_map (λ f. structs_in f.annotation) s.fields

abbrev pub called_in : SpecCallee → List FunctionId
called_in (spec_function f) = f ∷ []
called_in _ = []

abbrev pub called_in_many : SpecMany → List FunctionId
called_in_many (spec_call c) = called_in c.callee
called_in_many _ = []

abbrev pub called_in_node : Node SpecLeaf SpecUnary SpecBinary SpecMany → List FunctionId
called_in_node (Many m parts) = called_in_many m
called_in_node _ = []

-- the spec functions that the body calls
abbrev pub functions_called : SpecFunction → List FunctionId
functions_called f = flat_map called_in_node f.body.nodes

abbrev pub included_by : ClauseForm → List SchemaId
included_by (Include s ts given) = s ∷ []
included_by _ = []

abbrev pub included_in : Clause → List SchemaId
included_in c = included_by c.form

-- the schemas that the clauses include
abbrev pub schemas_included : Schema → List SchemaId
schemas_included s = flat_map included_in s.clauses
