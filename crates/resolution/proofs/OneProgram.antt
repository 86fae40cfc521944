-- Sources resolve to at most one program: the source of each declaration determines it.
use Rattle.std.proofs.Common.{◌≡◌, ℕ, ◌+◌, List, [], ◌∷◌, ◌++◌, Option, Some, refl, sym, ap, subst, ◌∙◌}
use Rattle.base.proofs.PairLaws.{one_list}
use Rattle.base.specs.declared.span.Span.{Span}
use Rattle.base.specs.declared.types.FunctionId.{FunctionId}
use Rattle.base.specs.declared.types.StructId.{StructId}
use Rattle.syntax_tree.specs.declared.member.Constant.{Constant as ConstantTree}
use Rattle.syntax_tree.specs.declared.member.Function.{Function as FunctionTree}
use Rattle.syntax_tree.specs.declared.member.Struct.{Struct as StructTree}
use Rattle.syntax_tree.specs.declared.clause.Spec.{Spec as SpecTree}
use Rattle.syntax_tree.specs.declared.clause.Schema.{Schema as SchemaTree}
use Rattle.syntax_tree.specs.declared.clause.SpecFunction.{SpecFunction as SpecFunctionTree}
use Rattle.syntax_tree.specs.SourceModuleData.{SourceModuleData}
use Rattle.program.specs.declared.clause.Clause.{Clause}
use Rattle.program.specs.declared.clause.ClauseForm.{ClauseForm}
use Rattle.program.specs.declared.clause.LoopClause.{LoopClause}
use Rattle.program.specs.declared.declaration.Constant.{Constant as ConstantData}
use Rattle.program.specs.declared.declaration.Function.{Function as FunctionData}
use Rattle.program.specs.declared.declaration.Module.{Module as ModuleData}
use Rattle.program.specs.declared.declaration.Schema.{Schema as SchemaData}
use Rattle.program.specs.declared.declaration.SpecFunction.{SpecFunction as SpecFunctionData}
use Rattle.program.specs.declared.declaration.Struct.{Struct as StructData}
use Rattle.program.specs.declared.program.ConstantId.{ConstantId}
use Rattle.program.specs.declared.program.ModuleId.{ModuleId}
use Rattle.program.specs.declared.program.Program.{Program}
use Rattle.program.specs.declared.program.SchemaId.{SchemaId}
use Rattle.body_names.specs.SpecForms.{SpecTrees}
use Rattle.body_names.specs.declared.spec.outer.OuterName.{OuterName}
use Rattle.resolution.specs.ClauseForms.{IsMadeOf, clause_trees, clause_spans, clause_span, form_of}
use Rattle.resolution.specs.Clauses.{AreClausesOf, PlacedClause, entered}
use Rattle.resolution.specs.Setting.{ClauseScope}
use Rattle.resolution.specs.declared.declared.DeclaredForm.{DeclaredForm}
use Rattle.resolution.specs.declared.declared.DeclaredForm.TheVariants.{Module, Struct as struct_form, Constant as constant_form, Function as function_form, SpecFunction as spec_function_form, Schema as schema_form}
use Rattle.resolution.specs.declared.declared.Declared.{Declared}
use Rattle.resolution.specs.Known.{known_of}
use Rattle.resolution.specs.Items.{Here, around_loop_of, function_scope}
use Rattle.resolution.specs.Programs.{AreTablesOf, DeclarationTree, ModuleTree, StructOf, ConstantOf, FunctionOf, SpecFunctionOf, SchemaOf, IsDeclared, IsDeclaredAs, IsLoopClauseOf, IsModuleOf, IsOwnConstant, IsOwnFunction, IsOwnSchema, IsOwnSpecFunction, IsOwnStruct, IsProgramOf, LoopSource, declarations_of}

one_some : {A : Type 0} {m : Option A} {x y : A} → m ≡ Some x → m ≡ Some y → x ≡ y
one_some e f = cc

-- ---- clauses

one_made : (trees : SpecTrees) (spans : List Span) (form : Option ClauseForm) (block span : Span) (c d : Clause) → IsMadeOf trees spans form block span c → IsMadeOf trees spans form block span d → c ≡ d
one_made trees spans form block span c d p q =
    let block_is : c.block ≡ d.block = p.block_is ∙ sym q.block_is in
    let span_is : c.span ≡ d.span = p.span_is ∙ sym q.span_is in
    let form_is : c.form ≡ d.form = one_some p.form_is q.form_is in
    let nodes : c.body.nodes ≡ d.body.nodes = p.nodes ∙ sym q.nodes in
    let spans_are : c.body.spans ≡ d.body.spans = p.spans_are ∙ sym q.spans_are in
    λ i. record { block = block_is i; span = span_is i; form = form_is i; body = record { nodes = nodes i; spans = spans_are i } }

pub one_clauses : (w : ClauseScope) (outer : List OuterName) (n : ℕ) (sources : List PlacedClause) (cs ds : List Clause) → AreClausesOf w outer n sources cs → AreClausesOf w outer n sources ds → cs ≡ ds
one_clauses w outer n [] [] [] p q = refl
one_clauses w outer n [] [] (d ∷ ds) p q = absurd q
one_clauses w outer n [] (c ∷ cs) ds p q = absurd p
one_clauses w outer n (one ∷ more) [] ds p q = absurd p
one_clauses w outer n (one ∷ more) (c ∷ cs) [] p q = absurd q
one_clauses w outer n (one ∷ more) (c ∷ cs) (d ∷ ds) p q =
    ap (λ x. x ∷ cs) (one_made (clause_trees w outer one.tree) (clause_spans w one.tree) (form_of w outer one.tree) one.block (clause_span one.tree) c d p.0 q.0)
    ∙ ap (λ xs. d ∷ xs) (one_clauses w (outer ++ entered n one.tree) (1 + n) more cs ds p.1 q.1)

one_loop_clause : (w : Here) (f : FunctionTree) (s : LoopSource) (c d : LoopClause) → IsLoopClauseOf w f s c → IsLoopClauseOf w f s d → c ≡ d
one_loop_clause w f s c d p q =
    let at_is : c.at ≡ d.at = p.at_is ∙ sym q.at_is in
    let outer = around_loop_of w f s.loop in
    let scope = function_scope w f in
    let clause_is : c.clause ≡ d.clause = one_made (clause_trees scope outer s.source.tree) (clause_spans scope s.source.tree) (form_of scope outer s.source.tree) s.source.block (clause_span s.source.tree) c.clause d.clause p.is_clause q.is_clause in
    λ i. record { at = at_is i; clause = clause_is i }

-- ---- declarations

one_module : (w : Here) (span : Span) (i j : ModuleId) (x y : ModuleData) → IsModuleOf w span i x → IsModuleOf w span j y → Module i x ≡ Module j y
one_module w span i j x y p q =
    let id_is : i ≡ j = p.id_is ∙ sym q.id_is in
    let span_is : x.span ≡ y.span = p.span_is ∙ sym q.span_is in
    let friends : x.friends ≡ y.friends = p.friends ∙ sym q.friends in
    let clauses : x.clauses ≡ y.clauses = one_clauses _ _ _ _ _ _ p.clauses q.clauses in
    λ k. Module (id_is k) (record { span = span_is k; friends = friends k; clauses = clauses k })

one_struct : (w : Here) (n : ℕ) (tree : StructTree) (i j : StructId) (x y : StructData) → IsOwnStruct w n tree i x → IsOwnStruct w n tree j y → struct_form i x ≡ struct_form j y
one_struct w n tree i j x y p q =
    let id_is : i ≡ j = p.id_is ∙ sym q.id_is in
    let span_is : x.span ≡ y.span = p.is_struct.span ∙ sym q.is_struct.span in
    let types : x.type_parameters ≡ y.type_parameters = p.is_struct.type_parameters ∙ sym q.is_struct.type_parameters in
    let abilities : x.abilities ≡ y.abilities = p.is_struct.abilities ∙ sym q.is_struct.abilities in
    let fields : x.fields ≡ y.fields = one_some p.is_struct.fields q.is_struct.fields in
    let clauses : x.clauses ≡ y.clauses = one_clauses _ _ _ _ _ _ p.clauses q.clauses in
    λ k. struct_form (id_is k) (record { span = span_is k; type_parameters = types k; abilities = abilities k; fields = fields k; clauses = clauses k })

one_constant : (w : Here) (tree : ConstantTree) (i j : ConstantId) (x y : ConstantData) → IsOwnConstant w tree i x → IsOwnConstant w tree j y → constant_form i x ≡ constant_form j y
one_constant w tree i j x y p q =
    let id_is : i ≡ j = p.id_is ∙ sym q.id_is in
    let span_is : x.span ≡ y.span = p.is_constant.span ∙ sym q.is_constant.span in
    let annotation : x.annotation ≡ y.annotation = one_some p.is_constant.annotation q.is_constant.annotation in
    let nodes : x.value.nodes ≡ y.value.nodes = p.is_constant.value_nodes ∙ sym q.is_constant.value_nodes in
    let spans : x.value.spans ≡ y.value.spans = p.is_constant.value_spans ∙ sym q.is_constant.value_spans in
    λ k. constant_form (id_is k) (record { span = span_is k; annotation = annotation k; value = record { nodes = nodes k; spans = spans k } })

one_function : (w : Here) (n : ℕ) (tree : FunctionTree) (loops : List SpecTree) (i j : FunctionId) (x y : FunctionData) → IsOwnFunction w n tree loops i x → IsOwnFunction w n tree loops j y → function_form i x ≡ function_form j y
one_function w n tree loops i j x y p q =
    let id_is : i ≡ j = p.id_is ∙ sym q.id_is in
    let span_is : x.span ≡ y.span = p.span_is ∙ sym q.span_is in
    let visibility : x.visibility ≡ y.visibility = p.head.visibility ∙ sym q.head.visibility in
    let types : x.type_parameters ≡ y.type_parameters = p.head.type_parameters ∙ sym q.head.type_parameters in
    let parameters : x.parameters ≡ y.parameters = one_some p.head.parameters q.head.parameters in
    let result_is : x.result ≡ y.result = one_some p.head.result_is q.head.result_is in
    let acquires : x.acquires ≡ y.acquires = one_some p.head.acquires q.head.acquires in
    let locals : x.locals ≡ y.locals = p.body.locals_are ∙ sym q.body.locals_are in
    let nodes : x.body.nodes ≡ y.body.nodes = p.body.nodes ∙ sym q.body.nodes in
    let spans : x.body.spans ≡ y.body.spans = p.body.spans_are ∙ sym q.body.spans_are in
    let pragmas : x.pragmas ≡ y.pragmas = p.pragmas ∙ sym q.pragmas in
    let clauses : x.clauses ≡ y.clauses = one_clauses _ _ _ _ _ _ p.clauses q.clauses in
    let loop_clauses : x.loop_clauses ≡ y.loop_clauses = one_list (IsLoopClauseOf w tree) _ x.loop_clauses y.loop_clauses (one_loop_clause w tree) p.loop_clauses q.loop_clauses in
    λ k. function_form (id_is k) (record {
      span = span_is k;
      visibility = visibility k;
      type_parameters = types k;
      parameters = parameters k;
      result = result_is k;
      acquires = acquires k;
      locals = locals k;
      body = record { nodes = nodes k; spans = spans k };
      pragmas = pragmas k;
      clauses = clauses k;
      loop_clauses = loop_clauses k;
    })

one_spec_function : (w : Here) (tree : SpecFunctionTree) (i j : FunctionId) (x y : SpecFunctionData) → IsOwnSpecFunction w tree i x → IsOwnSpecFunction w tree j y → spec_function_form i x ≡ spec_function_form j y
one_spec_function w tree i j x y p q =
    let id_is : i ≡ j = p.id_is ∙ sym q.id_is in
    let span_is : x.span ≡ y.span = p.is_function.span ∙ sym q.is_function.span in
    let types : x.type_parameters ≡ y.type_parameters = p.is_function.type_parameters ∙ sym q.is_function.type_parameters in
    let parameters : x.parameters ≡ y.parameters = one_some p.is_function.parameters q.is_function.parameters in
    let result_is : x.result ≡ y.result = one_some p.is_function.result_is q.is_function.result_is in
    let nodes : x.body.nodes ≡ y.body.nodes = p.is_function.nodes ∙ sym q.is_function.nodes in
    let spans : x.body.spans ≡ y.body.spans = p.is_function.spans ∙ sym q.is_function.spans in
    λ k. spec_function_form (id_is k) (record { span = span_is k; type_parameters = types k; parameters = parameters k; result = result_is k; body = record { nodes = nodes k; spans = spans k } })

one_schema : (w : Here) (tree : SchemaTree) (i j : SchemaId) (x y : SchemaData) → IsOwnSchema w tree i x → IsOwnSchema w tree j y → schema_form i x ≡ schema_form j y
one_schema w tree i j x y p q =
    let id_is : i ≡ j = p.id_is ∙ sym q.id_is in
    let span_is : x.span ≡ y.span = p.is_schema.span ∙ sym q.is_schema.span in
    let types : x.type_parameters ≡ y.type_parameters = p.is_schema.type_parameters ∙ sym q.is_schema.type_parameters in
    let variables : x.variables ≡ y.variables = one_some p.is_schema.variables q.is_schema.variables in
    let clauses : x.clauses ≡ y.clauses = one_clauses _ _ _ _ _ _ p.is_schema.clauses q.is_schema.clauses in
    λ k. schema_form (id_is k) (record { span = span_is k; type_parameters = types k; variables = variables k; clauses = clauses k })

one_form : (tree : DeclarationTree) (x y : DeclaredForm) → IsDeclared tree x → IsDeclared tree y → x ≡ y
one_form (ModuleTree w span) (Module i x) (Module j y) p q = one_module w span i j x y p q
one_form (ModuleTree w span) (Module i x) (struct_form j y) p q = absurd q
one_form (ModuleTree w span) (Module i x) (constant_form j y) p q = absurd q
one_form (ModuleTree w span) (Module i x) (function_form j y) p q = absurd q
one_form (ModuleTree w span) (Module i x) (spec_function_form j y) p q = absurd q
one_form (ModuleTree w span) (Module i x) (schema_form j y) p q = absurd q
one_form (ModuleTree w span) (struct_form i x) y p q = absurd p
one_form (ModuleTree w span) (constant_form i x) y p q = absurd p
one_form (ModuleTree w span) (function_form i x) y p q = absurd p
one_form (ModuleTree w span) (spec_function_form i x) y p q = absurd p
one_form (ModuleTree w span) (schema_form i x) y p q = absurd p
one_form (StructOf w n s) (Module i x) y p q = absurd p
one_form (StructOf w n s) (struct_form i x) (Module j y) p q = absurd q
one_form (StructOf w n s) (struct_form i x) (struct_form j y) p q = one_struct w n s i j x y p q
one_form (StructOf w n s) (struct_form i x) (constant_form j y) p q = absurd q
one_form (StructOf w n s) (struct_form i x) (function_form j y) p q = absurd q
one_form (StructOf w n s) (struct_form i x) (spec_function_form j y) p q = absurd q
one_form (StructOf w n s) (struct_form i x) (schema_form j y) p q = absurd q
one_form (StructOf w n s) (constant_form i x) y p q = absurd p
one_form (StructOf w n s) (function_form i x) y p q = absurd p
one_form (StructOf w n s) (spec_function_form i x) y p q = absurd p
one_form (StructOf w n s) (schema_form i x) y p q = absurd p
one_form (ConstantOf w c) (Module i x) y p q = absurd p
one_form (ConstantOf w c) (struct_form i x) y p q = absurd p
one_form (ConstantOf w c) (constant_form i x) (Module j y) p q = absurd q
one_form (ConstantOf w c) (constant_form i x) (struct_form j y) p q = absurd q
one_form (ConstantOf w c) (constant_form i x) (constant_form j y) p q = one_constant w c i j x y p q
one_form (ConstantOf w c) (constant_form i x) (function_form j y) p q = absurd q
one_form (ConstantOf w c) (constant_form i x) (spec_function_form j y) p q = absurd q
one_form (ConstantOf w c) (constant_form i x) (schema_form j y) p q = absurd q
one_form (ConstantOf w c) (function_form i x) y p q = absurd p
one_form (ConstantOf w c) (spec_function_form i x) y p q = absurd p
one_form (ConstantOf w c) (schema_form i x) y p q = absurd p
one_form (FunctionOf w n f loops) (Module i x) y p q = absurd p
one_form (FunctionOf w n f loops) (struct_form i x) y p q = absurd p
one_form (FunctionOf w n f loops) (constant_form i x) y p q = absurd p
one_form (FunctionOf w n f loops) (function_form i x) (Module j y) p q = absurd q
one_form (FunctionOf w n f loops) (function_form i x) (struct_form j y) p q = absurd q
one_form (FunctionOf w n f loops) (function_form i x) (constant_form j y) p q = absurd q
one_form (FunctionOf w n f loops) (function_form i x) (function_form j y) p q = one_function w n f loops i j x y p q
one_form (FunctionOf w n f loops) (function_form i x) (spec_function_form j y) p q = absurd q
one_form (FunctionOf w n f loops) (function_form i x) (schema_form j y) p q = absurd q
one_form (FunctionOf w n f loops) (spec_function_form i x) y p q = absurd p
one_form (FunctionOf w n f loops) (schema_form i x) y p q = absurd p
one_form (SpecFunctionOf w f) (Module i x) y p q = absurd p
one_form (SpecFunctionOf w f) (struct_form i x) y p q = absurd p
one_form (SpecFunctionOf w f) (constant_form i x) y p q = absurd p
one_form (SpecFunctionOf w f) (function_form i x) y p q = absurd p
one_form (SpecFunctionOf w f) (spec_function_form i x) (Module j y) p q = absurd q
one_form (SpecFunctionOf w f) (spec_function_form i x) (struct_form j y) p q = absurd q
one_form (SpecFunctionOf w f) (spec_function_form i x) (constant_form j y) p q = absurd q
one_form (SpecFunctionOf w f) (spec_function_form i x) (function_form j y) p q = absurd q
one_form (SpecFunctionOf w f) (spec_function_form i x) (spec_function_form j y) p q = one_spec_function w f i j x y p q
one_form (SpecFunctionOf w f) (spec_function_form i x) (schema_form j y) p q = absurd q
one_form (SpecFunctionOf w f) (schema_form i x) y p q = absurd p
one_form (SchemaOf w s) (Module i x) y p q = absurd p
one_form (SchemaOf w s) (struct_form i x) y p q = absurd p
one_form (SchemaOf w s) (constant_form i x) y p q = absurd p
one_form (SchemaOf w s) (function_form i x) y p q = absurd p
one_form (SchemaOf w s) (spec_function_form i x) y p q = absurd p
one_form (SchemaOf w s) (schema_form i x) (Module j y) p q = absurd q
one_form (SchemaOf w s) (schema_form i x) (struct_form j y) p q = absurd q
one_form (SchemaOf w s) (schema_form i x) (constant_form j y) p q = absurd q
one_form (SchemaOf w s) (schema_form i x) (function_form j y) p q = absurd q
one_form (SchemaOf w s) (schema_form i x) (spec_function_form j y) p q = absurd q
one_form (SchemaOf w s) (schema_form i x) (schema_form j y) p q = one_schema w s i j x y p q

one_declared : (tree : DeclarationTree) (x y : Declared) → IsDeclaredAs tree x → IsDeclaredAs tree y → x ≡ y
one_declared tree x y p q =
    let form_is : x.form ≡ y.form = one_form tree x.form y.form p q in
    λ k. record { form = form_is k }

-- ---- the whole program

one_table : (declared : List Declared) (x y : Program) → AreTablesOf declared x → AreTablesOf declared y → x ≡ y
one_table declared x y p q =
    let modules : x.modules ≡ y.modules = p.modules ∙ sym q.modules in
    let structs : x.structs ≡ y.structs = p.structs ∙ sym q.structs in
    let constants : x.constants ≡ y.constants = p.constants ∙ sym q.constants in
    let functions : x.functions ≡ y.functions = p.functions ∙ sym q.functions in
    let spec_functions : x.spec_functions ≡ y.spec_functions = p.spec_functions ∙ sym q.spec_functions in
    let schemas : x.schemas ≡ y.schemas = p.schemas ∙ sym q.schemas in
    λ k. record { modules = modules k; structs = structs k; constants = constants k; functions = functions k; spec_functions = spec_functions k; schemas = schemas k }

pub one_program : (sources : List (List SourceModuleData)) (x y : Program) → IsProgramOf sources x → IsProgramOf sources y → x ≡ y
one_program sources x y p q =
    let same : p.declared ≡ q.declared = one_list IsDeclaredAs (declarations_of (known_of sources) sources) p.declared q.declared one_declared p.are q.are in
    one_table q.declared x y (subst (λ (ds : List Declared). AreTablesOf ds x) same p.tables) q.tables
