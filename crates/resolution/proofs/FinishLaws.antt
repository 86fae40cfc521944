-- The declarations of members are added to tables, with the clauses of their owners.
use Rattle.std.proofs.Common.{◌≡◌, ℕ, ◌+◌, Option, Some, None, List, [], ◌∷◌, ◌++◌, length, refl, sym, ap, subst, ◌∙◌, arith, append-nil, append_assoc, length-append}
use Rattle.base.specs.Pairs.{Paired}
use Rattle.syntax_tree.specs.declared.clause.Spec.{Spec as SpecTree}
use Rattle.syntax_tree.specs.declared.clause.Spec.TheVariants.{Module as module_spec, Named as named_spec, Schema as schema_spec, Function as function_spec, Loop as loop_spec}
use Rattle.syntax_tree.specs.SourceData.{SourceMemberData}
use Rattle.program.specs.declared.clause.Clause.{Clause}
use Rattle.program.specs.declared.program.Program.{Program}
use Rattle.syntax_tree.specs.declared.member.Constant.{Constant as ConstantTree}
use Rattle.syntax_tree.specs.declared.member.Function.{Function as FunctionTree}
use Rattle.syntax_tree.specs.declared.member.Struct.{Struct as StructTree}
use Rattle.syntax_tree.specs.declared.clause.Schema.{Schema as SchemaTree}
use Rattle.syntax_tree.specs.declared.clause.SpecFunction.{SpecFunction as SpecFunctionTree}
use Rattle.syntax_tree.specs.declared.source.SourceForm.{SourceForm}
use Rattle.syntax_tree.specs.declared.source.SourceForm.TheVariants.{Use, Friend, Struct, Constant, Function, Spec}
use Rattle.resolution.specs.Pragmas.{pragmas_of}
use Rattle.resolution.specs.Clauses.{AreClausesOf}
use Rattle.resolution.specs.declared.clauses.pragmas.Settings.{Settings}
use Rattle.resolution.specs.declared.declared.Declared.{Declared}
use Rattle.resolution.specs.declared.declared.DeclaredForm.{DeclaredForm}
use Rattle.resolution.specs.declared.declared.DeclaredForm.TheVariants.{Module, Struct as struct_form, Constant as constant_form, Function as function_form, SpecFunction as spec_function_form, Schema as schema_form}
use Rattle.resolution.specs.declared.owners.Owner.{Owner}
use Rattle.resolution.specs.Items.{Here}
use Rattle.resolution.specs.Owners.{OwnerScope, blocks_of, module_scope, owner_scope, owner_scopes, settings_in, sources_in}
use Rattle.resolution.specs.OwnersSoFar.{AreOwners, AreOwnersFrom, IsOwnerAfter, blocks_before}
use Rattle.resolution.specs.Parts.{ArePartsFrom, Entered, EnteredOf, IsBare, IsBareAs, IsPartOf, finished}
use Rattle.resolution.specs.Programs.{AreClausesOfOwner, StructOf, ConstantOf, FunctionOf, SpecFunctionOf, SchemaOf, IsDeclared, IsDeclaredAs, declarations_from, form_declaration, spec_declaration}
use Rattle.resolution.proofs.TableLaws.{both_entered, nothing_entered}

-- the additions to tables so far, and those that remain
pub record PartsSoFar (w : Here) (old now : Program) (parts : List (Option Declared)) (owners : List Owner) : Type 0 where
  pub done : List SourceMemberData
  pub rest : List SourceMemberData
  pub whole : w.members ≡ done ++ rest
  pub parts_are : ArePartsFrom w (length done) rest parts
  pub owners_are : AreOwnersFrom (blocks_before w w.members) (length done) (owner_scopes w.environment w.schemas rest) owners
  pub entered : EnteredOf (declarations_from w 0 done) old now

pub parts_begin : (w : Here) (p : Program) (parts : List (Option Declared)) (owners : List Owner) → ArePartsFrom w 0 w.members parts → AreOwners w (blocks_before w w.members) owners → PartsSoFar w p p parts owners
parts_begin w p parts owners a b = record {
  done = [];
  rest = w.members;
  whole = refl;
  parts_are = a;
  owners_are = b.are;
  entered = nothing_entered p;
}

-- all clauses of an owner
pub clauses_of_owner : (w : Here) (scope : OwnerScope) (n : ℕ) (o : Owner) → IsOwnerAfter scope (blocks_of w.members n) o → AreClausesOfOwner w scope n o.target.clauses
clauses_of_owner w scope n o after = subst (λ cs. AreClausesOf scope.scope scope.around 0 (sources_in (blocks_of w.members n)) cs) (sym after.clauses.clauses) after.clauses.are

-- ---- one member

finished_struct : (w : Here) (n : ℕ) (s : StructTree) (form : DeclaredForm) (o : Owner) (of_module : Settings) → IsBare (StructOf w n s) form → IsOwnerAfter (owner_scope w.environment w.schemas (Struct s)) (blocks_of w.members n) o → IsDeclared (StructOf w n s) (finished form o.target.clauses o.settings of_module)
finished_struct w n s (struct_form id r) o of_module b after = record {
  id_is = b.id_is;
  is_struct = record { span = b.is_struct.span; type_parameters = b.is_struct.type_parameters; abilities = b.is_struct.abilities; fields = b.is_struct.fields; clauses = refl };
  clauses = clauses_of_owner w (owner_scope w.environment w.schemas (Struct s)) n o after;
}
finished_struct w n s (Module id r) o of_module b after = absurd b
finished_struct w n s (constant_form id r) o of_module b after = absurd b
finished_struct w n s (function_form id r) o of_module b after = absurd b
finished_struct w n s (spec_function_form id r) o of_module b after = absurd b
finished_struct w n s (schema_form id r) o of_module b after = absurd b

finished_function : (w : Here) (n : ℕ) (f : FunctionTree) (loops : List SpecTree) (form : DeclaredForm) (o : Owner) (of_module : Settings) → IsBare (FunctionOf w n f loops) form → IsOwnerAfter (owner_scope w.environment w.schemas (Function f)) (blocks_of w.members n) o → of_module ≡ settings_in (blocks_of w.members (length w.members)) → IsDeclared (FunctionOf w n f loops) (finished form o.target.clauses o.settings of_module)
finished_function w n f loops (function_form id r) o of_module b after e = record {
  id_is = b.id_is;
  span_is = b.span_is;
  head = b.head;
  body = b.body;
  pragmas = λ i. pragmas_of (after.settings i) (e i);
  clauses = clauses_of_owner w (owner_scope w.environment w.schemas (Function f)) n o after;
  loop_clauses = b.loop_clauses;
}
finished_function w n f loops (Module id r) o of_module b after e = absurd b
finished_function w n f loops (struct_form id r) o of_module b after e = absurd b
finished_function w n f loops (constant_form id r) o of_module b after e = absurd b
finished_function w n f loops (spec_function_form id r) o of_module b after e = absurd b
finished_function w n f loops (schema_form id r) o of_module b after e = absurd b

finished_constant : (w : Here) (c : ConstantTree) (form : DeclaredForm) (cs : List Clause) (own of_module : Settings) → IsBare (ConstantOf w c) form → IsDeclared (ConstantOf w c) (finished form cs own of_module)
finished_constant w c (constant_form id r) cs own of_module b = b
finished_constant w c (Module id r) cs own of_module b = absurd b
finished_constant w c (struct_form id r) cs own of_module b = absurd b
finished_constant w c (function_form id r) cs own of_module b = absurd b
finished_constant w c (spec_function_form id r) cs own of_module b = absurd b
finished_constant w c (schema_form id r) cs own of_module b = absurd b

finished_schema : (w : Here) (s : SchemaTree) (form : DeclaredForm) (cs : List Clause) (own of_module : Settings) → IsBare (SchemaOf w s) form → IsDeclared (SchemaOf w s) (finished form cs own of_module)
finished_schema w s (schema_form id r) cs own of_module b = b
finished_schema w s (Module id r) cs own of_module b = absurd b
finished_schema w s (struct_form id r) cs own of_module b = absurd b
finished_schema w s (constant_form id r) cs own of_module b = absurd b
finished_schema w s (function_form id r) cs own of_module b = absurd b
finished_schema w s (spec_function_form id r) cs own of_module b = absurd b

finished_spec_function : (w : Here) (f : SpecFunctionTree) (form : DeclaredForm) (cs : List Clause) (own of_module : Settings) → IsBare (SpecFunctionOf w f) form → IsDeclared (SpecFunctionOf w f) (finished form cs own of_module)
finished_spec_function w f (spec_function_form id r) cs own of_module b = b
finished_spec_function w f (Module id r) cs own of_module b = absurd b
finished_spec_function w f (struct_form id r) cs own of_module b = absurd b
finished_spec_function w f (constant_form id r) cs own of_module b = absurd b
finished_spec_function w f (function_form id r) cs own of_module b = absurd b
finished_spec_function w f (schema_form id r) cs own of_module b = absurd b

-- the declaration of a spec block
finished_spec : (w : Here) (s : SpecTree) (d e : Declared) (cs : List Clause) (own of_module : Settings) → e.form ≡ finished d.form cs own of_module → Paired IsBareAs (spec_declaration w s) (d ∷ []) → Paired IsDeclaredAs (spec_declaration w s) (e ∷ [])
finished_spec w (module_spec span clauses) d e cs own of_module g p = absurd p
finished_spec w (named_spec span name clauses) d e cs own of_module g p = absurd p
finished_spec w (schema_spec s) d e cs own of_module g p = (subst (λ form. IsDeclared (SchemaOf w s) form) (sym g) (finished_schema w s d.form cs own of_module p.0), tt)
finished_spec w (function_spec f) d e cs own of_module g p = (subst (λ form. IsDeclared (SpecFunctionOf w f) form) (sym g) (finished_spec_function w f d.form cs own of_module p.0), tt)
finished_spec w (loop_spec span clauses) d e cs own of_module g p = absurd p

-- the declaration of a member
finished_form : (w : Here) (n : ℕ) (form : SourceForm) (loops : List SpecTree) (d e : Declared) (o : Owner) (of_module : Settings) → e.form ≡ finished d.form o.target.clauses o.settings of_module → IsOwnerAfter (owner_scope w.environment w.schemas form) (blocks_of w.members n) o → of_module ≡ settings_in (blocks_of w.members (length w.members)) → Paired IsBareAs (form_declaration w n form loops) (d ∷ []) → Paired IsDeclaredAs (form_declaration w n form loops) (e ∷ [])
finished_form w n (Use u) loops d e o of_module g after k p = absurd p
finished_form w n (Friend f) loops d e o of_module g after k p = absurd p
finished_form w n (Struct s) loops d e o of_module g after k p = (subst (λ form. IsDeclared (StructOf w n s) form) (sym g) (finished_struct w n s d.form o of_module p.0 after), tt)
finished_form w n (Constant c) loops d e o of_module g after k p = (subst (λ form. IsDeclared (ConstantOf w c) form) (sym g) (finished_constant w c d.form o.target.clauses o.settings of_module p.0), tt)
finished_form w n (Function f) loops d e o of_module g after k p = (subst (λ form. IsDeclared (FunctionOf w n f loops) form) (sym g) (finished_function w n f loops d.form o of_module p.0 after k), tt)
finished_form w n (Spec s) loops d e o of_module g after k p = finished_spec w s d e o.target.clauses o.settings of_module g p

pub part_entered : (w : Here) (n : ℕ) (m : SourceMemberData) (d e : Declared) (o : Owner) (of_module : Settings) (a b : Program) → e.form ≡ finished d.form o.target.clauses o.settings of_module → IsOwnerAfter (owner_scope w.environment w.schemas m.form) (blocks_of w.members n) o → of_module ≡ settings_in (blocks_of w.members (length w.members)) → IsPartOf w n m (Some d) → Entered (e ∷ []) a b → EnteredOf (form_declaration w n m.form m.loops) a b
part_entered w n m d e o of_module a b g after k p entered = record {
  more = e ∷ [];
  are = finished_form w n m.form m.loops d e o of_module g after k p;
  entered = entered;
}

-- a member that declares nothing
none_there : {A B : Type 0} (R : A → B → Type 0) (xs : List A) → Paired R xs [] → xs ≡ []
none_there R [] p = refl
none_there R (x ∷ xs) p = absurd p

pub nothing_of_part : (w : Here) (n : ℕ) (m : SourceMemberData) (a : Program) → IsPartOf w n m None → EnteredOf (form_declaration w n m.form m.loops) a a
nothing_of_part w n m a p = subst (λ ts. EnteredOf ts a a) (sym (none_there IsBareAs (form_declaration w n m.form m.loops) p)) (nothing_entered a)

-- ---- all members

declarations-snoc : (w : Here) (n : ℕ) (ms : List SourceMemberData) (m : SourceMemberData) → declarations_from w n (ms ++ m ∷ []) ≡ declarations_from w n ms ++ form_declaration w (n + length ms) m.form m.loops
declarations-snoc w n [] m = let e : n ≡ n + 0 = omega arith in append-nil (form_declaration w n m.form m.loops) ∙ ap (λ k. form_declaration w k m.form m.loops) e
declarations-snoc w n (x ∷ ms) m =
    let e : (n + 1) + length ms ≡ n + length (x ∷ ms) = omega arith in
    ap (λ ts. form_declaration w n x.form x.loops ++ ts) (declarations-snoc w (n + 1) ms m ∙ ap (λ k. declarations_from w (n + 1) ms ++ form_declaration w k m.form m.loops) e)
    ∙ sym (append_assoc (form_declaration w n x.form x.loops) (declarations_from w (n + 1) ms) (form_declaration w (n + length (x ∷ ms)) m.form m.loops))

-- the next member, whose declaration and owner are the first that remain
pub parts_next : (w : Here) (old now next : Program) (part : Option Declared) (parts : List (Option Declared)) (o : Owner) (os : List Owner) → ((n : ℕ) (m : SourceMemberData) → IsPartOf w n m part → IsOwnerAfter (owner_scope w.environment w.schemas m.form) (blocks_of w.members n) o → EnteredOf (form_declaration w n m.form m.loops) now next) → PartsSoFar w old now (part ∷ parts) (o ∷ os) → PartsSoFar w old next parts os
parts_next w old now next part parts o os enter p =
    let cases : (rest : List SourceMemberData) → w.members ≡ p.done ++ rest → ArePartsFrom w (length p.done) rest (part ∷ parts) → AreOwnersFrom (blocks_before w w.members) (length p.done) (owner_scopes w.environment w.schemas rest) (o ∷ os) → PartsSoFar w old next parts os = λ rest. elim rest as (λ rest. w.members ≡ p.done ++ rest → ArePartsFrom w (length p.done) rest (part ∷ parts) → AreOwnersFrom (blocks_before w w.members) (length p.done) (owner_scopes w.environment w.schemas rest) (o ∷ os) → PartsSoFar w old next parts os) [
      | [] ↦ λ e a b. absurd a
      | m ∷ ms ↦ λ e a b.
          let k : length (p.done ++ m ∷ []) ≡ length p.done + 1 = length-append p.done (m ∷ []) in
          let z : 0 + length p.done ≡ length p.done = omega arith in
          let one = enter (length p.done) m a.0 b.0 in
          record {
            done = p.done ++ m ∷ [];
            rest = ms;
            whole = e ∙ sym (append_assoc p.done (m ∷ []) ms);
            parts_are = subst (λ n. ArePartsFrom w n ms parts) (sym k) a.1;
            owners_are = subst (λ n. AreOwnersFrom (blocks_before w w.members) n (owner_scopes w.environment w.schemas ms) os) (sym k) b.1;
            entered = subst (λ ts. EnteredOf ts old next) (ap (λ n. declarations_from w 0 p.done ++ form_declaration w n m.form m.loops) (sym z) ∙ sym (declarations-snoc w 0 p.done m)) (both_entered (declarations_from w 0 p.done) (form_declaration w (length p.done) m.form m.loops) old now next p.entered one);
          }
    ] in
    cases p.rest p.whole p.parts_are p.owners_are

-- no member remains
pub parts_all : (w : Here) (old now : Program) (os : List Owner) → PartsSoFar w old now [] os → EnteredOf (declarations_from w 0 w.members) old now
parts_all w old now os p =
    let none : (rest : List SourceMemberData) → ArePartsFrom w (length p.done) rest [] → rest ≡ [] = λ rest. elim rest as (λ rest. ArePartsFrom w (length p.done) rest [] → rest ≡ []) [ [] ↦ λ a. refl | m ∷ ms ↦ λ a. absurd a ] in
    let e : w.members ≡ p.done = p.whole ∙ ap (λ ms. p.done ++ ms) (none p.rest p.parts_are) ∙ append-nil p.done in
    subst (λ ms. EnteredOf (declarations_from w 0 ms) old now) (sym e) p.entered

-- the module itself is the last of the owners
pub last_owner : (w : Here) (old now : Program) (o : Owner) (os : List Owner) → PartsSoFar w old now [] (o ∷ os) → AreClausesOfOwner w (module_scope w.environment w.schemas) (length w.members) o.target.clauses
last_owner w old now o os p =
    let none : (rest : List SourceMemberData) → ArePartsFrom w (length p.done) rest [] → rest ≡ [] = λ rest. elim rest as (λ rest. ArePartsFrom w (length p.done) rest [] → rest ≡ []) [ [] ↦ λ a. refl | m ∷ ms ↦ λ a. absurd a ] in
    let gone = none p.rest p.parts_are in
    let e : w.members ≡ p.done = p.whole ∙ ap (λ ms. p.done ++ ms) gone ∙ append-nil p.done in
    let owners = subst (λ rest. AreOwnersFrom (blocks_before w w.members) (length p.done) (owner_scopes w.environment w.schemas rest) (o ∷ os)) gone p.owners_are in
    let here = subst (λ n. IsOwnerAfter (module_scope w.environment w.schemas) (blocks_of w.members n) o) (sym (ap length e)) owners.0 in
    clauses_of_owner w (module_scope w.environment w.schemas) (length w.members) o here

pub nothing_left : {A : Type 0} (xs : List A) → length xs ≡ 0 → xs ≡ []
nothing_left [] h = refl
nothing_left (x ∷ xs) h = absurd (omega (arith, h))
