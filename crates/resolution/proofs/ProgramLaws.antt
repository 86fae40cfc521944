-- Modules and files, one after another.
use Rattle.std.proofs.Common.{◌≡◌, inl, inr, ℕ, zero, suc, ◌+◌, ◌<◌, List, [], ◌∷◌, ◌++◌, length, get_or, take, drop, refl, sym, ap, subst, ◌∙◌, arith, append-nil}
use Rattle.std.proofs.Common.{Result, Ok, Err, IfErr, OnOk, filter_map, option_map}
use Rattle.std.specs.FinMap.{get}
use Rattle.std.proofs.lemmas.Grind.{flat_map-append}
use Rattle.base.specs.declared.span.Span.{Span}
use Rattle.syntax_tree.specs.SourceModuleData.{SourceModuleData}
use Rattle.program.specs.declared.program.ModuleId.{ModuleId}
use Rattle.program.specs.declared.program.Program.{Program}
use Rattle.scopes.specs.EnvironmentData.{EnvironmentData, entered}
use Rattle.syntax_tree.specs.declared.path.Address.{Address}
use Rattle.syntax_tree.specs.declared.path.Address.TheVariants.{Number as number_address, Name as named_address}
use Rattle.syntax_tree.specs.declared.path.ModuleName.{ModuleName}
use Rattle.scopes.specs.MemberNames.{same_module}
use Rattle.scopes.specs.Meanings.{address_meaning, module_meaning}
use Rattle.scopes.specs.Brings.{environment_of, firsts}
use Rattle.scopes.specs.Program.{declaring}
use Rattle.resolution.specs.Setting.{same_schema}
use Rattle.resolution.specs.declared.fault.DeclarationFault.{DeclarationFault}
use Rattle.resolution.specs.declared.fault.DeclarationFault.TheVariants.{Unknown, NoMemory}
use Rattle.resolution.specs.declared.known.Known.{Known}
use Rattle.resolution.specs.Faults.{IsFaultAmong, IsFaultFrom, fault_in}
use Rattle.resolution.specs.Items.{AreKnown, AreKnownIn, Here, IsFirstUnknown, IsFirstUnknownIn, here, module_items, source_items}
use Rattle.resolution.specs.Known.{KnownData, all_modules, all_schemas, inside, known_of}
use Rattle.resolution.specs.Modules.{IsKnown, IsWithin}
use Rattle.resolution.specs.Parts.{EnteredOf}
use Rattle.resolution.specs.Programs.{IsProgramOf, constant_in, declarations_of, function_in, module_declarations, module_in, same_constant, same_function, same_struct, schema_in, source_declarations, spec_function_in, struct_in}
use Rattle.resolution.proofs.ItemLaws.{around_span, fault_between, known_append, taken_one}
use Rattle.resolution.proofs.TableLaws.{both_entered}

-- ---- the modules of a source

pub module_entered : (k : KnownData) (ms : List SourceModuleData) (i : ℕ) (m : SourceModuleData) (a b c : Program) → i < length ms → m ≡ get_or ms i m → EnteredOf (source_declarations k (take i ms)) a b → EnteredOf (module_declarations k m) b c → EnteredOf (source_declarations k (take (i + 1) ms)) a c
module_entered k ms i m a b c h e before one =
    let last = subst (λ ts. EnteredOf ts b c) (sym (append-nil (module_declarations k m))) one in
    subst (λ ts. EnteredOf ts a c) (sym (flat_map-append (module_declarations k) (take i ms) (m ∷ [])) ∙ ap (source_declarations k) (sym (taken_one ms i m h e)))
    (both_entered (source_declarations k (take i ms)) (source_declarations k (m ∷ [])) a b c before last)

pub module_known : (k : KnownData) (ms : List SourceModuleData) (i : ℕ) (m : SourceModuleData) → i < length ms → m ≡ get_or ms i m → AreKnown (source_items k (take i ms)) → AreKnown (module_items k m) → AreKnown (source_items k (take (i + 1) ms))
module_known k ms i m h e before one =
    let last = subst (λ is. AreKnown is) (sym (append-nil (module_items k m))) one in
    subst (λ is. AreKnown is) (sym (flat_map-append (module_items k) (take i ms) (m ∷ [])) ∙ ap (source_items k) (sym (taken_one ms i m h e)))
    (known_append (source_items k (take i ms)) (source_items k (m ∷ [])) before last)

pub module_fault : (k : KnownData) (ms : List SourceModuleData) (i : ℕ) (m : SourceModuleData) (fault : DeclarationFault) → i < length ms → m ≡ get_or ms i m → AreKnown (source_items k (take i ms)) → IsFaultAmong (module_items k m) fault → IsFaultAmong (source_items k ms) fault
module_fault k ms i m fault h e before one =
    subst (λ is. IsFaultAmong is fault)
    (sym (flat_map-append (module_items k) (take i ms) (m ∷ drop (i + 1) ms)) ∙ ap (source_items k) (around_span ms i m h e))
    (fault_between (source_items k (take i ms)) (module_items k m) (source_items k (drop (i + 1) ms)) fault before one)

-- ---- sources

pub source_entered : (k : KnownData) (ss : List (List SourceModuleData)) (i : ℕ) (s : List SourceModuleData) (a b c : Program) → i < length ss → s ≡ get_or ss i s → EnteredOf (declarations_of k (take i ss)) a b → EnteredOf (source_declarations k s) b c → EnteredOf (declarations_of k (take (i + 1) ss)) a c
source_entered k ss i s a b c h e before one =
    let last = subst (λ ts. EnteredOf ts b c) (sym (append-nil (source_declarations k s))) one in
    subst (λ ts. EnteredOf ts a c) (sym (flat_map-append (source_declarations k) (take i ss) (s ∷ [])) ∙ ap (declarations_of k) (sym (taken_one ss i s h e)))
    (both_entered (declarations_of k (take i ss)) (declarations_of k (s ∷ [])) a b c before last)

known_snoc : (k : KnownData) (ss : List (List SourceModuleData)) (s : List SourceModuleData) → AreKnownIn k ss → AreKnown (source_items k s) → AreKnownIn k (ss ++ s ∷ [])
known_snoc k [] s a b = (b, tt)
known_snoc k (x ∷ ss) s a b = (a.0, known_snoc k ss s a.1 b)

pub source_known : (k : KnownData) (ss : List (List SourceModuleData)) (i : ℕ) (s : List SourceModuleData) → i < length ss → s ≡ get_or ss i s → AreKnownIn k (take i ss) → AreKnown (source_items k s) → AreKnownIn k (take (i + 1) ss)
source_known k ss i s h e before one = subst (λ xs. AreKnownIn k xs) (sym (taken_one ss i s h e)) (known_snoc k (take i ss) s before one)

first_of_all : (k : KnownData) (n : ℕ) (ss : List (List SourceModuleData)) (i : ℕ) (s : List SourceModuleData) (span : Span) → i < length ss → s ≡ get_or ss i s → AreKnownIn k (take i ss) → IsFirstUnknown (source_items k s) span → IsFirstUnknownIn k n ss (n + i) span
first_of_all k n [] i s span h e before one = absurd (omega (arith, h))
first_of_all k n (x ∷ ss) zero s span h e before one =
    let z : n + 0 ≡ n = omega arith in
    inl (z, subst (λ y. IsFirstUnknown (source_items k y) span) e one)
first_of_all k n (x ∷ ss) (suc i) s span h e before one =
    let z : (n + 1) + i ≡ n + suc i = omega arith in
    inr (before.0, subst (λ f. IsFirstUnknownIn k (n + 1) ss f span) z (first_of_all k (n + 1) ss i s span (omega (arith, h)) e before.1 one))

pub source_fault : (k : KnownData) (ss : List (List SourceModuleData)) (i : ℕ) (s : List SourceModuleData) (fault : DeclarationFault) → i < length ss → s ≡ get_or ss i s → AreKnownIn k (take i ss) → IsFaultAmong (source_items k s) fault → IsFaultFrom k ss (fault_in fault i)
source_fault k ss i s (Unknown span) h e before one =
    let z : 0 + i ≡ i = omega arith in
    subst (λ f. IsFirstUnknownIn k 0 ss f span) z (first_of_all k 0 ss i s span h e before one)
source_fault k ss i s NoMemory h e before one = tt

-- ---- entering a module

pub inside_is : (k : KnownData) (env : EnvironmentData) (own : ModuleId) (m : SourceModuleData) → IsWithin k env → environment_of (entered env own) m.members ≡ inside k own m.members
inside_is k env own m within = λ i. environment_of (record { addresses = within.addresses i; declared = within.declared i; own = own; modules = []; names = [] }) m.members

pub here_is : (k : KnownData) (code : Known) (env : EnvironmentData) (own : ModuleId) (m : SourceModuleData) (w : Here) → IsKnown k code → w.environment ≡ inside k own m.members → w.modules ≡ code.modules.keys → w.schemas ≡ code.schemas → w.members ≡ m.members → w ≡ here k own m.members
here_is k code env own m w known e f g h = λ i. record { environment = e i; modules = (f ∙ known.modules) i; schemas = (g ∙ known.schemas) i; members = h i }

-- ---- several clauses about one result

pub if_err : {A E : Type 0} (r : Result A E) (P Q : E → Type 0) → ((e : E) → P e → Q e) → IfErr r P → IfErr r Q
if_err (Ok x) P Q f h = h
if_err (Err e) P Q f h = f e h

pub on_ok : {A E : Type 0} (r : Result A E) {P Q : Type 0} → (P → Q) → OnOk r P → OnOk r Q
on_ok (Ok x) f h = f h
on_ok (Err e) f h = h

-- ---- addresses

same_address : (k : KnownData) (env : EnvironmentData) → IsWithin k env → (a : Address) → address_meaning env a ≡ address_meaning k.environment a
same_address k env within (number_address n) = refl
same_address k env within (named_address name) = λ i. get (within.addresses i) name.text

-- the address and the name of a module have the same meaning in all modules
pub same_module_meaning : (k : KnownData) (env : EnvironmentData) (name : ModuleName) → IsWithin k env → module_meaning env name ≡ module_meaning k.environment name
same_module_meaning k env name within = ap (λ o. option_map (λ (a : ℕ). let id : ModuleId = record { address = a; name = name.name.text } in id) o) (same_address k env within name.address)

-- ---- programs

pub begun_within : (sources : List (List SourceModuleData)) (env : EnvironmentData) → env ≡ declaring sources → IsWithin (known_of sources) env
begun_within sources env e = record { addresses = ap (λ (x : EnvironmentData). x.addresses) e; declared = ap (λ (x : EnvironmentData). x.declared) e }

pub begun_known : (sources : List (List SourceModuleData)) (env : EnvironmentData) (code : Known) → env ≡ declaring sources → code.modules.keys ≡ all_modules env sources → code.schemas ≡ all_schemas env sources → IsKnown (known_of sources) code
begun_known sources env code e f g = record { modules = f ∙ ap (λ x. all_modules x sources) e; schemas = g ∙ ap (λ x. all_schemas x sources) e }

pub program_made : (sources : List (List SourceModuleData)) (old new : Program) → old.modules ≡ [] → old.structs ≡ [] → old.constants ≡ [] → old.functions ≡ [] → old.spec_functions ≡ [] → old.schemas ≡ [] → EnteredOf (declarations_of (known_of sources) sources) old new → IsProgramOf sources new
program_made sources old new m s c f g h e = record {
  declared = e.more;
  are = e.are;
  tables = record {
    modules = e.entered.modules ∙ ap (λ t. firsts same_module t (filter_map (λ d. module_in d.form) e.more)) m;
    structs = e.entered.structs ∙ ap (λ t. firsts same_struct t (filter_map (λ d. struct_in d.form) e.more)) s;
    constants = e.entered.constants ∙ ap (λ t. firsts same_constant t (filter_map (λ d. constant_in d.form) e.more)) c;
    functions = e.entered.functions ∙ ap (λ t. firsts same_function t (filter_map (λ d. function_in d.form) e.more)) f;
    spec_functions = e.entered.spec_functions ∙ ap (λ t. firsts same_function t (filter_map (λ d. spec_function_in d.form) e.more)) g;
    schemas = e.entered.schemas ∙ ap (λ t. firsts same_schema t (filter_map (λ d. schema_in d.form) e.more)) h;
  };
}
