-- The slot found from the tokens of a block is that of its tree.
use Rattle.std.proofs.Common.{◌≡◌, ℕ, Bool, true, false, cond, ◌&&◌, List, [], ◌∷◌, ◌++◌, Option, Some, None, refl, sym, ap, subst, ◌∙◌}
use Rattle.std.specs.Prelude.{not, codes, is_some}
use Rattle.std.specs.Option.{option_map_or}
use Rattle.base.specs.declared.span.Span.{Span}
use Rattle.tokens.specs.declared.token.Token.{Token}
use Rattle.tokens.specs.declared.token.Punctuation.{Punctuation as Sign}
use Rattle.tokens.specs.declared.token.Punctuation.TheVariants.{LeftBrace, RightBrace}
use Rattle.syntax_tree.specs.declared.lexeme.Identifier.{Identifier}
use Rattle.syntax_tree.specs.declared.lexeme.Lexeme.{Lexeme}
use Rattle.syntax_tree.specs.Lexemes.{word, identifier, sign}
use Rattle.syntax_tree.specs.NameRules.{IsName}
use Rattle.syntax_tree.specs.MemberSpelling.{parameters_spelling}
use Rattle.syntax_tree.specs.declared.slot.Slot.{Slot}
use Rattle.syntax_tree.specs.declared.slot.Slot.TheVariants.{Function as of_function, Struct as of_struct, Module as of_module, Schema as of_schema, SpecFunction as of_spec_function, Loop as of_loop}
use Rattle.syntax_tree.specs.ClauseSpelling.{clause_block_spelling, clauses_spelling}
use Rattle.syntax_tree.specs.ProperClauses.{IsProperBlock}
use Rattle.syntax_tree.specs.declared.clause.Spec.{Spec}
use Rattle.syntax_tree.specs.declared.clause.Spec.TheVariants.{Module as module_spec, Named as named_spec, Schema as schema_spec, Function as function_spec, Loop as loop_spec}
use Rattle.parser_base.specs.Beginnings.{Begins}
use Rattle.parser_base.specs.TokenReading.{is_keyword, after_word, begins_capital}
use Rattle.parser_base.proofs.Steps.{true_or_false}
use Rattle.parser_base.proofs.BeginLemmas.{Begins-first}
use Rattle.parser_base.proofs.TokenLemmas.{name_is_no_keyword, after_word-sound, after_word-complete, after_word-other}
use Rattle.item_parser.proofs.SpecBlockLemmas.{function_behind, behind}
use Rattle.base.specs.Names.{is_one_of}
use Rattle.syntax_tree.specs.SourceSlots.{IsSlotOf}
use Rattle.item_parser.specs.SlotReading.{word_of_kind, first_word, is_schema, names_struct, slot_at}
use Rattle.item_parser.proofs.NameLemmas.{is_of_struct, of_struct-sound, of_struct-complete, of_struct-none}

-- ---- words

first_word-word : (w : List ℕ) (span : Option Span) (ls : List Lexeme) (ts rest : List Token) → Begins (word w span ∷ ls) ts rest → first_word ts ≡ Some w
first_word-word w span ls [] rest b = absurd b
first_word-word w span ls (t ∷ ts) rest b = ap word_of_kind b.0.kind

first_word-sign : (s : Sign) (ls : List Lexeme) (ts rest : List Token) → Begins (sign s ∷ ls) ts rest → first_word ts ≡ None
first_word-sign s ls [] rest b = absurd b
first_word-sign s ls (t ∷ ts) rest b = ap word_of_kind b.0.kind

behind_one : (l m : Lexeme) (ls : List Lexeme) (ts us rest : List Token) → Begins (l ∷ []) ts us → Begins (m ∷ ls) ts rest → Begins ls us rest
behind_one l m ls [] us rest a b = absurd a
behind_one l m ls (t ∷ ts) us rest a b = subst (λ vs. Begins ls vs rest) a.1 b.1

-- ---- how a slot is found

abbrev Words : Type 0
Words = Option (List Token)

abbrev pick : Words → Words → Bool → Bool → Slot
pick m f s n = cond (is_some m) of_module (cond (is_some f) of_spec_function (cond s of_schema (cond n of_struct of_function)))

slot_is : (test : List ℕ → Bool) (ts : List Token) (m f : Words) (s n : Bool) → after_word (codes "module") ts ≡ m → after_word (codes "fun") ts ≡ f → is_schema ts ≡ s → names_struct test ts ≡ n → slot_at test ts ≡ pick m f s n
unfolding slot_at
slot_is test ts m f s n e1 e2 e3 e4 =
    ap (λ o. pick o (after_word (codes "fun") ts) (is_schema ts) (names_struct test ts)) e1
    ∙ ap (λ o. pick m o (is_schema ts) (names_struct test ts)) e2
    ∙ ap (λ b. pick m f b (names_struct test ts)) e3 ∙ ap (λ b. pick m f s b) e4

-- no member has the slot of a loop
pub not_loop : (test : List ℕ → Bool) (ts : List Token) → slot_at test ts ≡ of_loop → ⊥
not_loop test ts e = go (after_word (codes "module") ts) (after_word (codes "fun") ts) (is_schema ts) (names_struct test ts) (sym (slot_is test ts _ _ _ _ refl refl refl refl) ∙ e)
  where
    go : (m f : Words) (s n : Bool) → pick m f s n ≡ of_loop → ⊥
    go (Some x) f s n e = absurd (cc)
    go None (Some x) s n e = absurd (cc)
    go None None true n e = absurd (cc)
    go None None false true e = absurd (cc)
    go None None false false e = absurd (cc)

-- ---- the slot of a tree

-- a name that is read is not a keyword
abbrev pub IsNamed : Spec → Type 0
IsNamed (named_spec span name clauses) = IsName name.text
IsNamed _ = Unit {0}

pub proper_named : (slot : Slot) (x : Spec) → IsProperBlock slot x → IsNamed x
proper_named slot (module_spec span clauses) p = tt
proper_named of_function (named_spec span name clauses) p = p.0
proper_named of_struct (named_spec span name clauses) p = p.0
proper_named of_module (named_spec span name clauses) p = absurd p
proper_named of_schema (named_spec span name clauses) p = absurd p
proper_named of_spec_function (named_spec span name clauses) p = absurd p
proper_named of_loop (named_spec span name clauses) p = absurd p
proper_named slot (schema_spec s) p = tt
proper_named slot (function_spec f) p = tt
proper_named slot (loop_spec span clauses) p = tt

module_is_keyword : is_keyword (codes "module") ≡ true
unfolding is_keyword
module_is_keyword = refl

fun_is_keyword : is_keyword (codes "fun") ≡ true
unfolding is_keyword
fun_is_keyword = refl

-- before a brace `schema` is a name
not_schema : (i : Identifier) (ls : List Lexeme) (ts rest : List Token) → Begins (identifier i ∷ sign LeftBrace ∷ ls) ts rest → is_schema ts ≡ false
not_schema i ls ts rest b = go (after_word (codes "schema") ts) refl
  where
    go : (o : Words) → after_word (codes "schema") ts ≡ o → option_map_or (λ (us : List Token). is_some {T = List ℕ} (first_word us)) o false ≡ false
    go None e = refl
    go (Some us) e =
        ap (λ o. is_some {T = List ℕ} o)
        (first_word-sign LeftBrace ls us rest (behind_one (word (codes "schema") None) (identifier i) (sign LeftBrace ∷ ls) ts us rest (after_word-sound (codes "schema") ts us e) b))

named_slot : (functions : List (List ℕ)) (test : List ℕ → Bool) → ((name : List ℕ) → test name ≡ is_one_of functions name) → (name : Identifier) (ls : List Lexeme) (ts rest : List Token)
    → Begins (identifier name ∷ sign LeftBrace ∷ ls) ts rest → IsName name.text → (b : Bool) → is_of_struct functions name.text ≡ b → slot_at test ts ≡ cond b of_struct of_function
named_slot functions test same name ls ts rest b p s e =
    slot_is test ts None None false s (no_word (codes "module") module_is_keyword) (no_word (codes "fun") fun_is_keyword) (not_schema name ls ts rest b)
    (ap (λ o. option_map_or (λ w. begins_capital w && not (test w)) o false) (first_word-word name.text (Some name.span) (sign LeftBrace ∷ ls) ts rest b)
    ∙ ap (λ t. begins_capital name.text && not t) (same name.text) ∙ e)
  where
    no_word : (w : List ℕ) → is_keyword w ≡ true → after_word w ts ≡ None
    no_word w k = after_word-other w (identifier name) (sign LeftBrace ∷ ls) ts rest (name_is_no_keyword name.text w k p) b

pub slot_right : (functions : List (List ℕ)) (test : List ℕ → Bool) → ((name : List ℕ) → test name ≡ is_one_of functions name) → (x : Spec) (slot : Slot) (ts rest : List Token)
    → Begins (behind x) ts rest → IsNamed x → IsSlotOf functions x slot → slot_at test ts ≡ slot
slot_right functions test same (module_spec span clauses) of_module ts rest b p s =
    let w = Begins-first (word (codes "module") None) (clause_block_spelling clauses) ts rest b in
    slot_is test ts (Some w.mid) _ _ _ (after_word-complete (codes "module") ts w.mid w.front) refl refl refl
slot_right functions test same (function_spec f) of_spec_function ts rest b p s =
    let w = Begins-first (word (codes "fun") None) (function_behind f) ts rest b in
    slot_is test ts None (Some w.mid) _ _ (after_word-other (codes "module") (word (codes "fun") None) (function_behind f) ts rest refl b) (after_word-complete (codes "fun") ts w.mid w.front) refl refl
slot_right functions test same (schema_spec s) of_schema ts rest b p x =
    let in_schema = identifier s.name ∷ (parameters_spelling s.parameters ++ clause_block_spelling s.clauses) in
    let w = Begins-first (word (codes "schema") None) in_schema ts rest b in
    slot_is test ts None None true _ (after_word-other (codes "module") (word (codes "schema") None) in_schema ts rest refl b)
    (after_word-other (codes "fun") (word (codes "schema") None) in_schema ts rest refl b)
    (ap (λ (o : Words). option_map_or (λ (us : List Token). is_some {T = List ℕ} (first_word us)) o false) (after_word-complete (codes "schema") ts w.mid w.front)
    ∙ ap (λ o. is_some {T = List ℕ} o) (first_word-word s.name.text (Some s.name.span) (parameters_spelling s.parameters ++ clause_block_spelling s.clauses) w.mid rest w.back))
    refl
slot_right functions test same (named_spec span name clauses) of_struct ts rest b p s =
    named_slot functions test same name (clauses_spelling clauses ++ sign RightBrace ∷ []) ts rest b p true (of_struct-complete functions name.text s)
slot_right functions test same (named_spec span name clauses) of_function ts rest b p s =
    named_slot functions test same name (clauses_spelling clauses ++ sign RightBrace ∷ []) ts rest b p false (of_struct-none functions name.text s)
slot_right functions test same (module_spec span clauses) of_function ts rest b p x = absurd x
slot_right functions test same (module_spec span clauses) of_struct ts rest b p x = absurd x
slot_right functions test same (module_spec span clauses) of_schema ts rest b p x = absurd x
slot_right functions test same (module_spec span clauses) of_spec_function ts rest b p x = absurd x
slot_right functions test same (module_spec span clauses) of_loop ts rest b p x = absurd x
slot_right functions test same (named_spec span name clauses) of_module ts rest b p x = absurd x
slot_right functions test same (named_spec span name clauses) of_schema ts rest b p x = absurd x
slot_right functions test same (named_spec span name clauses) of_spec_function ts rest b p x = absurd x
slot_right functions test same (named_spec span name clauses) of_loop ts rest b p x = absurd x
slot_right functions test same (schema_spec s) of_function ts rest b p x = absurd x
slot_right functions test same (schema_spec s) of_struct ts rest b p x = absurd x
slot_right functions test same (schema_spec s) of_module ts rest b p x = absurd x
slot_right functions test same (schema_spec s) of_spec_function ts rest b p x = absurd x
slot_right functions test same (schema_spec s) of_loop ts rest b p x = absurd x
slot_right functions test same (function_spec f) of_function ts rest b p x = absurd x
slot_right functions test same (function_spec f) of_struct ts rest b p x = absurd x
slot_right functions test same (function_spec f) of_module ts rest b p x = absurd x
slot_right functions test same (function_spec f) of_schema ts rest b p x = absurd x
slot_right functions test same (function_spec f) of_loop ts rest b p x = absurd x
slot_right functions test same (loop_spec span clauses) of_function ts rest b p x = absurd x
slot_right functions test same (loop_spec span clauses) of_struct ts rest b p x = absurd x
slot_right functions test same (loop_spec span clauses) of_module ts rest b p x = absurd x
slot_right functions test same (loop_spec span clauses) of_schema ts rest b p x = absurd x
slot_right functions test same (loop_spec span clauses) of_spec_function ts rest b p x = absurd x
slot_right functions test same (loop_spec span clauses) of_loop ts rest b p x = absurd x

-- each tree except a loop's has a slot
pub record HasSlot (functions : List (List ℕ)) (x : Spec) : Type 0 where
  pub slot : Slot
  pub is : IsSlotOf functions x slot

pub has_slot : (functions : List (List ℕ)) (slot : Slot) (x : Spec) → IsProperBlock slot x → (slot ≡ of_loop → ⊥) → HasSlot functions x
has_slot functions slot (module_spec span clauses) p n = record { slot = of_module; is = tt }
has_slot functions slot (schema_spec s) p n = record { slot = of_schema; is = tt }
has_slot functions slot (function_spec f) p n = record { slot = of_spec_function; is = tt }
has_slot functions slot (named_spec span name clauses) p n = go (is_of_struct functions name.text) refl
  where
    go : (b : Bool) → is_of_struct functions name.text ≡ b → HasSlot functions (named_spec span name clauses)
    go true e = record { slot = of_struct; is = of_struct-sound functions name.text e }
    go false e = record { slot = of_function; is = λ s. true_or_false (is_of_struct functions name.text) (of_struct-complete functions name.text s) e }
has_slot functions of_loop (loop_spec span clauses) p n = absurd (n refl)
has_slot functions of_function (loop_spec span clauses) p n = absurd p
has_slot functions of_struct (loop_spec span clauses) p n = absurd p
has_slot functions of_module (loop_spec span clauses) p n = absurd p
has_slot functions of_schema (loop_spec span clauses) p n = absurd p
has_slot functions of_spec_function (loop_spec span clauses) p n = absurd p
