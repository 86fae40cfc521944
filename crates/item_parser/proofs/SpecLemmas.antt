-- The tree of a spec block is exactly the one read from its tokens.
use Rattle.std.proofs.Common.{◌≡◌, ℕ, Bool, List, [], ◌∷◌, refl, sym, subst, ◌∙◌}
use Rattle.std.specs.BTreeSet.{BTreeSet}
use Rattle.tokens.specs.declared.token.Token.{Token}
use Rattle.syntax_tree.specs.Lexemes.{AreTokens}
use Rattle.syntax_tree.specs.declared.spec_tokens.KeptSpec.{KeptSpec}
use Rattle.syntax_tree.specs.declared.slot.Slot.{Slot}
use Rattle.syntax_tree.specs.declared.slot.Slot.TheVariants.{Loop}
use Rattle.syntax_tree.specs.declared.clause.Spec.{Spec}
use Rattle.syntax_tree.specs.ClauseSpelling.{spec_tree_spelling}
use Rattle.parser_base.specs.Beginnings.{Begins}
use Rattle.parser_base.proofs.BeginLemmas.{Begins-same, begin_all}
use Rattle.item_parser.proofs.SpecBlockLemmas.{behind, spec_spelled}
use Rattle.parser_base.specs.declared.explain.ParseFault.{ParseFault}
use Rattle.parser_base.specs.declared.explain.ParseFault.TheVariants.{Grammar, LeftOut, NoMemory}
use Rattle.item_parser.specs.DenotedBlocks.{IsCause}
use Rattle.syntax_tree.specs.DenotedClauses.{IsSpecBlockOf, AreOfNoSpecBlock}
use Rattle.item_parser.proofs.DenotedBlockLemmas.{one_spec_block}
use Rattle.item_parser.specs.SpecFault.{IfNoSpec, fault_of}
use Rattle.syntax_tree.specs.SourceSlots.{IsSlotOf}
use Rattle.base.specs.Names.{is_one_of, has, IsSetOf}
use Rattle.item_parser.specs.SlotReading.{slot_at}
use Rattle.syntax_tree.specs.Members.{IsSpecOf}
use Rattle.syntax_tree.specs.Loops.{IsLoopTree}
use Rattle.item_parser.specs.Reading.{slot_by, slot_of_block, HasNoTree, HasNoLoopTree}
use Rattle.item_parser.proofs.SlotLemmas.{not_loop, proper_named, slot_right, has_slot}

tree_behind : (x : Spec) (t : Token) (ts : List Token) → AreTokens (t ∷ ts) (spec_tree_spelling x) → Begins (behind x) ts []
tree_behind x t ts a = (Begins-same _ _ (t ∷ ts) [] (spec_spelled x) (begin_all (spec_tree_spelling x) (t ∷ ts) a)).1

-- the slot found from the tokens of a tree is the only slot of the tree
slot_of_denoted : (functions : List (List ℕ)) (test : List ℕ → Bool) → ((name : List ℕ) → test name ≡ is_one_of functions name) → (slot : Slot) (x : Spec) (t : Token) (ts : List Token)
    → IsSpecBlockOf slot x (t ∷ ts) → (s : Slot) → IsSlotOf functions x s → slot_at test ts ≡ s
slot_of_denoted functions test same slot x t ts d s is = slot_right functions test same x s ts [] (tree_behind x t ts d.spelled) (proper_named slot x d.proper) is

sound_at : (functions : List (List ℕ)) (test : List ℕ → Bool) → ((name : List ℕ) → test name ≡ is_one_of functions name) → (x : Spec) (t : Token) (ts : List Token)
    → IsSpecBlockOf (slot_at test ts) x (t ∷ ts) → IsSlotOf functions x (slot_at test ts)
sound_at functions test same x t ts d =
    let h = has_slot functions (slot_at test ts) x d.proper (not_loop test ts) in
    subst (IsSlotOf functions x) (sym (slot_of_denoted functions test same (slot_at test ts) x t ts d h.slot h.is)) h.is

-- a tree has tokens
no_empty : (x : Spec) → AreTokens [] (spec_tree_spelling x) → ⊥
no_empty x a = subst (AreTokens []) (spec_spelled x) a

slot_of_tokens : (functions : List (List ℕ)) (test : List ℕ → Bool) → ((name : List ℕ) → test name ≡ is_one_of functions name) → (slot : Slot) (x : Spec) (tokens : List Token)
    → IsSpecBlockOf slot x tokens → (s : Slot) → IsSlotOf functions x s → slot_by test tokens ≡ s
slot_of_tokens functions test same slot x [] d s is = absurd (no_empty x d.spelled)
slot_of_tokens functions test same slot x (t ∷ ts) d s is = slot_of_denoted functions test same slot x t ts d s is

sound_of_tokens : (functions : List (List ℕ)) (test : List ℕ → Bool) → ((name : List ℕ) → test name ≡ is_one_of functions name) → (x : Spec) (tokens : List Token)
    → IsSpecBlockOf (slot_by test tokens) x tokens → IsSlotOf functions x (slot_by test tokens)
sound_of_tokens functions test same x [] d = absurd (no_empty x d.spelled)
sound_of_tokens functions test same x (t ∷ ts) d = sound_at functions test same x t ts d

pub tree_is_read : (functions : List (List ℕ)) (names : BTreeSet (List ℕ)) → IsSetOf names functions → (block : KeptSpec) (x : Spec)
    → IsSpecBlockOf (slot_of_block names block.tokens) x block.tokens → IsSpecOf functions block x
tree_is_read functions names same block x d = record { slot = slot_of_block names block.tokens; slot_is = sound_of_tokens functions (has names) same x block.tokens d; denoted = d }

no_tree : (functions : List (List ℕ)) (names : BTreeSet (List ℕ)) → IsSetOf names functions → (block : KeptSpec)
    → AreOfNoSpecBlock (slot_of_block names block.tokens) block.tokens → HasNoTree functions block
no_tree functions names same block none x s =
    none x (subst (λ slot. IsSpecBlockOf slot x block.tokens) (sym (slot_of_tokens functions (has names) same s.slot x block.tokens s.denoted s.slot s.slot_is)) s.denoted)

pub no_tree_is_read : (functions : List (List ℕ)) (names : BTreeSet (List ℕ)) → IsSetOf names functions → (block : KeptSpec) (fault : ParseFault)
    → IsCause (slot_of_block names block.tokens) block.tokens fault → IfNoSpec (fault_of fault) (HasNoTree functions block)
no_tree_is_read functions names same block (Grammar span) c = no_tree functions names same block c.0
no_tree_is_read functions names same block (LeftOut index) c = no_tree functions names same block c.0
no_tree_is_read functions names same block NoMemory c = tt

pub one_tree : (functions : List (List ℕ)) (block : KeptSpec) (x y : Spec) → IsSpecOf functions block x → IsSpecOf functions block y → x ≡ y
one_tree functions block x y p q =
    let same : (name : List ℕ) → is_one_of functions name ≡ is_one_of functions name = λ name. refl in
    let e = sym (slot_of_tokens functions (is_one_of functions) same q.slot y block.tokens q.denoted q.slot q.slot_is) ∙ slot_of_tokens functions (is_one_of functions) same p.slot x block.tokens p.denoted p.slot p.slot_is in
    one_spec_block p.slot block.tokens x y p.denoted (subst (λ slot. IsSpecBlockOf slot y block.tokens) e q.denoted)

-- the slot found is that of the tokens
pub settled : (P : Slot → Type 0) (names : BTreeSet (List ℕ)) (block : KeptSpec) (slot : Slot) (seen : List Token) → seen ≡ block.tokens → slot ≡ slot_of_block names seen → P slot → P (slot_of_block names block.tokens)
settled P names block slot seen f g p = subst (λ ts. P (slot_of_block names ts)) f (subst P g p)

-- ---- loops

pub no_loop_is_read : (spec : KeptSpec) (fault : ParseFault) → IsCause Loop spec.tokens fault → IfNoSpec (fault_of fault) (HasNoLoopTree spec)
no_loop_is_read spec (Grammar span) c = c.0
no_loop_is_read spec (LeftOut index) c = c.0
no_loop_is_read spec NoMemory c = tt

pub one_loop : (spec : KeptSpec) (x y : Spec) → IsLoopTree spec x → IsLoopTree spec y → x ≡ y
one_loop spec x y p q = one_spec_block Loop spec.tokens x y p q
