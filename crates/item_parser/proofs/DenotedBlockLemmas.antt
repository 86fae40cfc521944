-- Tokens denote exactly the spec block that is read from them.
use Rattle.std.proofs.Common.{◌≡◌, ℕ, suc, ◌+◌, List, Option, Some, None, length, sym, ap, subst, ◌∙◌, arith}
use Rattle.tokens.specs.declared.token.Token.{Token}
use Rattle.syntax_tree.specs.Lexemes.{AreTokens}
use Rattle.syntax_tree.specs.declared.slot.Slot.{Slot}
use Rattle.syntax_tree.specs.declared.clause.Spec.{Spec}
use Rattle.syntax_tree.specs.ClauseSpelling.{spec_tree_spelling}
use Rattle.syntax_tree.specs.ProperClauses.{IsProperBlock}
use Rattle.parser_base.specs.ReadFault.{IfNoTree}
use Rattle.parser_base.specs.declared.fault.ReadFault.{ReadFault}
use Rattle.parser_base.specs.declared.fault.ReadFault.TheVariants.{NoTree, NoMemory as no_memory}
use Rattle.parser_base.proofs.Steps.{some_one}
use Rattle.parser_base.proofs.BeginLemmas.{are_tokens, begin_all}
use Rattle.parser_base.proofs.SpelledTokens.{tokens_for, are_tokens_for}
use Rattle.parser_base.specs.declared.explain.ParseFault.{ParseFault}
use Rattle.parser_base.specs.declared.explain.ParseFault.TheVariants.{Grammar, LeftOut, NoMemory}
use Rattle.parser_base.specs.ParseFault.{Explains}
use Rattle.item_parser.specs.WholeBlockReading.{whole_at}
use Rattle.item_parser.specs.DenotedBlocks.{IsCause}
use Rattle.syntax_tree.specs.DenotedClauses.{IsSpecBlockOf, AreOfNoSpecBlock}
use Rattle.item_parser.proofs.WholeBlockLemmas.{whole_at-sound, whole_at-complete}

pub read_is_spec_block : (slot : Slot) (n : ℕ) (ts : List Token) (e : Spec) → whole_at slot n ts ≡ Some e → IsSpecBlockOf slot e ts
read_is_spec_block slot n ts e h = let s = whole_at-sound slot n ts e h in record { spelled = are_tokens (spec_tree_spelling e) ts s.0; proper = s.1 }

-- the spec block that tokens denote is read from them
pub spec_block_is_read : (slot : Slot) (ts : List Token) (e : Spec) → IsSpecBlockOf slot e ts → whole_at slot (suc (length ts)) ts ≡ Some e
spec_block_is_read slot ts e f = whole_at-complete slot (length ts) e ts (omega arith) (begin_all (spec_tree_spelling e) ts f.spelled) f.proper

pub none_read : (slot : Slot) (n : ℕ) (ts : List Token) → n ≡ length ts + 1 → whole_at slot n ts ≡ None → AreOfNoSpecBlock slot ts
none_read slot n ts k h e f = absurd (differs e (sym h ∙ ap (λ m. whole_at slot m ts) (more n (length ts) k) ∙ spec_block_is_read slot ts e f))
  where
    more : (a b : ℕ) → a ≡ b + 1 → a ≡ suc b
    more a b h = omega (arith, h)

    differs : {A : Type 0} (x : A) → ◌≡◌ {A = Option A} None (Some x) → ⊥
    differs x h = cc

-- the reason why no spec block was read is the reason why the tokens denote none
pub cause_is_known : (slot : Slot) (ts : List Token) (n : ℕ) (fault : ReadFault) (why : ParseFault) → n ≡ length ts + 1 → IfNoTree fault (whole_at slot n ts ≡ None) → Explains ts fault why → IsCause slot ts why
cause_is_known slot ts n (NoTree left) (Grammar span) k h w = (none_read slot n ts k h, w.0)
cause_is_known slot ts n (NoTree left) (LeftOut index) k h w = (none_read slot n ts k h, w)
cause_is_known slot ts n (NoTree left) NoMemory k h w = absurd w
cause_is_known slot ts n no_memory why k h w = subst (IsCause slot ts) (sym w) tt

pub one_spec_block : (slot : Slot) (ts : List Token) (e f : Spec) → IsSpecBlockOf slot e ts → IsSpecBlockOf slot f ts → e ≡ f
one_spec_block slot ts e f d g = some_one e f (sym (spec_block_is_read slot ts e d) ∙ spec_block_is_read slot ts f g)

pub one_spelling : (slot : Slot) (e f : Spec) → IsProperBlock slot e → IsProperBlock slot f → spec_tree_spelling e ≡ spec_tree_spelling f → e ≡ f
one_spelling slot e f p q h =
    one_spec_block slot (tokens_for (spec_tree_spelling e)) e f (record { spelled = are_tokens_for (spec_tree_spelling e); proper = p })
    (record { spelled = subst (AreTokens (tokens_for (spec_tree_spelling e))) h (are_tokens_for (spec_tree_spelling e)); proper = q })
