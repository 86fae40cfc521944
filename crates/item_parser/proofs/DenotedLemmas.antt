-- Tokens denote exactly the file that is read from them.
use Rattle.std.proofs.Common.{◌≡◌, ℕ, suc, ◌+◌, List, Option, Some, None, length, sym, ap, subst, ◌∙◌, arith}
use Rattle.tokens.specs.declared.token.Token.{Token}
use Rattle.syntax_tree.specs.Lexemes.{AreTokens}
use Rattle.syntax_tree.specs.FileData.{ModuleData}
use Rattle.syntax_tree.specs.MemberSpelling.{file_spelling}
use Rattle.syntax_tree.specs.ProperMembers.{IsProperFile}
use Rattle.parser_base.specs.ReadFault.{IfNoTree}
use Rattle.parser_base.specs.declared.fault.ReadFault.{ReadFault}
use Rattle.parser_base.specs.declared.fault.ReadFault.TheVariants.{NoTree, NoMemory as no_memory}
use Rattle.parser_base.proofs.Steps.{some_one}
use Rattle.parser_base.proofs.BeginLemmas.{are_tokens, begin_all}
use Rattle.parser_base.proofs.SpelledTokens.{tokens_for, are_tokens_for}
use Rattle.parser_base.specs.declared.explain.ParseFault.{ParseFault}
use Rattle.parser_base.specs.declared.explain.ParseFault.TheVariants.{Grammar, LeftOut, NoMemory}
use Rattle.parser_base.specs.ParseFault.{Explains}
use Rattle.item_parser.specs.FileReading.{file_at}
use Rattle.item_parser.specs.Denoted.{IsCause}
use Rattle.syntax_tree.specs.DenotedFiles.{IsFileOf, AreOfNoFile}
use Rattle.item_parser.proofs.FileLemmas.{file_at-sound, file_at-complete}

pub read_is_file : (n : ℕ) (ts : List Token) (xs : List ModuleData) → file_at n ts ≡ Some xs → IsFileOf xs ts
read_is_file n ts xs e = let s = file_at-sound n ts xs e in record { spelled = are_tokens (file_spelling xs) ts s.0; proper = s.1 }

-- the file that tokens denote is read from them
pub file_is_read : (ts : List Token) (xs : List ModuleData) → IsFileOf xs ts → file_at (suc (length ts)) ts ≡ Some xs
file_is_read ts xs f = file_at-complete (length ts) xs ts (omega arith) (begin_all (file_spelling xs) ts f.spelled) f.proper

pub none_read : (n : ℕ) (ts : List Token) → n ≡ length ts + 1 → file_at n ts ≡ None → AreOfNoFile ts
none_read n ts k e xs f = absurd (differs xs (sym e ∙ ap (λ m. file_at m ts) (more n (length ts) k) ∙ file_is_read ts xs f))
  where
    more : (a b : ℕ) → a ≡ b + 1 → a ≡ suc b
    more a b h = omega (arith, h)

    differs : {A : Type 0} (x : A) → ◌≡◌ {A = Option A} None (Some x) → ⊥
    differs x h = cc

-- the reason why no file was read is the reason why the tokens denote none
pub cause_is_known : (ts : List Token) (n : ℕ) (fault : ReadFault) (why : ParseFault) → n ≡ length ts + 1 → IfNoTree fault (file_at n ts ≡ None) → Explains ts fault why → IsCause ts why
cause_is_known ts n (NoTree left) (Grammar span) k e w = (none_read n ts k e, w.0)
cause_is_known ts n (NoTree left) (LeftOut index) k e w = (none_read n ts k e, w)
cause_is_known ts n (NoTree left) NoMemory k e w = absurd w
cause_is_known ts n no_memory why k e w = subst (IsCause ts) (sym w) tt

pub one_file : (ts : List Token) (xs ys : List ModuleData) → IsFileOf xs ts → IsFileOf ys ts → xs ≡ ys
one_file ts xs ys f g = some_one xs ys (sym (file_is_read ts xs f) ∙ file_is_read ts ys g)

pub one_spelling : (xs ys : List ModuleData) → IsProperFile xs → IsProperFile ys → file_spelling xs ≡ file_spelling ys → xs ≡ ys
one_spelling xs ys p q e =
    one_file (tokens_for (file_spelling xs)) xs ys (record { spelled = are_tokens_for (file_spelling xs); proper = p })
    (record { spelled = subst (AreTokens (tokens_for (file_spelling xs))) e (are_tokens_for (file_spelling xs)); proper = q })
