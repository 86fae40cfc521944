-- The laws of each stage, and of all of them.
use Rattle.std.proofs.Common.{length, ◌≡◌, ℕ, List, [], Some, None, inl, inr, sym, ap, ◌∙◌, arith}
use Rattle.base.specs.declared.rule.Rule.TheVariants.{BadToken, NotBuilt}
use Rattle.tokens.specs.Spelling.{IsBadAt, Spells}
use Rattle.tokens.specs.declared.token.Token.{Token}
use Rattle.syntax_tree.specs.DenotedSources.{IsSourceOf}
use Rattle.syntax_tree.specs.SourceModuleData.{SourceModuleData}
use Rattle.front_end.specs.Chain.{◌▷◌}
use Rattle.front_end.specs.FileFault.{IsSameStop, breaks, without_offset}
use Rattle.front_end.specs.LocalCounts.{HasFewLocals, HasManyLocals, locals_stage}
use Rattle.front_end.specs.Modules.{AreNoSums, modules_stage, numbered}
use Rattle.front_end.specs.Named.{NamedData}
use Rattle.front_end.specs.Program.{name_stages, program_stages, rule_stages, source_stages}
use Rattle.front_end.specs.Sources.{Denote, DenoteNone, left_out, source_stage}
use Rattle.front_end.specs.Typed.{type_stages}
use Rattle.front_end.specs.Texts.{AreTokensOf, HasBadToken, IsHeavy, IsLight, IsLong, IsShort, length_stage, nesting_stage, text_stages, tokens_stage}
use Rattle.front_end.specs.declared.fault.FileFault.{FileFault}
use Rattle.front_end.specs.declared.fault.FileFault.TheVariants.{Passes}
use Rattle.front_end.specs.declared.fault.FileLimit.TheVariants.{Locals}
use Rattle.front_end.proofs.ChainLaws.{Laws, behind_laws, checks_laws, makes_laws}
use Rattle.front_end.proofs.ChainLemmas.{KeepsCount, behind_keeps, checks_keeps, makes_keeps}
use Rattle.front_end.proofs.MarkerLaws.{marker_once, marker_or_none}
use Rattle.front_end.proofs.NameLaws.{HaveOneProgram, name_laws, sources_kept}
use Rattle.front_end.proofs.TypeLaws.{given_kept, type_laws}
use Rattle.front_end.proofs.ModuleLaws.{all_or_first, first_once, one_program}

-- ---- tokens

-- what is known of tokens and of sources
pub record Known : Type 0 where
  pub one_spelling : (file : ℕ) (bytes : List ℕ) (one other : List Token) → Spells file one bytes → Spells file other bytes → one ≡ other
  pub one_offset : (one other : ℕ) (bytes : List ℕ) → IsBadAt one bytes → IsBadAt other bytes → one ≡ other
  pub one_source : (tokens : List Token) (one other : List SourceModuleData) → IsSourceOf one tokens → IsSourceOf other tokens → one ≡ other
  pub one_program : HaveOneProgram

bad_once : Known → (n : ℕ) (bytes : List ℕ) (fault other : FileFault) → HasBadToken n bytes fault → HasBadToken n bytes other → without_offset fault ≡ without_offset other
bad_once known n bytes fault other p q =
    ap without_offset (p.fault_is ∙ ap (breaks BadToken) (known.one_offset p.offset q.offset bytes p.at q.at) ∙ sym q.fault_is)

tokens_laws : Known → Laws tokens_stage
tokens_laws known = makes_laws AreTokensOf HasBadToken known.one_spelling (λ n bytes tokens fault spells bad. bad.unspelled tokens spells) (bad_once known)

length_laws : Laws length_stage
length_laws = checks_laws IsShort IsLong (λ n tokens fault short long. omega (arith, short, long.many)) (λ n tokens fault other p q. ap without_offset (p.fault_is ∙ sym q.fault_is))

nesting_laws : Laws nesting_stage
nesting_laws = checks_laws IsLight IsHeavy (λ n tokens fault light heavy. omega (arith, light, heavy.heavy)) (λ n tokens fault other p q. ap without_offset (p.fault_is ∙ sym q.fault_is))

-- ---- sources

denote_none_apart : (n : ℕ) (tokens : List Token) (source : List SourceModuleData) (fault : FileFault) → Denote n tokens source → DenoteNone n tokens fault → ⊥
denote_none_apart n tokens source fault s (inl none) = none.cause.0 source s
denote_none_apart n tokens source fault s (inr marked) = marked.cause.0 source s

none_once : (n : ℕ) (tokens : List Token) (fault other : FileFault) → DenoteNone n tokens fault → DenoteNone n tokens other → without_offset fault ≡ without_offset other
none_once n tokens fault other (inl p) (inl q) = ap without_offset p.fault_is ∙ sym (ap without_offset q.fault_is)
none_once n tokens fault other (inl p) (inr q) = absurd (marker_or_none tokens q.index q.cause.1 p.cause.1)
none_once n tokens fault other (inr p) (inl q) = absurd (marker_or_none tokens p.index p.cause.1 q.cause.1)
none_once n tokens fault other (inr p) (inr q) =
    ap without_offset (p.fault_is ∙ ap (left_out tokens) (marker_once tokens p.index q.index p.cause.1 q.cause.1) ∙ sym q.fault_is)

source_laws : Known → Laws source_stage
source_laws known = makes_laws Denote DenoteNone (λ n tokens x y p q. known.one_source tokens x y p q) denote_none_apart none_once

-- ---- locals

some_is : {A : Type 0} {a b : A} → Some a ≡ Some b → a ≡ b
some_is e = cc

none_is_some : {A : Type 0} {a : A} → None ≡ Some a → ⊥
none_is_some e = absurd (cc)

locals_laws : Laws locals_stage
locals_laws =
    checks_laws HasFewLocals HasManyLocals (λ n source fault few many. none_is_some (sym few ∙ many.excess))
    (λ n source fault other p q. ap without_offset (p.fault_is ∙ ap (Passes Locals) (some_is (sym p.excess ∙ q.excess)) ∙ sym q.fault_is))

-- ---- modules

unbuilt_once : (given : NamedData) (file other_file : ℕ) (fault other : FileFault) → AreNoSums given.sources file fault → AreNoSums given.sources other_file other → IsSameStop file other_file fault other
unbuilt_once given file other_file fault other p q =
    let o = first_once (numbered 0 given.sources) file other_file p.offset q.offset p.first q.first in
    record { file_is = o.file_is; fault_is = ap without_offset (p.fault_is ∙ ap (breaks NotBuilt) o.offset_is ∙ sym q.fault_is) }

modules_laws : Laws modules_stage
modules_laws = record {
  one = λ given one other p q. one_program [] (numbered 0 given.sources) one other p q;
  either = λ given program file fault p stops. all_or_first (numbered 0 given.sources) program file stops.offset p stops.first;
  stop = unbuilt_once;
}

-- ---- all stages

text_laws : Known → Laws text_stages
text_laws known = behind_laws (tokens_stage ▷ length_stage) nesting_stage (behind_laws tokens_stage length_stage (tokens_laws known) length_laws) nesting_laws

source_chain_laws : Known → Laws source_stages
source_chain_laws known = behind_laws (text_stages ▷ source_stage) locals_stage (behind_laws text_stages source_stage (text_laws known) (source_laws known)) locals_laws

rule_laws : Known → Laws rule_stages
rule_laws known =
    behind_laws (source_stages ▷ name_stages) type_stages (behind_laws source_stages name_stages (source_chain_laws known) (name_laws known.one_program)) type_laws

pub program_laws : Known → Laws program_stages
program_laws known = behind_laws rule_stages modules_stage (rule_laws known) modules_laws

-- ---- the number of files

pub text_keeps : KeepsCount text_stages
text_keeps = behind_keeps (tokens_stage ▷ length_stage) nesting_stage (behind_keeps tokens_stage length_stage (makes_keeps AreTokensOf HasBadToken) (checks_keeps IsShort IsLong)) (checks_keeps IsLight IsHeavy)

pub read_keeps : KeepsCount (text_stages ▷ source_stage)
read_keeps = behind_keeps text_stages source_stage text_keeps (makes_keeps Denote DenoteNone)

pub source_keeps : KeepsCount source_stages
source_keeps = behind_keeps (text_stages ▷ source_stage) locals_stage read_keeps (checks_keeps HasFewLocals HasManyLocals)

-- there are as many sources that keep the rules as files
pub named_count : (files : List (List ℕ)) (given : NamedData) → rule_stages.Gives files given → length given.sources ≡ length files
named_count files given g =
    ap (λ (n : NamedData). length n.sources) (given_kept g.between given g.second) ∙ ap length (sources_kept g.first.between g.between g.first.second) ∙ source_keeps files g.first.between g.first.first
