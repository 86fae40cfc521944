-- The numbers and the names of the rules.
use Rattle.std.specs.Prelude.{ℕ, Bool, true, false, List, codes}
use Rattle.base.specs.declared.rule.Rule.{Rule}
use Rattle.base.specs.declared.rule.Rule.TheVariants.{BadToken, Grammar, LeftOut, UnknownName, TwiceDeclared, NotVisible, Cycle, NoTyping, Ambiguous, Ability, Acquires, Unassigned, Undropped, NotBuilt}

abbrev pub rule_number : Rule → ℕ
rule_number BadToken = 1
rule_number Grammar = 2
rule_number LeftOut = 3
rule_number UnknownName = 5
rule_number TwiceDeclared = 6
rule_number NotVisible = 7
rule_number Cycle = 8
rule_number NoTyping = 9
rule_number Ambiguous = 10
rule_number Ability = 11
rule_number Acquires = 12
rule_number Unassigned = 13
rule_number Undropped = 14
rule_number NotBuilt = 18

abbrev pub rule_name : Rule → List ℕ
rule_name BadToken = codes "BadToken"
rule_name Grammar = codes "Grammar"
rule_name LeftOut = codes "LeftOut"
rule_name UnknownName = codes "UnknownName"
rule_name TwiceDeclared = codes "TwiceDeclared"
rule_name NotVisible = codes "NotVisible"
rule_name Cycle = codes "Cycle"
rule_name NoTyping = codes "NoTyping"
rule_name Ambiguous = codes "Ambiguous"
rule_name Ability = codes "Ability"
rule_name Acquires = codes "Acquires"
rule_name Unassigned = codes "Unassigned"
rule_name Undropped = codes "Undropped"
rule_name NotBuilt = codes "NotBuilt"

-- The definition of a rule says at which span a file breaks it, except for `Grammar`, whose span is where a parser
-- stopped.
abbrev pub tells_place : Rule → Bool
tells_place Grammar = false
tells_place _ = true
