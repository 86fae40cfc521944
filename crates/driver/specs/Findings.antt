-- The result of the prover's answer for a condition.
use Rattle.std.specs.Prelude.{◌≡◌, ℕ, List, []}
use Rattle.term_pool.specs.Pools.{IsOneNumber}
use Rattle.term_pool.specs.declared.node.Node.{Node}
use Rattle.search.specs.declared.end.End.{End}
use Rattle.search.specs.declared.end.End.TheVariants.{Proved as EndProved, Open as EndOpen, Spent as EndSpent, SpentInChain as EndSpentInChain, Wide as EndWide, TooManyRows as EndTooManyRows, Full as EndFull}
use Rattle.certificate_text.specs.declared.prover.answer.Answer.{Answer}
use Rattle.certificate_text.specs.declared.prover.answer.Answer.TheVariants.{Ended, TooLong, WideNumeral}
use Rattle.report.specs.declared.report.ConditionVerdict.{ConditionVerdict}
use Rattle.report.specs.declared.report.ConditionVerdict.TheVariants.{Proved, Open, Wide, Rows, Budget, Size}
use Rattle.report.specs.ReportData.{ParameterValueData}
use Rattle.driver.specs.OpenValues.{AreValuesOf, AreWholeAt}
use Rattle.driver.specs.Verdicts.{most_steps}

abbrev pub verdict_of_end : End → ConditionVerdict
verdict_of_end EndProved = Proved
verdict_of_end (EndOpen v) = Open
verdict_of_end EndSpent = Budget most_steps
verdict_of_end (EndSpentInChain c done) = Budget most_steps
verdict_of_end (EndWide first second) = Wide
verdict_of_end (EndTooManyRows rows) = Rows
verdict_of_end EndFull = Size

abbrev pub verdict_of : Answer → ConditionVerdict
verdict_of (Ended s) = verdict_of_end s.outcome.end
verdict_of (TooLong s len) = Size
verdict_of (WideNumeral u) = Wide

-- the values of parameters: those of an open branch; none for other ends
abbrev pub ValuesAfter : List Node → List (List ℕ) → End → List ParameterValueData → Type 0
ValuesAfter ns parameters (EndOpen v) values = AreValuesOf ns v parameters values
ValuesAfter ns parameters _ values = values ≡ []

abbrev pub ValuesWith : List (List ℕ) → Answer → List ParameterValueData → Type 0
ValuesWith parameters (Ended s) values = ValuesAfter s.pool parameters s.outcome.end values
ValuesWith parameters _ values = values ≡ []

-- the values of an open branch are whole, up to a double negation
abbrev pub WholeAfter : List Node → List (List ℕ) → End → Type 0
WholeAfter ns parameters (EndOpen v) = AreWholeAt ns v parameters
WholeAfter ns parameters _ = Unit {0}

abbrev pub WholeWith : List (List ℕ) → Answer → Type 0
WholeWith parameters (Ended s) = WholeAfter s.pool parameters s.outcome.end
WholeWith parameters _ = Unit {0}

-- distinct numbers of the pool stand for distinct items
abbrev pub HasOneNumber : Answer → Type 0
HasOneNumber (Ended s) = IsOneNumber s.pool
HasOneNumber _ = Unit {0}
