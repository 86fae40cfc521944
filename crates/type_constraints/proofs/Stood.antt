-- Settings with equal components.
use Rattle.std.proofs.Common.{◌≡◌, ℕ, List}
use Rattle.base.specs.TypeData.{TypesData}
use Rattle.program.specs.declared.program.Program.{Program}
use Rattle.typing_rules.specs.Clauses.{Names, Allowed, named_by}
use Rattle.typing_rules.specs.SpecConstraints.{SpecNode, SpecSetting}

abbrev pub stood : Program → List SpecNode → Names → TypesData → Allowed → ℕ → SpecSetting
stood program nodes names types a n = record { program = program; nodes = nodes; named = named_by names a; may_be_old = a.old; variables = n; types = types }

pub same_setting : (program : Program) (nodes : List SpecNode) (names : Names) (types : TypesData) (a b : Allowed) (n m : ℕ) → a ≡ b → n ≡ m → stood program nodes names types a n ≡ stood program nodes names types b m
same_setting program nodes names types a b n m e f = λ i. stood program nodes names types (e i) (f i)
