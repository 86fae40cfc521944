-- Members that no module declares.
use Rattle.std.proofs.Common.{◌≡◌, ℕ, List, Bool, Some, None, false, ap}
use Rattle.std.specs.Prelude.{if◌then◌else◌}
use Rattle.std.specs.List.{list_any}
use Rattle.program.specs.declared.program.ModuleId.{ModuleId}
use Rattle.scopes.specs.declared.member.MemberKind.{MemberKind}
use Rattle.scopes.specs.declared.member.MemberId.{MemberId}
use Rattle.scopes.specs.MemberNames.{same_declaration}
use Rattle.scopes.specs.EnvironmentData.{EnvironmentData}
use Rattle.scopes.specs.Meanings.{declared_meaning}

pub not_declared : (env : EnvironmentData) (kind : MemberKind) (owner : ModuleId) (name : List ℕ) → list_any (same_declaration (record { kind = kind; member = record { owner = owner; name = name } })) env.declared ≡ false → declared_meaning env kind owner name ≡ None
not_declared env kind owner name e = ap (λ (b : Bool). if b then Some member else None) e
  where
    member : MemberId
    member = record { owner = owner; name = name }
