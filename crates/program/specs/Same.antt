-- The equality of names of members: their addresses, their modules and their own names are equal.
use Rattle.std.specs.Prelude.{◌==◌, Bool, ◌&&◌}
use Rattle.base.specs.Names.{same_name}
use Rattle.base.specs.declared.types.StructId.{StructId}
use Rattle.base.specs.declared.types.FunctionId.{FunctionId}
use Rattle.program.specs.declared.program.SchemaId.{SchemaId}

abbrev pub same_struct : StructId → StructId → Bool
same_struct s t = (s.address == t.address) && (same_name s.module t.module && same_name s.name t.name)

abbrev pub same_function : FunctionId → FunctionId → Bool
same_function f g = (f.address == g.address) && (same_name f.module g.module && same_name f.name g.name)

abbrev pub same_schema : SchemaId → SchemaId → Bool
same_schema s t = (s.address == t.address) && (same_name s.module t.module && same_name s.name t.name)
