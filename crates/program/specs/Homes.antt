-- The module that declares a member. Source: The Move Book, "Modules and Scripts".
use Rattle.base.specs.declared.types.StructId.{StructId}
use Rattle.base.specs.declared.types.FunctionId.{FunctionId}
use Rattle.program.specs.declared.program.ModuleId.{ModuleId}
use Rattle.program.specs.declared.program.ConstantId.{ConstantId}
use Rattle.program.specs.declared.program.SchemaId.{SchemaId}

abbrev pub struct_home : StructId → ModuleId
struct_home s = record { address = s.address; name = s.module }

abbrev pub constant_home : ConstantId → ModuleId
constant_home c = record { address = c.address; name = c.module }

abbrev pub function_home : FunctionId → ModuleId
function_home f = record { address = f.address; name = f.module }

abbrev pub schema_home : SchemaId → ModuleId
schema_home s = record { address = s.address; name = s.module }
