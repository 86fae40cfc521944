-- The code by which the logic stores shapes.
use base.Stored.{Gv, gnum, gcons, num}
use denote.Struct.Codes.{itself}
use Rattle.std.specs.Prelude.{◌≡◌, List}
use Rattle.std.specs.Coded.{Coded, code_by, coded_list}
use Rattle.base.specs.TypeData.{struct_code, struct_back, struct_back-code, types_code, types_back, types_back-code}
use Rattle.fol.specs.OperatorCodes.{head, tail}
use Rattle.fol.specs.declared.shapes.Shape.{Shape}

abbrev shape_code : Shape → Gv
shape_code s = gcons (struct_code s.name) (gcons (gnum s.parameters) (types_code s.fields))

abbrev shape_back : Gv → Shape
shape_back g = record { name = struct_back (head g); parameters = num (head (tail g)); fields = types_back (tail (tail g)) }

pub shape_back-code : (s : Shape) → shape_back (shape_code s) ≡ s
shape_back-code s = λ i. record { name = struct_back-code s.name i; parameters = s.parameters; fields = types_back-code s.fields i }

abbrev pub coded_shapes : Coded (List Shape)
coded_shapes = coded_list (code_by Gv itself shape_code shape_back shape_back-code)
