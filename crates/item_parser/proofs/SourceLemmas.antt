-- Tokens denote exactly the source that is read from them.
use Rattle.std.proofs.Common.{◌≡◌, List, subst}
use Rattle.tokens.specs.declared.token.Token.{Token}
use Rattle.item_parser.proofs.DenotedLemmas.{one_file}
use Rattle.syntax_tree.specs.SourceModuleData.{SourceModuleData}
use Rattle.base.specs.Pairs.{Paired}
use Rattle.syntax_tree.specs.Members.{IsSourceModule}
use Rattle.syntax_tree.specs.DenotedSources.{IsSourceOf}
use Rattle.base.proofs.PairLaws.{one_list}
use Rattle.item_parser.proofs.SourceMemberLemmas.{one_module}

pub one_source : (ts : List Token) (x y : List SourceModuleData) → IsSourceOf x ts → IsSourceOf y ts → x ≡ y
one_source ts x y p q =
    one_list IsSourceModule p.file x y one_module p.modules (subst (λ file. Paired IsSourceModule file y) (one_file ts q.file p.file q.is_file p.is_file) q.modules)
