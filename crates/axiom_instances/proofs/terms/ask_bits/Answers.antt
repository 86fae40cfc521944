use Rattle.base.specs.declared.types.Width.TheVariants.{U16, U32, U64, U128}
use Rattle.term_pool.proofs.GrowthLemmas.{extends_then}
use Rattle.axiom_instances.proofs.NumberLemmas.{binary_stays, bits_then}
use Rattle.axiom_instances.proofs.terms.ask_bits.Goals as goal

pub ask_bits_of-requires-2 : goal.ask_bits_of-requires-2
ask_bits_of-requires-2 c = binary_stays c.ask_bits_of.ensures.extends c.requires

pub ask_bits_of-requires-3 : goal.ask_bits_of-requires-3
ask_bits_of-requires-3 c = binary_stays (extends_then c.ask_bits_of.ensures.extends c.ask_bits_of-2.ensures.extends) c.requires

pub ask_bits_of-requires-4 : goal.ask_bits_of-requires-4
ask_bits_of-requires-4 c =
    binary_stays (extends_then (extends_then c.ask_bits_of.ensures.extends c.ask_bits_of-2.ensures.extends) c.ask_bits_of-3.ensures.extends) c.requires

pub ask_bits_of-requires-5 : goal.ask_bits_of-requires-5
ask_bits_of-requires-5 c =
    binary_stays (extends_then (extends_then (extends_then c.ask_bits_of.ensures.extends c.ask_bits_of-2.ensures.extends) c.ask_bits_of-3.ensures.extends) c.ask_bits_of-4.ensures.extends) c.requires

pub returns-in_err-ask_bits_of-5-clause-extends : goal.returns-in_err-ask_bits_of-5-clause-extends
returns-in_err-ask_bits_of-5-clause-extends c =
    extends_then (extends_then (extends_then (extends_then c.ask_bits_of.ensures.extends c.ask_bits_of-2.ensures.extends) c.ask_bits_of-3.ensures.extends) c.ask_bits_of-4.ensures.extends) c.ask_bits_of-5.ensures.extends

pub returns-clause-extends : goal.returns-clause-extends
returns-clause-extends c =
    extends_then (extends_then (extends_then (extends_then c.ask_bits_of.ensures.extends c.ask_bits_of-2.ensures.extends) c.ask_bits_of-3.ensures.extends) c.ask_bits_of-4.ensures.extends) c.ask_bits_of-5.ensures.extends

pub returns-clause-adds : goal.returns-clause-adds
returns-clause-adds c =
    bits_then U128 c.requires
    (bits_then U64 c.requires
    (bits_then U32 c.requires
    (bits_then U16 c.requires c.in_ok-ask_bits_of.ensures.adds c.in_ok-ask_bits_of-2.ensures.adds) c.in_ok-ask_bits_of-3.ensures.adds) c.in_ok-ask_bits_of-4.ensures.adds) c.in_ok-ask_bits_of-5.ensures.adds
