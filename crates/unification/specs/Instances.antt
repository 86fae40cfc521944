-- Types with types substituted for their type parameters, as the typing rules define them.
pub use Rattle.typing_rules.specs.Constraint.{arguments}
pub use Rattle.typing_rules.specs.Instances.{instance, instances}
