use Rattle.std.proofs.Common.{◌≡◌, ◌<◌, ◌+◌, ℕ, vec_len}
use Rattle.linear_arith.specs.Combination.{number}
use Rattle.linear_arith.specs.Packed.{ahead}
use Rattle.linear_arith.proofs.packed.Packed.numbers.Given as goal

abbrev pub invariant-loop : goal.invariant-loop
invariant-loop l = record {
  len : vec_len l.numbers ≡ l.counter;
  made : (k : ℕ) → k < l.counter → number k l.numbers.items ≡ number k l.self;
  rest : (k : ℕ) → number k (ahead l.walk.zeros l.walk.rest.now) ≡ number (k + l.counter) l.self;
}
