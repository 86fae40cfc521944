use Rattle.std.proofs.Common.{◌≡◌, ◌+◌, length, inl, arith, sym, ap, ◌∙◌, Ok, Err, length-drop, take, drop, subst, true, List, [], ◌∷◌, ◌++◌}
use Rattle.std.proofs.lemmas.List.{length-take-le}
use Rattle.tokens.specs.declared.token.Token.{Token}
use Rattle.tokens.specs.Reading.{kind_of}
use Rattle.tokens.specs.declared.token.TokenFault.TheVariants.{TooMany}
use Rattle.tokens.proofs.Rows.{Progress, token_at, next_is, at_rest, rest_take, progress_bad, progress_space, progress_kept, progress_counted, bad_unspelled, spelled_once, progress_spells}
use Rattle.tokens.proofs.Outcomes.{bad_says, bad_only, many_says, many_only, few_says}
use Rattle.tokens.proofs.scanner.tokens.Goals as goal
use Rattle.tokens.proofs.scanner.tokens.Goals.{then-count-lt-TOKEN_LIMIT+in_ok-token_kind-in-Token+in_ok-push-in-Token, else-count-lt-TOKEN_LIMIT}

-- the piece that is found is within the bytes
pub overflow_add-end : goal.overflow_add-end
overflow_add-end c =
    let next = next_is c.args.bytes.now c.loop-at.at c.in-Some.piece (at_rest c.args.bytes.now c.loop-at.at _ c.in-Some.ensures) in
    omega (arith, next.within)

pub slice_bounds-token_kind-end : goal.slice_bounds-token_kind-end
slice_bounds-token_kind-end c =
    let next = next_is c.args.bytes.now c.loop-at.at c.in-Some.piece (at_rest c.args.bytes.now c.loop-at.at _ c.in-Some.ensures) in
    sym (ap length (rest_take c.args.bytes.now c.loop-at.at c.in-Some.piece.length) ∙ length-take-le c.in-Some.piece.length (drop c.loop-at.at c.args.bytes.now) (omega (arith, next.within, length-drop c.loop-at.at c.args.bytes.now)))

pub overflow_cast-end : goal.overflow_cast-end
overflow_cast-end c =
    let next = next_is c.args.bytes.now c.loop-at.at c.in-Some.piece (at_rest c.args.bytes.now c.loop-at.at _ c.in-Some.ensures) in
    omega (arith, next.within)

pub loop-at-smaller-in-Space : goal.loop-at-smaller-in-Space
loop-at-smaller-in-Space c =
    let next = next_is c.args.bytes.now c.loop-at.at c.in-Some.piece (at_rest c.args.bytes.now c.loop-at.at _ c.in-Some.ensures) in
    omega (arith, next.within, next.some)

pub loop-at-smaller : goal.loop-at-smaller
loop-at-smaller c =
    let next = next_is c.args.bytes.now c.loop-at.at c.in-Some.piece (at_rest c.args.bytes.now c.loop-at.at _ c.in-Some.ensures) in
    omega (arith, next.within, next.some)

pub loop-at-preserved-in-Space : goal.loop-at-preserved-in-Space
loop-at-preserved-in-Space c =
    progress_space _ _ _ _ _ _ c.in-Some.piece c.loop-at.invariant (at_rest c.args.bytes.now c.loop-at.at _ c.in-Some.ensures) c.in-Space.is

pub loop-at-preserved : goal.loop-at-preserved
loop-at-preserved c =
    let read = at_rest c.args.bytes.now c.loop-at.at _ c.in-Some.ensures in
    elim c.if-count-lt-TOKEN_LIMIT.branch [
      | then-count-lt-TOKEN_LIMIT+in_ok-token_kind-in-Token+in_ok-push-in-Token w ↦
          let kept = progress_kept _ _ _ _ _ _ c.in-Some.piece c.in-Token.class c.loop-at.invariant read c.in-Token.is w.if-count-lt-TOKEN_LIMIT.true in
          let kind : kind_of c.in-Token.class (take c.in-Some.piece.length (drop c.loop-at.at c.args.bytes.now)) ≡ w.in_ok-token_kind-in-Token.field-0 =
          ap (kind_of c.in-Token.class) (sym (rest_take c.args.bytes.now c.loop-at.at c.in-Some.piece.length)) ∙ sym w.in_ok-token_kind-in-Token.ensures in
          let joined = ap (λ k. c.loop-at.found ++ token_at c.args.file c.loop-at.at (c.loop-at.at + c.in-Some.piece.length) c.loop-at.touching k ∷ []) kind in
          let P : List Token → Type 0 = λ ts. Progress c.args.file c.args.bytes.now ts (c.loop-at.count + 1) (c.loop-at.at + c.in-Some.piece.length) true in
          subst P (joined ∙ sym w.in_ok-push-in-Token.ensures.ok ∙ sym w.found-is) kept
      | else-count-lt-TOKEN_LIMIT w ↦
          rw w.found-is (progress_counted _ _ _ _ _ _ c.in-Some.piece c.in-Token.class c.loop-at.invariant read c.in-Token.is w.if-count-lt-TOKEN_LIMIT.false)
    ]

-- the scan is stuck
pub returns-in_default-clause-bad_token : goal.returns-in_default-clause-bad_token
returns-in_default-clause-bad_token c =
    let bad = progress_bad _ _ _ _ _ _ c.loop-at.invariant c.loop-at-test.true (at_rest c.args.bytes.now c.loop-at.at _ c.in_default.ensures) in
    λ offset h. bad_says c.args.file c.loop-at.at c.args.bytes.now bad offset (let e : c.loop-at.at ≡ offset = cc in e)

pub returns-in_default-clause-spelled : goal.returns-in_default-clause-spelled
returns-in_default-clause-spelled c =
    let bad = progress_bad _ _ _ _ _ _ c.loop-at.invariant c.loop-at-test.true (at_rest c.args.bytes.now c.loop-at.at _ c.in_default.ensures) in
    λ found spelled few. absurd (bad_unspelled _ _ _ bad found spelled)

pub returns-in_default-clause-spelled_long : goal.returns-in_default-clause-spelled_long
returns-in_default-clause-spelled_long c =
    let bad = progress_bad _ _ _ _ _ _ c.loop-at.invariant c.loop-at-test.true (at_rest c.args.bytes.now c.loop-at.at _ c.in_default.ensures) in
    λ found spelled many. absurd (bad_unspelled _ _ _ bad found spelled)

pub returns-in_default-clause-bad_offset : goal.returns-in_default-clause-bad_offset
returns-in_default-clause-bad_offset c =
    let bad = progress_bad _ _ _ _ _ _ c.loop-at.invariant c.loop-at-test.true (at_rest c.args.bytes.now c.loop-at.at _ c.in_default.ensures) in
    λ offset other. bad_only c.args.file c.loop-at.at c.args.bytes.now bad offset other

-- the scan is at the end, with too many tokens
pub returns-then-count-gt-TOKEN_LIMIT-clause-too_many : goal.returns-then-count-gt-TOKEN_LIMIT-clause-too_many
returns-then-count-gt-TOKEN_LIMIT-clause-too_many c =
    λ n h. many_says _ _ _ _ _ _ c.loop-at.invariant c.loop-at-test.false c.if-count-gt-TOKEN_LIMIT.true n (let e : c.loop-at.count ≡ n = cc in e)

pub returns-then-count-gt-TOKEN_LIMIT-clause-spelled : goal.returns-then-count-gt-TOKEN_LIMIT-clause-spelled
returns-then-count-gt-TOKEN_LIMIT-clause-spelled c =
    λ found spelled few.
    let count = many_only _ _ _ _ _ _ c.loop-at.invariant c.loop-at-test.false found spelled in
    absurd (omega (arith, count, few, c.if-count-gt-TOKEN_LIMIT.true))

pub returns-then-count-gt-TOKEN_LIMIT-clause-spelled_long : goal.returns-then-count-gt-TOKEN_LIMIT-clause-spelled_long
returns-then-count-gt-TOKEN_LIMIT-clause-spelled_long c =
    λ found spelled many. inl (ap (λ n. Err (TooMany n)) (many_only _ _ _ _ _ _ c.loop-at.invariant c.loop-at-test.false found spelled))

pub returns-then-count-gt-TOKEN_LIMIT-clause-bad_offset : goal.returns-then-count-gt-TOKEN_LIMIT-clause-bad_offset
returns-then-count-gt-TOKEN_LIMIT-clause-bad_offset c =
    λ offset bad. absurd (bad_unspelled c.args.file offset c.args.bytes.now bad _ (progress_spells _ _ _ _ _ _ c.loop-at.invariant c.loop-at-test.false))

pub returns-then-count-gt-TOKEN_LIMIT-clause-unspelled : goal.returns-then-count-gt-TOKEN_LIMIT-clause-unspelled
returns-then-count-gt-TOKEN_LIMIT-clause-unspelled c =
    λ never. absurd (never _ (progress_spells _ _ _ _ _ _ c.loop-at.invariant c.loop-at-test.false))

-- the scan is at the end, with all tokens
pub returns-clause-ok : goal.returns-clause-ok
returns-clause-ok c = few_says _ _ _ _ _ _ c.loop-at.invariant c.loop-at-test.false c.if-count-gt-TOKEN_LIMIT.false

pub returns-clause-spelled : goal.returns-clause-spelled
returns-clause-spelled c =
    λ found spelled few.
    let own = few_says _ _ _ _ _ _ c.loop-at.invariant c.loop-at-test.false c.if-count-gt-TOKEN_LIMIT.false in
    inl (ap Ok (spelled_once c.args.file c.args.bytes.now _ found own.0 spelled))

pub returns-clause-spelled_long : goal.returns-clause-spelled_long
returns-clause-spelled_long c =
    λ found spelled many.
    let count = many_only _ _ _ _ _ _ c.loop-at.invariant c.loop-at-test.false found spelled in
    absurd (omega (arith, count, many, c.if-count-gt-TOKEN_LIMIT.false))

pub returns-clause-bad_offset : goal.returns-clause-bad_offset
returns-clause-bad_offset c =
    λ offset bad. absurd (bad_unspelled c.args.file offset c.args.bytes.now bad _ (progress_spells _ _ _ _ _ _ c.loop-at.invariant c.loop-at-test.false))

pub returns-clause-unspelled : goal.returns-clause-unspelled
returns-clause-unspelled c =
    λ never. absurd (never _ (progress_spells _ _ _ _ _ _ c.loop-at.invariant c.loop-at-test.false))
