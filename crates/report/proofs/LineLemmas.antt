-- The line feeds of a text read so far by a loop, and how many of them come before an offset.
use Rattle.std.proofs.Common.{◌≡◌, ℕ, zero, suc, ◌+◌, ◌<◌, ◌≤◌, ◌==◌, Bool, true, false, cond, ltb, List, [], ◌∷◌, ◌++◌, length, take, get_or, count_by, refl, sym, ap, ◌∙◌, arith}
use Rattle.std.proofs.lemmas.List.{take_more}
use Rattle.std.proofs.lemmas.List.Sums.{sum_by-cons}
use Rattle.std.proofs.lemmas.Grind.{common_steps}
use Rattle.std.specs.List.Sorted.{IsPartitionPoint, IsNonDecreasingBy}
use Rattle.std.proofs.lemmas.Bool.Decides.{nat_tests}
use Rattle.report.specs.Lines.{feeds_from, line_feeds, line_of}

pub feeds_from-append : (at : ℕ) (xs : List ℕ) (b : ℕ) → feeds_from at (xs ++ b ∷ []) ≡ feeds_from at xs ++ feeds_from (at + length xs) (b ∷ [])
feeds_from-append at [] b = grind arith
feeds_from-append at (x ∷ xs) b = grind (arith, common_steps, feeds_from-append (at + 1) xs b)

pub feeds_at : (xs : List ℕ) (i : ℕ) → i < length xs → line_feeds (take (i + 1) xs) ≡ line_feeds (take i xs) ++ feeds_from i (get_or xs i 0 ∷ [])
feeds_at xs i h = grind (arith, common_steps, take_more xs i 0 h, feeds_from-append 0 (take i xs) (get_or xs i 0))

pub length-feeds_from : (at : ℕ) (xs : List ℕ) → length (feeds_from at xs) ≤ length xs
length-feeds_from at [] = omega arith
length-feeds_from at (x ∷ xs) = grind (arith, length-feeds_from (at + 1) xs)

-- a feed at the start, or none, and then others
abbrev first_feed : Bool → ℕ → List ℕ → List ℕ
first_feed b at feeds = cond b (at ∷ feeds) feeds

behind : (b : Bool) (at : ℕ) (feeds : List ℕ) (d : ℕ) → ((k : ℕ) → k < length feeds → at + 1 ≤ get_or feeds k d) → (k : ℕ) → k < length (first_feed b at feeds) → at ≤ get_or (first_feed b at feeds) k d
behind true at feeds d more zero h = omega arith
behind true at feeds d more (suc k) h = omega (arith, more k (omega arith))
behind false at feeds d more k h = omega (arith, more k h)

-- each feed is at or after the start
pub feeds_behind : (at : ℕ) (xs : List ℕ) (d : ℕ) (k : ℕ) → k < length (feeds_from at xs) → at ≤ get_or (feeds_from at xs) k d
feeds_behind at [] d k h = absurd (omega arith)
feeds_behind at (x ∷ xs) d k h = behind (x == 10) at (feeds_from (at + 1) xs) d (feeds_behind (at + 1) xs d) k h

rise : (b : Bool) (at : ℕ) (feeds : List ℕ) (d : ℕ) → ((k : ℕ) → k < length feeds → at + 1 ≤ get_or feeds k d) → ((i j : ℕ) → i ≤ j → j < length feeds → get_or feeds i d ≤ get_or feeds j d) → (i j : ℕ) → i ≤ j → j < length (first_feed b at feeds) → get_or (first_feed b at feeds) i d ≤ get_or (first_feed b at feeds) j d
rise true at feeds d more up zero zero le h = omega arith
rise true at feeds d more up (suc i) zero le h = absurd (omega arith)
rise true at feeds d more up zero (suc j) le h = omega (arith, more j (omega arith))
rise true at feeds d more up (suc i) (suc j) le h = up i j (omega arith) (omega arith)
rise false at feeds d more up i j le h = up i j le h

-- feeds rise
feeds_rise : (at : ℕ) (xs : List ℕ) (d : ℕ) (i j : ℕ) → i ≤ j → j < length (feeds_from at xs) → get_or (feeds_from at xs) i d ≤ get_or (feeds_from at xs) j d
feeds_rise at [] d i j le h = absurd (omega arith)
feeds_rise at (x ∷ xs) d i j le h = rise (x == 10) at (feeds_from (at + 1) xs) d (feeds_behind (at + 1) xs d) (feeds_rise (at + 1) xs d) i j le h

pub feeds_sorted : (xs : List ℕ) → IsNonDecreasingBy (λ f. f) (line_feeds xs)
feeds_sorted xs i j d le h = feeds_rise 0 xs d i j le h

count_by-cons : (p : ℕ → Bool) (x : ℕ) (xs : List ℕ) → count_by p (x ∷ xs) ≡ cond (p x) 1 0 + count_by p xs
count_by-cons p x xs = sum_by-cons (λ y. cond (p y) 1 0) x xs

one_more : (p : ℕ → Bool) (x : ℕ) (xs : List ℕ) (b : Bool) (n : ℕ) → p x ≡ b → count_by p xs ≡ n → count_by p (x ∷ xs) ≡ cond b 1 0 + n
one_more p x xs b n e f = count_by-cons p x xs ∙ (ap (λ t. cond t 1 0 + count_by p xs) e ∙ ap (λ t. cond b 1 0 + t) f)

before : (b : Bool) (at k : ℕ) (feeds : List ℕ) → k ≤ at → count_by (λ f. ltb f k) feeds ≡ 0 → count_by (λ f. ltb f k) (first_feed b at feeds) ≡ 0
before true at k feeds h more =
    let later : ltb at k ≡ false = grind (arith, nat_tests) in
    omega (arith, one_more (λ f. ltb f k) at feeds false 0 later more)
before false at k feeds h more = more

-- none of the feeds is before the start
count-before : (at k : ℕ) (xs : List ℕ) → k ≤ at → count_by (λ f. ltb f k) (feeds_from at xs) ≡ 0
count-before at k [] h = refl
count-before at k (x ∷ xs) h = before (x == 10) at k (feeds_from (at + 1) xs) h (count-before (at + 1) k xs (omega arith))

counted : (b : Bool) (at k n : ℕ) (feeds : List ℕ) → at < k → count_by (λ f. ltb f k) feeds ≡ n → count_by (λ f. ltb f k) (first_feed b at feeds) ≡ cond b 1 0 + n
counted true at k n feeds h more =
    let earlier : ltb at k ≡ true = grind (arith, nat_tests) in
    one_more (λ f. ltb f k) at feeds true n earlier more
counted false at k n feeds h more = omega (arith, more)

-- as many feeds come before an offset as line feeds are among the bytes before it
pub count-feeds : (at k to : ℕ) (xs : List ℕ) → to ≡ at + k → count_by (λ f. ltb f to) (feeds_from at xs) ≡ count_by (λ b. b == 10) (take k xs)
count-feeds at zero to xs e = count-before at to xs (omega arith)
count-feeds at (suc k) to [] e = refl
count-feeds at (suc k) to (x ∷ xs) e =
    counted (x == 10) at to (count_by (λ b. b == 10) (take k xs)) (feeds_from (at + 1) xs) (omega arith) (count-feeds (at + 1) k to xs (omega arith))
    ∙ sym (count_by-cons (λ b. b == 10) x (take k xs))

none_pass : (p : ℕ → Bool) (xs : List ℕ) → ((k d : ℕ) → k < length xs → p (get_or xs k d) ≡ false) → count_by p xs ≡ 0
none_pass p [] h = refl
none_pass p (x ∷ xs) h = omega (arith, one_more p x xs false 0 (h 0 x (omega arith)) (none_pass p xs (λ k d l. h (suc k) d (omega arith))))

-- a binary search by a test finds how many elements pass it
pub count-partition : (p : ℕ → Bool) (xs : List ℕ) (i : ℕ) → i ≤ length xs → ((k d : ℕ) → k < i → p (get_or xs k d) ≡ true) → ((k d : ℕ) → i ≤ k → k < length xs → p (get_or xs k d) ≡ false) → count_by p xs ≡ i
count-partition p [] i h passed failed = omega arith
count-partition p (x ∷ xs) zero h passed failed = none_pass p (x ∷ xs) (λ k d l. failed k d (omega arith) l)
count-partition p (x ∷ xs) (suc i) h passed failed =
    let rest : count_by p xs ≡ i = count-partition p xs i (omega arith) (λ k d l. passed (suc k) d (omega arith)) (λ k d g l. failed (suc k) d (omega arith) (omega arith)) in
    omega (arith, one_more p x xs true i (passed 0 x (omega arith)) rest)

-- the line of an offset, by the search among the feeds
pub line_from_partition : (bytes : List ℕ) (position i : ℕ) → i ≤ length (line_feeds bytes) → IsPartitionPoint (λ y. ltb y position ≡ true) (λ y. ltb y position ≡ false) (line_feeds bytes) i → i + 1 ≡ line_of bytes position
line_from_partition bytes position i h point =
    let found : count_by (λ f. ltb f position) (line_feeds bytes) ≡ i = count-partition (λ f. ltb f position) (line_feeds bytes) i h (λ k d l. point.0 k d (omega arith) l) point.1 in
    omega (arith, found, count-feeds 0 position position bytes (omega arith))
