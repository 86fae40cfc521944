-- What has been read of a reader's bytes, if they are known.
use Rattle.std.proofs.Common.{◌≡◌, ℕ, ◌+◌, ◌<◌, ◌≤◌, List, [], ◌++◌, length, take, drop, take-append-drop, Some, None, Option, IfSome, Result, Ok, Err, sym, ap, ◌∙◌, subst, false, append-nil, length-append, arith}
use Rattle.std.proofs.lemmas.List.{take-append-le, length-take-le}
use Rattle.std.proofs.KnownBytes.{Consumes-nil, Consumes-trans}
use Rattle.std.specs.Io.KnownBytes.{Consumes, IsAtEnd}
use Rattle.std.specs.Result.{OnOk, is_err}

-- a call without an error kept its promise
pub promise_of_ok : {T E P : Type 0} (result : Result T E) → is_err result ≡ false → OnOk result P → P
promise_of_ok (Ok x) _ promise = promise
promise_of_ok (Err e) is_ok _ = cc

-- nothing is read before the first call
pub Consumes-first : (known : Option (List ℕ)) (into : List ℕ) → into ≡ [] → Consumes known known into
Consumes-first known into empty = subst (Consumes known known) (sym empty) (Consumes-nil known)

-- the front of the buffer after a read is the end of what was read
pub Consumes-next : (first now next : Option (List ℕ)) (into new buffer rest : List ℕ) (count : ℕ)
    → Consumes first now into → Consumes now next (take count buffer) → count ≤ length buffer → new ≡ into ++ take count (buffer ++ rest)
    → Consumes first next new
Consumes-next first now next into new buffer rest count before read bound grown =
    let piece = take-append-le count buffer rest bound in
    let whole = grown ∙ ap (λ bytes. into ++ bytes) piece in
    subst (Consumes first next) (sym whole) (Consumes-trans first now next into (take count buffer) before read)

-- a buffer keeps its length where its front is written
pub length-refilled : (buffer front : List ℕ) (size : ℕ) → length front ≡ length (take size buffer) → length (front ++ drop size buffer) ≡ length buffer
length-refilled buffer front size same =
    length-append front (drop size buffer) ∙ ap (λ n. n + length (drop size buffer)) same
    ∙ sym (length-append (take size buffer) (drop size buffer)) ∙ ap length (take-append-drop size buffer)

-- how many bytes were read after a call
pub length-next : (into new buffer rest : List ℕ) (count : ℕ) → count ≤ length buffer → new ≡ into ++ take count (buffer ++ rest) → length new ≡ length into + count
length-next into new buffer rest count bound grown =
    let piece = take-append-le count buffer rest bound in
    ap length (grown ∙ ap (λ bytes. into ++ bytes) piece) ∙ length-append into (take count buffer) ∙ ap (λ n. length into + n) (length-take-le count buffer bound)

-- a reader that gives no more has given all its bytes
pub Consumes-end : (first now next : Option (List ℕ)) (into buffer : List ℕ) (count : ℕ)
    → Consumes first now into → Consumes now next (take count buffer) → count ≡ 0 → IsAtEnd next
    → IfSome first (λ bytes. into ≡ bytes)
Consumes-end None now next into buffer count before read none end = tt
Consumes-end (Some bytes) None next into buffer count before read none end = absurd before
Consumes-end (Some bytes) (Some rest) None into buffer count before read none end = absurd read
Consumes-end (Some bytes) (Some rest) (Some left) into buffer count before read none end =
    let nothing = read ∙ ap (λ n. take n buffer ++ left) none ∙ end in
    sym (before ∙ ap (λ behind. into ++ behind) nothing ∙ append-nil into)

-- what was read is no longer than what there was
pub Consumes-longer : (first now : Option (List ℕ)) (into : List ℕ) (limit : ℕ) → Consumes first now into → limit < length into → IfSome first (λ bytes. limit < length bytes)
Consumes-longer None now into limit before long = tt
Consumes-longer (Some bytes) None into limit before long = absurd before
Consumes-longer (Some bytes) (Some rest) into limit before long =
    let size = ap length before ∙ length-append into rest in
    omega (arith, size, long)
