-- The first of several faults, in the order in which they are looked for.
use Rattle.std.specs.Prelude.{ℕ, zero, suc, Bool, cond, Some, None, Ok, Err, Option, Result}

-- the first, or else the second
abbrev pub or_else : {X : Type 0} → Option X → Option X → Option X
or_else None o = o
or_else (Some x) o = Some x

-- nothing where a test holds, or else a fault
abbrev pub unless : {X : Type 0} → Bool → X → Option X
unless t x = cond t None (Some x)

-- the first of f 0, f 1, .. below a number
unfoldable pub earliest : {X : Type 0} → ℕ → (ℕ → Option X) → Option X
earliest zero f = None
earliest (suc n) f = or_else (earliest n f) (f n)

-- the answer of a call: the fault where there is one, or else a value
abbrev pub granted : {X F : Type 0} → Option F → X → Result X F
granted None x = Ok x
granted (Some f) x = Err f
