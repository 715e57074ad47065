-- What calls answer: steps that may be refused, one after another, where want of memory is free.
use Rattle.std.specs.Prelude.{◌≡◌, ◌⊎◌, Result, Ok, Err, Option, Some, None}

-- the second step of what the first one gave, or the first one's refusal
abbrev pub and_then : {A B E : Type 0} → Result A E → (A → Result B E) → Result B E
and_then (Ok a) next = next a
and_then (Err e) next = Err e

-- what is there, or this refusal
abbrev pub needed : {A E : Type 0} → E → Option A → Result A E
needed fault (Some a) = Ok a
needed fault None = Err fault

-- the same answer, with each refusal told in another way
abbrev pub told_as : {A E F : Type 0} → (E → F) → Result A E → Result A F
told_as tell (Ok a) = Ok a
told_as tell (Err e) = Err (tell e)

-- the same answer, with its value seen in another way
abbrev pub seen_as : {T V E : Type 0} → (T → V) → Result T E → Result V E
seen_as view (Ok value) = Ok (view value)
seen_as view (Err fault) = Err fault

-- what follows from what is there, or this where nothing is
abbrev pub given : {A B : Type 0} → B → Option A → (A → B) → B
given otherwise None next = otherwise
given otherwise (Some a) next = next a

-- the result is the answer that is due, or want of memory
abbrev pub IsAnswer : {T E : Type 0} → E → Result T E → Result T E → Type 0
IsAnswer memory due (Ok value) = due ≡ Ok value
IsAnswer memory due (Err fault) = (fault ≡ memory) ⊎ (due ≡ Err fault)
