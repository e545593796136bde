-- What a function of the code answers, as the definitions have it.
use Rattle.std.specs.Prelude.{Result, Ok, Err}
use Rattle.clock_time.specs.Errors.{Answer, accepted, refused, error_number}
use Rattle.clock_time.specs.declared.Error.{Error}

-- a function's answer: what it gives, or a refusal with the error's number
abbrev pub answer_of : {A : Type 0} → Result A Error → Answer A
answer_of (Ok a) = accepted a
answer_of (Err e) = refused (error_number e)
