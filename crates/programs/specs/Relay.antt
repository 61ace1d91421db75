-- The relay program: processes 0, 1 and 2 hand a value round and count it down.
use Rattle.std.specs.Prelude.{ℕ, ◌+◌, ◌-◌, ◌*◌, ◌/◌, ◌%◌, ◌^◌, cond, Some, None, ◌==◌, bit_or, bit_xor, nat_lt}
use Rattle.programs.specs.Program.{Meaning, Step, zeros, idle, one_more, to}
use Rattle.programs.specs.declared.values.State.{State}
use Rattle.programs.specs.declared.values.Sends.TheVariants.{Nothing, One}

-- the 64 bits of a word moved left by one, the first of them to the end
abbrev pub rotated : ℕ → ℕ
rotated n = bit_or ((n * 2) % 2 ^ 64) (n / 2 ^ 63)

-- a counts the step, and b is rotated and exclusive-ored with the value
abbrev pub stirred : State → ℕ → State
stirred s v = record { a = one_more s.a; b = bit_xor (rotated s.b) v; c = s.c; d = s.d }

abbrev pub relay_step : ℕ → State → ℕ → ℕ → Step
relay_step p s source v =
    cond (nat_lt 2 p) (idle s)
    (cond (v % 256 == 0)
    (stirred s v, Nothing, Some v)
    (stirred s v, One (to ((p + 1) % 3) (v - 1)), None))

abbrev pub relay : Meaning
relay = record { start = λ p. zeros; step = relay_step }
