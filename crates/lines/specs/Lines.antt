-- Recovery lines: which are consistent, and the greatest.
use Rattle.std.specs.Prelude.{ℕ, zero, suc, ◌+◌, ◌<◌, ◌≤◌, min, Bool, cond, not, ◌||◌, length, take, nat_le, nat_lt}
use Rattle.std.specs.List.{prefix_len, All}
use Rattle.records.specs.declared.Interval.{Interval}
use Rattle.lines.specs.Intervals.{Family}

-- a line gives each process an index
abbrev pub Line : Type 0
Line = ℕ → ℕ

-- the message that began x was sent at or before the line
abbrev pub Backed : ℕ → Line → Interval → Type 0
Backed N L x = x.source < N → x.sent_at ≤ L x.source

-- every message taken in an interval up to the line was sent at or before it
abbrev pub Consistent : ℕ → Family → Line → Type 0
Consistent N F L = (p : ℕ) → p < N → All (Backed N L) (take (L p) (F p))

-- the line is within the counts, where a count above a row's length means that length
abbrev pub Within : ℕ → Family → Line → Line → Type 0
Within N F c L = (p : ℕ) → p < N → (L p ≤ c p) × (L p ≤ length (F p))

-- highest at every process among the consistent lines within the counts
pub record Greatest (N : ℕ) (F : Family) (c : Line) (L : Line) : Type 0 where
  pub consistent : Consistent N F L
  pub inside : Within N F c L
  pub highest : (K : Line) → Consistent N F K → Within N F c K → (p : ℕ) → p < N → K p ≤ L p

-- the sum of a line's entries below N
abbrev pub total : ℕ → Line → ℕ
total zero L = 0
total (suc N) L = total N L + L N

abbrev pub backed : ℕ → Line → Interval → Bool
backed N L x = not (nat_lt x.source N) || nat_le x.sent_at (L x.source)

-- one round: every process back to its longest front that the line backs
abbrev pub lowered : ℕ → Family → Line → Line
lowered N F L p = prefix_len (backed N L) (take (L p) (F p))

abbrev pub rounds : ℕ → ℕ → Family → Line → Line
rounds zero N F L = L
rounds (suc n) N F L = rounds n N F (lowered N F L)

-- the counts, cut to the rows' lengths; 0 for processes that do not exist
abbrev pub clipped : ℕ → Family → Line → Line
clipped N F c p = cond (nat_lt p N) (min (c p) (length (F p))) 0

-- the greatest line within the counts: as many rounds as there are intervals to lose
abbrev pub greatest_line : ℕ → Family → Line → Line
greatest_line N F c = rounds (total N (clipped N F c)) N F (clipped N F c)
