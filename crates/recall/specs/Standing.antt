-- The checkpoints of a process that stand, and the one that its replay begins at.
use Rattle.std.specs.Prelude.{◌≡◌, ℕ, ◌<◌, cond, List, [], ◌∷◌, ◌++◌, Some, None, fold, filter, Option, ◌==◌, nat_le, slice_index, slice_index_or}
use Rattle.std.specs.List.{enumerate_from}
use Rattle.programs.specs.Program.{Meaning}
use Rattle.programs.specs.declared.values.State.{State}
use Rattle.records.specs.declared.Checkpoint.{Checkpoint}
use Rattle.records.specs.declared.Content.{Content}
use Rattle.records.specs.declared.Content.TheVariants as content
use Rattle.records.specs.declared.Record.{Record}
use Rattle.histories.specs.Reading.{origin}
use Rattle.recall.specs.declared.checkpoint.Found.{Found}

-- a checkpoint, read from the record of this number
abbrev pub numbered : ℕ → Checkpoint → Found
numbered n c = record { index = c.index; state = c.state; «record» = n }

-- what record n makes of the checkpoints of process p that stand: a line drops those above its entry
abbrev pub marked : ℕ → ℕ → List Found → Content → List Found
marked p n cs (content.Interval x) = cs
marked p n cs (content.Checkpoint c) = cond (p == c.process) (cs ++ (numbered n c ∷ [])) cs
marked p n cs (content.Line entries) = filter (λ f. nat_le f.index (slice_index entries p)) cs

-- what a record makes of them, by its number
abbrev pub marked_next : ℕ → List Found → ℕ × Record → List Found
marked_next p cs (n, r) = marked p n cs r.content

-- the checkpoints of process p that stand, in the order of their records, which are counted from 1
abbrev pub standing : ℕ → List Record → List Found
standing p rs = fold (marked_next p) [] (enumerate_from 1 rs)

-- the higher of two, of equal ones the later
abbrev pub higher : Option Found → Found → Option Found
higher None f = Some f
higher (Some best) f = cond (nat_le best.index f.index) (Some f) (Some best)

-- the highest at or below the entry, of equal ones the last
abbrev pub highest : ℕ → List Found → Option Found
highest entry cs = fold higher None (filter (λ f. nat_le f.index entry) cs)

-- where a replay of process p up to its line entry begins: its highest checkpoint at or below the entry, of equal ones the last, or its start
abbrev pub origin_within : Meaning → ℕ → ℕ → List Checkpoint → ℕ × State
origin_within M p entry cs = origin M p (filter (λ c. nat_le c.index entry) cs)

-- where a replay of process p begins: at the checkpoint, or at the start
abbrev pub begins : Meaning → ℕ → Option Found → ℕ × State
begins M p None = (0, M.start p)
begins M p (Some f) = (f.index, f.state)

-- the last of index k
abbrev pub last_of : ℕ → Option Found → Found → Option Found
last_of k last f = cond (k == f.index) (Some f) last

abbrev pub last_at : ℕ → List Found → Option Found
last_at k cs = fold (last_of k) None cs

-- there is a slot for each index, which has the last one of it
abbrev pub Holds : List Found → List (Option Found) → Type 0
Holds cs slots = (k : ℕ) → k < 256 → slice_index_or slots k None ≡ last_at k cs
