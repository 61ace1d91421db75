-- Runs without failure: what stands between two moves, what a move does, and the runs.
use Rattle.std.specs.Prelude.{◌≡◌, ℕ, ◌<◌, List, [], ◌∷◌, ◌++◌, map, filter, ◌≢◌, nat_eq}
use Rattle.std.specs.Option.{option_to_list}
use Rattle.programs.specs.Program.{Meaning}
use Rattle.programs.specs.Values.{listed, reaching}
use Rattle.programs.specs.declared.values.Send.{Send}
use Rattle.programs.specs.declared.values.State.{State}

-- the state of each process, the values waiting from one process to another, the outputs of each process
pub record Configuration : Type 0 where
  pub state : ℕ → State
  pub waiting : ℕ → ℕ → List ℕ
  pub outputs : ℕ → List ℕ

-- the values sent to p, in order
abbrev pub sent_to : ℕ → List Send → List ℕ
sent_to p ms = map (λ m. m.value) (filter (λ m. nat_eq m.target p) ms)

-- a run begins with the starts and with empty lists
pub record Fresh (M : Meaning) (N : ℕ) (c : Configuration) : Type 0 where
  pub states : (p : ℕ) → p < N → c.state p ≡ M.start p
  pub channels : (q p : ℕ) → c.waiting q p ≡ []
  pub silent : (p : ℕ) → c.outputs p ≡ []

-- process p steps with a value from a source: sends go to the ends of its channels, an output to the end of its outputs
pub record Steps (M : Meaning) (N p source value : ℕ) (a b : Configuration) : Type 0 where
  pub exists : p < N
  pub state : b.state p ≡ (M.step p (a.state p) source value).0
  pub states : (r : ℕ) → (r ≢ p) → b.state r ≡ a.state r
  pub sends : (r : ℕ) → b.waiting p r ≡ a.waiting p r ++ sent_to r (reaching N (listed (M.step p (a.state p) source value).1))
  pub channels : (q r : ℕ) → (q ≢ p) → b.waiting q r ≡ a.waiting q r
  pub output : b.outputs p ≡ a.outputs p ++ option_to_list (M.step p (a.state p) source value).2
  pub silent : (r : ℕ) → (r ≢ p) → b.outputs r ≡ a.outputs r

-- the first value waiting from q to p leaves its channel
pub record Leaves (q p value : ℕ) (a b : Configuration) : Type 0 where
  pub first : a.waiting q p ≡ value ∷ b.waiting q p
  pub channels : (r s : ℕ) → ((r ≡ q) × (s ≡ p) → ⊥) → b.waiting r s ≡ a.waiting r s
  pub states : (r : ℕ) → b.state r ≡ a.state r
  pub silent : (r : ℕ) → b.outputs r ≡ a.outputs r

-- take (p, v), and move (q, p) of the value that waited first
pub data Move : Type 0 where
  took : ℕ → ℕ → Move
  moved : ℕ → ℕ → ℕ → Move

-- take steps p with source 8, move steps p with what left the channel
abbrev pub Makes : Meaning → ℕ → Move → Configuration → Configuration → Type 0
Makes M N (took p v) a b = Steps M N p 8 v a b
Makes M N (moved q p v) a b = (c : Configuration) × (Leaves q p v a c × Steps M N p q v c b)

-- moves, one upon the result of the other
pub data Leads (M : Meaning) (N : ℕ) : List Move → Configuration → Configuration → Type 0 where
  stays : {c : Configuration} → Leads M N [] c c
  goes_on : {ms : List Move} {a b c : Configuration} → Leads M N ms a b → (m : Move) → Makes M N m b c → Leads M N (ms ++ m ∷ []) a c

-- a run without failure, by its moves, ends in a configuration
abbrev pub Run : Meaning → ℕ → List Move → Configuration → Type 0
Run M N ms c = (first : Configuration) × (Fresh M N first × Leads M N ms first c)
