-- Deliveries one after the other, and what is known when they end.
use Rattle.std.proofs.Common.{◌≡◌, ℕ, ◌<◌, List, [], ◌∷◌, ◌++◌, length, get_or, Err, vec_items, vec_len, sym, refl, ap, ◌∙◌, subst, inl, inr, arith}
use Rattle.std.proofs.lemmas.List.Elements.{All-nil, All-push}
use Rattle.std.proofs.lemmas.List.{append-nil, append_assoc, nil_from_length}
use Rattle.programs.specs.Program.{Meaning}
use Rattle.runs.specs.Answers.{Advanced, Moves, Quiet, Delivery, Delivered, Settles}
use Rattle.runs.specs.Held.{count, channel, configuration, Unchanged}
use Rattle.runs.specs.Run.{Move, moved, Makes, Leads, stays, goes_on}
use Rattle.runs.specs.declared.runner.Message.{Message}
use Rattle.runs.specs.declared.runner.RunError.{RunError}
use Rattle.runs.specs.declared.runner.RunError.TheVariants.{ProcessCount, NoSuchProcess, NothingWaiting, Unsettled, Memory}
use Rattle.runs.specs.declared.runner.Runner.{Runner}
use Rattle.runs.proofs.Channels.{channel_here}
use Rattle.runs.proofs.Moves.{same_count, same_lists_configuration}

pub delivered_none : {P : Type 0} (M : Meaning) (a : Runner P) → Delivered M [] a a
delivered_none M a = record { program = refl; processes = refl; deliveries = All-nil Delivery; moves = stays; grown = ([], sym (append-nil (vec_items a.outputs))) }

pub delivered_more : {P : Type 0} (M : P → Meaning) (q p v : ℕ) (ms : List Move) (a b c : Runner P) → Delivered (M a.program) ms a b → Advanced (M b.program) (moved q p v) b c →
    Delivered (M a.program) (ms ++ moved q p v ∷ []) a c
delivered_more M q p v ms a b c before move = record {
  program = move.program ∙ before.program;
  processes = move.processes ∙ before.processes;
  deliveries = All-push Delivery ms (moved q p v) before.deliveries tt;
  moves = goes_on before.moves (moved q p v)
      (subst (λ x. Makes (M x) (count a) (moved q p v) (configuration b) (configuration c)) before.program
      (subst (λ n. Makes (M b.program) n (moved q p v) (configuration b) (configuration c)) before.processes move.move));
  grown = (
    before.grown.0 ++ move.grown.0,
    move.grown.1 ∙ ap (λ os. os ++ move.grown.0) before.grown.1 ∙ append_assoc (vec_items a.outputs) before.grown.0 move.grown.0,
  );
}

delivered_same : {P : Type 0} (M : Meaning) (ms : List Move) (a b c : Runner P) → Delivered M ms a b → Unchanged b c → Delivered M ms a c
delivered_same M ms a b c before same = record {
  program = same.program ∙ before.program;
  processes = same_count b c (ap length same.states) ∙ before.processes;
  deliveries = before.deliveries;
  moves = subst (Leads M (count a) ms (configuration a)) (sym (same_lists_configuration same.states same.waiting same.outputs)) before.moves;
  grown = (before.grown.0, same.outputs ∙ before.grown.1);
}

pub quiet_none : {P : Type 0} (r : Runner P) → vec_len r.waiting ≡ 0 → Quiet (configuration r)
quiet_none r none q p = ap (channel q p) (nil_from_length (vec_items r.waiting) (sym r.waiting.ok.0 ∙ none))

-- the channel of the oldest message is not empty
busy : (ms : List Message) → 0 < length ms → (d : Message) → channel (get_or ms 0 d).source (get_or ms 0 d).target ms ≡ [] → ⊥
busy [] h d e = absurd (omega arith)
busy (m ∷ ms) h d e = let here = channel_here m.source m.target m ms refl refl in let z : ◌≡◌ {A = ℕ} 0 1 = cc in omega arith

pub still_waits : {P : Type 0} (r : Runner P) → (vec_len r.waiting ≡ 0 → ⊥) → Quiet (configuration r) → ⊥
still_waits r some quiet = busy (vec_items r.waiting) (omega (arith, r.waiting.ok.0, some)) record { source = 0; target = 0; value = 0 } (quiet _ _)

-- a delivery of the oldest message can only want memory
pub settles_refused : {P : Type 0} (M : P → Meaning) (limit : ℕ) (ms : List Move) (a b c : Runner P) (m : Message) → Delivered (M a.program) ms a b → length ms < limit →
    0 < vec_len b.waiting → m ≡ get_or (vec_items b.waiting) 0 m → (e : RunError) → Moves (M b.program) m.source m.target b c (Err e) → Settles (M a.program) limit a c (Err e)
settles_refused M limit ms a b c m done few some first ProcessCount why = why
settles_refused M limit ms a b c m done few some first NoSuchProcess why =
    let source : m.source < count b = subst (λ (x : Message). x.source < count b) (sym first) (b.sources 0 m (subst (λ n. 0 < n) b.waiting.ok.0 some)) in
    let target : m.target < count b = subst (λ (x : Message). x.target < count b) (sym first) (b.targets 0 m (subst (λ n. 0 < n) b.waiting.ok.0 some)) in
    elim why.0 [ inl h ↦ omega arith | inr h ↦ omega arith ]
settles_refused M limit ms a b c m done few some first Unsettled why = absurd why
settles_refused M limit ms a b c m done few some first NothingWaiting why =
    busy (vec_items b.waiting) (omega (arith, b.waiting.ok.0)) m (subst (λ (x : Message). channel x.source x.target (vec_items b.waiting) ≡ []) first why.2)
settles_refused M limit ms a b c m done few some first Memory why = (ms, (delivered_same (M a.program) ms a b c done why.3, few))
