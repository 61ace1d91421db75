-- What a runner's lists do in a step is what the configurations do in a move.
use Rattle.std.proofs.Common.{◌≡◌, ℕ, ◌<◌, List, [], ◌∷◌, ◌++◌, map, length, get_or, set, Ok, Err, Result, vec_items, vec_len, sym, refl, ap, ◌∙◌, subst, arith}
use Rattle.std.specs.List.{remove}
use Rattle.std.specs.Option.{option_to_list}
use Rattle.std.proofs.lemmas.List.{append-nil, get_or-set_same, get_or-set_other, length-set}
use Rattle.std.proofs.lemmas.List.Edits.{remove-append_left}
use Rattle.programs.specs.Program.{Meaning, zeros}
use Rattle.programs.specs.Values.{listed, reaching}
use Rattle.programs.specs.declared.values.State.{State}
use Rattle.runs.specs.Answers.{Advanced, Takes}
use Rattle.runs.specs.Held.{count, channel, outputs_of, of_lists, configuration}
use Rattle.runs.specs.Inside.{message, output, Frees, Stepped, StepsOrNot}
use Rattle.runs.specs.Run.{Steps, took, moved}
use Rattle.runs.specs.declared.runner.Message.{Message}
use Rattle.runs.specs.declared.runner.Output.{Output}
use Rattle.runs.specs.declared.runner.RunError.{RunError}
use Rattle.runs.specs.declared.runner.Runner.{Runner}
use Rattle.runs.proofs.Channels.{channel_append, channel_own, channel_others, outputs_append, outputs_own, outputs_others}

-- one step on the three lists
steps_lists : (M : Meaning) (N p source value : ℕ) (ss : List State) (ms : List Message) (os : List Output) → p < N → p < length ss →
    Steps M N p source value (of_lists ss ms os)
    (of_lists (set ss p (M.step p (get_or ss p zeros) source value).0)
    (ms ++ map (message p) (reaching N (listed (M.step p (get_or ss p zeros) source value).1)))
    (os ++ map (output p) (option_to_list (M.step p (get_or ss p zeros) source value).2)))
steps_lists M N p source value ss ms os exists within =
    let after = M.step p (get_or ss p zeros) source value in
    let sends = reaching N (listed after.1) in
    record {
      exists = exists;
      state = get_or-set_same ss p after.0 zeros within;
      states = λ r n. get_or-set_other ss p r after.0 zeros n;
      sends = λ r. channel_append p r ms (map (message p) sends) ∙ ap (λ vs. channel p r ms ++ vs) (channel_own p r sends);
      channels = λ q r n. channel_append q r ms (map (message p) sends) ∙ ap (λ vs. channel q r ms ++ vs) (channel_others q p r sends n) ∙ append-nil (channel q r ms);
      output = outputs_append p os (map (output p) (option_to_list after.2)) ∙ ap (λ vs. outputs_of p os ++ vs) (outputs_own p after.2);
      silent = λ r n. outputs_append r os (map (output p) (option_to_list after.2)) ∙ ap (λ vs. outputs_of r os ++ vs) (outputs_others r p after.2 n) ∙ append-nil (outputs_of r os);
    }

pub same_lists_configuration : {ss ss' : List State} {ms ms' : List Message} {os os' : List Output} → ss ≡ ss' → ms ≡ ms' → os ≡ os' → of_lists ss ms os ≡ of_lists ss' ms' os'
same_lists_configuration {ss} {ss'} {ms} {ms'} {os} {os'} e f g = ap (λ x. of_lists x ms os) e ∙ ap (λ x. of_lists ss' x os) f ∙ ap (λ x. of_lists ss' ms' x) g

pub same_count : {P : Type 0} (a b : Runner P) → length (vec_items b.states) ≡ length (vec_items a.states) → count b ≡ count a
same_count a b e = b.states.ok.0 ∙ e ∙ sym a.states.ok.0

module _ {P : Type 0} (M : Meaning) (p source value : ℕ) (a b : Runner P) (exists : p < count a) (s : Stepped M p source value a b) where
  steps_count : count b ≡ count a
  steps_count = same_count a b (ap length s.states ∙ length-set (vec_items a.states) p _)

  within : p < length (vec_items a.states)
  within = subst (λ n. p < n) a.states.ok.0 exists

  takes : source ≡ 8 → Advanced M (took p value) a b
  takes e = record {
    program = s.program;
    processes = steps_count;
    move = subst (λ q. Steps M (count a) p q value (configuration a) (configuration b)) e
        (subst (Steps M (count a) p source value (configuration a)) (sym (same_lists_configuration s.states s.waiting s.outputs))
        (steps_lists M (count a) p source value (vec_items a.states) (vec_items a.waiting) (vec_items a.outputs) exists within));
    grown = (_, s.outputs);
  }

  -- c is b without the message at i, which was there before the step
  pub moves : (i : ℕ) (c : Runner P) → Frees source p i (vec_items a.waiting) → ((d : Message) → value ≡ (get_or (vec_items a.waiting) i d).value) →
      c.program ≡ b.program → c.states ≡ b.states → c.outputs ≡ b.outputs → vec_items c.waiting ≡ remove (vec_items b.waiting) i → Advanced M (moved source p value) a c
  moves i c free read program states outputs rest =
      let sends = map (message p) (reaching (count a) (listed (M.step p (get_or (vec_items a.states) p zeros) source value).1)) in
      let left : vec_items c.waiting ≡ remove (vec_items a.waiting) i ++ sends = rest ∙ ap (λ ms. remove ms i) s.waiting ∙ remove-append_left (vec_items a.waiting) sends i free.within in
      record {
        program = program ∙ s.program;
        processes = ap vec_len states ∙ steps_count;
        move = (
          of_lists (vec_items a.states) (remove (vec_items a.waiting) i) (vec_items a.outputs),
          (
            record {
              first = free.first record { source = 0; target = 0; value = 0 } ∙ ap (λ v. v ∷ channel source p (remove (vec_items a.waiting) i)) (sym (read _));
              channels = free.others;
              states = λ r. refl;
              silent = λ r. refl;
            },
            subst (Steps M (count a) p source value (of_lists (vec_items a.states) (remove (vec_items a.waiting) i) (vec_items a.outputs)))
                (sym (same_lists_configuration (ap vec_items states ∙ s.states) left (ap vec_items outputs ∙ s.outputs)))
                (steps_lists M (count a) p source value (vec_items a.states) (remove (vec_items a.waiting) i) (vec_items a.outputs) exists within),
          ),
        );
        grown = (_, ap vec_items outputs ∙ s.outputs);
      }

-- an input steps the process, or finds no memory
pub takes_or_not : {P : Type 0} (M : Meaning) (p value : ℕ) (a b : Runner P) → p < count a → (r : Result (Unit {0}) RunError) → StepsOrNot M p 8 value a b r → Takes M p value a b r
takes_or_not M p value a b exists (Ok _) s = takes M p 8 value a b exists s refl
takes_or_not M p value a b exists (Err e) s = rw s.0 (exists, s.1)

pub not_empty : (q p i : ℕ) (ms : List Message) → Frees q p i ms → channel q p ms ≡ [] → ⊥
not_empty q p i ms free none = let taken = free.first record { source = 0; target = 0; value = 0 } in let z : ◌≡◌ {A = ℕ} 0 1 = cc in omega arith
