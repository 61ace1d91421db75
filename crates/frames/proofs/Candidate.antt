-- The candidate of a frame is the record that it was written from.
use Rattle.std.proofs.Common.{◌≡◌, ℕ, ◌^◌, ◌<◌, List, ◌++◌, length, Some, None, Option, sym, refl, ap, ◌∙◌, subst, arith}
use Rattle.std.proofs.lemmas.List.{drop_more, drop_all}
use Rattle.programs.specs.declared.values.Send.{Send}
use Rattle.programs.specs.declared.values.Sends.{Sends}
use Rattle.programs.specs.declared.values.Sends.TheVariants.{Nothing, One, Two}
use Rattle.records.specs.declared.Content.{Content}
use Rattle.records.specs.declared.Content.TheVariants.{Interval, Checkpoint, Line}
use Rattle.records.specs.declared.Checkpoint.{Checkpoint as Noted}
use Rattle.records.specs.declared.Interval.{Interval as Passed}
use Rattle.records.specs.declared.Record.{Record}
use Rattle.frames.specs.Frames.{framed, word, Words, Word, Held, Typed}
use Rattle.frames.specs.Reads.{word_at, entries_at, candidate}

entries_whole : (v : List ℕ) → length v ≡ 8 → v ≡ entries_at v 0
entries_whole v e =
    let e0 = drop_more v 0 0 (omega arith) in
    let e1 = drop_more v 1 0 (omega arith) in
    let e2 = drop_more v 2 0 (omega arith) in
    let e3 = drop_more v 3 0 (omega arith) in
    let e4 = drop_more v 4 0 (omega arith) in
    let e5 = drop_more v 5 0 (omega arith) in
    let e6 = drop_more v 6 0 (omega arith) in
    let e7 = drop_more v 7 0 (omega arith) in
    let e8 = drop_all 8 v (omega arith) in
    cc

line_back : (v rest : List ℕ) → length v ≡ 8 → candidate (framed (record { content = Line v }) ++ rest) ≡ record { content = Line v }
line_back v rest e =
    let P : List ℕ → Type 0 = λ u. candidate (framed (record { content = Line u }) ++ rest) ≡ record { content = Line u } in
    subst P (sym (entries_whole v e)) refl

-- a word written and read again
abbrev again : ℕ → ℕ
again n = word_at (word n) 0

again_is : (n : ℕ) → n < 2 ^ 64 → again n ≡ n
again_is n h = omega arith

abbrev noted : ℕ → ℕ → ℕ → ℕ → ℕ → ℕ → Record
noted p i a b c d = record {
  content = Checkpoint (record { process = p; index = i; state = record { a = a; b = b; c = c; d = d } });
}

checkpoint_back : (x : Noted) (rest : List ℕ) → Held (Checkpoint x) → candidate (framed (record { content = Checkpoint x }) ++ rest) ≡ record { content = Checkpoint x }
checkpoint_back x rest h =
    let p = x.process in
    let i = x.index in
    let s = x.state in
    ap (λ n. noted p i n (again s.b) (again s.c) (again s.d)) (again_is s.a h.0)
    ∙ ap (λ n. noted p i s.a n (again s.c) (again s.d)) (again_is s.b h.1)
    ∙ ap (λ n. noted p i s.a s.b n (again s.d)) (again_is s.c h.2)
    ∙ ap (λ n. noted p i s.a s.b s.c n) (again_is s.d h.3)

abbrev made : ℕ → ℕ → ℕ → ℕ → ℕ → Sends → Option ℕ → List ℕ → Record
made p i s t v sends output vector = record {
  content = Interval (record {
    process = p;
    index = i;
    source = s;
    sent_at = t;
    value = v;
    sends = sends;
    output = output;
    vector = vector;
  });
}

abbrev again_send : Send → Send
again_send m = record { target = m.target; value = again m.value }

abbrev again_sends : Sends → Sends
again_sends Nothing = Nothing
again_sends (One m) = One (again_send m)
again_sends (Two m n) = Two (again_send m) (again_send n)

again_send_is : (m : Send) → m.value < 2 ^ 64 → again_send m ≡ m
again_send_is m h = ap (λ n. let r : Send = record { target = m.target; value = n } in r) (again_is m.value h)

again_sends_is : (s : Sends) → Words s → again_sends s ≡ s
again_sends_is Nothing h = refl
again_sends_is (One m) h = ap One (again_send_is m h)
again_sends_is (Two m n) h =
    ap (λ x. Two x (again_send n)) (again_send_is m h.0) ∙ ap (λ x. Two m x) (again_send_is n h.1)

abbrev again_output : Option ℕ → Option ℕ
again_output None = None
again_output (Some v) = Some (again v)

again_output_is : (o : Option ℕ) → Word o → again_output o ≡ o
again_output_is None h = refl
again_output_is (Some v) h = ap Some (again_is v h)

module _ (p i s t v : ℕ) (e rest : List ℕ) where
  abbrev at_entries : Sends → Option ℕ → Record
  at_entries sends output = made p i s t v sends output (entries_at e 0)

  computes : (sends : Sends) (output : Option ℕ) → candidate (framed (at_entries sends output) ++ rest) ≡ made p i s t (again v) (again_sends sends) (again_output output) (entries_at e 0)
  computes Nothing None = refl
  computes Nothing (Some o) = refl
  computes (One m) None = refl
  computes (One m) (Some o) = refl
  computes (Two m n) None = refl
  computes (Two m n) (Some o) = refl

  made_back : (sends : Sends) (output : Option ℕ) → v < 2 ^ 64 → Words sends → Word output → candidate (framed (at_entries sends output) ++ rest) ≡ at_entries sends output
  made_back sends output h ws w =
      computes sends output
      ∙ ap (λ n. made p i s t n (again_sends sends) (again_output output) (entries_at e 0)) (again_is v h)
      ∙ ap (λ n. made p i s t v n (again_output output) (entries_at e 0)) (again_sends_is sends ws)
      ∙ ap (λ n. made p i s t v sends n (entries_at e 0)) (again_output_is output w)

interval_back : (x : Passed) (rest : List ℕ) → Held (Interval x) → candidate (framed (record { content = Interval x }) ++ rest) ≡ record { content = Interval x }
interval_back x rest h =
    let P : List ℕ → Type 0 = λ u. candidate (framed (made x.process x.index x.source x.sent_at x.value x.sends x.output u) ++ rest) ≡ made x.process x.index x.source x.sent_at x.value x.sends x.output u in
    subst P (sym (entries_whole x.vector h.3))
    (made_back x.process x.index x.source x.sent_at x.value x.vector rest x.sends x.output h.0 h.1 h.2)

back : (c : Content) (rest : List ℕ) → Held c → candidate (framed (record { content = c }) ++ rest) ≡ record { content = c }
back (Interval x) rest h = interval_back x rest h
back (Checkpoint x) rest h = checkpoint_back x rest h
back (Line v) rest h = line_back v rest h

pub candidate_back : (x : Record) (rest : List ℕ) → Typed x → candidate (framed x ++ rest) ≡ x
candidate_back x rest h = back x.content rest h
