-- What is written is read back, and what is torn is not.
use Rattle.std.proofs.Common.{◌≡◌, ℕ, ◌+◌, ◌-◌, ◌%◌, ◌<◌, ◌≤◌, Bool, true, false, cond, eqb, List, [], ◌∷◌, ◌++◌, length, get_or, take, drop, replicate, Some, None, Option, sym, refl, ap, ◌∙◌, subst, ⊎_elim, append_assoc, arith}
use Rattle.std.specs.Bool.{then_some}
use Rattle.std.specs.List.{flat_map, All}
use Rattle.std.proofs.lemmas.List.Elements.{All-head, All-tail}
use Rattle.std.proofs.lemmas.Slice.Eq.{bytes_eq-Decides}
use Rattle.std.proofs.lemmas.List.{take_at, drop_at, take-append-drop, length-append, length-take-le, get_or_at, get_or_append_left, get_or-append_right, get_or-take, get_or-replicate, get_or_past, length-replicate}
use Rattle.std.proofs.lemmas.Bool.{cond-true, cond_both, cases_lt}
use Rattle.programs.specs.declared.values.Sends.{Sends}
use Rattle.programs.specs.declared.values.Sends.TheVariants.{Nothing, One, Two}
use Rattle.records.specs.declared.Content.{Content}
use Rattle.records.specs.declared.Content.TheVariants.{Interval, Checkpoint, Line}
use Rattle.records.specs.declared.Record.{Record}
use Rattle.frames.specs.Frames.{framed, short, long, kind, fields, sends_part, output_part, size, Held, Typed, Wrote}
use Rattle.frames.specs.Reads.{candidate, begins, decoded, followed, reading, Strict, interval_at, checkpoint_at, entries_at}
use Rattle.frames.proofs.Candidate.{candidate_back}

begins_front : (p rest : List ℕ) → begins p (p ++ rest) ≡ true
begins_front p rest = (bytes_eq-Decides p (take (length p) (p ++ rest))).1 (sym (take_at p rest (length p) refl))

pub read_back : (x : Record) (rest : List ℕ) → Typed x → decoded (framed x ++ rest) ≡ Some x
unfolding decoded
read_back x rest h =
    let P : Record → Type 0 = λ y. cond (begins (framed y) (framed x ++ rest)) (Some y) None ≡ Some x in
    subst P (sym (candidate_back x rest h)) (cond-true _ _ _ (begins_front (framed x) rest))

-- nothing is read but the candidate, and that only where its frame stands
pub decoded_is : (bs : List ℕ) (x : Record) → decoded bs ≡ Some x → (x ≡ candidate bs) × (bs ≡ framed x ++ drop (length (framed x)) bs)
unfolding decoded
decoded_is bs x e = go (begins (framed (candidate bs)) bs) refl e
  where
    go : (b : Bool) → begins (framed (candidate bs)) bs ≡ b → cond b (Some (candidate bs)) None ≡ Some x → (x ≡ candidate bs) × (bs ≡ framed x ++ drop (length (framed x)) bs)
    go true t s =
        let same : x ≡ candidate bs = cc in
        let front = (bytes_eq-Decides (framed (candidate bs)) (take (length (framed (candidate bs))) bs)).0 t in
        let P : Record → Type 0 = λ y. bs ≡ framed y ++ drop (length (framed y)) bs in
        (same, subst P (sym same) (sym (take-append-drop (length (framed (candidate bs))) bs) ∙ ap (λ xs. xs ++ drop (length (framed (candidate bs))) bs) (sym front)))
    go false t s = let z : ◌≡◌ {A = ℕ} 0 1 = cc in absurd (omega arith)

-- a vector and a line have eight entries
abbrev Eight : Content → Type 0
Eight (Interval x) = length x.vector ≡ 8
Eight (Checkpoint x) = Unit {0}
Eight (Line v) = length v ≡ 8

held_eight : (c : Content) → Held c → Eight c
held_eight (Interval x) h = h.3
held_eight (Checkpoint x) h = tt
held_eight (Line v) h = h

candidate_eight : (bs : List ℕ) → Eight (candidate bs).content
candidate_eight bs =
    cond_both (eqb (get_or bs 0 0) 51) (interval_at bs) (cond (eqb (get_or bs 0 0) 37) (checkpoint_at bs) (Line (entries_at bs 4))) Eight
    (λ _. refl)
    (λ _. cond_both (eqb (get_or bs 0 0) 37) (checkpoint_at bs) (Line (entries_at bs 4)) Eight (λ _. tt) (λ _. refl))

length_sends : (s : Sends) → length (sends_part s) ≡ 19
length_sends Nothing = refl
length_sends (One m) = refl
length_sends (Two m n) = refl

length_output : (o : Option ℕ) → length (output_part o) ≡ 9
length_output None = refl
length_output (Some v) = refl

-- what stands before the closing byte
abbrev body : Content → List ℕ
body c = short (long c) ++ short (kind c) ++ fields c

length_body : (c : Content) → Eight c → length (body c) ≡ long c + 1
length_body (Interval x) h = simp length-append (omega (arith, length_sends x.sends, length_output x.output))
length_body (Checkpoint x) h = refl
length_body (Line v) h = omega arith

pub length_framed : (x : Record) → Typed x → length (framed x) ≡ size x
length_framed x h =
    length-append (body x.content) (0x5A ∷ []) ∙ omega (arith, length_body x.content (held_eight x.content h))

closing : (c : Content) (rest : List ℕ) → Eight c → get_or (body c ++ 0x5A ∷ [] ++ rest) (long c + 1) 0 ≡ 0x5A
closing c rest h =
    ap (λ xs. get_or xs (long c + 1) 0) (append_assoc (body c) (0x5A ∷ []) rest)
    ∙ get_or_at (body c) 0x5A rest 0 (long c + 1) (length_body c h)

pub long_bounds : (c : Content) → (11 ≤ long c) × (long c ≤ 51)
long_bounds (Interval x) = (omega arith, omega arith)
long_bounds (Checkpoint x) = (omega arith, omega arith)
long_bounds (Line v) = (omega arith, omega arith)

zeros_only : (n k : ℕ) → ◌≡◌ {A = ℕ} (get_or (replicate n 0) k 0) 0
zeros_only n k =
    ⊎_elim (λ l. get_or-replicate {A = ℕ} n k 0 0 l) (λ l. get_or_past {X = ℕ} (replicate n 0) k 0 (omega (arith, length-replicate {A = ℕ} n 0))) (cases_lt k n)

-- a front of a frame with zeros behind it: its first byte is the frame's or 0, and the closing byte's place holds 0
module _ (x : Record) (k zeros : ℕ) (h : Typed x) (l : k < length (framed x)) where
  abbrev torn_bytes : List ℕ
  torn_bytes = take k (framed x) ++ replicate zeros 0

  torn_length : length (take k (framed x)) ≡ k
  torn_length = length-take-le k (framed x) (omega arith)

  torn_first : 0 < k → get_or torn_bytes 0 0 ≡ long x.content % 256
  torn_first some =
      get_or_append_left (take k (framed x)) (replicate zeros 0) 0 0 (omega (arith, torn_length)) ∙ get_or-take k (framed x) 0 0 some

  torn_none : k ≡ 0 → ◌≡◌ {A = ℕ} (get_or torn_bytes 0 0) 0
  torn_none e = get_or-append_right (take k (framed x)) (replicate zeros 0) k 0 0 torn_length (omega arith) ∙ zeros_only zeros (0 - k)

  torn_closing : ◌≡◌ {A = ℕ} (get_or torn_bytes (long x.content + 1) 0) 0
  torn_closing =
      let n = long x.content + 1 in
      get_or-append_right (take k (framed x)) (replicate zeros 0) k n 0 torn_length (omega (arith, length_framed x h)) ∙ zeros_only zeros (n - k)

  never : (y : Record) → decoded torn_bytes ≡ Some y → ⊥
  never y e =
      let d = decoded_is torn_bytes y e in
      let eight : Eight y.content = subst (λ z. Eight z.content) (sym d.0) (candidate_eight torn_bytes) in
      let rest = drop (length (framed y)) torn_bytes in
      let first : get_or torn_bytes 0 0 ≡ long y.content % 256 = ap (λ bs. get_or bs 0 0) d.1 in
      let last : get_or torn_bytes (long y.content + 1) 0 ≡ 0x5A =
      ap (λ bs. get_or bs (long y.content + 1) 0) d.1 ∙ closing y.content rest eight in
      let bx = long_bounds x.content in
      let by = long_bounds y.content in
      ⊎_elim
      (λ some.
      let same : long y.content ≡ long x.content = omega (arith, first, torn_first some) in
      let moved : get_or torn_bytes (long x.content + 1) 0 ≡ 0x5A = subst (λ n. get_or torn_bytes (n + 1) 0 ≡ 0x5A) same last in
      omega (arith, moved, torn_closing))
      (λ none. omega (arith, first, torn_none (omega arith)))
      (cases_lt 0 k)

pub torn : (x : Record) (k zeros : ℕ) → Typed x → k < length (framed x) → decoded (take k (framed x) ++ replicate zeros 0) ≡ None
torn x k zeros h l = go (decoded (torn_bytes x k zeros h l)) refl
  where
    go : (o : Option Record) → decoded (torn_bytes x k zeros h l) ≡ o → o ≡ None
    go None e = refl
    go (Some y) e = absurd (never x k zeros h l y e)

lists_back : (xs : List Record) (rest : List ℕ) → All Typed xs → reading (length xs) (flat_map framed xs ++ rest) ≡ xs
lists_back [] rest h = refl
lists_back (x ∷ xs) rest h =
    let tail = flat_map framed xs ++ rest in
    let front : flat_map framed (x ∷ xs) ++ rest ≡ framed x ++ tail = append_assoc (framed x) (flat_map framed xs) rest in
    let head : decoded (flat_map framed (x ∷ xs) ++ rest) ≡ Some x = ap decoded front ∙ read_back x tail (All-head Typed x xs h) in
    let left : drop (length (framed x)) (flat_map framed (x ∷ xs) ++ rest) ≡ tail =
    ap (λ bs. drop (length (framed x)) bs) front ∙ drop_at (framed x) tail (length (framed x)) refl in
    ap (followed (reading (length xs)) (flat_map framed (x ∷ xs) ++ rest)) head
    ∙ ap (λ ys. x ∷ ys) (ap (λ bs. reading (length xs) bs) left ∙ lists_back xs rest (All-tail Typed x xs h))

-- of no bytes nothing is read
pub decoded_nil : decoded [] ≡ None
unfolding decoded
decoded_nil = refl

chosen : (x : Record) (r : Bool) → cond r (Some x) None ≡ then_some r x
chosen x true = refl
chosen x false = refl

-- the test of the reader: the candidate's frame against the bytes
pub tested : (bs was out : List ℕ) (end : ℕ) (x : Record) (r : Bool) → x ≡ candidate bs → Wrote was 0 (framed x) out end → r ≡ begins (take end out) bs → decoded bs ≡ then_some r x
unfolding decoded
tested bs was out end x r same wrote m =
    let answer : r ≡ begins (framed x) bs = m ∙ ap (λ p. begins p bs) wrote.front in
    let P : Record → Type 0 = λ y. cond (begins (framed y) bs) (Some y) None ≡ then_some r x in
    subst P same (ap (λ b. cond b (Some x) None) (sym answer) ∙ chosen x r)

-- what is decoded is strict, where it is a record of the code's types
strict : (bs : List ℕ) (r : Option Record) → decoded bs ≡ r → ((x : Record) → r ≡ Some x → Typed x) → Strict bs r
strict bs r e typed = record {
  same = λ x s. (typed x s, (decoded_is bs x (e ∙ s)).1);
  back = λ x rest h front. sym e ∙ ap decoded front ∙ read_back x rest h;
  torn = λ x k zeros h l cut. sym e ∙ ap decoded cut ∙ torn x k zeros h l;
  lists = λ xs rest h front. ap (reading (length xs)) front ∙ lists_back xs rest h;
}

pub strict_none : (bs : List ℕ) → decoded bs ≡ None → Strict bs None
strict_none bs e = strict bs None e (λ x s. let z : ◌≡◌ {A = ℕ} 0 1 = cc in absurd (omega arith))

pub strict_either : (bs : List ℕ) (x : Record) (r : Bool) → decoded bs ≡ then_some r x → Typed x → Strict bs (then_some r x)
strict_either bs x true e h = strict bs (Some x) e (λ y s. let same : x ≡ y = cc in let P : Record → Type 0 = Typed in subst P same h)
strict_either bs x false e h = strict_none bs e
