-- How the records of a journal follow what is written to it and cut from it.
use Rattle.std.proofs.Common.{subst, ◌≡◌, ℕ, ◌+◌, ◌-◌, ◌*◌, ◌/◌, ◌^◌, min, ◌<◌, ◌≤◌, ◌≢◌, List, [], ◌∷◌, ◌++◌, length, get_or, take, drop, set, replicate, Some, None, Option, is_some, true, sym, refl, ap, ◌∙◌, ⊎_elim, append_assoc, arith}
use Rattle.std.specs.List.{flat_map, All, slice_get}
use Rattle.std.proofs.lemmas.Option.{slice_get-get_or}
use Rattle.records.specs.declared.Content.TheVariants.{Line}
use Rattle.std.proofs.lemmas.List.{length-replicate, take-take, take_all, length-append, length_push, length-take-le, take_at, drop_at, take-append-drop, take-append-le, drop_more, drop-drop, drop-replicate, get_or-set_same, get_or-set_other, flat_map_more}
use Rattle.std.proofs.lemmas.List.Elements.{All-head, All-tail, All-push, All-take}
use Rattle.std.specs.Prelude.{MatchOption}
use Rattle.std.proofs.lemmas.Bool.{cases_lt}
use Rattle.std.proofs.lemmas.Grind.{flat_map-append}
use Rattle.records.specs.declared.Record.{Record}
use Rattle.frames.specs.Frames.{framed, size, Typed, Wrote}
use Rattle.frames.specs.Reads.{decoded, followed, reading}
use Rattle.frames.proofs.Decoding.{read_back, length_framed, long_bounds}
use Rattle.byte_store.specs.Journals.{zeroed, Exact}

-- the frames of a list, with anything behind them, read back to the list
pub reading_back : (xs : List Record) (rest : List ℕ) → All Typed xs → reading (length xs) (flat_map framed xs ++ rest) ≡ xs
reading_back [] rest h = refl
reading_back (x ∷ xs) rest h =
    let tail = flat_map framed xs ++ rest in
    let front : flat_map framed (x ∷ xs) ++ rest ≡ framed x ++ tail = append_assoc (framed x) (flat_map framed xs) rest in
    let head : decoded (flat_map framed (x ∷ xs) ++ rest) ≡ Some x = ap decoded front ∙ read_back x tail (All-head Typed x xs h) in
    let left : drop (length (framed x)) (flat_map framed (x ∷ xs) ++ rest) ≡ tail =
    ap (λ bs. drop (length (framed x)) bs) front ∙ drop_at (framed x) tail (length (framed x)) refl in
    ap (followed (reading (length xs)) (flat_map framed (x ∷ xs) ++ rest)) head
    ∙ ap (λ ys. x ∷ ys) (ap (λ bs. reading (length xs) bs) left ∙ reading_back xs rest (All-tail Typed x xs h))

-- what fits is written
pub written : (o : Option ℕ) (room size : ℕ) (P : Type 0) (Q : ℕ → Type 0) → MatchOption o ((room < size) × P) Q → size ≤ room → is_some o ≡ true
written None room size P Q h fits = absurd (omega arith)
written (Some e) room size P Q h fits = refl

-- no frame is longer than 53 bytes
pub joined_short : (xs : List Record) → All Typed xs → length (flat_map framed xs) ≤ 53 * length xs
joined_short [] h = omega arith
joined_short (x ∷ xs) h =
    let more = joined_short xs (All-tail Typed x xs h) in
    omega (arith, length-append (framed x) (flat_map framed xs), length_framed x (All-head Typed x xs h), long_bounds x.content)

pub length_zeroed : (e : ℕ) (bs : List ℕ) → e ≤ length bs → length (zeroed e bs) ≡ length bs
length_zeroed e bs inside =
    let front = length-take-le e bs inside in
    let back : length (replicate {A = ℕ} (length bs - e) 0) ≡ length bs - e = length-replicate (length bs - e) 0 in
    omega (arith, length-append (take e bs) (replicate (length bs - e) 0))

module _ {bs ends : List ℕ} {n : ℕ} {rs : List Record} (h : Exact bs ends n rs) where
  -- the records are those that the bytes read back to
  pub read_off : reading n bs ≡ rs
  read_off =
      ap (λ k. reading k bs) (sym h.number) ∙ ap (reading (length rs)) h.frames
      ∙ reading_back rs (replicate (length bs - length (flat_map framed rs)) 0) h.typed

  -- the first k frames are the front of the bytes
  pub split : (k : ℕ) → bs ≡ flat_map framed (take k rs) ++ (flat_map framed (drop k rs) ++ replicate (length bs - length (flat_map framed rs)) 0)
  split k =
      let Z : List ℕ = replicate (length bs - length (flat_map framed rs)) 0 in
      h.frames
      ∙ ap (λ xs. flat_map framed xs ++ Z) (sym (take-append-drop k rs))
      ∙ ap (λ ys. ys ++ Z) (flat_map-append framed (take k rs) (drop k rs))
      ∙ append_assoc (flat_map framed (take k rs)) (flat_map framed (drop k rs)) Z

  pub inside : (k : ℕ) → k ≤ n → get_or ends k 0 ≤ length bs
  inside k l =
      omega (
        arith,
        h.places k l,
        ap length (split k),
        length-append (flat_map framed (take k rs)) (flat_map framed (drop k rs) ++ replicate (length bs - length (flat_map framed rs)) 0),
      )

  pub last : get_or ends n 0 ≡ length (flat_map framed rs)
  last = h.places n (omega arith) ∙ ap (λ xs. length (flat_map framed xs)) (take_all n rs (omega (arith, h.number)))

  -- the frame behind i others is that of record i
  pub found : (i : ℕ) (d : Record) → i < n → decoded (drop (get_or ends i 0) bs) ≡ Some (get_or rs i d)
  found i d l =
      let Z : List ℕ = replicate (length bs - length (flat_map framed rs)) 0 in
      let r = get_or rs i d in
      let here : i < length rs = omega (arith, h.number) in
      let behind : flat_map framed (drop i rs) ++ Z ≡ framed r ++ (flat_map framed (drop (i + 1) rs) ++ Z) =
      ap (λ xs. flat_map framed xs ++ Z) (drop_more rs i d here)
      ∙ append_assoc (framed r) (flat_map framed (drop (i + 1) rs)) Z in
      ap (λ k. decoded (drop k bs)) (h.places i (omega arith))
      ∙ ap (λ xs. decoded (drop (length (flat_map framed (take i rs))) xs)) (split i)
      ∙ ap decoded (drop_at (flat_map framed (take i rs)) (flat_map framed (drop i rs) ++ Z) (length (flat_map framed (take i rs))) refl ∙ behind)
      ∙ read_back r (flat_map framed (drop (i + 1) rs) ++ Z) (h.typed i d here)

  -- where there is room for a record more, its frame fits
  module _ (room : length rs < min (length bs / 53) 4096) (x : Record) where
    pub fits : get_or ends n 0 + size x ≤ length bs
    fits = omega (arith, last, h.number, joined_short rs h.typed, long_bounds x.content)

    pub low : get_or ends n 0 + size x < 2 ^ 32
    low = omega (arith, last, h.number, joined_short rs h.typed, long_bounds x.content)

  -- the bytes are split behind the last frame
  front : take (get_or ends n 0) bs ≡ flat_map framed rs
  front = ap (take (get_or ends n 0)) h.frames ∙ take_at (flat_map framed rs) (replicate (length bs - length (flat_map framed rs)) 0) (get_or ends n 0) (sym last)

  rest : drop (get_or ends n 0) bs ≡ replicate (length bs - length (flat_map framed rs)) 0
  rest = ap (drop (get_or ends n 0)) h.frames ∙ drop_at (flat_map framed rs) (replicate (length bs - length (flat_map framed rs)) 0) (get_or ends n 0) (sym last)

  -- one frame written behind the others
  module _ (out : List ℕ) (end : ℕ) (x : Record) (typed : Typed x) (wrote : Wrote bs (get_or ends n 0) (framed x) out end) where
    pub stop : end ≡ get_or ends n 0 + size x
    stop = wrote.stop ∙ ap (λ k. get_or ends n 0 + k) (length_framed x typed)

    end_after : end ≡ length (flat_map framed (rs ++ x ∷ []))
    end_after = omega (arith, wrote.stop, last, length-append (flat_map framed rs) (framed x), ap length (flat_map_more framed [] rs x))

    front_after : take end out ≡ flat_map framed (rs ++ x ∷ [])
    front_after = wrote.front ∙ ap (λ ys. ys ++ framed x) front ∙ flat_map_more framed [] rs x

    left : length out ≡ length bs → (length bs - length (flat_map framed rs)) - length (framed x) ≡ length out - length (flat_map framed (rs ++ x ∷ []))
    left same_length = omega (arith, wrote.stop, last, end_after)

    rest_after : length out ≡ length bs → drop end out ≡ replicate (length out - length (flat_map framed (rs ++ x ∷ []))) 0
    rest_after same_length =
        wrote.back
        ∙ ap (λ k. drop k bs) wrote.stop
        ∙ sym (drop-drop (length (framed x)) (get_or ends n 0) bs)
        ∙ ap (drop (length (framed x))) rest
        ∙ drop-replicate (length (framed x)) (length bs - length (flat_map framed rs)) 0
        ∙ ap (λ k. replicate k 0) (left same_length)

    longer : length (rs ++ x ∷ []) ≡ n + 1
    longer = length_push rs x ∙ ap (λ k. k + 1) h.number

    places_after : n + 1 < length ends → (k : ℕ) → k ≤ n + 1 → get_or (set ends (n + 1) end) k 0 ≡ length (flat_map framed (take k (rs ++ x ∷ [])))
    places_after free k l =
        ⊎_elim
        (λ below.
        let other : k ≢ n + 1 = omega arith in
        get_or-set_other ends (n + 1) k end 0 other
        ∙ h.places k (omega arith)
        ∙ ap (λ xs. length (flat_map framed xs)) (sym (take-append-le k rs (x ∷ []) (omega (arith, h.number)))))
        (λ above.
        let here : k ≡ n + 1 = omega arith in
        ap (λ m. get_or (set ends (n + 1) end) m 0) here
        ∙ get_or-set_same ends (n + 1) end 0 free
        ∙ end_after
        ∙ ap (λ xs. length (flat_map framed xs)) (sym (take_all k (rs ++ x ∷ []) (omega (arith, longer)))))
        (cases_lt k (n + 1))

    pub exact_push : n + 1 < length ends → length out ≡ length bs → Exact out (set ends (n + 1) end) (n + 1) (rs ++ x ∷ [])
    exact_push free same_length = record {
      number = longer;
      typed = All-push Typed rs x h.typed typed;
      frames =
          sym (take-append-drop end out)
          ∙ ap (λ ys. ys ++ drop end out) front_after
          ∙ ap (λ ys. flat_map framed (rs ++ x ∷ []) ++ ys) (rest_after same_length);
      places = places_after free;
    }

  -- the first k frames, with zeros behind them
  pub exact_cut : (k : ℕ) → k ≤ n → Exact (zeroed (get_or ends k 0) bs) ends k (take k rs)
  exact_cut k fewer =
      let end = get_or ends k 0 in
      let stop = h.places k fewer in
      let Z : List ℕ = replicate (length bs - length (flat_map framed rs)) 0 in
      let front : take end bs ≡ flat_map framed (take k rs) =
      ap (take end) (split k) ∙ take_at (flat_map framed (take k rs)) (flat_map framed (drop k rs) ++ Z) end (sym stop) in
      record {
        number = length-take-le k rs (omega (arith, h.number));
        typed = All-take Typed k rs h.typed;
        frames =
            ap (λ xs. xs ++ replicate (length bs - end) 0) front
            ∙ ap (λ m. flat_map framed (take k rs) ++ replicate (m - end) 0) (sym (length_zeroed end bs (inside k fewer)))
            ∙ ap (λ m. flat_map framed (take k rs) ++ replicate (length (zeroed end bs) - m) 0) stop;
        places = λ i l.
            h.places i (omega arith) ∙ ap (λ xs. length (flat_map framed xs)) (sym (take-take i k rs (omega arith)));
      }

-- any record, where a default is asked that is not read
abbrev blank : Record
blank = record { content = Line [] }

-- the frame behind i others is read as record i
pub found_there : (bs ends : List ℕ) (n : ℕ) (rs : List Record) (i : ℕ) → Exact bs ends n rs → i < length rs → decoded (drop (get_or ends i 0) bs) ≡ slice_get rs i
found_there bs ends n rs i h l = found h i blank (omega (arith, h.number)) ∙ sym (slice_get-get_or rs i blank l)

-- so there is one
pub some_there : (o : Option Record) (bs ends : List ℕ) (n : ℕ) (rs : List Record) (i : ℕ) → Exact bs ends n rs → i < length rs → o ≡ decoded (drop (get_or ends i 0) bs) → is_some o ≡ true
some_there o bs ends n rs i h l e = ap is_some (e ∙ found h i blank (omega (arith, h.number)))

-- the first k frames end within the bytes
pub place_inside : (bs ends : List ℕ) (n : ℕ) (rs : List Record) (k : ℕ) → Exact bs ends n rs → k ≤ length rs → get_or ends k 0 ≤ length bs
place_inside bs ends n rs k h l = inside h k (omega (arith, h.number))

-- the first k frames are left
pub cut_records : (bs ends out : List ℕ) (n : ℕ) (rs : List Record) (k : ℕ) → Exact bs ends n rs → k ≤ length rs → out ≡ zeroed (get_or ends k 0) bs → reading k out ≡ take k rs
cut_records bs ends out n rs k h l e = rw e (read_off (exact_cut h k (omega (arith, h.number))))

-- and nothing but them
pub cut_exact : (bs ends out : List ℕ) (n : ℕ) (rs : List Record) (k : ℕ) → Exact bs ends n rs → k ≤ length rs → out ≡ zeroed (get_or ends k 0) bs → Exact out ends k (reading k out)
cut_exact bs ends out n rs k h l e =
    rw (cut_records bs ends out n rs k h l e) (rw e (exact_cut h k (omega (arith, h.number))))

-- a frame more, as it is written where there is room for it
module _ (bs ends out : List ℕ) (n : ℕ) (rs : List Record) (x : Record) (at : ℕ) (o : Option ℕ) (h : Exact bs ends n rs) (room : length rs < min (length bs / 53) 4096) (e : at ≡ get_or ends n 0) (done : MatchOption o ((length bs < at + size x) × (out ≡ bs)) (λ end. Typed x × Wrote bs at (framed x) out end)) where
  pub push_written : is_some o ≡ true
  push_written = written _ _ _ _ _ done (omega (arith, fits h room x))

  module _ (end : ℕ) (w : o ≡ Some end) where
    typed_and_wrote : Typed x × Wrote bs (get_or ends n 0) (framed x) out end
    typed_and_wrote =
        let t = rw w at done in
        (t.0, subst (λ k. Wrote bs k (framed x) out end) e t.1)

    pub push_low : end < 2 ^ 32
    push_low = omega (arith, low h room x, stop h out end x typed_and_wrote.0 typed_and_wrote.1)

    module _ (free : n + 1 < length ends) (same : length out ≡ length bs) where
      pub push_records : reading (n + 1) out ≡ rs ++ x ∷ []
      push_records = read_off (exact_push h out end x typed_and_wrote.0 typed_and_wrote.1 free same)

      pub push_exact : Exact out (set ends (n + 1) end) (n + 1) (reading (n + 1) out)
      push_exact = rw push_records (exact_push h out end x typed_and_wrote.0 typed_and_wrote.1 free same)
