-- What a write leaves of a living store with room: all of it, safe, or a first part of it and a dead store.
use Rattle.std.proofs.Common.{◌≡◌, ℕ, suc, ◌+◌, ◌-◌, ◌<◌, ◌≤◌, Bool, true, false, cond, eqb, leb, List, [], ◌∷◌, ◌++◌, length, take, Some, None, Ok, Err, Option, sym, refl, ap, ◌∙◌, subst, arith}
use Rattle.std.proofs.lemmas.List.{append-nil, append_assoc, length_push}
use Rattle.std.proofs.lemmas.Bool.{lt-leb}
use Rattle.records.specs.declared.Record.{Record}
use Rattle.stores.specs.Calls.{Outcome, appended, synced, powered, changed, spent, all_safe, with_records}
use Rattle.stores.specs.Meaning.{Meaning, count}
use Rattle.histories.specs.Effects.{then, written}

pub data Wrote (rs : List Record) (m : Meaning) : Outcome (Unit {0}) → Type 0 where
  done : (n : Meaning) → n.records ≡ m.records ++ rs → n.safe ≡ length n.records → n.alive ≡ true → Wrote rs m (Ok tt, n)
  died : (e : ℕ) (n : Meaning) (j : ℕ) → j ≤ length rs → n.records ≡ m.records ++ take j rs → n.safe ≡ m.safe → n.alive ≡ false → Wrote rs m (Err e, n)

syncs : (m : Meaning) → m.alive ≡ true → Wrote [] m (synced m)
syncs m alive = subst (λ b. Wrote [] m (cond b (powered all_safe m) (Err 40, m))) (sym alive) (go m.fuse)
  where
    burn : (k : ℕ) (b : Bool) → Wrote [] m (changed all_safe m (cond b (Err 40, record { alive = false; fuse = None }) (Ok tt, record { alive = m.alive; fuse = Some (k - 1) })))
    burn k true = died 40 _ 0 (omega arith) (sym (append-nil m.records)) refl refl
    burn k false = done _ (sym (append-nil m.records)) refl alive

    go : (f : Option ℕ) → Wrote [] m (changed all_safe m (spent m.alive f))
    go None = done _ (sym (append-nil m.records)) refl alive
    go (Some k) = burn k (eqb k 0)

abbrev adding : Record → Meaning → Meaning
adding r n = with_records (n.records ++ (r ∷ [])) n

-- one append, and what is written after it
appends : (r : Record) (rs : List Record) (m : Meaning) → m.alive ≡ true → count m < m.capacity →
    ((n : Meaning) → n.records ≡ m.records ++ (r ∷ []) → n.safe ≡ m.safe → n.alive ≡ true → n.capacity ≡ m.capacity → Wrote rs n (written rs n)) →
    Wrote (r ∷ rs) m (then (appended r m) (written rs))
appends r rs m alive room next =
    subst (λ b. Wrote (r ∷ rs) m (then (cond b (cond (leb m.capacity (count m)) (Err 41, m) (powered (adding r) m)) (Err 40, m)) (written rs))) (sym alive)
    (subst (λ b. Wrote (r ∷ rs) m (then (cond b (Err 41, m) (powered (adding r) m)) (written rs))) (sym (lt-leb m.capacity (count m) room)) (go m.fuse))
  where
    more : (n : Meaning) → n.records ≡ m.records ++ (r ∷ []) → n.safe ≡ m.safe → {o : Outcome (Unit {0})} → Wrote rs n o → Wrote (r ∷ rs) m o
    more n e s (done k f safe lives) = done k (f ∙ ap (λ xs. xs ++ rs) e ∙ append_assoc m.records (r ∷ []) rs) safe lives
    more n e s (died x k j l f safe dead) = died x k (suc j) (omega arith) (f ∙ ap (λ xs. xs ++ take j rs) e ∙ append_assoc m.records (r ∷ []) (take j rs)) (safe ∙ s) dead

    burn : (k : ℕ) (b : Bool) → Wrote (r ∷ rs) m (then (changed (adding r) m (cond b (Err 40, record { alive = false; fuse = None }) (Ok tt, record { alive = m.alive; fuse = Some (k - 1) }))) (written rs))
    burn k true = died 40 _ 0 (omega arith) (sym (append-nil m.records)) refl refl
    burn k false = more _ refl refl (next _ refl refl alive refl)

    go : (f : Option ℕ) → Wrote (r ∷ rs) m (then (changed (adding r) m (spent m.alive f)) (written rs))
    go None = more _ refl refl (next _ refl refl alive refl)
    go (Some k) = burn k (eqb k 0)

pub wrote : (rs : List Record) (m : Meaning) → m.alive ≡ true → count m + length rs ≤ m.capacity → Wrote rs m (written rs m)
wrote [] m alive room = syncs m alive
wrote (r ∷ rs) m alive room =
    appends r rs m alive (omega arith) (λ n e s lives c. wrote rs n lives (omega (arith, c, ap length e, length_push m.records r)))
