-- A restart finds what is remembered, and settles on it or stays dark.
use Rattle.std.proofs.Common.{◌≡◌, ℕ, ◌+◌, ◌<◌, ◌≤◌, Bool, true, false, cond, ltb, ◌⊎◌, List, [], ◌∷◌, ◌++◌, length, take, Ok, Err, sym, refl, ◌∙◌, subst, inl, inr, arith}
use Rattle.std.proofs.lemmas.List.{take_all}
use Rattle.std.proofs.lemmas.Bool.{cases_lt, lt-ltb, le-ltb, cond-true, cond-false}
use Rattle.programs.specs.Program.{Meaning}
use Rattle.records.specs.declared.Interval.{Interval}
use Rattle.stores.specs.Calls.{Outcome, revived, unsafe_count, room, all_safe, with_power, with_records}
use Rattle.stores.specs.Meaning as store
use Rattle.lines.specs.Built.{Given}
use Rattle.lines.specs.Intervals.{Family}
use Rattle.lines.specs.Lines.{Line, greatest_line}
use Rattle.histories.specs.Effects.{settling, woken}
use Rattle.histories.specs.Reading.{reading}
use Rattle.histories.specs.Calls.{by_store}
use Rattle.histories.specs.Rules.{restarting, tested}
use Rattle.histories.specs.Tests.{line_records}
use Rattle.histories.specs.World.{World, darkened}
use Rattle.histories.proofs.Fronts.{Front, front_length}
use Rattle.histories.proofs.Holds.{FamilyHolds, StoreHolds, Holds, Next}
use Rattle.histories.proofs.Remembered.{Kept, kept_whole}
use Rattle.histories.proofs.Settling.{Ready, next_settling}
use Rattle.histories.proofs.Steps.{not_both, next_darkened}

-- a revived store lives, all of it is safe, and it is read as was remembered
record Revived (S : Type 0) (M : Meaning) (N : ℕ) (K : Line) (F : Family) (m : store.Meaning) : Type 0 where
  alive : m.alive ≡ true
  safe : m.safe ≡ store.count m
  kept : Kept S M N F K (reading m.records)

module _ (S R : Type 0) (M : Meaning) (N : ℕ) (K : Line) where
  revive : {F : Family} (m : store.Meaning) (kept : ℕ) → kept ≤ unsafe_count m → StoreHolds S M N K F m → Revived S M N K F (revived kept m).1
  revive {F} m kept few holds = go m.alive refl
    where
      go : (b : Bool) → m.alive ≡ b → Revived S M N K F (cond {A = Outcome ℕ} b (Err 43, m) (Ok kept, all_safe (with_power (record { alive = true; fuse = m.fuse }) (with_records (take (m.safe + kept) m.records) m)))).1
      go true e = record { alive = e; safe = holds.lives e; kept = kept_whole S M N F K m.records m.safe holds.safe holds.remembered }
      go false e = record { alive = refl; safe = refl; kept = holds.remembered (m.safe + kept) (omega arith) (omega (arith, holds.safe)) }

  stored : {F : Family} (m : store.Meaning) → Revived S M N K F m → StoreHolds S M N K F m
  stored {F} m r = record {
    safe = omega (arith, r.safe);
    lives = λ a. r.safe;
    remembered = λ k a b. subst (λ rs. Kept S M N F K (reading rs)) (sym (take_all k m.records (omega (arith, r.safe)))) r.kept;
  }

  module _ {given : Given} {F : Family} (w : World) (kept : ℕ) (family : FamilyHolds S R M N given K F) (r : Revived S M N K F (revived kept w.store).1) where
    -- nothing that is remembered is passed over
    rows_are : (p : ℕ) → (woken N kept w).intervals p ≡ (reading (revived kept w.store).1.records).rows p
    rows_are p = go (cases_lt p N)
      where
        go : (p < N) ⊎ (N ≤ p) → cond (ltb p N) (take 96 ((reading (revived kept w.store).1.records).rows p)) [] ≡ (reading (revived kept w.store).1.records).rows p
        go (inl h) = cond-true (ltb p N) _ [] (lt-ltb p N h) ∙ take_all 96 _ (omega (arith, front_length _ (F p) (r.kept.fronts p), family.short p))
        go (inr h) = cond-false (ltb p N) _ [] (le-ltb p N h) ∙ sym (none ((reading (revived kept w.store).1.records).rows p) (r.kept.fronts p).1)
          where
            none : (xs : List Interval) → F p ≡ xs ++ (r.kept.fronts p).0 → xs ≡ []
            none [] e = refl
            none (x ∷ xs) e = absurd (let idle = family.idle p h in let z : ◌≡◌ {A = ℕ} 0 1 = cc in omega arith)

    ready : Ready S R M N given K F (woken N kept w) (woken N kept w).saved
    ready = record {
      family = family;
      fronts = λ p. subst (λ xs. Front xs (F p)) (sym (rows_are p)) (r.kept.fronts p);
      bounded = λ p. omega arith;
      states = λ v p u. not_both false u refl;
      lives = r.alive;
      safe = r.safe;
      kept = r.kept;
      read = λ p. sym (rows_are p) ∙ sym (take_all (length ((woken N kept w).intervals p)) ((woken N kept w).intervals p) (omega arith));
      reach = λ p h. omega arith;
    }

    next_restarting : N ≤ 8 → Next S R M N given K F (restarting M N (woken N kept w)).1
    next_restarting few = go (ltb (room (woken N kept w).store) (line_records N (woken N kept w).saved (greatest_line N (woken N kept w).intervals (woken N kept w).saved))) refl
      where
        go : (b : Bool) → ltb (room (woken N kept w).store) (line_records N (woken N kept w).saved (greatest_line N (woken N kept w).intervals (woken N kept w).saved)) ≡ b →
            Next S R M N given K F (tested ((b, by_store 18 (store.count (woken N kept w).store)) ∷ []) (darkened (woken N kept w).store (woken N kept w)) (settling M N (woken N kept w).saved (woken N kept w))).1
        go true e = next_darkened S R M N K (woken N kept w).store (woken N kept w) family (stored (revived kept w.store).1 r)
        go false e = next_settling S R M N given K F (woken N kept w) (woken N kept w).saved few ready e

  pub next_restart : {given : Given} {F : Family} (w : World) (kept : ℕ) → N ≤ 8 → Holds S R M N given K w F → kept ≤ unsafe_count w.store → Next S R M N given K F (restarting M N (woken N kept w)).1
  next_restart w kept few h allowed = next_restarting w kept h.family (revive w.store kept allowed h.stored) few
