-- What is safe stands, through each call and so through all of them.
use Rattle.std.proofs.Common.{◌≤◌, List, [], ◌∷◌, take, sym, refl, ap, ◌∙◌, arith}
use Rattle.std.proofs.lemmas.Grind.{common_steps}
use Rattle.std.proofs.lemmas.List.{take-take}
use Rattle.stores.specs.Laws.{Call, append, sync, arm, revive, after, after_all, Stands, SafeRecordsLast}
use Rattle.stores.specs.Meaning.{Meaning, count}

one_stands : (c : Call) (m : Meaning) → m.safe ≤ count m → Stands m (after c m)
one_stands (append x) m h = grind (arith, common_steps)
one_stands sync m h = grind (arith, common_steps)
one_stands (arm k) m h = grind (arith, common_steps)
one_stands (revive kept) m h = grind (arith, common_steps)

both : (a b c : Meaning) → Stands a b → Stands b c → Stands a c
both a b c p q = record {
  records =
      sym (take-take a.safe b.safe c.records p.safe)
      ∙ ap (take a.safe) q.records
      ∙ take-take a.safe b.safe b.records p.safe
      ∙ p.records;
  safe = omega arith;
  within = q.within;
}

all_stand : (calls : List Call) (m : Meaning) → m.safe ≤ count m → Stands m (after_all calls m)
all_stand [] m h = record { records = refl; safe = omega arith; within = h }
all_stand (c ∷ cs) m h =
    let one = one_stands c m h in both m (after c m) _ one (all_stand cs (after c m) one.within)

pub safe_records_last : SafeRecordsLast
safe_records_last m h calls = all_stand calls m h
