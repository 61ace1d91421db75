-- What a store means by its parts.
use Rattle.std.specs.Prelude.{ℕ, true, [], None}
use Rattle.stores.specs.Meaning.{Meaning}
use Rattle.stores.specs.declared.medium.Medium.{Ghosts}
use Rattle.stores.specs.declared.record_store.RecordStore.{RecordStore}

-- a store as it is made, with so much room: empty, alive and with no fuse
abbrev pub empty : ℕ → Meaning
empty n = record { records = []; capacity = n; safe = 0; alive = true; fuse = None }

abbrev pub means : {M : Type 0} {G : Ghosts M} → RecordStore M G → Meaning
means {M} {G} s = record {
  records = G.records s.medium;
  capacity = G.capacity s.medium;
  safe = s.safe;
  alive = s.power.alive;
  fuse = s.power.fuse;
}
