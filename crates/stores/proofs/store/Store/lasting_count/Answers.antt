use Rattle.stores.proofs.Standing.{safe_records_last}
use Rattle.stores.proofs.store.Store.lasting_count.Goals as goal

pub returns-clause-lasting : goal.returns-clause-lasting
returns-clause-lasting g c = safe_records_last _ (g.met.Self.Store.sound c.args.self.now).within

pub returns-clause-law : goal.returns-clause-law
returns-clause-law g c = safe_records_last
