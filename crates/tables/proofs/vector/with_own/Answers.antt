use Rattle.std.proofs.Common.{sym, rules}
use Rattle.std.proofs.lemmas.List.{set_past}
use Rattle.tables.proofs.vector.with_own.Goals as goal

pub returns-else-process-lt8 : goal.returns-else-process-lt8
returns-else-process-lt8 c = sym (set_past c.args.vector c.args.process c.args.index (search rules))
