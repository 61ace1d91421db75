use Rattle.frames.proofs.Writes.{puts}
use Rattle.frames.proofs.write.Pen.put_send.Goals as goal

pub returns-clause-puts : goal.returns-clause-puts
returns-clause-puts c = puts c.put.ensures c.put_word.ensures.puts
