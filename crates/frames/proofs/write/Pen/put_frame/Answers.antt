use Rattle.frames.proofs.Writes.{puts}
use Rattle.frames.proofs.write.Pen.put_frame.Goals as goal

pub returns-clause-puts : goal.returns-clause-puts
returns-clause-puts c = puts (puts c.put_head.ensures c.put_fields.ensures.puts) c.put_closing.ensures
