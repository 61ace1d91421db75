use Rattle.frames.proofs.Writes.{puts}
use Rattle.frames.proofs.write.Pen.put_sends.Goals as goal

pub returns-in-One-clause-puts : goal.returns-in-One-clause-puts
returns-in-One-clause-puts c = rw c.in-One.is (puts (puts c.put-in-One.ensures c.put_send.ensures.puts) c.put-in-One-2.ensures)

pub returns-in-Two-clause-puts : goal.returns-in-Two-clause-puts
returns-in-Two-clause-puts c = rw c.in-Two.is (puts (puts c.put-in-Two.ensures c.put_send-in-Two.ensures.puts) c.put_send-in-Two-2.ensures.puts)
