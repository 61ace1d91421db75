use Rattle.frames.proofs.Writes.{puts}
use Rattle.frames.proofs.write.Pen.put_output.Goals as goal

pub returns-in-Some-clause-puts : goal.returns-in-Some-clause-puts
returns-in-Some-clause-puts c = rw c.in-Some.is (puts c.put-in-Some.ensures c.put_word.ensures.puts)
