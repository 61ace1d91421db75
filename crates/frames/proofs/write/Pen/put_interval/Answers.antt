use Rattle.frames.proofs.Writes.{puts, same_part}
use Rattle.frames.proofs.write.Pen.put_interval.Goals as goal

pub returns-clause-puts : goal.returns-clause-puts
returns-clause-puts c =
    puts (puts (puts (puts (same_part c.interval_bytes.ensures c.put.ensures) c.put_word.ensures.puts) c.put_sends.ensures.puts) c.put_output.ensures.puts) c.put-2.ensures
